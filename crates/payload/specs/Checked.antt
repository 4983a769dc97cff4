-- Inside the code's contracts alone: nobody needs to believe this page.
-- What a check of the paper's order lets through: a refusal's number, or one number.
--   checked         the code's form of it
--   format_checked  the same, where the number is a format's
use Rattle.std.specs.Prelude.{ℕ, Result, Ok, Err}
use Rattle.paper.specs.declared.Refusal.{Refusal}
use Rattle.paper.specs.Refusal.{number_of}
use Rattle.dictionary.specs.declared.formats.Format.{Format}
use Rattle.dictionary.specs.Formats.{form_number}

pub data Checked : Type 0 where
  Refused : ℕ → Checked
  Good : ℕ → Checked

abbrev pub checked : Result ℕ Refusal → Checked
checked (Err k) = Refused (number_of k)
checked (Ok n) = Good n

abbrev pub format_checked : Result Format Refusal → Checked
format_checked (Err k) = Refused (number_of k)
format_checked (Ok f) = Good (form_number f)
