-- Inside the code's contracts alone: nobody needs to believe this page.
-- What the functions of scalars answer.
--   word_for              the code's answer for what a value is: the refusal's number, or the length of its text
--   WordMet, AnyWordMet  the contracts: at a row; at any row of any dictionary
use Rattle.std.specs.Prelude.{ℕ, ◌+◌, ◌≤◌, ◌≡◌, List, length}
use Rattle.payload.specs.Checked.{Checked, Refused, Good}
use Rattle.payload.specs.Text.{word}
use Rattle.payload.specs.Values.{Valued, wrong, worth}

abbrev pub word_for : List ℕ → ℕ → Valued → Checked
word_for d row (wrong k) = Refused k
word_for d row (worth x) = Good (length (word d row x))

abbrev pub WordShort : ℕ → Checked → Type 0
WordShort long (Refused k) = Unit {0}
WordShort long (Good n) = n ≤ 256 + long

-- of a value of so many bytes
pub record WordMet (d : List ℕ) (row long : ℕ) (v : Valued) (r : Checked) : Type 0 where
  pub same : r ≡ word_for d row v
  pub short : WordShort long r

-- the text of these is the same at any row
pub record AnyWordMet (long : ℕ) (v : Valued) (r : Checked) : Type 0 where
  pub at_row : (d : List ℕ) (row : ℕ) → WordMet d row long v r
