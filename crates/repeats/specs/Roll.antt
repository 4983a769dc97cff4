-- Inside the code's contracts alone: nobody needs to believe this page.
-- A roll: one bit for each row of a dictionary.
--   roll_bytes           how many bytes have a bit for each of the most rows (rows_most, from the dictionary)
--   marked bits r       the bit of row r is 1
--   Blank bits          no bit is 1
--   Gave bits r bits'   the bit of row r is 1 in bits', and all else is as in bits
--   Roll d row seen bits  the bits of a set's children say which of their numbers are among those seen
--   Kept d row seen bits  the same of any row: an array's children are not kept
use Rattle.std.specs.Prelude.{ℕ, ◌/◌, ◌%◌, ◌^◌, ◌≡◌, List, Bool, true, false, eqb, Some}
use Rattle.paper.specs.Tests.{among}
use Rattle.numbers.specs.Bytes.{byte}
use Rattle.dictionary.specs.Formats.{set_form}
use Rattle.dictionary.specs.Rows.{kind}
pub use Rattle.dictionary.specs.Rows.{rows_most}
use Rattle.dictionary.specs.Children.{child_numbered}

-- eight rows a byte, and none left over
abbrev pub roll_bytes : ℕ
roll_bytes = rows_most / 8

unfoldable pub marked : List ℕ → ℕ → Bool
marked bits r = eqb (byte bits (r / 8) / 2 ^ (r % 8) % 2) 1

pub record Blank (bits : List ℕ) : Type 0 where
  pub none : (r : ℕ) → marked bits r ≡ false

pub record Gave (bits : List ℕ) (row : ℕ) (bits' : List ℕ) : Type 0 where
  pub own : marked bits' row ≡ true
  pub others : (r : ℕ) → (r ≡ row → ⊥) → marked bits' r ≡ marked bits r

pub record Roll (d : List ℕ) (row : ℕ) (seen bits : List ℕ) : Type 0 where
  pub told : (n c : ℕ) → child_numbered d row n ≡ Some c → marked bits c ≡ among n seen

pub record Kept (d : List ℕ) (row : ℕ) (seen bits : List ℕ) : Type 0 where
  pub of_set : kind d row ≡ set_form → Roll d row seen bits
