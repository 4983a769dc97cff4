-- Inside the code's contracts alone: nobody needs to believe this page.
-- What the contracts say of their answers, and what a caller has to know before it asks. Each is one record.
use Rattle.std.specs.Prelude.{ℕ, ◌≤◌, ◌<◌, ◌≡◌, List, true, length}
use Rattle.paper.specs.Limits.{dictionary_most}
use Rattle.paper.specs.Tests.{all}
use Rattle.dictionary.specs.Rows.{row_at, entries, name}
use Rattle.dictionary.specs.Accepts.{name_fine}

-- a field's value, below a bound
pub record Field (x bound r : ℕ) : Type 0 where
  pub same : r ≡ x
  pub below : r < bound

-- the entries of d lie inside, and are no more than the table's limit leaves room for
pub record Rowed (d : List ℕ) (n : ℕ) : Type 0 where
  pub counted : n ≡ entries d
  pub inside : row_at n ≤ length d
  pub few : length d ≤ dictionary_most

-- the same, and every row's name is fine
pub record Named (d : List ℕ) (n : ℕ) : Type 0 where
  pub rowed : Rowed d n
  pub names : all n (name_fine d) ≡ true

-- how long a row's name is: its length is one byte, its closing 00 included
pub record NameMet (d : List ℕ) (row r : ℕ) : Type 0 where
  pub same : r ≡ length (name d row)
  pub few : r ≤ 254
