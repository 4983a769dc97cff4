-- What a caller in C gets. Of a reader's or writer's outcome the number is what the function answers; place, count and length are laid into a row of
-- numbers that he lends, refused or accepted, as far as it has room; the lent buffer is as the outcome leaves it.
--   checked d    the number for a dictionary alone
--   version      of the library, 65,536 · major + 256 · minor + patch
--   Exported     what the reader's and the writer's entry answer and leave
use Rattle.std.specs.Prelude.{ℕ, ◌+◌, ◌*◌, ◌≡◌, List, [], ◌∷◌, cond}
use Rattle.paper.specs.Refusal.{Answer}
use Rattle.paper.specs.Lending.{laid}
use Rattle.paper.specs.Refusals.{accepted, dictionary_wrong}
use Rattle.dictionary.specs.Accepts.{accepts}
use Rattle.payload.specs.Reading.{Outcome, answer_of, contents_of}

-- "1: dictionary not accepted (tested first)"
abbrev pub checked : List ℕ → ℕ
checked d = cond (accepts d) accepted dictionary_wrong

abbrev pub version : ℕ
version = 65536 * 0 + 256 * 2 + 0

abbrev pub values : Answer → List ℕ
values a = a.place ∷ a.count ∷ a.length ∷ []

pub record Exported (o : Outcome) (old row : List ℕ) (r : ℕ) (new row' : List ℕ) : Type 0 where
  pub number : r ≡ (answer_of o).number
  pub told : row' ≡ laid (values (answer_of o)) row
  pub contents : new ≡ contents_of o old

-- the answer a, told
pub record Told (a : Answer) (row : List ℕ) (r : ℕ) (row' : List ℕ) : Type 0 where
  pub number : r ≡ a.number
  pub values : row' ≡ laid (values a) row
