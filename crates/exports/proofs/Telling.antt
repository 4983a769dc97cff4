-- An answer told in a lent row, and an outcome handed to a caller in C.
-- Assumes nothing.
use Rattle.std.proofs.Common.{◌≡◌, ℕ, List, ap, ◌∙◌}
use Rattle.paper.specs.Refusal.{Answer}
use Rattle.paper.specs.Lending.{laid}
use Rattle.payload.specs.Reading.{Outcome}
use Rattle.payload.specs.Answered.{Answered}
use Rattle.desk_calls.specs.Served.{Served}
use Rattle.desk_calls.specs.Met.{Lent, LentStore, LentRow}
use Rattle.exports.specs.Exported.{values, Exported, Told}

-- any outcome, the reader's or the writer's
pub handed : (o : Outcome) (old : List ℕ) (a : Answer) (new : List ℕ) → Answered o old a new → (row : List ℕ) (r : ℕ) (row' : List ℕ) → Told a row r row' → Exported o old row r new row'
handed o old a new h row r row' t =
    record {
      number = t.number ∙ ap (λ (x : Answer). x.number) h.answer;
      told = t.values ∙ ap (λ (x : Answer). laid (values x) row) h.answer;
      contents = h.contents;
    }

-- any call of the desk, by the number that it says
module _ (s : Served) (k r : ℕ) (e : k ≡ r) where
  pub handed_lent : (bs : List ℕ) → Lent s r bs → Lent s k bs
  handed_lent bs l = record { number = e ∙ l.number; desk = l.desk }

  pub handed_store : (bs st : List ℕ) → LentStore s r bs st → LentStore s k bs st
  handed_store bs st l = record { number = e ∙ l.number; desk = l.desk; store = l.store }

  pub handed_row : (row row' : List ℕ) → LentRow s row r row' → LentRow s row k row'
  handed_row row row' l = record { number = e ∙ l.number; values = l.values }
