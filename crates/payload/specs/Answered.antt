-- The contract of an entry, the reader's and the writer's: number, place, count and length, and every byte of the buffer, are those of an outcome. Both are equations, so it admits one outcome.
use Rattle.std.specs.Prelude.{ℕ, ◌≡◌, List}
use Rattle.paper.specs.Refusal.{Answer}
use Rattle.payload.specs.Reading.{Outcome, answer_of, contents_of}

pub record Answered (o : Outcome) (old : List ℕ) (r : Answer) (new : List ℕ) : Type 0 where
  pub answer : r ≡ answer_of o
  pub contents : new ≡ contents_of o old
