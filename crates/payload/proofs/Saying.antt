-- What an answer and a buffer by an entry's contract say, of any outcome that a table of refusals and a promise of results settle; the reader's and the writer's are two.
-- Assumes that r and new are such an answer and buffer (`Answered`).
--   zero_exactly, zero_so     number 0: when, and with which place, count, length and buffer
--   above_exactly, above_so   a number above 0: when, and that count and length are 0 and the buffer stays
--   told-refused, told_done    the code's form of a refusal, whose count and length are 0, and of a result
--   one-outcome               two answers and buffers by one contract are the same
use Prim.Native.Nat.{ℕ}
use mathlib.Core.Path.{◌≡◌, refl, sym, ap, ◌∙◌}
use mathlib.Core.Logic.{◌↔◌}
use mathlib.Core.List.{List, ◌++◌}
use lib.ListN.{length, drop}
use Rattle.paper.specs.Refusals.{accepted}
use Rattle.std.specs.Prelude.{Ok, Err}
use Rattle.paper.specs.declared.Refused.{Refused}
use Rattle.paper.specs.declared.Done.{Done}
use Rattle.paper.specs.Refusal.{Answer, told}
use Rattle.paper.specs.Refusal as table
use Rattle.payload.specs.Reading.{Outcome, refusal, result, answer_of}
use Rattle.payload.specs.Answered.{Answered}

-- "A refusal changes nothing lent; its count and length are 0."
pub told-refused : (k : Refused) → told (Err k) ≡ answer_of (refusal (table.number_of k.refusal) k.place)
told-refused k = refl

pub told_done : (a : Done) (t : List ℕ) → a.length ≡ length t → told (Ok a) ≡ answer_of (result t a.count)
told_done a t e = ap (λ (n : ℕ). record { number = accepted; place = 0; count = a.count; length = n }) e

pub one-outcome : (o : Outcome) (old : List ℕ) (r r₂ : Answer) (new new₂ : List ℕ) → Answered o old r new → Answered o old r₂ new₂ → (r ≡ r₂) × (new ≡ new₂)
one-outcome o old r r₂ new new₂ a b = (a.answer ∙ sym b.answer, a.contents ∙ sym b.contents)

-- an outcome that is refused by a table, which has no line 0, and has its result by a promise
module _ (o : Outcome) (Table : ℕ → ℕ → Type 0) (Right : List ℕ → ℕ → Type 0) (table : (k w : ℕ) → (o ≡ refusal k w) ↔ Table k w) (promise : (b : List ℕ) (n : ℕ) → (o ≡ result b n) ↔ Right b n) (no_line : (w : ℕ) → Table 0 w → ⊥) (old : List ℕ) (r : Answer) (new : List ℕ) (h : Answered o old r new) where
  answered_as : (o' : Outcome) → o ≡ o' → Answered o' old r new
  answered_as o' e = rw e at h

  number_of : (o' : Outcome) → o ≡ o' → r.number ≡ (answer_of o').number
  number_of o' e = ap (λ (x : Answer). x.number) (answered_as o' e).answer

  place_of : (o' : Outcome) → o ≡ o' → r.place ≡ (answer_of o').place
  place_of o' e = ap (λ (x : Answer). x.place) (answered_as o' e).answer

  pub zero_exactly : (r.number ≡ accepted) ↔ ((b : List ℕ) × (n : ℕ) × Right b n)
  zero_exactly = (λ e. go e o refl, λ x. number_of (result x.0 x.1) ((promise x.0 x.1).1 x.2))
    where
      go : r.number ≡ accepted → (o' : Outcome) → o ≡ o' → (b : List ℕ) × (n : ℕ) × Right b n
      go e (refusal k w) f = let z : k ≡ 0 = sym (number_of (refusal k w) f) ∙ e in absurd (no_line w (rw z at ((table k w).0 f)))
      go e (result b n) f = (b, n, (promise b n).0 f)

  pub zero_so : (b : List ℕ) (n : ℕ) → Right b n → (r ≡ record { number = accepted; place = 0; count = n; length = length b }) × (new ≡ b ++ drop (length b) old)
  zero_so b n x = let a = answered_as (result b n) ((promise b n).1 x) in (a.answer, a.contents)

  pub above_exactly : (k w : ℕ) → (k ≡ 0 → ⊥) → ((r.number ≡ k) × (r.place ≡ w)) ↔ Table k w
  above_exactly k w z = (λ e. go e o refl, λ x. (number_of (refusal k w) ((table k w).1 x), place_of (refusal k w) ((table k w).1 x)))
    where
      go : (r.number ≡ k) × (r.place ≡ w) → (o' : Outcome) → o ≡ o' → Table k w
      go e (refusal j v) f =
          let i : j ≡ k = sym (number_of (refusal j v) f) ∙ e.0 in
          let l : v ≡ w = sym (place_of (refusal j v) f) ∙ e.1 in
          rw (i, l) at ((table j v).0 f)
      go e (result b n) f = absurd (z (sym e.0 ∙ number_of (result b n) f))

  pub above_so : (k w : ℕ) → Table k w → (r ≡ record { number = k; place = w; count = 0; length = 0 }) × (new ≡ old)
  above_so k w x = let a = answered_as (refusal k w) ((table k w).1 x) in (a.answer, a.contents)
