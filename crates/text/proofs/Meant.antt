-- What the writer's own answer says: number 0 exactly when the text is writable as some payload, and a number above 0 exactly when the table's line of that number holds at that place.
-- Assumes that r and new are an answer and a buffer by the writer's contract (`Answered`).
--   accepted_exactly, accepted_so   number 0: when, and with which place, count, length and buffer
--   refused_exactly, refused_so     a number above 0: when, and that count and length are 0 and the buffer stays
use Prim.Native.Nat.{ℕ}
use mathlib.Core.Path.{◌≡◌, sym}
use mathlib.Core.Logic.{◌↔◌}
use mathlib.Core.List.{List, ◌++◌}
use mathlib.Core.Bool.{true≢false}
use lib.ListN.{length, drop}
use Rattle.paper.specs.Tests.{among}
use Rattle.paper.specs.Refusals.{accepted}
use Rattle.paper.specs.Refusal.{Answer}
use Rattle.payload.specs.Reading.{result}
use Rattle.payload.specs.Answered.{Answered}
use Rattle.payload.proofs.Saying.{zero_exactly, zero_so, above_exactly, above_so}
use Rattle.text.specs.Writing.{writes}
use Rattle.text.specs.Refusing.{Line}
use Rattle.text.specs.Writable.{Writable}
use Rattle.text.proofs.Given.{writable_written, written_writable, given, line_numbers}

module _ (d s old : List ℕ) (r : Answer) (new : List ℕ) (h : Answered (writes d s (length old)) old r new) where
  promised : (b : List ℕ) (n : ℕ) → (writes d s (length old) ≡ result b n) ↔ Writable d s (length old) b n
  promised b n = (written_writable d s (length old) b n, writable_written d s (length old) b n)

  no_line_0 : (w : ℕ) → Line d s (length old) 0 w → ⊥
  unfolding among
  no_line_0 w x = true≢false (sym (line_numbers d s (length old) 0 w x))

  pub accepted_exactly : (r.number ≡ accepted) ↔ ((b : List ℕ) × (n : ℕ) × Writable d s (length old) b n)
  accepted_exactly = zero_exactly (writes d s (length old)) (Line d s (length old)) (Writable d s (length old)) (given d s (length old)) promised no_line_0 old r new h

  pub accepted_so : (b : List ℕ) (n : ℕ) → Writable d s (length old) b n → (r ≡ record { number = accepted; place = 0; count = n; length = length b }) × (new ≡ b ++ drop (length b) old)
  accepted_so = zero_so (writes d s (length old)) (Line d s (length old)) (Writable d s (length old)) (given d s (length old)) promised no_line_0 old r new h

  pub refused_exactly : (k w : ℕ) → (k ≡ 0 → ⊥) → ((r.number ≡ k) × (r.place ≡ w)) ↔ Line d s (length old) k w
  refused_exactly = above_exactly (writes d s (length old)) (Line d s (length old)) (Writable d s (length old)) (given d s (length old)) promised no_line_0 old r new h

  pub refused_so : (k w : ℕ) → Line d s (length old) k w → (r ≡ record { number = k; place = w; count = 0; length = 0 }) × (new ≡ old)
  refused_so = above_so (writes d s (length old)) (Line d s (length old)) (Writable d s (length old)) (given d s (length old)) promised no_line_0 old r new h
