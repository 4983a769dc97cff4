-- What the reader's own answer says: number 0 exactly when the payload is readable as some text, and a number above 0 exactly when the table's line of that number holds at that place.
-- Assumes that r and new are an answer and a buffer by the reader's contract (`Answered`), and that the payload is made of bytes.
--   accepted_exactly, accepted_so   number 0: when, and with which place, count, length and buffer
--   refused_exactly, refused_so     a number above 0: when, and that count and length are 0 and the buffer stays
use Prim.Native.Nat.{ℕ}
use mathlib.Core.Path.{◌≡◌}
use mathlib.Core.Logic.{◌↔◌}
use mathlib.Core.List.{List, ◌++◌}
use native.Mathlib.Omega.{arith}
use lib.ListN.{length, drop}
use Rattle.paper.specs.Refusals.{accepted}
use Rattle.paper.specs.Refusal.{Answer}
use Rattle.numbers.specs.Bytes.{Bytes}
use Rattle.payload.specs.Reading.{result, reads}
use Rattle.payload.specs.Answered.{Answered}
use Rattle.payload.specs.Refusing.{Line, line_1, line_2, line_3, line_4, line_5, line_6, line_7, line_8, line_9, line_10, line_11, line_12, line_13, line_14}
use Rattle.payload.specs.Readable.{Readable}
use Rattle.payload.proofs.Exactly.{reads-sound, reads_complete, reads-passed}
use Rattle.payload.proofs.Given.{given}
use Rattle.payload.proofs.Saying.{zero_exactly, zero_so, above_exactly, above_so}

module _ (d s : List ℕ) (budget room : ℕ) (hb : Bytes s) where
  readable_read : (t : List ℕ) (n : ℕ) → Readable d s budget room t n → reads d s budget room ≡ result t n
  readable_read t n x = reads_complete d s budget room t n x.accepting x.in_table.least x.in_table.most x.means x.enough x.roomy.small x.roomy.few

  read_readable : (t : List ℕ) (n : ℕ) → reads d s budget room ≡ result t n → Readable d s budget room t n
  read_readable t n e =
      let m = reads-sound d s budget room t n hb e in
      let p = reads-passed d s budget room t n e in
      record { accepting = p.accepting; in_table = p.in_table; means = m.0; enough = m.1; roomy = record { small = m.2; few = m.3 } }

  -- the table has no line 0
  no_line : (w : ℕ) → Line d s budget room 0 w → ⊥
  no_line w (line_1 e f a) = omega (arith, e)
  no_line w (line_2 e f a h) = omega (arith, e)
  no_line w (line_3 e f a h g) = omega (arith, e)
  no_line w (line_4 e p y) = omega (arith, e)
  no_line w (line_5 e p y) = omega (arith, e)
  no_line w (line_6 e p y) = omega (arith, e)
  no_line w (line_7 e p y) = omega (arith, e)
  no_line w (line_8 e p y) = omega (arith, e)
  no_line w (line_9 e p y) = omega (arith, e)
  no_line w (line_10 e p y) = omega (arith, e)
  no_line w (line_11 e p y) = omega (arith, e)
  no_line w (line_12 e p y) = omega (arith, e)
  no_line w (line_13 e p h y) = omega (arith, e)
  no_line w (line_14 e f p y) = omega (arith, e)

module _ (d s : List ℕ) (budget : ℕ) (hb : Bytes s) (old : List ℕ) (r : Answer) (new : List ℕ) (h : Answered (reads d s budget (length old)) old r new) where
  promised : (t : List ℕ) (n : ℕ) → (reads d s budget (length old) ≡ result t n) ↔ Readable d s budget (length old) t n
  promised t n = (read_readable d s budget (length old) hb t n, readable_read d s budget (length old) hb t n)

  pub accepted_exactly : (r.number ≡ accepted) ↔ ((t : List ℕ) × (n : ℕ) × Readable d s budget (length old) t n)
  accepted_exactly = zero_exactly (reads d s budget (length old)) (Line d s budget (length old)) (Readable d s budget (length old)) (given d s budget (length old) hb) promised (no_line d s budget (length old) hb) old r new h

  pub accepted_so : (t : List ℕ) (n : ℕ) → Readable d s budget (length old) t n → (r ≡ record { number = accepted; place = 0; count = n; length = length t }) × (new ≡ t ++ drop (length t) old)
  accepted_so = zero_so (reads d s budget (length old)) (Line d s budget (length old)) (Readable d s budget (length old)) (given d s budget (length old) hb) promised (no_line d s budget (length old) hb) old r new h

  pub refused_exactly : (k w : ℕ) → (k ≡ 0 → ⊥) → ((r.number ≡ k) × (r.place ≡ w)) ↔ Line d s budget (length old) k w
  refused_exactly = above_exactly (reads d s budget (length old)) (Line d s budget (length old)) (Readable d s budget (length old)) (given d s budget (length old) hb) promised (no_line d s budget (length old) hb) old r new h

  pub refused_so : (k w : ℕ) → Line d s budget (length old) k w → (r ≡ record { number = k; place = w; count = 0; length = 0 }) × (new ≡ old)
  refused_so = above_so (reads d s budget (length old)) (Line d s budget (length old)) (Readable d s budget (length old)) (given d s budget (length old) hb) promised (no_line d s budget (length old) hb) old r new h
