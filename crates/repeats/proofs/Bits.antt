-- Bits of a byte: a bit is read, and a bit is set and no other changes.
-- Assumes nothing.
use Prim.Native.Nat.{ℕ, ◌*◌, ◌/◌, ◌%◌, ◌^◌, ◌<◌}
use mathlib.Core.Path.{◌≡◌, refl, sym, ap, ◌∙◌}
use mathlib.Core.List.{List}
use mathlib.Core.Bool.{Bool, true, false}
use native.Mathlib.Omega.{arith}
use lib.Bits.{bit_and}
use native.Mathlib.Nat.{zero-div}
use lib.ListN.{length, set, replicate}
use lib.Seq.{get_or-set_same, get_or-set_other}
use lib.Dec.{eqb}
use mir.Syntax.{w8}
use borrow.Author.Tests.{eqb-true, eqb-false, eq-eqb}
use Rattle.std.specs.Int.{bit_at}
use Rattle.std.specs.Int.RustNames.{bit_or}
use Rattle.std.proofs.lemmas.Nat.Bits.{shr_and_one, bit_at_set_same, bit_at_set_other}
use Rattle.numbers.specs.Bytes.{byte}
use Rattle.numbers.proofs.Places.{blank}
use Rattle.repeats.specs.Roll.{rows_most, roll_bytes, marked, Blank, Gave}

module _ (bits : List ℕ) (row : ℕ) where
  pub look : eqb (bit_and (byte bits (row / 8) / 2 ^ (row % 8)) 1) 1 ≡ marked bits row
  unfolding marked
  look = ap (λ (n : ℕ). eqb n 1) (shr_and_one (byte bits (row / 8)) (row % 8))

  pub gave : (was : List ℕ) → bits ≡ was → row < rows_most → length bits ≡ roll_bytes → Gave was row (set bits (row / 8) (bit_or (byte bits (row / 8)) (1 * 2 ^ (row % 8) % 2 ^ 8)))
  unfolding marked
  gave was same within long = rw (sym same) (record { own = own; others = λ r ne. other r ne (eqb (r / 8) (row / 8)) refl })
    where
      b : ℕ
      b = bit_or (byte bits (row / 8)) (1 * 2 ^ (row % 8) % 2 ^ 8)

      here : byte (set bits (row / 8) b) (row / 8) ≡ b
      here = get_or-set_same bits (row / 8) b 0 (omega arith)

      own : eqb (bit_at (byte (set bits (row / 8) b) (row / 8)) (row % 8)) 1 ≡ true
      own = ap (λ (x : ℕ). eqb (bit_at x (row % 8)) 1) here ∙ eq-eqb _ 1 (bit_at_set_same w8 (byte bits (row / 8)) (row % 8) (omega arith))

      other : (r : ℕ) → (r ≡ row → ⊥) → (t : Bool) → eqb (r / 8) (row / 8) ≡ t → eqb (bit_at (byte (set bits (row / 8) b) (r / 8)) (r % 8)) 1 ≡ eqb (bit_at (byte bits (r / 8)) (r % 8)) 1
      other r ne true f =
          let g = eqb-true (r / 8) (row / 8) f in
          let k : r % 8 ≡ row % 8 → ⊥ = λ z. ne (omega (arith, g, z)) in
          rw g
          (ap (λ (x : ℕ). eqb (bit_at x (r % 8)) 1) here
          ∙ ap (λ (x : ℕ). eqb x 1) (bit_at_set_other w8 (byte bits (row / 8)) (row % 8) (omega arith) (r % 8) k))
      other r ne false f = ap (λ (x : ℕ). eqb (bit_at x (r % 8)) 1) (get_or-set_other bits (row / 8) (r / 8) b 0 (eqb-false (r / 8) (row / 8) f))

pub blank_bits : (n : ℕ) → Blank (replicate n 0)
unfolding marked
blank_bits n = record { none = λ r. rw (blank n (r / 8) 0, zero-div (2 ^ (r % 8))) }

pub ruleset bits_rules = (look, gave, blank_bits)
