-- Lengths: one lemma for each return.
-- Assumes nothing.
use Prim.Native.Nat.{ℕ, ◌+◌, ◌-◌, ◌*◌, ◌^◌, ◌≤◌, ◌<◌}
use mathlib.Core.Path.{◌≡◌, sym, ap, ◌∙◌}
use mathlib.Core.List.{List, [], ◌∷◌}
use mathlib.Core.Bool.{Bool}
use native.Mathlib.Omega.{arith}
use lib.ListN.{length, length-append}
use lib.Seq.{slice, length-slice}
use Rattle.numbers.specs.declared.Integer.{Integer}
use Rattle.numbers.specs.Number.{fewest, number_of}
use Rattle.numbers.specs.Integer.{Held, brief_of}
use Rattle.numbers.proofs.Numbers.{number-long, number-few}
use Rattle.payload.specs.declared.Shape.{Shape}
use Rattle.writer_tokens.specs.Met.{Spans}
use Rattle.writer_parse.specs.declared.Value.{Value}
use Rattle.writer_parse.specs.declared.Value.TheVariants.{Null, Boolean, Option, String, Empty}
use Rattle.writer_parse.specs.declared.Value.TheVariants as leaf
use Rattle.writer_parse.specs.Leaves.{Proper, bytes_for}
use Rattle.writer_sizes.specs.Plan.{tuple_long}
use Rattle.writer_sizes.specs.Met.{Long}

module _ (n w : ℕ) (h : w ≡ length (fewest 4 n)) where
  pub number_fits : w + 1 < 2 ^ 64
  number_fits = omega (arith, h, number-long n, number-few n)

  pub number-met : Long (length (number_of n)) 5 (w + 1)
  number-met = record { same = omega (arith, h, number-long n); small = omega (arith, h, number-long n, number-few n) }

pub ruleset number_lengths = (number_fits, number-met)

module _ (n v : ℕ) (h : (n < 2 ^ 31) × (v < 2 ^ 32)) where
  pub twice_fits : 2 * n < 2 ^ 64
  twice_fits = omega (arith, h.0)

  module _ (a : ℕ) (ha : Long (length (number_of (2 * n))) 5 a) where
    pub front_fits : a + 1 < 2 ^ 64
    front_fits = omega (arith, ha.small)

    module _ (b : ℕ) (hb : Long (length (number_of v)) 5 b) where
      pub size_fits : a + 1 + b < 2 ^ 64
      size_fits = omega (arith, ha.small, hb.small)

      pub whole-fits : a + 1 + b + v < 2 ^ 64
      whole-fits = omega (arith, ha.small, hb.small, h.1)

      pub tuple_met : a + 1 + b + v ≡ tuple_long n v
      unfolding tuple_long
      tuple_met = omega (arith, ha.same, hb.same)

pub ruleset tuple_lengths = (twice_fits, front_fits, size_fits, whole-fits, tuple_met)

module _ (s : List ℕ) (v : Value) (h : Proper s v) where
  shown : (u : Value) → v ≡ u → Proper s u
  shown u e = rw e at h

  pub long-null : v ≡ Null → 0 ≡ length (bytes_for s v)
  long-null e = ap (λ (u : Value). length (bytes_for s u)) (sym e)

  pub long-boolean : (b : Bool) → v ≡ Boolean b → 1 ≡ length (bytes_for s v)
  long-boolean b e = ap (λ (u : Value). length (bytes_for s u)) (sym e)

  pub held-integer : (i : Integer) → v ≡ leaf.Integer i → Held i
  held-integer i e = shown (leaf.Integer i) e

  pub long-integer : (i : Integer) (r : ℕ) → v ≡ leaf.Integer i → r ≡ length (brief_of i) → r ≡ length (bytes_for s v)
  long-integer i r e f = f ∙ ap (λ (u : Value). length (bytes_for s u)) (sym e)

  pub long-option : (m r : ℕ) → v ≡ Option m → Long (length (number_of m)) 5 r → r ≡ length (bytes_for s v)
  long-option m r e f = f.same ∙ ap (λ (u : Value). length (bytes_for s u)) (sym e)

  module _ (a b : ℕ) (e : v ≡ String a b) where
    spans : Spans s a (b + 1)
    spans = shown (String a b) e

    pub string-order : a ≤ b
    string-order = omega (arith, spans.further)

    pub string-fits : length s * 1 < 2 ^ 63 → b - a + 1 < 2 ^ 64
    string-fits l = omega (arith, spans.within)

    pub long-string : b - a + 1 ≡ length (bytes_for s v)
    long-string =
        sym (length-append (slice a b s) (0 ∷ []) ∙ omega (arith, length-slice a b s (omega (arith, spans.within))))
        ∙ ap (λ (u : Value). length (bytes_for s u)) (sym e)

  pub long-empty : (g : Shape) → v ≡ Empty g → 2 ≡ length (bytes_for s v)
  unfolding number_of fewest
  long-empty g e = ap (λ (u : Value). length (bytes_for s u)) (sym e)

pub ruleset value_lengths = (long-null, long-boolean, held-integer, long-integer, long-option, string-order, string-fits, long-string, long-empty)
