-- Reading bytes: what each turn of a loop and each return of `little_at`, `number_at`, `number_value` and `integer_at` has to show.
-- Assumes nothing.
use mathlib.Core.Path.{◌≡◌, refl, sym, ap, ◌∙◌}
use mathlib.Core.List.{List, [], ◌∷◌}
use mathlib.Core.Bool.{Bool, true, false}
use mathlib.Core.Logic.{◌⊎◌, inl, inr}
use Prim.Native.Nat.{ℕ, suc, ◌+◌, ◌-◌, ◌*◌, ◌^◌, ◌<◌, ◌≤◌}
use native.Mathlib.Omega.{arith}
use native.Mathlib.Nat.{pow-le-pow_right}
use native.Mathlib.Numerals.{add-one}
use lib.ListN.{length, get_or, take}
use lib.Seq.{slice, slice_empty, slice-cons, length-slice, get_or-drop, get_or-take}
use lib.Dec.{ltb, leb}
use borrow.Author.Tests.{lt-ltb, le-ltb, lt-leb, le-leb}
use mir.Syntax.{w8}
use mir.Val.{Fits}
use Rattle.paper.specs.Limits.{integer_least, integer_most, number_least, number_most}
use Rattle.paper.specs.Refusals.{past_end, width_wrong}
use Rattle.numbers.specs.declared.Integer.{Integer}
use Rattle.numbers.specs.declared.Integer.TheVariants.{Plus, Minus}
use Rattle.numbers.specs.Bytes.{byte, little}
use Rattle.numbers.specs.Number.{Refused, Value, number_at}
use Rattle.numbers.specs.Integer.{flip, integer_of}
use Rattle.numbers.specs.Met.{Widened, turned, turned_byte, Summed, NumberMet, Standing, Taken, IntegerMet}
use Rattle.numbers.proofs.Places.{bytes-known, bytes-slice}
use Rattle.numbers.proofs.Integers.{says-plus, says-minus, says-held}

-- bytes summed from the highest down to place i
pub record Summing (s : List ℕ) (p e : ℕ) (m : Bool) (i n : ℕ) : Type 0 where
  pub after : p ≤ i
  pub within : i ≤ e
  pub sum : Summed s i e m n

turned_cons : (m : Bool) (x : ℕ) (v : List ℕ) → turned m (x ∷ v) ≡ turned_byte m x ∷ turned m v
unfolding flip
turned_cons false x v = refl
turned_cons true x v = refl

turned_none : (m : Bool) → turned m [] ≡ []
unfolding flip
turned_none false = refl
turned_none true = refl

powers : (i j : ℕ) → i ≤ j → 256 ^ i ≤ 256 ^ j
powers i j h = let z : 0 < 256 = omega arith in pow-le-pow_right z h

module _ (s : List ℕ) (p e : ℕ) (m : Bool) where
  pub sum-start : p ≤ e → Summing s p e m e 0
  unfolding little
  sum-start h =
      let f : e - e ≡ 0 = omega arith in
      record {
        after = h;
        within = omega arith;
        sum = record { same = sym (ap (λ (v : List ℕ). little (turned m v)) (slice_empty e s) ∙ ap little (turned_none m)); small = rw f (omega arith) };
      }

  few-left : (i n : ℕ) → Summing s p e m i n → p < i → e ≤ p + 8 → n < 256 ^ 7
  few-left i n t h g = omega (arith, t.sum.small, powers (e - i) 7 (omega (arith, t.within)))

  pub sum_mul : (i n : ℕ) → Summing s p e m i n → p < i → e ≤ p + 8 → n * 256 < 2 ^ 64
  sum_mul i n t h g = omega (arith, few-left i n t h g)

  pub sum-add : (i n b x : ℕ) → Summing s p e m i n → p < i → e ≤ p + 8 → Widened x b → n * 256 + b < 2 ^ 64
  sum-add i n b x t h g w = omega (arith, few-left i n t h g, w.small)

  pub sum-next : (i n b : ℕ) → Summing s p e m i n → p < i → e ≤ length s → Widened (turned_byte m (byte s (i - 1))) b → Summing s p e m (i - 1) (n * 256 + b)
  unfolding little
  sum-next i n b t h g w =
      let j : suc (i - 1) ≡ i = omega arith in
      let c : slice (i - 1) e s ≡ byte s (i - 1) ∷ slice i e s = slice-cons (i - 1) e s 0 (omega (arith, t.within)) g ∙ ap (λ (k : ℕ). byte s (i - 1) ∷ slice k e s) j in
      let d : little (turned m (slice (i - 1) e s)) ≡ turned_byte m (byte s (i - 1)) + 256 * little (turned m (slice i e s)) = ap (λ (v : List ℕ). little (turned m v)) c ∙ ap little (turned_cons m (byte s (i - 1)) (slice i e s)) in
      let k : e - (i - 1) ≡ suc (e - i) = omega (arith, t.within) in
      let q : n * 256 + b < 256 ^ suc (e - i) = omega (arith, t.sum.small, w.small) in
      record {
        after = omega arith;
        within = omega (arith, t.within);
        sum = record { same = omega (arith, t.sum.same, w.same); small = rw k q };
      }

  pub sum_done : (i n : ℕ) → Summing s p e m i n → i ≤ p → Summed s p e m n
  sum_done i n t h =
      let j : i ≡ p = omega (arith, t.after) in
      rw j at t.sum

pub ruleset sum_rules = (sum-start, sum_mul, sum-add, sum-next, sum_done)

-- the number of one byte
one_value : (s : List ℕ) (p : ℕ) → p + 1 ≤ length s → little (slice p (p + 1) s) ≡ byte s p
unfolding little
one_value s p h =
    let c : slice p (p + 1) s ≡ byte s p ∷ [] = slice-cons p (p + 1) s 0 (omega arith) h ∙ ap (λ (i : ℕ). byte s p ∷ slice i (p + 1) s) (sym (add-one p)) ∙ ap (λ (r : List ℕ). byte s p ∷ r) (slice_empty (p + 1) s) in
    ap little c ∙ omega arith

-- what stands where a number is due, by the tests in their order
module _ (s : List ℕ) (p e : ℕ) where
  pub found_none : e ≤ p → NumberMet s p e (Refused past_end)
  unfolding number_at
  found_none h = record { same = sym (rw (le-leb e p h)); met = tt }

  module _ (n : ℕ) (h : p < e) (w : n ≡ byte s p) where
    here : leb e p ≡ false
    here = lt-leb e p h

    found-narrow : n < number_least → NumberMet s p e (Refused width_wrong)
    unfolding number_at
    found-narrow g =
        let a : ltb (byte s p) number_least ≡ true = lt-ltb (byte s p) number_least (omega arith) in
        record { same = sym (rw (here, a)); met = tt }

    found-wide : number_most < n → NumberMet s p e (Refused width_wrong)
    unfolding number_at
    found-wide g =
        let a : ltb (byte s p) number_least ≡ false = le-ltb (byte s p) number_least (omega arith) in
        let b : ltb number_most (byte s p) ≡ true = lt-ltb number_most (byte s p) (omega arith) in
        record { same = sym (rw (here, a, b)); met = tt }

    pub found-off : (n < number_least) ⊎ ((number_least ≤ n) × (number_most < n)) → NumberMet s p e (Refused width_wrong)
    found-off (inl g) = found-narrow g
    found-off (inr g) = found-wide g.1

    pub found_cut : number_least ≤ n → n ≤ number_most → e - (p + 1) < n → NumberMet s p e (Refused past_end)
    unfolding number_at
    found_cut l m g =
        let a : ltb (byte s p) number_least ≡ false = le-ltb (byte s p) number_least (omega arith) in
        let b : ltb number_most (byte s p) ≡ false = le-ltb number_most (byte s p) (omega arith) in
        let c : ltb (e - (p + 1)) (byte s p) ≡ true = lt-ltb (e - (p + 1)) (byte s p) (omega arith) in
        record { same = sym (rw (here, a, b, c)); met = tt }

    pub found_standing : number_least ≤ n → n ≤ number_most → n ≤ e - (p + 1) → e ≤ length s → Standing s p
    found_standing l m g k = record { least = omega arith; most = omega arith; within = omega arith }

    pub found-value : (v : ℕ) → number_least ≤ n → n ≤ number_most → n ≤ e - (p + 1) → Taken s p v → NumberMet s p e (Value v n)
    unfolding number_at
    found-value v l m g t =
        let a : ltb (byte s p) number_least ≡ false = le-ltb (byte s p) number_least (omega arith) in
        let b : ltb number_most (byte s p) ≡ false = le-ltb number_most (byte s p) (omega arith) in
        let c : ltb (e - (p + 1)) (byte s p) ≡ false = le-ltb (e - (p + 1)) (byte s p) (omega arith) in
        record {
          same = sym (rw (here, a, b, c) (rw (t.same, w) refl));
          met = record { small = t.small; least = l; most = m; within = omega arith };
        }

pub ruleset found_rules = (found_none, found-off, found_cut, found_standing, found-value)

-- the value of a number that is known to be well formed
module _ (s : List ℕ) (p n v : ℕ) (h : Standing s p) (w : n ≡ byte s p) where
  pub taken-one : n ≡ 1 → Widened (byte s (p + 1)) v → Taken s p v
  taken-one l t =
      let e : byte s p ≡ 1 = omega arith in
      record { same = rw e (t.same ∙ sym (one_value s (p + 1) (omega (arith, h.within)))); small = omega (arith, t.small) }

  pub taken_more : Summed s (p + 1) (p + 1 + n) false v → Taken s p v
  taken_more t =
      let f : p + 1 + n - (p + 1) ≡ n = omega arith in
      let z : v < 256 ^ n = rw f at t.small in
      record { same = rw (← w) t.same; small = omega (arith, z, powers n 4 (omega (arith, h.most))) }

pub ruleset taken_rules = (taken-one, taken_more)

-- the highest byte of a part
slice-top : (s : List ℕ) (p e : ℕ) → p + 1 ≤ e → e ≤ length s → byte (slice p e s) (length (slice p e s) - 1) ≡ byte s (e - 1)
slice-top s p e h g =
    let i : p + (e - p - 1) ≡ e - 1 = omega arith in
    ap (λ (k : ℕ). byte (slice p e s) (k - 1)) (length-slice p e s g)
    ∙ get_or-drop p (take e s) (e - p - 1) 0
    ∙ ap (byte (take e s)) i
    ∙ get_or-take e s (e - 1) 0 (omega arith)

module _ (s : List ℕ) (p e n : ℕ) (k : (i : ℕ) → Fits w8 (get_or s i 0)) (h : p + integer_least ≤ e) (l : e ≤ p + integer_most) (g : e ≤ length s) where
  met : (r : Integer) → r ≡ integer_of (slice p e s) → IntegerMet (slice p e s) r
  met r f =
      let z = length-slice p e s g in
      record { same = f; held = rw f (says-held (slice p e s) (bytes-slice s p e (bytes-known s k)) (omega arith) (omega arith)) }

  pub at-plus : byte s (e - 1) < 128 → Summed s p e false n → IntegerMet (slice p e s) (Plus n)
  at-plus b t = met (Plus n) (ap Plus t.same ∙ sym (says-plus (slice p e s) (omega (arith, slice-top s p e h g))))

  pub at-minus : 128 ≤ byte s (e - 1) → Summed s p e true n → IntegerMet (slice p e s) (Minus n)
  at-minus b t = met (Minus n) (ap Minus t.same ∙ sym (says-minus (slice p e s) (omega (arith, slice-top s p e h g))))

pub ruleset integer_rules = (at-plus, at-minus)
