-- Text: what each turn of a loop and each return of the functions that write, measure and read decimal text has to show.
-- Assumes nothing.
use Rattle.std.specs.Prelude.{Option, Some, None}
use mathlib.Core.Path.{◌≡◌, refl, sym, ap, ◌∙◌}
use mathlib.Core.List.{List, [], ◌∷◌}
use mathlib.Core.Bool.{Bool, true, false}
use Prim.Native.Nat.{ℕ, ◌+◌, ◌-◌, ◌/◌, ◌%◌, ◌^◌, ◌<◌, ◌≤◌}
use native.Mathlib.Omega.{arith}
use native.Mathlib.Numerals.{add-one}
use lib.ListN.{length, length-append, length-take, length-drop, get_or, take, drop}
use lib.Seq.{slice, slice_empty, slice-cons, get_or-drop, get_or-take}
use lib.Dec.{leb}
use borrow.Author.Tests.{leb-true, leb-false, lt-ltb, le-ltb, eq-eqb, ne_eqb}
use Rattle.numbers.specs.declared.output.Output.{Output}
use Rattle.numbers.specs.Output.{Room, Added}
use Rattle.numbers.specs.declared.Integer.{Integer}
use Rattle.numbers.specs.declared.Integer.TheVariants.{Plus, Minus}
use Rattle.numbers.specs.Bytes.{byte}
use Rattle.numbers.specs.Decimal.{decimal, decimal_of, digits_only, plain, integral, value_from, integer_said}
use Rattle.numbers.specs.Met.{too_large, capped, next, plus_said, minus_said, digit_count}
use Rattle.numbers.specs.Met.{Wrote}
use Rattle.numbers.proofs.Writing as writing
use Rattle.numbers.proofs.Adding.{joined, as_long, renamed}
use Rattle.numbers.proofs.Putting.{held_next, counted}
use Rattle.numbers.proofs.Decimals.{decimal-one, decimal-more, decimal-few, value_up, digit_low, digit-high, only-head, only-tail, plain-only, integral-plus, integral-minus, said-plus, said-minus}

decimal-long : (n : ℕ) → 10 ≤ n → n < 2 ^ 64 → length (decimal n) ≡ length (decimal (n / 10)) + 1
decimal-long n h g = ap length (decimal-more n h (omega arith)) ∙ length-append (decimal (n / 10)) ((48 + n % 10) ∷ [])

pub decimal_counted : (n k : ℕ) → n < 2 ^ 64 → k ≡ digit_count 10 10 n → k ≡ length (decimal n)
decimal_counted n k h e =
    e ∙ counted 10 10 (omega arith) (omega arith) (λ x. length (decimal x)) (2 ^ 64) (λ x l. ap length (decimal-one x l))
    (λ x l m. decimal-long x l m ∙ add-one (length (decimal (x / 10)))) n n (omega arith) h

-- digits written
module _ (n p : ℕ) (d : List ℕ) where
  pub digit_room : n < 10 → p + length (decimal n) ≤ length d → p < length d
  digit_room h g = omega (arith, ap length (decimal-one n h))

  pub digit-done : (r : ℕ) (d' : List ℕ) → n < 10 → Wrote d p ((48 + n) ∷ []) r d' → Wrote d p (decimal n) r d'
  digit-done r d' h w = rw (decimal-one n h) w

  pub digits-room : 10 ≤ n → n < 2 ^ 64 → p + length (decimal n) ≤ length d → p + length (decimal (n / 10)) ≤ length d
  digits-room h l g = omega (arith, decimal-long n h l)

  pub digits-next-room : (r : ℕ) (d' : List ℕ) → 10 ≤ n → n < 2 ^ 64 → p + length (decimal n) ≤ length d → Wrote d p (decimal (n / 10)) r d' → r < length d'
  digits-next-room r d' h l g w = omega (arith, decimal-long n h l, w.place, writing.as_long w)

  pub digits-done : (r r' : ℕ) (d' d'' : List ℕ) → 10 ≤ n → n < 2 ^ 64 → Wrote d p (decimal (n / 10)) r d' → Wrote d' r ((48 + n % 10) ∷ []) r' d'' → Wrote d p (decimal n) r' d''
  digits-done r r' d' d'' h l v w = let step : n < 2 ^ 64 = l in rw (decimal-more n h (omega arith)) (writing.joined v w)

pub ruleset digit_rules = (digit_room, digit-done, digits-room, digits-next-room, digits-done)

-- an integer's text, by its sign
module _ (i : Integer) (n : ℕ) where
  text-plus : i ≡ Plus n → decimal_of i ≡ decimal n
  unfolding decimal_of
  text-plus e = ap decimal_of e

  text-minus : i ≡ Minus n → decimal_of i ≡ 45 ∷ decimal (n + 1)
  unfolding decimal_of
  text-minus e = ap decimal_of e

  pub plus-long : (k : ℕ) → i ≡ Plus n → k ≡ length (decimal n) → k ≡ length (decimal_of i)
  plus-long k e f = f ∙ ap length (sym (text-plus e))

  pub minus-fits : (k : ℕ) → k ≡ length (decimal (n + 1)) → k + 1 < 2 ^ 64
  minus-fits k f = omega (arith, (decimal-few (n + 1)).few)

  pub minus-long : (k : ℕ) → i ≡ Minus n → k ≡ length (decimal (n + 1)) → k + 1 ≡ length (decimal_of i)
  minus-long k e f = omega (arith, ap length (text-minus e))

  module _ (o : Output) where
    pub plus-text-room : i ≡ Plus n → Room o (decimal_of i) → Room o (decimal n)
    plus-text-room e h = omega (arith, ap length (text-plus e))

    pub plus-text : (o' : Output) → i ≡ Plus n → Added o (decimal n) o' → Added o (decimal_of i) o'
    plus-text o' e w = renamed (text-plus e) w

    pub sign-room : i ≡ Minus n → Room o (decimal_of i) → Room o (45 ∷ [])
    sign-room e h = omega (arith, ap length (text-minus e))

    module _ (o' : Output) (e : i ≡ Minus n) (v : Added o (45 ∷ []) o') where
      pub minus-text-room : Room o (decimal_of i) → Room o' (decimal (n + 1))
      minus-text-room h = omega (arith, ap length (text-minus e), v.wrote.place, as_long v)

      pub minus-text : (o'' : Output) → Added o' (decimal (n + 1)) o'' → Added o (decimal_of i) o''
      minus-text o'' w = renamed (text-minus e) (joined v w)

pub ruleset text_rules = (held_next, plus-long, minus-fits, minus-long, plus-text-room, plus-text, sign-room, minus-text-room, minus-text)

-- a cap taken on the way is the cap taken at the end
cap_value : (a : ℕ) (t : List ℕ) → capped (value_from (capped a) t) ≡ capped (value_from a t)
cap_value a t = go (leb a too_large) refl
  where
    go : (b : Bool) → leb a too_large ≡ b → capped (value_from (capped a) t) ≡ capped (value_from a t)
    go true e =
        let h = leb-true a too_large e in
        let f : capped a ≡ a = omega arith in
        ap (λ (k : ℕ). capped (value_from k t)) f
    go false e =
        let h = leb-false a too_large e in
        omega (arith, value_up a t, value_up (capped a) t)

-- digits read: those passed say n, or more than any integer
pub record Valuing (s : List ℕ) (p e n i : ℕ) : Type 0 where
  pub within : i ≤ e
  pub small : n ≤ too_large
  pub only : digits_only (slice i e s) ≡ true
  pub same : capped (value_from 0 (slice p e s)) ≡ capped (value_from n (slice i e s))

module _ (s : List ℕ) (p e : ℕ) where
  part : (i : ℕ) → i < e → e ≤ length s → slice i e s ≡ byte s i ∷ slice (i + 1) e s
  part i h g = slice-cons i e s 0 h g ∙ ap (λ (k : ℕ). byte s i ∷ slice k e s) (sym (add-one i))

  pub value-start : p ≤ e → digits_only (slice p e s) ≡ true → Valuing s p e 0 p
  value-start h o = record { within = h; small = omega arith; only = o; same = refl }

  -- at index j of the part that is read
  module _ (n j : ℕ) (t : Valuing s p e n (p + j)) where
    pub value-small : n ≤ too_large
    value-small = t.small

    abbrev i : ℕ
    i = p + j

    module _ (f : j < length (take (e - p) (drop p s))) (g : e ≤ length s) where
      h : i < e
      h = omega (arith, length-take (e - p) (drop p s))

      seen : get_or (take (e - p) (drop p s)) j 0 ≡ byte s i
      seen = get_or-take (e - p) (drop p s) j 0 (omega (arith, h)) ∙ get_or-drop p s j 0

      rest : digits_only (byte s i ∷ slice (i + 1) e s) ≡ true
      rest = ap digits_only (sym (part i h g)) ∙ t.only

      pub value_low : 48 ≤ get_or (take (e - p) (drop p s)) j 0
      value_low = rw seen (digit_low (byte s i) (only-head (byte s i) (slice (i + 1) e s) rest))

      pub value-high : get_or (take (e - p) (drop p s)) j 0 ≤ 57
      value-high = rw seen (digit-high (byte s i) (only-head (byte s i) (slice (i + 1) e s) rest))

      pub value-next : (r : ℕ) → r ≡ capped (next n (get_or (take (e - p) (drop p s)) j 0)) → Valuing s p e r (p + (j + 1))
      unfolding value_from
      value-next r q =
          let k : r ≡ capped (next n (byte s i)) = q ∙ ap (λ (x : ℕ). capped (next n x)) seen in
          let a : p + (j + 1) ≡ i + 1 = omega arith in
          rw a
          (record {
            within = omega (arith, h);
            small = omega arith;
            only = only-tail (byte s i) (slice (i + 1) e s) rest;
            same =
                t.same ∙ ap (λ (l : List ℕ). capped (value_from n l)) (part i h g)
                ∙ sym (cap_value (next n (byte s i)) (slice (i + 1) e s))
                ∙ ap (λ (x : ℕ). capped (value_from x (slice (i + 1) e s))) (sym k);
          })

    pub value-done : length (take (e - p) (drop p s)) ≤ j → p ≤ e → e ≤ length s → n ≡ capped (value_from 0 (slice p e s))
    unfolding value_from
    value-done h l g =
        let k : i ≡ e = omega (arith, t.within, length-take (e - p) (drop p s), length-drop p s) in
        let f : slice i e s ≡ [] = ap (λ (x : ℕ). slice x e s) k ∙ slice_empty e s in
        let c : n ≡ capped n = omega (arith, t.small) in
        c ∙ sym (t.same ∙ ap (λ (l : List ℕ). capped (value_from n l)) f)

pub ruleset value_rules = (value-start, value-small, value_low, value-high, value-next, value-done)

-- what a number says, without a sign and with one
module _ (n : ℕ) where
  pub plus-is : n < 2 ^ 63 → Some (Plus n) ≡ plus_said n
  plus-is h = sym (rw (lt-ltb n (2 ^ 63) h))

  pub plus-wrong : 2 ^ 63 ≤ n → None ≡ plus_said n
  plus-wrong h = sym (rw (le-ltb n (2 ^ 63) h))

  pub minus-zero : n ≡ 0 → None ≡ minus_said n
  minus-zero h = sym (rw (eq-eqb n 0 h))

  pub minus_is : (n ≡ 0 → ⊥) → n - 1 < 2 ^ 63 → Some (Minus (n - 1)) ≡ minus_said n
  minus_is z h = sym (rw (ne_eqb n 0 z, lt-ltb (n - 1) (2 ^ 63) h))

  pub minus-wrong : (n ≡ 0 → ⊥) → 2 ^ 63 ≤ n - 1 → None ≡ minus_said n
  minus-wrong z h = sym (rw (ne_eqb n 0 z, le-ltb (n - 1) (2 ^ 63) h))

-- the cap does not change what a text says
plus-capped : (n : ℕ) → plus_said (capped n) ≡ plus_said n
plus-capped n = go (leb n too_large) refl
  where
    go : (b : Bool) → leb n too_large ≡ b → plus_said (capped n) ≡ plus_said n
    go true e = let h = leb-true n too_large e in let f : capped n ≡ n = omega arith in ap plus_said f
    go false e = let h = leb-false n too_large e in sym (plus-wrong (capped n) (omega arith)) ∙ plus-wrong n (omega arith)

minus-capped : (n : ℕ) → minus_said (capped n) ≡ minus_said n
minus-capped n = go (leb n too_large) refl
  where
    go : (b : Bool) → leb n too_large ≡ b → minus_said (capped n) ≡ minus_said n
    go true e = let h = leb-true n too_large e in let f : capped n ≡ n = omega arith in ap minus_said f
    go false e =
        let h = leb-false n too_large e in
        sym (minus-wrong (capped n) (λ z. omega arith) (omega arith)) ∙ minus-wrong n (λ z. omega arith) (omega arith)

-- a text in the grammar, by its first byte
module _ (s : List ℕ) (p e : ℕ) (h : p < e) (g : e ≤ length s) where
  here : slice p e s ≡ byte s p ∷ slice (p + 1) e s
  here = part s p e p h g

  pub minus-only : integral (slice p e s) ≡ true → byte s p ≡ 45 → digits_only (slice (p + 1) e s) ≡ true
  minus-only i c = plain-only (slice (p + 1) e s) (sym (integral-minus (byte s p) (slice (p + 1) e s) c) ∙ ap integral (sym here) ∙ i)

  pub plus-only : integral (slice p e s) ≡ true → (byte s p ≡ 45 → ⊥) → digits_only (slice p e s) ≡ true
  plus-only i c = plain-only (slice p e s) (ap plain here ∙ sym (integral-plus (byte s p) (slice (p + 1) e s) c) ∙ ap integral (sym here) ∙ i)

  pub minus-said : (v : ℕ) (r : Option Integer) → byte s p ≡ 45 → v ≡ capped (value_from 0 (slice (p + 1) e s)) → r ≡ minus_said v → r ≡ integer_said (slice p e s)
  minus-said v r c f i =
      i ∙ ap minus_said f ∙ minus-capped (value_from 0 (slice (p + 1) e s)) ∙ sym (said-minus (byte s p) (slice (p + 1) e s) c)
      ∙ ap integer_said (sym here)

  pub plus-said : (v : ℕ) (r : Option Integer) → (byte s p ≡ 45 → ⊥) → v ≡ capped (value_from 0 (slice p e s)) → r ≡ plus_said v → r ≡ integer_said (slice p e s)
  plus-said v r c f i =
      i ∙ ap plus_said f ∙ plus-capped (value_from 0 (slice p e s)) ∙ ap (λ (l : List ℕ). plus_said (value_from 0 l)) here
      ∙ sym (said-plus (byte s p) (slice (p + 1) e s) c)
      ∙ ap integer_said (sym here)

pub ruleset said_rules = (minus-only, plus-only, minus-said, plus-said)
