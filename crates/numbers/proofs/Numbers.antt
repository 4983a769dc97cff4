-- Numbers of 1 to 4 bytes after their N: the shortest bytes write the number, none are shorter, and `number_at` finds exactly what is written.
-- Assumes nothing.
--   number-below       a number is below 2 to the 32
--   number-written     the shortest bytes write it
--   number-shortest    and are no longer than any that do; -least: nor are those of a lesser number
--   number-some, -few  there are 2 to 5; number-long: one more than `fewest`
--   number-bytes       they are bytes
--   same-front         lists whose fronts are as long are the same in front and after it
--   number_cut         bytes that begin with a number begin with one only
--   number-at          bytes that write n, at a place, are found there
--   at-number          what is found is written there
--   found-standing     and is well formed, its value and width those of its bytes
--   at-within          its bounds; found_bounds: the same for a caller of `number_at`
--   number_fault       nothing is found exactly when the number passes the end or its N is out of bounds
--   part_fault         a number that fills a part of a list fails as it does in its place
use mathlib.Core.Path.{◌≡◌, refl, sym, ap, ◌∙◌}
use mathlib.Core.Logic.{◌↔◌}
use mathlib.Core.List.{List, [], ◌∷◌, ◌++◌, head-eq_of_cons-eq, tail-eq_of_cons-eq}
use mathlib.Core.Bool.{Bool, true, false}
use Prim.Native.Nat.{ℕ, suc, ◌+◌, ◌-◌, ◌^◌, ◌<◌, ◌≤◌}
use native.Mathlib.Omega.{arith}
use lib.ListN.{length, drop}
use lib.Seq.{slice, slice-cons, length-slice, drop-drop}
use lib.Dec.{ltb, leb}
use borrow.Author.Tests.{ltb-true, ltb-false, leb-true, leb-false, lt-ltb, le-ltb, lt-leb, le-leb}
use Rattle.paper.specs.Limits.{number_least, number_most}
use Rattle.paper.specs.Checks.{choose}
use Rattle.numbers.specs.Bytes.{Bytes, byte, little}
use Rattle.numbers.specs.Number.{Found, Refused, Value, Number, number_value, number_at, no_width, cut_off, width_zero, too_wide, NumberFault, number_past, width_off, fewest, number_of}
use Rattle.numbers.specs.Met.{ValueMet, Within, NumberMet, Standing}
use Rattle.numbers.proofs.Places.{first, slice_is, bytes-slice, bytes-at}
use Rattle.numbers.proofs.Little.{limit, limit_up, fewest-until, until-bytes, until-few, until-some, until-says, until-short, little-below}

-- the number of some bytes is below 256 to their count
pub little-small : (v : List ℕ) → Bytes v → 1 ≤ length v → little v < limit 256 (length v - 1)
little-small [] h g = absurd (omega arith)
little-small (x ∷ v) h g =
    let e : length v ≡ length (x ∷ v) - 1 = omega arith in
    rw e at (little-below 256 x v h (bytes-at (x ∷ v) (length v) h))

four : (v : List ℕ) → Bytes v → 1 ≤ length v → length v ≤ 4 → little v < 2 ^ 32
unfolding limit
four v h g l = omega (arith, little-small v h g, limit_up 256 (length v - 1) 3 (omega arith) (omega arith))

pub number-below : {n : ℕ} {b : List ℕ} → Number n b → n < 2 ^ 32
number-below t = omega (arith, four t.digits t.bytes t.least t.most, t.says)

pub number-written : (n : ℕ) → n < 2 ^ 32 → Number n (number_of n)
unfolding number_of limit
number-written n h =
    let e = fewest-until number_most n in
    record {
      digits = fewest number_most n;
      whole = refl;
      least = omega (arith, ap length e, until-some 256 3 n);
      most = omega (arith, ap length e, until-few 256 number_most n);
      bytes = rw e (until-bytes 256 number_most n);
      says = ap little e ∙ until-says 256 3 n (omega arith) (omega arith);
    }

-- of two numbers the lesser has no more bytes
pub number-least : {n : ℕ} {b : List ℕ} (m : ℕ) → m ≤ n → Number n b → length (number_of m) ≤ length b
unfolding number_of
number-least {n} {b} m h t =
    let g = little-small t.digits t.bytes t.least in
    omega (arith, ap length (fewest-until number_most m), until-short 256 number_most (length t.digits - 1) m (omega (arith, t.says)), ap length t.whole, t.least)

pub record Shortest (n : ℕ) (b : List ℕ) : Type 0 where
  pub written : Number n (number_of n)
  pub least : length (number_of n) ≤ length b

pub number-shortest : {n : ℕ} {b : List ℕ} → Number n b → Shortest n b
number-shortest {n} {b} t = record { written = number-written n (number-below t); least = number-least n (omega arith) t }

pub number-long : (n : ℕ) → length (number_of n) ≡ 1 + length (fewest number_most n)
unfolding number_of
number-long n = omega arith

-- there are 2 to 5
pub number-some : (n : ℕ) → 2 ≤ length (number_of n)
number-some n = omega (arith, number-long n, ap length (fewest-until number_most n), until-some 256 3 n)

pub number-few : (n : ℕ) → length (number_of n) ≤ 5
number-few n = omega (arith, number-long n, ap length (fewest-until number_most n), until-few 256 number_most n)

pub number-bytes : {n : ℕ} {b : List ℕ} → Number n b → Bytes b
number-bytes t = rw t.whole (omega (arith, t.most), t.bytes)

pub same-front : (a b c d : List ℕ) → length a ≡ length b → a ++ c ≡ b ++ d → (a ≡ b) × (c ≡ d)
same-front [] [] c d h e = (refl, e)
same-front [] (y ∷ b) c d h e = absurd (omega arith)
same-front (x ∷ a) [] c d h e = absurd (omega arith)
same-front (x ∷ a) (y ∷ b) c d h e =
    let g : length a ≡ length b = omega arith in
    let r = same-front a b c d g (tail-eq_of_cons-eq e) in
    let z = head-eq_of_cons-eq e in
    (rw (z, r.0), r.1)

pub record Same (n m : ℕ) (a b c d : List ℕ) : Type 0 where
  pub numbers : n ≡ m
  pub bytes : a ≡ b
  pub afters : c ≡ d

-- bytes that begin with a number begin with one only
pub number_cut : {n m : ℕ} {a b : List ℕ} (c d : List ℕ) → Number n a → Number m b → a ++ c ≡ b ++ d → Same n m a b c d
number_cut {n} {m} {a} {b} c d x y e =
    let f : length x.digits ∷ (x.digits ++ c) ≡ length y.digits ∷ (y.digits ++ d) = ap (λ (l : List ℕ). l ++ c) (sym x.whole) ∙ e ∙ ap (λ (l : List ℕ). l ++ d) y.whole in
    let r = same-front x.digits y.digits c d (head-eq_of_cons-eq f) (tail-eq_of_cons-eq f) in
    record {
      numbers = sym x.says ∙ ap little r.0 ∙ y.says;
      bytes = x.whole ∙ ap (λ (v : List ℕ). length v ∷ v) r.0 ∙ sym y.whole;
      afters = r.1;
    }

pub number-at : (s b rest : List ℕ) (p e n : ℕ) → drop p s ≡ b ++ rest → Number n b → p + length b ≤ e → number_at s p e ≡ Value n (length b - 1)
unfolding number_at
number-at s b rest p e n y t h =
    let v = t.digits in
    let y₁ : drop p s ≡ length v ∷ (v ++ rest) = y ∙ ap (λ (l : List ℕ). l ++ rest) t.whole in
    let g : byte s p ≡ length v = first s (v ++ rest) (length v) p y₁ in
    let y₂ : drop (p + 1) s ≡ v ++ rest = sym (drop-drop 1 p s) ∙ ap (drop 1) y₁ in
    let i : slice (p + 1) (p + 1 + length v) s ≡ v = slice_is s v rest (p + 1) y₂ in
    let l : length b ≡ suc (length v) = ap length t.whole in
    let a : leb e p ≡ false = lt-leb e p (omega arith) in
    let c : ltb (length v) 1 ≡ false = le-ltb _ _ t.least in
    let d : ltb number_most (length v) ≡ false = le-ltb _ _ t.most in
    let f : ltb (e - (p + 1)) (length v) ≡ false = le-ltb (e - (p + 1)) (length v) (omega arith) in
    let k : length v ≡ length b - 1 = omega arith in
    rw (g, a, c, d, f, i, t.says, k)

-- what a check that was passed tells
passed : (t : Bool) (k : ℕ) (rest : Unit {0} → Found) (n w : ℕ) → choose t (λ _. Refused k) rest ≡ Value n w → (t ≡ false) × (rest tt ≡ Value n w)
passed true k rest n w e = let z : ◌≡◌ {A = ℕ} 0 1 = cc in absurd (omega arith)
passed false k rest n w e = (refl, e)

pub record Stands (s : List ℕ) (p e n w : ℕ) : Type 0 where
  pub least : 1 ≤ w
  pub most : w ≤ number_most
  pub within : p + 1 + w ≤ e
  pub width : byte s p ≡ w
  pub value : little (slice (p + 1) (p + 1 + w) s) ≡ n

pub stands : (s : List ℕ) (p e n w : ℕ) → number_at s p e ≡ Value n w → Stands s p e n w
unfolding number_at
stands s p e n w x =
    let a = passed (leb e p) _ _ n w x in
    let b = passed (ltb (byte s p) number_least) _ _ n w a.1 in
    let c = passed (ltb number_most (byte s p)) _ _ n w b.1 in
    let d = passed (ltb (e - (p + 1)) (byte s p)) _ _ n w c.1 in
    made (leb-false e p a.0) (ltb-false _ _ b.0) (ltb-false _ _ c.0) (ltb-false _ _ d.0) (value_of d.1) (width_of d.1)
  where
    value_of : {a b c d : ℕ} → Value a b ≡ Value c d → a ≡ c
    value_of e = cc

    width_of : {a b c d : ℕ} → Value a b ≡ Value c d → b ≡ d
    width_of e = cc

    made : p < e → number_least ≤ byte s p → byte s p ≤ number_most → byte s p ≤ e - (p + 1) → little (slice (p + 1) (p + 1 + byte s p) s) ≡ n → byte s p ≡ w → Stands s p e n w
    made f g h i j k =
        record {
          least = omega arith;
          most = omega arith;
          within = omega arith;
          width = k;
          value = ap (λ (m : ℕ). little (slice (p + 1) (p + 1 + m) s)) (sym k) ∙ j;
        }

-- what is found is well formed, and has the value and the width that its bytes say
pub record Sound (s : List ℕ) (p e n w : ℕ) : Type 0 where
  pub standing : Standing s p
  pub value : n ≡ number_value s p
  pub width : w ≡ byte s p
  pub within : p + 1 + byte s p ≤ e

pub found-standing : (s : List ℕ) (p e n w : ℕ) → e ≤ length s → number_at s p e ≡ Value n w → Sound s p e n w
found-standing s p e n w he x = made (stands s p e n w x)
  where
    made : Stands s p e n w → Sound s p e n w
    made t =
        record {
          standing = record { least = omega (arith, t.least, t.width); most = omega (arith, t.most, t.width); within = omega (arith, t.within, t.width) };
          value = sym (ap (λ (k : ℕ). little (slice (p + 1) (p + 1 + k) s)) t.width ∙ t.value);
          width = sym t.width;
          within = omega (arith, t.within, t.width);
        }

pub at-number : (s : List ℕ) (p e n w : ℕ) → Bytes s → e ≤ length s → number_at s p e ≡ Value n w → Number n (slice p (p + 1 + w) s)
at-number s p e n w hb he x = made (stands s p e n w x)
  where
    made : Stands s p e n w → Number n (slice p (p + 1 + w) s)
    made t =
        let v = slice (p + 1) (p + 1 + w) s in
        let i : suc p ≡ p + 1 = omega arith in
        let l : length v ≡ w = length-slice (p + 1) (p + 1 + w) s (omega (arith, t.within)) ∙ omega arith in
        let c : slice p (p + 1 + w) s ≡ byte s p ∷ v = slice-cons p (p + 1 + w) s 0 (omega arith) (omega (arith, t.within)) ∙ ap (λ (k : ℕ). byte s p ∷ slice k (p + 1 + w) s) i in
        let g : byte s p ≡ length v = t.width ∙ sym l in
        record {
          digits = v;
          whole = c ∙ ap (λ (k : ℕ). k ∷ v) g;
          least = omega (arith, t.least);
          most = omega (arith, t.most);
          bytes = bytes-slice s (p + 1) (p + 1 + w) hb;
          says = t.value;
        }

pub at-within : (s : List ℕ) (p e : ℕ) → Bytes s → e ≤ length s → Within p e (number_at s p e)
at-within s p e hb he = go (number_at s p e) refl
  where
    go : (r : Found) → number_at s p e ≡ r → Within p e r
    go (Refused k) x = tt
    go (Value n w) x =
        let t = stands s p e n w x in
        record { small = number-below (at-number s p e n w hb he x); least = t.least; most = t.most; within = t.within }

-- the bounds, as a caller of `number_at` has them
module _ (s : List ℕ) (p e : ℕ) (r : Found) (n w : ℕ) (m : NumberMet s p e r) (f : r ≡ Value n w) where
  met : ValueMet p e n w
  met = rw f at m.met

  pub found-small : n < 2 ^ 32
  found-small = met.small

  pub found-least : 1 ≤ w
  found-least = met.least

  pub found-most : w ≤ number_most
  found-most = met.most

  pub found_within : p + 1 + w ≤ e
  found_within = met.within

pub ruleset found_bounds = (found-small, found-least, found-most, found_within)

pub number_fault : (s : List ℕ) (p e k : ℕ) → (number_at s p e ≡ Refused k) ↔ NumberFault s p e k
unfolding number_at
number_fault s p e k = (there, back)
  where
    stop : (t : Bool) (k' : ℕ) (f : Unit {0} → Found) → choose t (λ _. Refused k') f ≡ Refused k → (t ≡ true → k ≡ k' → NumberFault s p e k) → (t ≡ false → f tt ≡ Refused k → NumberFault s p e k) → NumberFault s p e k
    stop true k' f e x y = x refl (cc)
    stop false k' f e x y = y refl e

    there : number_at s p e ≡ Refused k → NumberFault s p e k
    there x =
        stop (leb e p) _ _ x (λ b i. number_past (no_width (leb-true e p b)) i) λ b₁ x₁.
        let lt = leb-false e p b₁ in
        stop (ltb (byte s p) number_least) _ _ x₁ (λ b i. width_off (width_zero lt (none (byte s p) (ltb-true _ _ b))) i) λ b₂ x₂.
        stop (ltb number_most (byte s p)) _ _ x₂ (λ b i. width_off (too_wide lt (ltb-true _ _ b)) i) λ b₃ x₃.
        stop (ltb (e - (p + 1)) (byte s p)) _ _ x₃ (λ b i. number_past (cut_off lt (ltb-false _ _ b₂) (ltb-false _ _ b₃) (over (byte s p) lt (ltb-true _ _ b))) i) λ b₄ x₄.
        absurd (let z : ◌≡◌ {A = ℕ} 0 1 = cc in omega arith)
      where
        none : (n : ℕ) → n < 1 → n ≡ 0
        none n h = omega arith

        over : (n : ℕ) → p < e → e - (p + 1) < n → e < p + 1 + n
        over n g h = omega arith

    back : NumberFault s p e k → number_at s p e ≡ Refused k
    back (number_past (no_width h) i) = rw (le-leb e p h, i)
    back (number_past (cut_off h g j c) i) = rw (lt-leb e p h, le-ltb (byte s p) number_least g, le-ltb number_most (byte s p) j, lt-ltb (e - (p + 1)) (byte s p) (omega arith), i)
    back (width_off (width_zero h z) i) = rw (lt-leb e p h, z, i)
    back (width_off (too_wide h g) i) = rw (lt-leb e p h, le-ltb (byte s p) number_least (omega arith), lt-ltb number_most (byte s p) g, i)

-- the number that is due at the start of the part from p to e
module _ (s : List ℕ) (p e : ℕ) (order : p ≤ e) (h : e ≤ length s) where
  part-first : p < e → byte (slice p e s) 0 ≡ byte s p
  part-first g = ap (λ (l : List ℕ). byte l 0) (slice-cons p e s 0 g h)

  same_fault : (k n : ℕ) → n ≡ e - p → (p < e → byte (slice p e s) 0 ≡ byte s p) → NumberFault (slice p e s) 0 n k ↔ NumberFault s p e k
  same_fault k n i f = (there, back)
    where
      there : NumberFault (slice p e s) 0 n k → NumberFault s p e k
      there (number_past (no_width g) j) = number_past (no_width (omega arith)) j
      there (number_past (cut_off g a b c) j) = let u = f (omega arith) in number_past (cut_off (omega arith) (omega arith) (omega arith) (omega arith)) j
      there (width_off (width_zero g z) j) = let u = f (omega arith) in width_off (width_zero (omega arith) (sym u ∙ z)) j
      there (width_off (too_wide g z) j) = let u = f (omega arith) in width_off (too_wide (omega arith) (omega arith)) j

      back : NumberFault s p e k → NumberFault (slice p e s) 0 n k
      back (number_past (no_width g) j) = number_past (no_width (omega arith)) j
      back (number_past (cut_off g a b c) j) = let u = f g in number_past (cut_off (omega arith) (omega arith) (omega arith) (omega arith)) j
      back (width_off (width_zero g z) j) = let u = f g in width_off (width_zero (omega arith) (u ∙ z)) j
      back (width_off (too_wide g z) j) = let u = f g in width_off (too_wide (omega arith) (omega arith)) j

  pub part_fault : (k : ℕ) → NumberFault (slice p e s) 0 (length (slice p e s)) k ↔ NumberFault s p e k
  part_fault k = same_fault k (length (slice p e s)) (length-slice p e s h) part-first
