-- An integer has its bytes, and no others: request 6.
-- Assumes nothing.
--   sign_repeated_lem   the test of the top byte is what its words say
--   is-integer      the test of bytes that are an integer's
--   needless        a byte on top only repeats the sign exactly when the bytes below it say the same
--   brief_whole     `brief_of` has the bytes of an integer
--   only_brief      and they are the only ones
use mathlib.Core.Path.{◌≡◌, refl, sym, ap, ◌∙◌}
use mathlib.Core.Logic.{◌↔◌}
use mathlib.Core.List.{List, [], ◌∷◌, ◌++◌}
use mathlib.Core.Bool.{true, ◌&&◌}
use Prim.Native.Nat.{ℕ, ◌+◌, ◌-◌, ◌*◌, ◌^◌, ◌<◌, ◌≤◌}
use native.Mathlib.Omega.{arith}
use lib.ListN.{length, length-append, get_or-append}
use lib.Seq.{get_or-append_seam}
use lib.Dec.{ltb, leb, eqb}
use borrow.Author.Tests.{ltb-true, ltb-false, leb-true, leb-false, eqb-true, lt-ltb, le-leb, not-true}
use Rattle.paper.specs.Limits.{integer_least, integer_most}
use Rattle.paper.proofs.Tests.{and_left, and_right, split, not_so, so_not}
use Rattle.numbers.specs.declared.Integer.{Integer}
use Rattle.numbers.specs.declared.Integer.TheVariants.{Plus, Minus}
use Rattle.numbers.specs.Bytes.{Bytes, byte, little, top, second}
use Rattle.numbers.specs.Integer.{flip, integer_of, SignRepeated, plus_repeated, minus_repeated, sign_repeated, TwosComplement, is_integer, clear, brief_of, Held}
use Rattle.numbers.proofs.Places.{bytes-at}
use Rattle.numbers.proofs.Integers.{flip-long, flip-bytes, flip-flip, flip_top, flip-second, says-plus, says-minus, says-held}
use Rattle.numbers.proofs.Little.{limit, clear-until, until-bytes, until-few, until-says, Ends, until-ends, ends-only}

-- the top byte's test, and its words
pub sign_repeated_lem : (v : List ℕ) → (sign_repeated v ≡ true) ↔ SignRepeated v
unfolding sign_repeated
sign_repeated_lem v = (there, back)
  where
    there : sign_repeated v ≡ true → SignRepeated v
    there e =
        let l = leb-true 2 (length v) (and_left _ _ e) in
        split (eqb (top v) 0x00 && ltb (second v) 0x80)
        (λ p. plus_repeated l (eqb-true (top v) 0x00 (and_left _ _ p)) (ltb-true (second v) 0x80 (and_right (eqb (top v) 0x00) _ p)))
        λ p.
        let m : eqb (top v) 0xFF && leb 0x80 (second v) ≡ true = rw p at (and_right (leb 2 (length v)) _ e) in
        minus_repeated l (eqb-true (top v) 0xFF (and_left _ _ m)) (leb-true 0x80 (second v) (and_right (eqb (top v) 0xFF) _ m))

    back : SignRepeated v → sign_repeated v ≡ true
    back (plus_repeated l t s) = rw (le-leb 2 (length v) l, t, lt-ltb (second v) 0x80 s)
    back (minus_repeated l t s) = rw (le-leb 2 (length v) l, t, le-leb 0x80 (second v) s)

pub is-integer : (v : List ℕ) → Bytes v → (is_integer v ≡ true) ↔ TwosComplement (integer_of v) v
unfolding is_integer
is-integer v h = (there, back)
  where
    there : is_integer v ≡ true → TwosComplement (integer_of v) v
    there e =
        let a = and_left _ _ e in
        record {
          least = leb-true integer_least (length v) (and_left _ _ a);
          most = leb-true (length v) integer_most (and_right (leb integer_least (length v)) _ a);
          bytes = h;
          says = refl;
          needed = λ r. so_not (sign_repeated v) (not-true _ (and_right (leb integer_least (length v) && leb (length v) integer_most) _ e)) ((sign_repeated_lem v).1 r);
        }

    back : TwosComplement (integer_of v) v → is_integer v ≡ true
    back w = rw (le-leb integer_least (length v) w.least, le-leb (length v) integer_most w.most, not_so (sign_repeated v) (λ e. w.needed ((sign_repeated_lem v).0 e)))

-- a byte t on top of v
module _ (v : List ℕ) (t : ℕ) where
  on-top : top (v ++ (t ∷ [])) ≡ t
  on-top =
      let e : length (v ++ (t ∷ [])) - 1 ≡ length v = omega (arith, length-append v (t ∷ [])) in
      ap (byte (v ++ (t ∷ []))) e ∙ get_or-append_seam v t [] 0

  below_it : 1 ≤ length v → second (v ++ (t ∷ [])) ≡ top v
  below_it l =
      let e : length (v ++ (t ∷ [])) - 2 ≡ length v - 1 = omega (arith, length-append v (t ∷ [])) in
      ap (byte (v ++ (t ∷ []))) e ∙ get_or-append v (t ∷ []) 0 (length v - 1) (omega arith)

zero-says : (v : List ℕ) → little (v ++ (0 ∷ [])) ≡ little v
unfolding little
zero-says [] = refl
zero-says (x ∷ v) = ap (λ (n : ℕ). x + 256 * n) (zero-says v)

says-zero : (v : List ℕ) (t : ℕ) → little v ≡ little (v ++ (t ∷ [])) → t ≡ 0
unfolding little
says-zero [] t e = omega arith
says-zero (x ∷ v) t e = says-zero v t (omega arith)

flip-on-top : (v : List ℕ) (t : ℕ) → flip (v ++ (t ∷ [])) ≡ flip v ++ ((255 - t) ∷ [])
unfolding flip
flip-on-top [] t = refl
flip-on-top (x ∷ v) t = ap (λ (l : List ℕ). (255 - x) ∷ l) (flip-on-top v t)

-- a top byte only repeats the sign exactly when the bytes say the same without it
pub needless : (v : List ℕ) (t : ℕ) → 1 ≤ length v → t < 256 → SignRepeated (v ++ (t ∷ [])) ↔ (integer_of v ≡ integer_of (v ++ (t ∷ [])))
needless v t l h = (there, back)
  where
    w : List ℕ
    w = v ++ (t ∷ [])

    there : SignRepeated w → integer_of v ≡ integer_of w
    there (plus_repeated g z s) =
        let a : top v < 128 = omega (arith, below_it v t l) in
        let i : t ≡ 0 = sym (on-top v t) ∙ z in
        says-plus v a ∙ ap Plus (sym (zero-says v)) ∙ ap (λ (x : ℕ). Plus (little (v ++ (x ∷ [])))) (sym i) ∙ sym (says-plus w (omega arith))
    there (minus_repeated g z s) =
        let a : 128 ≤ top v = omega (arith, below_it v t l) in
        let i : 255 - t ≡ 0 = omega (arith, on-top v t) in
        says-minus v a ∙ ap Minus (sym (zero-says (flip v))) ∙ ap (λ (x : ℕ). Minus (little (flip v ++ (x ∷ [])))) (sym i) ∙ ap (λ (x : List ℕ). Minus (little x)) (sym (flip-on-top v t))
        ∙ sym (says-minus w (omega arith))

    plus-is : {n m : ℕ} → Plus n ≡ Plus m → n ≡ m
    plus-is e = cc

    minus_is : {n m : ℕ} → Minus n ≡ Minus m → n ≡ m
    minus_is e = cc

    unlike : {n m : ℕ} → Plus n ≡ Minus m → ⊥
    unlike e = let z : ◌≡◌ {A = ℕ} 0 1 = cc in omega arith

    two : 2 ≤ length w
    two = omega (arith, length-append v (t ∷ []))

    back : integer_of v ≡ integer_of w → SignRepeated w
    back e =
        split (ltb (top v) 128)
        (λ a.
        let a' = ltb-true _ _ a in
        split (ltb (top w) 128)
        (λ b. plus_repeated two (on-top v t ∙ says-zero v t (plus-is (sym (says-plus v a') ∙ e ∙ says-plus w (ltb-true _ _ b)))) (omega (arith, below_it v t l)))
        (λ b. absurd (unlike (sym (says-plus v a') ∙ e ∙ says-minus w (ltb-false _ _ b)))))
        λ a.
        let a' = ltb-false _ _ a in
        split (ltb (top w) 128)
        (λ b. absurd (unlike (sym (says-plus w (ltb-true _ _ b)) ∙ sym e ∙ says-minus v a')))
        λ b.
        let z : 255 - t ≡ 0 = says-zero (flip v) (255 - t) (minus_is (sym (says-minus v a') ∙ e ∙ says-minus w (ltb-false _ _ b)) ∙ ap little (flip-on-top v t)) in
        minus_repeated two (omega (arith, on-top v t)) (omega (arith, below_it v t l))

-- complementing the bytes leaves the top byte what it was: a repeated sign, or not
flip_repeated : (v : List ℕ) → SignRepeated v → SignRepeated (flip v)
flip_repeated v (plus_repeated l t s) =
    minus_repeated (omega (arith, flip-long v)) (omega (arith, flip_top v (omega arith))) (omega (arith, flip-second v l))
flip_repeated v (minus_repeated l t s) =
    plus_repeated (omega (arith, flip-long v)) (omega (arith, flip_top v (omega arith))) (omega (arith, flip-second v l))

-- a clear top bit: the sign is not repeated exactly when the bytes end where `until 128` does
plus-ends : (v : List ℕ) → 1 ≤ length v → top v < 0x80 → (SignRepeated v → ⊥) → Ends 128 v
plus-ends v l t n =
    record {
      some = l;
      below = t;
      full =
          λ two.
          split (leb 128 (second v + 256 * top v)) (leb-true 128 (second v + 256 * top v))
          (λ e. let s = leb-false 128 (second v + 256 * top v) e in absurd (n (plus_repeated two (omega arith) (omega arith))));
    }

ends-plus : (v : List ℕ) → Ends 128 v → SignRepeated v → ⊥
ends-plus v e (plus_repeated l t s) = omega (arith, e.full l)
ends-plus v e (minus_repeated l t s) = omega (arith, e.below)

minus-ends : (v : List ℕ) → Bytes v → 1 ≤ length v → 0x80 ≤ top v → (SignRepeated v → ⊥) → Ends 128 (flip v)
minus-ends v h l t n =
    plus-ends (flip v) (omega (arith, flip-long v)) (omega (arith, flip_top v l, bytes-at v (length v - 1) h)) λ r. n (rw (flip-flip v h) at (flip_repeated (flip v) r))

ends-minus : (v : List ℕ) → Bytes v → Ends 128 v → SignRepeated (flip v) → ⊥
ends-minus v h e r = ends-plus v e (rw (flip-flip v h) at (flip_repeated (flip v) r))

-- of n, below 2 to the 63, the bytes whose top bit is clear
record Clear (n : ℕ) (v : List ℕ) : Type 0 where
  pub few : length v ≤ integer_most
  pub bytes : Bytes v
  pub ends : Ends 128 v
  pub says : little v ≡ n

clear-is : (n : ℕ) → n < 2 ^ 63 → Clear n (clear integer_most n)
unfolding limit
clear-is n h =
    rw (clear-until integer_most n)
    (record {
      few = until-few 128 integer_most n;
      bytes = until-bytes 128 integer_most n;
      ends = until-ends 128 7 n (omega arith) (omega arith);
      says = until-says 128 7 n (omega arith) (omega arith);
    })

plus-whole : (n : ℕ) (v : List ℕ) → Clear n v → TwosComplement (Plus n) v
plus-whole n v c =
    record {
      least = c.ends.some;
      most = c.few;
      bytes = c.bytes;
      says = says-plus v c.ends.below ∙ ap Plus c.says;
      needed = ends-plus v c.ends;
    }

minus-whole : (n : ℕ) (v : List ℕ) → Clear n v → TwosComplement (Minus n) (flip v)
minus-whole n v c =
    record {
      least = omega (arith, flip-long v, c.ends.some);
      most = omega (arith, flip-long v, c.few);
      bytes = flip-bytes v;
      says = says-minus (flip v) (omega (arith, flip_top v c.ends.some, c.ends.below)) ∙ ap (λ (l : List ℕ). Minus (little l)) (flip-flip v c.bytes) ∙ ap Minus c.says;
      needed = ends-minus v c.bytes c.ends;
    }

pub brief_whole : (i : Integer) → Held i → TwosComplement i (brief_of i)
unfolding brief_of
brief_whole (Plus n) h = plus-whole n (clear integer_most n) (clear-is n h)
brief_whole (Minus n) h = minus-whole n (clear integer_most n) (clear-is n h)

-- bytes that end where they must are those of what they say
clear-only : (v : List ℕ) → Bytes v → length v ≤ integer_most → Ends 128 v → v ≡ clear integer_most (little v)
clear-only v h l e = ends-only 128 integer_most v (omega arith) h e l ∙ sym (clear-until integer_most (little v))

-- the bytes of an integer are the only ones that say it
whole-only : (i : Integer) (v : List ℕ) → TwosComplement i v → v ≡ brief_of i
unfolding brief_of
whole-only i v w = split (ltb (top v) 0x80) (λ e. plus (ltb-true _ _ e)) (λ e. minus (ltb-false _ _ e))
  where
    plus : top v < 0x80 → v ≡ brief_of i
    plus t = clear-only v w.bytes w.most (plus-ends v w.least t w.needed) ∙ ap brief_of (sym (says-plus v t) ∙ w.says)

    minus : 0x80 ≤ top v → v ≡ brief_of i
    minus t =
        sym (flip-flip v w.bytes)
        ∙ ap flip (clear-only (flip v) (flip-bytes v) (omega (arith, flip-long v, w.most)) (minus-ends v w.bytes w.least t w.needed))
        ∙ ap brief_of (sym (says-minus v t) ∙ w.says)

pub only_brief : (i : Integer) (v : List ℕ) → TwosComplement i v ↔ (Held i × (v ≡ brief_of i))
only_brief i v = (λ w. (rw w.says at (says-held v w.bytes w.least w.most), whole-only i v w), λ h. rw h.1 (brief_whole i h.0))
