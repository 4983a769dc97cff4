-- Writing bytes: what each turn of a loop and each return of the functions that write numbers and integers, or measure them, has to show.
-- Assumes nothing.
use mathlib.Core.Path.{◌≡◌, refl, sym, ap, ◌∙◌}
use mathlib.Core.List.{List, [], ◌∷◌, ◌++◌}
use Prim.Native.Nat.{ℕ, zero, suc, ◌+◌, ◌-◌, ◌/◌, ◌%◌, ◌^◌, ◌<◌, ◌≤◌}
use native.Mathlib.Omega.{arith}
use lib.ListN.{length}
use lib.Dec.{ltb}
use native.Mathlib.Nat.{div-lt_self}
use borrow.Author.Tests.{ltb-true, ltb-false, lt-ltb, le-ltb}
use Rattle.paper.proofs.Tests.{split}
use Rattle.paper.specs.Limits.{integer_most, number_most}
use Rattle.numbers.specs.declared.Integer.{Integer}
use Rattle.numbers.specs.declared.Integer.TheVariants.{Plus, Minus}
use Rattle.numbers.specs.Number.{fewest, number_of}
use Rattle.numbers.specs.Integer.{flip, clear, brief_of, Held}
use Rattle.numbers.specs.Bytes.{lowest}
use Rattle.numbers.specs.Met.{digits_by, digit_count}
use Rattle.numbers.specs.declared.output.Output.{Output}
use Rattle.numbers.specs.Output.{Room, Added}
use Rattle.numbers.proofs.Little.{limit, until, fewest-until, clear-until, until-last, until-next, until-more, until-few, until-some, until-lowest, flip-lowest}
use Rattle.numbers.proofs.Integers.{flip-long}
use Rattle.numbers.proofs.Adding.{Adding, begun, onward, ended, room, joined, as_long, renamed}

-- the lowest bytes written, all but those from i on
pub record Lowering (o : Output) (k n i x : ℕ) (o' : Output) : Type 0 where
  pub within : i ≤ k
  pub adding : Adding o (lowest k n) o' (lowest (k - i) x)

pub lowest-long : (k n : ℕ) → length (lowest k n) ≡ k
unfolding lowest
lowest-long zero n = refl
lowest-long (suc k) n = ap suc (lowest-long k (n / 256))

module _ (o : Output) (k n : ℕ) where
  pub low-start : Lowering o k n 0 n o
  low-start =
      let e : k - 0 ≡ k = omega arith in
      record { within = omega arith; adding = rw e (begun o (lowest k n)) }

  module _ (i x : ℕ) (o' : Output) (t : Lowering o k n i x o') (g : i < k) where
    pub low-room : Room o (lowest k n) → Room o' (x % 256 ∷ [])
    low-room h = omega (arith, room h t.adding, lowest-long (k - i) x)

    pub low-next : (o'' : Output) → Added o' (x % 256 ∷ []) o'' → Lowering o k n (i + 1) (x / 256) o''
    unfolding lowest
    low-next o'' w =
        let e : k - i ≡ suc (k - (i + 1)) = omega arith in
        record { within = omega arith; adding = onward (lowest (k - i) x) (ap (λ (j : ℕ). lowest j x) e) t.adding w }

  pub low-done : (i x : ℕ) (o' : Output) → Lowering o k n i x o' → k ≤ i → Added o (lowest k n) o'
  unfolding lowest
  low-done i x o' t g =
      let e : k - i ≡ 0 = omega arith in
      ended (ap (λ (j : ℕ). lowest j x) e) t.adding

pub ruleset low_rules = (low-start, low-room, low-next, low-done)

-- the width of a number
module _ (n : ℕ) where
  width-until : (k : ℕ) → k ≡ length (until 256 number_most n) → k ≡ length (fewest number_most n)
  width-until k e = e ∙ ap length (sym (fewest-until number_most n))

  pub width_1 : n < 256 → 1 ≡ length (fewest number_most n)
  width_1 h = width-until 1 (rw (until-last 256 3 n h))

  pub width_2 : 256 ≤ n → n < 65536 → 2 ≡ length (fewest number_most n)
  width_2 h g = width-until 2 (rw (until-next 256 3 n h, until-last 256 2 (n / 256) (omega arith)))

  pub width_3 : 65536 ≤ n → n < 16777216 → 3 ≡ length (fewest number_most n)
  width_3 h g = width-until 3 (rw (until-next 256 3 n (omega arith), until-next 256 2 (n / 256) (omega arith), until-last 256 1 (n / 256 / 256) (omega arith)))

  pub width_4 : 16777216 ≤ n → number_most ≡ length (fewest number_most n)
  width_4 h =
      let m = n / 256 / 256 / 256 in
      width-until number_most
      (omega (
        arith,
        ap length (until-next 256 3 n (omega arith)),
        ap length (until-next 256 2 (n / 256) (omega arith)),
        ap length (until-next 256 1 (n / 256 / 256) (omega arith)),
        until-few 256 1 m,
        until-some 256 0 m,
      ))

pub ruleset width_rules = (width_1, width_2, width_3, width_4)

-- digits counted: those passed, and those of what is left
pub record Counting (t b n x k : ℕ) : Type 0 where
  pub same : digit_count t b n + 1 ≡ k + digit_count t b x

module _ (t b : ℕ) (h : 2 ≤ t) (g : 2 ≤ b) where
  smaller : (x : ℕ) → t ≤ x → x / b < x
  smaller x l = let a : 0 < x = omega arith in let c : 1 < b = omega arith in div-lt_self a c

  digits-last : (k x : ℕ) → x < t → digits_by k t b x ≡ 1
  unfolding digits_by
  digits-last zero x l = refl
  digits-last (suc k) x l = rw (lt-ltb x t l)

  digits_step : (k x : ℕ) → t ≤ x → digits_by (suc k) t b x ≡ suc (digits_by k t b (x / b))
  unfolding digits_by
  digits_step k x l = rw (le-ltb x t l)

  -- more steps than x do not change it
  digits-enough : (k j x : ℕ) → x ≤ k → x ≤ j → digits_by k t b x ≡ digits_by j t b x
  digits-enough zero j x l m = digits-last zero x (omega arith) ∙ sym (digits-last j x (omega arith))
  digits-enough (suc k) zero x l m = digits-last (suc k) x (omega arith) ∙ sym (digits-last zero x (omega arith))
  digits-enough (suc k) (suc j) x l m =
      split (ltb x t)
      (λ e. digits-last (suc k) x (ltb-true x t e) ∙ sym (digits-last (suc j) x (ltb-true x t e)))
      λ e.
      let a = ltb-false x t e in
      digits_step k x a ∙ ap suc (digits-enough k j (x / b) (omega (arith, smaller x a)) (omega (arith, smaller x a))) ∙ sym (digits_step j x a)

  some-digits : (k x : ℕ) → 1 ≤ digits_by k t b x
  unfolding digits_by
  some-digits zero x = omega arith
  some-digits (suc k) x = split (ltb x t) (λ e. rw e (omega arith)) (λ e. rw e (omega arith))

  few-digits : (k x : ℕ) → 1 ≤ x → digits_by k t b x ≤ x
  unfolding digits_by
  few-digits zero x l = l
  few-digits (suc k) x l =
      split (ltb x t)
      (λ e. omega (arith, digits-last (suc k) x (ltb-true x t e)))
      λ e.
      let a = ltb-false x t e in
      let s = smaller x a in
      split (ltb (x / b) t)
      (λ f. omega (arith, digits_step k x a, digits-last k (x / b) (ltb-true _ _ f)))
      λ f. omega (arith, digits_step k x a, few-digits k (x / b) (omega (arith, ltb-false (x / b) t f)))

  count-more : (x : ℕ) → t ≤ x → digit_count t b x ≡ suc (digit_count t b (x / b))
  count-more x l =
      let j : suc (x - 1) ≡ x = omega arith in
      ap (λ (k : ℕ). digits_by k t b x) (sym j) ∙ digits_step (x - 1) x l ∙ ap suc (digits-enough (x - 1) (x / b) (x / b) (omega (arith, smaller x l)) (omega arith))

  module _ (n : ℕ) where
    pub count-start : Counting t b n n 1
    count-start = record { same = omega arith }

    pub count_room : (x k : ℕ) → Counting t b n x k → t ≤ x → n < 2 ^ 64 → k + 1 < 2 ^ 64
    count_room x k c l m =
        split (ltb n t)
        (λ e. omega (arith, c.same, count-more x l, some-digits (x / b) (x / b), digits-last n n (ltb-true n t e)))
        λ e. omega (arith, c.same, count-more x l, some-digits (x / b) (x / b), few-digits n n (omega (arith, ltb-false n t e)))

    pub count_next : (x k : ℕ) → Counting t b n x k → t ≤ x → Counting t b n (x / b) (k + 1)
    count_next x k c l = record { same = omega (arith, c.same, count-more x l) }

    pub count-done : (x k : ℕ) → Counting t b n x k → x < t → k ≡ digit_count t b n
    count-done x k c l = omega (arith, c.same, digits-last x x l)

  -- a length that is counted the same way
  pub counted : (f : ℕ → ℕ) (most : ℕ) → ((x : ℕ) → x < t → f x ≡ 1) → ((x : ℕ) → t ≤ x → x < most → f x ≡ suc (f (x / b))) → (k x : ℕ) → x ≤ k → x < most → digits_by k t b x ≡ f x
  counted f most one more zero x l m = digits-last zero x (omega arith) ∙ sym (one x (omega arith))
  counted f most one more (suc k) x l m =
      split (ltb x t)
      (λ e. digits-last (suc k) x (ltb-true x t e) ∙ sym (one x (ltb-true x t e)))
      λ e.
      let a = ltb-false x t e in
      digits_step k x a ∙ ap suc (counted f most one more k (x / b) (omega (arith, smaller x a)) (omega (arith, smaller x a))) ∙ sym (more x a m)

pub ruleset count_rules = (count-start, count_room, count_next, count-done)

clear-one : (x : ℕ) → x < 128 → length (clear integer_most x) ≡ 1
clear-one x h = ap length (clear-until integer_most x ∙ until-last 128 7 x h)

clear-more : (x : ℕ) → 128 ≤ x → x < 2 ^ 63 → length (clear integer_most x) ≡ suc (length (clear integer_most (x / 256)))
unfolding limit
clear-more x h g = ap length (clear-until integer_most x ∙ until-more 128 7 x (omega arith) h (omega arith) ∙ ap (λ (v : List ℕ). x % 256 ∷ v) (sym (clear-until integer_most (x / 256))))

pub clear_counted : (n k : ℕ) → n < 2 ^ 63 → k ≡ digit_count 128 256 n → k ≡ length (clear integer_most n)
clear_counted n k h e = e ∙ counted 128 256 (omega arith) (omega arith) (λ x. length (clear integer_most x)) (2 ^ 63) clear-one clear-more n n (omega arith) h

-- a number written: its width, and its bytes
module _ (n w : ℕ) (o : Output) where
  pub width_fits : w ≡ length (fewest number_most n) → w < 256
  width_fits e = omega (arith, ap length (fewest-until number_most n), until-few 256 number_most n)

  pub width_room : Room o (number_of n) → Room o (w ∷ [])
  unfolding number_of
  width_room h = omega arith

  module _ (o' : Output) (e : w ≡ length (fewest number_most n)) (v : Added o (w ∷ []) o') where
    pub number-room : Room o (number_of n) → Room o' (lowest w n)
    unfolding number_of
    number-room h = omega (arith, v.wrote.place, as_long v, lowest-long w n)

    pub number-done : (o'' : Output) → Added o' (lowest w n) o'' → Added o (number_of n) o''
    unfolding number_of
    number-done o'' u =
        let f : fewest number_most n ≡ lowest w n = fewest-until number_most n ∙ until-lowest 256 number_most n ∙ ap (λ (k : ℕ). lowest k n) (sym (ap length (fewest-until number_most n)) ∙ sym e) in
        let g : length (fewest number_most n) ∷ fewest number_most n ≡ (w ∷ []) ++ lowest w n = ap (λ (k : ℕ). k ∷ fewest number_most n) (sym e) ∙ ap (λ (l : List ℕ). w ∷ l) f in
        renamed g (joined v u)

pub ruleset number_rules = (width_fits, width_room, number-room, number-done)

-- an integer, by its sign
module _ (i : Integer) (n : ℕ) where
  pub held-plus : i ≡ Plus n → Held i → n < 2 ^ 63
  held-plus e h = rw e at h

  pub held-minus : i ≡ Minus n → Held i → n < 2 ^ 63
  held-minus e h = rw e at h

  pub held_next : i ≡ Minus n → Held i → n + 1 < 2 ^ 64
  held_next e h = omega (arith, held-minus e h)

  brief_plus : i ≡ Plus n → brief_of i ≡ clear integer_most n
  unfolding brief_of
  brief_plus e = ap brief_of e

  brief_minus : i ≡ Minus n → brief_of i ≡ flip (clear integer_most n)
  unfolding brief_of
  brief_minus e = ap brief_of e

  module _ (k : ℕ) (f : k ≡ length (clear integer_most n)) where
    pub plus-width : i ≡ Plus n → k ≡ length (brief_of i)
    plus-width e = f ∙ ap length (sym (brief_plus e))

    pub minus-width : i ≡ Minus n → k ≡ length (brief_of i)
    minus-width e = f ∙ sym (ap length (brief_minus e) ∙ flip-long (clear integer_most n))

    lowest-clear : clear integer_most n ≡ lowest k n
    lowest-clear = clear-until integer_most n ∙ until-lowest 128 integer_most n ∙ ap (λ (j : ℕ). lowest j n) (sym (ap length (clear-until integer_most n)) ∙ sym f)

    module _ (o : Output) where
      pub plus-room : i ≡ Plus n → Room o (brief_of i) → Room o (lowest k n)
      plus-room e h = omega (arith, plus-width e, lowest-long k n)

      pub minus-room : i ≡ Minus n → Room o (brief_of i) → Room o (lowest k (18446744073709551615 - n))
      minus-room e h = omega (arith, minus-width e, lowest-long k (18446744073709551615 - n))

      pub plus-done : (o' : Output) → i ≡ Plus n → Added o (lowest k n) o' → Added o (brief_of i) o'
      plus-done o' e w = renamed (brief_plus e ∙ lowest-clear) w

      pub minus-done : (o' : Output) → i ≡ Minus n → Held i → Added o (lowest k (18446744073709551615 - n)) o' → Added o (brief_of i) o'
      minus-done o' e h w =
          let l : k ≤ integer_most = omega (arith, ap length (clear-until integer_most n), until-few 128 integer_most n) in
          let c : n + (18446744073709551615 - n) + 1 ≡ 256 ^ 8 = omega (arith, held-minus e h) in
          renamed (brief_minus e ∙ ap flip lowest-clear ∙ flip-lowest k 8 n (18446744073709551615 - n) l c) w

pub ruleset brief_rules = (held-plus, held-minus, held_next, plus-width, minus-width, plus-room, minus-room, plus-done, minus-done)
