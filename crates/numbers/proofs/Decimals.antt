-- Integers as text: the text of an integer is in the grammar and says it, and a text that says an integer is its text.
-- Assumes nothing.
--   decimal-one, decimal-more    the digits of n, from those of n / 10
--   decimal-few                  there are 1 to 20
--   text-integral, text_says     the text of i is in the grammar, and says i
--   told                         what a text says, 8 bytes hold; and the text is its text
--   text_injective               two integers with one text are one
--   text_cut                     a text that begins with an integer begins with one only
--   text-bytes                   a text is bytes
use Rattle.std.specs.Prelude.{Option, Some, None}
use mathlib.Core.Path.{◌≡◌, refl, sym, ap, ◌∙◌}
use mathlib.Core.List.{List, [], ◌∷◌, ◌++◌, append_assoc, append-nil, head-eq_of_cons-eq, tail-eq_of_cons-eq}
use mathlib.Core.Bool.{Bool, true, false, ◌&&◌, ◌||◌, true≢false}
use Prim.Native.Nat.{ℕ, zero, suc, ◌+◌, ◌-◌, ◌*◌, ◌/◌, ◌%◌, ◌^◌, ◌<◌, ◌≤◌}
use native.Mathlib.Omega.{arith}
use lib.ListN.{length, length-append}
use lib.Dec.{ltb, leb, eqb}
use borrow.Author.Tests.{ltb-true, ltb-false, lt-ltb, le-ltb, leb-true, le-leb, eqb-true, eqb-false, eq-eqb, ne_eqb}
use Rattle.paper.specs.Checks.{choose}
use Rattle.numbers.specs.declared.Integer.{Integer}
use Rattle.numbers.specs.declared.Integer.TheVariants.{Plus, Minus}
use Rattle.numbers.specs.Bytes.{Bytes}
use Rattle.numbers.specs.Integer.{Held}
use Rattle.numbers.specs.Decimal.{digits, decimal, decimal_of, digit, digits_only, plain, integral, value_from, below, integer_said}
use Rattle.numbers.specs.Met.{plus_said, minus_said}

digits_last : (k n : ℕ) → n < 10 → digits (suc k) n ≡ (48 + n % 10) ∷ []
unfolding digits
digits_last k n h = rw (lt-ltb n 10 h)

digits-next : (k n : ℕ) → 10 ≤ n → digits (suc k) n ≡ digits k (n / 10) ++ ((48 + n % 10) ∷ [])
unfolding digits
digits-next k n h = rw (le-ltb n 10 h)

-- one step more of what it is given does not change it
digits-enough : (k n : ℕ) → n < 10 ^ suc k → digits (suc (suc k)) n ≡ digits (suc k) n
digits-enough zero n h = digits_last 1 n (omega (arith, h)) ∙ sym (digits_last 0 n (omega (arith, h)))
digits-enough (suc k) n h = go (ltb n 10) refl (digits-enough k (n / 10) (omega (arith, h)))
  where
    go : (t : Bool) → ltb n 10 ≡ t → digits (suc (suc k)) (n / 10) ≡ digits (suc k) (n / 10) → digits (suc (suc (suc k))) n ≡ digits (suc (suc k)) n
    go true e r = digits_last (suc (suc k)) n (ltb-true _ _ e) ∙ sym (digits_last (suc k) n (ltb-true _ _ e))
    go false e r =
        digits-next (suc (suc k)) n (ltb-false _ _ e) ∙ ap (λ (l : List ℕ). l ++ ((48 + n % 10) ∷ [])) r
        ∙ sym (digits-next (suc k) n (ltb-false _ _ e))

pub decimal-one : (n : ℕ) → n < 10 → decimal n ≡ (48 + n) ∷ []
unfolding decimal
decimal-one n h =
    let e : n % 10 ≡ n = omega arith in
    digits_last 19 n h ∙ ap (λ (x : ℕ). (48 + x) ∷ []) e

pub decimal-more : (n : ℕ) → 10 ≤ n → n < 10 ^ 20 → decimal n ≡ decimal (n / 10) ++ ((48 + n % 10) ∷ [])
unfolding decimal
decimal-more n h g = digits-next 19 n h ∙ ap (λ (l : List ℕ). l ++ ((48 + n % 10) ∷ [])) (sym (digits-enough 18 (n / 10) (omega arith)))

digits-few : (k n : ℕ) → length (digits k n) ≤ k
unfolding digits
digits-few zero n = omega arith
digits-few (suc k) n = go (ltb n 10) (digits-few k (n / 10))
  where
    go : (t : Bool) → length (digits k (n / 10)) ≤ k → length (choose t (λ _. []) (λ _. digits k (n / 10)) ++ ((48 + n % 10) ∷ [])) ≤ suc k
    go true h = omega arith
    go false h = omega (arith, length-append (digits k (n / 10)) ((48 + n % 10) ∷ []))

pub record Lengthy (t : List ℕ) : Type 0 where
  pub some : 1 ≤ length t
  pub few : length t ≤ 20

digits-some : (k n : ℕ) → 1 ≤ length (digits (suc k) n)
unfolding digits
digits-some k n = omega (arith, length-append (choose (ltb n 10) (λ _. []) (λ _. digits k (n / 10))) ((48 + n % 10) ∷ []))

pub decimal-few : (n : ℕ) → Lengthy (decimal n)
unfolding decimal
decimal-few n = record { some = digits-some 19 n; few = digits-few 20 n }

-- what an `&&` tells
both : (s t : Bool) → s && t ≡ true → (s ≡ true) × (t ≡ true)
both true t e = (refl, e)
both false t e = absurd (true≢false (sym e))

pub digit_low : (c : ℕ) → digit c ≡ true → 48 ≤ c
digit_low c e = leb-true 48 c (both (leb 48 c) (leb c 57) e).0

pub digit-high : (c : ℕ) → digit c ≡ true → c ≤ 57
digit-high c e = leb-true c 57 (both (leb 48 c) (leb c 57) e).1

is_digit : (c : ℕ) → 48 ≤ c → c ≤ 57 → digit c ≡ true
is_digit c h g = rw (le-leb 48 c h, le-leb c 57 g)

pub only-head : (c : ℕ) (t : List ℕ) → digits_only (c ∷ t) ≡ true → digit c ≡ true
unfolding digits_only
only-head c t e = (both (digit c) (digits_only t) e).0

pub only-tail : (c : ℕ) (t : List ℕ) → digits_only (c ∷ t) ≡ true → digits_only t ≡ true
unfolding digits_only
only-tail c t e = (both (digit c) (digits_only t) e).1

only_snoc : (t : List ℕ) (c : ℕ) → digits_only t ≡ true → digit c ≡ true → digits_only (t ++ (c ∷ [])) ≡ true
unfolding digits_only
only_snoc [] c e f = rw f
only_snoc (x ∷ t) c e f = rw (only-head x t e, only_snoc t c (only-tail x t e) f)

value_snoc : (a : ℕ) (t : List ℕ) (c : ℕ) → value_from a (t ++ (c ∷ [])) ≡ 10 * value_from a t + (c - 48)
unfolding value_from
value_snoc a [] c = refl
value_snoc a (x ∷ t) c = value_snoc (10 * a + (x - 48)) t c

-- digits whose first is not 0, or one digit
pub record Led (n : ℕ) (t : List ℕ) : Type 0 where
  pub head : ℕ
  pub tail : List ℕ
  pub whole : t ≡ head ∷ tail
  pub only : digits_only t ≡ true
  pub says : value_from 0 t ≡ n
  pub led : 1 ≤ n → 48 < head
  pub one : n < 10 → tail ≡ []

led-one : (n : ℕ) → n < 10 → Led n ((48 + n % 10) ∷ [])
unfolding digits_only value_from
led-one n h =
    record {
      head = 48 + n % 10;
      tail = [];
      whole = refl;
      only = rw (is_digit (48 + n % 10) (omega arith) (omega arith));
      says = omega arith;
      led = λ g. omega arith;
      one = λ g. refl;
    }

led-more : (n : ℕ) (t : List ℕ) → 10 ≤ n → Led (n / 10) t → Led n (t ++ ((48 + n % 10) ∷ []))
led-more n t h r =
    let e : 10 * value_from 0 t + (48 + n % 10 - 48) ≡ n = omega (arith, r.says) in
    record {
      head = r.head;
      tail = r.tail ++ ((48 + n % 10) ∷ []);
      whole = ap (λ (l : List ℕ). l ++ ((48 + n % 10) ∷ [])) r.whole;
      only = only_snoc t (48 + n % 10) r.only (is_digit (48 + n % 10) (omega arith) (omega arith));
      says = value_snoc 0 t (48 + n % 10) ∙ e;
      led = λ g. r.led (omega arith);
      one = λ g. absurd (omega arith);
    }

digits-led : (k n : ℕ) → n < 10 ^ suc k → Led n (digits (suc k) n)
digits-led zero n h = rw (digits_last 0 n (omega (arith, h))) (led-one n (omega (arith, h)))
digits-led (suc k) n h = go (ltb n 10) refl (digits-led k (n / 10) (omega (arith, h)))
  where
    go : (t : Bool) → ltb n 10 ≡ t → Led (n / 10) (digits (suc k) (n / 10)) → Led n (digits (suc (suc k)) n)
    go true e r = rw (digits_last (suc k) n (ltb-true _ _ e)) (led-one n (ltb-true _ _ e))
    go false e r = rw (digits-next (suc k) n (ltb-false _ _ e)) (led-more n (digits (suc k) (n / 10)) (ltb-false _ _ e) r)

pub decimal-led : (n : ℕ) → n < 10 ^ 20 → Led n (decimal n)
unfolding decimal
decimal-led n h = digits-led 19 n h

-- one digit, or a first that is not 0
plain-one : (c : ℕ) → digits_only (c ∷ []) ≡ true → plain (c ∷ []) ≡ true
unfolding plain digits_only
plain-one c e = rw (only-head c [] e)

plain-led : (c : ℕ) (t : List ℕ) → digits_only (c ∷ t) ≡ true → 48 < c → plain (c ∷ t) ≡ true
unfolding plain
plain-led c t e h = rw (only-head c t e, only-tail c t e, lt-ltb 48 c h) (or-true (eqb (length t) 0))
  where
    or-true : (b : Bool) → b || true ≡ true
    or-true true = refl
    or-true false = refl

led-plain : (n : ℕ) (t : List ℕ) → Led n t → plain t ≡ true
led-plain n t r = rw r.whole (go (ltb n 1) refl)
  where
    only : digits_only (r.head ∷ r.tail) ≡ true
    only = ap digits_only (sym r.whole) ∙ r.only

    go : (b : Bool) → ltb n 1 ≡ b → plain (r.head ∷ r.tail) ≡ true
    go true e =
        let f = r.one (omega (arith, ltb-true n 1 e)) in
        rw f (plain-one r.head (ap (λ (l : List ℕ). digits_only (r.head ∷ l)) (sym f) ∙ only))
    go false e = plain-led r.head r.tail only (r.led (ltb-false n 1 e))

record Plainly (c : ℕ) (t : List ℕ) : Type 0 where
  digit_first : digit c ≡ true
  digits_after : digits_only t ≡ true
  led : eqb (length t) 0 || ltb 48 c ≡ true

plainly : (c : ℕ) (t : List ℕ) → plain (c ∷ t) ≡ true → Plainly c t
unfolding plain
plainly c t e =
    let a = both (digit c && digits_only t) (eqb (length t) 0 || ltb 48 c) e in
    let b = both (digit c) (digits_only t) a.0 in
    record { digit_first = b.0; digits_after = b.1; led = a.1 }

pub plain-only : (t : List ℕ) → plain t ≡ true → digits_only t ≡ true
unfolding plain digits_only
plain-only [] e = refl
plain-only (c ∷ t) e = let p = plainly c t e in rw (p.digit_first, p.digits_after)

-- without a sign, and with one
pub integral-plus : (c : ℕ) (t : List ℕ) → (c ≡ 45 → ⊥) → integral (c ∷ t) ≡ plain (c ∷ t)
unfolding integral
integral-plus c t h = rw (ne_eqb c 45 h)

pub integral-minus : (c : ℕ) (t : List ℕ) → c ≡ 45 → integral (c ∷ t) ≡ plain t
unfolding integral
integral-minus c t h = rw (eq-eqb c 45 h)

pub said-plus : (c : ℕ) (t : List ℕ) → (c ≡ 45 → ⊥) → integer_said (c ∷ t) ≡ plus_said (value_from 0 (c ∷ t))
unfolding integer_said
said-plus c t h = rw (ne_eqb c 45 h)

pub said-minus : (c : ℕ) (t : List ℕ) → c ≡ 45 → integer_said (c ∷ t) ≡ minus_said (value_from 0 t)
unfolding integer_said
said-minus c t h = rw (eq-eqb c 45 h)

led-sign : (n c : ℕ) (t : List ℕ) → digits_only (c ∷ t) ≡ true → c ≡ 45 → ⊥
led-sign n c t e h = omega (arith, digit_low c (only-head c t e))

text-plus : (n : ℕ) (t : List ℕ) → n < 2 ^ 63 → Led n t → (integral t ≡ true) × (integer_said t ≡ Some (Plus n))
text-plus n t h r = go r.head r.tail r.whole
  where
    go : (c : ℕ) (v : List ℕ) → t ≡ c ∷ v → (integral t ≡ true) × (integer_said t ≡ Some (Plus n))
    go c v e =
        let o : digits_only (c ∷ v) ≡ true = ap digits_only (sym e) ∙ r.only in
        let w : value_from 0 (c ∷ v) ≡ n = ap (value_from 0) (sym e) ∙ r.says in (
          ap integral e ∙ integral-plus c v (led-sign n c v o) ∙ ap plain (sym e) ∙ led-plain n t r,
          ap integer_said e ∙ said-plus c v (led-sign n c v o) ∙ ap plus_said w ∙ rw (lt-ltb n (2 ^ 63) h),
        )

minus_is : (n : ℕ) → n < 2 ^ 63 → minus_said (n + 1) ≡ Some (Minus n)
minus_is n h =
    let e : n + 1 - 1 ≡ n = omega arith in
    rw (ne_eqb (n + 1) 0 (λ z. omega arith), e, lt-ltb n (2 ^ 63) h)

pub text-integral : (i : Integer) → Held i → integral (decimal_of i) ≡ true
unfolding decimal_of
text-integral (Plus n) h = (text-plus n (decimal n) h (decimal-led n (omega (arith, h)))).0
text-integral (Minus n) h = integral-minus 45 (decimal (n + 1)) refl ∙ led-plain (n + 1) (decimal (n + 1)) (decimal-led (n + 1) (omega (arith, h)))

pub text_says : (i : Integer) → Held i → integer_said (decimal_of i) ≡ Some i
unfolding decimal_of
text_says (Plus n) h = (text-plus n (decimal n) h (decimal-led n (omega (arith, h)))).1
text_says (Minus n) h =
    let r = decimal-led (n + 1) (omega (arith, h)) in
    said-minus 45 (decimal (n + 1)) refl ∙ ap minus_said r.says ∙ minus_is n h

-- two integers with one text are one
pub text_injective : (i j : Integer) → Held i → Held j → decimal_of i ≡ decimal_of j → i ≡ j
text_injective i j h g e =
    let f : Some i ≡ Some j = sym (text_says i h) ∙ ap integer_said e ∙ text_says j g in
    cc

pub value_up : (a : ℕ) (t : List ℕ) → a ≤ value_from a t
unfolding value_from
value_up a [] = omega arith
value_up a (c ∷ t) = omega (arith, value_up (10 * a + (c - 48)) t)

-- the digits after those of a number that is not 0
value-digits : (a : ℕ) (t : List ℕ) → 1 ≤ a → digits_only t ≡ true → value_from a t < 10 ^ 20 → decimal (value_from a t) ≡ decimal a ++ t
unfolding value_from
value-digits a [] h e g = sym (append-nil (decimal a))
value-digits a (c ∷ t) h e g =
    let lo = digit_low c (only-head c t e) in
    let hi = digit-high c (only-head c t e) in
    let b = 10 * a + (c - 48) in
    let q : b / 10 ≡ a = omega arith in
    let m : 48 + b % 10 ≡ c = omega arith in
    let r : decimal (value_from b t) ≡ decimal b ++ t = value-digits b t (omega arith) (only-tail c t e) g in
    let d : decimal b ≡ decimal a ++ (c ∷ []) = decimal-more b (omega arith) (omega (arith, value_up b t)) ∙ ap (λ (k : ℕ). decimal k ++ ((48 + b % 10) ∷ [])) q ∙ ap (λ (k : ℕ). decimal a ++ (k ∷ [])) m in
    r ∙ ap (λ (l : List ℕ). l ++ t) d ∙ append_assoc (decimal a) (c ∷ []) t

-- digits in the grammar are those of what they say
plain-is : (t : List ℕ) → plain t ≡ true → value_from 0 t < 10 ^ 20 → decimal (value_from 0 t) ≡ t
unfolding value_from plain
plain-is [] e g = absurd (true≢false (sym e))
plain-is (c ∷ t) e g =
    let p = plainly c t e in
    let z : 10 * 0 + (c - 48) ≡ c - 48 = omega arith in
    ap (λ (k : ℕ). decimal (value_from k t)) z ∙ go t (eqb (length t) 0) refl p.digits_after p.led (rw z at g)
  where
    lo : 48 ≤ c
    lo = digit_low c (plainly c t e).digit_first

    hi : c ≤ 57
    hi = digit-high c (plainly c t e).digit_first

    one : decimal (c - 48) ≡ c ∷ []
    one =
        let f : 48 + (c - 48) ≡ c = omega (arith, lo) in
        decimal-one (c - 48) (omega (arith, hi)) ∙ ap (λ (k : ℕ). k ∷ []) f

    none_left : (t : List ℕ) → length t ≡ 0 → t ≡ []
    none_left [] h = refl
    none_left (x ∷ t) h = absurd (omega arith)

    go : (t : List ℕ) (b : Bool) → eqb (length t) 0 ≡ b → digits_only t ≡ true → b || ltb 48 c ≡ true → value_from (c - 48) t < 10 ^ 20 → decimal (value_from (c - 48) t) ≡ c ∷ t
    go t true f o l g =
        let y = none_left t (eqb-true _ _ f) in
        ap (λ (l : List ℕ). decimal (value_from (c - 48) l)) y ∙ one ∙ ap (λ (l : List ℕ). c ∷ l) (sym y)
    go t false f o l g = value-digits (c - 48) t (omega (arith, ltb-true 48 c l)) o g ∙ ap (λ (l : List ℕ). l ++ t) one

-- what a text in the grammar says, and that it is its text
pub record Told (t : List ℕ) (i : Integer) : Type 0 where
  pub held : Held i
  pub text : decimal_of i ≡ t

below-is : (n : ℕ) (f : Integer) (i : Integer) → below n (λ _. f) ≡ Some i → (n < 2 ^ 63) × (f ≡ i)
below-is n f i e = go (ltb n (2 ^ 63)) refl e
  where
    go : (b : Bool) → ltb n (2 ^ 63) ≡ b → choose b (λ _. Some f) (λ _. None) ≡ Some i → (n < 2 ^ 63) × (f ≡ i)
    go true g x = (ltb-true _ _ g, cc)
    go false g x = let z : ◌≡◌ {A = ℕ} 0 1 = cc in absurd (omega arith)

told-plus : (t : List ℕ) (i : Integer) → plain t ≡ true → plus_said (value_from 0 t) ≡ Some i → Told t i
unfolding decimal_of
told-plus t i e x =
    let b = below-is (value_from 0 t) (Plus (value_from 0 t)) i x in
    rw (← b.1) (record { held = b.0; text = plain-is t e (omega (arith, b.0)) })

told-minus : (t : List ℕ) (i : Integer) → plain t ≡ true → minus_said (value_from 0 t) ≡ Some i → Told (45 ∷ t) i
unfolding decimal_of
told-minus t i e x = go (eqb (value_from 0 t) 0) refl x
  where
    go : (b : Bool) → eqb (value_from 0 t) 0 ≡ b → choose b (λ _. None) (λ _. below (value_from 0 t - 1) (λ _. Minus (value_from 0 t - 1))) ≡ Some i → Told (45 ∷ t) i
    go true f x = let z : ◌≡◌ {A = ℕ} 0 1 = cc in absurd (omega arith)
    go false f x =
        let b = below-is (value_from 0 t - 1) (Minus (value_from 0 t - 1)) i x in
        let n = eqb-false (value_from 0 t) 0 f in
        let s : value_from 0 t - 1 + 1 ≡ value_from 0 t = omega arith in
        let d : decimal (value_from 0 t - 1 + 1) ≡ t = ap decimal s ∙ plain-is t e (omega (arith, b.0)) in
        rw (← b.1) (record { held = b.0; text = ap (λ (l : List ℕ). 45 ∷ l) d })

pub told : (t : List ℕ) (i : Integer) → integral t ≡ true → integer_said t ≡ Some i → Told t i
unfolding integral integer_said
told [] i e x = absurd (true≢false (sym e))
told (c ∷ t) i e x = go (eqb c 45) refl
  where
    go : (b : Bool) → eqb c 45 ≡ b → Told (c ∷ t) i
    go true f =
        let s = eqb-true c 45 f in
        rw s (told-minus t i (sym (integral-minus c t s) ∙ e) (sym (said-minus c t s) ∙ x))
    go false f =
        let s = eqb-false c 45 f in
        told-plus (c ∷ t) i (sym (integral-plus c t s) ∙ e) (sym (said-plus c t s) ∙ x)

-- the same, as a caller of `integer_said` has it
pub said-held : (t : List ℕ) (r : Option Integer) (i : Integer) → integral t ≡ true → r ≡ integer_said t → r ≡ Some i → Held i
said-held t r i e f g = (told t i e (sym f ∙ g)).held

digits-bytes : (t : List ℕ) → digits_only t ≡ true → Bytes t
digits-bytes [] e = tt
digits-bytes (c ∷ t) e = (omega (arith, digit-high c (only-head c t e)), digits-bytes t (only-tail c t e))

pub text-bytes : (i : Integer) → Held i → Bytes (decimal_of i)
unfolding decimal_of
text-bytes (Plus n) h = digits-bytes (decimal n) (decimal-led n (omega (arith, h))).only
text-bytes (Minus n) h = (omega arith, digits-bytes (decimal (n + 1)) (decimal-led (n + 1) (omega (arith, h))).only)

-- what comes after a text goes on with no digit
abbrev pub Stop : List ℕ → Type 0
Stop [] = Unit {0}
Stop (c ∷ t) = digit c ≡ false

stopped : (c : ℕ) (t x y : List ℕ) {A : Type 0} → digits_only (c ∷ t) ≡ true → Stop x → x ≡ (c ∷ t) ++ y → A
stopped c t x y e s f = absurd (true≢false (sym (only-head c t e) ∙ (rw f at s)))

digits_cut : (a b x y : List ℕ) → digits_only a ≡ true → digits_only b ≡ true → Stop x → Stop y → a ++ x ≡ b ++ y → (a ≡ b) × (x ≡ y)
digits_cut [] [] x y f g s t e = (refl, e)
digits_cut [] (c ∷ b) x y f g s t e = stopped c b x y g s e
digits_cut (c ∷ a) [] x y f g s t e = stopped c a y x f t (sym e)
digits_cut (c ∷ a) (d ∷ b) x y f g s t e =
    let r = digits_cut a b x y (only-tail c a f) (only-tail d b g) s t (tail-eq_of_cons-eq e) in
    let z = head-eq_of_cons-eq e in
    (rw (z, r.0), r.1)

-- no digits begin with a sign
no_sign : (n : ℕ) (t x y : List ℕ) {A : Type 0} → Led n t → t ++ x ≡ 45 ∷ y → A
no_sign n t x y {A = A} r e = go r.head r.tail r.whole
  where
    go : (c : ℕ) (v : List ℕ) → t ≡ c ∷ v → A
    go c v f =
        let o : digits_only (c ∷ v) ≡ true = ap digits_only (sym f) ∙ r.only in
        let z : c ∷ (v ++ x) ≡ 45 ∷ y = ap (λ (l : List ℕ). l ++ x) (sym f) ∙ e in
        absurd (led-sign n c v o (head-eq_of_cons-eq z))

texts_cut : (i j : Integer) (x y : List ℕ) → Held i → Held j → Stop x → Stop y → decimal_of i ++ x ≡ decimal_of j ++ y → (decimal_of i ≡ decimal_of j) × (x ≡ y)
unfolding decimal_of
texts_cut (Plus n) (Plus m) x y h g s t e =
    digits_cut (decimal n) (decimal m) x y (decimal-led n (omega (arith, h))).only (decimal-led m (omega (arith, g))).only s t e
texts_cut (Plus n) (Minus m) x y h g s t e = no_sign n (decimal n) x (decimal (m + 1) ++ y) (decimal-led n (omega (arith, h))) e
texts_cut (Minus n) (Plus m) x y h g s t e = no_sign m (decimal m) y (decimal (n + 1) ++ x) (decimal-led m (omega (arith, g))) (sym e)
texts_cut (Minus n) (Minus m) x y h g s t e =
    let r = digits_cut (decimal (n + 1)) (decimal (m + 1)) x y (decimal-led (n + 1) (omega (arith, h))).only (decimal-led (m + 1) (omega (arith, g))).only s t (tail-eq_of_cons-eq e) in
    (ap (λ (l : List ℕ). 45 ∷ l) r.0, r.1)

-- a text that begins with an integer begins with one only
pub text_cut : (i j : Integer) (x y : List ℕ) → Held i → Held j → Stop x → Stop y → decimal_of i ++ x ≡ decimal_of j ++ y → (i ≡ j) × (x ≡ y)
text_cut i j x y h g s t e =
    let r = texts_cut i j x y h g s t e in
    (text_injective i j h g r.0, r.1)
