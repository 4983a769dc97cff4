-- The bytes of tokens, and runs of bytes that pass a test.
-- Assumes nothing.
--   sign-is, space-is    which bytes signs and spaces are
--   AllOf P w, Halts P x   every byte of w passes the test P; x goes on with none that does
--   leading-run, past-run  a run of them is passed; leading-all: and nothing else
--   Clean k              a token that the grammar knows, and no real; clean_tight: `less` leaves it
use mathlib.Core.Path.{◌≡◌, refl, sym, ap, ◌∙◌}
use mathlib.Core.List.{List, [], ◌∷◌, ◌++◌}
use mathlib.Core.Bool.{Bool, true, false, ◌||◌, true≢false}
use Prim.Native.Nat.{ℕ, suc, ◌+◌, ◌<◌, ◌≤◌}
use native.Mathlib.Omega.{arith}
use lib.ListN.{length, take, drop, length-drop}
use lib.Seq.{slice}
use lib.Dec.{eqb}
use borrow.Author.Tests.{eqb-true, eq-eqb}
use Rattle.paper.specs.Checks.{choose}
use Rattle.paper.proofs.Tests.{and_left, and_right, and_both, not_so, so_not}
use Rattle.numbers.specs.Decimal.{digit, digits_only, integral}
use Rattle.numbers.proofs.Decimals.{only-head, only-tail, plain-only, integral-plus, integral-minus}
use Rattle.numbers.proofs.Places.{slice-take}
use Rattle.payload.specs.Strings.{string_byte, well_spelt}
use Rattle.payload.specs.declared.Shape.TheVariants.{Set, Array}
use Rattle.payload.specs.Text.{quote, comma, colon, opens, closes, null_text, true_text, false_text}
use Rattle.payload.specs.Lying.{Lies}
use Rattle.payload.proofs.Lying.{part}
use Rattle.text.specs.Tokens.{Token, a_sign, a_string, a_null, a_boolean, an_integer, a_real, spelt, space, sign, letter, word_byte}
use Rattle.text.specs.Numerals.{leading}
use Rattle.text.specs.Scanning.{past}
use Rattle.text.specs.Spells.{blank}
use Rattle.text.proofs.Labels.{spelt_unquoted}
use Rattle.text.proofs.Flat.{Tight, Solids, solid_tight, string_tight}

or_by : (a b : Bool) {A : Type 0} → (a ≡ true → A) → (b ≡ true → A) → a || b ≡ true → A
or_by true b f g e = f refl
or_by false b f g e = g e

or-front : (a b : Bool) → a ≡ true → a || b ≡ true
or-front a b e = rw e

or-back : (a b : Bool) → b ≡ true → a || b ≡ true
or-back true b e = refl
or-back false b e = e

byte-is : (P : ℕ → Type 0) (c n : ℕ) → P n → eqb c n ≡ true → P c
byte-is P c n x e = rw (eqb-true c n e) x

pub sign-is : (P : ℕ → Type 0) → P (opens Set) → P (closes Set) → P (opens Array) → P (closes Array) → P colon → P comma → (c : ℕ) → sign c ≡ true → P c
unfolding sign
sign-is P x₁ x₂ x₃ x₄ x₅ x₆ c e =
    or_by _ _
    (or_by _ _
    (or_by _ _ (or_by _ _ (or_by _ _ (byte-is P c (opens Set) x₁) (byte-is P c (closes Set) x₂)) (byte-is P c (opens Array) x₃)) (byte-is P c (closes Array) x₄))
    (byte-is P c colon x₅))
    (byte-is P c comma x₆) e

pub space-is : (P : ℕ → Type 0) → P 0x20 → P 0x09 → P 0x0A → P 0x0D → (c : ℕ) → space c ≡ true → P c
unfolding space
space-is P x₁ x₂ x₃ x₄ c e =
    or_by _ _ (or_by _ _ (or_by _ _ (byte-is P c 0x20 x₁) (byte-is P c 0x09 x₂)) (byte-is P c 0x0A x₃)) (byte-is P c 0x0D x₄) e

pub word_no_space : (c : ℕ) → word_byte c ≡ true → space c ≡ false
unfolding word_byte letter
word_no_space c e = not_so (space c) λ s. so_not (word_byte c) (space-is (λ c. word_byte c ≡ false) refl refl refl refl c s) e

pub word_no_sign : (c : ℕ) → word_byte c ≡ true → sign c ≡ false
unfolding word_byte letter
word_no_sign c e = not_so (sign c) λ s. so_not (word_byte c) (sign-is (λ c. word_byte c ≡ false) refl refl refl refl refl refl c s) e

pub sign_no_word : (c : ℕ) → sign c ≡ true → word_byte c ≡ false
unfolding word_byte letter
sign_no_word c e = sign-is (λ c. word_byte c ≡ false) refl refl refl refl refl refl c e

pub space_no_word : (c : ℕ) → space c ≡ true → word_byte c ≡ false
unfolding word_byte letter
space_no_word c e = space-is (λ c. word_byte c ≡ false) refl refl refl refl c e

pub sign_no_space : (c : ℕ) → sign c ≡ true → space c ≡ false
unfolding space
sign_no_space c e = sign-is (λ c. space c ≡ false) refl refl refl refl refl refl c e

pub word_no_quote : (c : ℕ) → word_byte c ≡ true → eqb c quote ≡ false
unfolding word_byte letter
word_no_quote c e = not_so (eqb c quote) λ s. so_not (word_byte c) (byte-is (λ c. word_byte c ≡ false) c quote refl s) e

sign_no_quote : (c : ℕ) → sign c ≡ true → eqb c quote ≡ false
sign_no_quote c e = sign-is (λ c. eqb c quote ≡ false) refl refl refl refl refl refl c e

digit-word : (c : ℕ) → digit c ≡ true → word_byte c ≡ true
unfolding word_byte
digit-word c e = or-front _ _ (or-front _ _ (or-front _ _ (or-back (letter c) (digit c) e)))

minus-word : (c : ℕ) → c ≡ 45 → word_byte c ≡ true
unfolding word_byte letter
minus-word c e = rw e

unfoldable pub AllOf : (ℕ → Bool) → List ℕ → Type 0
AllOf P [] = Unit {0}
AllOf P (c ∷ w) = (P c ≡ true) × AllOf P w

abbrev pub Halts : (ℕ → Bool) → List ℕ → Type 0
Halts P [] = Unit {0}
Halts P (c ∷ x) = P c ≡ false

pub blank-all : (b : List ℕ) → blank b ≡ true → AllOf space b
unfolding AllOf blank
blank-all [] e = tt
blank-all (c ∷ b) e = (and_left (space c) (blank b) e, blank-all b (and_right (space c) (blank b) e))

pub all-blank : (b : List ℕ) → AllOf space b → blank b ≡ true
unfolding AllOf blank
all-blank [] h = refl
all-blank (c ∷ b) h = and_both (space c) (blank b) h.0 (all-blank b h.1)

pub spelt-all : (b : List ℕ) → well_spelt b ≡ true → AllOf string_byte b
unfolding AllOf well_spelt
spelt-all [] e = tt
spelt-all (c ∷ b) e = (and_left (string_byte c) (well_spelt b) e, spelt-all b (and_right (string_byte c) (well_spelt b) e))

pub all-spelt : (b : List ℕ) → AllOf string_byte b → well_spelt b ≡ true
unfolding AllOf well_spelt
all-spelt [] h = refl
all-spelt (c ∷ b) h = and_both (string_byte c) (well_spelt b) h.0 (all-spelt b h.1)

digits-word : (w : List ℕ) → digits_only w ≡ true → AllOf word_byte w
unfolding AllOf
digits-word [] e = tt
digits-word (c ∷ w) e = (digit-word c (only-head c w e), digits-word w (only-tail c w e))

pub integral-word : (w : List ℕ) → integral w ≡ true → AllOf word_byte w
unfolding AllOf
integral-word [] e = tt
integral-word (c ∷ t) e = go (eqb c 45) refl
  where
    go : (b : Bool) → eqb c 45 ≡ b → AllOf word_byte (c ∷ t)
    go true f =
        let z = eqb-true c 45 f in
        (minus-word c z, digits-word t (plain-only t (sym (integral-minus c t z) ∙ e)))
    go false f = digits-word (c ∷ t) (plain-only (c ∷ t) (sym (integral-plus c t (λ z. so_not (eqb c 45) f (eq-eqb c 45 z))) ∙ e))

word_solid : (w : List ℕ) → AllOf word_byte w → Solids w
unfolding AllOf Solids
word_solid [] h = tt
word_solid (c ∷ w) h = (record { no_quote = word_no_quote c h.0; no_space = word_no_space c h.0 }, word_solid w h.1)

module _ (P : ℕ → Bool) where
  pub leading-run : (w x : List ℕ) → AllOf P w → Halts P x → leading P (w ++ x) ≡ length w
  unfolding AllOf leading
  leading-run [] [] h g = refl
  leading-run [] (c ∷ x) h g = rw g
  leading-run (c ∷ w) x h g = rw h.0 (ap suc (leading-run w x h.1 g))

  leading-all : (x : List ℕ) → AllOf P (take (leading P x) x)
  unfolding AllOf leading
  leading-all [] = tt
  leading-all (c ∷ x) = go (P c) refl (leading-all x)
    where
      go : (b : Bool) → P c ≡ b → AllOf P (take (leading P x) x) → AllOf P (take (choose b (λ _. suc (leading P x)) (λ _. 0)) (c ∷ x))
      go true e h = (e, h)
      go false e h = tt

  leading-few : (x : List ℕ) → leading P x ≤ length x
  unfolding leading
  leading-few [] = omega arith
  leading-few (c ∷ x) = go (P c) (leading-few x)
    where
      go : (b : Bool) → leading P x ≤ length x → choose b (λ _. suc (leading P x)) (λ _. 0) ≤ suc (length x)
      go true h = omega arith
      go false h = omega arith

  pub past-run : (s w x : List ℕ) (p : ℕ) → drop p s ≡ w ++ x → AllOf P w → Halts P x → past P s p ≡ p + length w
  unfolding past
  past-run s w x p e h g = ap (λ (k : ℕ). p + k) (ap (leading P) e ∙ leading-run w x h g)

  pub past-least : (s : List ℕ) (p : ℕ) → p ≤ past P s p
  unfolding past
  past-least s p = omega arith

  pub past-most : (s : List ℕ) (p : ℕ) → p ≤ length s → past P s p ≤ length s
  unfolding past
  past-most s p h = omega (arith, leading-few (drop p s), length-drop p s)

  pub past_all : (s : List ℕ) (p : ℕ) → AllOf P (slice p (past P s p) s)
  unfolding past
  past_all s p = rw (slice-take s p (leading P (drop p s))) (leading-all (drop p s))

  -- what a run of P leaves behind it, from p to where it ends
  pub past-lies : (s : List ℕ) (p : ℕ) → p ≤ length s → Lies s (slice p (past P s p) s) p (past P s p)
  past-lies s p h = part s p (past P s p) (past-least s p) (past-most s p h)

pub drop-inside : (s x : List ℕ) (c p : ℕ) → drop p s ≡ c ∷ x → p < length s
drop-inside s x c p e = omega (arith, ap length e, length-drop p s)

abbrev pub Clean : Token → Type 0
Clean (a_sign b) = sign b ≡ true
Clean (a_string t) = well_spelt t ≡ true
Clean a_null = Unit {0}
Clean (a_boolean b) = Unit {0}
Clean (an_integer w) = integral w ≡ true
Clean (a_real w) = ⊥

pub null_word : AllOf word_byte null_text
unfolding AllOf word_byte letter
null_word = (refl, (refl, (refl, (refl, tt))))

pub true-word : AllOf word_byte true_text
unfolding AllOf word_byte letter
true-word = (refl, (refl, (refl, (refl, tt))))

pub false-word : AllOf word_byte false_text
unfolding AllOf word_byte letter
false-word = (refl, (refl, (refl, (refl, (refl, tt)))))

pub clean_tight : (k : Token) → Clean k → Tight k
unfolding Solids
clean_tight (a_sign b) h x = solid_tight (b ∷ []) x (record { no_quote = sign_no_quote b h; no_space = sign_no_space b h }, tt)
clean_tight (a_string t) h x = string_tight t (spelt_unquoted t h) x
clean_tight a_null h x = solid_tight null_text x (word_solid null_text null_word)
clean_tight (a_boolean true) h x = solid_tight true_text x (word_solid true_text true-word)
clean_tight (a_boolean false) h x = solid_tight false_text x (word_solid false_text false-word)
clean_tight (an_integer w) h x = solid_tight w x (word_solid w (integral-word w h))
clean_tight (a_real w) h x = absurd h

-- what may follow a token: a word goes on with no byte of a word
abbrev pub Ends : Token → List ℕ → Type 0
Ends (a_sign b) x = Unit {0}
Ends (a_string t) x = Unit {0}
Ends a_null x = Halts word_byte x
Ends (a_boolean b) x = Halts word_byte x
Ends (an_integer w) x = Halts word_byte x
Ends (a_real w) x = Halts word_byte x

-- no clean token begins with a space
pub clean_halts : (k : Token) (x : List ℕ) → Clean k → Halts space (spelt k ++ x)
unfolding space integral AllOf
clean_halts (a_sign b) x h = sign_no_space b h
clean_halts (a_string t) x h = refl
clean_halts a_null x h = refl
clean_halts (a_boolean true) x h = refl
clean_halts (a_boolean false) x h = refl
clean_halts (an_integer []) x h = absurd (bad h)
  where
    bad : integral [] ≡ true → ⊥
    bad e = true≢false (sym e)
clean_halts (an_integer (c ∷ w)) x h = word_no_space c (head-all (integral-word (c ∷ w) h))
  where
    head-all : AllOf word_byte (c ∷ w) → word_byte c ≡ true
    head-all y = y.0
clean_halts (a_real w) x h = absurd h
