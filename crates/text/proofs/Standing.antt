-- One token: what is spelt at a place is the token there, and the token at a place is spelt there.
-- Assumes nothing.
--   token_complete       a clean token that is spelt at a place, before what ends it, is the token there
--   token-sound          the token at a place is spelt there, and is clean unless it is a real
use mathlib.Core.Path.{◌≡◌, refl, sym, ap, ◌∙◌}
use mathlib.Core.List.{List, [], ◌∷◌, ◌++◌, append_assoc}
use mathlib.Core.Bool.{Bool, true, false}
use Prim.Native.Nat.{ℕ, ◌+◌, ◌<◌, ◌≤◌}
use native.Mathlib.Omega.{arith}
use lib.ListN.{length, drop, length-append, length-drop}
use lib.Seq.{slice}
use lib.Dec.{leb, eqb}
use borrow.Author.Tests.{eqb-true, lt-leb, leb-false}
use Rattle.paper.specs.Refusals.{bad_text}
use Rattle.paper.specs.Checks.{choose, good, need}
use Rattle.paper.specs.Tests.{same}
use Rattle.paper.proofs.Tests.{so_not, same_true, same_ne}
use Rattle.paper.proofs.Checks.{same_place, same_thing, passed, needed}
use Rattle.numbers.specs.Bytes.{byte}
use Rattle.numbers.specs.Decimal.{plain, integral}
use Rattle.numbers.proofs.Places.{first, slice_is}
use Rattle.dictionary.specs.Accepts.{name_byte}
use Rattle.payload.specs.Strings.{string_byte}
use Rattle.payload.specs.Text.{quote, null_text, true_text, false_text, quoted}
use Rattle.payload.specs.Lying.{Lies}
use Rattle.payload.proofs.Lying.{drop_past, one, join}
use Rattle.text.specs.Tokens.{Token, a_sign, a_string, a_null, a_boolean, an_integer, a_real, spelt, sign, word_byte}
use Rattle.text.specs.Numerals.{numeral}
use Rattle.text.specs.Scanning.{past, string_at, numeral_at, word_at, token_at}
use Rattle.text.proofs.Cutting.{AllOf, Halts, integral-word, spelt-all, all-spelt, word_no_sign, word_no_quote, past-run, past_all, past-lies, drop-inside, Clean, Ends, null_word, true-word, false-word}

-- the token k stands at p, up to q, before x
pub record Stands (s : List ℕ) (p q : ℕ) (k : Token) (x : List ℕ) : Type 0 where
  pub is : token_at s p ≡ good q 0 k
  pub rest : drop q s ≡ x
  pub further : p < q
  pub within : q ≤ length s

module _ (s : List ℕ) (p : ℕ) where
  sign-stands : (b : ℕ) (x : List ℕ) → sign b ≡ true → drop p s ≡ b ∷ x → Stands s p (p + 1) (a_sign b) x
  unfolding token_at
  sign-stands b x h e =
      let i = drop-inside s x b p e in
      record {
        is = rw (lt-leb (length s) p i, first s x b p e, h);
        rest = drop_past s (b ∷ []) x p e;
        further = omega arith;
        within = omega arith;
      }

  string-stands : (t x : List ℕ) → AllOf string_byte t → drop p s ≡ quoted t ++ x → Stands s p (p + 1 + length t + 1) (a_string t) x
  unfolding token_at string_at sign string_byte name_byte
  string-stands t x h e =
      let e' : drop p s ≡ quote ∷ (t ++ (quote ∷ x)) = e ∙ ap (λ (l : List ℕ). quote ∷ l) (append_assoc t (quote ∷ []) x) in
      let e₁ : drop (p + 1) s ≡ t ++ (quote ∷ x) = drop_past s (quote ∷ []) (t ++ (quote ∷ x)) p e' in
      let e₂ : drop (p + 1 + length t) s ≡ quote ∷ x = drop_past s t (quote ∷ x) (p + 1) e₁ in
      let i = drop-inside s (t ++ (quote ∷ x)) quote p e' in
      let j = drop-inside s x quote (p + 1 + length t) e₂ in
      let z : past string_byte s (p + 1) ≡ p + 1 + length t = past-run string_byte s t (quote ∷ x) (p + 1) e₁ h refl in
      record {
        is = rw (lt-leb (length s) p i, first s (t ++ (quote ∷ x)) quote p e', z, lt-leb (length s) (p + 1 + length t) j, first s x quote (p + 1 + length t) e₂, slice_is s t (quote ∷ x) (p + 1) e₁);
        rest = drop_past s (quote ∷ []) x (p + 1 + length t) e₂;
        further = omega arith;
        within = omega arith;
      }

  word_stands : (c : ℕ) (w x : List ℕ) (k : Token) → AllOf word_byte (c ∷ w) → Halts word_byte x → word_at (c ∷ w) p (p + length (c ∷ w)) ≡ good (p + length (c ∷ w)) 0 k → drop p s ≡ (c ∷ w) ++ x → Stands s p (p + length (c ∷ w)) k x
  unfolding token_at AllOf
  word_stands c w x k h g m e =
      let i = drop-inside s (w ++ x) c p e in
      let z : past word_byte s p ≡ p + length (c ∷ w) = past-run word_byte s (c ∷ w) x p e h g in
      record {
        is = rw (lt-leb (length s) p i, first s (w ++ x) c p e, word_no_sign c h.0, word_no_quote c h.0, z, slice_is s (c ∷ w) x p e) m;
        rest = drop_past s (c ∷ w) x p e;
        further = omega arith;
        within = omega (arith, ap length e, length-drop p s, length-append w x);
      }

integral-not : (w v : List ℕ) → integral v ≡ false → integral w ≡ true → same w v ≡ false
integral-not w v f e = same_ne w v (λ z. so_not (integral v) f (ap integral (sym z) ∙ e))

integer-word : (w : List ℕ) (p q : ℕ) → integral w ≡ true → word_at w p q ≡ good q 0 (an_integer w)
unfolding word_at numeral_at integral plain
integer-word w p q e = rw (integral-not w null_text refl e, integral-not w true_text refl e, integral-not w false_text refl e, e)

pub token_complete : (s : List ℕ) (p : ℕ) (k : Token) (x : List ℕ) → Clean k → Ends k x → drop p s ≡ spelt k ++ x → (q : ℕ) × Stands s p q k x
unfolding word_at numeral_at same integral
token_complete s p (a_sign b) x h g e = (p + 1, sign-stands s p b x h e)
token_complete s p (a_string t) x h g e = (p + 1 + length t + 1, string-stands s p t x (spelt-all t h) e)
token_complete s p a_null x h g e = (p + 4, word_stands s p 110 (117 ∷ 108 ∷ 108 ∷ []) x a_null null_word g refl e)
token_complete s p (a_boolean true) x h g e = (p + 4, word_stands s p 116 (114 ∷ 117 ∷ 101 ∷ []) x (a_boolean true) true-word g refl e)
token_complete s p (a_boolean false) x h g e = (p + 5, word_stands s p 102 (97 ∷ 108 ∷ 115 ∷ 101 ∷ []) x (a_boolean false) false-word g refl e)
token_complete s p (an_integer []) x h g e = absurd (let z : ◌≡◌ {A = ℕ} 0 1 = cc in omega arith)
token_complete s p (an_integer (c ∷ w)) x h g e = (p + length (c ∷ w), word_stands s p c w x (an_integer (c ∷ w)) (integral-word (c ∷ w) h) g (integer-word (c ∷ w) p _ h) e)
token_complete s p (a_real w) x h g e = absurd h

-- as `Clean`, and a real
abbrev pub Known : Token → Type 0
Known (a_sign b) = Clean (a_sign b)
Known (a_string t) = Clean (a_string t)
Known a_null = Unit {0}
Known (a_boolean b) = Unit {0}
Known (an_integer w) = Clean (an_integer w)
Known (a_real w) = Unit {0}

pub record CutOff (s : List ℕ) (p q : ℕ) (k : Token) : Type 0 where
  pub known : Known k
  pub lies : Lies s (spelt k) p q

module _ (s : List ℕ) (p : ℕ) where
  off_recast : {q l q' l' : ℕ} {k k' : Token} → good q l k ≡ good q' l' k' → CutOff s p q k → CutOff s p q' k'
  off_recast e y = let a = same_place e in let b = same_thing e in rw (a, b) at y

  word-off : (w : List ℕ) (q q' l : ℕ) (k : Token) → Lies s w p q → word_at w p q ≡ good q' l k → CutOff s p q' k
  unfolding word_at numeral_at
  word-off w q q' l k y = go (same w null_text) (same w true_text) (same w false_text) (integral w) refl refl refl refl
    where
      whole : (v : List ℕ) → same w v ≡ true → Lies s v p q
      whole v e = rw (same_true w v e) at y

      go : (a b c e : Bool) → same w null_text ≡ a → same w true_text ≡ b → same w false_text ≡ c → integral w ≡ e
          → (choose a (λ _. good q 0 a_null) λ _. choose b (λ _. good q 0 (a_boolean true)) λ _. choose c (λ _. good q 0 (a_boolean false)) λ _. choose e (λ _. good q 0 (an_integer w)) λ _. need (numeral w) bad_text p λ _. good q 0 (a_real w)) ≡ good q' l k
          → CutOff s p q' k
      go true b c e f₁ f₂ f₃ f₄ m = off_recast m (record { known = tt; lies = whole null_text f₁ })
      go false true c e f₁ f₂ f₃ f₄ m = off_recast m (record { known = tt; lies = whole true_text f₂ })
      go false false true e f₁ f₂ f₃ f₄ m = off_recast m (record { known = tt; lies = whole false_text f₃ })
      go false false false true f₁ f₂ f₃ f₄ m = off_recast m (record { known = f₄; lies = y })
      go false false false false f₁ f₂ f₃ f₄ m = let a = needed q' l k (numeral w) _ _ _ m in off_recast a.1 (record { known = tt; lies = y })

  string-off : (q' l : ℕ) (k : Token) → p < length s → byte s p ≡ quote → string_at s p (past string_byte s (p + 1)) ≡ good q' l k → CutOff s p q' k
  unfolding string_at
  string-off q' l k h e m =
      let q = past string_byte s (p + 1) in
      let a = passed q' l k (leb (length s) q) _ _ _ m in
      let b = needed q' l k (eqb (byte s q) quote) _ _ _ a.1 in
      let t = slice (p + 1) q s in
      let y₁ : Lies s (quote ∷ []) p (p + 1) = rw e at (one s p h) in
      let y₂ = past-lies string_byte s (p + 1) (omega arith) in
      let y₃ : Lies s (quote ∷ []) q (q + 1) = rw (eqb-true (byte s q) quote b.0) at (one s q (leb-false (length s) q a.0)) in
      off_recast b.1
      (record { known = all-spelt t (past_all string_byte s (p + 1)); lies = join (quote ∷ []) (t ++ (quote ∷ [])) y₁ (join t (quote ∷ []) y₂ y₃) })

  pub token-sound : (q l : ℕ) (k : Token) → token_at s p ≡ good q l k → CutOff s p q k
  unfolding token_at
  token-sound q l k m =
      let a = passed q l k (leb (length s) p) _ _ _ m in
      let i = leb-false (length s) p a.0 in
      go i (sign (byte s p)) (eqb (byte s p) quote) refl refl a.1
    where
      go : p < length s → (a b : Bool) → sign (byte s p) ≡ a → eqb (byte s p) quote ≡ b
          → (choose a (λ _. good (p + 1) 0 (a_sign (byte s p))) λ _. choose b (λ _. string_at s p (past string_byte s (p + 1))) λ _. word_at (slice p (past word_byte s p) s) p (past word_byte s p)) ≡ good q l k
          → CutOff s p q k
      go i true b f₁ f₂ m = off_recast m (record { known = f₁; lies = one s p i })
      go i false true f₁ f₂ m = string-off q l k i (eqb-true (byte s p) quote f₂) m
      go i false false f₁ f₂ m = word-off (slice p (past word_byte s p) s) (past word_byte s p) q l k (past-lies word_byte s p (omega arith)) m
