-- A token's own grammar: no token is given exactly where it breaks, with the place that the table names.
-- Assumes nothing.
--   broken-refused, refused-broken   the two ways
--   broken-place                     the place is inside the text, or its end
use mathlib.Core.Path.{◌≡◌, refl, sym}
use mathlib.Core.List.{List}
use mathlib.Core.Bool.{Bool, true, false}
use Prim.Native.Nat.{ℕ, ◌+◌, ◌<◌, ◌≤◌}
use native.Mathlib.Omega.{arith}
use lib.ListN.{length}
use lib.Seq.{slice}
use lib.Dec.{leb, eqb}
use borrow.Author.Tests.{leb-true, leb-false, le-leb, lt-leb, eqb-true, eqb-false, ne_eqb}
use Rattle.paper.specs.Refusals.{bad_text}
use Rattle.paper.specs.Checks.{choose, refused, good, need}
use Rattle.paper.specs.Tests.{same}
use Rattle.paper.proofs.Tests.{so_not, same_eq, same_ne}
use Rattle.paper.proofs.Checks.{never, refuse_stop, need_stop}
use Rattle.numbers.specs.Bytes.{byte}
use Rattle.numbers.specs.Decimal.{integral}
use Rattle.payload.specs.Strings.{string_byte}
use Rattle.payload.specs.Text.{quote, null_text, true_text, false_text}
use Rattle.text.specs.Tokens.{a_sign, a_null, a_boolean, an_integer, a_real, sign, word_byte}
use Rattle.text.specs.Numerals.{numeral}
use Rattle.text.specs.Scanning.{past, string_at, numeral_at, word_at, token_at}
use Rattle.text.specs.Refusing.{Broken, no_more, unclosed, wrong_byte, no_word}

module _ (s : List ℕ) (p w : ℕ) where
  pub broken-refused : Broken s p w → token_at s p ≡ refused bad_text w
  unfolding token_at string_at word_at numeral_at sign
  broken-refused (no_more h e) = rw (le-leb (length s) p h, e)
  broken-refused (unclosed h q l e) = rw (lt-leb (length s) p h, q, le-leb (length s) (past string_byte s (p + 1)) l, e)
  broken-refused (wrong_byte h q l n e) = rw (lt-leb (length s) p h, q, lt-leb (length s) (past string_byte s (p + 1)) l, ne_eqb (byte s (past string_byte s (p + 1))) quote n, e)
  broken-refused (no_word h g n v ev a b c i m e) =
      rw (lt-leb (length s) p h, g, ne_eqb (byte s p) quote n, sym ev, same_ne v null_text a, same_ne v true_text b, same_ne v false_text c, i, m, e)

  pub broken-place : Broken s p w → p ≤ length s → w ≤ length s
  broken-place (no_more h e) l = omega arith
  broken-place (unclosed h q z e) l = omega arith
  broken-place (wrong_byte h q z n e) l = omega arith
  broken-place (no_word h g n v ev a b c i m e) l = omega arith

  pub refused-broken : (k : ℕ) → token_at s p ≡ refused k w → (k ≡ bad_text) × Broken s p w
  unfolding token_at string_at word_at numeral_at
  refused-broken k e =
      refuse_stop (leb (length s) p) bad_text (length s) _ e (λ b i j. (i, no_more (leb-true (length s) p b) j)) λ b e₁.
      token (leb-false (length s) p b) (sign (byte s p)) (eqb (byte s p) quote) refl refl e₁
    where
      differs : (v u : List ℕ) → same v u ≡ false → v ≡ u → ⊥
      differs v u f z = so_not (same v u) f (same_eq v u z)

      word : p < length s → sign (byte s p) ≡ false → (byte s p ≡ quote → ⊥) → (v : List ℕ) → v ≡ slice p (past word_byte s p) s → (q : ℕ) (a b c i : Bool) → same v null_text ≡ a → same v true_text ≡ b → same v false_text ≡ c → integral v ≡ i
          → (choose a (λ _. good q 0 a_null) λ _. choose b (λ _. good q 0 (a_boolean true)) λ _. choose c (λ _. good q 0 (a_boolean false)) λ _. choose i (λ _. good q 0 (an_integer v)) λ _. need (numeral v) bad_text p λ _. good q 0 (a_real v)) ≡ refused k w
          → (k ≡ bad_text) × Broken s p w
      word h g n v ev q true b c i f₁ f₂ f₃ f₄ x = never (sym x)
      word h g n v ev q false true c i f₁ f₂ f₃ f₄ x = never (sym x)
      word h g n v ev q false false true i f₁ f₂ f₃ f₄ x = never (sym x)
      word h g n v ev q false false false true f₁ f₂ f₃ f₄ x = never (sym x)
      word h g n v ev q false false false false f₁ f₂ f₃ f₄ x =
          need_stop (numeral v) bad_text p _ x (λ m y z. (y, no_word h g n v ev (differs v null_text f₁) (differs v true_text f₂) (differs v false_text f₃) f₄ m z)) λ m y. never (sym y)

      token : p < length s → (a b : Bool) → sign (byte s p) ≡ a → eqb (byte s p) quote ≡ b
          → (choose a (λ _. good (p + 1) 0 (a_sign (byte s p))) λ _. choose b (λ _. string_at s p (past string_byte s (p + 1))) λ _. word_at (slice p (past word_byte s p) s) p (past word_byte s p)) ≡ refused k w
          → (k ≡ bad_text) × Broken s p w
      token h true b f g x = never (sym x)
      token h false true f g x =
          let q = past string_byte s (p + 1) in
          refuse_stop (leb (length s) q) bad_text (length s) _ x (λ b i j. (i, unclosed h (eqb-true (byte s p) quote g) (leb-true (length s) q b) j)) λ b x₁.
          need_stop (eqb (byte s q) quote) bad_text p _ x₁ (λ c i j. (i, wrong_byte h (eqb-true (byte s p) quote g) (leb-false (length s) q b) (eqb-false (byte s q) quote c) j)) λ c x₂.
          never (sym x₂)
      token h false false f g x =
          let v = slice p (past word_byte s p) s in
          word h f (eqb-false (byte s p) quote g) v refl (past word_byte s p) (same v null_text) (same v true_text) (same v false_text) (integral v) refl refl refl refl x
