-- The token at a place, one lemma for each return of the functions that read it, and where a token lies.
-- Assumes nothing.
use Prim.Native.Nat.{ℕ, ◌+◌, ◌-◌, ◌≤◌}
use mathlib.Core.Path.{◌≡◌, refl, sym, ap, ◌∙◌}
use mathlib.Core.List.{List, [], ◌∷◌}
use mathlib.Core.Bool.{Bool, true, false, ◌&&◌, true≢false}
use native.Mathlib.Omega.{arith}
use lib.ListN.{length, take, drop, length-append}
use lib.Seq.{slice}
use lib.Dec.{eqb}
use Rattle.std.specs.Prelude.{Result, Ok, Err}
use Rattle.paper.specs.declared.Refused.{Refused}
use Rattle.paper.specs.Tests.{same}
use Rattle.paper.proofs.Tests.{same_ne}
use Rattle.numbers.specs.Bytes.{byte}
use Rattle.numbers.specs.Decimal.{integral}
use Rattle.numbers.proofs.Places.{slice-take}
use Rattle.payload.specs.Text.{quote}
use Rattle.payload.proofs.Lying.{lies-end}
use Rattle.paper.specs.Checks.{Judged}
use Rattle.text.specs.Tokens as tokens
use Rattle.text.specs.Tokens.{sign, word_byte}
use Rattle.text.specs.Scanning.{past, word_at, token_at}
use Rattle.text.proofs.Standing.{token-sound}
use Rattle.writer_tokens.specs.declared.Token.{Token}
use Rattle.writer_tokens.specs.declared.Token.TheVariants.{Sign, String, Null, Boolean, Integer, Real}
use Rattle.writer_tokens.specs.Met.{meant, LiesIn, Scanned}

-- a word of four bytes or five, byte by byte
pub same_other : (w t : List ℕ) → (length w ≡ length t → ⊥) → same w t ≡ false
same_other w t x = same_ne w t λ f. x (ap length f)

pub same_4 : (w : List ℕ) (a b c d : ℕ) → length w ≡ 4 → same w (a ∷ b ∷ c ∷ d ∷ []) ≡ eqb (byte w 0) a && (eqb (byte w 1) b && (eqb (byte w 2) c && (eqb (byte w 3) d && true)))
unfolding same
same_4 [] a b c d h = absurd (omega arith)
same_4 (x ∷ []) a b c d h = absurd (omega arith)
same_4 (x ∷ y ∷ []) a b c d h = absurd (omega arith)
same_4 (x ∷ y ∷ z ∷ []) a b c d h = absurd (omega arith)
same_4 (x ∷ y ∷ z ∷ u ∷ []) a b c d h = refl
same_4 (x ∷ y ∷ z ∷ u ∷ v ∷ w) a b c d h = absurd (omega arith)

pub same_5 : (w : List ℕ) (a b c d e : ℕ) → length w ≡ 5 → same w (a ∷ b ∷ c ∷ d ∷ e ∷ []) ≡ eqb (byte w 0) a && (eqb (byte w 1) b && (eqb (byte w 2) c && (eqb (byte w 3) d && (eqb (byte w 4) e && true))))
unfolding same
same_5 [] a b c d e h = absurd (omega arith)
same_5 (x ∷ w) a b c d e h = ap (λ (t : Bool). eqb x a && t) (same_4 w b c d e (omega arith))

pub ruleset spelt = (same_other, same_4, same_5)

-- the run from p to q, as a part of the lent bytes
pub part : (s : List ℕ) (p q : ℕ) → p ≤ q → take (q - p) (drop p s) ≡ slice p q s
part s p q h = let e : p + (q - p) ≡ q = omega arith in sym (slice-take s p (q - p)) ∙ ap (λ (k : ℕ). slice p k s) e

pub worded : (s : List ℕ) (p q : ℕ) (j : Judged tokens.Token) → q ≡ past word_byte s p → p ≤ q → word_at (take (q - p) (drop p s)) p q ≡ j → word_at (slice p (past word_byte s p) s) p (past word_byte s p) ≡ j
worded s p q j e h f = rw (← e, ← part s p q h) f

-- where a token lies
integral-some : (w : List ℕ) → integral w ≡ true → 1 ≤ length w
unfolding integral
integral-some [] e = absurd (true≢false (sym e))
integral-some (x ∷ w) e = omega arith

pub lies-of : (s : List ℕ) (p : ℕ) (r : Result Token Refused) → token_at s p ≡ meant s p r → LiesIn s p r
lies-of s p (Err k) e = tt
lies-of s p (Ok (Sign b)) e = let y = token-sound s p _ _ _ e in record { further = omega arith; within = lies-end y.lies }
lies-of s p (Ok (String q)) e =
    let y = token-sound s p _ _ _ e in
    record { further = omega (arith, y.lies.ends, length-append (slice (p + 1) q s) (quote ∷ [])); within = lies-end y.lies }
lies-of s p (Ok (Null q)) e = let y = token-sound s p _ _ _ e in record { further = omega (arith, y.lies.ends); within = lies-end y.lies }
lies-of s p (Ok (Boolean true q)) e = let y = token-sound s p _ _ _ e in record { further = omega (arith, y.lies.ends); within = lies-end y.lies }
lies-of s p (Ok (Boolean false q)) e = let y = token-sound s p _ _ _ e in record { further = omega (arith, y.lies.ends); within = lies-end y.lies }
lies-of s p (Ok (Integer q)) e =
    let y = token-sound s p _ _ _ e in
    record {
      spans = record { further = omega (arith, y.lies.ends, integral-some (slice p q s) y.known); within = lies-end y.lies };
      grammar = y.known;
    }
lies-of s p (Ok (Real q)) e = tt

-- the token
pub scanned : (s : List ℕ) (p : ℕ) (r : Result Token Refused) → token_at s p ≡ meant s p r → Scanned s p r
scanned s p r e = record { same = e; lies = lies-of s p r e }
