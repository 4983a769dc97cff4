-- The answers for one token: the token that stands at a place of a text, or refusal 15. Document 01, "The text": "A token's own grammar and its turn come first (15)"; here its own
-- grammar, and "text length where it ends early". The writer has no budget, so that its results carry 0 there.
--   past P s p     the first place of s, from p on, whose byte fails the test P, or the end
--   token_at s p    the token that begins at p; string_at, word_at, numeral_at: where it begins with a quote, with neither quote nor sign, and where it is no word
--   next s p go    passes the spaces from p on, and goes on with the token after them: its place, the place after it, and itself
use Rattle.std.specs.Prelude.{ℕ, ◌+◌, List, Bool, true, false, length, drop, leb, eqb}
use Rattle.std.proofs.Math.Seq.{slice}
use Rattle.paper.specs.Refusals.{bad_text}
use Rattle.paper.specs.Checks.{choose, Judged, good, refuse, need, after}
use Rattle.paper.specs.Tests.{same}
use Rattle.numbers.specs.Bytes.{byte}
use Rattle.numbers.specs.Decimal.{integral}
use Rattle.payload.specs.Strings.{string_byte}
use Rattle.payload.specs.Text.{quote, null_text, true_text, false_text}
use Rattle.text.specs.Tokens.{Token, a_sign, a_string, a_null, a_boolean, an_integer, a_real, space, sign, word_byte}
use Rattle.text.specs.Numerals.{leading, numeral}

unfoldable pub past : (ℕ → Bool) → List ℕ → ℕ → ℕ
past P s p = p + leading P (drop p s)

-- "a string read byte by byte to its quote", from the one at p; q is the first place after it that holds no byte of a string, as a backslash is none
unfoldable pub string_at : List ℕ → ℕ → ℕ → Judged Token
string_at s p q =
    refuse (leb (length s) q) bad_text (length s) λ _.
    need (eqb (byte s q) quote) bad_text p λ _.
    good (q + 1) 0 (a_string (slice (p + 1) q s))

-- "the longest run of letters, digits and `+-.`, or else one byte": the run w from p to q, empty where it is that one byte, which breaks the grammar as a bad run does
unfoldable pub numeral_at : List ℕ → ℕ → ℕ → Judged Token
numeral_at w p q =
    choose (integral w) (λ _. good q 0 (an_integer w)) λ _.
    need (numeral w) bad_text p λ _.
    good q 0 (a_real w)

unfoldable pub word_at : List ℕ → ℕ → ℕ → Judged Token
word_at w p q =
    choose (same w null_text) (λ _. good q 0 a_null) λ _.
    choose (same w true_text) (λ _. good q 0 (a_boolean true)) λ _.
    choose (same w false_text) (λ _. good q 0 (a_boolean false)) λ _.
    numeral_at w p q

unfoldable pub token_at : List ℕ → ℕ → Judged Token
token_at s p =
    refuse (leb (length s) p) bad_text (length s) λ _.
    choose (sign (byte s p)) (λ _. good (p + 1) 0 (a_sign (byte s p))) λ _.
    choose (eqb (byte s p) quote) (λ _. string_at s p (past string_byte s (p + 1))) λ _.
    word_at (slice p (past word_byte s p) s) p (past word_byte s p)

abbrev pub onward : {A : Type 0} → List ℕ → ℕ → (ℕ → ℕ → Token → Judged A) → Judged A
onward s at go = after (token_at s at) λ q _ k. go at q k

abbrev pub next : {A : Type 0} → List ℕ → ℕ → (ℕ → ℕ → Token → Judged A) → Judged A
next s p go = onward s (past space s p) go
