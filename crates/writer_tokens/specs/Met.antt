-- Inside the code's contracts alone: nobody needs to believe this page.
-- What the scanner's contracts say.
--   Passed         the end of a run
--   meant s p r    what the answer r says of the token at p
--   LiesIn s p r  such a token lies inside the text; a real goes no further
--   Scanned        the token at p
use Rattle.std.specs.Prelude.{ℕ, ◌+◌, ◌≤◌, ◌<◌, ◌≡◌, List, Bool, true, length, Result, Ok, Err}
use Rattle.std.proofs.Math.Seq.{slice}
use Rattle.paper.specs.Refusal.{number_of}
use Rattle.paper.specs.declared.Refused.{Refused}
use Rattle.paper.specs.Checks.{Judged, refused, good}
use Rattle.numbers.specs.Decimal.{integral}
use Rattle.text.specs.Tokens.{a_sign, a_string, a_null, a_boolean, an_integer, a_real}
use Rattle.text.specs.Tokens as tokens
use Rattle.text.specs.Scanning.{past, token_at}
use Rattle.writer_tokens.specs.declared.Token.{Token}
use Rattle.writer_tokens.specs.declared.Token.TheVariants.{Sign, String, Null, Boolean, Integer, Real}

pub record Passed (P : ℕ → Bool) (s : List ℕ) (p r : ℕ) : Type 0 where
  pub same : r ≡ past P s p
  pub from : p ≤ r
  pub within : r ≤ length s

abbrev pub meant : List ℕ → ℕ → Result Token Refused → Judged tokens.Token
meant s p (Err k) = refused (number_of k.refusal) k.place
meant s p (Ok (Sign b)) = good (p + 1) 0 (a_sign b)
meant s p (Ok (String q)) = good (q + 1) 0 (a_string (slice (p + 1) q s))
meant s p (Ok (Null q)) = good q 0 a_null
meant s p (Ok (Boolean b q)) = good q 0 (a_boolean b)
meant s p (Ok (Integer q)) = good q 0 (an_integer (slice p q s))
meant s p (Ok (Real q)) = good q 0 (a_real (slice p q s))

pub record Spans (s : List ℕ) (p q : ℕ) : Type 0 where
  pub further : p < q
  pub within : q ≤ length s

pub record Integral (s : List ℕ) (p q : ℕ) : Type 0 where
  pub spans : Spans s p q
  pub grammar : integral (slice p q s) ≡ true

abbrev pub LiesIn : List ℕ → ℕ → Result Token Refused → Type 0
LiesIn s p (Err k) = Unit {0}
LiesIn s p (Ok (Sign b)) = Spans s p (p + 1)
LiesIn s p (Ok (String q)) = Spans s (p + 1) (q + 1)
LiesIn s p (Ok (Null q)) = Spans s p q
LiesIn s p (Ok (Boolean b q)) = Spans s p q
LiesIn s p (Ok (Integer q)) = Integral s p q
LiesIn s p (Ok (Real q)) = Unit {0}

pub record Scanned (s : List ℕ) (p : ℕ) (r : Result Token Refused) : Type 0 where
  pub same : token_at s p ≡ meant s p r
  pub lies : LiesIn s p r
