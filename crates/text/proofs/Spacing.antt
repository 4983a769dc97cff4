-- The next token, past the spaces: of a text that spells tokens it is the first of them, and what was cut off is spelt before what follows.
-- Assumes nothing.
--   Loose k ks        the tokens ks may follow the token k with no space between
--   next_complete     the first token of a text that spells it
--   Reach s ks p q    what follows from q on, with the tokens ks before it, follows from p on
--   next-sound        the token that was cut off
use mathlib.Core.Path.{◌≡◌, refl, sym, ap, ◌∙◌}
use mathlib.Core.List.{List, [], ◌∷◌, ◌++◌, append_assoc, append-nil}
use mathlib.Core.Bool.{true}
use Prim.Native.Nat.{ℕ, ◌+◌, ◌<◌, ◌≤◌}
use native.Mathlib.Omega.{arith}
use lib.ListN.{length, drop}
use lib.Seq.{slice}
use Rattle.paper.specs.Checks.{good}
use Rattle.paper.proofs.Tests.{and_left}
use Rattle.payload.proofs.Lying.{lies-end, drop_past}
use Rattle.text.specs.Tokens.{Token, a_sign, a_string, a_null, a_boolean, an_integer, a_real, spelt, space, sign, word_byte}
use Rattle.text.specs.Scanning.{past, token_at}
use Rattle.text.specs.Spells.{blank, Spells}
use Rattle.text.proofs.Cutting.{Halts, Clean, Ends, clean_halts, blank-all, all-blank, past-run, past_all, past-lies, sign_no_word, space_no_word}
use Rattle.text.proofs.Standing.{Stands, token_complete, Known, token-sound}

abbrev pub IsSign : Token → Type 0
IsSign (a_sign b) = sign b ≡ true
IsSign (a_string t) = ⊥
IsSign a_null = ⊥
IsSign (a_boolean b) = ⊥
IsSign (an_integer w) = ⊥
IsSign (a_real w) = ⊥

-- nothing, or a sign first
abbrev pub Signed : List Token → Type 0
Signed [] = Unit {0}
Signed (k ∷ ks) = IsSign k

abbrev pub Loose : Token → List Token → Type 0
Loose (a_sign b) ks = Unit {0}
Loose (a_string t) ks = Unit {0}
Loose a_null ks = Signed ks
Loose (a_boolean b) ks = Signed ks
Loose (an_integer w) ks = Signed ks
Loose (a_real w) ks = Signed ks

pub loose_signed : (k : Token) (ks : List Token) → Signed ks → Loose k ks
loose_signed (a_sign b) ks h = tt
loose_signed (a_string t) ks h = tt
loose_signed a_null ks h = h
loose_signed (a_boolean b) ks h = h
loose_signed (an_integer w) ks h = h
loose_signed (a_real w) ks h = h

halts_sign : (k : Token) (x : List ℕ) → IsSign k → Halts word_byte (spelt k ++ x)
halts_sign (a_sign b) x h = sign_no_word b h
halts_sign (a_string t) x h = absurd h
halts_sign a_null x h = absurd h
halts_sign (a_boolean b) x h = absurd h
halts_sign (an_integer w) x h = absurd h
halts_sign (a_real w) x h = absurd h

halts_blank : (b x : List ℕ) → blank b ≡ true → Halts word_byte x → Halts word_byte (b ++ x)
unfolding blank
halts_blank [] x e h = h
halts_blank (c ∷ b) x e h = space_no_word c (and_left (space c) (blank b) e)

halts_signed : (ks : List Token) (x : List ℕ) → Signed ks → Spells ks x → Halts word_byte x
unfolding Spells
halts_signed [] x h y = rw (append-nil x) at (halts_blank x [] y tt)
halts_signed (k ∷ ks) x h y =
    let c = y.rest in
    let e : x ≡ y.front ++ (spelt k ++ c.back) = y.whole ∙ ap (λ (l : List ℕ). y.front ++ l) (c.whole ∙ ap (λ (l : List ℕ). l ++ c.back) c.here) in
    rw (sym e) at (halts_blank y.front (spelt k ++ c.back) y.here (halts_sign k c.back h))

ends-loose : (k : Token) (ks : List Token) (x : List ℕ) → Loose k ks → Spells ks x → Ends k x
ends-loose (a_sign b) ks x h y = tt
ends-loose (a_string t) ks x h y = tt
ends-loose a_null ks x h y = halts_signed ks x h y
ends-loose (a_boolean b) ks x h y = halts_signed ks x h y
ends-loose (an_integer w) ks x h y = halts_signed ks x h y
ends-loose (a_real w) ks x h y = halts_signed ks x h y

-- the token k is next from p on, and the tokens ks follow it
pub record Next (s : List ℕ) (p q : ℕ) (k : Token) (ks : List Token) : Type 0 where
  pub is : token_at s (past space s p) ≡ good q 0 k
  pub there : Spells (k ∷ ks) (drop (past space s p) s)
  pub rest : Spells ks (drop q s)
  pub from : p ≤ past space s p
  pub further : p < q
  pub within : q ≤ length s

pub next_complete : (s : List ℕ) (p : ℕ) (k : Token) (ks : List Token) → Clean k → Loose k ks → Spells (k ∷ ks) (drop p s) → (q : ℕ) × Next s p q k ks
unfolding Spells blank
next_complete s p k ks h g y =
    let c = y.rest in
    let w : y.back ≡ spelt k ++ c.back = c.whole ∙ ap (λ (l : List ℕ). l ++ c.back) c.here in
    let e : drop p s ≡ y.front ++ (spelt k ++ c.back) = y.whole ∙ ap (λ (l : List ℕ). y.front ++ l) w in
    let z : past space s p ≡ p + length y.front = past-run space s y.front (spelt k ++ c.back) p e (blank-all y.front y.here) (clean_halts k c.back h) in
    let f : drop (p + length y.front) s ≡ spelt k ++ c.back = drop_past s y.front (spelt k ++ c.back) p e in
    made (p + length y.front) c.back z f (omega arith) c.rest (token_complete s (p + length y.front) k c.back h (ends-loose k ks c.back g c.rest) f)
  where
    made : (at : ℕ) (x : List ℕ) → past space s p ≡ at → drop at s ≡ spelt k ++ x → p ≤ at → Spells ks x → (q : ℕ) × Stands s at q k x → (q : ℕ) × Next s p q k ks
    made at x z f l v t = (
      t.0,
      record {
        is = rw z t.1.is;
        there = rw (z, f) (record { front = []; back = spelt k ++ x; whole = refl; here = refl; rest = record { front = spelt k; back = x; whole = refl; here = refl; rest = v } });
        rest = rw t.1.rest v;
        from = omega arith;
        further = omega (arith, t.1.further);
        within = t.1.within;
      },
    )

pub record Reach (s : List ℕ) (ks : List Token) (p q : ℕ) : Type 0 where
  pub on : (r : List Token) → Spells r (drop q s) → Spells (ks ++ r) (drop p s)
  pub within : q ≤ length s

pub reach_join : {s : List ℕ} {p q z : ℕ} (a b : List Token) → Reach s a p q → Reach s b q z → Reach s (a ++ b) p z
reach_join a b x y = record { on = λ r h. rw (append_assoc a b r) (x.on (b ++ r) (y.on r h)); within = y.within }

pub next-sound : (s : List ℕ) (p q l : ℕ) (k : Token) → p ≤ length s → token_at s (past space s p) ≡ good q l k → Known k × Reach s (k ∷ []) p q
unfolding Spells
next-sound s p q l k h e =
    let o = token-sound s (past space s p) q l k e in
    let y = past-lies space s p h in (
      o.known,
      record {
        on =
            λ r v.
            record {
              front = slice p (past space s p) s;
              back = drop (past space s p) s;
              whole = y.stands;
              here = all-blank (slice p (past space s p) s) (past_all space s p);
              rest = record { front = spelt k; back = drop q s; whole = o.lies.stands; here = refl; rest = v };
            };
        within = lies-end o.lies;
      },
    )
