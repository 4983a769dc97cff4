-- The root's end, said of the bytes before it: the root is closed before a byte other than spaces exactly when the bytes before that byte spell a tree that fits.
-- Assumes nothing, but for an accepted dictionary at the end.
--   token-ends       what follows a token may follow it
--   shrink, grow     a spot that is reached in a text is reached in a front of it that holds the spot, and a root that is closed in a front is closed in the text
--   Ended            the root is closed, and a byte other than spaces follows
--   ended_followed, followed_ended   that is the table's 13
use mathlib.Core.Path.{◌≡◌, refl, sym, ap, ◌∙◌}
use mathlib.Core.List.{List, [], ◌∷◌, ◌++◌, append_assoc, append_cancel_right}
use mathlib.Core.Bool.{Bool, true, false, true≢false}
use Prim.Native.Nat.{ℕ, suc, ◌+◌, ◌<◌, ◌≤◌}
use native.Mathlib.Omega.{arith}
use lib.ListN.{length, take, drop, length-drop, take-append-drop}
use lib.Seq.{slice, drop-drop, drop-append-le, length-take-le}
use lib.Dec.{leb, eqb}
use borrow.Author.Tests.{leb-true, le-leb}
use Rattle.paper.specs.Refusals.{bad_text}
use Rattle.paper.specs.Checks.{choose, good, need}
use Rattle.paper.specs.Tests.{same}
use Rattle.paper.proofs.Checks.{same_place, same_thing, passed, needed, followed}
use Rattle.numbers.specs.Bytes.{byte}
use Rattle.numbers.specs.Decimal.{integral}
use Rattle.numbers.proofs.Places.{first}
use Rattle.dictionary.specs.Accepts.{accepts}
use Rattle.payload.specs.Tree.{Scalar, null, integer, option, string, boolean, Tuples, none, scalar, inner}
use Rattle.payload.specs.Strings.{string_byte}
use Rattle.payload.specs.Text.{quote, null_text, true_text, false_text}
use Rattle.text.specs.Tokens.{Token, a_sign, a_string, a_null, a_boolean, an_integer, a_real, spelt, space, sign, word_byte}
use Rattle.text.specs.Numerals.{leading, numeral}
use Rattle.text.specs.Scanning.{past, string_at, numeral_at, word_at, token_at}
use Rattle.text.specs.Writing.{root_at, tree_of}
use Rattle.text.specs.Spots.{Spot, root_closed, due, is_real, Steps, opens_root, names, binds, tells, opens_group, parts, closes_group, Reached, at_start, further}
use Rattle.text.specs.Refusing.{Holdable, AllHoldable, Right, Followed}
use Rattle.text.proofs.Words.{Proper}
use Rattle.text.proofs.Told.{Sound}
use Rattle.text.proofs.Cutting.{Halts, Clean, Ends, past-least}
use Rattle.text.proofs.Standing.{Known, token_complete, token-sound}
use Rattle.text.proofs.Hearing.{tree_complete}
use Rattle.text.proofs.Trusting.{tree-sound}
use Rattle.text.proofs.Reaching.{reached-within, root-closed, closed-root}

-- a run of P, in a list and in a front of it
module _ (P : ℕ → Bool) where
  lead_grow : (x b : List ℕ) → leading P x < length x → leading P (x ++ b) ≡ leading P x
  unfolding leading
  lead_grow [] b h = absurd (omega arith)
  lead_grow (c ∷ x) b h = go (P c) h (λ g. lead_grow x b g)
    where
      go : (t : Bool) → choose t (λ _. suc (leading P x)) (λ _. 0) < suc (length x) → (leading P x < length x → leading P (x ++ b) ≡ leading P x) → choose t (λ _. suc (leading P (x ++ b))) (λ _. 0) ≡ choose t (λ _. suc (leading P x)) (λ _. 0)
      go true h H = ap suc (H (omega arith))
      go false h H = refl

  lead_shrink : (x b : List ℕ) → leading P (x ++ b) < length x → leading P x ≡ leading P (x ++ b)
  unfolding leading
  lead_shrink [] b h = absurd (omega arith)
  lead_shrink (c ∷ x) b h = go (P c) h (λ g. lead_shrink x b g)
    where
      go : (t : Bool) → choose t (λ _. suc (leading P (x ++ b))) (λ _. 0) < suc (length x) → (leading P (x ++ b) < length x → leading P x ≡ leading P (x ++ b)) → choose t (λ _. suc (leading P x)) (λ _. 0) ≡ choose t (λ _. suc (leading P (x ++ b))) (λ _. 0)
      go true h H = ap suc (H (omega arith))
      go false h H = refl

  lead-whole : (x b : List ℕ) → length x ≤ leading P (x ++ b) → leading P x ≡ length x
  unfolding leading
  lead-whole [] b h = refl
  lead-whole (c ∷ x) b h = go (P c) h (λ g. lead-whole x b g)
    where
      go : (t : Bool) → suc (length x) ≤ choose t (λ _. suc (leading P (x ++ b))) (λ _. 0) → (length x ≤ leading P (x ++ b) → leading P x ≡ length x) → choose t (λ _. suc (leading P x)) (λ _. 0) ≡ suc (length x)
      go true h H = ap suc (H (omega arith))
      go false h H = absurd (omega arith)

  lead-none : (b : List ℕ) → Halts P b → leading P b ≡ 0
  unfolding leading
  lead-none [] h = refl
  lead-none (c ∷ b) h = rw h

  lead-over : (x b : List ℕ) → length x ≤ leading P x → Halts P b → leading P (x ++ b) ≡ length x
  unfolding leading
  lead-over [] b h g = lead-none b g
  lead-over (c ∷ x) b h g = go (P c) h (λ i. lead-over x b i g)
    where
      go : (t : Bool) → suc (length x) ≤ choose t (λ _. suc (leading P x)) (λ _. 0) → (length x ≤ leading P x → leading P (x ++ b) ≡ length x) → choose t (λ _. suc (leading P (x ++ b))) (λ _. 0) ≡ suc (length x)
      go true h H = ap suc (H (omega arith))
      go false h H = absurd (omega arith)

  lead_halts : (x : List ℕ) → Halts P (drop (leading P x) x)
  unfolding leading
  lead_halts [] = tt
  lead_halts (c ∷ x) = go (P c) refl (lead_halts x)
    where
      go : (t : Bool) → P c ≡ t → Halts P (drop (leading P x) x) → Halts P (drop (choose t (λ _. suc (leading P x)) (λ _. 0)) (c ∷ x))
      go true e h = h
      go false e h = e

  past_halts : (s : List ℕ) (p : ℕ) → Halts P (drop (past P s p) s)
  unfolding past
  past_halts s p = rw (sym (drop-drop (leading P (drop p s)) p s)) (lead_halts (drop p s))

  halts_front : (x b : List ℕ) → Halts P (x ++ b) → Halts P x
  halts_front [] b h = tt
  halts_front (c ∷ x) b h = h

  halts_more : (x b : List ℕ) → 1 ≤ length x → Halts P x → Halts P (x ++ b)
  halts_more [] b h g = absurd (omega arith)
  halts_more (c ∷ x) b h g = g

ends-front : (k : Token) (x b : List ℕ) → Ends k (x ++ b) → Ends k x
ends-front (a_sign c) x b h = tt
ends-front (a_string t) x b h = tt
ends-front a_null x b h = halts_front word_byte x b h
ends-front (a_boolean t) x b h = halts_front word_byte x b h
ends-front (an_integer w) x b h = halts_front word_byte x b h
ends-front (a_real w) x b h = halts_front word_byte x b h

ends_more : (k : Token) (x b : List ℕ) → 1 ≤ length x → Ends k x → Ends k (x ++ b)
ends_more (a_sign c) x b g h = tt
ends_more (a_string t) x b g h = tt
ends_more a_null x b g h = halts_more word_byte x b g h
ends_more (a_boolean t) x b g h = halts_more word_byte x b g h
ends_more (an_integer w) x b g h = halts_more word_byte x b g h
ends_more (a_real w) x b g h = halts_more word_byte x b g h

module _ (s : List ℕ) (p : ℕ) where
  ends_recast : {q l q' l' : ℕ} {k k' : Token} → good q l k ≡ good q' l' k' → Ends k (drop q s) → Ends k' (drop q' s)
  ends_recast e y = let a = same_place e in let b = same_thing e in rw (a, b) at y

  pub token-ends : (q l : ℕ) (k : Token) → token_at s p ≡ good q l k → Ends k (drop q s)
  unfolding token_at string_at word_at numeral_at
  token-ends q l k m = go (sign (byte s p)) (eqb (byte s p) quote) (passed q l k (leb (length s) p) _ _ _ m).1
    where
      z : ℕ
      z = past word_byte s p

      word : (v : List ℕ) (a b c e : Bool) → (choose a (λ _. good z 0 a_null) λ _. choose b (λ _. good z 0 (a_boolean true)) λ _. choose c (λ _. good z 0 (a_boolean false)) λ _. choose e (λ _. good z 0 (an_integer v)) λ _. need (numeral v) bad_text p λ _. good z 0 (a_real v)) ≡ good q l k → Ends k (drop q s)
      word v true b c e m = ends_recast m (past_halts word_byte s p)
      word v false true c e m = ends_recast m (past_halts word_byte s p)
      word v false false true e m = ends_recast m (past_halts word_byte s p)
      word v false false false true m = ends_recast m (past_halts word_byte s p)
      word v false false false false m = ends_recast (needed q l k (numeral v) _ _ _ m).1 (past_halts word_byte s p)

      go : (a b : Bool) → (choose a (λ _. good (p + 1) 0 (a_sign (byte s p))) λ _. choose b (λ _. string_at s p (past string_byte s (p + 1))) λ _. word_at (slice p (past word_byte s p) s) p (past word_byte s p)) ≡ good q l k → Ends k (drop q s)
      go true b m = ends_recast m tt
      go false true m =
          let y = past string_byte s (p + 1) in
          let m₁ = passed q l k (leb (length s) y) _ _ _ m in
          let m₂ = needed q l k (eqb (byte s y) quote) _ _ _ m₁.1 in
          ends_recast m₂.1 tt
      go false false m = let v = slice p (past word_byte s p) s in word v (same v null_text) (same v true_text) (same v false_text) (integral v) m

clean_of : (k : Token) → Known k → is_real k ≡ false → Clean k
clean_of (a_sign b) h e = h
clean_of (a_string t) h e = h
clean_of a_null h e = tt
clean_of (a_boolean b) h e = tt
clean_of (an_integer w) h e = h
clean_of (a_real w) h e = absurd (true≢false e)

clean-some : (k : Token) → Clean k → 1 ≤ length (spelt k)
unfolding integral
clean-some (a_sign b) h = omega arith
clean-some (a_string t) h = omega arith
clean-some a_null h = omega arith
clean-some (a_boolean true) h = omega arith
clean-some (a_boolean false) h = omega arith
clean-some (an_integer []) h = absurd (true≢false (sym h))
clean-some (an_integer (c ∷ w)) h = omega arith
clean-some (a_real w) h = absurd h

-- a token is the same wherever its bytes and what ends it are
token-there : (s s' x : List ℕ) (p q : ℕ) (k : Token) → token_at s p ≡ good q 0 k → is_real k ≡ false → drop p s' ≡ spelt k ++ x → Ends k x → token_at s' p ≡ good q 0 k
token-there s s' x p q k e r f h =
    let o = token-sound s p q 0 k e in
    let t = token_complete s' p k x (clean_of k o.known r) h f in
    let o' = token-sound s' p t.0 0 k t.1.is in
    let i : t.0 ≡ q = o'.lies.ends ∙ sym o.lies.ends in
    t.1.is ∙ ap (λ (z : ℕ). good z 0 k) i

steps-plain : (d : List ℕ) (x : Spot) (k : Token) (y : Spot) → Steps d x k y → is_real k ≡ false
steps-plain d x k y (opens_root ex i ey) = ap is_real i
steps-plain d x k y (names f up t c ex i e g ey) = ap is_real i
steps-plain d x k y (binds n f up ex i ey) = ap is_real i
steps-plain d x k y (tells n f up ex z a ey) = z.plain
steps-plain d x k y (opens_group n f up g room ex i z e ey) = ap is_real i
steps-plain d x k y (parts f up ex i ey) = ap is_real i
steps-plain d x k y (closes_group f up ex i ey) = ap is_real i

-- only a sign closes the root
closing-sign : (d : List ℕ) (x : Spot) (k : Token) (y : Spot) → Steps d x k y → y ≡ root_closed → (c : ℕ) × (k ≡ a_sign c)
closing-sign d x k y (opens_root ex i ey) e = (_, i)
closing-sign d x k y (names f up t c ex i g h ey) e = absurd (let z : ◌≡◌ {A = ℕ} 0 1 = cc in omega arith)
closing-sign d x k y (binds n f up ex i ey) e = (_, i)
closing-sign d x k y (tells n f up ex z a ey) e = absurd (let z : ◌≡◌ {A = ℕ} 0 1 = cc in omega arith)
closing-sign d x k y (opens_group n f up g room ex i z h ey) e = (_, i)
closing-sign d x k y (parts f up ex i ey) e = (_, i)
closing-sign d x k y (closes_group f up ex i ey) e = (_, i)

module _ (d a b : List ℕ) where
  shrink_token : (p q : ℕ) (k : Token) → token_at (a ++ b) p ≡ good q 0 k → is_real k ≡ false → q ≤ length a → token_at a p ≡ good q 0 k
  shrink_token p q k e r h =
      let o = (token-sound (a ++ b) p q 0 k e).lies in
      let g : p ≤ length a = omega (arith, o.ends) in
      let f : drop p a ++ b ≡ spelt k ++ (drop q a ++ b) = sym (drop-append-le p a b g) ∙ o.stands ∙ ap (λ (l : List ℕ). spelt k ++ l) (drop-append-le q a b h) in
      let n : Ends k (drop q a ++ b) = rw (drop-append-le q a b h) at (token-ends (a ++ b) p q 0 k e) in
      token-there (a ++ b) a (drop q a) p q k e r (append_cancel_right (drop p a) (spelt k ++ drop q a) b (f ∙ sym (append_assoc (spelt k) (drop q a) b))) (ends-front k (drop q a) b n)

  grow_token : (p q : ℕ) (k : Token) → token_at a p ≡ good q 0 k → is_real k ≡ false → Ends k (drop q a ++ b) → token_at (a ++ b) p ≡ good q 0 k
  grow_token p q k e r n =
      let o = (token-sound a p q 0 k e).lies in
      token-there a (a ++ b) (drop q a ++ b) p q k e r (drop-append-le p a b o.start ∙ ap (λ (l : List ℕ). l ++ b) o.stands ∙ append_assoc (spelt k) (drop q a) b) n

  past_shrink : (p : ℕ) → p ≤ length a → past space (a ++ b) p < length a → past space a p ≡ past space (a ++ b) p
  unfolding past
  past_shrink p h g =
      let e = ap (leading space) (drop-append-le p a b h) in
      let f = lead_shrink space (drop p a) b (omega (arith, length-drop p a)) in
      omega arith

  past_grow : (p : ℕ) → p ≤ length a → past space a p < length a → past space (a ++ b) p ≡ past space a p
  unfolding past
  past_grow p h g =
      let e = ap (leading space) (drop-append-le p a b h) in
      let f = lead_grow space (drop p a) b (omega (arith, length-drop p a)) in
      omega arith

  -- where a token stands, and that it takes a byte
  token-after : (s : List ℕ) (q p : ℕ) (k : Token) → token_at s (past space s q) ≡ good p 0 k → is_real k ≡ false → (q ≤ past space s q) × (past space s q < p)
  token-after s q p k e r = let o = token-sound s (past space s q) p 0 k e in (past-least space s q, omega (arith, o.lies.ends, clean-some k (clean_of k o.known r)))

  pub shrink : (x : Spot) (p : ℕ) → Reached d (a ++ b) x p → p ≤ length a → Reached d a x p
  shrink x p (at_start ex ep) h = at_start ex ep
  shrink x p (further y q k r e z) h =
      let n = steps-plain d (due y k) k x z in
      let t = token-after (a ++ b) q p k e n in
      let i = past_shrink q (omega (arith, t.0, t.1)) (omega (arith, t.1)) in
      further {p = p} y q k (shrink y q r (omega (arith, t.0, t.1))) (rw i (shrink_token (past space (a ++ b) q) p k e n h)) z

  grow_open : (x : Spot) (p : ℕ) → Reached d a x p → p < length a → Reached d (a ++ b) x p
  grow_open x p (at_start ex ep) h = at_start ex ep
  grow_open x p (further y q k r e z) h =
      let n = steps-plain d (due y k) k x z in
      let t = token-after a q p k e n in
      let i = past_grow q (omega (arith, t.0, t.1)) (omega (arith, t.1)) in
      let m = ends_more k (drop p a) b (omega (arith, length-drop p a)) (token-ends a (past space a q) p 0 k e) in
      further {p = p} y q k (grow_open y q r (omega (arith, t.0, t.1))) (rw i (grow_token (past space a q) p k e n m)) z

  pub grow : (x : Spot) (p : ℕ) → x ≡ root_closed → Reached d a x p → Reached d (a ++ b) x p
  grow x p c (at_start ex ep) = at_start ex ep
  grow x p c (further y q k r e z) =
      let n = steps-plain d (due y k) k x z in
      let t = token-after a q p k e n in
      let l = reached-within d a x p (further y q k r e z) in
      let i = past_grow q (omega (arith, t.0, t.1)) (omega (arith, t.1)) in
      let g = (closing-sign d (due y k) k x z c).1 in
      further {p = p} y q k (grow_open y q r (omega (arith, t.0, t.1))) (rw i (grow_token (past space a q) p k e n (rw g tt))) z

  -- spaces up to the end of a front
  past_end_lem : (q : ℕ) → q ≤ length a → length a ≤ past space (a ++ b) q → length a ≤ past space a q
  unfolding past
  past_end_lem q h g =
      let e = ap (leading space) (drop-append-le q a b h) in
      let f = lead-whole space (drop q a) b (omega (arith, length-drop q a)) in
      omega (arith, length-drop q a)

  past-over : (q : ℕ) → q ≤ length a → length a ≤ past space a q → Halts space b → past space (a ++ b) q ≡ length a
  unfolding past
  past-over q h g n =
      let e = ap (leading space) (drop-append-le q a b h) in
      let f = lead-over space (drop q a) b (omega (arith, length-drop q a)) n in
      omega (arith, length-drop q a)

-- a byte that is no space
module _ (s : List ℕ) (p : ℕ) (h : p < length s) where
  halts_byte : Halts space (drop p s) → space (byte s p) ≡ false
  halts_byte n = go (drop p s) refl n
    where
      go : (l : List ℕ) → drop p s ≡ l → Halts space l → space (byte s p) ≡ false
      go [] e n = absurd (omega (arith, ap length e, length-drop p s))
      go (c ∷ x) e n = rw (first s x c p e) n

  byte_halts : space (byte s p) ≡ false → Halts space (drop p s)
  byte_halts n = go (drop p s) refl
    where
      go : (l : List ℕ) → drop p s ≡ l → Halts space l
      go [] e = tt
      go (c ∷ x) e = rw (first s x c p e) at n

-- values that bytes hold are those that the answers give
holdable-proper : (x : Scalar) → Holdable x → Proper x
holdable-proper null h = tt
holdable-proper (integer i) h = h
holdable-proper (option n) h = tt
holdable-proper (string t) h = h
holdable-proper (boolean b) h = tt

proper-holdable : (x : Scalar) → Proper x → Holdable x
proper-holdable null h = tt
proper-holdable (integer i) h = h
proper-holdable (option n) h = tt
proper-holdable (string t) h = h
proper-holdable (boolean b) h = tt

holdable-sound : (t : Tuples) → AllHoldable t → Sound t
unfolding AllHoldable Sound
holdable-sound none h = tt
holdable-sound (scalar n x rest) h = (holdable-proper x h.0, holdable-sound rest h.1)
holdable-sound (inner n g kids rest) h = (holdable-sound kids h.0, holdable-sound rest h.1)

pub sound-holdable : (t : Tuples) → Sound t → AllHoldable t
unfolding AllHoldable Sound
sound-holdable none h = tt
sound-holdable (scalar n x rest) h = (proper-holdable x h.0, sound-holdable rest h.1)
sound-holdable (inner n g kids rest) h = (sound-holdable kids h.0, sound-holdable rest h.1)

module _ (d : List ℕ) (ok : accepts d ≡ true) where
  unfoldable pub tree_right : (s : List ℕ) (q l : ℕ) (t : Tuples) → tree_of d s ≡ good q l t → Right d s
  tree_right s q l t e = let y = tree-sound d s ok q l t e in record { tree = t; spells = y.spells; fitting = y.fitting; holdable = sound-holdable t y.proper; shallow = y.shallow }

  pub right-tree : (s : List ℕ) (x : Right d s) → (q : ℕ) × (tree_of d s ≡ good q 0 x.tree)
  right-tree s x = tree_complete d s ok x.tree x.spells x.fitting (holdable-sound x.tree x.holdable) x.shallow

pub record Ended (d s : List ℕ) (w : ℕ) : Type 0 where
  pub from : ℕ
  pub reached : Reached d s root_closed from
  pub place : w ≡ past space s from
  pub inside : w < length s

module _ (d : List ℕ) (ok : accepts d ≡ true) (s : List ℕ) (w : ℕ) where
  -- a front that is closed, and spaces after it
  closed-right : (a : List ℕ) (q : ℕ) → Reached d a root_closed q → length a ≤ past space a q → Right d a
  unfolding tree_of
  closed-right a q r h =
      let c = closed-root d a q r in
      tree_right d ok a q 0 c.1 (rw (c.2, le-leb (length a) (past space a q) h))

  right-closed : (a : List ℕ) → Right d a → (q : ℕ) × Reached d a root_closed q × (length a ≤ past space a q)
  unfolding tree_of
  right-closed a x =
      let o = right-tree d ok a x in
      let y₁ = followed o.0 0 x.tree (root_at d a) _ o.1 in
      let y₂ = needed o.0 0 x.tree (leb (length a) (past space a y₁.0)) _ _ _ y₁.4 in
      (y₁.0, root-closed d a y₁.0 y₁.1 y₁.2 y₁.3, leb-true (length a) (past space a y₁.0) y₂.0)

  pub ended_followed : Ended d s w → Followed d s w
  ended_followed x =
      record {
        front = made (take w s) (drop w s) (take-append-drop w s) (length-take-le w s (omega (arith, x.inside)));
        inside = x.inside;
        no_space = halts_byte s w x.inside (rw x.place (past_halts space s x.from));
      }
    where
      made : (a b : List ℕ) → a ++ b ≡ s → length a ≡ w → Right d a
      made a b e l =
          let r : Reached d (a ++ b) root_closed x.from = rw e x.reached in
          let z : past space (a ++ b) x.from ≡ w = rw e (sym x.place) in
          let h : x.from ≤ length a = omega (arith, past-least space (a ++ b) x.from) in
          closed-right a x.from (shrink d a b root_closed x.from r h) (past_end_lem d a b x.from h (omega arith))

  pub followed_ended : Followed d s w → Ended d s w
  followed_ended x = made (take w s) (drop w s) (take-append-drop w s) (length-take-le w s (omega (arith, x.inside))) x.front (byte_halts s w x.inside x.no_space)
    where
      made : (a b : List ℕ) → a ++ b ≡ s → length a ≡ w → Right d a → Halts space b → Ended d s w
      made a b e l f n =
          let c = right-closed a f in
          let h = reached-within d a root_closed c.0 c.1 in
          let r : Reached d s root_closed c.0 = rw e at (grow d a b root_closed c.0 refl c.1) in
          let z : past space s c.0 ≡ length a = rw e at (past-over d a b c.0 h c.2 n) in
          record { from = c.0; reached = r; place = sym (z ∙ l); inside = x.inside }
