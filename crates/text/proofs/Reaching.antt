-- The first fault of a text: the root is refused exactly when a spot that is reached fails, with that line's number and place; and it is closed exactly where that is reached.
-- Assumes nothing.
--   reached-within              what is reached lies in the text; reached-spelt: and tokens spell the text up to it
--   somewhere_late              which numbers a spot fails with, and where
--   root-first                  the root is refused exactly so
--   root-closed, closed-root    the root is read up to a place exactly when it is closed there
use mathlib.Core.Path.{◌≡◌, refl, sym, ap, ◌∙◌}
use mathlib.Core.Logic.{◌↔◌}
use mathlib.Core.List.{List, [], ◌∷◌, ◌++◌}
use mathlib.Core.Bool.{Bool, true, false, true≢false}
use Prim.Native.Nat.{ℕ, zero, suc, ◌+◌, ◌<◌, ◌≤◌}
use native.Mathlib.Omega.{arith}
use lib.ListN.{length}
use lib.Seq.{slice}
use lib.Dec.{leb, eqb}
use borrow.Author.Tests.{leb-false}
use Rattle.paper.specs.Refusals.{not_known, given_twice, not_in_base, misfit, value_wrong, too_deep, after_root, no_room, bad_text}
use Rattle.paper.specs.Checks.{choose, Judged, refused, good, refuse, need}
use Rattle.paper.specs.Tests.{same}
use Rattle.paper.proofs.Checks.{passed, step}
use Rattle.numbers.specs.Bytes.{byte}
use Rattle.numbers.specs.Decimal.{integral}
use Rattle.payload.specs.Tree.{Tuples}
use Rattle.payload.specs.Strings.{string_byte}
use Rattle.payload.specs.Text.{quote, null_text, true_text, false_text}
use Rattle.text.specs.Tokens.{Token, a_sign, a_null, a_boolean, an_integer, a_real, space, sign, word_byte}
use Rattle.text.specs.Numerals.{numeral}
use Rattle.text.specs.Scanning.{past, string_at, numeral_at, word_at, token_at}
use Rattle.text.specs.Writing.{root_at}
use Rattle.text.specs.Spots.{Spot, root_due, root_closed, due, Reached, at_start, further}
use Rattle.text.specs.Refusing.{NotKnown, GivenTwice, NotInBase, Misfit, ValueWrong, TooDeep, AtToken, BadText, broken, out_of_turn, Somewhere}
use Rattle.text.proofs.Cutting.{past-most}
use Rattle.text.proofs.Standing.{token-sound}
use Rattle.text.proofs.Spacing.{Reach, reach_join, next-sound}
use Rattle.text.proofs.Moving.{Moved, stops, goes, moved, State, stands, ended, done, heard, is_closed, closed_is, judged, advance, runs, Comes, comes-here, comes-more, comes_join, one_end, token_later}
use Rattle.text.proofs.Leading.{Leads, root_leads}
use Rattle.text.proofs.Breaking.{broken-refused, refused-broken, broken-place}
use Rattle.text.proofs.Turning.{TokenFails, Case, turn-case, steps-moved, fails-moved}

module _ (d s : List ℕ) where
  -- the lines of the table that speak of a spot, by their number
  unfoldable pub Fails : ℕ → Spot → ℕ → ℕ → Type 0
  Fails k x p w =
      choose (eqb k not_known) (λ _. AtToken s (NotKnown d) x p w) λ _.
      choose (eqb k given_twice) (λ _. AtToken s (GivenTwice d) x p w) λ _.
      choose (eqb k not_in_base) (λ _. AtToken s (NotInBase d) x p w) λ _.
      choose (eqb k misfit) (λ _. AtToken s (Misfit d) x p w) λ _.
      choose (eqb k value_wrong) (λ _. AtToken s (ValueWrong d) x p w) λ _.
      choose (eqb k too_deep) (λ _. AtToken s (TooDeep d) x p w) λ _.
      choose (eqb k bad_text) (λ _. BadText s x p w) λ _.
      ⊥

-- a token has no budget
unfoldable Unspent : Judged Token → Type 0
Unspent (refused k w) = Unit {0}
Unspent (good q l k) = l ≡ 0

refuse_unspent : (b : Bool) (k w : ℕ) (f : Unit {0} → Judged Token) → Unspent (f tt) → Unspent (refuse b k w f)
unfolding Unspent
refuse_unspent true k w f h = tt
refuse_unspent false k w f h = h

need_unspent : (b : Bool) (k w : ℕ) (f : Unit {0} → Judged Token) → Unspent (f tt) → Unspent (need b k w f)
unfolding Unspent
need_unspent true k w f h = h
need_unspent false k w f h = tt

choose_unspent : (b : Bool) (f g : Unit {0} → Judged Token) → Unspent (f tt) → Unspent (g tt) → Unspent (choose b f g)
choose_unspent true f g h i = h
choose_unspent false f g h i = i

word_unspent : (v : List ℕ) (p q : ℕ) → Unspent (word_at v p q)
unfolding Unspent word_at numeral_at
word_unspent v p q =
    choose_unspent (same v null_text) (λ _. good q 0 a_null) _ refl
    (choose_unspent (same v true_text) (λ _. good q 0 (a_boolean true)) _ refl
    (choose_unspent (same v false_text) (λ _. good q 0 (a_boolean false)) _ refl
    (choose_unspent (integral v) (λ _. good q 0 (an_integer v)) _ refl
    (need_unspent (numeral v) bad_text p (λ _. good q 0 (a_real v)) refl))))

string_unspent : (s : List ℕ) (p q : ℕ) → Unspent (string_at s p q)
unfolding Unspent string_at
string_unspent s p q = refuse_unspent (leb (length s) q) bad_text (length s) _ (need_unspent (eqb (byte s q) quote) bad_text p _ refl)

token_unspent : (s : List ℕ) (p : ℕ) → Unspent (token_at s p)
unfolding Unspent token_at
token_unspent s p =
    refuse_unspent (leb (length s) p) bad_text (length s) _
    (choose_unspent (sign (byte s p)) (λ _. good (p + 1) 0 (a_sign (byte s p))) _ refl
    (choose_unspent (eqb (byte s p) quote) (λ _. string_at s p (past string_byte s (p + 1))) _ (string_unspent s p (past string_byte s (p + 1)))
    (word_unspent (slice p (past word_byte s p) s) p (past word_byte s p))))

token-left : (s : List ℕ) (p q l : ℕ) (k : Token) → token_at s p ≡ good q l k → token_at s p ≡ good q 0 k
unfolding Unspent
token-left s p q l k e = let z : l ≡ 0 = rw e at (token_unspent s p) in e ∙ ap (λ (m : ℕ). good q m k) z

module _ (d s : List ℕ) where
  abbrev start : State
  start = stands root_due 0

  pub reached-within : (x : Spot) (p : ℕ) → Reached d s x p → p ≤ length s
  reached-within x p (at_start ex ep) = omega arith
  reached-within x p (further y q k r e z) = (token_later d s q p 0 k e).1

  -- the tokens before it
  pub reached-spelt : (x : Spot) (p : ℕ) → Reached d s x p → (ks : List Token) × Reach s ks 0 p
  reached-spelt x p (at_start ex ep) = ([], record { on = λ r h. rw ep at h; within = omega arith })
  reached-spelt x p (further y q k r e z) =
      let o = reached-spelt y q r in
      (o.0 ++ (k ∷ []), reach_join o.0 (k ∷ []) o.1 (next-sound s q p 0 k o.1.within e).1)

  -- a spot that is not closed
  unclosed-is : (x : Spot) → (x ≡ root_closed → ⊥) → is_closed x ≡ false
  unclosed-is x h = go (is_closed x) refl
    where
      go : (b : Bool) → is_closed x ≡ b → is_closed x ≡ false
      go true e = absurd (h (closed_is x e))
      go false e = e

  no_goes : {n : ℕ} {y : Spot} {A : Type 0} → stops n ≡ goes y → A
  no_goes e = absurd (let z : ◌≡◌ {A = ℕ} 0 1 = cc in omega arith)

  goes-unclosed : (x : Spot) (k : Token) (y : Spot) → moved d (due x k) k ≡ goes y → is_closed x ≡ false
  unfolding due
  goes-unclosed x k y e = unclosed-is x λ z. no_goes (rw z at e)

  goes_on : (x : Spot) (p q : ℕ) (k : Token) (y : Spot) → is_closed x ≡ false → token_at s (past space s p) ≡ good q 0 k → moved d (due x k) k ≡ goes y → advance d s (stands x p) ≡ stands y q
  unfolding advance
  goes_on x p q k y c e m = rw (c, e, m)

  stops-there : (x : Spot) (p q n : ℕ) (k : Token) → is_closed x ≡ false → token_at s (past space s p) ≡ good q 0 k → moved d (due x k) k ≡ stops n → advance d s (stands x p) ≡ ended n (past space s p)
  unfolding advance
  stops-there x p q n k c e m = rw (c, e, m)

  breaks_there : (x : Spot) (p n w : ℕ) → is_closed x ≡ false → token_at s (past space s p) ≡ refused n w → advance d s (stands x p) ≡ ended n w
  unfolding advance
  breaks_there x p n w c e = rw (c, e)

  reached-comes : (x : Spot) (p : ℕ) → Reached d s x p → Comes d s start (stands x p)
  reached-comes x p (at_start ex ep) = rw (ex, ep) (comes-here d s start)
  reached-comes x p (further y q k r e z) =
      let m = steps-moved d (due y k) k x z in
      let a = goes_on y q p k x (goes-unclosed y k x m) e m in
      comes_join d s start (stands y q) (stands x p) (reached-comes y q r) (comes-more d s (stands y q) (stands x p) (rw a (comes-here d s (stands x p))))

  -- a spot that fails ends the machine
  token-ends : (n : ℕ) (P : Spot → Token → Type 0) → ((x : Spot) (k : Token) → P x k → TokenFails d n x k) → (x : Spot) (p w : ℕ) → is_closed x ≡ false → AtToken s P x p w → advance d s (stands x p) ≡ ended n w
  token-ends n P H x p w c a =
      let o = token-sound s (past space s p) a.to 0 a.token a.stands in
      stops-there x p a.to n a.token c a.stands (fails-moved d n (due x a.token) a.token o.known (H (due x a.token) a.token a.fails)) ∙ ap (ended n) (sym a.place)

  text-ends : (x : Spot) (p w : ℕ) → is_closed x ≡ false → BadText s x p w → advance d s (stands x p) ≡ ended bad_text w
  unfolding TokenFails
  text-ends x p w c (broken b) = breaks_there x p bad_text w c (broken-refused s (past space s p) w b)
  text-ends x p w c (out_of_turn a) = token-ends bad_text _ (λ x k h. h) x p w c a

  fails-ends : (n : ℕ) (x : Spot) (p w : ℕ) → is_closed x ≡ false → Fails d s n x p w → advance d s (stands x p) ≡ ended n w
  unfolding Fails TokenFails
  fails-ends n x p w c y =
      step n not_known _ _ y (λ e a. token-ends not_known (NotKnown d) (λ x k h. h) x p w c a ∙ named e) λ y.
      step n given_twice _ _ y (λ e a. token-ends given_twice (GivenTwice d) (λ x k h. h) x p w c a ∙ named e) λ y.
      step n not_in_base _ _ y (λ e a. token-ends not_in_base (NotInBase d) (λ x k h. h) x p w c a ∙ named e) λ y.
      step n misfit _ _ y (λ e a. token-ends misfit (Misfit d) (λ x k h. h) x p w c a ∙ named e) λ y.
      step n value_wrong _ _ y (λ e a. token-ends value_wrong (ValueWrong d) (λ x k h. h) x p w c a ∙ named e) λ y.
      step n too_deep _ _ y (λ e a. token-ends too_deep (TooDeep d) (λ x k h. h) x p w c a ∙ named e) λ y.
      step n bad_text _ _ y (λ e a. text-ends x p w c a ∙ named e) λ y.
      absurd y
    where
      named : {j : ℕ} → n ≡ j → ended j w ≡ ended n w
      named e = ap (λ (m : ℕ). ended m w) (sym e)

  somewhere_comes : (n w : ℕ) → Somewhere d s (Fails d s n) w → Comes d s start (ended n w)
  somewhere_comes n w x =
      let a = fails-ends n x.spot x.from w (unclosed-is x.spot x.asks) x.fails in
      comes_join d s start (stands x.spot x.from) (ended n w) (reached-comes x.spot x.from x.reached) (comes-more d s (stands x.spot x.from) (ended n w) (rw a (comes-here d s (ended n w))))

  -- and back: what the machine comes to
  unfoldable HeldTo : State → Type 0
  HeldTo (stands x p) = Reached d s x p
  HeldTo (ended n w) = Somewhere d s (Fails d s n) w
  HeldTo (done q) = Reached d s root_closed q

  line_of : (n : ℕ) (x : Spot) (p q : ℕ) (k : Token) → token_at s (past space s p) ≡ good q 0 k → TokenFails d n (due x k) k → Fails d s n x p (past space s p)
  unfolding Fails TokenFails
  line_of n x p q k t y =
      step n not_known _ _ y (λ e a. rw e (at a)) λ y.
      step n given_twice _ _ y (λ e a. rw e (at a)) λ y.
      step n not_in_base _ _ y (λ e a. rw e (at a)) λ y.
      step n misfit _ _ y (λ e a. rw e (at a)) λ y.
      step n value_wrong _ _ y (λ e a. rw e (at a)) λ y.
      step n too_deep _ _ y (λ e a. rw e (at a)) λ y.
      step n bad_text _ _ y (λ e a. rw e (out_of_turn (at a))) λ y.
      absurd y
    where
      at : {P : Spot → Token → Type 0} → P (due x k) k → AtToken s P x p (past space s p)
      at a = record { token = k; to = q; stands = t; fails = a; place = refl }

  spot-held : (x : Spot) (p : ℕ) → Reached d s x p → HeldTo (advance d s (stands x p))
  unfolding HeldTo advance Fails Case
  spot-held x p r = go (is_closed x) (token_at s (past space s p)) refl refl
    where
      asked : is_closed x ≡ false → x ≡ root_closed → ⊥
      asked c e = true≢false (ap is_closed (sym e) ∙ c)

      told : (q : ℕ) (k : Token) → is_closed x ≡ false → token_at s (past space s p) ≡ good q 0 k → (m : Moved) → Case d (due x k) k m → HeldTo (heard m (past space s p) q)
      told q k c e (stops n) y = record { spot = x; from = p; reached = r; asks = asked c; fails = line_of n x p q k e y }
      told q k c e (goes z) y = further x p k r e y

      go : (b : Bool) (t : Judged Token) → is_closed x ≡ b → token_at s (past space s p) ≡ t → HeldTo (choose b (λ _. done p) (λ _. judged d s x (past space s p) t))
      go true t c e = let z = closed_is x c in rw z at r
      go false (refused n w) c e =
          let o = refused-broken s (past space s p) w n e in
          let z = o.0 in
          rw z (record { spot = x; from = p; reached = r; asks = asked c; fails = broken o.1 })
      go false (good q l k) c e =
          let f = token-left s (past space s p) q l k e in
          told q k c f (moved d (due x k) k) (turn-case d (due x k) k (token-sound s (past space s p) q 0 k f).known)

  step-held : (a : State) → HeldTo a → HeldTo (advance d s a)
  unfolding HeldTo advance
  step-held (stands x p) h = spot-held x p h
  step-held (ended n w) h = h
  step-held (done q) h = h

  runs-held : (n : ℕ) (a : State) → HeldTo a → HeldTo (runs d s n a)
  unfolding runs
  runs-held zero a h = h
  runs-held (suc n) a h = runs-held n (advance d s a) (step-held a h)

  comes-held : (b : State) → Comes d s start b → HeldTo b
  unfolding HeldTo
  comes-held b c = rw c.1 at (runs-held c.0 start (at_start refl refl))

  -- the ends of the root's answer
  root-refused : (k w : ℕ) → root_at d s ≡ refused k w → Comes d s start (ended k w)
  unfolding Leads
  root-refused k w e = comes-more d s start (ended k w) (rw e at (root_leads d s))

  root-done : (q l : ℕ) (t : Tuples) → root_at d s ≡ good q l t → Comes d s start (done q)
  unfolding Leads advance
  root-done q l t e =
      let c : Comes d s (advance d s start) (stands root_closed q) = rw e at (root_leads d s) in
      comes_join d s start (stands root_closed q) (done q) (comes-more d s start (stands root_closed q) c) (comes-more d s (stands root_closed q) (done q) (comes-here d s (done q)))

  closed-done : (q : ℕ) → Reached d s root_closed q → Comes d s start (done q)
  unfolding advance
  closed-done q r = comes_join d s start (stands root_closed q) (done q) (reached-comes root_closed q r) (comes-more d s (stands root_closed q) (done q) (comes-here d s (done q)))

  same_ended : {k w k' w' : ℕ} → ended k w ≡ ended k' w' → (k ≡ k') × (w ≡ w')
  same_ended e = (cc, cc)

  same-done : {p q : ℕ} → done p ≡ done q → p ≡ q
  same-done e = cc

  not-both : {A : Type 0} {k w q : ℕ} → ended k w ≡ done q → A
  not-both e = absurd (let z : ◌≡◌ {A = ℕ} 0 1 = cc in omega arith)

  pub root-first : (k w : ℕ) → (root_at d s ≡ refused k w) ↔ Somewhere d s (Fails d s k) w
  unfolding HeldTo advance
  root-first k w = (λ e. comes-held (ended k w) (root-refused k w e), λ x. go (root_at d s) refl (somewhere_comes k w x))
    where
      go : (r : Judged Tuples) → root_at d s ≡ r → Comes d s start (ended k w) → root_at d s ≡ refused k w
      go (refused k' w') e c =
          let z = same_ended (one_end d s start (ended k' w') (ended k w) refl refl (root-refused k' w' e) c) in
          e ∙ ap (λ (j : ℕ). refused j w') z.0 ∙ ap (refused k) z.1
      go (good q l t) e c = not-both (one_end d s start (ended k w) (done q) refl refl c (root-done q l t e))

  pub root-closed : (q l : ℕ) (t : Tuples) → root_at d s ≡ good q l t → Reached d s root_closed q
  unfolding HeldTo
  root-closed q l t e = comes-held (done q) (root-done q l t e)

  pub closed-root : (q : ℕ) → Reached d s root_closed q → (l : ℕ) × (t : Tuples) × (root_at d s ≡ good q l t)
  unfolding advance
  closed-root q r = go (root_at d s) refl
    where
      go : (j : Judged Tuples) → root_at d s ≡ j → (l : ℕ) × (t : Tuples) × (root_at d s ≡ good q l t)
      go (refused k w) e = not-both (one_end d s start (ended k w) (done q) refl refl (root-refused k w e) (closed-done q r))
      go (good z l t) e = (l, t, e ∙ ap (λ (p : ℕ). good p l t) (same-done (one_end d s start (done z) (done q) refl refl (root-done z l t e) (closed-done q r))))

  -- which numbers, and which places
  pub record Late (k w : ℕ) : Type 0 where
    pub least : not_known ≤ k
    pub not_after : k ≡ after_root → ⊥
    pub not_room : k ≡ no_room → ⊥
    pub high : w ≤ length s
    pub inside : (k ≡ bad_text → ⊥) → w < length s

  -- a token begins inside the text
  token-inside : (p q l : ℕ) (k : Token) → token_at s p ≡ good q l k → p < length s
  unfolding token_at
  token-inside p q l k e = leb-false (length s) p (passed q l k (leb (length s) p) bad_text (length s) _ e).0

  token-place : (P : Spot → Token → Type 0) (x : Spot) (p w : ℕ) → AtToken s P x p w → w < length s
  token-place P x p w a = omega (arith, a.place, token-inside (past space s p) a.to 0 a.token a.stands)

  text-place : (x : Spot) (p w : ℕ) → p ≤ length s → BadText s x p w → w ≤ length s
  text-place x p w h (broken b) = broken-place s (past space s p) w b (past-most space s p h)
  text-place x p w h (out_of_turn a) = omega (arith, token-place _ x p w a)

  fails_late : (n : ℕ) (x : Spot) (p w : ℕ) → p ≤ length s → Fails d s n x p w → Late n w
  unfolding Fails
  fails_late n x p w h y =
      step n not_known _ _ y (λ e a. early e (omega arith) (omega arith) (token-place (NotKnown d) x p w a)) λ y.
      step n given_twice _ _ y (λ e a. early e (omega arith) (omega arith) (token-place (GivenTwice d) x p w a)) λ y.
      step n not_in_base _ _ y (λ e a. early e (omega arith) (omega arith) (token-place (NotInBase d) x p w a)) λ y.
      step n misfit _ _ y (λ e a. early e (omega arith) (omega arith) (token-place (Misfit d) x p w a)) λ y.
      step n value_wrong _ _ y (λ e a. early e (omega arith) (omega arith) (token-place (ValueWrong d) x p w a)) λ y.
      step n too_deep _ _ y (λ e a. early e (omega arith) (omega arith) (token-place (TooDeep d) x p w a)) λ y.
      step n bad_text _ _ y (λ e a. record { least = omega arith; not_after = λ z. omega arith; not_room = λ z. omega arith; high = text-place x p w h a; inside = λ z. absurd (z e) }) λ y.
      absurd y
    where
      early : {j : ℕ} → n ≡ j → not_known ≤ n → n ≤ too_deep → w < length s → Late n w
      early e a b g = record { least = a; not_after = λ z. omega arith; not_room = λ z. omega arith; high = omega arith; inside = λ z. g }

  pub somewhere_late : (k w : ℕ) → Somewhere d s (Fails d s k) w → Late k w
  somewhere_late k w x = fails_late k x.spot x.from w (reached-within x.spot x.from x.reached) x.fails
