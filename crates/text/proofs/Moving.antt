-- The way of a text, token by token, as a machine: where it stands, and how it goes on or ends.
-- Assumes nothing.
--   Moved, moved        what a token does where it is due: the text goes on at a spot, or stops with a number
--   State, advance      a spot at a place, or the end: number and place, or where the root is closed; one token further
--   Comes a b           from a the machine comes to b; comes_join; one_end: there is one end
--   later               what it comes to is not before where it was
use mathlib.Core.Path.{◌≡◌, refl, sym, ap, ◌∙◌}
use mathlib.Core.List.{List, [], ◌∷◌}
use mathlib.Core.Bool.{Bool, true, false}
use Prim.Native.Nat.{ℕ, zero, suc, ◌-◌, ◌≤◌}
use native.Mathlib.Omega.{arith}
use lib.ListN.{length}
use lib.Dec.{eqb}
use Rattle.paper.specs.Limits.{depth_most}
use Rattle.paper.specs.Refusals.{accepted, not_known, given_twice, not_in_base, misfit, too_deep, bad_text}
use Rattle.paper.specs.Checks.{choose, Judged, refused, good}
use Rattle.std.specs.Prelude.{Option, Some, None}
use Rattle.dictionary.specs.Formats.{set_form, real_form}
use Rattle.dictionary.specs.Rows.{number_in}
use Rattle.dictionary.specs.Children.{child_named}
use Rattle.payload.specs.declared.Shape.{Shape}
use Rattle.payload.specs.declared.Shape.TheVariants.{Set}
use Rattle.payload.specs.Fits.{child, fresh}
use Rattle.payload.specs.Text.{comma, colon, closes}
use Rattle.payload.specs.Values.{Valued, wrong, worth}
use Rattle.payload.specs.Reading.{is_group, shape_of}
use Rattle.payload.proofs.Lying.{lies-end}
use Rattle.text.specs.Tokens.{Token, a_sign, a_string, a_null, a_boolean, an_integer, a_real, space}
use Rattle.text.specs.Scanning.{past, token_at}
use Rattle.text.specs.Values.{is_sign, begins, form_for, misfit_for, scalar_for}
use Rattle.text.specs.Spots.{Frame, entered, holding, Spot, root_due, first_due, name_due, colon_due, value_due, part_due, root_closed, member_due, leave, due}
use Rattle.text.proofs.Cutting.{past-least}
use Rattle.text.proofs.Standing.{token-sound}

pub data Moved : Type 0 where
  stops : ℕ → Moved
  goes : Spot → Moved

-- a value that opens an object or array, with the nesting left
abbrev pub group_moved : ℕ → Shape → ℕ → List Frame → Moved
group_moved zero g row up = stops too_deep
group_moved (suc room) g row up = goes (first_due (entered g row room) up)

abbrev pub scalar_moved : Valued → Spot → Moved
scalar_moved (wrong k) y = stops k
scalar_moved (worth x) y = goes y

module _ (d : List ℕ) where
  abbrev pub child_moved : Option ℕ → Frame → List Frame → Moved
  child_moved None f up = stops not_known
  child_moved (Some c) f up = choose (fresh d f.row f.seen (number_in d c)) (λ _. goes (colon_due (number_in d c) f up)) (λ _. stops given_twice)

  abbrev pub name_moved : Token → Frame → List Frame → Moved
  name_moved (a_sign b) f up = stops bad_text
  name_moved (a_string t) f up = child_moved (child_named d f.row t) f up
  name_moved a_null f up = stops bad_text
  name_moved (a_boolean b) f up = stops bad_text
  name_moved (an_integer w) f up = stops bad_text
  name_moved (a_real w) f up = stops bad_text

  abbrev pub body_moved : ℕ → ℕ → Frame → List Frame → ℕ → Token → Moved
  body_moved n row f up form k = choose (is_group form) (λ _. group_moved f.room (shape_of form) row (holding n f ∷ up)) λ _. scalar_moved (scalar_for d row k) (part_due (holding n f) up)

  abbrev pub form_moved : ℕ → ℕ → Frame → List Frame → ℕ → Token → Moved
  form_moved n row f up form k = choose (eqb (misfit_for d row form) accepted) (λ _. body_moved n row f up form k) (λ _. stops (misfit_for d row form))

  abbrev pub value_moved : ℕ → ℕ → Frame → List Frame → Token → Moved
  value_moved n row f up k = choose (begins k) (λ _. form_moved n row f up (form_for d row k) k) (λ _. stops bad_text)

  abbrev pub root_moved : Token → Moved
  root_moved k =
      choose (begins k)
      (λ _. choose (eqb (form_for d 0 k) real_form) (λ _. stops not_in_base) λ _. choose (eqb (form_for d 0 k) set_form) (λ _. goes (first_due (entered Set 0 (depth_most - 1)) [])) (λ _. stops misfit))
      (λ _. stops bad_text)

  abbrev pub colon_moved : ℕ → Frame → List Frame → Token → Moved
  colon_moved n f up k = choose (is_sign colon k) (λ _. goes (value_due n f up)) (λ _. stops bad_text)

  abbrev pub part_moved : Frame → List Frame → Token → Moved
  part_moved f up k = choose (is_sign comma k) (λ _. goes (member_due f up)) λ _. choose (is_sign (closes f.shape) k) (λ _. goes (leave up)) (λ _. stops bad_text)

  -- of a spot as `due` has it
  abbrev pub moved : Spot → Token → Moved
  moved root_due k = root_moved k
  moved (first_due f up) k = stops bad_text
  moved (name_due f up) k = name_moved k f up
  moved (colon_due n f up) k = colon_moved n f up k
  moved (value_due n f up) k = value_moved n (child d f.row n) f up k
  moved (part_due f up) k = part_moved f up k
  moved root_closed k = stops bad_text

pub data State : Type 0 where
  stands : Spot → ℕ → State
  ended : ℕ → ℕ → State
  done : ℕ → State

abbrev pub heard : Moved → ℕ → ℕ → State
heard (stops k) w q = ended k w
heard (goes y) w q = stands y q

abbrev pub is_closed : Spot → Bool
is_closed root_due = false
is_closed (first_due f up) = false
is_closed (name_due f up) = false
is_closed (colon_due n f up) = false
is_closed (value_due n f up) = false
is_closed (part_due f up) = false
is_closed root_closed = true

pub closed_is : (x : Spot) → is_closed x ≡ true → x ≡ root_closed
closed_is root_due e = absurd (let z : ◌≡◌ {A = ℕ} 0 1 = cc in omega arith)
closed_is (first_due f up) e = absurd (let z : ◌≡◌ {A = ℕ} 0 1 = cc in omega arith)
closed_is (name_due f up) e = absurd (let z : ◌≡◌ {A = ℕ} 0 1 = cc in omega arith)
closed_is (colon_due n f up) e = absurd (let z : ◌≡◌ {A = ℕ} 0 1 = cc in omega arith)
closed_is (value_due n f up) e = absurd (let z : ◌≡◌ {A = ℕ} 0 1 = cc in omega arith)
closed_is (part_due f up) e = absurd (let z : ◌≡◌ {A = ℕ} 0 1 = cc in omega arith)
closed_is root_closed e = refl

module _ (d s : List ℕ) where
  abbrev pub judged : Spot → ℕ → Judged Token → State
  judged x w (refused k v) = ended k v
  judged x w (good q l k) = heard (moved d (due x k) k) w q

  abbrev pub onwards : Spot → ℕ → State
  onwards x at = judged x at (token_at s at)

  unfoldable pub advance : State → State
  advance (ended k w) = ended k w
  advance (done p) = done p
  advance (stands x p) = choose (is_closed x) (λ _. done p) (λ _. onwards x (past space s p))

  unfoldable pub runs : ℕ → State → State
  runs zero a = a
  runs (suc n) a = runs n (advance a)

  abbrev pub Comes : State → State → Type 0
  Comes a b = (n : ℕ) × (runs n a ≡ b)

  pub comes-here : (a : State) → Comes a a
  unfolding runs
  comes-here a = (0, refl)

  pub comes-more : (a b : State) → Comes (advance a) b → Comes a b
  unfolding runs
  comes-more a b x = (suc x.0, x.1)

  comes-on : (n : ℕ) (a b c : State) → runs n a ≡ b → Comes b c → Comes a c
  unfolding runs
  comes-on zero a b c e x = rw e x
  comes-on (suc n) a b c e x = comes-more a c (comes-on n (advance a) b c e x)

  pub comes_join : (a b c : State) → Comes a b → Comes b c → Comes a c
  comes_join a b c x y = comes-on x.0 a b c x.1 y

  -- an end stays
  stays : (m : ℕ) (b : State) → advance b ≡ b → runs m b ≡ b
  unfolding runs
  stays zero b h = refl
  stays (suc m) b h = ap (runs m) h ∙ stays m b h

  ends-alike : (n m : ℕ) (a b c : State) → advance b ≡ b → advance c ≡ c → runs n a ≡ b → runs m a ≡ c → b ≡ c
  unfolding runs
  ends-alike zero m a b c h g e f = sym (stays m b h) ∙ ap (runs m) (sym e) ∙ f
  ends-alike (suc n) zero a b c h g e f = sym e ∙ ap (runs n) (ap advance f ∙ g) ∙ stays n c g
  ends-alike (suc n) (suc m) a b c h g e f = ends-alike n m (advance a) b c h g e f

  pub one_end : (a b c : State) → advance b ≡ b → advance c ≡ c → Comes a b → Comes a c → b ≡ c
  one_end a b c h g x y = ends-alike x.0 y.0 a b c h g x.1 y.1

  -- a token ends behind its place, and inside the text
  pub token_later : (p q l : ℕ) (k : Token) → token_at s (past space s p) ≡ good q l k → (p ≤ q) × (q ≤ length s)
  token_later p q l k e = let o = (token-sound s (past space s p) q l k e).lies in (omega (arith, o.ends, past-least space s p), lies-end o)

  stands-place : {x y : Spot} {p q : ℕ} → stands x p ≡ stands y q → p ≡ q
  stands-place e = cc

  no_end : {A : Type 0} {k w q : ℕ} {y : Spot} → ended k w ≡ stands y q → A
  no_end e = absurd (let z : ◌≡◌ {A = ℕ} 0 1 = cc in omega arith)

  not_done : {A : Type 0} {p q : ℕ} {y : Spot} → done p ≡ stands y q → A
  not_done e = absurd (let z : ◌≡◌ {A = ℕ} 0 1 = cc in omega arith)

  -- one step, and then any
  step_later : (x : Spot) (p q : ℕ) (y : Spot) → advance (stands x p) ≡ stands y q → p ≤ q
  unfolding advance
  step_later x p q y e = go (is_closed x) (token_at s (past space s p)) refl e
    where
      spoke : (m : Moved) (z : ℕ) → p ≤ z → heard m (past space s p) z ≡ stands y q → p ≤ q
      spoke (stops k) z h e = no_end e
      spoke (goes v) z h e = let i = stands-place e in omega arith

      go : (c : Bool) (r : Judged Token) → token_at s (past space s p) ≡ r → choose c (λ _. done p) (λ _. judged x (past space s p) r) ≡ stands y q → p ≤ q
      go true r f e = not_done e
      go false (refused k v) f e = no_end e
      go false (good z l k) f e = spoke (moved d (due x k) k) z (token_later p z l k f).0 e

  later_from : (n : ℕ) (a : State) (p q : ℕ) (y : Spot) → ((x : Spot) (z : ℕ) → a ≡ stands x z → p ≤ z) → runs n a ≡ stands y q → p ≤ q
  unfolding runs advance
  later_from zero a p q y h e = h y q e
  later_from (suc n) a p q y h e = later_from n (advance a) p q y (next a h) e
    where
      next : (a : State) → ((x : Spot) (z : ℕ) → a ≡ stands x z → p ≤ z) → (x : Spot) (z : ℕ) → advance a ≡ stands x z → p ≤ z
      next (ended k w) h x z e = no_end e
      next (done u) h x z e = not_done e
      next (stands v u) h x z e = omega (arith, h v u refl, step_later v u z x e)

  pub later : (x y : Spot) (p q : ℕ) → Comes (advance (stands x p)) (stands y q) → p ≤ q
  later x y p q c = later_from c.0 (advance (stands x p)) p q y (λ v z e. step_later x p z v e) c.1
