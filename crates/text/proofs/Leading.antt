-- The answers go the way of the text: where one is refused the machine ends with its number and place, and where one is good the machine comes to what is due after it.
-- Assumes nothing.
--   Leads a r y       from a, the machine ends as the answer r is refused, or comes to the spot y of what r is
--   key_leads, value_leads, member_leads, run_leads, inside_leads   so does each part
--   root_leads        and the root
use mathlib.Core.Path.{◌≡◌, refl, sym, ap, ◌∙◌}
use mathlib.Core.List.{List, [], ◌∷◌}
use mathlib.Core.Bool.{Bool, true, false, true≢false}
use Prim.Native.Nat.{ℕ, zero, suc, ◌+◌, ◌-◌, ◌<◌, ◌≤◌}
use native.Mathlib.Omega.{arith}
use lib.ListN.{length, drop}
use lib.Seq.{drop-drop}
use lib.Dec.{eqb}
use borrow.Author.Tests.{le-leb, eqb-true, ne_eqb}
use Rattle.paper.specs.Limits.{depth_most}
use Rattle.paper.specs.Refusals.{accepted, not_known, given_twice, not_in_base, misfit, too_deep, bad_text}
use Rattle.paper.specs.Checks.{choose, Judged, refused, good, refuse, need, after}
use Rattle.paper.proofs.Checks.{same_place, same_thing, needed, followed}
use Rattle.std.specs.Prelude.{Option, Some, None}
use Rattle.dictionary.specs.Formats.{set_form, real_form}
use Rattle.dictionary.specs.Rows.{number_in}
use Rattle.dictionary.specs.Children.{child_named}
use Rattle.payload.specs.Tree.{Tuples, none}
use Rattle.payload.specs.declared.Shape.{Shape}
use Rattle.payload.specs.declared.Shape.TheVariants.{Set, Array}
use Rattle.payload.specs.Fits.{child, fresh}
use Rattle.payload.specs.Text.{comma, colon, closes}
use Rattle.payload.specs.Values.{Valued, wrong, worth}
use Rattle.payload.specs.Reading.{Single, plain, group, number_for, before, value, is_group, shape_of}
use Rattle.payload.specs.Lying.{Lies}
use Rattle.text.specs.Tokens.{Token, a_sign, a_string, a_null, a_boolean, an_integer, a_real, spelt, space}
use Rattle.text.specs.Numerals.{leading}
use Rattle.text.specs.Scanning.{past, token_at, next}
use Rattle.text.specs.Values.{is_sign, begins, form_for, misfit_for, scalar_for}
use Rattle.text.specs.Writing.{child_for, name_for, name_at, colon_at, parted_at, key_at, value_for, value_at, member_at, run, inside_of, root_for, root_at}
use Rattle.text.specs.Spots.{Frame, entered, holding, Spot, root_due, first_due, name_due, colon_due, value_due, part_due, root_closed, member_of, member_due, leave, due}
use Rattle.text.proofs.Cutting.{past-least}
use Rattle.text.proofs.Standing.{token-sound}
use Rattle.text.proofs.Moving.{stops, goes, group_moved, scalar_moved, child_moved, name_moved, moved, State, stands, ended, heard, is_closed, judged, advance, Comes, comes-here, comes-more, comes_join, later}

comma-not : (g : Shape) (b : ℕ) → eqb b (closes g) ≡ true → eqb b comma ≡ false
comma-not Set b e = ne_eqb b comma (λ z. omega (arith, eqb-true b (closes Set) e))
comma-not Array b e = ne_eqb b comma (λ z. omega (arith, eqb-true b (closes Array) e))

-- a bracket that closes is no comma
pub close-comma : (g : Shape) (k : Token) → is_sign (closes g) k ≡ true → is_sign comma k ≡ false
close-comma g (a_sign b) e = comma-not g b e
close-comma g (a_string t) e = refl
close-comma g a_null e = refl
close-comma g (a_boolean b) e = refl
close-comma g (an_integer w) e = refl
close-comma g (a_real w) e = refl

leading_stop : (P : ℕ → Bool) (x : List ℕ) → leading P (drop (leading P x) x) ≡ 0
unfolding leading
leading_stop P [] = refl
leading_stop P (c ∷ x) = go (P c) refl (leading_stop P x)
  where
    go : (b : Bool) → P c ≡ b → leading P (drop (leading P x) x) ≡ 0 → leading P (drop (choose b (λ _. suc (leading P x)) (λ _. 0)) (c ∷ x)) ≡ 0
    go true e h = h
    go false e h = rw e

module _ (d s : List ℕ) where
  unfoldable pub Leads : {A : Type 0} → State → Judged A → (A → Spot) → Type 0
  Leads a (refused k w) y = Comes d s a (ended k w)
  Leads a (good q l x) y = Comes d s a (stands (y x) q)

  leads_on : {A : Type 0} (a b : State) (r : Judged A) (y : A → Spot) → Comes d s a b → Leads b r y → Leads a r y
  unfolding Leads
  leads_on a b (refused k w) y c h = comes_join d s a b (ended k w) c h
  leads_on a b (good q l x) y c h = comes_join d s a b (stands (y x) q) c h

  leads_more : {A : Type 0} (a : State) (r : Judged A) (y : A → Spot) → Leads (advance d s a) r y → Leads a r y
  leads_more a r y h = leads_on a (advance d s a) r y (comes-more d s a (advance d s a) (comes-here d s (advance d s a))) h

  after_leads : {A B : Type 0} (a : State) (r : Judged A) (y : A → Spot) (f : ℕ → ℕ → A → Judged B) (z : B → Spot) → Leads a r y
      → ((q l : ℕ) (x : A) → r ≡ good q l x → Comes d s a (stands (y x) q) → Leads (stands (y x) q) (f q l x) z)
      → Leads a (after r f) z
  unfolding Leads
  after_leads a (refused k w) y f z h g = h
  after_leads a (good q l x) y f z h g = leads_on a (stands (y x) q) (f q l x) z h (g q l x refl h)

  made_leads : {A B : Type 0} (a : State) (r : Judged A) (h : A → B) (z : B → Spot) → Leads a r (λ x. z (h x)) → Leads a (after r λ q _ x. good q 0 (h x)) z
  unfolding Leads
  made_leads a (refused k w) h z c = c
  made_leads a (good q l x) h z c = c

  -- the next token, where it is one
  next_leads : {A : Type 0} (x : Spot) (p : ℕ) (g : ℕ → ℕ → Token → Judged A) (z : A → Spot) → is_closed x ≡ false
      → ((q l : ℕ) (k : Token) → token_at s (past space s p) ≡ good q l k → Leads (heard (moved d (due x k) k) (past space s p) q) (g (past space s p) q k) z)
      → Leads (advance d s (stands x p)) (next s p g) z
  unfolding advance Leads
  next_leads {A} x p g z c H = rw c (go (token_at s (past space s p)) refl)
    where
      go : (r : Judged Token) → token_at s (past space s p) ≡ r → Leads (judged d s x (past space s p) r) (after r λ q _ k. g (past space s p) q k) z
      go (refused k w) e = comes-here d s (ended k w)
      go (good q l k) e = H q l k e

  colon_leads : (n : ℕ) (f : Frame) (up : List Frame) (p : ℕ) → Leads (advance d s (stands (colon_due n f up) p)) (colon_at s p) (λ _. value_due n f up)
  unfolding colon_at due Leads
  colon_leads n f up p = next_leads (colon_due n f up) p (λ at q c. need (is_sign colon c) bad_text at λ _. good q 0 (tt {0})) (λ _. value_due n f up) refl λ q l k e. go (is_sign colon k) q
    where
      go : (b : Bool) (q : ℕ) → Leads (heard (choose b (λ _. goes (value_due n f up)) (λ _. stops bad_text)) (past space s p) q) (need b bad_text (past space s p) λ _. good q 0 (tt {0})) (λ _. value_due n f up)
      go true q = comes-here d s (stands (value_due n f up) q)
      go false q = comes-here d s (ended bad_text (past space s p))

  -- a name and its colon
  module _ (f : Frame) (up : List Frame) (p : ℕ) where
    fresh_leads : (n q : ℕ) (b : Bool)
        → Leads (heard (choose b (λ _. goes (colon_due n f up)) (λ _. stops given_twice)) (past space s p) q) (need b given_twice (past space s p) λ _. after (colon_at s q) λ z _ _. good z 0 n) (λ m. value_due m f up)
    unfolding Leads
    fresh_leads n q true =
        leads_more (stands (colon_due n f up) q) (after (colon_at s q) λ z _ _. good z 0 n) (λ m. value_due m f up)
        (made_leads (advance d s (stands (colon_due n f up) q)) (colon_at s q) (λ _. n) (λ m. value_due m f up) (colon_leads n f up q))
    fresh_leads n q false = comes-here d s (ended given_twice (past space s p))

    child_leads : (c : Option ℕ) (q : ℕ)
        → Leads (heard (child_moved d c f up) (past space s p) q)
        (after (child_for d s c (past space s p) q) λ e _ n. need (fresh d f.row f.seen n) given_twice (past space s p) λ _. after (colon_at s e) λ z _ _. good z 0 n) (λ m. value_due m f up)
    unfolding Leads
    child_leads None q = comes-here d s (ended not_known (past space s p))
    child_leads (Some c) q = fresh_leads (number_in d c) q (fresh d f.row f.seen (number_in d c))

    name_leads : (k : Token) (q : ℕ)
        → Leads (heard (name_moved d k f up) (past space s p) q)
        (after (name_for d s k f.row (past space s p) q) λ e _ n. need (fresh d f.row f.seen n) given_twice (past space s p) λ _. after (colon_at s e) λ z _ _. good z 0 n) (λ m. value_due m f up)
    unfolding Leads
    name_leads (a_sign b) q = comes-here d s (ended bad_text (past space s p))
    name_leads (a_string t) q = child_leads (child_named d f.row t) q
    name_leads a_null q = comes-here d s (ended bad_text (past space s p))
    name_leads (a_boolean b) q = comes-here d s (ended bad_text (past space s p))
    name_leads (an_integer w) q = comes-here d s (ended bad_text (past space s p))
    name_leads (a_real w) q = comes-here d s (ended bad_text (past space s p))

    pub key_leads : (i : ℕ) → Leads (advance d s (stands (name_due f up) p)) (key_at d s Set f.row i f.seen p) (λ n. value_due n f up)
    unfolding key_at name_at advance due Leads
    key_leads i = go (token_at s (past space s p))
      where
        go : (r : Judged Token)
            → Leads (judged d s (name_due f up) (past space s p) r)
            (after (after r λ q _ k. name_for d s k f.row (past space s p) q) λ e _ n. need (fresh d f.row f.seen n) given_twice (past space s p) λ _. after (colon_at s e) λ z _ _. good z 0 n) (λ m. value_due m f up)
        go (refused k w) = comes-here d s (ended k w)
        go (good q l k) = name_leads k q

  -- an object or array, with so much nesting left
  abbrev pub Inside : ℕ → Type 0
  Inside room = (g : Shape) (row at p : ℕ) (up : List Frame) → Leads (heard (group_moved room g row up) at p) (inside_of d s room g row at p) (λ _. leave up)

  module _ (f : Frame) (up : List Frame) (H : Inside f.room) where
    -- a value, test by test: its turn, its format, and whether it opens
    judged_leads : (n row form at q : ℕ) (v : Valued) (a b c : Bool)
        → Leads
        (heard (choose a (λ _. choose b (λ _. choose c (λ _. group_moved f.room (shape_of form) row (holding n f ∷ up)) λ _. scalar_moved v (part_due (holding n f) up)) (λ _. stops (misfit_for d row form))) (λ _. stops bad_text)) at q)
        (need a bad_text at λ _. need b (misfit_for d row form) at λ _. choose c (λ _. after (inside_of d s f.room (shape_of form) row at q) λ z _ kids. good z 0 (group n (shape_of form) kids)) λ _. value v at λ x. good q 0 (plain n x))
        (λ x. part_due (holding (number_for x) f) up)
    unfolding Leads
    judged_leads n row form at q v false b c = comes-here d s (ended bad_text at)
    judged_leads n row form at q v true false c = comes-here d s (ended (misfit_for d row form) at)
    judged_leads n row form at q v true true true =
        made_leads (heard (group_moved f.room (shape_of form) row (holding n f ∷ up)) at q) (inside_of d s f.room (shape_of form) row at q) (group n (shape_of form)) (λ x. part_due (holding (number_for x) f) up)
        (H (shape_of form) row at q (holding n f ∷ up))
    judged_leads n row form at q (wrong k) true true false = comes-here d s (ended k at)
    judged_leads n row form at q (worth x) true true false = comes-here d s (stands (part_due (holding n f) up) q)

    pub value_leads : (n p : ℕ) → Leads (advance d s (stands (value_due n f up) p)) (value_at d s (inside_of d s f.room) n (child d f.row n) p) (λ x. part_due (holding (number_for x) f) up)
    unfolding value_at due
    value_leads n p =
        next_leads (value_due n f up) p (λ at q k. value_for d s (inside_of d s f.room) n (child d f.row n) k at q) (λ x. part_due (holding (number_for x) f) up) refl λ q l k e.
        let row = child d f.row n in
        judged_leads n row (form_for d row k) (past space s p) q (scalar_for d row k) (begins k) (eqb (misfit_for d row (form_for d row k)) accepted) (is_group (form_for d row k))

    pub member_leads : (g : Shape) (p : ℕ) → Leads (advance d s (stands (member_of g f up) p)) (member_at d s (inside_of d s f.room) g f.row f.index f.seen p) (λ x. part_due (holding (number_for x) f) up)
    unfolding member_at key_at
    member_leads Set p =
        after_leads (advance d s (stands (name_due f up) p)) (key_at d s Set f.row f.index f.seen p) (λ n. value_due n f up) (λ q _ n. value_at d s (inside_of d s f.room) n (child d f.row n) q) (λ x. part_due (holding (number_for x) f) up)
        (key_leads f up p f.index) λ q l n e c. leads_more (stands (value_due n f up) q) (value_at d s (inside_of d s f.room) n (child d f.row n) q) (λ x. part_due (holding (number_for x) f) up) (value_leads n q)
    member_leads Array p = value_leads f.index p

  -- after a member
  parted_leads : (f : Frame) (up : List Frame) (p : ℕ) → Leads (advance d s (stands (part_due f up) p)) (parted_at s f.shape p) (λ more. choose more (λ _. member_due f up) (λ _. leave up))
  unfolding parted_at due Leads
  parted_leads f up p =
      next_leads (part_due f up) p (λ at q c. choose (is_sign comma c) (λ _. good q 0 true) λ _. need (is_sign (closes f.shape) c) bad_text at λ _. good q 0 false) (λ more. choose more (λ _. member_due f up) (λ _. leave up)) refl λ q l k e.
      go (is_sign comma k) (is_sign (closes f.shape) k) q
    where
      go : (a b : Bool) (q : ℕ)
          → Leads (heard (choose a (λ _. goes (member_due f up)) λ _. choose b (λ _. goes (leave up)) (λ _. stops bad_text)) (past space s p) q)
          (choose a (λ _. good q 0 true) λ _. need b bad_text (past space s p) λ _. good q 0 false) (λ more. choose more (λ _. member_due f up) (λ _. leave up))
      go true b q = comes-here d s (stands (member_due f up) q)
      go false true q = comes-here d s (stands (leave up) q)
      go false false q = comes-here d s (ended bad_text (past space s p))

  -- a comma takes a byte
  pub comma-takes : (g : Shape) (p q l : ℕ) → parted_at s g p ≡ good q l true → p < q
  unfolding parted_at
  comma-takes g p q l e = let x = followed q l true (token_at s (past space s p)) _ e in go x.0 x.2 (is_sign comma x.2) refl (token-sound s (past space s p) x.0 x.1 x.2 x.3).lies x.4
    where
      one : (k : Token) → is_sign comma k ≡ true → length (spelt k) ≡ 1
      one (a_sign b) e = refl
      one (a_string t) e = absurd (true≢false (sym e))
      one a_null e = absurd (true≢false (sym e))
      one (a_boolean b) e = absurd (true≢false (sym e))
      one (an_integer w) e = absurd (true≢false (sym e))
      one (a_real w) e = absurd (true≢false (sym e))

      go : (z : ℕ) (k : Token) (b : Bool) → is_sign comma k ≡ b → Lies s (spelt k) (past space s p) z → (choose b (λ _. good z 0 true) λ _. need (is_sign (closes g) k) bad_text (past space s p) λ _. good z 0 false) ≡ good q l true → p < q
      go z k true f y x = let i = same_place x in omega (arith, y.ends, one k f, past-least space s p)
      go z k false f y x = let u = needed q l true (is_sign (closes g) k) _ _ _ x in absurd (true≢false (sym (same_thing u.1)))

  -- no token begins where the text has ended
  pub no_token : (p : ℕ) → length s ≤ p → token_at s (past space s p) ≡ refused bad_text (length s)
  unfolding token_at
  no_token p h = rw (le-leb (length s) (past space s p) (omega (arith, past-least space s p)))

  spent_leads : (g : Shape) (f : Frame) (up : List Frame) (p : ℕ) → length s ≤ p → Comes d s (advance d s (stands (member_of g f up) p)) (ended bad_text (length s))
  unfolding advance
  spent_leads Set f up p h = rw (no_token p h) (comes-here d s (ended bad_text (length s)))
  spent_leads Array f up p h = rw (no_token p h) (comes-here d s (ended bad_text (length s)))

  -- what parts a member from the next, and the rest
  rest_leads : (f : Frame) (up : List Frame) (x : Single) (q : ℕ) (rest : Judged Tuples) (more : Bool) → (more ≡ true → Leads (advance d s (stands (member_due f up) q)) rest (λ _. leave up))
      → Leads (stands (choose more (λ _. member_due f up) (λ _. leave up)) q) (choose more (λ _. after rest λ z _ t. good z 0 (before x t)) λ _. good q 0 (before x none)) (λ _. leave up)
  unfolding Leads
  rest_leads f up x q rest true H =
      leads_more (stands (member_due f up) q) (after rest λ z _ t. good z 0 (before x t)) (λ _. leave up) (made_leads (advance d s (stands (member_due f up) q)) rest (before x) (λ _. leave up) (H refl))
  rest_leads f up x q rest false H = comes-here d s (stands (leave up) q)

  pub run_leads : (k : ℕ) (f : Frame) (up : List Frame) → Inside f.room → (p : ℕ) → length s ≤ p + k → Leads (advance d s (stands (member_due f up) p)) (run d s (member_at d s (inside_of d s f.room)) f.shape f.row k f.index f.seen p) (λ _. leave up)
  unfolding run Leads
  run_leads zero f up H p h = spent_leads f.shape f up p (omega arith)
  run_leads (suc k) f up H p h =
      let member = member_at d s (inside_of d s f.room) in
      let rest : ℕ → Single → Judged Tuples = λ q x. run d s member f.shape f.row k (suc f.index) (number_for x ∷ f.seen) q in
      after_leads (advance d s (stands (member_due f up) p)) (member f.shape f.row f.index f.seen p) (λ x. part_due (holding (number_for x) f) up)
      (λ e _ x. after (parted_at s f.shape e) λ q _ more. choose more (λ _. after (rest q x) λ z _ t. good z 0 (before x t)) λ _. good q 0 (before x none))
      (λ _. leave up) (member_leads f up H f.shape p) λ e l x e₁ c₁.
      leads_more (stands (part_due (holding (number_for x) f) up) e) (after (parted_at s f.shape e) λ q _ more. choose more (λ _. after (rest q x) λ z _ t. good z 0 (before x t)) λ _. good q 0 (before x none)) (λ _. leave up)
      (after_leads (advance d s (stands (part_due (holding (number_for x) f) up) e)) (parted_at s f.shape e) (λ more. choose more (λ _. member_due (holding (number_for x) f) up) (λ _. leave up))
      (λ q _ more. choose more (λ _. after (rest q x) λ z _ t. good z 0 (before x t)) λ _. good q 0 (before x none))
      (λ _. leave up) (parted_leads (holding (number_for x) f) up e) λ q m more e₂ c₂.
      rest_leads (holding (number_for x) f) up x q (rest q x) more λ t.
      run_leads k (holding (number_for x) f) up H q (omega (arith, comma-takes f.shape e q m (rw t at e₂), later d s (member_due f up) (part_due (holding (number_for x) f) up) p e c₁)))

  -- spaces are passed once
  past_once : (p : ℕ) → past space s (past space s p) ≡ past space s p
  unfolding past
  past_once p =
      let n = leading space (drop p s) in
      let e : leading space (drop (p + n) s) ≡ 0 = ap (leading space) (sym (drop-drop n p s)) ∙ leading_stop space (drop p s) in
      omega arith

  -- a first member is read from where its token stands
  first_member : (g : Shape) (f : Frame) (up : List Frame) (p q l : ℕ) (k : Token) → token_at s (past space s p) ≡ good q l k → heard (moved d (member_of g f up) k) (past space s p) q ≡ advance d s (stands (member_of g f up) (past space s p))
  unfolding advance due
  first_member Set f up p q l k e = rw (past_once p, e)
  first_member Array f up p q l k e = rw (past_once p, e)

  first_leads : (room : ℕ) → Inside room → (g : Shape) (row p : ℕ) (up : List Frame) (q l : ℕ) (k : Token) → token_at s (past space s p) ≡ good q l k → (b : Bool) → is_sign (closes g) k ≡ b
      → Leads (heard (moved d (choose b (λ _. part_due (entered g row room) up) (λ _. member_of g (entered g row room) up)) k) (past space s p) q)
      (choose b (λ _. good q 0 none) λ _. run d s (member_at d s (inside_of d s room)) g row (length s) 0 [] (past space s p)) (λ _. leave up)
  unfolding Leads
  first_leads room H g row p up q l k e true c = rw (close-comma g k c, c) (comes-here d s (stands (leave up) q))
  first_leads room H g row p up q l k e false c = rw (first_member g (entered g row room) up p q l k e) (run_leads (length s) (entered g row room) up H (past space s p) (omega arith))

  pub inside_leads : (room : ℕ) → Inside room
  unfolding inside_of Leads due
  inside_leads zero g row at p up = comes-here d s (ended too_deep at)
  inside_leads (suc room) g row at p up =
      let rest : ℕ → ℕ → Token → Judged Tuples = λ first q k. choose (is_sign (closes g) k) (λ _. good q 0 none) λ _. run d s (member_at d s (inside_of d s room)) g row (length s) 0 [] first in
      leads_more (stands (first_due (entered g row room) up) p) (next s p rest) (λ _. leave up)
      (next_leads (first_due (entered g row room) up) p rest (λ _. leave up) refl λ q l k e. first_leads room (inside_leads room) g row p up q l k e (is_sign (closes g) k) refl)

  pub root_leads : Leads (advance d s (stands root_due 0)) (root_at d s) (λ _. root_closed)
  unfolding root_at due Leads
  root_leads = next_leads root_due 0 (λ at q k. root_for d s k at q) (λ _. root_closed) refl λ q l k e. go (begins k) (eqb (form_for d 0 k) real_form) (eqb (form_for d 0 k) set_form) q
    where
      go : (a b c : Bool) (q : ℕ)
          → Leads (heard (choose a (λ _. choose b (λ _. stops not_in_base) λ _. choose c (λ _. goes (first_due (entered Set 0 (depth_most - 1)) [])) (λ _. stops misfit)) (λ _. stops bad_text)) (past space s 0) q)
          (need a bad_text (past space s 0) λ _. refuse b not_in_base (past space s 0) λ _. need c misfit (past space s 0) λ _. inside_of d s depth_most Set 0 (past space s 0) q) (λ _. root_closed)
      go false b c q = comes-here d s (ended bad_text (past space s 0))
      go true true c q = comes-here d s (ended not_in_base (past space s 0))
      go true false false q = comes-here d s (ended misfit (past space s 0))
      go true false true q = inside_leads depth_most Set 0 (past space s 0) q []
