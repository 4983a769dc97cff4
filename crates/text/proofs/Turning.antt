-- One token where it is due: it goes on as `Steps` says, or stops as a line of the table says, and both ways.
-- Assumes nothing.
--   TokenFails, Case   the lines of one token; what a move says
--   turn-case          what the machine's move says
--   steps-moved, fails-moved   and back
use Rattle.std.specs.Prelude.{Option, Some, None}
use mathlib.Core.Path.{◌≡◌, refl, sym, ap, ◌∙◌}
use mathlib.Core.List.{List, [], ◌∷◌}
use mathlib.Core.Bool.{Bool, true, false, not, ◌&&◌, ◌||◌, true≢false}
use Prim.Native.Nat.{ℕ, zero, suc, ◌-◌}
use native.Mathlib.Omega.{arith}
use lib.Dec.{eqb}
use borrow.Author.Tests.{eqb-true, eq-eqb}
use Rattle.paper.specs.Limits.{depth_most}
use Rattle.paper.specs.Refusals.{accepted, not_known, given_twice, not_in_base, misfit, value_wrong, too_deep, bad_text}
use Rattle.paper.specs.Checks.{choose}
use Rattle.paper.proofs.Tests.{or_left, or_right, so_not, not_so}
use Rattle.numbers.specs.declared.Integer.{Integer}
use Rattle.numbers.specs.Decimal.{decimal_of, integral, integer_said}
use Rattle.numbers.proofs.Decimals.{text_says, told}
use Rattle.std.specs.Prelude.{Option, Some, None}
use Rattle.dictionary.specs.Formats.{set_form, array_form, null_form, enum_form, string_form, real_form}
use Rattle.dictionary.specs.Rows.{number_in}
use Rattle.dictionary.specs.Children.{child_named}
use Rattle.payload.specs.Tree.{option, string, shape_format}
use Rattle.payload.specs.declared.Shape.{Shape}
use Rattle.payload.specs.declared.Shape.TheVariants.{Set, Array}
use Rattle.payload.specs.Fits.{child, fresh, fits}
use Rattle.payload.specs.Text.{comma, colon, opens, closes}
use Rattle.payload.specs.Values.{Valued, wrong, worth}
use Rattle.paper.proofs.Checks.{step}
use Rattle.text.specs.Tokens.{Token, a_sign, a_string, a_null, a_boolean, an_integer, a_real}
use Rattle.text.specs.Values.{is_sign, begins, in_base, is_enum, form_for, misfit_for, integer_for, option_for, scalar_for}
use Rattle.text.specs.Spots.{Frame, entered, holding, Spot, root_due, first_due, name_due, colon_due, value_due, part_due, root_closed, member_due, leave, is_string, is_null, is_real, in_turn, Suits, Tells, tells_null, tells_boolean, tells_integer, tells_option, tells_string, Steps, opens_root, names, binds, tells, opens_group, parts, closes_group}
use Rattle.text.specs.Refusing.{OfRow, NotKnown, not_known_at, GivenTwice, given_twice_at, NotInBase, root_real, real, unbased, Misfit, root_no_set, misfitting, ValueWrong, no_integer, no_option, TooDeep, too_deep_at}
use Rattle.text.proofs.Standing.{Known}
use Rattle.text.proofs.Leading.{close-comma}
use Rattle.text.proofs.Moving.{Moved, stops, goes, group_moved, scalar_moved, child_moved, name_moved, body_moved, form_moved, value_moved, root_moved, colon_moved, part_moved, moved}

or-none : (a b : Bool) → a ≡ false → b ≡ false → a || b ≡ false
or-none a b e f = rw (e, f)

-- what a token is
pub sign-token : (c : ℕ) (k : Token) → is_sign c k ≡ true → k ≡ a_sign c
sign-token c (a_sign b) e = ap a_sign (eqb-true b c e)
sign-token c (a_string t) e = absurd (true≢false (sym e))
sign-token c a_null e = absurd (true≢false (sym e))
sign-token c (a_boolean b) e = absurd (true≢false (sym e))
sign-token c (an_integer w) e = absurd (true≢false (sym e))
sign-token c (a_real w) e = absurd (true≢false (sym e))

sign-own : (c : ℕ) → is_sign c (a_sign c) ≡ true
sign-own c = eq-eqb c c refl

opens-is : (b : ℕ) → begins (a_sign b) ≡ true → (g : Shape) × (b ≡ opens g)
opens-is b e = go (eqb b (opens Set)) (eqb b (opens Array)) refl refl e
  where
    go : (x y : Bool) → eqb b (opens Set) ≡ x → eqb b (opens Array) ≡ y → x || y ≡ true → (g : Shape) × (b ≡ opens g)
    go true y f h e = (Set, eqb-true b (opens Set) f)
    go false true f h e = (Array, eqb-true b (opens Array) h)
    go false false f h e = absurd (true≢false (sym e))

opens-begins : (g : Shape) → begins (a_sign (opens g)) ≡ true
opens-begins Set = refl
opens-begins Array = refl

real-is : (k : Token) → is_real k ≡ true → (w : List ℕ) × (k ≡ a_real w)
real-is (a_sign b) e = absurd (true≢false (sym e))
real-is (a_string t) e = absurd (true≢false (sym e))
real-is a_null e = absurd (true≢false (sym e))
real-is (a_boolean b) e = absurd (true≢false (sym e))
real-is (an_integer w) e = absurd (true≢false (sym e))
real-is (a_real w) e = (w, refl)

module _ (d : List ℕ) (row : ℕ) where
  -- a token's format, as its kind
  sign-form : (P : ℕ → Type 0) (b : ℕ) → P set_form → P array_form → P (form_for d row (a_sign b))
  unfolding form_for
  sign-form P b x y = go (eqb b (opens Set))
    where
      go : (u : Bool) → P (choose u (λ _. set_form) (λ _. array_form))
      go true = x
      go false = y

  string-form : (P : ℕ → Type 0) (t : List ℕ) → P enum_form → P string_form → P (form_for d row (a_string t))
  unfolding form_for
  string-form P t x y = go (is_enum d row)
    where
      go : (u : Bool) → P (choose u (λ _. enum_form) (λ _. string_form))
      go true = x
      go false = y

  form-real : (k : Token) → eqb (form_for d row k) real_form ≡ is_real k
  unfolding form_for
  form-real (a_sign b) = sign-form (λ f. eqb f real_form ≡ false) b refl refl
  form-real (a_string t) = string-form (λ f. eqb f real_form ≡ false) t refl refl
  form-real a_null = refl
  form-real (a_boolean b) = refl
  form-real (an_integer w) = refl
  form-real (a_real w) = refl

  form-null : (k : Token) → eqb (form_for d row k) null_form ≡ is_null k
  unfolding form_for
  form-null (a_sign b) = sign-form (λ f. eqb f null_form ≡ false) b refl refl
  form-null (a_string t) = string-form (λ f. eqb f null_form ≡ false) t refl refl
  form-null a_null = refl
  form-null (a_boolean b) = refl
  form-null (an_integer w) = refl
  form-null (a_real w) = refl

  form-set : (k : Token) → eqb (form_for d row k) set_form ≡ true → k ≡ a_sign (opens Set)
  unfolding form_for
  form-set (a_sign b) e = go (eqb b (opens Set)) refl e
    where
      go : (u : Bool) → eqb b (opens Set) ≡ u → eqb (choose u (λ _. set_form) (λ _. array_form)) set_form ≡ true → a_sign b ≡ a_sign (opens Set)
      go true f e = ap a_sign (eqb-true b (opens Set) f)
      go false f e = absurd (true≢false (sym e))
  form-set (a_string t) e = absurd (true≢false (sym e ∙ string-form (λ f. eqb f set_form ≡ false) t refl refl))
  form-set a_null e = absurd (true≢false (sym e))
  form-set (a_boolean b) e = absurd (true≢false (sym e))
  form-set (an_integer w) e = absurd (true≢false (sym e))
  form-set (a_real w) e = absurd (true≢false (sym e))

  form-opens : (g : Shape) → form_for d row (a_sign (opens g)) ≡ shape_format g
  unfolding form_for
  form-opens Set = refl
  form-opens Array = refl

  -- "fraction or exponent 8, row of a format not in the base and value not null 8, fit 9", and what is left
  data Checked (k : Token) : Type 0 where
    a_real_lem : is_real k ≡ true → misfit_for d row (form_for d row k) ≡ not_in_base → Checked k
    no_base : in_base d row ≡ false → is_null k ≡ false → misfit_for d row (form_for d row k) ≡ not_in_base → Checked k
    no_fit : is_real k ≡ false → in_base d row || is_null k ≡ true → fits d row (form_for d row k) ≡ false → misfit_for d row (form_for d row k) ≡ misfit → Checked k
    all_fit : Suits d row k → misfit_for d row (form_for d row k) ≡ accepted → Checked k

  misfit_by : (k : Token) (a b c e : Bool) → is_real k ≡ a → in_base d row ≡ b → is_null k ≡ c → fits d row (form_for d row k) ≡ e
      → misfit_for d row (form_for d row k) ≡ (choose a (λ _. not_in_base) λ _. choose (not b && not c) (λ _. not_in_base) λ _. choose e (λ _. accepted) (λ _. misfit))
  unfolding misfit_for
  misfit_by k a b c e f g h i = rw (form-real k, form-null k, f, g, h, i)

  checked : (k : Token) → Checked k
  checked k = go (is_real k) (in_base d row) (is_null k) (fits d row (form_for d row k)) refl refl refl refl
    where
      go : (a b c e : Bool) → is_real k ≡ a → in_base d row ≡ b → is_null k ≡ c → fits d row (form_for d row k) ≡ e → Checked k
      go true b c e f g h i = a_real_lem f (misfit_by k true b c e f g h i)
      go false false false e f g h i = no_base g h (misfit_by k false false false e f g h i)
      go false false true false f g h i = no_fit f (rw (g, h)) i (misfit_by k false false true false f g h i)
      go false false true true f g h i = all_fit (record { plain = f; based = rw (g, h); fitting = i }) (misfit_by k false false true true f g h i)
      go false true c false f g h i = no_fit f (rw g) i (misfit_by k false true c false f g h i)
      go false true c true f g h i = all_fit (record { plain = f; based = rw g; fitting = i }) (misfit_by k false true c true f g h i)

  real-misfit : (k : Token) → is_real k ≡ true → misfit_for d row (form_for d row k) ≡ not_in_base
  real-misfit k f = misfit_by k true (in_base d row) (is_null k) (fits d row (form_for d row k)) f refl refl refl

  base-misfit : (k : Token) → in_base d row ≡ false → is_null k ≡ false → misfit_for d row (form_for d row k) ≡ not_in_base
  base-misfit k g h = go (is_real k) refl
    where
      go : (a : Bool) → is_real k ≡ a → misfit_for d row (form_for d row k) ≡ not_in_base
      go true f = real-misfit k f
      go false f = misfit_by k false false false (fits d row (form_for d row k)) f g h refl

  based-misfit : (k : Token) (e : Bool) → is_real k ≡ false → in_base d row || is_null k ≡ true → fits d row (form_for d row k) ≡ e → misfit_for d row (form_for d row k) ≡ choose e (λ _. accepted) (λ _. misfit)
  based-misfit k e f z i = go (in_base d row) (is_null k) refl refl z
    where
      go : (b c : Bool) → in_base d row ≡ b → is_null k ≡ c → b || c ≡ true → misfit_for d row (form_for d row k) ≡ choose e (λ _. accepted) (λ _. misfit)
      go true c g h z = misfit_by k false true c e f g h i
      go false true g h z = misfit_by k false false true e f g h i
      go false false g h z = absurd (true≢false (sym z))

  suits-misfit : (k : Token) → Suits d row k → misfit_for d row (form_for d row k) ≡ accepted
  suits-misfit k z = based-misfit k true z.plain z.based z.fitting

module _ (d : List ℕ) where
  unfoldable pub TokenFails : ℕ → Spot → Token → Type 0
  TokenFails n x k =
      choose (eqb n not_known) (λ _. NotKnown d x k) λ _.
      choose (eqb n given_twice) (λ _. GivenTwice d x k) λ _.
      choose (eqb n not_in_base) (λ _. NotInBase d x k) λ _.
      choose (eqb n misfit) (λ _. Misfit d x k) λ _.
      choose (eqb n value_wrong) (λ _. ValueWrong d x k) λ _.
      choose (eqb n too_deep) (λ _. TooDeep d x k) λ _.
      choose (eqb n bad_text) (λ _. in_turn x k ≡ false) λ _.
      ⊥

  unfoldable pub Case : Spot → Token → Moved → Type 0
  Case x k (stops n) = TokenFails n x k
  Case x k (goes y) = Steps d x k y

  of_row : (n : ℕ) (f : Frame) (up : List Frame) (room : ℕ) → f.room ≡ room → OfRow d (value_due n f up) (child d f.row n) room
  of_row n f up room e = record { number = n; frame = f; around = up; here = refl; row_is = refl; room_is = e }

  module _ (n : ℕ) (f : Frame) (up : List Frame) where
    value-goes : (row : ℕ) (k : Token) → begins k ≡ true → misfit_for d row (form_for d row k) ≡ accepted → value_moved d n row f up k ≡ body_moved d n row f up (form_for d row k) k
    value-goes row k b e = rw (b, e)

    value-stops : (row : ℕ) (k : Token) (m : ℕ) → begins k ≡ true → misfit_for d row (form_for d row k) ≡ m → eqb m accepted ≡ false → value_moved d n row f up k ≡ stops m
    value-stops row k m b e z = rw (b, e, z)

    -- what stands behind the checks
    opens-body : (row : ℕ) (g : Shape) → body_moved d n row f up (form_for d row (a_sign (opens g))) (a_sign (opens g)) ≡ group_moved f.room g row (holding n f ∷ up)
    unfolding form_for
    opens-body row Set = refl
    opens-body row Array = refl

    group-case : (k : Token) (g : Shape) (room : ℕ) → k ≡ a_sign (opens g) → Suits d (child d f.row n) k → f.room ≡ room → Case (value_due n f up) k (group_moved room g (child d f.row n) (holding n f ∷ up))
    unfolding Case TokenFails
    group-case k g zero i z e = too_deep_at (child d f.row n) g (of_row n f up 0 e) i z
    group-case k g (suc room) i z e = opens_group n f up g room refl i z e refl

    option-case : (t : List ℕ) (c : Option ℕ) → child_named d (child d f.row n) t ≡ c → is_enum d (child d f.row n) ≡ true → Suits d (child d f.row n) (a_string t) → Case (value_due n f up) (a_string t) (scalar_moved (option_for d c) (part_due (holding n f) up))
    unfolding Case TokenFails
    option-case t None e b z = no_option (child d f.row n) f.room t (of_row n f up f.room refl) z refl b e
    option-case t (Some c) e b z = tells n f up refl z (tells_option t c refl b e) refl

    string-case : (t : List ℕ) (b : Bool) → is_enum d (child d f.row n) ≡ b → Suits d (child d f.row n) (a_string t) → Case (value_due n f up) (a_string t) (body_moved d n (child d f.row n) f up (choose b (λ _. enum_form) (λ _. string_form)) (a_string t))
    unfolding Case scalar_for
    string-case t true e z = rw e (option-case t (child_named d (child d f.row n) t) refl e z)
    string-case t false e z = rw e (tells n f up refl z (tells_string t refl e) refl)

    no_clash : (v : List ℕ) (i : Integer) → integer_said v ≡ None → integer_said v ≡ Some i → ⊥
    no_clash v i e g = let z : ◌≡◌ {A = ℕ} 0 1 = cc in omega arith

    integer-case : (v : List ℕ) (i : Option Integer) → integer_said v ≡ i → integral v ≡ true → Suits d (child d f.row n) (an_integer v) → Case (value_due n f up) (an_integer v) (scalar_moved (integer_for i) (part_due (holding n f) up))
    unfolding Case TokenFails
    integer-case v None e h z = no_integer (child d f.row n) f.room v (of_row n f up f.room refl) z refl λ i g j. no_clash v i e (ap integer_said (sym j) ∙ text_says i g)
    integer-case v (Some i) e h z = let o = told v i h e in tells n f up refl z (tells_integer i o.held (ap an_integer (sym o.text))) refl

    body-case : (k : Token) → Known k → begins k ≡ true → Suits d (child d f.row n) k → Case (value_due n f up) k (body_moved d n (child d f.row n) f up (form_for d (child d f.row n) k) k)
    unfolding Case form_for scalar_for
    body-case (a_sign b) h g z = opened (opens-is b g)
      where
        opened : (a : Shape) × (b ≡ opens a) → Case (value_due n f up) (a_sign b) (body_moved d n (child d f.row n) f up (form_for d (child d f.row n) (a_sign b)) (a_sign b))
        opened o =
            let i = o.1 in
            let y : Suits d (child d f.row n) (a_sign (opens o.0)) = rw i at z in
            rw (i, opens-body (child d f.row n) o.0) (group-case (a_sign (opens o.0)) o.0 f.room refl y refl)
    body-case (a_string t) h g z = string-case t (is_enum d (child d f.row n)) refl z
    body-case a_null h g z = tells n f up refl z (tells_null refl) refl
    body-case (a_boolean b) h g z = tells n f up refl z (tells_boolean b refl) refl
    body-case (an_integer v) h g z = integer-case v (integer_said v) refl h z
    body-case (a_real v) h g z = absurd (true≢false z.plain)

    form-case : (k : Token) → Known k → begins k ≡ true → Checked d (child d f.row n) k → Case (value_due n f up) k (form_moved d n (child d f.row n) f up (form_for d (child d f.row n) k) k)
    unfolding Case TokenFails
    form-case k h g (a_real_lem a e) = rw e (real (child d f.row n) f.room (of_row n f up f.room refl) a)
    form-case k h g (no_base a b e) = rw e (unbased (child d f.row n) f.room (of_row n f up f.room refl) g a b)
    form-case k h g (no_fit a b c e) = rw e (misfitting (child d f.row n) f.room (of_row n f up f.room refl) g a b c)
    form-case k h g (all_fit a e) = rw e (body-case k h g a)

    value-case : (k : Token) → Known k → Case (value_due n f up) k (value_moved d n (child d f.row n) f up k)
    unfolding Case TokenFails in_turn
    value-case k h = go (begins k) refl
      where
        go : (b : Bool) → begins k ≡ b → Case (value_due n f up) k (choose b (λ _. form_moved d n (child d f.row n) f up (form_for d (child d f.row n) k) k) (λ _. stops bad_text))
        go true e = form-case k h e (checked d (child d f.row n) k)
        go false e = e

  -- the other spots
  root-case : (k : Token) → Case root_due k (root_moved d k)
  unfolding Case TokenFails in_turn form_for
  root-case k = rw (form-real d 0 k) (go (begins k) (is_real k) (eqb (form_for d 0 k) set_form) refl refl refl)
    where
      go : (a b c : Bool) → begins k ≡ a → is_real k ≡ b → eqb (form_for d 0 k) set_form ≡ c
          → Case root_due k (choose a (λ _. choose b (λ _. stops not_in_base) λ _. choose c (λ _. goes (first_due (entered Set 0 (depth_most - 1)) [])) (λ _. stops misfit)) (λ _. stops bad_text))
      go false b c e f g = e
      go true true c e f g = root_real refl f
      go true false true e f g = opens_root refl (form-set d 0 k g) refl
      go true false false e f g = root_no_set refl e f λ z. so_not (eqb (form_for d 0 k) set_form) g (ap (λ (u : Token). eqb (form_for d 0 u) set_form) z)

  module _ (f : Frame) (up : List Frame) where
    fresh-case : (t : List ℕ) (c : ℕ) → child_named d f.row t ≡ Some c → (b : Bool) → fresh d f.row f.seen (number_in d c) ≡ b → Case (name_due f up) (a_string t) (choose b (λ _. goes (colon_due (number_in d c) f up)) (λ _. stops given_twice))
    unfolding Case TokenFails
    fresh-case t c e true g = names f up t c refl refl e g refl
    fresh-case t c e false g = given_twice_at f up t c refl refl e g

    child-case : (t : List ℕ) (c : Option ℕ) → child_named d f.row t ≡ c → Case (name_due f up) (a_string t) (child_moved d c f up)
    unfolding Case TokenFails
    child-case t None e = not_known_at f up t refl refl e
    child-case t (Some c) e = fresh-case t c e (fresh d f.row f.seen (number_in d c)) refl

    name-case : (k : Token) → Case (name_due f up) k (name_moved d k f up)
    unfolding Case TokenFails in_turn
    name-case (a_sign b) = refl
    name-case (a_string t) = child-case t (child_named d f.row t) refl
    name-case a_null = refl
    name-case (a_boolean b) = refl
    name-case (an_integer w) = refl
    name-case (a_real w) = refl

    colon-case : (n : ℕ) (k : Token) → Case (colon_due n f up) k (colon_moved d n f up k)
    unfolding Case TokenFails in_turn
    colon-case n k = go (is_sign colon k) refl
      where
        go : (b : Bool) → is_sign colon k ≡ b → Case (colon_due n f up) k (choose b (λ _. goes (value_due n f up)) (λ _. stops bad_text))
        go true e = binds n f up refl (sign-token colon k e) refl
        go false e = e

    part-case : (k : Token) → Case (part_due f up) k (part_moved d f up k)
    unfolding Case TokenFails in_turn
    part-case k = go (is_sign comma k) (is_sign (closes f.shape) k) refl refl
      where
        go : (a b : Bool) → is_sign comma k ≡ a → is_sign (closes f.shape) k ≡ b → Case (part_due f up) k (choose a (λ _. goes (member_due f up)) λ _. choose b (λ _. goes (leave up)) (λ _. stops bad_text))
        go true b e g = parts f up refl (sign-token comma k e) refl
        go false true e g = closes_group f up refl (sign-token (closes f.shape) k g) refl
        go false false e g = or-none (is_sign comma k) (is_sign (closes f.shape) k) e g

  pub turn-case : (x : Spot) (k : Token) → Known k → Case x k (moved d x k)
  unfolding Case TokenFails in_turn
  turn-case root_due k h = root-case k
  turn-case (first_due f up) k h = refl
  turn-case (name_due f up) k h = name-case f up k
  turn-case (colon_due n f up) k h = colon-case f up n k
  turn-case (value_due n f up) k h = value-case n f up k h
  turn-case (part_due f up) k h = part-case f up k
  turn-case root_closed k h = refl

  -- and back: a value that suits, by what it says
  module _ (x : Spot) (k : Token) (n : ℕ) (f : Frame) (up : List Frame) (row : ℕ) (ex : x ≡ value_due n f up) (er : child d f.row n ≡ row) where
    due_by : moved d x k ≡ value_moved d n row f up k
    due_by = ap (λ (y : Spot). moved d y k) ex ∙ ap (λ (r : ℕ). value_moved d n r f up k) er

    stopped_by : (m : ℕ) → begins k ≡ true → misfit_for d row (form_for d row k) ≡ m → eqb m accepted ≡ false → moved d x k ≡ stops m
    stopped_by m b e z = due_by ∙ value-stops n f up row k m b e z

    body_by : begins k ≡ true → Suits d row k → moved d x k ≡ body_moved d n row f up (form_for d row k) k
    body_by b z = due_by ∙ value-goes n f up row k b (suits-misfit d row k z)

    opened_by : (g : Shape) (room : ℕ) → k ≡ a_sign (opens g) → Suits d row k → f.room ≡ room → moved d x k ≡ group_moved room g row (holding n f ∷ up)
    opened_by g room i z e =
        body_by (ap begins i ∙ opens-begins g) z ∙ ap (λ (u : Token). body_moved d n row f up (form_for d row u) u) i ∙ opens-body n f up row g ∙ ap (λ (r : ℕ). group_moved r g row (holding n f ∷ up)) e

    integer_by : (v : List ℕ) (r : Option Integer) → k ≡ an_integer v → integer_said v ≡ r → Suits d row k → moved d x k ≡ scalar_moved (integer_for r) (part_due (holding n f) up)
    unfolding form_for scalar_for
    integer_by v r i e z =
        body_by (ap begins i) z ∙ ap (λ (u : Token). body_moved d n row f up (form_for d row u) u) i ∙ ap (λ (u : Option Integer). scalar_moved (integer_for u) (part_due (holding n f) up)) e

    string_by : (t : List ℕ) (b : Bool) (v : Valued) → k ≡ a_string t → is_enum d row ≡ b → (choose b (λ _. option_for d (child_named d row t)) (λ _. worth (string t))) ≡ v → Suits d row k → moved d x k ≡ scalar_moved v (part_due (holding n f) up)
    unfolding form_for scalar_for
    string_by t b v i e j z =
        body_by (ap begins i) z ∙ ap (λ (u : Token). body_moved d n row f up (form_for d row u) u) i ∙ go b e ∙ ap (λ (u : Valued). scalar_moved u (part_due (holding n f) up)) j
      where
        go : (b : Bool) → is_enum d row ≡ b
            → body_moved d n row f up (form_for d row (a_string t)) (a_string t) ≡ scalar_moved (choose b (λ _. option_for d (child_named d row t)) (λ _. worth (string t))) (part_due (holding n f) up)
        go true e = rw e
        go false e = rw e

    told_by_lem : Suits d row k → Tells d row k → moved d x k ≡ goes (part_due (holding n f) up)
    unfolding form_for scalar_for
    told_by_lem z (tells_null i) = body_by (ap begins i) z ∙ ap (λ (u : Token). body_moved d n row f up (form_for d row u) u) i
    told_by_lem z (tells_boolean b i) = body_by (ap begins i) z ∙ ap (λ (u : Token). body_moved d n row f up (form_for d row u) u) i
    told_by_lem z (tells_integer j h i) = integer_by (decimal_of j) (Some j) i (text_says j h) z
    told_by_lem z (tells_option t c i b e) = string_by t true (worth (option (number_in d c))) i b (ap (option_for d) e) z
    told_by_lem z (tells_string t i b) = string_by t false (worth (string t)) i b refl z

  pub steps-moved : (x : Spot) (k : Token) (y : Spot) → Steps d x k y → moved d x k ≡ goes y
  unfolding form_for
  steps-moved x k y (opens_root ex i ey) = rw (ex, i, ey)
  steps-moved x k y (names f up t c ex i e g ey) = rw (ex, i, e, g, ey)
  steps-moved x k y (binds n f up ex i ey) = rw (ex, i, ey)
  steps-moved x k y (tells n f up ex z a ey) = told_by_lem x k n f up (child d f.row n) ex refl z a ∙ ap goes (sym ey)
  steps-moved x k y (opens_group n f up g room ex i z e ey) = opened_by x k n f up (child d f.row n) ex refl g (suc room) i z e ∙ ap goes (sym ey)
  steps-moved x k y (parts f up ex i ey) = rw (ex, i, ey)
  steps-moved x k y (closes_group f up ex i ey) =
      let o = sign-own (closes f.shape) in
      rw (ex, i, ey, close-comma f.shape (a_sign (closes f.shape)) o, o)

  known-moved : (x : Spot) (k : Token) → NotKnown d x k → moved d x k ≡ stops not_known
  known-moved x k (not_known_at f up t ex i e) = rw (ex, i, e)

  twice_moved : (x : Spot) (k : Token) → GivenTwice d x k → moved d x k ≡ stops given_twice
  twice_moved x k (given_twice_at f up t c ex i e g) = rw (ex, i, e, g)

  base-moved : (x : Spot) (k : Token) → NotInBase d x k → moved d x k ≡ stops not_in_base
  unfolding form_for
  base-moved x k (root_real ex a) = let i = (real-is k a).1 in rw (ex, i)
  base-moved x k (real row room o a) = stopped_by x k o.number o.frame o.around row o.here o.row_is not_in_base (ap begins (real-is k a).1) (real-misfit d row k a) refl
  base-moved x k (unbased row room o b a c) = stopped_by x k o.number o.frame o.around row o.here o.row_is not_in_base b (base-misfit d row k a c) refl

  misfit-moved : (x : Spot) (k : Token) → Misfit d x k → moved d x k ≡ stops misfit
  misfit-moved x k (root_no_set ex b a z) = rw (ex, b, form-real d 0 k, a, not_so (eqb (form_for d 0 k) set_form) (λ e. z (form-set d 0 k e)))
  misfit-moved x k (misfitting row room o b a c e) = stopped_by x k o.number o.frame o.around row o.here o.row_is misfit b (based-misfit d row k false a c e) refl

  wrong-moved : (x : Spot) (k : Token) → Known k → ValueWrong d x k → moved d x k ≡ stops value_wrong
  wrong-moved x k h (no_integer row room v o z i a) = integer_by x k o.number o.frame o.around row o.here o.row_is v None i (go (integer_said v) refl) z
    where
      go : (r : Option Integer) → integer_said v ≡ r → integer_said v ≡ None
      go None e = e
      go (Some j) e = let y = told v j (rw i at h) e in absurd (a j y.held y.text)
  wrong-moved x k h (no_option row room t o z i b e) = string_by x k o.number o.frame o.around row o.here o.row_is t true (wrong value_wrong) i b (ap (option_for d) e) z

  deep-moved : (x : Spot) (k : Token) → TooDeep d x k → moved d x k ≡ stops too_deep
  deep-moved x k (too_deep_at row g o i z) = opened_by x k o.number o.frame o.around row o.here o.row_is g 0 i z o.room_is

  turn_moved : (x : Spot) (k : Token) → in_turn x k ≡ false → moved d x k ≡ stops bad_text
  unfolding in_turn
  turn_moved root_due k e = rw e
  turn_moved (first_due f up) k e = refl
  turn_moved (name_due f up) k e = go k e
    where
      go : (k : Token) → is_string k ≡ false → name_moved d k f up ≡ stops bad_text
      go (a_sign b) e = refl
      go (a_string t) e = absurd (true≢false e)
      go a_null e = refl
      go (a_boolean b) e = refl
      go (an_integer w) e = refl
      go (a_real w) e = refl
  turn_moved (colon_due n f up) k e = rw e
  turn_moved (value_due n f up) k e = rw e
  turn_moved (part_due f up) k e = rw (or_left (is_sign comma k) _ e, or_right (is_sign comma k) _ e)
  turn_moved root_closed k e = refl

  pub fails-moved : (n : ℕ) (x : Spot) (k : Token) → Known k → TokenFails n x k → moved d x k ≡ stops n
  unfolding TokenFails
  fails-moved n x k h y =
      step n not_known _ _ y (λ e a. known-moved x k a ∙ ap stops (sym e)) λ y.
      step n given_twice _ _ y (λ e a. twice_moved x k a ∙ ap stops (sym e)) λ y.
      step n not_in_base _ _ y (λ e a. base-moved x k a ∙ ap stops (sym e)) λ y.
      step n misfit _ _ y (λ e a. misfit-moved x k a ∙ ap stops (sym e)) λ y.
      step n value_wrong _ _ y (λ e a. wrong-moved x k h a ∙ ap stops (sym e)) λ y.
      step n too_deep _ _ y (λ e a. deep-moved x k a ∙ ap stops (sym e)) λ y.
      step n bad_text _ _ y (λ e a. turn_moved x k a ∙ ap stops (sym e)) λ y.
      absurd y
