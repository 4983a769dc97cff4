-- A tree that is answered is spelt by the text, and fits.
-- Assumes nothing.
--   key_sound       a member's name and colon
--   value-sound     its value
--   run_sound       members up to the bracket that closes them
--   inside-sound    an object or array
--   tree-sound      the whole text
use Rattle.std.specs.Prelude.{Option, Some, None}
use mathlib.Core.Path.{◌≡◌, refl, sym, ap, ◌∙◌}
use mathlib.Core.List.{List, [], ◌∷◌, ◌++◌, append_assoc, append-nil}
use mathlib.Core.Bool.{Bool, true, false, not, ◌&&◌, ◌||◌, true≢false}
use Prim.Native.Nat.{ℕ, zero, suc, ◌<◌, ◌≤◌}
use native.Mathlib.Omega.{arith}
use lib.ListN.{length, drop, length-drop}
use lib.Seq.{slice}
use lib.Dec.{eqb, leb}
use borrow.Author.Tests.{eqb-true, eq-eqb, ne_eqb, leb-true}
use Rattle.paper.specs.Limits.{depth_most}
use Rattle.paper.specs.Refusals.{accepted, not_in_base, misfit, bad_text}
use Rattle.paper.specs.Checks.{choose, good, need, after}
use Rattle.paper.proofs.Tests.{and_left, and_right, and_both}
use Rattle.paper.proofs.Checks.{never, same_place, same_thing, passed, needed, followed}
use Rattle.numbers.specs.declared.Integer.{Integer}
use Rattle.numbers.specs.Decimal.{integral, integer_said}
use Rattle.numbers.proofs.Decimals.{told}
use Rattle.std.specs.Prelude.{Option, Some, None}
use Rattle.dictionary.specs.Formats.{set_form, array_form, null_form, integer_form, enum_form, string_form, real_form}
use Rattle.dictionary.specs.Rows.{entries, kind, name, number_in}
use Rattle.dictionary.specs.Children.{child_named}
use Rattle.dictionary.specs.Accepts.{accepts}
use Rattle.dictionary.proofs.Laws.{accepted_header, accepted_family, enum_parent, named-child}
use Rattle.payload.specs.Tree.{Scalar, null, integer, option, string, boolean, Tuples, none, format_of, shape_format, depth}
use Rattle.payload.specs.declared.Shape.{Shape}
use Rattle.payload.specs.declared.Shape.TheVariants.{Set, Array}
use Rattle.payload.specs.Strings.{well_spelt}
use Rattle.payload.specs.Fits.{found, row_of, known, child, fresh, fits, allowed, Fits}
use Rattle.payload.specs.Text.{comma, colon, opens, closes}
use Rattle.payload.specs.Reading.{Single, plain, group, number_for, before, value}
use Rattle.payload.proofs.Sitting.{known_array, fresh_array}
use Rattle.payload.proofs.Sound.{depth_one, FitsOne, depth-before, fits-before}
use Rattle.text.specs.Tokens.{Token, a_sign, a_string, a_null, a_boolean, an_integer, a_real, space}
use Rattle.text.specs.Spells.{blank, Spells, token_of, label_tokens, tokens_of, root_tokens}
use Rattle.text.specs.Scanning.{past, token_at}
use Rattle.text.specs.Values.{is_sign, begins, in_base, is_enum, form_for, misfit_for, integer_for, option_for, scalar_for}
use Rattle.text.specs.Writing.{child_for, name_for, name_at, colon_at, parted_at, key_at, body_at, value_at, member_at, run, inside_of, root_at, tree_of}
use Rattle.text.proofs.Labels.{set-parent}
use Rattle.text.proofs.Words.{Proper}
use Rattle.text.proofs.Told.{Sound, group-kind, inside}
use Rattle.text.proofs.Cutting.{all-blank, past_all, past-lies, past-most}
use Rattle.text.proofs.Standing.{Known}
use Rattle.text.proofs.Spacing.{Reach, reach_join, next-sound}
use Rattle.text.proofs.Cleanly.{enum_kind}
use Rattle.text.proofs.Hearing.{Filled, lead, lead-first, lead-more}

is-sign : (c : ℕ) (k : Token) → is_sign c k ≡ true → k ≡ a_sign c
is-sign c (a_sign b) e = ap a_sign (eqb-true b c e)
is-sign c (a_string t) e = absurd (true≢false (sym e))
is-sign c a_null e = absurd (true≢false (sym e))
is-sign c (a_boolean b) e = absurd (true≢false (sym e))
is-sign c (an_integer w) e = absurd (true≢false (sym e))
is-sign c (a_real w) e = absurd (true≢false (sym e))

sign-begins : (b : ℕ) → begins (a_sign b) ≡ true → (g : Shape) × (b ≡ opens g)
sign-begins b e = go (eqb b (opens Set)) (eqb b (opens Array)) refl refl e
  where
    go : (x y : Bool) → eqb b (opens Set) ≡ x → eqb b (opens Array) ≡ y → x || y ≡ true → (g : Shape) × (b ≡ opens g)
    go true y f h e = (Set, eqb-true b (opens Set) f)
    go false true f h e = (Array, eqb-true b (opens Array) h)
    go false false f h e = absurd (true≢false (sym e))

blank_append : (a b : List ℕ) → blank a ≡ true → blank b ≡ true → blank (a ++ b) ≡ true
unfolding blank
blank_append [] b e f = f
blank_append (c ∷ a) b e f = and_both (space c) (blank (a ++ b)) (and_left (space c) (blank a) e) (blank_append a b (and_right (space c) (blank a) e) f)

-- spaces may stand before what is spelt
spells-blank : (ks : List Token) (b x : List ℕ) → blank b ≡ true → Spells ks x → Spells ks (b ++ x)
unfolding Spells
spells-blank [] b x e y = blank_append b x e y
spells-blank (k ∷ ks) b x e y =
    record { front = b ++ y.front; back = y.back; whole = ap (λ (l : List ℕ). b ++ l) y.whole ∙ sym (append_assoc b y.front y.back); here = blank_append b y.front e y.here; rest = y.rest }

spaces-before : (s : List ℕ) (p : ℕ) (ks : List Token) → p ≤ length s → Spells ks (drop (past space s p) s) → Spells ks (drop p s)
spaces-before s p ks h y =
    let e = (past-lies space s p h).stands in
    rw e (spells-blank ks (slice p (past space s p) s) (drop (past space s p) s) (all-blank (slice p (past space s p) s) (past_all space s p)) y)

drop-none : (s : List ℕ) (q : ℕ) → length s ≤ q → drop q s ≡ []
drop-none s q h = empty (drop q s) (omega (arith, length-drop q s))
  where
    empty : (l : List ℕ) → length l ≡ 0 → l ≡ []
    empty [] e = refl
    empty (c ∷ l) e = absurd (omega arith)

label-none : (d : List ℕ) (row n : ℕ) → (kind d row ≡ set_form → ⊥) → label_tokens d row n ≡ []
unfolding label_tokens
label-none d row n z = rw (ne_eqb (kind d row) 0 z)

-- a format that is no misfit is not a real's, and fits
fits_if : (d : List ℕ) (row f : ℕ) → misfit_for d row f ≡ accepted → (eqb f real_form ≡ false) × (fits d row f ≡ true)
unfolding misfit_for
fits_if d row f e = go (eqb f real_form) (not (in_base d row) && not (eqb f null_form)) (fits d row f) e
  where
    go : (a b c : Bool) → ◌≡◌ {A = ℕ} (choose a (λ _. not_in_base) λ _. choose b (λ _. not_in_base) λ _. choose c (λ _. accepted) (λ _. misfit)) accepted → (a ≡ false) × (c ≡ true)
    go true b c x = absurd (omega (arith, x))
    go false true c x = absurd (omega (arith, x))
    go false false true x = (refl, refl)
    go false false false x = absurd (omega (arith, x))

module _ (d s : List ℕ) (ok : accepts d ≡ true) where
  pub record Keyed (row i : ℕ) (seen : List ℕ) (p q n : ℕ) : Type 0 where
    pub reach : Reach s (label_tokens d row n) p q
    pub is_known : known d row i n ≡ true
    pub is_fresh : fresh d row seen n ≡ true

  -- the child that a name finds
  record Found (row i n c : ℕ) (t : List ℕ) : Type 0 where
    knows : known d row i n ≡ true
    label : label_tokens d row n ≡ a_string t ∷ a_sign colon ∷ []

  found-child : (row i c : ℕ) (t : List ℕ) → row < entries d → kind d row ≡ set_form → child_named d row t ≡ Some c → Found row i (number_in d c) c t
  unfolding known child label_tokens
  found-child row i c t h k e =
      let w = accepted_family d ok row h (set-parent d row k) in
      let o = named-child d row t w c e in
      record {
        knows = rw (eq-eqb (kind d row) 0 k, o.2);
        label = rw (eq-eqb (kind d row) 0 k, o.2, o.1);
      }

  name-child : (row i : ℕ) (t : List ℕ) (at q e l n : ℕ) → row < entries d → kind d row ≡ set_form → name_for d s (a_string t) row at q ≡ good e l n → (e ≡ q) × (label_tokens d row n ≡ a_string t ∷ a_sign colon ∷ []) × (known d row i n ≡ true)
  name-child row i t at q e l n h k x = go (child_named d row t) refl x
    where
      go : (c : Option ℕ) → child_named d row t ≡ c → child_for d s c at q ≡ good e l n → (e ≡ q) × (label_tokens d row n ≡ a_string t ∷ a_sign colon ∷ []) × (known d row i n ≡ true)
      go None f x = never x
      go (Some c) f x =
          let z = same_thing x in
          let o = found-child row i c t h k f in
          (sym (same_place x), rw z at o.label, rw z at o.knows)

  name-string : (k : Token) (row i at q e l n : ℕ) → row < entries d → kind d row ≡ set_form → name_for d s k row at q ≡ good e l n → (e ≡ q) × (label_tokens d row n ≡ k ∷ a_sign colon ∷ []) × (known d row i n ≡ true)
  name-string (a_sign b) row i at q e l n h f x = never x
  name-string (a_string t) row i at q e l n h f x = name-child row i t at q e l n h f x
  name-string a_null row i at q e l n h f x = never x
  name-string (a_boolean b) row i at q e l n h f x = never x
  name-string (an_integer w) row i at q e l n h f x = never x
  name-string (a_real w) row i at q e l n h f x = never x

  -- a name that was accepted, and a colon
  record Named (row i p q n : ℕ) : Type 0 where
    token : Token
    reach : Reach s (token ∷ []) p q
    label : label_tokens d row n ≡ token ∷ a_sign colon ∷ []
    knows : known d row i n ≡ true

  name-sound : (row i p q l n : ℕ) → row < entries d → kind d row ≡ set_form → p ≤ length s → name_at d s row (past space s p) ≡ good q l n → Named row i p q n
  unfolding name_at
  name-sound row i p q l n h k b x =
      let x₁ = followed q l n (token_at s (past space s p)) _ x in
      let o = name-string x₁.2 row i (past space s p) x₁.0 q l n h k x₁.4 in
      let f = sym o.0 in
      record { token = x₁.2; reach = rw f at (next-sound s p x₁.0 x₁.1 x₁.2 b x₁.3).1; label = o.1; knows = o.2 }

  colon-sound : (p q l : ℕ) (u : Unit {0}) → p ≤ length s → colon_at s p ≡ good q l u → Reach s (a_sign colon ∷ []) p q
  unfolding colon_at
  colon-sound p q l u b x =
      let x₁ = followed q l u (token_at s (past space s p)) _ x in
      let x₂ = needed q l u (is_sign colon x₁.2) _ _ _ x₁.4 in
      let c = is-sign colon x₁.2 x₂.0 in
      let z = same_place x₂.1 in
      made x₁.0 x₁.2 c z (next-sound s p x₁.0 x₁.1 x₁.2 b x₁.3).1
    where
      made : (e : ℕ) (k : Token) → k ≡ a_sign colon → e ≡ q → Reach s (k ∷ []) p e → Reach s (a_sign colon ∷ []) p q
      made e k c z r = rw (c, z) at r

  pub key_sound : (g : Shape) (row i : ℕ) (seen : List ℕ) (p q l n : ℕ) → row < entries d → kind d row ≡ shape_format g → p ≤ length s → key_at d s g row i seen p ≡ good q l n → Keyed row i seen p q n
  unfolding key_at
  key_sound Set row i seen p q l n h k b x =
      let x₁ = followed q l n (name_at d s row (past space s p)) _ x in
      let x₂ = needed q l n (fresh d row seen x₁.2) _ _ _ x₁.4 in
      let x₃ = followed q l n (colon_at s x₁.0) _ x₂.1 in
      let o = name-sound row i p x₁.0 x₁.1 x₁.2 h k b x₁.3 in
      made x₁.0 x₁.2 x₃.0 o x₂.0 (colon-sound x₁.0 x₃.0 x₃.1 x₃.2 o.reach.within x₃.3) (same_place x₃.4) (same_thing x₃.4)
    where
      made : (e m z : ℕ) → Named row i p e m → fresh d row seen m ≡ true → Reach s (a_sign colon ∷ []) e z → z ≡ q → m ≡ n → Keyed row i seen p q n
      made e m z o f r u v =
          let w : Reach s (o.token ∷ a_sign colon ∷ []) p q = reach_join (o.token ∷ []) (a_sign colon ∷ []) o.reach (rw u at r) in
          let g : label_tokens d row n ≡ o.token ∷ a_sign colon ∷ [] = rw v at o.label in
          record { reach = rw g w; is_known = rw v at o.knows; is_fresh = rw v at f }
  key_sound Array row i seen p q l n h k b x = array (λ z. omega (arith, sym k ∙ z)) (same_place x) (same_thing x)
    where
      none-label : (kind d row ≡ set_form → ⊥) → label_tokens d row n ≡ []
      none-label z = label-none d row n z

      array : (kind d row ≡ set_form → ⊥) → p ≡ q → i ≡ n → Keyed row i seen p q n
      array z u v =
          record {
            reach = rw (none-label z) (record { on = λ r h. rw u h; within = omega arith });
            is_known = (known_array d row n z i).1 (sym v);
            is_fresh = fresh_array d row n z seen;
          }

  unfoldable pub value_tokens : ℕ → Single → List Token
  value_tokens row (plain n x) = token_of d row x ∷ []
  value_tokens row (group n g kids) = a_sign (opens g) ∷ (tokens_of d kids row 0 ++ (a_sign (closes g) ∷ []))

  unfoldable pub ValueFits : ℕ → Single → Type 0
  ValueFits row (plain n x) = (fits d row (format_of x) ≡ true) × (allowed d row x ≡ true)
  ValueFits row (group n g kids) = (fits d row (shape_format g) ≡ true) × Fits d kids row 0 []

  unfoldable pub SoundOne : Single → Type 0
  SoundOne (plain n x) = Proper x
  SoundOne (group n g kids) = Sound kids

  -- a value that was accepted; an object or array
  pub record Meant (room n row p q : ℕ) (x : Single) : Type 0 where
    pub numbered : number_for x ≡ n
    pub reach : Reach s (value_tokens row x) p q
    pub fitting : ValueFits row x
    pub proper : SoundOne x
    pub shallow : depth_one x ≤ room

  pub record HeldIn (room : ℕ) (g : Shape) (row p q : ℕ) (t : Tuples) : Type 0 where
    pub reach : Reach s (tokens_of d t row 0 ++ (a_sign (closes g) ∷ [])) p q
    pub fitting : Fits d t row 0 []
    pub proper : Sound t
    pub shallow : suc (depth t) ≤ room

  module _ (room : ℕ) (H : (g : Shape) (row at p q l : ℕ) (t : Tuples) → row < entries d → kind d row ≡ shape_format g → p ≤ length s → inside_of d s room g row at p ≡ good q l t → HeldIn room g row p q t) where
    module _ (n row p : ℕ) (hr : row < entries d) where
      meant_recast : {q l q' l' : ℕ} {x x' : Single} → good q l x ≡ good q' l' x' → Meant room n row p q x → Meant room n row p q' x'
      meant_recast e y = let a = same_place e in let b = same_thing e in rw (a, b) at y

      plain-meant : (x : Scalar) (k : Token) (q : ℕ) → token_of d row x ≡ k → fits d row (format_of x) ≡ true → allowed d row x ≡ true → Proper x → Reach s (k ∷ []) p q → Meant room n row p q (plain n x)
      unfolding value_tokens ValueFits SoundOne
      plain-meant x k q e f a v r = record { numbered = refl; reach = rw e r; fitting = (f, a); proper = v; shallow = omega arith }

      group-meant : (g : Shape) (kids : Tuples) (q z : ℕ) → fits d row (shape_format g) ≡ true → Reach s (a_sign (opens g) ∷ []) p q → HeldIn room g row q z kids → Meant room n row p z (group n g kids)
      unfolding value_tokens ValueFits SoundOne
      group-meant g kids q z f r o =
          record {
            numbered = refl;
            reach = reach_join (a_sign (opens g) ∷ []) (tokens_of d kids row 0 ++ (a_sign (closes g) ∷ [])) r o.reach;
            fitting = (f, o.fitting);
            proper = o.proper;
            shallow = o.shallow;
          }

      sign-meant : (g : Shape) (at q e l : ℕ) (x : Single) → Reach s (a_sign (opens g) ∷ []) p q → fits d row (form_for d row (a_sign (opens g))) ≡ true → body_at d s (inside_of d s room) n row (form_for d row (a_sign (opens g))) at q (a_sign (opens g)) ≡ good e l x → Meant room n row p e x
      unfolding form_for
      sign-meant Set at q e l x r f y =
          let a = followed e l x (inside_of d s room Set row at q) _ y in
          meant_recast a.4 (group-meant Set a.2 q a.0 f r (H Set row at q a.0 a.1 a.2 hr (group-kind d row Set f) r.within a.3))
      sign-meant Array at q e l x r f y =
          let a = followed e l x (inside_of d s room Array row at q) _ y in
          meant_recast a.4 (group-meant Array a.2 q a.0 f r (H Array row at q a.0 a.1 a.2 hr (group-kind d row Array f) r.within a.3))

      option-meant : (t : List ℕ) (c : Option ℕ) (at q e l : ℕ) (x : Single) → child_named d row t ≡ c → Reach s (a_string t ∷ []) p q → fits d row enum_form ≡ true → (value (option_for d c) at λ x. good q 0 (plain n x)) ≡ good e l x → Meant room n row p e x
      option-meant t None at q e l x m r f y = never y
      option-meant t (Some c) at q e l x m r f y =
          let w = accepted_family d ok row hr (enum_parent d row (enum_kind d ok row f)) in
          let o = named-child d row t w c m in
          meant_recast y (plain-meant (option (number_in d c)) (a_string t) q (ap (λ (u : Option ℕ). a_string (name d (row_of u))) o.2 ∙ ap a_string o.1) f (ap found o.2) tt r)

      string-meant : (t : List ℕ) (b : Bool) (at q e l : ℕ) (x : Single) → is_enum d row ≡ b → well_spelt t ≡ true → Reach s (a_string t ∷ []) p q → fits d row (choose b (λ _. enum_form) (λ _. string_form)) ≡ true → body_at d s (inside_of d s room) n row (choose b (λ _. enum_form) (λ _. string_form)) at q (a_string t) ≡ good e l x → Meant room n row p e x
      unfolding scalar_for
      string-meant t true at q e l x z v r f y = option-meant t (child_named d row t) at q e l x refl r f (rw z at y)
      string-meant t false at q e l x z v r f y =
          let y' : good q 0 (plain n (string t)) ≡ good e l x = rw z at y in
          meant_recast y' (plain-meant (string t) (a_string t) q refl f refl v r)

      integer-meant : (w : List ℕ) (i : Option Integer) (at q e l : ℕ) (x : Single) → integer_said w ≡ i → integral w ≡ true → Reach s (an_integer w ∷ []) p q → fits d row integer_form ≡ true → (value (integer_for i) at λ x. good q 0 (plain n x)) ≡ good e l x → Meant room n row p e x
      integer-meant w None at q e l x m v r f y = never y
      integer-meant w (Some i) at q e l x m v r f y =
          let o = told w i v m in
          meant_recast y (plain-meant (integer i) (an_integer w) q (ap an_integer o.text) f refl o.held r)

      body-sound : (k : Token) (at q e l : ℕ) (x : Single) → Known k → Reach s (k ∷ []) p q → begins k ≡ true → eqb (form_for d row k) real_form ≡ false → fits d row (form_for d row k) ≡ true → body_at d s (inside_of d s room) n row (form_for d row k) at q k ≡ good e l x → Meant room n row p e x
      unfolding form_for scalar_for
      body-sound (a_sign b) at q e l x v r g z f y = opened (sign-begins b g)
        where
          opened : (a : Shape) × (b ≡ opens a) → Meant room n row p e x
          opened o =
              let c = o.1 in
              sign-meant o.0 at q e l x (rw c at r) (rw c at f) (rw c at y)
      body-sound (a_string t) at q e l x v r g z f y = string-meant t (is_enum d row) at q e l x refl v r f y
      body-sound a_null at q e l x v r g z f y = meant_recast y (plain-meant null a_null q refl f refl tt r)
      body-sound (a_boolean b) at q e l x v r g z f y = meant_recast y (plain-meant (boolean b) (a_boolean b) q refl f refl tt r)
      body-sound (an_integer w) at q e l x v r g z f y = integer-meant w (integer_said w) at q e l x refl v r f y
      body-sound (a_real w) at q e l x v r g z f y = absurd (true≢false z)

      pub value-sound : (e l : ℕ) (x : Single) → p ≤ length s → value_at d s (inside_of d s room) n row p ≡ good e l x → Meant room n row p e x
      unfolding value_at
      value-sound e l x b y =
          let y₁ = followed e l x (token_at s (past space s p)) _ y in
          let k = y₁.2 in
          let y₂ = needed e l x (begins k) _ _ _ y₁.4 in
          let y₃ = needed e l x (eqb (misfit_for d row (form_for d row k)) accepted) _ _ _ y₂.1 in
          let f = fits_if d row (form_for d row k) (eqb-true (misfit_for d row (form_for d row k)) accepted y₃.0) in
          let o = next-sound s p y₁.0 y₁.1 k b y₁.3 in
          body-sound k (past space s p) y₁.0 e l x o.0 o.1 y₂.0 f.0 f.1 y₃.1

    -- a member that was accepted
    pub record Stated (row i : ℕ) (seen : List ℕ) (p q : ℕ) (x : Single) : Type 0 where
      pub reach : Reach s (label_tokens d row (number_for x) ++ value_tokens (child d row (number_for x)) x) p q
      pub fitting : FitsOne d x row i seen
      pub proper : SoundOne x
      pub shallow : depth_one x ≤ room

    fits_one : (x : Single) (row i : ℕ) (seen : List ℕ) → known d row i (number_for x) ≡ true → fresh d row seen (number_for x) ≡ true → ValueFits (child d row (number_for x)) x → FitsOne d x row i seen
    unfolding ValueFits
    fits_one (plain n x) row i seen k f v = (record { is_known = k; is_fresh = f; does_fit = v.0 }, v.1)
    fits_one (group n g kids) row i seen k f v = (record { is_known = k; is_fresh = f; does_fit = v.0 }, v.1)

    pub member-sound : (g : Shape) (row i : ℕ) (seen : List ℕ) (p q l : ℕ) (x : Single) → row < entries d → kind d row ≡ shape_format g → p ≤ length s → member_at d s (inside_of d s room) g row i seen p ≡ good q l x → Stated row i seen p q x
    unfolding member_at
    member-sound g row i seen p q l x h k b y =
        let y₁ = followed q l x (key_at d s g row i seen p) _ y in
        let o = key_sound g row i seen p y₁.0 y₁.1 y₁.2 h k b y₁.3 in
        let m = value-sound y₁.2 (child d row y₁.2) y₁.0 (inside d ok g row i y₁.2 h k o.is_known) q l x o.reach.within y₁.4 in
        made y₁.0 y₁.2 o m
      where
        made : (e n : ℕ) → Keyed row i seen p e n → Meant room n (child d row n) e q x → Stated row i seen p q x
        made e n o m =
            let z = sym m.numbered in
            let o' : Keyed row i seen p e (number_for x) = rw z at o in
            let m' : Meant room (number_for x) (child d row (number_for x)) e q x = rw z at m in
            record {
              reach = reach_join (label_tokens d row (number_for x)) (value_tokens (child d row (number_for x)) x) o'.reach m'.reach;
              fitting = fits_one x row i seen o'.is_known o'.is_fresh m'.fitting;
              proper = m'.proper;
              shallow = m'.shallow;
            }

  -- members that were accepted, with the bracket that closes them
  pub record Listed (room : ℕ) (g : Shape) (row i : ℕ) (seen : List ℕ) (p q : ℕ) (t : Tuples) : Type 0 where
    pub reach : Reach s (lead d t row i ++ (a_sign (closes g) ∷ [])) p q
    pub filled : Filled t
    pub fitting : Fits d t row i seen
    pub proper : Sound t
    pub shallow : depth t ≤ room

  lead-before : (x : Single) (t : Tuples) (row i : ℕ) → lead d (before x t) row i ≡ (label_tokens d row (number_for x) ++ value_tokens (child d row (number_for x)) x) ++ tokens_of d t row (suc i)
  unfolding lead value_tokens
  lead-before (plain n x) t row i = sym (append_assoc (label_tokens d row n) (token_of d (child d row n) x ∷ []) (tokens_of d t row (suc i)))
  lead-before (group n g kids) t row i = sym (append_assoc (label_tokens d row n) (a_sign (opens g) ∷ (tokens_of d kids (child d row n) 0 ++ (a_sign (closes g) ∷ []))) (tokens_of d t row (suc i)))

  filled-before : (x : Single) (t : Tuples) → Filled (before x t)
  filled-before (plain n x) t = tt
  filled-before (group n g kids) t = tt

  sound-before : (x : Single) (t : Tuples) → SoundOne x → Sound t → Sound (before x t)
  unfolding Sound SoundOne
  sound-before (plain n x) t h g = (h, g)
  sound-before (group n k kids) t h g = (h, g)

  module _ (room : ℕ) (H : (g : Shape) (row at p q l : ℕ) (t : Tuples) → row < entries d → kind d row ≡ shape_format g → p ≤ length s → inside_of d s room g row at p ≡ good q l t → HeldIn room g row p q t) (g : Shape) (row : ℕ) (hr : row < entries d) (hk : kind d row ≡ shape_format g) where
    listed_recast : {i : ℕ} {seen : List ℕ} {p q l q' l' : ℕ} {t t' : Tuples} → good q l t ≡ good q' l' t' → Listed room g row i seen p q t → Listed room g row i seen p q' t'
    listed_recast e y = let a = same_place e in let b = same_thing e in rw (a, b) at y

    list-last : (i : ℕ) (seen : List ℕ) (p e q : ℕ) (x : Single) → Stated room H row i seen p e x → Reach s (a_sign (closes g) ∷ []) e q → Listed room g row i seen p q (before x none)
    unfolding tokens_of Fits Sound depth
    list-last i seen p e q x o r =
        let A = label_tokens d row (number_for x) ++ value_tokens (child d row (number_for x)) x in
        record {
          reach = rw (lead-before x none row i, append-nil A) (reach_join A (a_sign (closes g) ∷ []) o.reach r);
          filled = filled-before x none;
          fitting = fits-before d x none row i seen o.fitting tt;
          proper = sound-before x none o.proper tt;
          shallow = omega (arith, depth-before x none, o.shallow);
        }

    list-more : (i : ℕ) (seen : List ℕ) (p e q z : ℕ) (x : Single) (t : Tuples) → Stated room H row i seen p e x → Reach s (a_sign comma ∷ []) e q → Listed room g row (suc i) (number_for x ∷ seen) q z t → Listed room g row i seen p z (before x t)
    list-more i seen p e q z x t o r m =
        let A = label_tokens d row (number_for x) ++ value_tokens (child d row (number_for x)) x in
        let L = lead d t row (suc i) in
        let c = a_sign (closes g) ∷ [] in
        record {
          reach = rw (lead-before x t row i, lead-more d t row i m.filled, append_assoc A (a_sign comma ∷ L) c) (reach_join A (a_sign comma ∷ (L ++ c)) o.reach (reach_join (a_sign comma ∷ []) (L ++ c) r m.reach));
          filled = filled-before x t;
          fitting = fits-before d x t row i seen o.fitting m.fitting;
          proper = sound-before x t o.proper m.proper;
          shallow = omega (arith, depth-before x t, o.shallow, m.shallow);
        }

    parted-sound : (p q l : ℕ) (more : Bool) → p ≤ length s → parted_at s g p ≡ good q l more → Reach s (a_sign (choose more (λ _. comma) (λ _. closes g)) ∷ []) p q
    unfolding parted_at
    parted-sound p q l more b y =
        let y₁ = followed q l more (token_at s (past space s p)) _ y in
        go y₁.0 y₁.2 (next-sound s p y₁.0 y₁.1 y₁.2 b y₁.3).1 (is_sign comma y₁.2) refl y₁.4
      where
        go : (e : ℕ) (c : Token) → Reach s (c ∷ []) p e → (u : Bool) → is_sign comma c ≡ u
            → (choose u (λ _. good e 0 true) λ _. need (is_sign (closes g) c) bad_text (past space s p) λ _. good e 0 false) ≡ good q l more
            → Reach s (a_sign (choose more (λ _. comma) (λ _. closes g)) ∷ []) p q
        go e c r true w y =
            let z = is-sign comma c w in
            let m = sym (same_thing y) in
            let i = same_place y in
            rw m (rw (z, i) at r)
        go e c r false w y =
            let a = needed q l more (is_sign (closes g) c) _ _ _ y in
            let z = is-sign (closes g) c a.0 in
            let m = sym (same_thing a.1) in
            let i = same_place a.1 in
            rw m (rw (z, i) at r)

    pub run_sound : (k i : ℕ) (seen : List ℕ) (p q l : ℕ) (t : Tuples) → p ≤ length s → run d s (member_at d s (inside_of d s room)) g row k i seen p ≡ good q l t → Listed room g row i seen p q t
    unfolding run
    run_sound zero i seen p q l t b y = never y
    run_sound (suc k) i seen p q l t b y =
        let y₁ = followed q l t (member_at d s (inside_of d s room) g row i seen p) _ y in
        let o = member-sound room H g row i seen p y₁.0 y₁.1 y₁.2 hr hk b y₁.3 in
        let y₂ = followed q l t (parted_at s g y₁.0) _ y₁.4 in
        let r = parted-sound y₁.0 y₂.0 y₂.1 y₂.2 o.reach.within y₂.3 in
        go y₁.0 y₁.2 y₂.0 y₂.2 o r (λ z m t' h. run_sound k (suc i) (number_for y₁.2 ∷ seen) y₂.0 z m t' r.within h) y₂.4
      where
        go : (e : ℕ) (x : Single) (f : ℕ) (more : Bool) → Stated room H row i seen p e x → Reach s (a_sign (choose more (λ _. comma) (λ _. closes g)) ∷ []) e f → ((z m : ℕ) (t' : Tuples) → run d s (member_at d s (inside_of d s room)) g row k (suc i) (number_for x ∷ seen) f ≡ good z m t' → Listed room g row (suc i) (number_for x ∷ seen) f z t')
            → (choose more (λ _. after (run d s (member_at d s (inside_of d s room)) g row k (suc i) (number_for x ∷ seen) f) λ z _ rest. good z 0 (before x rest)) λ _. good f 0 (before x none)) ≡ good q l t
            → Listed room g row i seen p q t
        go e x f true o r rec y =
            let a = followed q l t (run d s (member_at d s (inside_of d s room)) g row k (suc i) (number_for x ∷ seen) f) _ y in
            listed_recast a.4 (list-more i seen p e f a.0 x a.2 o r (rec a.0 a.1 a.2 a.3))
        go e x f false o r rec y = listed_recast y (list-last i seen p e f x o r)

  held_recast : {room : ℕ} {g : Shape} {row p q l q' l' : ℕ} {t t' : Tuples} → good q l t ≡ good q' l' t' → HeldIn room g row p q t → HeldIn room g row p q' t'
  held_recast e y = let a = same_place e in let b = same_thing e in rw (a, b) at y

  held_none : (room : ℕ) (g : Shape) (row p e : ℕ) → Reach s (a_sign (closes g) ∷ []) p e → HeldIn (suc room) g row p e none
  unfolding tokens_of Fits Sound depth
  held_none room g row p e r = record { reach = r; fitting = tt; proper = tt; shallow = omega arith }

  held-listed : (room : ℕ) (g : Shape) (row p q : ℕ) (t : Tuples) → p ≤ length s → Listed room g row 0 [] (past space s p) q t → HeldIn (suc room) g row p q t
  held-listed room g row p q t b m =
      record {
        reach = rw (lead-first d t row) (record { on = λ r h. spaces-before s p ((lead d t row 0 ++ (a_sign (closes g) ∷ [])) ++ r) b (m.reach.on r h); within = m.reach.within });
        fitting = m.fitting;
        proper = m.proper;
        shallow = omega (arith, m.shallow);
      }

  contents-sound : (room : ℕ) → ((g : Shape) (row at p q l : ℕ) (t : Tuples) → row < entries d → kind d row ≡ shape_format g → p ≤ length s → inside_of d s room g row at p ≡ good q l t → HeldIn room g row p q t) → (g : Shape) (row at p q l : ℕ) (t : Tuples) → row < entries d → kind d row ≡ shape_format g → p ≤ length s → inside_of d s (suc room) g row at p ≡ good q l t → HeldIn (suc room) g row p q t
  unfolding inside_of
  contents-sound room H g row at p q l t h k b y =
      let y₁ = followed q l t (token_at s (past space s p)) _ y in
      go y₁.0 y₁.2 (next-sound s p y₁.0 y₁.1 y₁.2 b y₁.3).1 (is_sign (closes g) y₁.2) refl y₁.4
    where
      go : (e : ℕ) (c : Token) → Reach s (c ∷ []) p e → (u : Bool) → is_sign (closes g) c ≡ u → (choose u (λ _. good e 0 none) λ _. run d s (member_at d s (inside_of d s room)) g row (length s) 0 [] (past space s p)) ≡ good q l t → HeldIn (suc room) g row p q t
      go e c r true w y = let z = is-sign (closes g) c w in held_recast y (held_none room g row p e (rw z at r))
      go e c r false w y = held-listed room g row p q t b (run_sound room H g row h k (length s) 0 [] (past space s p) q l t (past-most space s p b) y)

  pub inside-sound : (room : ℕ) (g : Shape) (row at p q l : ℕ) (t : Tuples) → row < entries d → kind d row ≡ shape_format g → p ≤ length s → inside_of d s room g row at p ≡ good q l t → HeldIn room g row p q t
  unfolding inside_of
  inside-sound zero g row at p q l t h k b y = never y
  inside-sound (suc room) g row at p q l t h k b y = contents-sound room (λ g row at p q l t. inside-sound room g row at p q l t) g row at p q l t h k b y

  set-token : (k : Token) → begins k ≡ true → eqb (form_for d 0 k) set_form ≡ true → k ≡ a_sign (opens Set)
  unfolding form_for
  set-token (a_sign b) h e = go (eqb b (opens Set)) refl e
    where
      go : (u : Bool) → eqb b (opens Set) ≡ u → eqb (choose u (λ _. set_form) (λ _. array_form)) set_form ≡ true → a_sign b ≡ a_sign (opens Set)
      go true f e = ap a_sign (eqb-true b (opens Set) f)
      go false f e = absurd (true≢false (sym e))
  set-token (a_string t) h e = go (is_enum d 0) e
    where
      go : (u : Bool) → eqb (choose u (λ _. enum_form) (λ _. string_form)) set_form ≡ true → a_string t ≡ a_sign (opens Set)
      go true e = absurd (true≢false (sym e))
      go false e = absurd (true≢false (sym e))
  set-token a_null h e = absurd (true≢false (sym e))
  set-token (a_boolean b) h e = absurd (true≢false (sym e))
  set-token (an_integer w) h e = absurd (true≢false (sym e))
  set-token (a_real w) h e = absurd (true≢false (sym e))

  -- the tree of a text
  pub record Answered (t : Tuples) : Type 0 where
    pub spells : Spells (root_tokens d t) s
    pub fitting : Fits d t 0 0 []
    pub proper : Sound t
    pub shallow : suc (depth t) ≤ depth_most

  pub root-sound : (q l : ℕ) (t : Tuples) → root_at d s ≡ good q l t → Reach s (root_tokens d t) 0 q × Fits d t 0 0 [] × Sound t × (suc (depth t) ≤ depth_most)
  unfolding root_at
  root-sound q l t y =
      let y₁ = followed q l t (token_at s (past space s 0)) _ y in
      let k = y₁.2 in
      let y₂ = needed q l t (begins k) _ _ _ y₁.4 in
      let y₃ = passed q l t (eqb (form_for d 0 k) real_form) _ _ _ y₂.1 in
      let y₄ = needed q l t (eqb (form_for d 0 k) set_form) _ _ _ y₃.1 in
      let r = (next-sound s 0 y₁.0 y₁.1 k (omega arith) y₁.3).1 in
      let z = accepted_header d ok in
      made y₁.0 k (set-token k y₂.0 y₄.0) r (inside-sound depth_most Set 0 (past space s 0) y₁.0 q l t (omega (arith, z.some)) z.root r.within y₄.1)
    where
      made : (e : ℕ) (k : Token) → k ≡ a_sign (opens Set) → Reach s (k ∷ []) 0 e → HeldIn depth_most Set 0 e q t → Reach s (root_tokens d t) 0 q × Fits d t 0 0 [] × Sound t × (suc (depth t) ≤ depth_most)
      made e k f r o = (reach_join (a_sign (opens Set) ∷ []) (tokens_of d t 0 0 ++ (a_sign (closes Set) ∷ [])) (rw f at r) o.reach, o.fitting, o.proper, o.shallow)

  rest-blank : (q : ℕ) → q ≤ length s → length s ≤ past space s q → Spells [] (drop q s)
  unfolding Spells
  rest-blank q h g =
      let e = (past-lies space s q h).stands in
      let z = drop-none s (past space s q) g in
      let f : drop q s ≡ slice q (past space s q) s = e ∙ ap (λ (l : List ℕ). slice q (past space s q) s ++ l) z ∙ append-nil (slice q (past space s q) s) in
      rw f (all-blank (slice q (past space s q) s) (past_all space s q))

  pub tree-sound : (q l : ℕ) (t : Tuples) → tree_of d s ≡ good q l t → Answered t
  unfolding tree_of
  tree-sound q l t y =
      let y₁ = followed q l t (root_at d s) _ y in
      let y₂ = needed q l t (leb (length s) (past space s y₁.0)) _ _ _ y₁.4 in
      made y₁.0 y₁.2 (root-sound y₁.0 y₁.1 y₁.2 y₁.3) (leb-true (length s) (past space s y₁.0) y₂.0) (same_thing y₂.1)
    where
      made : (e : ℕ) (u : Tuples) → Reach s (root_tokens d u) 0 e × Fits d u 0 0 [] × Sound u × (suc (depth u) ≤ depth_most) → length s ≤ past space s e → u ≡ t → Answered t
      made e u o g z =
          let a : Answered u = record { spells = rw (append-nil (root_tokens d u)) at (o.0.on [] (rest-blank e o.0.within g)); fitting = o.1; proper = o.2; shallow = o.3 } in
          rw z at a
