-- One value and one key: what a tree's token says where it is due.
-- Assumes nothing.
--   base-kind, fits_well   a row of a format of the base; a format of the base that fits is no misfit
--   form-token, scalar-token   the token of a scalar that fits has its format, and says it
--   Arrived s j x r m   the judgement j is x, up to a place not before m from which the tokens r follow
--   key_complete, scalar-value, group-value, member_complete   a key, values, a member
use mathlib.Core.Path.{◌≡◌, refl, sym, ap, ◌∙◌}
use mathlib.Core.List.{List, ◌∷◌, ◌++◌}
use mathlib.Core.Bool.{Bool, true, false, not, ◌&&◌}
use Prim.Native.Nat.{ℕ, suc, ◌+◌, ◌*◌, ◌<◌, ◌≤◌}
use native.Mathlib.Omega.{arith}
use lib.ListN.{length, drop}
use lib.Dec.{eqb, ltb}
use borrow.Author.Tests.{eqb-false, eq-eqb, ne_eqb, le-ltb}
use Rattle.paper.specs.Refusals.{accepted}
use Rattle.paper.specs.Checks.{Judged, good}
use Rattle.paper.proofs.Tests.{and-not-left, and-not-right}
use Rattle.numbers.proofs.Decimals.{text_says}
use Rattle.std.specs.Prelude.{Some}
use Rattle.dictionary.specs.Formats.{set_form, null_form, enum_form, string_form, real_form}
use Rattle.dictionary.specs.Rows.{entries, kind, first_child, name}
use Rattle.dictionary.specs.Children.{child_numbered, child_named}
use Rattle.dictionary.specs.Accepts.{accepts}
use Rattle.dictionary.proofs.Laws.{accepted_family, accepted-members, enum_parent, named-known}
use Rattle.payload.specs.Tree.{Scalar, null, integer, option, string, boolean, Tuples, format_of, shape_format}
use Rattle.payload.specs.declared.Shape.{Shape}
use Rattle.payload.specs.declared.Shape.TheVariants.{Set, Array}
use Rattle.payload.specs.Values.{worth}
use Rattle.payload.specs.Fits.{child, row_of, fits, allowed, known, fresh}
use Rattle.payload.specs.Text.{colon, opens}
use Rattle.payload.specs.Reading.{Single, plain, group, shape_of}
use Rattle.payload.proofs.Sitting.{fits-own, known-set, known_array, child-set}
use Rattle.payload.proofs.Unique.{scalar-high}
use Rattle.payload.proofs.Asked.{Base, supported-of}
use Rattle.payload.proofs.Complete.{scalar-base, shape-base}
use Rattle.text.specs.Tokens.{Token, a_sign, a_string, space}
use Rattle.text.specs.Spells.{Spells, token_of, label_tokens}
use Rattle.text.specs.Scanning.{past}
use Rattle.text.specs.Values.{begins, in_base, is_enum, form_for, misfit_for, integer_for, option_for, scalar_for}
use Rattle.text.specs.Writing.{name_at, colon_at, key_at, value_at, member_at}
use Rattle.text.proofs.Labels.{set-parent}
use Rattle.text.proofs.Words.{Proper}
use Rattle.text.proofs.Spacing.{Signed, loose_signed, next_complete}
use Rattle.text.proofs.Cleanly.{name-spelt, colon-sign, opens-sign, enum_kind, option-row, token-clean}

pub base-kind : (d : List ℕ) (row f : ℕ) → Base f → f ≡ kind d row → in_base d row ≡ true
unfolding in_base
base-kind d row f b e = supported-of (16 * kind d row) f (omega arith) (omega arith) b

-- the test of a row's format is passed by every format that fits
pub base-fits : (d : List ℕ) (row f : ℕ) → Base f → fits d row f ≡ true → not (in_base d row) && not (eqb f null_form) ≡ false
base-fits d row f b h = go (eqb f null_form) refl
  where
    go : (t : Bool) → eqb f null_form ≡ t → not (in_base d row) && not (eqb f null_form) ≡ false
    go true e = and-not-right (not (in_base d row)) _ (rw e)
    go false e = and-not-left (not (in_base d row)) _ (ap not (base-kind d row f b ((fits-own d row f (eqb-false f null_form e)).0 h)))

pub fits_well : (d : List ℕ) (row f : ℕ) → Base f → fits d row f ≡ true → misfit_for d row f ≡ accepted
unfolding misfit_for
fits_well d row f b h = rw (ne_eqb f real_form b.not_real, base-fits d row f b h, h)

module _ (d : List ℕ) (ok : accepts d ≡ true) (row : ℕ) (h : row < entries d) where
  not_enum : (f : ℕ) → (f ≡ null_form → ⊥) → (f ≡ enum_form → ⊥) → fits d row f ≡ true → is_enum d row ≡ false
  unfolding is_enum
  not_enum f a b e = let z = (fits-own d row f a).0 e in ne_eqb (kind d row) enum_form (λ y. b (z ∙ y))

  an_enum : fits d row enum_form ≡ true → is_enum d row ≡ true
  unfolding is_enum
  an_enum e = eq-eqb (kind d row) enum_form (enum_kind d ok row e)

  pub form-token : (x : Scalar) → fits d row (format_of x) ≡ true → form_for d row (token_of d row x) ≡ format_of x
  unfolding form_for
  form-token null f = refl
  form-token (integer i) f = refl
  form-token (option n) f = rw (an_enum f)
  form-token (string t) f = rw (not_enum string_form (λ z. omega arith) (λ z. omega arith) f)
  form-token (boolean b) f = refl

  option-token : (n : ℕ) → fits d row enum_form ≡ true → allowed d row (option n) ≡ true → option_for d (child_named d row (name d (row_of (child_numbered d row n)))) ≡ worth (option n)
  option-token n f a =
      let k = enum_kind d ok row f in
      let o = option-row d ok row n h f a in
      let w = accepted_family d ok row h (enum_parent d row k) in
      let m = accepted-members d ok row h (λ z. omega (arith, sym k ∙ z)) (enum_parent d row k) in
      ap (λ (c : ℕ). option_for d (child_named d row (name d c))) o.1
      ∙ ap (option_for d) (named-known d row n w m o.0)
      ∙ ap (λ (c : ℕ). worth (option c)) (w.each_in_turn n o.0)

  pub scalar-token : (x : Scalar) → fits d row (format_of x) ≡ true → allowed d row x ≡ true → Proper x → scalar_for d row (token_of d row x) ≡ worth x
  unfolding scalar_for
  scalar-token null f a p = refl
  scalar-token (integer i) f a p = ap integer_for (text_says i p)
  scalar-token (option n) f a p = rw (an_enum f) (option-token n f a)
  scalar-token (string t) f a p = rw (not_enum string_form (λ z. omega arith) (λ z. omega arith) f)
  scalar-token (boolean b) f a p = refl

pub record Arrived {A : Type 0} (s : List ℕ) (j : Judged A) (x : A) (r : List Token) (m : ℕ) : Type 0 where
  pub place : ℕ
  pub is : j ≡ good place 0 x
  pub rest : Spells r (drop place s)
  pub further : m ≤ place
  pub within : place ≤ length s

begins-token : (d : List ℕ) (row : ℕ) (x : Scalar) → begins (token_of d row x) ≡ true
begins-token d row null = refl
begins-token d row (integer i) = refl
begins-token d row (option n) = refl
begins-token d row (string t) = refl
begins-token d row (boolean b) = refl

begins-open : (g : Shape) → begins (a_sign (opens g)) ≡ true
begins-open Set = refl
begins-open Array = refl

form-open : (d : List ℕ) (row : ℕ) (g : Shape) → form_for d row (a_sign (opens g)) ≡ shape_format g
unfolding form_for
form-open d row Set = refl
form-open d row Array = refl

shape-open : (g : Shape) → shape_of (shape_format g) ≡ g
shape-open Set = refl
shape-open Array = refl

group-open : (g : Shape) → ltb (shape_format g) 2 ≡ true
group-open Set = refl
group-open Array = refl

module _ (d s : List ℕ) (ok : accepts d ≡ true) where
  key_set : (row i n : ℕ) (seen : List ℕ) (p : ℕ) (r : List Token) → row < entries d → kind d row ≡ set_form → known d row i n ≡ true → fresh d row seen n ≡ true → Spells (a_string (name d (child d row n)) ∷ a_sign colon ∷ r) (drop p s) → Arrived s (key_at d s Set row i seen p) n r p
  unfolding key_at name_at colon_at
  key_set row i n seen p r h k e f y =
      let w = accepted_family d ok row h (set-parent d row k) in
      let m = accepted-members d ok row h (λ z. omega (arith, sym k ∙ z)) (set-parent d row k) in
      let l = (known-set d row w n k i).0 e in
      let c = child-set d row w n k l in
      let a = next_complete s p (a_string (name d (child d row n))) (a_sign colon ∷ r) (name-spelt d ok (child d row n) (omega (arith, c, w.within))) tt y in
      let b = next_complete s a.0 (a_sign colon) r colon-sign tt a.1.rest in
      let g : child_named d row (name d (child d row n)) ≡ Some (first_child d row + n) = ap (λ (v : ℕ). child_named d row (name d v)) c ∙ named-known d row n w m l in
      record {
        place = b.0;
        is = rw (a.1.is, g, w.each_in_turn n l, f, b.1.is);
        rest = b.1.rest;
        further = omega (arith, a.1.further, b.1.further);
        within = b.1.within;
      }

  pub key_complete : (g : Shape) (row i n : ℕ) (seen : List ℕ) (p : ℕ) (r : List Token) → row < entries d → kind d row ≡ shape_format g → known d row i n ≡ true → fresh d row seen n ≡ true → p ≤ length s → Spells (label_tokens d row n ++ r) (drop p s) → Arrived s (key_at d s g row i seen p) n r p
  unfolding label_tokens key_at
  key_complete Set row i n seen p r h k e f b y = key_set row i n seen p r h k e f (rw (eq-eqb (kind d row) 0 k) at y)
  key_complete Array row i n seen p r h k e f b y = array (λ z. omega (arith, sym k ∙ z))
    where
      array : (kind d row ≡ set_form → ⊥) → Arrived s (key_at d s Array row i seen p) n r p
      array z =
          let v : n ≡ i = (known_array d row n z i).0 e in
          record { place = p; is = key_array v; rest = rw (ne_eqb (kind d row) 0 z) at y; further = omega arith; within = b }
        where
          key_array : n ≡ i → key_at d s Array row i seen p ≡ good p 0 n
          key_array v = rw v

  module _ (within : Shape → ℕ → ℕ → ℕ → Judged Tuples) where
    pub scalar-value : (n row p : ℕ) (x : Scalar) (r : List Token) → row < entries d → fits d row (format_of x) ≡ true → allowed d row x ≡ true → Proper x → Signed r → Spells (token_of d row x ∷ r) (drop p s) → Arrived s (value_at d s within n row p) (plain n x) r (suc p)
    unfolding value_at
    scalar-value n row p x r h f a v g y =
        let k = token_of d row x in
        let o = next_complete s p k r (token-clean d ok row x h f a v) (loose_signed k r g) y in
        let b = scalar-base x in
        record {
          place = o.0;
          is = rw (o.1.is, begins-token d row x, form-token d ok row h x f, fits_well d row (format_of x) b f, le-ltb (format_of x) 2 (scalar-high x), scalar-token d ok row h x f a v);
          rest = o.1.rest;
          further = omega (arith, o.1.further);
          within = o.1.within;
        }

    pub group-value : (n row p : ℕ) (g : Shape) (kids : Tuples) (r ks : List Token) → fits d row (shape_format g) ≡ true → Spells (a_sign (opens g) ∷ ks) (drop p s) → ((at q : ℕ) → p < q → q ≤ length s → Spells ks (drop q s) → Arrived s (within g row at q) kids r q) → Arrived s (value_at d s within n row p) (group n g kids) r (suc p)
    unfolding value_at
    group-value n row p g kids r ks f y rec =
        let o = next_complete s p (a_sign (opens g)) ks (opens-sign g) tt y in
        let c = rec (past space s p) o.0 o.1.further o.1.within o.1.rest in
        let b = shape-base g in
        record {
          place = c.place;
          is = rw (o.1.is, begins-open g, form-open d row g, fits_well d row (shape_format g) b f, group-open g, shape-open g, c.is);
          rest = c.rest;
          further = omega (arith, o.1.further, c.further);
          within = c.within;
        }

    pub member_complete : (g : Shape) (row i n : ℕ) (seen : List ℕ) (p : ℕ) (x : Single) (r v : List Token) → row < entries d → kind d row ≡ shape_format g → known d row i n ≡ true → fresh d row seen n ≡ true → p ≤ length s → Spells (label_tokens d row n ++ v) (drop p s) → ((q : ℕ) → q ≤ length s → Spells v (drop q s) → Arrived s (value_at d s within n (child d row n) q) x r (suc q)) → Arrived s (member_at d s within g row i seen p) x r (suc p)
    unfolding member_at
    member_complete g row i n seen p x r v h k e f b y rec =
        let a = key_complete g row i n seen p v h k e f b y in
        let c = rec a.place a.within a.rest in
        record { place = c.place; is = rw a.is c.is; rest = c.rest; further = omega (arith, a.further, c.further); within = c.within }
