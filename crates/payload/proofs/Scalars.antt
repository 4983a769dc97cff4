-- A scalar's bytes: what holds a scalar is judged to be worth it where it is allowed, and nothing else is.
-- Assumes nothing.
--   meant f v            the scalar that the bytes v hold in the format f, if they hold any
--   holds_unique         bytes hold one scalar of a format
--   scalar_complete      what holds a scalar that the row allows is worth it
--   scalar-sound         what is worth a scalar holds it, the row allows it, and it is of the format
--   Misvalued, misvalued a value is wrong exactly when it holds no scalar that the row allows; its number is 10, or the fault of an option's number
use mathlib.Core.Path.{◌≡◌, refl, sym, ap, ◌∙◌}
use mathlib.Core.Logic.{◌↔◌}
use mathlib.Core.List.{List, [], ◌∷◌, ◌++◌, append-nil}
use mathlib.Core.Bool.{Bool, true, false, ◌&&◌}
use Prim.Native.Nat.{ℕ, suc, ◌+◌, ◌-◌, ◌≤◌}
use native.Mathlib.Omega.{arith}
use lib.ListN.{length, take, drop, length-append}
use lib.Seq.{slice, take-length, take-suc, take-append_seam, get_or-append_seam}
use lib.Dec.{leb, eqb}
use borrow.Author.Tests.{leb-true, eqb-true, eqb-false, le-leb, eq-eqb}
use Rattle.paper.specs.Refusals.{value_wrong}
use Rattle.paper.specs.Checks.{choose}
use Rattle.paper.proofs.Tests.{and_left, and_right}
use Rattle.numbers.specs.Bytes.{Bytes, byte, little}
use Rattle.numbers.specs.Number.{Found, Refused, Value, number_at}
use Rattle.numbers.specs.Integer.{integer_of, is_integer}
use Rattle.numbers.proofs.Numbers.{number-at, at-number}
use Rattle.numbers.proofs.Brief.{is-integer}
use Rattle.dictionary.specs.Formats.{null_form, integer_form, enum_form, string_form, boolean_form, real_form}
use Rattle.dictionary.specs.Children.{child_numbered}
use Rattle.payload.specs.Tree.{Scalar, null, integer, option, string, boolean, format_of, boolean_byte}
use Rattle.payload.specs.Strings.{well_spelt}
use Rattle.payload.specs.Writes.{Holds}
use Rattle.payload.specs.Fits.{found, allowed}
use Rattle.payload.specs.Values.{Valued, wrong, worth, when, integer_value, boolean_value, string_value, option_in, option_value, scalar_value}
use Rattle.payload.proofs.Lying.{number-long}

abbrev meant : ℕ → List ℕ → Scalar
meant f v =
    choose (eqb f null_form) (λ _. null) λ _.
    choose (eqb f integer_form) (λ _. integer (integer_of v)) λ _.
    choose (eqb f enum_form) (λ _. option (little (drop 1 v))) λ _.
    choose (eqb f string_form) (λ _. string (take (length v - 1) v)) λ _.
    boolean (eqb (byte v 0) (boolean_byte true))

module _ (t v : List ℕ) (e : v ≡ t ++ (0 ∷ [])) where
  spelt-long : length v - 1 ≡ length t
  spelt-long = omega (arith, ap length e, length-append t (0 ∷ []))

  spelt-take : take (length v - 1) v ≡ t
  spelt-take = ap (λ (k : ℕ). take k v) spelt-long ∙ ap (take (length t)) e ∙ take-append_seam t (0 ∷ [])

  spelt-last : byte v (length v - 1) ≡ 0
  spelt-last = ap (byte v) spelt-long ∙ ap (λ (l : List ℕ). byte l (length t)) e ∙ get_or-append_seam t 0 [] 0

holds-meant : (x : Scalar) (v : List ℕ) → Holds x v → meant (format_of x) v ≡ x
holds-meant null v h = refl
holds-meant (integer i) v h = ap integer h.says
holds-meant (option n) v h = ap (λ (l : List ℕ). option (little (drop 1 l))) h.whole ∙ ap option h.says
holds-meant (string t) v h = ap string (spelt-take t v h.whole)
holds-meant (boolean false) v h = ap (λ (l : List ℕ). boolean (eqb (byte l 0) (boolean_byte true))) h
holds-meant (boolean true) v h = ap (λ (l : List ℕ). boolean (eqb (byte l 0) (boolean_byte true))) h

pub holds_unique : (x y : Scalar) (v : List ℕ) → format_of x ≡ format_of y → Holds x v → Holds y v → x ≡ y
holds_unique x y v e h g = sym (holds-meant x v h) ∙ ap (λ (f : ℕ). meant f v) e ∙ holds-meant y v g

module _ (d : List ℕ) (row : ℕ) where
  pub scalar_complete : (x : Scalar) (v : List ℕ) → Holds x v → allowed d row x ≡ true → scalar_value d row (format_of x) v ≡ worth x
  unfolding scalar_value integer_value boolean_value string_value option_value
  scalar_complete null v h a = rw h
  scalar_complete (integer i) v h a = rw ((is-integer v h.bytes).1 (rw h.says h), h.says)
  scalar_complete (option n) v h a =
      let l : 1 + (length v - 1) ≡ length v = omega (arith, number-long h) in
      rw (number-at v v [] 0 (length v) n (sym (append-nil v)) h (omega arith), eq-eqb _ _ l, a)
  scalar_complete (string t) v h a =
      let l : 1 ≤ length v = omega (arith, ap length h.whole, length-append t (0 ∷ [])) in
      rw (le-leb 1 (length v) l, spelt-last t v h.whole, spelt-take t v h.whole, h.bytes)
  scalar_complete (boolean false) v h a = rw h
  scalar_complete (boolean true) v h a = rw h

-- a scalar that was found
pub record Stated (d : List ℕ) (row f : ℕ) (v : List ℕ) (x : Scalar) : Type 0 where
  pub format : format_of x ≡ f
  pub holds : Holds x v
  pub allows : allowed d row x ≡ true

worth-is : {x y : Scalar} → worth x ≡ worth y → x ≡ y
worth-is e = cc

never : {k : ℕ} {x : Scalar} {A : Type 0} → wrong k ≡ worth x → A
never e = absurd (let z : ◌≡◌ {A = ℕ} 0 1 = cc in omega arith)

whenever : (t : Bool) (y x : Scalar) → when t (λ _. y) ≡ worth x → (t ≡ true) × (y ≡ x)
whenever true y x e = (refl, worth-is e)
whenever false y x e = never e

pub empty : (v : List ℕ) → length v ≡ 0 → v ≡ []
empty [] e = refl
empty (x ∷ v) e = absurd (omega arith)

single : (v : List ℕ) (b : ℕ) → eqb (length v) 1 && eqb (byte v 0) b ≡ true → v ≡ b ∷ []
single v b e = go v (eqb-true (length v) 1 (and_left _ _ e)) (eqb-true (byte v 0) b (and_right (eqb (length v) 1) _ e))
  where
    go : (v : List ℕ) → length v ≡ 1 → byte v 0 ≡ b → v ≡ b ∷ []
    go [] l f = absurd (omega arith)
    go (x ∷ []) l f = ap (λ (k : ℕ). k ∷ []) f
    go (x ∷ y ∷ v) l f = absurd (omega arith)

ended : (v : List ℕ) → 1 ≤ length v → byte v (length v - 1) ≡ 0 → v ≡ take (length v - 1) v ++ (0 ∷ [])
ended v h e =
    let k : length v ≡ suc (length v - 1) = omega arith in
    sym (take-length v) ∙ ap (λ (n : ℕ). take n v) k ∙ take-suc v (length v - 1) 0 (omega arith) ∙ ap (λ (b : ℕ). take (length v - 1) v ++ (b ∷ [])) e

pub last-form : (f : ℕ) → null_form ≤ f → f ≤ boolean_form → (f ≡ real_form → ⊥) → (f ≡ null_form → ⊥) → (f ≡ integer_form → ⊥) → (f ≡ enum_form → ⊥) → (f ≡ string_form → ⊥) → f ≡ boolean_form
last-form f low high r a b c k = omega arith

module _ (d : List ℕ) (row : ℕ) (v : List ℕ) (x : Scalar) where
  -- a scalar that is known to be y
  is : (f : ℕ) (y : Scalar) → y ≡ x → format_of y ≡ f → Holds y v → allowed d row y ≡ true → Stated d row f v x
  is f y e g h a = rw e at (made y g h a)
    where
      made : (y : Scalar) → format_of y ≡ f → Holds y v → allowed d row y ≡ true → Stated d row f v y
      made y g h a = record { format = g; holds = h; allows = a }

  integer-sound : Bytes v → integer_value v ≡ worth x → Stated d row integer_form v x
  unfolding integer_value
  integer-sound hb e =
      let t = whenever (is_integer v) _ x e in
      is integer_form (integer (integer_of v)) t.1 refl ((is-integer v hb).0 t.0) refl

  string-sound : string_value v ≡ worth x → Stated d row string_form v x
  unfolding string_value
  string-sound e =
      let t = whenever (leb 1 (length v) && eqb (byte v (length v - 1)) 0 && well_spelt (take (length v - 1) v)) _ x e in
      let a = and_left _ _ t.0 in
      let l = leb-true 1 (length v) (and_left _ _ a) in
      let z = eqb-true (byte v (length v - 1)) 0 (and_right (leb 1 (length v)) _ a) in
      is string_form (string (take (length v - 1) v)) t.1 refl
      (record { whole = ended v l z; bytes = and_right (leb 1 (length v) && eqb (byte v (length v - 1)) 0) _ t.0 }) refl

  boolean-sound : boolean_value v ≡ worth x → Stated d row boolean_form v x
  unfolding boolean_value
  boolean-sound e = go (eqb (length v) 1 && eqb (byte v 0) 0) refl e
    where
      go : (t : Bool) → eqb (length v) 1 && eqb (byte v 0) 0 ≡ t → choose t (λ _. worth (boolean false)) (λ _. when (eqb (length v) 1 && eqb (byte v 0) (boolean_byte true)) (λ _. boolean true)) ≡ worth x → Stated d row boolean_form v x
      go true f e = is boolean_form (boolean false) (worth-is e) refl (single v 0 f) refl
      go false f e =
          let t = whenever (eqb (length v) 1 && eqb (byte v 0) (boolean_byte true)) _ x e in
          is boolean_form (boolean true) t.1 refl (single v (boolean_byte true) t.0) refl

  option-sound : Bytes v → option_value d row v ≡ worth x → Stated d row enum_form v x
  unfolding option_value
  option-sound hb e = go (number_at v 0 (length v)) refl e
    where
      go : (r : Found) → number_at v 0 (length v) ≡ r → option_in d row v r ≡ worth x → Stated d row enum_form v x
      go (Refused k) g e = never e
      go (Value n w) g e =
          let t = whenever (eqb (1 + w) (length v) && found (child_numbered d row n)) (option n) x e in
          let l : 0 + 1 + w ≡ length v = eqb-true (1 + w) (length v) (and_left _ _ t.0) in
          let i : slice 0 (0 + 1 + w) v ≡ v = ap (λ (k : ℕ). take k v) l ∙ take-length v in
          is enum_form (option n) t.1 refl (rw i at (at-number v 0 (length v) n w hb (omega arith) g)) (and_right (eqb (1 + w) (length v)) _ t.0)

  null-sound : when (eqb (length v) 0) (λ _. null) ≡ worth x → Stated d row null_form v x
  null-sound e =
      let t = whenever (eqb (length v) 0) _ x e in
      is null_form null t.1 refl (empty v (eqb-true (length v) 0 t.0)) refl

  -- one format after another
  choice : (f k : ℕ) (a b : Unit {0} → Valued) → choose (eqb f k) a b ≡ worth x → (a tt ≡ worth x → Stated d row k v x) → ((f ≡ k → ⊥) → b tt ≡ worth x → Stated d row f v x) → Stated d row f v x
  choice f k a b e yes' no' = go (eqb f k) refl e
    where
      go : (t : Bool) → eqb f k ≡ t → choose t a b ≡ worth x → Stated d row f v x
      go true g e = rw (eqb-true f k g) (yes' e)
      go false g e = no' (eqb-false f k g) e

  pub scalar-sound : (f : ℕ) → Bytes v → null_form ≤ f → f ≤ boolean_form → (f ≡ real_form → ⊥) → scalar_value d row f v ≡ worth x → Stated d row f v x
  unfolding scalar_value
  scalar-sound f hb low high real e =
      choice f null_form _ _ e null-sound λ a e.
      choice f integer_form _ _ e (integer-sound hb) λ b e.
      choice f enum_form _ _ e (option-sound hb) λ c e.
      choice f string_form _ _ e string-sound λ k e.
      rw (last-form f low high real a b c k) (boolean-sound e)

-- no scalar of the format that the row allows: 10; but an option's number can fail as a number
pub data Misvalued (d : List ℕ) (row f : ℕ) (v : List ℕ) (k : ℕ) : Type 0 where
  no_option : f ≡ enum_form → number_at v 0 (length v) ≡ Refused k → Misvalued d row f v k
  no_scalar : (f ≡ enum_form → (n : ℕ) × (w : ℕ) × (number_at v 0 (length v) ≡ Value n w)) → ((x : Scalar) → Stated d row f v x → ⊥) → k ≡ value_wrong → Misvalued d row f v k

wrong-is : {k m : ℕ} → wrong k ≡ wrong m → k ≡ m
wrong-is e = cc

module _ (d : List ℕ) (row f : ℕ) (v : List ℕ) where
  stated-worth : (x : Scalar) → Stated d row f v x → scalar_value d row f v ≡ worth x
  stated-worth x t = ap (λ (g : ℕ). scalar_value d row g v) (sym t.format) ∙ scalar_complete d row x v t.holds t.allows

  module _ (k : ℕ) where
    ten : (b : Bool) (x : Scalar) → when b (λ _. x) ≡ wrong k → k ≡ value_wrong
    ten true x e = never (sym e)
    ten false x e = sym (wrong-is e)

    -- one format after another
    turn : (g : ℕ) (a b : Unit {0} → Valued) → choose (eqb f g) a b ≡ wrong k → (f ≡ g → a tt ≡ wrong k → k ≡ value_wrong) → (b tt ≡ wrong k → k ≡ value_wrong) → k ≡ value_wrong
    turn g a b e x y = go (eqb f g) refl e
      where
        go : (t : Bool) → eqb f g ≡ t → choose t a b ≡ wrong k → k ≡ value_wrong
        go true i e = x (eqb-true f g i) e
        go false i e = y e

    wrong_ten : (f ≡ enum_form → (n : ℕ) × (w : ℕ) × (number_at v 0 (length v) ≡ Value n w)) → scalar_value d row f v ≡ wrong k → k ≡ value_wrong
    unfolding scalar_value integer_value boolean_value string_value option_value
    wrong_ten h e =
        turn null_form _ _ e (λ z. ten (eqb (length v) 0) _) λ e.
        turn integer_form _ _ e (λ z. ten (is_integer v) _) λ e.
        turn enum_form _ _ e (λ z e. options (number_at v 0 (length v)) (h z) e) λ e.
        turn string_form _ _ e (λ z. ten (leb 1 (length v) && eqb (byte v (length v - 1)) 0 && well_spelt (take (length v - 1) v)) _) λ e.
        booleans (eqb (length v) 1 && eqb (byte v 0) 0) e
      where
        booleans : (t : Bool) → choose t (λ _. worth (boolean false)) (λ _. when (eqb (length v) 1 && eqb (byte v 0) (boolean_byte true)) (λ _. boolean true)) ≡ wrong k → k ≡ value_wrong
        booleans true e = never (sym e)
        booleans false e = ten (eqb (length v) 1 && eqb (byte v 0) (boolean_byte true)) _ e

        options : (r : Found) → (n : ℕ) × (w : ℕ) × (r ≡ Value n w) → option_in d row v r ≡ wrong k → k ≡ value_wrong
        options (Refused m) h e = absurd (let z : ◌≡◌ {A = ℕ} 0 1 = cc h.2 in omega arith)
        options (Value n w) h e = ten (eqb (1 + w) (length v) && found (child_numbered d row n)) (option n) e

    option_fault : f ≡ enum_form → number_at v 0 (length v) ≡ Refused k → scalar_value d row f v ≡ wrong k
    unfolding scalar_value option_value
    option_fault e g = rw (e, g)

  pub misvalued : (k : ℕ) → Bytes v → null_form ≤ f → f ≤ boolean_form → (f ≡ real_form → ⊥) → (scalar_value d row f v ≡ wrong k) ↔ Misvalued d row f v k
  misvalued k hb low high real = (there, back)
    where
      none-stated : {m : ℕ} → scalar_value d row f v ≡ wrong m → (x : Scalar) → Stated d row f v x → ⊥
      none-stated e x t = never (sym e ∙ stated-worth x t)

      numbered : (r : Found) → number_at v 0 (length v) ≡ r → (t : Bool) → eqb f enum_form ≡ t → scalar_value d row f v ≡ wrong k → Misvalued d row f v k
      numbered (Value n w) g t b e = no_scalar (λ z. (n, w, g)) (none-stated e) (wrong_ten k (λ z. (n, w, g)) e)
      numbered (Refused m) g true b e =
          let z = eqb-true f enum_form b in
          let i : m ≡ k = wrong-is (sym (option_fault m z g) ∙ e) in
          no_option z (g ∙ ap Refused i)
      numbered (Refused m) g false b e = no_scalar (λ z. absurd (eqb-false f enum_form b z)) (none-stated e) (wrong_ten k (λ z. absurd (eqb-false f enum_form b z)) e)

      there : scalar_value d row f v ≡ wrong k → Misvalued d row f v k
      there e = numbered (number_at v 0 (length v)) refl (eqb f enum_form) refl e

      back : Misvalued d row f v k → scalar_value d row f v ≡ wrong k
      back (no_option e g) = option_fault k e g
      back (no_scalar h n e) = go (scalar_value d row f v) refl
        where
          go : (r : Valued) → scalar_value d row f v ≡ r → r ≡ wrong k
          go (worth x) g = absurd (n x (scalar-sound d row v x f hb low high real g))
          go (wrong m) g = ap wrong (wrong_ten m h g ∙ sym e)
