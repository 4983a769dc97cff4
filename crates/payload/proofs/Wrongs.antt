-- A scalar value is wrong, in the words of the table, exactly when it holds no scalar of its format that the row allows, and an option's number can be read.
-- Assumes nothing.
--   null-holds ..   what a scalar of each format holds
--   wrong-read      a wrong option has a number
--   wrong-none      a wrong value holds no scalar
--   none-wrong      a value that holds none is wrong
use mathlib.Core.Path.{◌≡◌, refl, sym, ap, ◌∙◌}
use mathlib.Core.List.{List, [], ◌∷◌}
use mathlib.Core.Bool.{Bool, true, false}
use Prim.Native.Nat.{ℕ, ◌+◌, ◌-◌, ◌≤◌}
use native.Mathlib.Omega.{arith}
use lib.ListN.{length}
use lib.Seq.{slice, length-slice}
use lib.Dec.{ltb, eqb}
use borrow.Author.Tests.{ltb-true, ltb-false, eqb-true, eqb-false}
use Rattle.paper.specs.Limits.{integer_most}
use Rattle.paper.proofs.Tests.{split, so_not}
use Rattle.numbers.specs.Bytes.{Bytes}
use Rattle.numbers.specs.Number.{Number}
use Rattle.numbers.specs.declared.Integer.{Integer}
use Rattle.numbers.specs.Integer.{integer_of, sign_repeated, TwosComplement}
use Rattle.numbers.proofs.Places.{bytes-slice}
use Rattle.numbers.proofs.Numbers.{Same, number_cut}
use Rattle.numbers.proofs.Brief.{sign_repeated_lem}
use Rattle.dictionary.specs.Formats.{null_form, integer_form, enum_form, string_form, boolean_form}
use Rattle.dictionary.specs.Children.{child_numbered}
use Rattle.payload.specs.Tree.{Scalar, null, integer, option, string, boolean, format_of, boolean_byte}
use Rattle.payload.specs.Writes.{Spelt, Holds}
use Rattle.payload.specs.Fits.{found, allowed}
use Rattle.payload.specs.Lying.{Read}
use Rattle.payload.specs.Refusing.{WrongScalar, integer_short, integer_long, integer_padded, no_boolean, no_string, unknown_option, option_left, null_with_bytes}
use Rattle.payload.proofs.Lying.{part, lies-is}
use Rattle.payload.proofs.Scalars.{Stated, empty, last-form}
use Rattle.payload.proofs.Asked.{Base}

module _ (v : List ℕ) where
  null-holds : (y : Scalar) → format_of y ≡ null_form → Holds y v → v ≡ []
  null-holds null e h = h
  null-holds (integer i) e h = absurd (omega arith)
  null-holds (option n) e h = absurd (omega arith)
  null-holds (string t) e h = absurd (omega arith)
  null-holds (boolean b) e h = absurd (omega arith)

  integer-holds : (y : Scalar) → format_of y ≡ integer_form → Holds y v → (i : Integer) × TwosComplement i v
  integer-holds null e h = absurd (omega arith)
  integer-holds (integer i) e h = (i, h)
  integer-holds (option n) e h = absurd (omega arith)
  integer-holds (string t) e h = absurd (omega arith)
  integer-holds (boolean b) e h = absurd (omega arith)

  option-holds : (d : List ℕ) (row : ℕ) (y : Scalar) → format_of y ≡ enum_form → Holds y v → allowed d row y ≡ true → (n : ℕ) × Number n v × (found (child_numbered d row n) ≡ true)
  option-holds d row null e h a = absurd (omega arith)
  option-holds d row (integer i) e h a = absurd (omega arith)
  option-holds d row (option n) e h a = (n, h, a)
  option-holds d row (string t) e h a = absurd (omega arith)
  option-holds d row (boolean b) e h a = absurd (omega arith)

  string-holds : (y : Scalar) → format_of y ≡ string_form → Holds y v → (t : List ℕ) × Spelt t v
  string-holds null e h = absurd (omega arith)
  string-holds (integer i) e h = absurd (omega arith)
  string-holds (option n) e h = absurd (omega arith)
  string-holds (string t) e h = (t, h)
  string-holds (boolean b) e h = absurd (omega arith)

  boolean-holds : (y : Scalar) → format_of y ≡ boolean_form → Holds y v → (b : Bool) × (v ≡ boolean_byte b ∷ [])
  boolean-holds null e h = absurd (omega arith)
  boolean-holds (integer i) e h = absurd (omega arith)
  boolean-holds (option n) e h = absurd (omega arith)
  boolean-holds (string t) e h = absurd (omega arith)
  boolean-holds (boolean b) e h = (b, h)

module _ (d s : List ℕ) (row f q z : ℕ) where
  pub wrong-read : WrongScalar d s row f q z → f ≡ enum_form → (m : ℕ) × (p : ℕ) × Read s q z m p
  wrong-read (integer_short i h) e = absurd (omega arith)
  wrong-read (integer_long i h) e = absurd (omega arith)
  wrong-read (integer_padded i h) e = absurd (omega arith)
  wrong-read (no_boolean i h) e = absurd (omega arith)
  wrong-read (no_string i h) e = absurd (omega arith)
  wrong-read (unknown_option n p i r h) e = (n, p, r)
  wrong-read (option_left n p i r h) e = (n, p, r)
  wrong-read (null_with_bytes i h) e = absurd (omega arith)

  -- a wrong value is of a scalar's format
  pub wrong-high : WrongScalar d s row f q z → ltb f 2 ≡ false
  wrong-high (integer_short i h) = rw i
  wrong-high (integer_long i h) = rw i
  wrong-high (integer_padded i h) = rw i
  wrong-high (no_boolean i h) = rw i
  wrong-high (no_string i h) = rw i
  wrong-high (unknown_option n p i r h) = rw i
  wrong-high (option_left n p i r h) = rw i
  wrong-high (null_with_bytes i h) = rw i

  module _ (hb : Bytes s) (order : q ≤ z) (end : z ≤ length s) where
    long : length (slice q z s) ≡ z - q
    long = length-slice q z s end

    -- an option's number is one, and V's
    one_number : (n p m : ℕ) → Read s q z n p → Number m (slice q z s) → (n ≡ m) × (p ≡ z)
    one_number n p m r t = made (number_cut _ _ r.writes t (sym r.lies.stands ∙ (part s q z order end).stands)) r.lies.ends
      where
        made : {a b : List ℕ} → Same n m r.bytes (slice q z s) a b → p ≡ q + length r.bytes → (n ≡ m) × (p ≡ z)
        made y e = (y.numbers, omega (arith, ap length y.bytes, long))

    pub wrong-none : WrongScalar d s row f q z → (y : Scalar) → Stated d row f (slice q z s) y → ⊥
    wrong-none (integer_short i h) y t = let a = integer-holds _ y (t.format ∙ i) t.holds in omega (arith, a.1.least, long)
    wrong-none (integer_long i h) y t = let a = integer-holds _ y (t.format ∙ i) t.holds in omega (arith, a.1.most, long)
    wrong-none (integer_padded i h) y t = let a = integer-holds _ y (t.format ∙ i) t.holds in a.1.needed h
    wrong-none (no_boolean i h) y t = let a = boolean-holds _ y (t.format ∙ i) t.holds in h a.0 a.1
    wrong-none (no_string i h) y t = let a = string-holds _ y (t.format ∙ i) t.holds in h a.0 a.1
    wrong-none (unknown_option n p i r h) y t =
        let a = option-holds _ d row y (t.format ∙ i) t.holds t.allows in
        so_not (found (child_numbered d row n)) h (ap (λ (k : ℕ). found (child_numbered d row k)) (one_number n p a.0 r a.1).0 ∙ a.2)
    wrong-none (option_left n p i r h) y t =
        let a = option-holds _ d row y (t.format ∙ i) t.holds t.allows in
        omega (arith, (one_number n p a.0 r a.1).1)
    wrong-none (null_with_bytes i h) y t = let a = null-holds _ y (t.format ∙ i) t.holds in omega (arith, ap length a, long)

    module _ (none : (y : Scalar) → Stated d row f (slice q z s) y → ⊥) where
      stated : (y : Scalar) → f ≡ format_of y → Holds y (slice q z s) → allowed d row y ≡ true → ⊥
      stated y e h a = none y (record { format = sym e; holds = h; allows = a })

      null-wrong : f ≡ null_form → (t : Bool) → ltb q z ≡ t → WrongScalar d s row f q z
      null-wrong i true g = null_with_bytes i (ltb-true q z g)
      null-wrong i false g = absurd (stated null i (empty (slice q z s) (let h = ltb-false q z g in omega (arith, long))) refl)

      integer-wrong : f ≡ integer_form → WrongScalar d s row f q z
      integer-wrong i =
          split (ltb z (q + 1)) (λ e. integer_short i (ltb-true z (q + 1) e)) λ e.
          let a = ltb-false z (q + 1) e in
          split (ltb (q + integer_most) z) (λ e. integer_long i (ltb-true (q + integer_most) z e)) λ e.
          let b = ltb-false (q + integer_most) z e in
          split (sign_repeated (slice q z s)) (λ e. integer_padded i ((sign_repeated_lem (slice q z s)).0 e)) λ e.
          absurd
          (stated (integer (integer_of (slice q z s))) i
          (record {
            least = omega (arith, long);
            most = omega (arith, long);
            bytes = bytes-slice s q z hb;
            says = refl;
            needed = λ r. so_not (sign_repeated (slice q z s)) e ((sign_repeated_lem (slice q z s)).1 r);
          })
          refl)

      option-wrong : (n p : ℕ) → f ≡ enum_form → Read s q z n p → (t u : Bool) → ltb p z ≡ t → found (child_numbered d row n) ≡ u → WrongScalar d s row f q z
      option-wrong n p i r true u g h = option_left n p i r (ltb-true p z g)
      option-wrong n p i r false false g h = unknown_option n p i r h
      option-wrong n p i r false true g h =
          let c = ltb-false p z g in
          let e : p ≡ z = omega (arith, r.within) in
          let v : slice q z s ≡ r.bytes = ap (λ (k : ℕ). slice q k s) (sym e) ∙ lies-is s r.bytes q p r.lies in
          absurd (stated (option n) i (rw v r.writes) h)

      pub none-wrong : (f ≡ enum_form → (m : ℕ) × (p : ℕ) × Read s q z m p) → 2 ≤ f → Base f → WrongScalar d s row f q z
      none-wrong o low base =
          turn null_form (λ i. null-wrong i (ltb q z) refl) λ a.
          turn integer_form integer-wrong λ b.
          turn enum_form (λ i. let r = o i in option-wrong r.0 r.1 i r.2 (ltb r.1 z) (found (child_numbered d row r.0)) refl refl) λ c.
          turn string_form (λ i. no_string i (λ t h. stated (string t) i h refl)) λ e.
          let i = last-form f low base.high base.not_real a b c e in
          no_boolean i (λ t h. stated (boolean t) i h refl)
        where
          turn : (g : ℕ) → (f ≡ g → WrongScalar d s row f q z) → ((f ≡ g → ⊥) → WrongScalar d s row f q z) → WrongScalar d s row f q z
          turn g x y = go (eqb f g) refl
            where
              go : (t : Bool) → eqb f g ≡ t → WrongScalar d s row f q z
              go true e = x (eqb-true f g e)
              go false e = y (eqb-false f g e)
