-- The text of a value by its format: one lemma for each call and each return of `put_value`.
-- Assumes nothing.
use mathlib.Core.Path.{◌≡◌, refl, sym, ap, ◌∙◌}
use mathlib.Core.Logic.{◌⊎◌, inl, inr}
use mathlib.Core.List.{List, [], ◌∷◌}
use mathlib.Core.Bool.{true, false, true≢false}
use Rattle.std.specs.Prelude.{Option, Some, None, IsSome}
use Prim.Native.Nat.{ℕ, ◌-◌, ◌<◌, ◌≤◌}
use native.Mathlib.Omega.{arith}
use lib.ListN.{length, take, length-append}
use lib.Seq.{take-append_seam, take-length}
use Rattle.paper.specs.Limits.{integer_most}
use Rattle.numbers.specs.Bytes.{byte}
use Rattle.numbers.specs.declared.Integer.{Integer}
use Rattle.numbers.specs.Integer.{integer_of}
use Rattle.numbers.specs.Decimal.{decimal_of}
use Rattle.numbers.specs.Met.{IntegerMet}
use Rattle.dictionary.specs.declared.formats.Format.{Format}
use Rattle.dictionary.specs.declared.formats.Format.TheVariants as is
use Rattle.dictionary.specs.Formats.{null_form, integer_form, enum_form, string_form, real_form, boolean_form, form_number}
use Rattle.dictionary.specs.Rows.{kind, name}
use Rattle.dictionary.specs.Children.{child_numbered}
use Rattle.dictionary.specs.Given.{Row}
use Rattle.dictionary.proofs.Laws.{enum_parent, accepted_family}
use Rattle.payload.specs.Tree.{Scalar, null, integer, option, string, boolean, format_of}
use Rattle.payload.specs.Writes.{Holds}
use Rattle.payload.specs.Fits.{found, row_of, allowed}
use Rattle.payload.specs.Text.{quoted, null_text, word}
use Rattle.payload.proofs.Sitting.{option_inside, fits-own}
use Rattle.payload.proofs.Unique.{scalar-high}
use Rattle.payload.proofs.Complete.{scalar-base}
use Rattle.reader_render.specs.Rendered.{boolean_text, option_text, Optional, shown, AcceptedIn, PlainIn, value_text, Worth, as_scalar, as_group}
use Rattle.reader_render.proofs.Parting.{counted}
use Rattle.reader_render.proofs.Members.{whole, plain-text, group-text}

module _ (d : List ℕ) (row : ℕ) (v : List ℕ) where
  -- what each format's bytes say
  pub record StringSays (w : List ℕ) : Type 0 where
    pub some : 1 ≤ length v
    pub text : w ≡ quoted (take (length v - 1) v)

  string-says : (x : Scalar) → format_of x ≡ string_form → Holds x v → StringSays (word d row x)
  string-says null e h = absurd (omega arith)
  string-says (integer i) e h = absurd (omega arith)
  string-says (option n) e h = absurd (omega arith)
  string-says (boolean b) e h = absurd (omega arith)
  string-says (string u) e h =
      let z = h.whole in
      let l : length v - 1 ≡ length u = omega (arith, ap length z, length-append u (0 ∷ [])) in
      record {
        some = omega (arith, ap length z, length-append u (0 ∷ []));
        text = ap quoted (sym (ap (λ (k : ℕ). take k v) l ∙ ap (take (length u)) z ∙ take-append_seam u (0 ∷ [])));
      }

  pub record IntegerSays (w : List ℕ) : Type 0 where
    pub some : 1 ≤ length v
    pub few : length v ≤ integer_most
    pub text : w ≡ decimal_of (integer_of v)

  integer-says : (x : Scalar) → format_of x ≡ integer_form → Holds x v → IntegerSays (word d row x)
  integer-says null e h = absurd (omega arith)
  integer-says (integer i) e h = record { some = h.least; few = h.most; text = ap decimal_of (sym h.says) }
  integer-says (option n) e h = absurd (omega arith)
  integer-says (string u) e h = absurd (omega arith)
  integer-says (boolean b) e h = absurd (omega arith)

  pub record OptionSays (w : List ℕ) : Type 0 where
    pub optional : Optional d row v
    pub text : w ≡ option_text d row v

  some_found : (o : Option ℕ) → found o ≡ true → IsSome o
  some_found (Some c) e = refl
  some_found None e = absurd (true≢false (sym e))

  option-says : (x : Scalar) → format_of x ≡ enum_form → Holds x v → Row d row → kind d row ≡ enum_form → allowed d row x ≡ true → OptionSays (word d row x)
  option-says null e h o k a = absurd (omega arith)
  option-says (integer i) e h o k a = absurd (omega arith)
  option-says (string u) e h o k a = absurd (omega arith)
  option-says (boolean b) e h o k a = absurd (omega arith)
  option-says (option n) e h o k a =
      let c = counted v v 0 (length v) n (whole v) h in
      record {
        optional = record { own = o; holds = enum_parent d row k; stands = c.stands; known = rw c.value (some_found (child_numbered d row n) a); inside = rw c.value (option_inside d row (accepted_family d o.accepted row o.inside (enum_parent d row k)) n a) };
        text = ap (λ (m : ℕ). quoted (name d (row_of (child_numbered d row m)))) (sym c.value);
      }

  null-says : (x : Scalar) → format_of x ≡ null_form → word d row x ≡ null_text
  null-says null e = refl
  null-says (integer i) e = absurd (omega arith)
  null-says (option n) e = absurd (omega arith)
  null-says (string u) e = absurd (omega arith)
  null-says (boolean b) e = absurd (omega arith)

  pub record BooleanSays (w : List ℕ) : Type 0 where
    pub some : 1 ≤ length v
    pub text : w ≡ boolean_text (byte v 0)

  boolean-says : (x : Scalar) → format_of x ≡ boolean_form → Holds x v → BooleanSays (word d row x)
  boolean-says null e h = absurd (omega arith)
  boolean-says (integer i) e h = absurd (omega arith)
  boolean-says (option n) e h = absurd (omega arith)
  boolean-says (string u) e h = absurd (omega arith)
  boolean-says (boolean false) e h = record { some = omega (arith, ap length h); text = ap (λ (l : List ℕ). boolean_text (byte l 0)) (sym h) }
  boolean-says (boolean true) e h = record { some = omega (arith, ap length h); text = ap (λ (l : List ℕ). boolean_text (byte l 0)) (sym h) }

-- a value that is known to be right, by its format
module _ {d : List ℕ} {row : ℕ} (F : Format) {v : List ℕ} (h : Worth d row (form_number F) v) where
  abbrev text : List ℕ
  text = value_text d row (form_number F) v

  pub group-worth : form_number F < 2 → AcceptedIn d row v × (text ≡ shown d row v)
  group-worth l = (go h, group-text d row (form_number F) v l)
    where
      go : Worth d row (form_number F) v → AcceptedIn d row v
      go (as_scalar p) = absurd (omega (arith, scalar-high p.value, p.format))
      go (as_group l a) = a

  scalar-worth : (f : ℕ) → form_number F ≡ f → 2 ≤ f → PlainIn d row f v × ((p : PlainIn d row f v) → text ≡ word d row p.value)
  scalar-worth f e low = (rw e at (go h), λ p. ap (λ (g : ℕ). value_text d row g v) (e ∙ sym p.format) ∙ plain-text d row p.value v p.holds p.allows)
    where
      go : Worth d row (form_number F) v → PlainIn d row (form_number F) v
      go (as_scalar p) = p
      go (as_group l a) = absurd (omega arith)

  pub null-worth : F ≡ is.Null → text ≡ null_text
  null-worth e = let (p, t) = scalar-worth null_form (ap form_number e) (omega arith) in t p ∙ null-says d row v p.value p.format

  pub integer-worth : F ≡ is.Integer → IntegerSays d row v text
  integer-worth e = let (p, t) = scalar-worth integer_form (ap form_number e) (omega arith) in rw (t p) (integer-says d row v p.value p.format p.holds)

  pub integer-text : (e : F ≡ is.Integer) (i : Integer) → IntegerMet (take (length v) v) i → text ≡ decimal_of i
  integer-text e i m = (integer-worth e).text ∙ ap decimal_of (sym (m.same ∙ ap integer_of (take-length v)))

  pub option-worth : F ≡ is.Enum → OptionSays d row v text
  option-worth e =
      let (p, t) = scalar-worth enum_form (ap form_number e) (omega arith) in
      rw (t p) (option-says d row v p.value p.format p.holds p.own (sym ((fits-own d row enum_form (λ z. omega arith)).0 p.fitting)) p.allows)

  pub string-worth : F ≡ is.String → StringSays d row v text
  string-worth e = let (p, t) = scalar-worth string_form (ap form_number e) (omega arith) in rw (t p) (string-says d row v p.value p.format p.holds)

  pub boolean-worth : F ≡ is.Boolean → BooleanSays d row v text
  boolean-worth e = let (p, t) = scalar-worth boolean_form (ap form_number e) (omega arith) in rw (t p) (boolean-says d row v p.value p.format p.holds)

  pub real-worth : F ≡ is.Real → ⊥
  real-worth e = let (p, t) = scalar-worth real_form (ap form_number e) (omega arith) in (scalar-base p.value).not_real p.format

pub group-low : {F : Format} → (F ≡ is.Set) ⊎ (F ≡ is.Array) → form_number F < 2
group-low (inl e) = let z = ap form_number e in omega arith
group-low (inr e) = let z = ap form_number e in omega arith
