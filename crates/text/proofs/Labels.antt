-- What stands before a member tells its number: siblings' names differ, and no name holds a quote.
-- Assumes nothing.
--   Unquoted t                  t holds no quote; name_unquoted, spelt_unquoted: a row's name, a string of a payload
--   quoted_cut                  what begins with a quoted text begins with one only
--   label-set, label_array      the label of a member
--   labels                      a label tells the number, whatever follows it
--   label-closes                no label begins as its group ends
use mathlib.Core.Path.{◌≡◌, refl, sym, ap, ◌∙◌}
use mathlib.Core.List.{List, [], ◌∷◌, ◌++◌, append_assoc, head-eq_of_cons-eq, tail-eq_of_cons-eq}
use mathlib.Core.Bool.{true, ◌&&◌, not}
use Prim.Native.Nat.{ℕ, suc, ◌+◌, ◌<◌}
use native.Mathlib.Omega.{arith}
use lib.ListN.{length, get_or}
use lib.Dec.{leb, eqb}
use borrow.Author.Tests.{eq-eqb, ne_eqb, eqb-false, not-true}
use Rattle.paper.proofs.Tests.{and_left, and_right}
use Rattle.dictionary.specs.Formats.{set_form}
use Rattle.dictionary.specs.Rows.{entries, kind, first_child, child_count, name}
use Rattle.dictionary.specs.Accepts.{name_byte, accepts}
use Rattle.dictionary.specs.Given.{parent, Family, Members}
use Rattle.dictionary.proofs.Laws.{accepted-name, accepted_family, accepted-members, sibling}
use Rattle.payload.specs.Tree.{shape_format}
use Rattle.payload.specs.declared.Shape.{Shape}
use Rattle.payload.specs.declared.Shape.TheVariants.{Set, Array}
use Rattle.payload.specs.Strings.{string_byte, well_spelt}
use Rattle.payload.specs.Fits.{known, child}
use Rattle.payload.specs.Text.{quote, colon, quoted, label, closes}
use Rattle.payload.proofs.Sitting.{known-set, known_array, child-set}

abbrev pub Unquoted : List ℕ → Type 0
Unquoted [] = Unit {0}
Unquoted (c ∷ t) = (c ≡ quote → ⊥) × Unquoted t

printed : (c : ℕ) → name_byte c ≡ true → c ≡ quote → ⊥
unfolding name_byte
printed c e =
    let a = and_left (leb 0x20 c && leb c 0x7E && not (eqb c 0x22)) (not (eqb c 0x5C)) e in
    eqb-false c 0x22 (not-true _ (and_right (leb 0x20 c && leb c 0x7E) (not (eqb c 0x22)) a))

all_unquoted : (t : List ℕ) → ((i : ℕ) → i < length t → name_byte (get_or t i 0) ≡ true) → Unquoted t
all_unquoted [] h = tt
all_unquoted (c ∷ t) h = (printed c (h 0 (omega arith)), all_unquoted t (λ i l. h (suc i) (omega arith)))

pub spelt_unquoted : (t : List ℕ) → well_spelt t ≡ true → Unquoted t
unfolding well_spelt string_byte
spelt_unquoted [] e = tt
spelt_unquoted (c ∷ t) e = (printed c (and_left (name_byte c) (well_spelt t) e), spelt_unquoted t (and_right (name_byte c) (well_spelt t) e))

quote_cut : (a b x y : List ℕ) → Unquoted a → Unquoted b → a ++ (quote ∷ x) ≡ b ++ (quote ∷ y) → (a ≡ b) × (x ≡ y)
quote_cut [] [] x y f g e = (refl, tail-eq_of_cons-eq e)
quote_cut [] (c ∷ b) x y f g e = absurd (g.0 (sym (head-eq_of_cons-eq e)))
quote_cut (c ∷ a) [] x y f g e = absurd (f.0 (head-eq_of_cons-eq e))
quote_cut (c ∷ a) (k ∷ b) x y f g e =
    let r = quote_cut a b x y f.1 g.1 (tail-eq_of_cons-eq e) in
    let z = head-eq_of_cons-eq e in
    (rw (z, r.0), r.1)

pub quoted_cut : (a b x y : List ℕ) → Unquoted a → Unquoted b → quoted a ++ x ≡ quoted b ++ y → (a ≡ b) × (x ≡ y)
quoted_cut a b x y f g e = quote_cut a b x y f g (sym (append_assoc a (quote ∷ []) x) ∙ tail-eq_of_cons-eq e ∙ append_assoc b (quote ∷ []) y)

module _ (d : List ℕ) (row n : ℕ) where
  pub label-set : kind d row ≡ set_form → label d row n ≡ quoted (name d (child d row n)) ++ (colon ∷ [])
  unfolding label
  label-set k = rw (eq-eqb (kind d row) 0 k)

  pub label_array : (kind d row ≡ set_form → ⊥) → label d row n ≡ []
  unfolding label
  label_array k = rw (ne_eqb (kind d row) 0 k)

  pub label-closes : (g : Shape) (x y : List ℕ) → kind d row ≡ shape_format g → label d row n ++ x ≡ closes g ∷ y → x ≡ closes Array ∷ y
  label-closes Set x y k e = absurd (let z = head-eq_of_cons-eq (ap (λ (l : List ℕ). l ++ x) (sym (label-set k)) ∙ e) in omega (arith, z))
  label-closes Array x y k e = ap (λ (l : List ℕ). l ++ x) (sym (label_array (λ z. omega (arith, sym k ∙ z)))) ∙ e

pub set-parent : (d : List ℕ) (row : ℕ) → kind d row ≡ set_form → parent d row ≡ true
unfolding parent
set-parent d row k = rw k

module _ (d : List ℕ) (ok : accepts d ≡ true) where
  pub name_unquoted : (r : ℕ) → r < entries d → Unquoted (name d r)
  name_unquoted r h = all_unquoted (name d r) (accepted-name d ok r h).printable

  -- a quoted name of a child tells which child
  pub named_cut : (row p q : ℕ) (x y : List ℕ) → Family d row → Members d row → p < child_count d row → q < child_count d row → quoted (name d (first_child d row + p)) ++ x ≡ quoted (name d (first_child d row + q)) ++ y → (p ≡ q) × (x ≡ y)
  named_cut row p q x y w m h g e =
      let r =
      quoted_cut (name d (first_child d row + p)) (name d (first_child d row + q)) x y (name_unquoted (first_child d row + p) (omega (arith, h, w.within)))
      (name_unquoted (first_child d row + q) (omega (arith, g, w.within))) e in
      (sibling d row p q m h g r.0, r.1)

  pub labels : (g : Shape) (row i n m : ℕ) (x y : List ℕ) → row < entries d → kind d row ≡ shape_format g → known d row i n ≡ true → known d row i m ≡ true → label d row n ++ x ≡ label d row m ++ y → (n ≡ m) × (x ≡ y)
  labels Set row i n m x y h k a b e =
      let w = accepted_family d ok row h (set-parent d row k) in
      let s = accepted-members d ok row h (λ z. omega (arith, sym k ∙ z)) (set-parent d row k) in
      let p = (known-set d row w n k i).0 a in
      let q = (known-set d row w m k i).0 b in
      let r = named_cut row n m (colon ∷ x) (colon ∷ y) w s p q (sym (at n x w p) ∙ e ∙ at m y w q) in
      (r.0, tail-eq_of_cons-eq r.1)
    where
      at : (n : ℕ) (x : List ℕ) → Family d row → n < child_count d row → label d row n ++ x ≡ quoted (name d (first_child d row + n)) ++ (colon ∷ x)
      at n x w p =
          ap (λ (l : List ℕ). l ++ x) (label-set d row n k) ∙ append_assoc (quoted (name d (child d row n))) (colon ∷ []) x
          ∙ ap (λ (c : ℕ). quoted (name d c) ++ (colon ∷ x)) (child-set d row w n k p)
  labels Array row i n m x y h k a b e =
      let z : kind d row ≡ set_form → ⊥ = λ z. omega (arith, sym k ∙ z) in (
        (known_array d row n z i).0 a ∙ sym ((known_array d row m z i).0 b),
        ap (λ (l : List ℕ). l ++ x) (sym (label_array d row n z)) ∙ e ∙ ap (λ (l : List ℕ). l ++ y) (label_array d row m z),
      )
