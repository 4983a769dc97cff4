-- Bytes write one tree at most.
-- Assumes nothing.
--   writes_unique    of tuples
--   tree_unique      of a payload
--   means_unique     so a payload means one text, with one count
use mathlib.Core.Path.{◌≡◌, refl, sym, ap, ◌∙◌}
use mathlib.Core.List.{List, [], ◌∷◌, ◌++◌, append_assoc, head-eq_of_cons-eq, tail-eq_of_cons-eq}
use Prim.Native.Nat.{ℕ, ◌/◌, ◌<◌, ◌≤◌}
use native.Mathlib.Omega.{arith}
use lib.ListN.{length, length-append}
use Rattle.numbers.specs.Number.{Number}
use Rattle.numbers.proofs.Numbers.{same-front, number_cut}
use Rattle.payload.specs.Tree.{Scalar, null, integer, option, string, boolean, Tuples, none, scalar, inner, format_of, shape_format, size}
use Rattle.payload.specs.declared.Shape.{Shape}
use Rattle.payload.specs.declared.Shape.TheVariants.{Set, Array}
use Rattle.payload.specs.Header.{header_with}
use Rattle.payload.specs.Writes.{Cut, Tuple, Writes, Payload}
use Rattle.payload.specs.Text.{root_text, root_count, Means}
use Rattle.payload.proofs.Lying.{number-long}
use Rattle.payload.proofs.Scalars.{holds_unique}

record Same (n m f g : ℕ) (v w c d : List ℕ) : Type 0 where
  numbers : n ≡ m
  forms : f ≡ g
  values : v ≡ w
  afters : c ≡ d

-- one field, with what follows the whole
opened : {a b : List ℕ} (x y x' y' c d : List ℕ) → a ≡ x ++ y → b ≡ x' ++ y' → a ++ c ≡ b ++ d → x ++ (y ++ c) ≡ x' ++ (y' ++ d)
opened x y x' y' c d f g e = sym (append_assoc x y c) ∙ ap (λ (l : List ℕ). l ++ c) (sym f) ∙ e ∙ ap (λ (l : List ℕ). l ++ d) g ∙ append_assoc x' y' d

tuple_same : {n m f g : ℕ} {P Q : List ℕ → Type 0} {a b : List ℕ} (c d : List ℕ) (t : Tuple n f P a) (u : Tuple m g Q b) → a ++ c ≡ b ++ d → Same n m f g t.rest.rest.value u.rest.rest.value c d
tuple_same {n} {m} {f} {g} {P} {Q} {a} {b} c d t u e =
    let t' = t.rest in
    let u' = u.rest in
    let z = t'.rest in
    let w = u'.rest in
    let r₁ = number_cut (t.back ++ c) (u.back ++ d) t.here u.here (opened t.front t.back u.front u.back c d t.whole u.whole e) in
    let e₂ : t'.here.byte ∷ (t'.back ++ c) ≡ u'.here.byte ∷ (u'.back ++ d)
    = ap (λ (l : List ℕ). l ++ (t'.back ++ c)) (sym t'.here.whole)
    ∙ opened t'.front t'.back u'.front u'.back c d t'.whole u'.whole r₁.afters
    ∙ ap (λ (l : List ℕ). l ++ (u'.back ++ d)) u'.here.whole in
    let r₃ = number_cut (z.value ++ c) (w.value ++ d) z.long w.long (opened z.length_bytes z.value w.length_bytes w.value c d z.whole w.whole (tail-eq_of_cons-eq e₂)) in
    let r₄ = same-front z.value w.value c d r₃.numbers r₃.afters in
    record {
      numbers = omega (arith, r₁.numbers);
      forms = sym t'.here.nibble ∙ ap (λ (k : ℕ). k / 16) (head-eq_of_cons-eq e₂) ∙ u'.here.nibble;
      values = r₄.0;
      afters = r₄.1;
    }

module _ (n : ℕ) {f : ℕ} {P Q : List ℕ → Type 0} {b : List ℕ} (w : Cut (Tuple n f P) Q b) where
  filled : {A : Type 0} → b ≡ [] → A
  filled e = absurd (omega (arith, ap length e, ap length w.whole, length-append w.front w.back, ap length w.here.whole, length-append w.here.front w.here.back, number-long w.here.here))

  agree : {m g : ℕ} {P' Q' : List ℕ → Type 0} (v : Cut (Tuple m g P') Q' b) → Same n m f g w.here.rest.rest.value v.here.rest.rest.value w.back v.back
  agree v = tuple_same w.back v.back w.here v.here (sym w.whole ∙ v.whole)

pub scalar-high : (x : Scalar) → 2 ≤ format_of x
scalar-high null = omega arith
scalar-high (integer i) = omega arith
scalar-high (option n) = omega arith
scalar-high (string t) = omega arith
scalar-high (boolean b) = omega arith

pub shape-low : (g : Shape) → shape_format g < 2
shape-low Set = omega arith
shape-low Array = omega arith

pub shape_unique : (g h : Shape) → shape_format g ≡ shape_format h → g ≡ h
shape_unique Set Set e = refl
shape_unique Set Array e = absurd (omega arith)
shape_unique Array Set e = absurd (omega arith)
shape_unique Array Array e = refl

-- a run with its count, where its members are known to be alike
counted_unique : (j k : Tuples) (v : List ℕ) → ((b : List ℕ) → Writes j b → Writes k b → j ≡ k) → Cut (Number (size j)) (Writes j) v → Cut (Number (size k)) (Writes k) v → j ≡ k
counted_unique j k v same c d =
    let z = number_cut c.back d.back c.here d.here (sym c.whole ∙ d.whole) in
    same d.back (rw z.afters at c.rest) d.rest

pub writes_unique : (t u : Tuples) (b : List ℕ) → Writes t b → Writes u b → t ≡ u
unfolding Writes
writes_unique none none b w v = refl
writes_unique none (scalar m y r) b w v = filled m v w
writes_unique none (inner m h k r) b w v = filled m v w
writes_unique (scalar n x q) none b w v = filled n w v
writes_unique (scalar n x q) (scalar m y r) b w v =
    let a = agree n w v in
    let z = holds_unique x y v.here.rest.rest.value a.forms (rw a.values at w.here.rest.rest.here) v.here.rest.rest.here in
    let t = writes_unique q r v.back (rw a.afters at w.rest) v.rest in
    rw (a.numbers, z, t)
writes_unique (scalar n x q) (inner m h k r) b w v = absurd (omega (arith, (agree n w v).forms, scalar-high x, shape-low h))
writes_unique (inner n g j q) none b w v = filled n w v
writes_unique (inner n g j q) (scalar m y r) b w v = absurd (omega (arith, (agree n w v).forms, scalar-high y, shape-low g))
writes_unique (inner n g j q) (inner m h k r) b w v =
    let a = agree n w v in
    let z = shape_unique g h a.forms in
    let s = counted_unique j k v.here.rest.rest.value (writes_unique j k) (rw a.values at w.here.rest.rest.here) v.here.rest.rest.here in
    let t = writes_unique q r v.back (rw a.afters at w.rest) v.rest in
    rw (a.numbers, z, s, t)

pub tree_unique : (t u : Tuples) (b : List ℕ) → Payload t b → Payload u b → t ≡ u
tree_unique t u b x y =
    let r = same-front (header_with x.flag x.flag') (header_with y.flag y.flag') x.body y.body refl (sym x.whole ∙ y.whole) in
    let a = tuple_same {n = 0} {m = 0} [] [] x.root y.root (ap (λ (l : List ℕ). l ++ []) r.1) in
    counted_unique t u y.root.rest.rest.value (writes_unique t u) (rw a.values at x.root.rest.rest.here) y.root.rest.rest.here

-- a payload has one text and one count
pub means_unique : (d s t u : List ℕ) (n m : ℕ) → Means d s t n → Means d s u m → (t ≡ u) × (n ≡ m)
means_unique d s t u n m x y =
    let e = tree_unique x.tree y.tree s x.written y.written in
    (sym x.text ∙ ap (root_text d) e ∙ y.text, sym x.tuples ∙ ap (root_count d) e ∙ y.tuples)
