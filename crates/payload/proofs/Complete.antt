-- Bytes that write a run that fits are accepted, and the answer is that run.
-- Assumes nothing.
--   scalar-base, shape-base    the formats of scalars and shapes are of the base
--   tuple_complete     a tuple is judged by its value
--   run_complete       a run of tuples
--   value_complete     the value of a set or array
use mathlib.Core.Path.{◌≡◌, refl, ap, ◌∙◌}
use mathlib.Core.List.{List, [], ◌∷◌}
use mathlib.Core.Bool.{true}
use Prim.Native.Nat.{ℕ, zero, suc, ◌+◌, ◌-◌, ◌≤◌}
use native.Mathlib.Omega.{arith}
use lib.ListN.{length}
use borrow.Author.Tests.{le-ltb, eq-eqb}
use Rattle.paper.specs.Checks.{Judged, good}
use Rattle.numbers.specs.Number.{Number}
use Rattle.payload.specs.Tree.{Scalar, null, integer, option, string, boolean, Tuples, none, scalar, inner, format_of, shape_format, size, count, depth}
use Rattle.payload.specs.declared.Shape.{Shape}
use Rattle.payload.specs.declared.Shape.TheVariants.{Set, Array}
use Rattle.payload.specs.Writes.{Cut, Tuple, Holds, Writes}
use Rattle.payload.specs.Fits.{known, child, fresh, fits, allowed, Sits, Fits}
use Rattle.payload.specs.Reading.{Single, plain, group, number_for, before, body_at, tuple_at, run, inside_of}
use Rattle.payload.specs.Lying.{Lies}
use Rattle.payload.proofs.Lying.{lies-order, cut_front, cut_rest, lies-is, number-goes}
use Rattle.payload.proofs.Scalars.{scalar_complete}
use Rattle.payload.proofs.Unique.{scalar-high, shape-low}
use Rattle.payload.proofs.Asked.{Base, tuple_asked, asked_complete}

pub scalar-base : (x : Scalar) → Base (format_of x)
scalar-base null = record { high = omega arith; not_real = λ e. omega arith }
scalar-base (integer i) = record { high = omega arith; not_real = λ e. omega arith }
scalar-base (option n) = record { high = omega arith; not_real = λ e. omega arith }
scalar-base (string t) = record { high = omega arith; not_real = λ e. omega arith }
scalar-base (boolean b) = record { high = omega arith; not_real = λ e. omega arith }

pub shape-base : (g : Shape) → Base (shape_format g)
shape-base g = let h = shape-low g in record { high = omega arith; not_real = λ e. omega arith }

module _ (d s : List ℕ) (inside : ℕ → ℕ → ℕ → ℕ → ℕ → Judged Tuples) where
  -- the value V of a tuple in its place, and the judgement that all hangs on
  record Valued (row i : ℕ) (seen : List ℕ) (at e l n f q : ℕ) (v : List ℕ) : Type 0 where
    from : ℕ
    lies : Lies s v from q
    same : tuple_at d s inside row i seen at e l ≡ body_at d s inside n (child d row n) f at from q (l - 1)

  tuple_complete : (P : List ℕ → Type 0) (w : List ℕ) (row i : ℕ) (seen : List ℕ) (at e l n f q : ℕ) → Lies s w at q → (t : Tuple n f P w) → Sits d row i seen n f → Base f → 1 ≤ l → q ≤ e → Valued row i seen at e l n f q t.rest.rest.value
  tuple_complete P w row i seen at e l n f q y t sits b hl h =
      let o = asked_complete s (known d row i) (fresh d row seen) (λ n f. fits d (child d row n) f) (λ n f q z. body_at d s inside n (child d row n) f at q z (l - 1)) at e l P w n f q y t (record { is_known = sits.is_known; is_new = sits.is_fresh; does_suit = sits.does_fit }) b hl h in
      record { from = o.from; lies = o.lies; same = tuple_asked d s inside row i seen at e l ∙ o.same }

  body-scalar : (n r at p q l : ℕ) (x : Scalar) (v : List ℕ) → Lies s v p q → Holds x v → allowed d r x ≡ true → body_at d s inside n r (format_of x) at p q l ≡ good q l (plain n x)
  body-scalar n r at p q l x v y h a = rw (le-ltb (format_of x) 2 (scalar-high x), lies-is s v p q y, scalar_complete d r x v h a)

  body-inner : (n r at p q l m : ℕ) (g : Shape) (kids : Tuples) → inside r at p q l ≡ good q m kids → body_at d s inside n r (shape_format g) at p q l ≡ good q m (group n g kids)
  body-inner n r at p q l m Set kids h = rw h
  body-inner n r at p q l m Array kids h = rw h

pub run_more : (d s : List ℕ) (tuple : ℕ → ℕ → List ℕ → ℕ → ℕ → ℕ → Judged Single) (row k i : ℕ) (seen : List ℕ) (p e l q m z j : ℕ) (x : Single) (rest : Tuples) → tuple row i seen p e l ≡ good q m x → run d s tuple row k (suc i) (number_for x ∷ seen) q e m ≡ good z j rest → run d s tuple row (suc k) i seen p e l ≡ good z j (before x rest)
unfolding run
run_more d s tuple row k i seen p e l q m z j x rest g h = rw (g, h)

-- the value of a set or array, where the run of its members is accepted
pub value_complete : (d s v : List ℕ) (room row at p q l : ℕ) (t : Tuples) → Lies s v p q → (c : Cut (Number (size t)) (Writes t) v) → ((m : ℕ) → Lies s c.back m q → run d s (tuple_at d s (inside_of d s room)) row (size t) 0 [] m q l ≡ good q (l - count t) t) → inside_of d s (suc room) row at p q l ≡ good q (l - count t) t
unfolding inside_of
value_complete d s v room row at p q l t y c h =
    let m = p + length c.front in
    let y₁ = cut_front c.front c.back v c.whole y in
    let y₂ = cut_rest c.front c.back v c.whole y in
    number-goes s c.front p m q (size t) y₁ c.here (lies-order y₂) at _ ∙ rw (h m y₂, eq-eqb q q refl)

pub run_complete : (d : List ℕ) (t : Tuples) (room : ℕ) (s b : List ℕ) (row i : ℕ) (seen : List ℕ) (p q e l : ℕ) → Writes t b → Fits d t row i seen → Lies s b p q → q ≤ e → depth t ≤ room → count t ≤ l → run d s (tuple_at d s (inside_of d s room)) row (size t) i seen p e l ≡ good q (l - count t) t
unfolding Writes Fits depth count size run
run_complete d none room s b row i seen p q e l w fit y h hd hc =
    let z : p ≡ q = omega (arith, y.ends, ap length w) in
    let x : l ≡ l - 0 = omega arith in
    ap (λ (k : ℕ). good k l none) z ∙ ap (λ (k : ℕ). good q k none) x
run_complete d (scalar n x r) room s b row i seen p q e l w fit y h hd hc =
    let m = p + length w.front in
    let y₁ = cut_front w.front w.back b w.whole y in
    let y₂ = cut_rest w.front w.back b w.whole y in
    let v = w.here.rest.rest in
    let o = tuple_complete d s (inside_of d s room) (Holds x) w.front row i seen p e l n (format_of x) m y₁ w.here fit.0 (scalar-base x) (omega arith) (omega (arith, lies-order y₂)) in
    let c : l - 1 - count r ≡ l - suc (count r) = omega arith in
    run_more d s (tuple_at d s (inside_of d s room)) row (size r) i seen p e l m (l - 1) q (l - suc (count r)) (plain n x) r
    (o.same ∙ body-scalar d s (inside_of d s room) n (child d row n) p o.from m (l - 1) x v.value o.lies v.here fit.1)
    (run_complete d r room s w.back row (suc i) (n ∷ seen) m q e (l - 1) w.rest fit.2 y₂ h hd (omega arith) ∙ ap (λ (k : ℕ). good q k r) c)
run_complete d (inner n g kids r) zero s b row i seen p q e l w fit y h hd hc = absurd (omega arith)
run_complete d (inner n g kids r) (suc room) s b row i seen p q e l w fit y h hd hc =
    let m = p + length w.front in
    let y₁ = cut_front w.front w.back b w.whole y in
    let y₂ = cut_rest w.front w.back b w.whole y in
    let v = w.here.rest.rest in
    let o = tuple_complete d s (inside_of d s (suc room)) (Cut (Number (size kids)) (Writes kids)) w.front row i seen p e l n (shape_format g) m y₁ w.here fit.0 (shape-base g) (omega arith) (omega (arith, lies-order y₂)) in
    let c : l - 1 - count kids - count r ≡ l - suc (count kids + count r) = omega arith in
    run_more d s (tuple_at d s (inside_of d s (suc room))) row (size r) i seen p e l m (l - 1 - count kids) q (l - suc (count kids + count r)) (group n g kids) r
    (o.same ∙ body-inner d s (inside_of d s (suc room)) n (child d row n) p o.from m (l - 1) (l - 1 - count kids) g kids
    (value_complete d s v.value room (child d row n) p o.from m (l - 1) kids o.lies v.here
    λ j z. run_complete d kids room s v.here.back (child d row n) 0 [] j m m (l - 1) v.here.rest fit.1 z (omega arith) (omega arith) (omega arith)))
    (run_complete d r (suc room) s w.back row (suc i) (n ∷ seen) m q e (l - 1 - count kids) w.rest fit.2 y₂ h (omega arith) (omega arith) ∙ ap (λ (k : ℕ). good q k r) c)
