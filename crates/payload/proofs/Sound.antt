-- What is accepted is written by the run that is answered, and the run fits.
-- Assumes nothing.
--   one-sound       a tuple
--   run_sound       a run of tuples
--   inside-sound    the value of a set or array
use mathlib.Core.Path.{◌≡◌, refl, sym, ap, ◌∙◌}
use mathlib.Core.List.{List, [], ◌∷◌, ◌++◌}
use mathlib.Core.Bool.{Bool, true, false}
use Prim.Native.Nat.{ℕ, zero, suc, ◌+◌, ◌-◌, ◌<◌, ◌≤◌, max}
use native.Mathlib.Omega.{arith}
use lib.ListN.{length}
use lib.Seq.{slice}
use lib.Dec.{ltb, eqb}
use borrow.Author.Tests.{ltb-true, ltb-false, eqb-true}
use Rattle.paper.specs.Checks.{choose, Judged, good, after}
use Rattle.paper.proofs.Checks.{never, same_place, same_left, same_thing, needed, followed}
use Rattle.numbers.specs.Bytes.{Bytes}
use Rattle.numbers.specs.Number.{Number, number_at}
use Rattle.numbers.proofs.Places.{bytes-slice}
use Rattle.payload.specs.Tree.{Scalar, Tuples, none, format_of, shape_format, size, count, depth}
use Rattle.payload.specs.declared.Shape.{Shape}
use Rattle.payload.specs.Writes.{Cut, Tuple, Holds, Writes}
use Rattle.payload.specs.Fits.{known, child, fresh, fits, allowed, Sits, Fits}
use Rattle.payload.specs.Values.{scalar_value}
use Rattle.payload.specs.Reading.{Single, plain, group, number_for, before, value, shape_of, body_at, tuple_at, run, inside_of}
use Rattle.payload.specs.Lying.{Lies, Read}
use Rattle.payload.specs.Reached.{Many}
use Rattle.payload.proofs.Lying.{join, recast, part, number_read, renumber}
use Rattle.payload.proofs.Taken.{numbered, valued}
use Rattle.payload.proofs.Scalars.{Stated, scalar-sound}
use Rattle.payload.proofs.Asked.{Shell, tuple_asked, asked-sound}

-- what one tuple adds to a run
abbrev pub count_one : Single → ℕ
count_one (plain n x) = 1
count_one (group n g kids) = suc (count kids)

abbrev pub depth_one : Single → ℕ
depth_one (plain n x) = 0
depth_one (group n g kids) = suc (depth kids)

abbrev pub WritesOne : Single → List ℕ → Type 0
WritesOne (plain n x) b = Tuple n (format_of x) (Holds x) b
WritesOne (group n g kids) b = Tuple n (shape_format g) (Cut (Number (size kids)) (Writes kids)) b

abbrev pub FitsOne : List ℕ → Single → ℕ → ℕ → List ℕ → Type 0
FitsOne d (plain n x) row i seen = Sits d row i seen n (format_of x) × (allowed d (child d row n) x ≡ true)
FitsOne d (group n g kids) row i seen = Sits d row i seen n (shape_format g) × Fits d kids (child d row n) 0 []

count-before : (x : Single) (r : Tuples) → count (before x r) ≡ count_one x + count r
unfolding count
count-before (plain n x) r = omega arith
count-before (group n g kids) r = omega arith

pub depth-before : (x : Single) (r : Tuples) → depth (before x r) ≡ max (depth_one x) (depth r)
unfolding depth
depth-before (plain n x) r = omega arith
depth-before (group n g kids) r = refl

size-before : (x : Single) (r : Tuples) → size (before x r) ≡ suc (size r)
unfolding size
size-before (plain n x) r = refl
size-before (group n g kids) r = refl

writes-before : (x : Single) (r : Tuples) (a c : List ℕ) → WritesOne x a → Writes r c → Writes (before x r) (a ++ c)
unfolding Writes
writes-before (plain n x) r a c w v = record { front = a; back = c; whole = refl; here = w; rest = v }
writes-before (group n g kids) r a c w v = record { front = a; back = c; whole = refl; here = w; rest = v }

pub fits-before : (d : List ℕ) (x : Single) (r : Tuples) (row i : ℕ) (seen : List ℕ) → FitsOne d x row i seen → Fits d r row (suc i) (number_for x ∷ seen) → Fits d (before x r) row i seen
unfolding Fits
fits-before d (plain n x) r row i seen h g = (h.0, h.1, g)
fits-before d (group n k kids) r row i seen h g = (h.0, h.1, g)

pub record One (d : List ℕ) (room : ℕ) (s : List ℕ) (row i : ℕ) (seen : List ℕ) (at e l q m : ℕ) (x : Single) : Type 0 where
  pub bytes : List ℕ
  pub lies : Lies s bytes at q
  pub written : WritesOne x bytes
  pub fitting : FitsOne d x row i seen
  pub shallow : depth_one x ≤ room
  pub spent : count_one x + m ≡ l
  pub within : q ≤ e

-- the value of a set or array
pub record Inside (d : List ℕ) (room : ℕ) (s : List ℕ) (row p q l m : ℕ) (t : Tuples) : Type 0 where
  pub bytes : List ℕ
  pub lies : Lies s bytes p q
  pub written : Cut (Number (size t)) (Writes t) bytes
  pub fitting : Fits d t row 0 []
  pub shallow : suc (depth t) ≤ room
  pub spent : count t + m ≡ l

module _ (d : List ℕ) (room : ℕ) (s : List ℕ) (row : ℕ) where
  pub many-none : (i : ℕ) (seen : List ℕ) (p e l : ℕ) → p ≤ e → e ≤ length s → Many d room s row 0 i seen p e l p l none
  unfolding Writes Fits size depth count
  many-none i seen p e l h g =
      record {
        bytes = [];
        lies = record { start = omega arith; stands = refl; ends = omega arith };
        written = refl;
        fitting = tt;
        sized = refl;
        shallow = omega arith;
        spent = omega arith;
        within = h;
      }

  pub many_cons : (k i : ℕ) (seen : List ℕ) (p e l q m r n : ℕ) (x : Single) (t : Tuples) → One d room s row i seen p e l r n x → Many d room s row k (suc i) (number_for x ∷ seen) r e n q m t → Many d room s row (suc k) i seen p e l q m (before x t)
  many_cons k i seen p e l q m r n x t a b =
      record {
        bytes = a.bytes ++ b.bytes;
        lies = join a.bytes b.bytes a.lies b.lies;
        written = writes-before x t a.bytes b.bytes a.written b.written;
        fitting = fits-before d x t row i seen a.fitting b.fitting;
        sized = size-before x t ∙ ap suc b.sized;
        shallow = omega (arith, depth-before x t, a.shallow, b.shallow);
        spent = omega (arith, count-before x t, a.spent, b.spent);
        within = b.within;
      }

  many_recast : {k i : ℕ} {seen : List ℕ} {p e l q m q' m' : ℕ} {t t' : Tuples} → good q m t ≡ good q' m' t' → Many d room s row k i seen p e l q m t → Many d room s row k i seen p e l q' m' t'
  many_recast e y = let a = same_place e in let b = same_left e in let c = same_thing e in rw (a, b, c) at y

  module _ (e : ℕ) (he : e ≤ length s) (tuple : ℕ → ℕ → List ℕ → ℕ → ℕ → ℕ → Judged Single) (H : (i : ℕ) (seen : List ℕ) (p l q m : ℕ) (x : Single) → tuple row i seen p e l ≡ good q m x → One d room s row i seen p e l q m x) where
    pub run_sound : (k i : ℕ) (seen : List ℕ) (p l q m : ℕ) (t : Tuples) → p ≤ e → run d s tuple row k i seen p e l ≡ good q m t → Many d room s row k i seen p e l q m t
    unfolding run
    run_sound zero i seen p l q m t h x = many_recast x (many-none i seen p e l h he)
    run_sound (suc k) i seen p l q m t h x =
        let a = followed q m t (tuple row i seen p e l) _ x in
        let o = H i seen p l a.0 a.1 a.2 a.3 in
        let b = followed q m t (run d s tuple row k (suc i) (number_for a.2 ∷ seen) a.0 e a.1) _ a.4 in
        let r = run_sound k (suc i) (number_for a.2 ∷ seen) a.0 a.1 b.0 b.1 b.2 o.within b.3 in
        many_recast b.4 (many_cons k i seen p e l b.0 b.1 a.0 a.1 a.2 b.2 o r)

shape-of : (f : ℕ) → f < 2 → shape_format (shape_of f) ≡ f
shape-of zero h = refl
shape-of (suc zero) h = refl
shape-of (suc (suc f)) h = absurd (omega arith)

module _ (d s : List ℕ) (hb : Bytes s) (room : ℕ) (H : (row at p q l r m : ℕ) (t : Tuples) → q ≤ length s → inside_of d s room row at p q l ≡ good r m t → (r ≡ q) × Inside d room s row p q l m t) where
  module _ (row i : ℕ) (seen : List ℕ) (at e l : ℕ) (he : e ≤ length s) where
    one_recast : {q m q' m' : ℕ} {x x' : Single} → good q m x ≡ good q' m' x' → One d room s row i seen at e l q m x → One d room s row i seen at e l q' m' x'
    one_recast e y = let a = same_place e in let b = same_left e in let c = same_thing e in rw (a, b, c) at y

    module _ (n f from to : ℕ) (sits : Sits d row i seen n f) (spent : 1 ≤ l) (shell : Shell s at e n f from to) where
      group-one : (q m : ℕ) (g : Shape) (kids : Tuples) → shape_format g ≡ f → q ≡ to → Inside d room s (child d row n) from to (l - 1) m kids → One d room s row i seen at e l q m (group n g kids)
      group-one q m g kids c z u =
          let w = shell.whole (Cut (Number (size kids)) (Writes kids)) u.bytes u.lies u.written in
          record {
            bytes = w.0;
            lies = recast (sym z) w.1;
            written = rw c w.2;
            fitting = (rw c sits, u.fitting);
            shallow = u.shallow;
            spent = omega (arith, u.spent);
            within = omega (arith, shell.within);
          }

      plain-one : (x : Scalar) → Stated d (child d row n) f (slice from to s) x → One d room s row i seen at e l to (l - 1) (plain n x)
      plain-one x y =
          let w = shell.whole (Holds x) (slice from to s) (part s from to shell.order (omega (arith, shell.within))) y.holds in
          record {
            bytes = w.0;
            lies = w.1;
            written = rw y.format w.2;
            fitting = (rw y.format sits, y.allows);
            shallow = omega arith;
            spent = omega arith;
            within = shell.within;
          }

      body-sound : (q m : ℕ) (x : Single) → body_at d s (inside_of d s room) n (child d row n) f at from to (l - 1) ≡ good q m x → One d room s row i seen at e l q m x
      body-sound q m x y = go (ltb f 2) refl y
        where
          go : (t : Bool) → ltb f 2 ≡ t → choose t (λ _. after (inside_of d s room (child d row n) at from to (l - 1)) λ z l kids. good z l (group n (shape_of f) kids)) (λ _. value (scalar_value d (child d row n) f (slice from to s)) at λ x. good to (l - 1) (plain n x)) ≡ good q m x → One d room s row i seen at e l q m x
          go true g y =
              let a = followed q m x (inside_of d s room (child d row n) at from to (l - 1)) _ y in
              let b = H (child d row n) at from to (l - 1) a.0 a.1 a.2 (omega (arith, shell.within)) a.3 in
              one_recast a.4 (group-one a.0 a.1 (shape_of f) a.2 (shape-of f (ltb-true f 2 g)) b.0 b.1)
          go false g y =
              let a = valued q m x (scalar_value d (child d row n) f (slice from to s)) _ _ y in
              one_recast a.2
              (plain-one a.0 (scalar-sound d (child d row n) (slice from to s) a.0 f (bytes-slice s from to hb) (ltb-false f 2 g) shell.base.high shell.base.not_real a.1))

    pub one-sound : (q m : ℕ) (x : Single) → tuple_at d s (inside_of d s room) row i seen at e l ≡ good q m x → One d room s row i seen at e l q m x
    one-sound q m x y =
        let o = asked-sound s (known d row i) (fresh d row seen) (λ n f. fits d (child d row n) f) (λ n f q z. body_at d s (inside_of d s room) n (child d row n) f at q z (l - 1)) at e l q m x hb he (sym (tuple_asked d s (inside_of d s room) row i seen at e l) ∙ y) in
        body-sound o.number o.form o.from o.to (record { is_known = o.asks.is_known; is_fresh = o.asks.is_new; does_fit = o.asks.does_suit }) o.some o.shell q m x o.judged

  -- with one more level
  contents-sound : (row at p q l r m : ℕ) (t : Tuples) → q ≤ length s → inside_of d s (suc room) row at p q l ≡ good r m t → (r ≡ q) × Inside d (suc room) s row p q l m t
  unfolding inside_of
  contents-sound row at p q l r m t hq x =
      let x₁ = numbered r m t (number_at s p q) _ _ _ x in
      let first = p + 1 + x₁.1 in
      let x₂ = followed r m t (run d s (tuple_at d s (inside_of d s room)) row x₁.0 0 [] first q l) _ x₁.3 in
      let x₃ = needed r m t (eqb x₂.0 q) _ _ _ x₂.4 in
      let u = number_read s p q x₁.0 x₁.1 hb hq x₁.2 in
      let y = run_sound d room s row q hq (tuple_at d s (inside_of d s room)) (λ i seen p l q' m x. one-sound row i seen p q l hq q' m x) x₁.0 0 [] first l x₂.0 x₂.1 x₂.2 u.within x₂.3 in
      (sym (same_place x₃.1), recast_inside x₃.1 (build x₁.0 first x₂.0 x₂.1 x₂.2 u y (eqb-true _ _ x₃.0)))
    where
      recast_inside : {a b n : ℕ} {k : Tuples} → good a n k ≡ good b m t → Inside d (suc room) s row p q l n k → Inside d (suc room) s row p q l m t
      recast_inside e y = let b = same_left e in let c = same_thing e in rw (b, c) at y

      build : (n p' z j : ℕ) (k : Tuples) (u : Read s p q n p') (y : Many d room s row n 0 [] p' q l z j k) → z ≡ q → Inside d (suc room) s row p q l j k
      build n p' z j k u y e =
          record {
            bytes = u.bytes ++ y.bytes;
            lies = recast e (join u.bytes y.bytes u.lies y.lies);
            written = record { front = u.bytes; back = y.bytes; whole = refl; here = renumber (sym y.sized) u.writes; rest = y.written };
            fitting = y.fitting;
            shallow = omega (arith, y.shallow);
            spent = y.spent;
          }

pub inside-sound : (d s : List ℕ) → Bytes s → (room row at p q l r m : ℕ) (t : Tuples) → q ≤ length s → inside_of d s room row at p q l ≡ good r m t → (r ≡ q) × Inside d room s row p q l m t
unfolding inside_of
inside-sound d s hb zero row at p q l r m t h x = never x
inside-sound d s hb (suc room) row at p q l r m t h x = contents-sound d s hb room (λ row at p q l r m t. inside-sound d s hb room row at p q l r m t) row at p q l r m t h x
