-- The value of a set or array that is written: its text, and its members one by one, each with its row, its value and its text.
-- Assumes nothing.
--   shown_is, remainder_is    the text is that of the tree that is written
--   Next, next                the first of the tuples that are left, and the others
--   group-given, shown-given  what the answers' own definition accepts is one, with its text
use mathlib.Core.Path.{◌≡◌, refl, sym, ap, ◌∙◌}
use mathlib.Core.List.{List, [], ◌∷◌, ◌++◌}
use mathlib.Core.Bool.{true}
use Prim.Native.Nat.{ℕ, suc, ◌+◌, ◌-◌, ◌<◌, ◌≤◌}
use native.Mathlib.Omega.{arith}
use lib.ListN.{length}
use lib.Seq.{slice, take-length}
use borrow.Author.Tests.{lt-ltb, le-ltb}
use Rattle.paper.specs.Checks.{good}
use Rattle.numbers.specs.Bytes.{Bytes}
use Rattle.numbers.specs.Number.{Number}
use Rattle.dictionary.specs.Formats.{boolean_form}
use Rattle.dictionary.specs.Rows.{entries, kind}
use Rattle.payload.specs.declared.Shape.{Shape}
use Rattle.payload.specs.declared.Shape.TheVariants.{Set, Array}
use Rattle.payload.specs.Tree.{Scalar, Tuples, none, scalar, inner, format_of, shape_format, size, count, depth}
use Rattle.payload.specs.Writes.{Cut, Holds, Writes}
use Rattle.payload.specs.Fits.{GroupRow, Fits, child, allowed}
use Rattle.payload.specs.Text.{label, comma_at, text_of, word}
use Rattle.payload.specs.Reading.{shape_of, inside_of}
use Rattle.payload.specs.Lying.{Lies}
use Rattle.payload.proofs.Lying.{cut_front, cut_rest, lies-is, part}
use Rattle.payload.proofs.Scalars.{scalar_complete}
use Rattle.payload.proofs.Sitting.{fits-own, child-inside}
use Rattle.payload.proofs.Unique.{scalar-high, shape-low}
use Rattle.payload.proofs.Complete.{scalar-base, run_complete, value_complete}
use Rattle.payload.proofs.Sound.{inside-sound}
use Rattle.payload.proofs.Longest.{count-few, cut_size}
use Rattle.reader_render.specs.Rendered.{bracketed, shown, AcceptedIn, value_text, Worth, as_scalar, as_group}
use Rattle.reader_render.proofs.Parting.{Parted, parted}

depth-count : (t : Tuples) → depth t ≤ count t
unfolding depth count
depth-count none = omega arith
depth-count (scalar n x r) = omega (arith, depth-count r)
depth-count (inner n g kids r) = omega (arith, depth-count kids, depth-count r)

pub whole : (v : List ℕ) → Lies v v 0 (length v)
whole v = let e : slice 0 (length v) v ≡ v = take-length v in rw e at (part v 0 (length v) (omega arith) (omega arith))

module _ (d : List ℕ) (row : ℕ) (v : List ℕ) (h : AcceptedIn d row v) where
  few : count h.tree ≤ length v
  few = omega (arith, count-few h.tree h.written.back h.written.rest, cut_size v h.written)

  found : inside_of d v (suc (length v)) row 0 0 (length v) (length v) ≡ good (length v) (length v - count h.tree) h.tree
  found =
      value_complete d v v (length v) row 0 0 (length v) (length v) h.tree (whole v) h.written
      λ m y. run_complete d h.tree (length v) v h.written.back row 0 [] m (length v) (length v) (length v) h.written.rest h.fitting y (omega arith) (omega (arith, depth-count h.tree, few)) few

  pub shown_is : shown d row v ≡ bracketed (shape_of (kind d row)) (text_of d h.tree row 0)
  unfolding shown
  shown_is = rw found

shape-shape : (g : Shape) → shape_of (shape_format g) ≡ g
shape-shape Set = refl
shape-shape Array = refl

-- of the tuples that are left, at p and the i-th on, the first; it ends at q
pub record Next (d : List ℕ) (row : ℕ) (v : List ℕ) (p i : ℕ) (seen : List ℕ) (rest : Tuples) : Type 0 where
  pub number : ℕ
  pub form : ℕ
  pub value : List ℕ
  pub next : ℕ
  pub parts : Parted v p next number form value
  pub low : form ≤ boolean_form
  pub inside : child d row number < entries d
  pub worth : Worth d (child d row number) form value
  pub others : Tuples
  pub bytes : List ℕ
  pub lies : Lies v bytes next (length v)
  pub written : Writes others bytes
  pub fitting : Fits d others row (suc i) (number ∷ seen)
  pub sized : size rest ≡ suc (size others)
  pub text : text_of d rest row i ≡ comma_at i ++ (label d row number ++ (value_text d (child d row number) form value ++ text_of d others row (suc i)))

-- the text of a value by its format
pub plain-text : (d : List ℕ) (row : ℕ) (x : Scalar) (u : List ℕ) → Holds x u → allowed d row x ≡ true → value_text d row (format_of x) u ≡ word d row x
unfolding value_text
plain-text d row x u h a = rw (le-ltb (format_of x) 2 (scalar-high x), scalar_complete d row x u h a)

pub group-text : (d : List ℕ) (row f : ℕ) (u : List ℕ) → f < 2 → value_text d row f u ≡ shown d row u
unfolding value_text
group-text d row f u h = rw (lt-ltb f 2 h)

module _ (d : List ℕ) (row : ℕ) (w : GroupRow d row) (v : List ℕ) (p i : ℕ) (seen : List ℕ) where
  pub next : (rest : Tuples) (b : List ℕ) → Lies v b p (length v) → Writes rest b → Fits d rest row i seen → 1 ≤ size rest → Next d row v p i seen rest
  unfolding Writes Fits size text_of
  next none b y c f h = absurd (omega arith)
  next (scalar n x r) b y c f h =
      let e : child d row n < entries d = child-inside d w.accepted row w.inside i n w.holds f.0.is_known in
      let u = c.here.rest.rest.value in
      record {
        number = n;
        form = format_of x;
        value = u;
        next = p + length c.front;
        parts = parted v c.front (Holds x) p (p + length c.front) n (format_of x) (cut_front c.front c.back b c.whole y) c.here;
        low = (scalar-base x).high;
        inside = e;
        worth = as_scalar record { own = record { accepted = w.accepted; inside = e }; value = x; format = refl; fitting = f.0.does_fit; holds = c.here.rest.rest.here; allows = f.1 };
        others = r;
        bytes = c.back;
        lies = cut_rest c.front c.back b c.whole y;
        written = c.rest;
        fitting = f.2;
        sized = refl;
        text = rw (plain-text d (child d row n) x u c.here.rest.rest.here f.1);
      }
  next (inner n g kids r) b y c f h =
      let e : child d row n < entries d = child-inside d w.accepted row w.inside i n w.holds f.0.is_known in
      let u = c.here.rest.rest.value in
      let low = shape-low g in
      let k : shape_format g ≡ kind d (child d row n) = (fits-own d (child d row n) (shape_format g) (λ z. omega arith)).0 f.0.does_fit in
      let a : AcceptedIn d (child d row n) u = record { holder = record { accepted = w.accepted; inside = e; holds = omega arith }; tree = kids; written = c.here.rest.rest.here; fitting = f.1 } in
      let t : value_text d (child d row n) (shape_format g) u ≡ bracketed g (text_of d kids (child d row n) 0)
      = group-text d (child d row n) (shape_format g) u low ∙ shown_is d (child d row n) u a ∙ ap (λ (j : Shape). bracketed j (text_of d kids (child d row n) 0)) (ap shape_of (sym k) ∙ shape-shape g) in
      record {
        number = n;
        form = shape_format g;
        value = u;
        next = p + length c.front;
        parts = parted v c.front (Cut (Number (size kids)) (Writes kids)) p (p + length c.front) n (shape_format g) (cut_front c.front c.back b c.whole y) c.here;
        low = omega arith;
        inside = e;
        worth = as_group low a;
        others = r;
        bytes = c.back;
        lies = cut_rest c.front c.back b c.whole y;
        written = c.rest;
        fitting = f.2;
        sized = refl;
        text = rw t;
      }

-- what the answers' own definition accepts, with whatever depth and budget and wherever it lies, is one
pub group-given : (d s : List ℕ) (room row at p q l z m : ℕ) (t : Tuples) → Bytes s → GroupRow d row → q ≤ length s → inside_of d s room row at p q l ≡ good z m t → AcceptedIn d row (slice p q s)
group-given d s room row at p q l z m t hb w hq y =
    let i = (inside-sound d s hb room row at p q l z m t hq y).1 in
    record { holder = w; tree = t; written = rw (lies-is s i.bytes p q i.lies) i.written; fitting = i.fitting }

-- and its text is that of the tree that is answered
pub shown-given : (d s : List ℕ) (room row at p q l z m : ℕ) (t : Tuples) → Bytes s → GroupRow d row → q ≤ length s → inside_of d s room row at p q l ≡ good z m t → shown d row (slice p q s) ≡ bracketed (shape_of (kind d row)) (text_of d t row 0)
unfolding group-given
shown-given d s room row at p q l z m t hb w hq y = shown_is d row (slice p q s) (group-given d s room row at p q l z m t hb w hq y)
