-- Runs of tuples, joined, and what the writer measures of them.
-- Assumes nothing.
--   joint a b          the tuples a before the tuples b; its bytes, plan, size and count are those of both
--   leaf-bytes, ..     what a value that needs no members comes to, as a tuple
--   group-bytes, ..    what a group comes to
use Prim.Native.Nat.{ℕ, suc, ◌+◌, ◌*◌}
use mathlib.Core.Path.{◌≡◌, refl, sym, ap, ◌∙◌}
use mathlib.Core.List.{List, [], ◌∷◌, ◌++◌, append_assoc, append-nil}
use native.Mathlib.Omega.{arith}
use lib.ListN.{length, length-append}
use lib.Dec.{eqb}
use borrow.Author.Tests.{ne_eqb}
use Rattle.paper.specs.Checks.{choose}
use Rattle.numbers.specs.Number.{number_of}
use Rattle.payload.specs.Tree.{Tuples, none, scalar, inner, format_of, shape_format, size, count}
use Rattle.payload.specs.declared.Shape.{Shape}
use Rattle.payload.specs.Reading.{Single, plain, group, before}
use Rattle.text.specs.Shortest.{form_byte, tuple_of, value_bytes, shortest}
use Rattle.writer_parse.specs.declared.Value.{Value}
use Rattle.writer_parse.specs.declared.Value.TheVariants.{Null, Boolean, Integer, Option, String, Empty}
use Rattle.writer_parse.specs.Leaves.{said, form_of, bytes_for}
use Rattle.writer_sizes.specs.Plan.{alone, kept, group_long, plan, tuple_long}

unfoldable pub joint : Tuples → Tuples → Tuples
joint none t = t
joint (scalar n x rest) t = scalar n x (joint rest t)
joint (inner n g kids rest) t = inner n g kids (joint rest t)

pub joint-start : (t : Tuples) → joint none t ≡ t
unfolding joint
joint-start t = refl

pub joint-next : (a : Tuples) (x : Single) (t : Tuples) → joint a (before x t) ≡ joint (joint a (alone x)) t
unfolding joint
joint-next none (plain n x) t = refl
joint-next none (group n g kids) t = refl
joint-next (scalar m y rest) x t = ap (scalar m y) (joint-next rest x t)
joint-next (inner m h below rest) x t = ap (inner m h below) (joint-next rest x t)

-- a front before what is joined
ahead : (f a b c : List ℕ) → c ≡ a ++ b → f ++ c ≡ (f ++ a) ++ b
ahead f a b c e = ap (λ (l : List ℕ). f ++ l) e ∙ sym (append_assoc f a b)

pub bytes-joint : (a b : Tuples) → shortest (joint a b) ≡ shortest a ++ shortest b
unfolding joint shortest
bytes-joint none b = refl
bytes-joint (scalar n x rest) b = ahead (tuple_of n (format_of x) (value_bytes x)) (shortest rest) (shortest b) (shortest (joint rest b)) (bytes-joint rest b)
bytes-joint (inner n g kids rest) b = ahead (tuple_of n (shape_format g) (number_of (size kids) ++ shortest kids)) (shortest rest) (shortest b) (shortest (joint rest b)) (bytes-joint rest b)

pub plan-joint : (a b : Tuples) → plan (joint a b) ≡ plan a ++ plan b
unfolding joint plan
plan-joint none b = refl
plan-joint (scalar n x rest) b = plan-joint rest b
plan-joint (inner n g kids rest) b =
    ahead (choose (eqb (size kids) 0) (λ _. []) (λ _. kept (group_long kids) ∷ kept (size kids) ∷ plan kids)) (plan rest) (plan b) (plan (joint rest b)) (plan-joint rest b)

pub size-joint : (a b : Tuples) → size (joint a b) ≡ size a + size b
unfolding joint size
size-joint none b = omega arith
size-joint (scalar n x rest) b = omega (arith, size-joint rest b)
size-joint (inner n g kids rest) b = omega (arith, size-joint rest b)

pub count-joint : (a b : Tuples) → count (joint a b) ≡ count a + count b
unfolding joint count
count-joint none b = omega arith
count-joint (scalar n x rest) b = omega (arith, count-joint rest b)
count-joint (inner n g kids rest) b = omega (arith, count-joint rest b)

pub size-alone : (x : Single) → size (alone x) ≡ 1
unfolding size
size-alone (plain n x) = refl
size-alone (group n g kids) = refl

-- nothing
pub none-bytes : length (shortest none) ≡ 0
unfolding shortest
none-bytes = refl

pub none-plan : plan none ≡ []
unfolding plan
none-plan = refl

pub none-size : size none ≡ 0
unfolding size
none-size = refl

pub none-count : count none ≡ 0
unfolding count
none-count = refl

pub tuple_length : (n f : ℕ) (v : List ℕ) → length (tuple_of n f v) ≡ tuple_long n (length v)
unfolding tuple_of tuple_long
tuple_length n f v = length-append (number_of (2 * n)) (form_byte f ∷ (number_of (length v) ++ v)) ∙ omega (arith, length-append (number_of (length v)) v)

-- a value that needs no members
module _ (s : List ℕ) (n : ℕ) where
  pub leaf-bytes : (v : Value) → shortest (alone (said s n v)) ≡ tuple_of n (form_of v) (bytes_for s v)
  unfolding shortest size
  leaf-bytes Null = append-nil _
  leaf-bytes (Boolean b) = append-nil _
  leaf-bytes (Integer i) = append-nil _
  leaf-bytes (Option m) = append-nil _
  leaf-bytes (String a b) = append-nil _
  leaf-bytes (Empty g) = append-nil _ ∙ ap (tuple_of n (shape_format g)) (append-nil (number_of 0))

  pub leaf-plan : (v : Value) → plan (alone (said s n v)) ≡ []
  unfolding plan size
  leaf-plan Null = refl
  leaf-plan (Boolean b) = refl
  leaf-plan (Integer i) = refl
  leaf-plan (Option m) = refl
  leaf-plan (String a b) = refl
  leaf-plan (Empty g) = refl

  pub leaf-count : (v : Value) → count (alone (said s n v)) ≡ 1
  unfolding count
  leaf-count Null = refl
  leaf-count (Boolean b) = refl
  leaf-count (Integer i) = refl
  leaf-count (Option m) = refl
  leaf-count (String a b) = refl
  leaf-count (Empty g) = refl

-- a group
module _ (n : ℕ) (g : Shape) (t : Tuples) where
  pub group-bytes : shortest (alone (group n g t)) ≡ tuple_of n (shape_format g) (number_of (size t) ++ shortest t)
  unfolding shortest
  group-bytes = append-nil _

  pub group-long : length (shortest (alone (group n g t))) ≡ tuple_long n (length (number_of (size t)) + length (shortest t))
  group-long = ap length group-bytes ∙ tuple_length n (shape_format g) (number_of (size t) ++ shortest t) ∙ ap (tuple_long n) (length-append (number_of (size t)) (shortest t))

  pub group-plan : (size t ≡ 0 → ⊥) → plan (alone (group n g t)) ≡ kept (length (number_of (size t)) + length (shortest t)) ∷ kept (size t) ∷ plan t
  unfolding plan group_long
  group-plan h = rw (ne_eqb (size t) 0 h) (append-nil _)

  pub group-count : count (alone (group n g t)) ≡ suc (count t)
  unfolding count
  group-count = omega arith
