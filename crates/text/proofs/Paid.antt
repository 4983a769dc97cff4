-- The bytes that the writer writes for a tree write it, where it fits a dictionary, its scalars are proper and its bytes are few enough.
-- Assumes nothing.
--   value_written     of a scalar's value
--   writes-of         of tuples
--   payload-of        of a payload
use mathlib.Core.Path.{◌≡◌, refl, sym, ◌∙◌}
use mathlib.Core.List.{List, [], ◌∷◌, ◌++◌}
use mathlib.Core.Bool.{true}
use Prim.Native.Nat.{ℕ, suc, ◌+◌, ◌*◌, ◌^◌, ◌<◌, ◌≤◌}
use native.Mathlib.Omega.{arith}
use lib.ListN.{length, length-append}
use Rattle.paper.specs.Limits.{dictionary_most, payload_most}
use Rattle.numbers.specs.Number.{Number, number_of}
use Rattle.numbers.proofs.Numbers.{number-written, number-some}
use Rattle.numbers.proofs.Brief.{brief_whole}
use Rattle.dictionary.specs.Rows.{entries, kind}
use Rattle.dictionary.specs.Accepts.{accepts}
use Rattle.dictionary.proofs.Laws.{accepted_header, accepted_family}
use Rattle.payload.specs.Tree.{Scalar, null, integer, option, string, boolean, Tuples, none, scalar, inner, format_of, shape_format, size}
use Rattle.payload.specs.declared.Shape.{Shape}
use Rattle.payload.specs.declared.Shape.TheVariants.{Set, Array}
use Rattle.payload.specs.Writes.{Cut, Tuple, Holds, Writes, Payload}
use Rattle.payload.specs.Fits.{Fits, child, fits, allowed, known}
use Rattle.payload.proofs.Sitting.{known-set, known_array}
use Rattle.payload.proofs.Unique.{shape-low}
use Rattle.payload.proofs.Complete.{scalar-base}
use Rattle.text.specs.Shortest.{form_byte, tuple_of, value_bytes, shortest, payload_of}
use Rattle.text.proofs.Labels.{set-parent}
use Rattle.text.proofs.Words.{Proper}
use Rattle.text.proofs.Told.{Sound, group-kind, inside}
use Rattle.text.proofs.Cleanly.{option-row}

pub tuple_long_lem : (n f : ℕ) (v : List ℕ) → length v + 5 ≤ length (tuple_of n f v)
unfolding tuple_of
tuple_long_lem n f v =
    omega (arith, length-append (number_of (2 * n)) (form_byte f ∷ (number_of (length v) ++ v)), length-append (number_of (length v)) v, number-some (2 * n), number-some (length v))

pub tuple_written : (n f : ℕ) (P : List ℕ → Type 0) (v : List ℕ) → n ≤ 2 ^ 30 → f < 16 → length v < 2 ^ 32 → P v → Tuple n f P (tuple_of n f v)
unfolding tuple_of
tuple_written n f P v hn hf hv h =
    record {
      front = number_of (2 * n);
      back = form_byte f ∷ (number_of (length v) ++ v);
      whole = refl;
      here = number-written (2 * n) (omega arith);
      rest =
          record {
            front = form_byte f ∷ [];
            back = number_of (length v) ++ v;
            whole = refl;
            here = record { byte = form_byte f; whole = refl; small = omega arith; nibble = omega arith; bound = omega arith };
            rest = record { length_bytes = number_of (length v); value = v; whole = refl; long = number-written (length v) hv; here = h };
          };
    }

pub size_few : (t : Tuples) → size t ≤ length (shortest t)
unfolding size shortest
size_few none = omega arith
size_few (scalar n x rest) =
    omega (arith, size_few rest, tuple_long_lem n (format_of x) (value_bytes x), length-append (tuple_of n (format_of x) (value_bytes x)) (shortest rest))
size_few (inner n g kids rest) =
    let v = number_of (size kids) ++ shortest kids in
    omega (arith, size_few rest, tuple_long_lem n (shape_format g) v, length-append (tuple_of n (shape_format g) v) (shortest rest))

module _ (d : List ℕ) (ok : accepts d ≡ true) where
  entries-few : entries d ≤ dictionary_most
  entries-few = let z = accepted_header d ok in omega (arith, z.inside, z.most)

  pub value_written : (row : ℕ) (x : Scalar) → row < entries d → fits d row (format_of x) ≡ true → allowed d row x ≡ true → Proper x → Holds x (value_bytes x)
  value_written row null h f a p = refl
  value_written row (integer i) h f a p = brief_whole i p
  value_written row (option n) h f a p = let o = option-row d ok row n h f a in number-written n (omega (arith, o.2, entries-few))
  value_written row (string t) h f a p = record { whole = refl; bytes = p }
  value_written row (boolean b) h f a p = refl

  number-few : (g : Shape) (row i n : ℕ) → row < entries d → kind d row ≡ shape_format g → known d row i n ≡ true → i ≤ 2 ^ 30 → n ≤ 2 ^ 30
  number-few Set row i n h k e l =
      let w = accepted_family d ok row h (set-parent d row k) in
      omega (arith, (known-set d row w n k i).0 e, w.within, entries-few)
  number-few Array row i n h k e l = omega (arith, (known_array d row n (λ z. omega (arith, sym k ∙ z)) i).0 e)

  pub writes-of : (t : Tuples) (g : Shape) (row i : ℕ) (seen : List ℕ) → row < entries d → kind d row ≡ shape_format g → Sound t → Fits d t row i seen → i + length (shortest t) ≤ 2 ^ 30 → Writes t (shortest t)
  unfolding Writes shortest Sound Fits
  writes-of none g row i seen h k p f l = refl
  writes-of (scalar n x rest) g row i seen h k p f l =
      let c = inside d ok g row i n h k f.0.is_known in
      let v = value_bytes x in
      let z = tuple_long_lem n (format_of x) v in
      let j = length-append (tuple_of n (format_of x) v) (shortest rest) in
      record {
        front = tuple_of n (format_of x) v;
        back = shortest rest;
        whole = refl;
        here = tuple_written n (format_of x) (Holds x) v (number-few g row i n h k f.0.is_known (omega arith)) (omega (arith, (scalar-base x).high)) (omega (arith, z, j)) (value_written (child d row n) x c f.0.does_fit f.1 p.0);
        rest = writes-of rest g row (suc i) (n ∷ seen) h k p.1 f.2 (omega (arith, z, j));
      }
  writes-of (inner n a kids rest) g row i seen h k p f l =
      let c = inside d ok g row i n h k f.0.is_known in
      let v = number_of (size kids) ++ shortest kids in
      let z = tuple_long_lem n (shape_format a) v in
      let j = length-append (tuple_of n (shape_format a) v) (shortest rest) in
      let m = length-append (number_of (size kids)) (shortest kids) in
      record {
        front = tuple_of n (shape_format a) v;
        back = shortest rest;
        whole = refl;
        here =
            tuple_written n (shape_format a) (Cut (Number (size kids)) (Writes kids)) v (number-few g row i n h k f.0.is_known (omega arith)) (omega (arith, shape-low a)) (omega (arith, z, j))
            (record {
              front = number_of (size kids);
              back = shortest kids;
              whole = refl;
              here = number-written (size kids) (omega (arith, size_few kids, z, j, m));
              rest = writes-of kids a (child d row n) 0 [] c (group-kind d (child d row n) a f.0.does_fit) p.0 f.1 (omega (arith, z, j, m));
            });
        rest = writes-of rest g row (suc i) (n ∷ seen) h k p.1 f.2 (omega (arith, z, j));
      }

  pub payload-of : (t : Tuples) → Sound t → Fits d t 0 0 [] → length (payload_of t) ≤ payload_most → Payload t (payload_of t)
  unfolding payload_of
  payload-of t p f l =
      let y = accepted_header d ok in
      let v = number_of (size t) ++ shortest t in
      let z = tuple_long_lem 0 (shape_format Set) v in
      let m = length-append (number_of (size t)) (shortest t) in
      record {
        flag = 0;
        flag' = 0;
        flags = (omega arith, (omega arith, tt));
        body = tuple_of 0 (shape_format Set) v;
        whole = refl;
        root =
            tuple_written 0 (shape_format Set) (Cut (Number (size t)) (Writes t)) v (omega arith) (omega arith) (omega (arith, z))
            (record {
              front = number_of (size t);
              back = shortest t;
              whole = refl;
              here = number-written (size t) (omega (arith, size_few t, z, m));
              rest = writes-of t Set 0 0 [] (omega (arith, y.some)) y.root p f (omega (arith, z, m));
            });
      }
