-- How long a text can be: no more than 104 bytes for each byte of its payload, so that sums of lengths fit; and how many tuples there can be.
-- Assumes nothing.
--   count-few      no more tuples than bytes
--   name-long      a name has at most 254 bytes
--   text-long      of tuples
--   root-long      of a payload
use mathlib.Core.Path.{◌≡◌, ap}
use mathlib.Core.List.{List, [], ◌∷◌, ◌++◌}
use mathlib.Core.Bool.{Bool, true, false}
use Prim.Native.Nat.{ℕ, zero, suc, ◌+◌, ◌-◌, ◌*◌, ◌≤◌}
use native.Mathlib.Omega.{arith}
use lib.ListN.{length, take, length-append, length-take, length-drop}
use Rattle.paper.specs.Checks.{choose}
use Rattle.numbers.specs.declared.Integer.{Integer}
use Rattle.numbers.specs.declared.Integer.TheVariants.{Plus, Minus}
use Rattle.numbers.specs.Bytes.{Bytes}
use Rattle.numbers.specs.Decimal.{decimal_of}
use Rattle.numbers.proofs.Places.{bytes-at}
use Rattle.numbers.proofs.Decimals.{decimal-few}
use Rattle.dictionary.specs.Rows.{name_length, name_offset, name, row_at}
use Rattle.dictionary.specs.Children.{child_numbered}
use Rattle.payload.specs.Tree.{Scalar, null, integer, option, string, boolean, Tuples, none, scalar, inner, count}
use Rattle.payload.specs.declared.Shape.{Shape}
use Rattle.payload.specs.declared.Shape.TheVariants.{Set}
use Rattle.payload.specs.Writes.{Cut, Tuple, Holds, Writes, Payload}
use Rattle.payload.specs.Fits.{is_set, child, row_of}
use Rattle.payload.specs.Text.{quoted, colon, opens, closes, word, label, comma_at, text_of, root_text}
use Rattle.payload.proofs.Lying.{number-long}

pub decimal-long : (i : Integer) → length (decimal_of i) ≤ 21
unfolding decimal_of
decimal-long (Plus n) = let h = decimal-few n in omega arith
decimal-long (Minus n) = let h = decimal-few (n + 1) in omega arith

comma-long : (i : ℕ) → length (comma_at i) ≤ 1
comma-long zero = omega arith
comma-long (suc i) = omega arith

-- a tuple has five bytes beside its value
pub tuple_size : (n f : ℕ) {P : List ℕ → Type 0} (b : List ℕ) (t : Tuple n f P b) → 5 + length t.rest.rest.value ≤ length b
tuple_size n f b t =
    let z = t.rest.rest in
    omega (
      arith,
      ap length t.whole,
      length-append t.front t.back,
      number-long t.here,
      ap length t.rest.whole,
      length-append t.rest.front t.rest.back,
      ap length t.rest.here.whole,
      ap length z.whole,
      length-append z.length_bytes z.value,
      number-long z.long,
    )

pub cut_size : {P Q : List ℕ → Type 0} (b : List ℕ) (c : Cut P Q b) → length b ≡ length c.front + length c.back
cut_size b c = omega (arith, ap length c.whole, length-append c.front c.back)

-- so no run has as many tuples as bytes
pub count-few : (t : Tuples) (b : List ℕ) → Writes t b → count t ≤ length b
unfolding Writes count
count-few none b w = omega arith
count-few (scalar n x r) b w = omega (arith, count-few r w.back w.rest, tuple_size n _ w.front w.here, cut_size b w)
count-few (inner n g kids r) b w =
    let v = w.here.rest.rest in
    omega (arith, count-few kids v.here.back v.here.rest, count-few r w.back w.rest, tuple_size n _ w.front w.here, cut_size b w, cut_size v.value v.here)

module _ (d : List ℕ) (hb : Bytes d) where
  pub name-long : (r : ℕ) → length (name d r) ≤ 254
  unfolding name
  name-long r =
      let h = bytes-at d (row_at r + 7) hb in
      let o = name_offset d r in
      let e = name_offset d r + name_length d r - 1 in
      omega (arith, length-drop o (take e d), length-take e d)

  quoted-name : (r : ℕ) → length (quoted (name d r)) ≤ 256
  quoted-name r = omega (arith, name-long r, length-append (name d r) (34 ∷ []))

  label-long : (row n : ℕ) → length (label d row n) ≤ 257
  unfolding label
  label-long row n = go (is_set d row)
    where
      go : (t : Bool) → length (choose t (λ _. quoted (name d (child d row n)) ++ (colon ∷ [])) (λ _. [])) ≤ 257
      go true = omega (arith, quoted-name (child d row n), length-append (quoted (name d (child d row n))) (colon ∷ []))
      go false = omega arith

  word-long : (row : ℕ) (x : Scalar) (v : List ℕ) → Holds x v → length (word d row x) ≤ 256 + length v
  word-long row null v h = omega arith
  word-long row (integer i) v h = omega (arith, decimal-long i)
  word-long row (option n) v h = omega (arith, quoted-name (row_of (child_numbered d row n)))
  word-long row (string t) v h = omega (arith, ap length h.whole, length-append t (0 ∷ []), length-append t (34 ∷ []))
  word-long row (boolean true) v h = omega arith
  word-long row (boolean false) v h = omega arith

  bracketed : (g : Shape) (t : List ℕ) → length (opens g ∷ (t ++ (closes g ∷ []))) ≡ 2 + length t
  bracketed g t = omega (arith, length-append t (closes g ∷ []))

  parts : (a b c e : List ℕ) → length (a ++ (b ++ (c ++ e))) ≡ length a + length b + length c + length e
  parts a b c e = omega (arith, length-append a (b ++ (c ++ e)), length-append b (c ++ e), length-append c e)

  pub text-long : (t : Tuples) (b : List ℕ) (row i : ℕ) → Writes t b → length (text_of d t row i) ≤ 104 * length b
  unfolding text_of Writes
  text-long none b row i w = omega arith
  text-long (scalar n x r) b row i w =
      let v = w.here.rest.rest in
      let rest = text-long r w.back row (suc i) w.rest in
      let a = tuple_size n _ w.front w.here in
      let c = cut_size b w in
      let m = word-long (child d row n) x v.value v.here in
      let p = parts (comma_at i) (label d row n) (word d (child d row n) x) (text_of d r row (suc i)) in
      omega (arith, comma-long i, label-long row n)
  text-long (inner n g kids r) b row i w =
      let v = w.here.rest.rest in
      let inside = text-long kids v.here.back (child d row n) 0 v.here.rest in
      let rest = text-long r w.back row (suc i) w.rest in
      let a = tuple_size n _ w.front w.here in
      let c = cut_size b w in
      let u = cut_size v.value v.here in
      let k = text_of d kids (child d row n) 0 in
      let p = parts (comma_at i) (label d row n) (opens g ∷ (k ++ (closes g ∷ []))) (text_of d r row (suc i)) in
      omega (arith, comma-long i, label-long row n, bracketed g k)

  pub root-long : (t : Tuples) (b : List ℕ) → Payload t b → length (root_text d t) ≤ 104 * length b
  root-long t b y =
      let c = y.root.rest.rest.here in
      omega (arith, text-long t c.back 0 0 c.rest, bracketed Set (text_of d t 0 0), tuple_size 0 _ y.body y.root, cut_size _ c, ap length y.whole)
