-- The bytes that the writer writes for a tree write it, if any bytes do, and none that do are fewer.
-- Assumes nothing.
--   Brief P m b         m meets P and is no longer than b: each law below says it of what the writer writes and any b that meets P
--   value-shortest      of a scalar's value
--   writes-shortest     of tuples
--   payload-shortest    of a payload
--   means-shortest      of a payload with a meaning: the writer's bytes for its tree mean the same text
use mathlib.Core.Path.{refl, ap}
use mathlib.Core.List.{List, [], ◌∷◌, ◌++◌}
use Prim.Native.Nat.{ℕ, ◌*◌, ◌≤◌}
use native.Mathlib.Omega.{arith}
use lib.ListN.{length, length-append}
use Rattle.numbers.specs.Number.{Number, number_of}
use Rattle.numbers.proofs.Numbers.{number-below, number-written, number-least, number-shortest}
use Rattle.numbers.proofs.Brief.{only_brief}
use Rattle.payload.specs.Tree.{Scalar, null, integer, option, string, boolean, Tuples, none, scalar, inner, format_of, shape_format, size}
use Rattle.payload.specs.declared.Shape.TheVariants.{Set}
use Rattle.payload.specs.Writes.{Cut, Format, Sized, Tuple, Holds, Writes, Payload}
use Rattle.payload.specs.Text.{Means}
use Rattle.text.specs.Shortest.{form_byte, tuple_of, value_bytes, shortest, payload_of}

pub record Brief (P : List ℕ → Type 0) (m b : List ℕ) : Type 0 where
  pub written : P m
  pub least : length m ≤ length b

number_brief : {n : ℕ} {b : List ℕ} → Number n b → Brief (Number n) (number_of n) b
number_brief t = let r = number-shortest t in record { written = r.written; least = r.least }

pub value-shortest : (x : Scalar) (v : List ℕ) → Holds x v → Brief (Holds x) (value_bytes x) v
value-shortest null v h = record { written = refl; least = omega arith }
value-shortest (integer i) v h = let e = ((only_brief i v).0 h).1 in record { written = rw e at h; least = omega (arith, ap length e) }
value-shortest (option n) v h = number_brief h
value-shortest (string t) v h = record { written = record { whole = refl; bytes = h.bytes }; least = omega (arith, ap length h.whole) }
value-shortest (boolean b) v h = record { written = refl; least = omega (arith, ap length h) }

-- the parts of a tuple, each brief if what it holds is
cut_brief : {P Q : List ℕ → Type 0} {b : List ℕ} (p q : List ℕ) (c : Cut P Q b) → Brief P p c.front → Brief Q q c.back → Brief (Cut P Q) (p ++ q) b
cut_brief p q c x y =
    record {
      written = record { front = p; back = q; whole = refl; here = x.written; rest = y.written };
      least = omega (arith, x.least, y.least, ap length c.whole, length-append c.front c.back, length-append p q);
    }

format_brief : (f : ℕ) {b : List ℕ} → Format f b → Brief (Format f) (form_byte f ∷ []) b
format_brief f t =
    record {
      written = record { byte = form_byte f; whole = refl; small = omega (arith, t.small, t.nibble); nibble = omega arith; bound = omega arith };
      least = omega (arith, ap length t.whole);
    }

sized_brief : {P : List ℕ → Type 0} {b : List ℕ} (v : List ℕ) (z : Sized P b) → Brief P v z.value → Brief (Sized P) (number_of (length v) ++ v) b
sized_brief v z x =
    record {
      written = record { length_bytes = number_of (length v); value = v; whole = refl; long = number-written (length v) (omega (arith, x.least, number-below z.long)); here = x.written };
      least = omega (arith, x.least, number-least (length v) x.least z.long, ap length z.whole, length-append z.length_bytes z.value, length-append (number_of (length v)) v);
    }

tuple_brief : (n f : ℕ) {P : List ℕ → Type 0} {b : List ℕ} (v : List ℕ) (t : Tuple n f P b) → Brief P v t.rest.rest.value → Brief (Tuple n f P) (tuple_of n f v) b
unfolding tuple_of
tuple_brief n f v t x =
    cut_brief (number_of (2 * n)) (form_byte f ∷ (number_of (length v) ++ v)) t (number_brief t.here)
    (cut_brief (form_byte f ∷ []) (number_of (length v) ++ v) t.rest (format_brief f t.rest.here) (sized_brief v t.rest.rest x))

-- a run with its count, where the run is brief
counted_brief : (k : Tuples) {b : List ℕ} (c : Cut (Number (size k)) (Writes k) b) → Brief (Writes k) (shortest k) c.back → Brief (Cut (Number (size k)) (Writes k)) (number_of (size k) ++ shortest k) b
counted_brief k c x = cut_brief (number_of (size k)) (shortest k) c (number_brief c.here) x

pub writes-shortest : (t : Tuples) (b : List ℕ) → Writes t b → Brief (Writes t) (shortest t) b
unfolding shortest Writes
writes-shortest none b w = record { written = refl; least = omega arith }
writes-shortest (scalar n x rest) b w =
    let z = w.here.rest.rest in
    cut_brief (tuple_of n (format_of x) (value_bytes x)) (shortest rest) w (tuple_brief n (format_of x) (value_bytes x) w.here (value-shortest x z.value z.here))
    (writes-shortest rest w.back w.rest)
writes-shortest (inner n g kids rest) b w =
    let c = w.here.rest.rest.here in
    let v = number_of (size kids) ++ shortest kids in
    cut_brief (tuple_of n (shape_format g) v) (shortest rest) w (tuple_brief n (shape_format g) v w.here (counted_brief kids c (writes-shortest kids c.back c.rest)))
    (writes-shortest rest w.back w.rest)

pub payload-shortest : (t : Tuples) (b : List ℕ) → Payload t b → Brief (Payload t) (payload_of t) b
unfolding payload_of
payload-shortest t b p =
    let c = p.root.rest.rest.here in
    let v = number_of (size t) ++ shortest t in
    let r = tuple_brief 0 (shape_format Set) v p.root (counted_brief t c (writes-shortest t c.back c.rest)) in
    record {
      written = record { flag = 0; flag' = 0; flags = (omega arith, (omega arith, tt)); body = tuple_of 0 (shape_format Set) v; whole = refl; root = r.written };
      least = omega (arith, r.least, ap length p.whole);
    }

pub means-shortest : (d s t : List ℕ) (n : ℕ) (m : Means d s t n) → Brief (λ b. Means d b t n) (payload_of m.tree) s
means-shortest d s t n m =
    let r = payload-shortest m.tree s m.written in
    record {
      written = record { tree = m.tree; written = r.written; fitting = m.fitting; shallow = m.shallow; text = m.text; tuples = m.tuples };
      least = r.least;
    }
