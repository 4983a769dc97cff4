-- What writes a tree is made of bytes, and is long enough for a payload.
-- Assumes nothing.
--   writes_bytes, payload-bytes    every element is below 256
--   payload-long                   a payload has at least 14 bytes, so the table's least length hides no case
use mathlib.Core.Path.{◌≡◌, ap}
use mathlib.Core.List.{List, [], ◌∷◌}
use mathlib.Core.Bool.{true, false, not, ◌&&◌}
use Prim.Native.Nat.{ℕ, ◌≤◌}
use native.Mathlib.Omega.{arith}
use lib.ListN.{length, length-append}
use lib.Dec.{leb, eqb}
use borrow.Author.Tests.{leb-true}
use Rattle.paper.proofs.Tests.{and_left, and_right}
use Rattle.numbers.specs.Bytes.{Bytes}
use Rattle.numbers.proofs.Places.{bytes_append}
use Rattle.numbers.proofs.Numbers.{number-bytes}
use Rattle.dictionary.specs.Accepts.{name_byte}
use Rattle.payload.specs.Tree.{Scalar, null, integer, option, string, boolean, Tuples, none, scalar, inner}
use Rattle.payload.specs.Header.{header_with}
use Rattle.payload.specs.Strings.{string_byte, well_spelt}
use Rattle.payload.specs.Writes.{Cut, Tuple, Holds, Writes, Payload}
use Rattle.payload.proofs.Lying.{number-long}

spelt-bytes : (t : List ℕ) → well_spelt t ≡ true → Bytes t
unfolding well_spelt string_byte name_byte
spelt-bytes [] e = tt
spelt-bytes (b ∷ t) e =
    let a = and_left _ _ e in
    let h = leb-true b 126 (and_right (leb 32 b) _ (and_left _ _ (and_left _ _ a))) in
    (omega arith, spelt-bytes t (and_right (leb 32 b && leb b 126 && not (eqb b 34) && not (eqb b 92)) _ e))

holds-bytes : (x : Scalar) (v : List ℕ) → Holds x v → Bytes v
holds-bytes null v h = rw h tt
holds-bytes (integer i) v h = h.bytes
holds-bytes (option n) v h = number-bytes h
holds-bytes (string t) v h = rw h.whole (bytes_append t (0 ∷ []) (spelt-bytes t h.bytes) (omega arith, tt))
holds-bytes (boolean false) v h = rw h (omega arith, tt)
holds-bytes (boolean true) v h = rw h (omega arith, tt)

cut_bytes : {P Q : List ℕ → Type 0} (b : List ℕ) (c : Cut P Q b) → Bytes c.front → Bytes c.back → Bytes b
cut_bytes b c h g = rw c.whole (bytes_append c.front c.back h g)

tuple_bytes : (n f : ℕ) {P : List ℕ → Type 0} (b : List ℕ) (t : Tuple n f P b) → Bytes t.rest.rest.value → Bytes b
tuple_bytes n f b t h =
    let z = t.rest.rest in
    cut_bytes b t (number-bytes t.here)
    (cut_bytes t.back t.rest (rw t.rest.here.whole (t.rest.here.small, tt))
    (rw z.whole (bytes_append z.length_bytes z.value (number-bytes z.long) h)))

pub writes_bytes : (t : Tuples) (b : List ℕ) → Writes t b → Bytes b
unfolding Writes
writes_bytes none b w = rw w tt
writes_bytes (scalar n x r) b w = cut_bytes b w (tuple_bytes n _ w.front w.here (holds-bytes x _ w.here.rest.rest.here)) (writes_bytes r w.back w.rest)
writes_bytes (inner n g kids r) b w =
    let c = w.here.rest.rest.here in
    cut_bytes b w (tuple_bytes n _ w.front w.here (cut_bytes _ c (number-bytes c.here) (writes_bytes kids c.back c.rest))) (writes_bytes r w.back w.rest)

pub payload-bytes : (t : Tuples) (b : List ℕ) → Payload t b → Bytes b
payload-bytes t b y =
    let c = y.root.rest.rest.here in
    let h : Bytes (header_with y.flag y.flag') = (omega arith, (omega arith, (omega arith, (omega arith, (y.flags.0, (y.flags.1.0, (omega arith, tt))))))) in
    rw y.whole (bytes_append (header_with y.flag y.flag') y.body h (tuple_bytes 0 _ y.body y.root (cut_bytes _ c (number-bytes c.here) (writes_bytes t c.back c.rest))))

pub payload-long : (t : Tuples) (b : List ℕ) → Payload t b → 14 ≤ length b
payload-long t b y =
    let r = y.root in
    let z = r.rest.rest in
    let c = z.here in
    omega (
      arith,
      ap length y.whole,
      ap length r.whole,
      length-append r.front r.back,
      number-long r.here,
      ap length r.rest.whole,
      length-append r.rest.front r.rest.back,
      ap length r.rest.here.whole,
      ap length z.whole,
      length-append z.length_bytes z.value,
      number-long z.long,
      ap length c.whole,
      length-append c.front c.back,
      number-long c.here,
    )
