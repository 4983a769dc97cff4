-- A tuple that is written: its parts stand where `Parts::at` finds them, and V is what it says.
-- Assumes nothing.
use mathlib.Core.Path.{◌≡◌, sym, ap, ◌∙◌}
use mathlib.Core.List.{List, ◌++◌}
use Prim.Native.Nat.{ℕ, ◌+◌, ◌-◌, ◌*◌, ◌/◌, ◌≤◌}
use native.Mathlib.Omega.{arith}
use lib.ListN.{length, drop}
use lib.Seq.{slice}
use Rattle.numbers.specs.Bytes.{byte}
use Rattle.numbers.specs.Number.{Number, number_value}
use Rattle.numbers.specs.Met.{Standing}
use Rattle.numbers.proofs.Places.{first}
use Rattle.numbers.proofs.Numbers.{found-standing}
use Rattle.payload.specs.Writes.{Tuple}
use Rattle.payload.specs.Lying.{Lies}
use Rattle.payload.proofs.Lying.{lies-end, cut_front, cut_rest, lies-is, number-long, number-lies}
use Rattle.reader_render.specs.Rendered.{past, sequence_of, form_of, from_of, to_of, Framed}

-- a number that lies in s stands there, and what follows it begins past it
pub record Counted (s : List ℕ) (p q n : ℕ) : Type 0 where
  pub stands : Standing s p
  pub value : number_value s p ≡ n
  pub next : past s p ≡ q

pub counted : (s b : List ℕ) (p q n : ℕ) → Lies s b p q → Number n b → Counted s p q n
counted s b p q n y m =
    let k = found-standing s p (length s) n (length b - 1) (omega arith) (number-lies s b p q (length s) n y m (lies-end y)) in
    record { stands = k.standing; value = sym k.value; next = omega (arith, k.width, y.ends, number-long m) }

-- the tuple at p, with the number n, the format f and the value v, and the next at q
pub record Parted (s : List ℕ) (p q n f : ℕ) (v : List ℕ) : Type 0 where
  pub framed : Framed s p
  pub number : sequence_of s p ≡ n
  pub form : form_of s p ≡ f
  pub next : to_of s p ≡ q
  pub order : from_of s p ≤ q
  pub value : slice (from_of s p) q s ≡ v

pub parted : (s b : List ℕ) (P : List ℕ → Type 0) (p q n f : ℕ) → Lies s b p q → (t : Tuple n f P b) → Parted s p q n f t.rest.rest.value
parted s b P p q n f y t =
    let x = t.rest in
    let z = x.rest in
    let p₁ = p + length t.front in
    let p₂ = p₁ + length x.front in
    let p₃ = p₂ + length z.length_bytes in
    let y₁ = cut_rest t.front t.back b t.whole y in
    let y₂ = cut_rest x.front x.back t.back x.whole y₁ in
    let y₃ = cut_rest z.length_bytes z.value x.back z.whole y₂ in
    let S = counted s t.front p p₁ (2 * n) (cut_front t.front t.back b t.whole y) t.here in
    let L = counted s z.length_bytes p₂ p₃ (length z.value) (cut_front z.length_bytes z.value x.back z.whole y₂) z.long in
    let g : byte s p₁ ≡ x.here.byte = first s (drop p₂ s) x.here.byte p₁ ((cut_front x.front x.back t.back x.whole y₁).stands ∙ ap (λ (l : List ℕ). l ++ drop p₂ s) x.here.whole) in
    let e : past s p + 1 ≡ p₂ = omega (arith, S.next, ap length x.here.whole) in
    let from : from_of s p ≡ p₃ = ap (past s) e ∙ L.next in
    let size : number_value s (past s p + 1) ≡ length z.value = ap (number_value s) e ∙ L.value in
    let half : 2 * n / 2 ≡ n = omega arith in
    record {
      framed = record { sequence = S.stands; size = rw e L.stands; within = omega (arith, from, size, y₃.ends, lies-end y₃) };
      number = ap (λ (k : ℕ). k / 2) S.value ∙ half;
      form = ap (λ (k : ℕ). byte s k / 16) S.next ∙ ap (λ (k : ℕ). k / 16) g ∙ x.here.nibble;
      next = omega (arith, from, size, y₃.ends);
      order = omega (arith, from, y₃.ends);
      value = ap (λ (k : ℕ). slice k q s) from ∙ lies-is s z.value p₃ q y₃;
    }
