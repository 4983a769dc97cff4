-- Laws of bytes that lie in a list from one place to another, and of a number that lies there: all that is known of places.
-- Assumes nothing.
--   drop_past             what follows what lies there
--   cut_front, cut_rest   the two parts of what lies there; join: back
--   part, lies-is         the slice of two places lies there, and nothing else does
--   number-lies           a number that lies there is found; number-goes: and what follows goes on with it
--   number_read           what is found lies there
use mathlib.Core.Path.{◌≡◌, refl, sym, ap, ◌∙◌}
use mathlib.Core.List.{List, [], ◌∷◌, ◌++◌, append_assoc}
use Prim.Native.Nat.{ℕ, suc, ◌+◌, ◌-◌, ◌<◌, ◌≤◌}
use native.Mathlib.Omega.{arith}
use lib.ListN.{length, drop, length-append, length-drop}
use lib.Seq.{slice, drop-drop, drop-append_seam, drop-cons, length-slice}
use Rattle.paper.specs.Checks.{Judged}
use Rattle.numbers.specs.Bytes.{Bytes, byte}
use Rattle.numbers.specs.Number.{Found, Value, Number, number_at}
use Rattle.numbers.proofs.Places.{slice_is, slice-lies}
use Rattle.numbers.proofs.Numbers.{number-at, at-number, Stands, stands}
use Rattle.payload.specs.Reading.{number}
use Rattle.payload.specs.Lying.{Lies, Read}

pub lies-order : {s b : List ℕ} {p q : ℕ} → Lies s b p q → p ≤ q
lies-order y = omega (arith, y.ends)

pub lies-end : {s b : List ℕ} {p q : ℕ} → Lies s b p q → q ≤ length s
lies-end {s} {b} {p} {q} y = omega (arith, y.start, y.ends, ap length y.stands, length-drop p s, length-drop q s, length-append b (drop q s))

pub drop_past : (s a r : List ℕ) (p : ℕ) → drop p s ≡ a ++ r → drop (p + length a) s ≡ r
drop_past s a r p e = sym (drop-drop (length a) p s) ∙ ap (drop (length a)) e ∙ drop-append_seam a r

module _ {s : List ℕ} {p r : ℕ} (a c b : List ℕ) (e : b ≡ a ++ c) (y : Lies s b p r) where
  spread : drop p s ≡ a ++ (c ++ drop r s)
  spread = y.stands ∙ ap (λ (x : List ℕ). x ++ drop r s) e ∙ append_assoc a c (drop r s)

  after-a : drop (p + length a) s ≡ c ++ drop r s
  after-a = drop_past s a (c ++ drop r s) p spread

  pub cut_front : Lies s a p (p + length a)
  cut_front = record { start = y.start; stands = spread ∙ ap (λ (x : List ℕ). a ++ x) (sym after-a); ends = refl }

  pub cut_rest : Lies s c (p + length a) r
  cut_rest = record { start = lies-end cut_front; stands = after-a; ends = omega (arith, y.ends, ap length e, length-append a c) }

pub join : {s : List ℕ} {p q r : ℕ} (a c : List ℕ) → Lies s a p q → Lies s c q r → Lies s (a ++ c) p r
join {s} {p} {q} {r} a c x y =
    record {
      start = x.start;
      stands = x.stands ∙ ap (λ (l : List ℕ). a ++ l) y.stands ∙ sym (append_assoc a c (drop r s));
      ends = omega (arith, x.ends, y.ends, length-append a c);
    }

pub recast : {s b : List ℕ} {p q r : ℕ} → q ≡ r → Lies s b p q → Lies s b p r
recast {s} {b} {p} {q} {r} e y = record { start = y.start; stands = y.stands ∙ ap (λ (k : ℕ). b ++ drop k s) e; ends = omega (arith, y.ends) }

pub part : (s : List ℕ) (p q : ℕ) → p ≤ q → q ≤ length s → Lies s (slice p q s) p q
part s p q h g =
    let n : p + (q - p) ≡ q = omega arith in
    record {
      start = omega arith;
      stands = rw n at (slice-lies s p (q - p));
      ends = omega (arith, length-slice p q s g);
    }

pub lies-is : (s b : List ℕ) (p q : ℕ) → Lies s b p q → slice p q s ≡ b
lies-is s b p q y = ap (λ (k : ℕ). slice p k s) y.ends ∙ slice_is s b (drop q s) p y.stands

pub one : (s : List ℕ) (p : ℕ) → p < length s → Lies s (byte s p ∷ []) p (p + 1)
one s p h =
    let n : p + 1 ≡ suc p = omega arith in
    record { start = omega arith; stands = drop-cons s p 0 h ∙ ap (λ (k : ℕ). byte s p ∷ drop k s) (sym n); ends = refl }

pub number-long : {n : ℕ} {b : List ℕ} → Number n b → 2 ≤ length b
number-long m = omega (arith, ap length m.whole, m.least)

module _ (s b : List ℕ) (p q e n : ℕ) (y : Lies s b p q) (m : Number n b) (h : q ≤ e) where
  pub number-lies : number_at s p e ≡ Value n (length b - 1)
  number-lies = number-at s b (drop q s) p e n y.stands m (omega (arith, y.ends))

  pub number-goes : {A : Type 0} (at : ℕ) (go : ℕ → ℕ → Judged A) → number (number_at s p e) at p go ≡ go n q
  number-goes at go =
      let k : p + 1 + (length b - 1) ≡ q = omega (arith, y.ends, number-long m) in
      ap (λ (f : Found). number f at p go) number-lies ∙ ap (go n) k

pub number_read : (s : List ℕ) (p e n w : ℕ) → Bytes s → e ≤ length s → number_at s p e ≡ Value n w → Read s p e n (p + 1 + w)
number_read s p e n w hb he x = made (stands s p e n w x)
  where
    made : Stands s p e n w → Read s p e n (p + 1 + w)
    made t =
        record {
          bytes = slice p (p + 1 + w) s;
          lies = part s p (p + 1 + w) (omega arith) (omega (arith, t.within));
          writes = at-number s p e n w hb he x;
          within = t.within;
          further = omega arith;
        }

pub renumber : {m n : ℕ} {b : List ℕ} → m ≡ n → Number m b → Number n b
renumber e t = record { digits = t.digits; whole = t.whole; least = t.least; most = t.most; bytes = t.bytes; says = t.says ∙ e }
