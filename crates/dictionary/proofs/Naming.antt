-- Names: what the rule gives of a row's name.
-- Assumes nothing.
use Prim.Native.Nat.{ℕ, ◌+◌, ◌-◌, ◌≤◌, ◌<◌}
use mathlib.Core.Path.{◌≡◌, refl, ap, ◌∙◌}
use mathlib.Core.List.{List}
use mathlib.Core.Bool.{Bool, true, false, ◌&&◌, ◌||◌}
use native.Mathlib.Omega.{arith}
use lib.ListN.{length, get_or}
use lib.Seq.{slice, length-slice}
use lib.Dec.{leb, eqb}
use borrow.Author.Tests.{eqb-true, leb-true}
use Rattle.paper.specs.Tests.{all}
use Rattle.paper.proofs.Tests.{and_left, and_right, all-at, get_d_slice}
use Rattle.dictionary.specs.Rows.{name_length, name_offset, name}
use Rattle.dictionary.specs.Accepts.{name_byte, name_byte_at, name_fine}
use Rattle.dictionary.specs.Met.{Named}

-- "either offset 0 with count 0, or ..", and a name likewise: what follows from both follows
pub none_or : (A : Type 0) (a b : ℕ) (z : Bool) → (eqb a 0 && eqb b 0) || z ≡ true → (a ≡ 0 → b ≡ 0 → A) → (z ≡ true → A) → A
none_or A a b z e f g = go (eqb a 0) (eqb b 0) refl refl e
  where
    go : (x y : Bool) → eqb a 0 ≡ x → eqb b 0 ≡ y → (x && y) || z ≡ true → A
    go true true p q h = f (eqb-true a 0 p) (eqb-true b 0 q)
    go true false p q h = g h
    go false y p q h = g h

-- what the rule gives of a name that is there
record Lying (d : List ℕ) (r : ℕ) : Type 0 where
  pub inside : name_offset d r + name_length d r ≤ length d
  pub two : 2 ≤ name_length d r
  pub plain : all (name_length d r - 1) (name_byte_at d (name_offset d r)) ≡ true

lying : (d : List ℕ) (r : ℕ) (z u : Bool) → leb 2 (name_length d r) && z && leb (name_offset d r + name_length d r) (length d) && u && all (name_length d r - 1) (name_byte_at d (name_offset d r)) ≡ true → Lying d r
lying d r z u h =
    let a = leb 2 (name_length d r) in
    let b = leb (name_offset d r + name_length d r) (length d) in
    let v = all (name_length d r - 1) (name_byte_at d (name_offset d r)) in
    let e = and_left (a && z && b) u (and_left (a && z && b && u) v h) in
    record {
      inside = leb-true _ _ (and_right (a && z) b e);
      two = leb-true _ _ (and_left a z (and_left (a && z) b e));
      plain = and_right (a && z && b && u) v h;
    }

module _ (d : List ℕ) (n : ℕ) (w : Named d n) (r : ℕ) (h : r < n) where
  fine : name_fine d r ≡ true
  fine = all-at (name_fine d) n w.names r h

  by_rule : (A : Type 0) → (name_offset d r ≡ 0 → name_length d r ≡ 0 → A) → (Lying d r → A) → A
  unfolding name_fine
  by_rule A f g = none_or A (name_offset d r) (name_length d r) _ fine f (λ e. g (lying d r _ _ e))

  -- every name lies inside, and one that is there has two bytes or more
  pub name-inside : name_offset d r + name_length d r ≤ length d
  name-inside = by_rule (name_offset d r + name_length d r ≤ length d) (λ o k. omega (arith, o, k)) (λ l. l.inside)

  pub name-two : (name_length d r ≡ 0 → ⊥) → 2 ≤ name_length d r
  name-two x = by_rule (2 ≤ name_length d r) (λ o k. absurd (x k)) (λ l. l.two)

  printed : 1 ≤ name_length d r → all (name_length d r - 1) (name_byte_at d (name_offset d r)) ≡ true
  printed h = by_rule (all (name_length d r - 1) (name_byte_at d (name_offset d r)) ≡ true) (λ o k. absurd (omega (arith, k))) (λ l. l.plain)

  pub name-long : length (name d r) ≡ name_length d r - 1
  unfolding name
  name-long = length-slice (name_offset d r) (name_offset d r + name_length d r - 1) d (omega (arith, name-inside)) ∙ omega arith

  pub name-printable : (i : ℕ) → i < length (name d r) → name_byte (get_or (name d r) i 0) ≡ true
  unfolding name
  name-printable i l =
      let o = name_offset d r in
      let k = name_length d r in
      let n : i < k - 1 = rw name-long at l in
      let e : o + k - 1 ≡ o + (k - 1) = omega arith in
      let p = printed (omega arith) in
      rw (ap (λ (z : ℕ). get_or (slice o z d) i 0) e, get_d_slice d o (k - 1) i n) (all-at (name_byte_at d o) (k - 1) p i n)
