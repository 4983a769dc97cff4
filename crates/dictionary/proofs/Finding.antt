-- A row's children by number and by name, where they are in turn (Family) and no two alike (Members).
-- Assumes nothing.
--   number-own       a child that is found by a number has it: so one row is the child of one number only
--   number-known     a number below the count finds the child at that position; number_unknown: any other finds none
--   number-child     what is found by a number is a row, has the number and stands there
--   named-child      what is found by a name is a row, has the name, and its own number finds it again
--   sibling          two children of one name are one; named-known: so a child is found by its name
use Prim.Native.Nat.{ℕ, zero, suc, ◌+◌, ◌-◌, ◌≤◌, ◌<◌}
use mathlib.Core.Path.{◌≡◌, refl, sym, ap, ◌∙◌}
use mathlib.Core.List.{List}
use mathlib.Core.Bool.{Bool, true, false}
use native.Mathlib.Omega.{arith}
use native.Mathlib.Nat.{add-zero}
use lib.Dec.{ltb, eqb}
use borrow.Author.Tests.{ltb-true, ltb-false, eqb-true, eqb-false, eq-eqb, ne_eqb}
use Rattle.paper.proofs.Tests.{same_refl, same_true}
use Rattle.std.specs.Prelude.{Some, None}
use Rattle.dictionary.specs.Rows.{entries, number_in, first_child, child_count, name}
use Rattle.dictionary.specs.Children.{seek, has_number, has_name, child_numbered, child_named}
use Rattle.dictionary.specs.Given.{Family, Members}
use Rattle.dictionary.proofs.Seeking.{Sought, seek-none, seek-here, seek-next, seek_found, seek-some}

-- a child that is found by a number has that number: so one row is the child of one number only
pub number-own : (d : List ℕ) (r n c : ℕ) → child_numbered d r n ≡ Some c → number_in d c ≡ n
unfolding child_numbered
number-own d r n c e = eqb-true (number_in d c) n (seek_found (has_number d n) (child_count d r) (first_child d r) c e).passes

-- children by number: in an accepted dictionary the number is the position
module _ (d : List ℕ) (n first : ℕ) where
  seek-turn : (k i : ℕ) → ((p : ℕ) → i ≤ p → p < i + k → number_in d (first + p) ≡ p) → i ≤ n → n < i + k → seek k (first + i) (has_number d n) ≡ Some (first + n)
  seek-turn zero i t lo hi = absurd (omega arith)
  seek-turn (suc k) i t lo hi =
      go (eqb i n) refl (λ l. seek-turn k (i + 1) (λ p a b. t p (omega arith) (omega arith)) (omega arith) (omega arith))
    where
      own : number_in d (first + i) ≡ i
      own = t i (omega arith) (omega arith)

      go : (b : Bool) → eqb i n ≡ b → (i < n → seek k (first + (i + 1)) (has_number d n) ≡ Some (first + n)) → seek (suc k) (first + i) (has_number d n) ≡ Some (first + n)
      go true e rec =
          let z = eqb-true i n e in
          seek-here (has_number d n) (suc k) (first + i) (omega arith) (eq-eqb (number_in d (first + i)) n (own ∙ z)) ∙ ap Some (omega (arith, z))
      go false e rec =
          let x = eqb-false i n e in
          let f : suc k - 1 ≡ k = omega arith in
          let g : first + i + 1 ≡ first + (i + 1) = omega arith in
          rw (f, g) at (seek-next (has_number d n) (suc k) (first + i) (omega arith) (ne_eqb (number_in d (first + i)) n (λ y. x (sym own ∙ y))))
          ∙ rec (omega (arith, x))

  seek-past : (k i : ℕ) → ((p : ℕ) → i ≤ p → p < i + k → number_in d (first + p) ≡ p) → i + k ≤ n → seek k (first + i) (has_number d n) ≡ None
  seek-past zero i t lo = seek-none (has_number d n) 0 (first + i) refl
  seek-past (suc k) i t lo =
      let f : suc k - 1 ≡ k = omega arith in
      let g : first + i + 1 ≡ first + (i + 1) = omega arith in
      let own = t i (omega arith) (omega arith) in
      rw (f, g) at (seek-next (has_number d n) (suc k) (first + i) (omega arith) (ne_eqb (number_in d (first + i)) n (λ y. let z = sym own ∙ y in omega (arith, z))))
      ∙ seek-past k (i + 1) (λ p a b. t p (omega arith) (omega arith)) (omega arith)

module _ (d : List ℕ) (r n : ℕ) (w : Family d r) where
  pub number-known : n < child_count d r → child_numbered d r n ≡ Some (first_child d r + n)
  unfolding child_numbered
  number-known h =
      rw (add-zero (first_child d r)) at (seek-turn d n (first_child d r) (child_count d r) 0 (λ p a b. w.each_in_turn p (omega arith)) (omega arith) (omega arith))

  pub number_unknown : child_count d r ≤ n → child_numbered d r n ≡ None
  unfolding child_numbered
  number_unknown h =
      rw (add-zero (first_child d r)) at (seek-past d n (first_child d r) (child_count d r) 0 (λ p a b. w.each_in_turn p (omega arith)) (omega arith))

  pub number-child : (c : ℕ) → child_numbered d r n ≡ Some c → (c < entries d) × (number_in d c ≡ n) × (c ≡ first_child d r + n)
  unfolding child_numbered
  number-child c e =
      let s = seek_found (has_number d n) (child_count d r) (first_child d r) c e in
      let m = eqb-true (number_in d c) n s.passes in
      let p = w.each_in_turn (c - first_child d r) (omega (arith, s.from, s.under)) in
      let q : first_child d r + (c - first_child d r) ≡ c = omega (arith, s.from) in
      (omega (arith, s.under, w.within), m, omega (arith, rw q at p, m, s.from))

-- children by name: the row that is found has the name, and its own number finds it again
module _ (d : List ℕ) (r : ℕ) (t : List ℕ) (w : Family d r) where
  pub named-child : (c : ℕ) → child_named d r t ≡ Some c → (c < entries d) × (name d c ≡ t) × (child_numbered d r (number_in d c) ≡ Some c)
  unfolding child_named
  named-child c e =
      let s = seek_found (has_name d t) (child_count d r) (first_child d r) c e in
      let q : first_child d r + (c - first_child d r) ≡ c = omega (arith, s.from) in
      let p = w.each_in_turn (c - first_child d r) (omega (arith, s.from, s.under)) in
      let m : number_in d c ≡ c - first_child d r = rw q at p in
      let k = number-known d r (number_in d c) w (omega (arith, m, s.from, s.under)) in
      (omega (arith, s.under, w.within), same_true _ _ s.passes, k ∙ ap Some (omega (arith, m, s.from)))

-- two children of one name are one
pub sibling : (d : List ℕ) (row p q : ℕ) → Members d row → p < child_count d row → q < child_count d row → name d (first_child d row + p) ≡ name d (first_child d row + q) → p ≡ q
sibling d row p q m h g e = go (ltb p q) (ltb q p) refl refl
  where
    go : (a b : Bool) → ltb p q ≡ a → ltb q p ≡ b → p ≡ q
    go true b f k = absurd (m.differ q p (ltb-true p q f) g e)
    go false true f k = absurd (m.differ p q (ltb-true q p k) h (sym e))
    go false false f k = omega (arith, ltb-false p q f, ltb-false q p k)

-- so a child is found by its name
pub named-known : (d : List ℕ) (row n : ℕ) → Family d row → Members d row → n < child_count d row → child_named d row (name d (first_child d row + n)) ≡ Some (first_child d row + n)
unfolding child_named
named-known d row n w m h =
    let t = name d (first_child d row + n) in
    let o = seek-some (has_name d t) (child_count d row) (first_child d row) (first_child d row + n) (same_refl t) (omega arith) (omega arith) in
    o.1 ∙ ap Some (one o.0 (seek_found (has_name d t) (child_count d row) (first_child d row) o.0 o.1))
  where
    one : (c : ℕ) → Sought (has_name d (name d (first_child d row + n))) (child_count d row) (first_child d row) c → c ≡ first_child d row + n
    one c s =
        let q : first_child d row + (c - first_child d row) ≡ c = omega (arith, s.from) in
        let e : name d (first_child d row + (c - first_child d row)) ≡ name d (first_child d row + n) = rw q (same_true (name d c) (name d (first_child d row + n)) s.passes) in
        let z = sibling d row (c - first_child d row) n m (omega (arith, s.from, s.under)) h e in
        omega (arith, z, s.from)
