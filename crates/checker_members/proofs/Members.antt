-- A child of a set or enum: its name as a part of the bytes, the elders that a mark vouches for, and the mark that it gets.
-- Assumes nothing.
use Prim.Native.Nat.{ℕ, ◌+◌, ◌-◌, ◌<◌}
use mathlib.Core.Path.{◌≡◌, refl, sym, ap, ◌∙◌}
use mathlib.Core.List.{List}
use mathlib.Core.Bool.{Bool, true, false, not}
use native.Mathlib.Omega.{arith}
use native.Mathlib.Numerals.{add-one}
use lib.ListN.{length, get_or, set, take, drop, replicate}
use lib.Seq.{length-slice, get_or-set_other}
use lib.Dec.{eqb}
use lib.Pointwise.{pointwise}
use borrow.Author.Tests.{eq-eqb, eqb-true, eqb-false}
use Rattle.std.proofs.lemmas.Slice.{between_is}
use Rattle.std.proofs.lemmas.List.{nil_from_length}
use Rattle.paper.specs.Tests.{all, Passing}
use Rattle.paper.proofs.Tests.{same-pointwise, and_left, and_right, all_more, split, both_ways, true_so, pass-start}
use Rattle.numbers.proofs.Places.{blank}
use Rattle.dictionary.specs.Rows.{rows_most, number_in, name_length, name_offset, name}
use Rattle.dictionary.specs.Accepts.{differs, in_turn, unlike, member}
use Rattle.dictionary.specs.Met.{Field, Named}
use Rattle.checker_members.specs.Marks.{Settled, Marks}
use Rattle.dictionary.proofs.Naming.{name-inside, name-two, name-long}

-- a name: the k bytes from o on without the last
module _ (d : List ℕ) (n : ℕ) (w : Named d n) (r : ℕ) (h : r < n) (o k : ℕ) (ho : Field (name_offset d r) 65536 o) (hk : Field (name_length d r) 256 k) where
  pub name-part : (m : ℕ) → m ≡ k - 1 → take (o + m - o) (drop o d) ≡ name d r
  unfolding name
  name-part m hm = between_is d o (o + m) ∙ split (eqb k 0) (λ z. let e = eqb-true k 0 z in none (omega arith)) (λ z. some (eqb-false k 0 z))
    where
      none : k ≡ 0 → drop o (take (o + m) d) ≡ name d r
      none z =
          nil_from_length _ (length-slice o (o + m) d (omega (arith, name-inside d n w r h, ho.same, hk.same)) ∙ omega arith)
          ∙ sym (nil_from_length _ (name-long d n w r h ∙ omega (arith, hk.same)))

      some : (k ≡ 0 → ⊥) → drop o (take (o + m) d) ≡ name d r
      some x =
          let e : o + m ≡ name_offset d r + name_length d r - 1 = omega (arith, ho.same, hk.same) in
          rw (e, ho.same)

-- a name unlike its elders'
pub differs_by : (d : List ℕ) (first p q : ℕ) (a b : List ℕ) (r : Bool) → a ≡ name d (first + q) → b ≡ name d (first + p) → r ≡ not (pointwise eqb a b) → r ≡ differs d first p q
differs_by d first p q a b r e f g = g ∙ ap not (same-pointwise a b ∙ rw (e, f))

module _ (d : List ℕ) (n : ℕ) (w : Named d n) (first p : ℕ) (h : first + p < n) (own : List ℕ) (e : own ≡ name d (first + p)) where
  nameless : eqb (length own) 0 ≡ eqb (name_length d (first + p)) 0
  nameless =
      let l : length own ≡ name_length d (first + p) - 1 = ap length e ∙ name-long d n w (first + p) h in
      both_ways _ _
      (λ t. true_so _ λ f. let z = eqb-true _ 0 t in let k = name-two d n w (first + p) h (eqb-false _ 0 f) in absurd (omega arith))
      (λ t. let z = eqb-true _ 0 t in eq-eqb _ 0 (omega arith))

  pub elder-none : (t : Bool) → t ≡ eqb (length own) 0 → t ≡ true → not t ≡ unlike d first p
  unfolding unlike
  elder-none t x y = rw (← nameless, ← x, y)

  pub elders_all : (t r : Bool) → t ≡ eqb (length own) 0 → t ≡ false → r ≡ all p (differs d first p) → r ≡ unlike d first p
  unfolding unlike
  elders_all t r x y f = rw (← nameless, ← x, y) f

-- no row is marked yet
pub unmarked : (d : List ℕ) → Marks d (replicate rows_most 0)
unmarked d = record { told = λ j x. absurd (x (blank rows_most j 0)) }

-- a child that sits well gets its mark
settled : (d : List ℕ) (first p : ℕ) → number_in d (first + p) ≡ p → all (p + 1) (member d first) ≡ true → Settled d (first + p)
settled d first p e f =
    let g : first + p - p ≡ first = omega arith in
    record { elder = omega (arith, e); fine = rw (e, g) (rw add-one at f) }

in_place : (d : List ℕ) (first p : ℕ) → member d first p ≡ true → number_in d (first + p) ≡ p
unfolding member in_turn
in_place d first p e = eqb-true (number_in d (first + p)) p (and_left _ _ e)

module _ (d : List ℕ) (first p : ℕ) (m : List ℕ) (km : Marks d m) (b : all p (member d first) ≡ true) (e : member d first p ≡ true) where
  pub marks-more : Marks d (set m (first + p) 1)
  marks-more = record { told = λ j x. there j x (eqb j (first + p)) refl }
    where
      now : Settled d (first + p)
      now = settled d first p (in_place d first p e) (all_more (member d first) p b e)

      there : (j : ℕ) → (get_or (set m (first + p) 1) j 0 ≡ 0 → ⊥) → (c : Bool) → eqb j (first + p) ≡ c → Settled d j
      there j x true h = rw (eqb-true j (first + p) h) now
      there j x false h = km.told j (rw (get_or-set_other m (first + p) j 1 0 (eqb-false j (first + p) h)) at x)

-- a mark of a child that has its number vouches for all its elders
module _ (d : List ℕ) (first count p : ℕ) (m : List ℕ) (km : Marks d m) where
  pub front-here : p < count → (get_or m (first + p) 0 ≡ 0 → ⊥) → (k : ℕ) → Field (number_in d (first + p)) 65536 k → k ≡ p → Passing (member d first) count (p + 1)
  front-here h x k hk e = record { within = omega arith; passed = by (km.told (first + p) x) }
    where
      by : Settled d (first + p) → all (p + 1) (member d first) ≡ true
      by s =
          let f : number_in d (first + p) ≡ p = sym hk.same ∙ e in
          let g : first + p - p ≡ first = omega arith in
          rw (← add-one) at (rw (f, g) at s.fine)

pub ruleset fronts = (pass-start, front-here)
