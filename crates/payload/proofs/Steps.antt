-- One step of each recursion of the answers and of the text, at a loop's numbers: n tuples of which i are done.
-- Assumes nothing.
--   run_more, run-done      the tuples that are left
--   inside-deep, inside_at  the value of a set or array, without and with nesting left
--   inside-ends             an accepted value ends where it has to
--   tree-at                 the root, and nothing after it
--   one_long, before-long    how long the text of a run is, by its first tuple
use Prim.Native.Nat.{ℕ, zero, suc, ◌+◌, ◌-◌, ◌<◌, ◌≤◌}
use mathlib.Core.Path.{◌≡◌, refl, sym, ap}
use mathlib.Core.List.{List, [], ◌∷◌, ◌++◌}
use native.Mathlib.Omega.{arith}
use native.Mathlib.Numerals.{add-one}
use lib.ListN.{length, length-append}
use lib.Dec.{eqb}
use Rattle.paper.specs.Refusals.{value_wrong, too_deep, after_root}
use Rattle.paper.specs.Checks.{Judged, refused, good, need, after}
use Rattle.numbers.specs.Number.{number_at}
use Rattle.payload.specs.Tree.{Tuples, none}
use Rattle.payload.specs.Fits.{child}
use Rattle.payload.specs.Text.{opens, closes, word, label, comma_at, text_of}
use Rattle.payload.specs.Reading.{Single, plain, group, number_for, before, number, tuple_at, run, inside_of, root_at, tree_of}
use Rattle.paper.proofs.Checks.{never, same_place, needed, followed}
use Rattle.payload.proofs.Taken.{numbered}

module _ (d s : List ℕ) where
  module _ (tuple : ℕ → ℕ → List ℕ → ℕ → ℕ → ℕ → Judged Single) (row n i : ℕ) (seen : List ℕ) (p e l : ℕ) where
    pub run_more : i < n → run d s tuple row (n - i) i seen p e l ≡ after (tuple row i seen p e l) (λ q m x. after (run d s tuple row (n - (i + 1)) (i + 1) (number_for x ∷ seen) q e m) λ z k rest. good z k (before x rest))
    unfolding run
    run_more h =
        let k : n - i ≡ suc (n - (i + 1)) = omega arith in
        rw add-one (ap (λ (j : ℕ). run d s tuple row j i seen p e l) (rw add-one at k))

    pub run-done : n ≤ i → run d s tuple row (n - i) i seen p e l ≡ good p l none
    unfolding run
    run-done h = let k : n - i ≡ 0 = omega arith in ap (λ (j : ℕ). run d s tuple row j i seen p e l) k

  module _ (room row at p q l : ℕ) where
    pub inside-deep : room ≡ 0 → inside_of d s room row at p q l ≡ refused too_deep at
    unfolding inside_of
    inside-deep h = rw h

    pub inside_at : (room ≡ 0 → ⊥) → inside_of d s room row at p q l ≡ number (number_at s p q) at p (λ n first. after (run d s (tuple_at d s (inside_of d s (room - 1))) row n 0 [] first q l) λ z m kids. need (eqb z q) value_wrong at λ _. good q m kids)
    unfolding inside_of
    inside_at h = let k : room ≡ suc (room - 1) = omega arith in ap (λ (j : ℕ). inside_of d s j row at p q l) k

  pub inside-ends : (room row at p q l z m : ℕ) (kids : Tuples) → inside_of d s room row at p q l ≡ good z m kids → z ≡ q
  unfolding inside_of
  inside-ends zero row at p q l z m kids e = never e
  inside-ends (suc room) row at p q l z m kids e =
      let a = numbered z m kids (number_at s p q) _ _ _ e in
      let b = followed z m kids (run d s (tuple_at d s (inside_of d s room)) row a.0 0 [] (p + 1 + a.1) q l) _ a.3 in
      let c = needed z m kids (eqb b.0 q) _ _ _ b.4 in
      sym (same_place c.1)

  pub tree-at : (budget : ℕ) → tree_of d s budget ≡ after (root_at d s budget) (λ z l t. need (eqb z (length s)) after_root z λ _. good z l t)
  unfolding tree_of
  tree-at budget = refl

-- the text of one tuple's value
abbrev pub one_long : List ℕ → ℕ → Single → ℕ
one_long d row (plain n x) = length (word d (child d row n) x)
one_long d row (group n g kids) = 2 + length (text_of d kids (child d row n) 0)

module _ (d : List ℕ) (row i : ℕ) where
  pub none-long : length (text_of d none row i) ≡ 0
  unfolding text_of
  none-long = refl

  pub before-long : (x : Single) (rest : Tuples) → length (text_of d (before x rest) row i) ≡ length (comma_at i) + length (label d row (number_for x)) + one_long d row x + length (text_of d rest row (i + 1))
  unfolding text_of
  before-long (plain n x) rest = rw add-one (parts (comma_at i) (label d row n) (word d (child d row n) x) (text_of d rest row (suc i)))
    where
      parts : (a b c e : List ℕ) → length (a ++ (b ++ (c ++ e))) ≡ length a + length b + length c + length e
      parts a b c e = omega (arith, length-append a (b ++ (c ++ e)), length-append b (c ++ e), length-append c e)
  before-long (group n g kids) rest = rw add-one (parts (comma_at i) (label d row n) (opens g) (text_of d kids (child d row n) 0) (closes g) (text_of d rest row (suc i)))
    where
      parts : (a b : List ℕ) (o : ℕ) (k : List ℕ) (z : ℕ) (e : List ℕ) → length (a ++ (b ++ ((o ∷ (k ++ (z ∷ []))) ++ e))) ≡ length a + length b + (2 + length k) + length e
      parts a b o k z e = omega (arith, length-append a (b ++ ((o ∷ (k ++ (z ∷ []))) ++ e)), length-append b ((o ∷ (k ++ (z ∷ []))) ++ e), length-append (o ∷ (k ++ (z ∷ []))) e, length-append k (z ∷ []))
