-- Laws of `laid`: values laid into a lent row.
-- Assumes nothing.
use Rattle.std.proofs.Common.{◌≡◌, ◌<◌, ◌≤◌, ℕ, zero, suc, ◌+◌, List, [], ◌∷◌, length, take, slice_set, slice_index_or, refl, sym, ap, ◌∙◌, arith}
use Rattle.paper.specs.Lending.{laid}

module _ {A : Type 0} where
  pub laid_none : (row : List A) → laid [] row ≡ row
  unfolding laid
  laid_none row = refl

  pub laid-long : (values row : List A) → length (laid values row) ≡ length row
  unfolding laid
  laid-long [] row = refl
  laid-long (v ∷ values) [] = refl
  laid-long (v ∷ values) (x ∷ row) = ap suc (laid-long values row)

  laid-put : (values row : List A) (i : ℕ) (v : A) → i < length values → i < length row → v ≡ slice_index_or values i v → slice_set (laid (take i values) row) i v ≡ laid (take (suc i) values) row
  unfolding laid
  laid-put [] row i v h k e = absurd (omega (arith, h))
  laid-put (x ∷ values) [] i v h k e = absurd (omega (arith, k))
  laid-put (x ∷ values) (y ∷ row) zero v h k e = ap (λ t. t ∷ row) e
  laid-put (x ∷ values) (y ∷ row) (suc i) v h k e = ap (λ t. x ∷ t) (laid-put values row i v (omega (arith, h)) (omega (arith, k)) e)

  laid-over : (values row : List A) (i : ℕ) → length row ≤ i → laid (take i values) row ≡ laid values row
  unfolding laid
  laid-over [] row zero k = refl
  laid-over [] row (suc i) k = refl
  laid-over (x ∷ values) [] zero k = refl
  laid-over (x ∷ values) [] (suc i) k = refl
  laid-over (x ∷ values) (y ∷ row) zero k = absurd (omega (arith, k))
  laid-over (x ∷ values) (y ∷ row) (suc i) k = ap (λ t. x ∷ t) (laid-over values row i (omega (arith, k)))

  -- one value more, in its place
  pub laid_more : (values row now : List A) (i : ℕ) (v : A) → now ≡ laid (take i values) row → i < length values → i < length now → v ≡ slice_index_or values i v → slice_set now i v ≡ laid (take (i + 1) values) row
  laid_more values row now i v e h k g = let next : suc i ≡ i + 1 = omega arith in rw e (laid-put values row i v h (omega (arith, k, ap length e, laid-long (take i values) row)) g ∙ ap (λ (j : ℕ). laid (take j values) row) next)

  -- and where the row has none
  pub laid_past : (values row now : List A) (i : ℕ) → now ≡ laid (take i values) row → length now ≤ i → now ≡ laid (take (i + 1) values) row
  laid_past values row now i e k = let long : length row ≤ i = omega (arith, k, ap length e, laid-long (take i values) row) in e ∙ laid-over values row i long ∙ sym (laid-over values row (i + 1) (omega (arith, long)))

  laid-whole : (values row : List A) (i : ℕ) → length values ≡ length row → length values ≤ i → laid (take i values) row ≡ values
  unfolding laid
  laid-whole [] [] zero e k = refl
  laid-whole [] [] (suc i) e k = refl
  laid-whole [] (y ∷ row) i e k = absurd (omega (arith, e))
  laid-whole (x ∷ values) [] i e k = absurd (omega (arith, e))
  laid-whole (x ∷ values) (y ∷ row) zero e k = absurd (omega (arith, k))
  laid-whole (x ∷ values) (y ∷ row) (suc i) e k = ap (λ t. x ∷ t) (laid-whole values row i (omega (arith, e)) (omega (arith, k)))

  -- as many as the row has
  pub laid_whole : (values row now : List A) (i : ℕ) → now ≡ laid (take i values) row → length values ≤ i → length values ≡ length row → now ≡ values
  laid_whole values row now i e k h = e ∙ laid-whole values row i h k
