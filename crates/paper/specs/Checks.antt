-- How an order of checks is written down. What comes after a check waits behind `λ _.`, so that a definition stops computing where the paper stops reading.
--   choose t a b    a where t holds, else b
--   Judged A        refused, with number and place; or A, with the place after it and the budget left
--   refuse, need    a check that refuses where its test holds; one that refuses where it fails
--   after           goes on where the part before was accepted
use Rattle.std.specs.Prelude.{ℕ, Bool, true, false}

abbrev pub choose {ℓ} : {A : Type ℓ} → Bool → (Unit {0} → A) → (Unit {0} → A) → A
choose true a b = a tt
choose false a b = b tt

pub data Judged (A : Type 0) : Type 0 where
  refused : ℕ → ℕ → Judged A
  good : ℕ → ℕ → A → Judged A

abbrev pub refuse : {A : Type 0} → Bool → ℕ → ℕ → (Unit {0} → Judged A) → Judged A
refuse true number place rest = refused number place
refuse false number place rest = rest tt

abbrev pub need : {A : Type 0} → Bool → ℕ → ℕ → (Unit {0} → Judged A) → Judged A
need true number place rest = rest tt
need false number place rest = refused number place

abbrev pub after : {A B : Type 0} → Judged A → (ℕ → ℕ → A → Judged B) → Judged B
after (refused number place) f = refused number place
after (good next left x) f = f next left x
