-- Inside the code's contracts alone: nobody needs to believe this page.
-- The checker's marks: one a row, so that no two siblings are compared twice, whichever parents share them.
--   Settled d j       what a mark says
--   Marks d marks     the marks are true
use Rattle.std.specs.Prelude.{ℕ, suc, ◌-◌, ◌≤◌, ◌≡◌, List, true, get_or}
use Rattle.paper.specs.Tests.{all}
use Rattle.dictionary.specs.Rows.{number_in}
use Rattle.dictionary.specs.Accepts.{member}

-- the row j and all its elder siblings were found to sit well; so any parent of j that counts on its number begins where j's number says
pub record Settled (d : List ℕ) (j : ℕ) : Type 0 where
  pub elder : number_in d j ≤ j
  pub fine : all (suc (number_in d j)) (member d (j - number_in d j)) ≡ true

-- the marks, one a row, are true to the dictionary
pub record Marks (d marks : List ℕ) : Type 0 where
  pub told : (j : ℕ) → (get_or marks j 0 ≡ 0 → ⊥) → Settled d j
