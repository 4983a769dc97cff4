-- Inside the code's contracts alone: nobody needs to believe this page.
-- What the functions on lengths answer.
--   Long x most r    a length, and its bound
use Rattle.std.specs.Prelude.{ℕ, ◌≤◌, ◌≡◌}

pub record Long (x most r : ℕ) : Type 0 where
  pub same : r ≡ x
  pub small : r ≤ most
