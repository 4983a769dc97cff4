-- Inside the code's contracts alone: nobody needs to believe this page.
-- Fields of a line, parted by one byte.
--   field x k s    the part after k separators, empty where there are fewer
--   count_of x s   how many separators there are
use Rattle.std.specs.Prelude.{ℕ, List, [], ◌==◌, count_by, slice_get}
use Rattle.std.specs.Option.{unwrap_or}
use Rattle.std.specs.List.{slice_split}

abbrev pub field : ℕ → ℕ → List ℕ → List ℕ
field x k s = unwrap_or (slice_get (slice_split (λ c. c == x) s) k) []

abbrev pub count_of : ℕ → List ℕ → ℕ
count_of x s = count_by (λ c. c == x) s
