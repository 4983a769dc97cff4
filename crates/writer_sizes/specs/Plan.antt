-- Inside the code's contracts alone: nobody needs to believe this page.
-- What the first pass keeps for the second.
--   alone x        a tuple, as the one member of a run
--   kept n         a number as a slot of two bytes keeps it: their most where it is more, which is above the table's limit
--   plan t         for each group with members, in the order of opening: the number of bytes of its V, and of its members
--   slots_most      no plan of a payload within the table's limit has more: a group with members has seven bytes beside them, and two slots
--   tuple_long n v  how many bytes a tuple has whose V has v bytes
use Rattle.std.specs.Prelude.{ℕ, ◌+◌, ◌*◌, ◌/◌, min, List, [], ◌∷◌, ◌++◌, length, eqb}
use Rattle.paper.specs.Limits.{payload_most}
use Rattle.paper.specs.Checks.{choose}
use Rattle.numbers.specs.Number.{number_of}
use Rattle.payload.specs.Tree.{Tuples, none, scalar, inner, size}
use Rattle.payload.specs.Reading.{Single, before}
use Rattle.text.specs.Shortest.{shortest}

abbrev pub alone : Single → Tuples
alone x = before x none

abbrev pub slot_most : ℕ
slot_most = 65535

abbrev pub kept : ℕ → ℕ
kept n = min n slot_most

unfoldable pub group_long : Tuples → ℕ
group_long t = length (number_of (size t)) + length (shortest t)

unfoldable pub plan : Tuples → List ℕ
plan none = []
plan (scalar n x rest) = plan rest
plan (inner n g kids rest) = choose (eqb (size kids) 0) (λ _. []) (λ _. kept (group_long kids) ∷ kept (size kids) ∷ plan kids) ++ plan rest

unfoldable pub tuple_long : ℕ → ℕ → ℕ
tuple_long n v = length (number_of (2 * n)) + 1 + length (number_of v) + v

abbrev pub slots_most : ℕ
slots_most = payload_most / 7 * 2
