-- Inside the code's contracts alone: nobody needs to believe this page.
-- What the functions of the second pass ask and answer.
--   Ready, Rendered     the second pass may begin; and what it leaves
use Rattle.std.specs.Prelude.{ℕ, ◌+◌, ◌^◌, ◌≤◌, ◌<◌, ◌≡◌, List, ◌++◌, length, drop}
use Rattle.paper.specs.Limits.{payload_most}
use Rattle.paper.specs.Checks.{Judged, refused, good}
use Rattle.numbers.specs.declared.output.Output.{Output}
use Rattle.numbers.specs.Output.{Room, Added}
use Rattle.payload.specs.Tree.{Tuples, none}
use Rattle.payload.specs.Reading.{Single}
use Rattle.text.specs.Shortest.{shortest}
use Rattle.text.specs.Writing.{value_at, inside_of}
use Rattle.writer_parse.specs.Met.{Site}
use Rattle.writer_sizes.specs.Plan.{alone, plan}
use Rattle.writer_render.specs.declared.Place.{Place}

-- the parts of a result
abbrev pub place_of : Judged Single → ℕ
place_of (refused a w) = 0
place_of (good q l x) = q

abbrev pub tree_in : Judged Single → Tuples
tree_in (refused a w) = none
tree_in (good q l x) = alone x

abbrev pub Taken : Judged Single → Type 0
Taken (refused a w) = ⊥
Taken (good q l x) = Unit {0}

pub record Ready (d s slots : List ℕ) (room row n : ℕ) (from : Place) (o : Output) : Type 0 where
  pub site : Site d s row from.at
  pub number : n < 2 ^ 31
  pub taken : Taken (value_at d s (inside_of d s room) n row from.at)
  pub post : List ℕ
  pub holds : drop from.slot slots ≡ plan (tree_in (value_at d s (inside_of d s room) n row from.at)) ++ post
  pub few : length (shortest (tree_in (value_at d s (inside_of d s room) n row from.at))) ≤ payload_most
  pub has_room : Room o (shortest (tree_in (value_at d s (inside_of d s room) n row from.at)))

pub record Rendered (d s : List ℕ) (room row n : ℕ) (from : Place) (o : Output) (to : Place) (o' : Output) : Type 0 where
  pub next : to.at ≡ place_of (value_at d s (inside_of d s room) n row from.at)
  pub further : from.at ≤ to.at
  pub within : to.at ≤ length s
  pub slots : to.slot ≡ from.slot + length (plan (tree_in (value_at d s (inside_of d s room) n row from.at)))
  pub put : Added o (shortest (tree_in (value_at d s (inside_of d s room) n row from.at))) o'
