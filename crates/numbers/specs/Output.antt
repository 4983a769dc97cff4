-- Inside the code's contracts alone: nobody needs to believe this page.
-- What the functions that write say of an output: a lent buffer, and the place up to which it is written.
--   Room o t       t fits behind what is written
--   Added o t o'   t is written behind it, and the buffer is the same
use Rattle.std.specs.Prelude.{ℕ, ◌+◌, ◌≤◌, ◌≡◌, List, length}
use Rattle.numbers.specs.declared.output.Output.{Output}
use Rattle.numbers.specs.Met.{Wrote}

abbrev pub Room : Output → List ℕ → Type 0
Room o t = o.pos + length t ≤ length o.buf.now

pub record Added (o : Output) (t : List ℕ) (o' : Output) : Type 0 where
  pub same : o'.buf.ghost_name ≡ o.buf.ghost_name
  pub wrote : Wrote o.buf.now o.pos t o'.pos o'.buf.now
