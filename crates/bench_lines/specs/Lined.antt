-- Inside the code's contracts alone: nobody needs to believe this page.
-- What a line is.
--   bytes_of l   a line's bytes, or the front's of one that is longer than the buffer
use Rattle.std.specs.Prelude.{ℕ, List}
use Rattle.bench_lines.specs.declared.lines.Line.{Line}
use Rattle.bench_lines.specs.declared.lines.Line.TheVariants.{Whole, Long}

abbrev pub bytes_of : Line → List ℕ
bytes_of (Whole s) = s.now
bytes_of (Long s) = s.now
