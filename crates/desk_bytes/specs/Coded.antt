-- What the contracts of the functions that read and write a desk's bytes say.
--   Spells s at width r    r is the number in so many bytes from `at` on
--   Encoded d out r after  the desk's bytes, or the buffer as it was
use Rattle.std.specs.Prelude.{ℕ, ◌^◌, ◌<◌, ◌≡◌, Bool, cond, List, length, take, drop, eqb}
use Rattle.numbers.specs.Bytes.{little}
use Rattle.desk.specs.declared.Desk.{Desk}
use Rattle.desk_bytes.specs.Bytes.{desk_bytes, encode}

pub record Spells (s : List ℕ) (at width r : ℕ) : Type 0 where
  pub same : r ≡ little (take width (drop at s))
  pub small : r < 256 ^ width

-- a buffer of 128 bytes holds the desk after it; another stays as it is
pub record Encoded (d : Desk) (out : List ℕ) (r : Bool) (after : List ℕ) : Type 0 where
  pub good : r ≡ eqb (length out) desk_bytes
  pub left : after ≡ cond r (encode d) out
