-- Bytes that lie in a list from one place to another, and a number that lies there.
--   Lies s b p q      the bytes b are those of s from p to q
--   Read s p e n q    the number n lies in s from p to q, and q is not past e
use Rattle.std.specs.Prelude.{ℕ, ◌+◌, ◌<◌, ◌≤◌, ◌≡◌, List, ◌++◌, length, drop}
use Rattle.numbers.specs.Number.{Number}

pub record Lies (s b : List ℕ) (p q : ℕ) : Type 0 where
  pub start : p ≤ length s
  pub stands : drop p s ≡ b ++ drop q s
  pub ends : q ≡ p + length b

pub record Read (s : List ℕ) (p e n q : ℕ) : Type 0 where
  pub bytes : List ℕ
  pub lies : Lies s bytes p q
  pub writes : Number n bytes
  pub within : q ≤ e
  pub further : p < q
