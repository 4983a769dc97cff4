-- What the contracts of the functions in src/ say.
--   Lent s r bs'            the number and the desk's bytes after a call are those of s
--   LentStore s r bs' st'   so is the store
--   LentRow s row r row'    the number is that of s, and its values are laid into the row
--   Written bs m r bs'      the bytes after a call that answered m
use Rattle.std.specs.Prelude.{ℕ, ◌≡◌, cond, List, length, eqb}
use Rattle.paper.specs.Refusals.{accepted}
use Rattle.paper.specs.Lending.{laid}
use Rattle.desk.specs.Calls.{Moved}
use Rattle.desk_bytes.specs.Bytes.{desk_bytes, encode}
use Rattle.desk_calls.specs.Served.{Served}

pub record Lent (s : Served) (r : ℕ) (bs' : List ℕ) : Type 0 where
  pub number : r ≡ s.number
  pub desk : bs' ≡ s.desk

pub record LentStore (s : Served) (r : ℕ) (bs' st' : List ℕ) : Type 0 where
  pub number : r ≡ s.number
  pub desk : bs' ≡ s.desk
  pub store : st' ≡ s.store

pub record LentRow (s : Served) (row : List ℕ) (r : ℕ) (row' : List ℕ) : Type 0 where
  pub number : r ≡ s.number
  pub values : row' ≡ laid s.values row

-- a refusal leaves the bytes; so do bytes of another length, which hold no desk
pub record Written (bs : List ℕ) (m : Moved) (r : ℕ) (bs' : List ℕ) : Type 0 where
  pub number : r ≡ m.number
  pub bytes : bs' ≡ cond (eqb m.number accepted) (cond (eqb (length bs) desk_bytes) (encode m.desk) bs) bs
