-- One outcome: what two runs of a call over a desk's bytes may answer and leave, each by its contract, is the same in every part.
-- Assumes nothing.
--   lent_once          of open, start, finish, take, kill and close: number and bytes
--   lent_store_once    of feed: the store too
--   lent_row_once      of status and list: number and row
use Prim.Native.Nat.{ℕ}
use mathlib.Core.Path.{◌≡◌, sym, ◌∙◌}
use mathlib.Core.List.{List}
use Rattle.desk_calls.specs.Served.{Served}
use Rattle.desk_calls.specs.Met.{Lent, LentStore, LentRow}

pub lent_once : (s : Served) (r r₂ : ℕ) (bs bs₂ : List ℕ) → Lent s r bs → Lent s r₂ bs₂ → (r ≡ r₂) × (bs ≡ bs₂)
lent_once s r r₂ bs bs₂ a b = (a.number ∙ sym b.number, a.desk ∙ sym b.desk)

pub lent_store_once : (s : Served) (r r₂ : ℕ) (bs bs₂ st st₂ : List ℕ) → LentStore s r bs st → LentStore s r₂ bs₂ st₂ → (r ≡ r₂) × (bs ≡ bs₂) × (st ≡ st₂)
lent_store_once s r r₂ bs bs₂ st st₂ a b = (a.number ∙ sym b.number, a.desk ∙ sym b.desk, a.store ∙ sym b.store)

pub lent_row_once : (s : Served) (row : List ℕ) (r r₂ : ℕ) (now now₂ : List ℕ) → LentRow s row r now → LentRow s row r₂ now₂ → (r ≡ r₂) × (now ≡ now₂)
lent_row_once s row r r₂ now now₂ a b = (a.number ∙ sym b.number, a.values ∙ sym b.values)
