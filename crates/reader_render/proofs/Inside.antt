-- The value of a set or array that the answers' own definition accepts: whatever budget suffices, the tree that it finds is the same.
-- Assumes nothing.
--   budget_free    a budget that suffices finds the same tree
--   count-bytes    the payload's length is one
use mathlib.Core.Path.{◌≡◌}
use mathlib.Core.List.{List, []}
use Prim.Native.Nat.{ℕ, zero, suc, ◌-◌, ◌≤◌}
use native.Mathlib.Omega.{arith}
use lib.ListN.{length}
use Rattle.paper.specs.Checks.{good}
use Rattle.numbers.specs.Bytes.{Bytes}
use Rattle.payload.specs.Tree.{Tuples, count}
use Rattle.payload.specs.Reading.{inside_of}
use Rattle.payload.proofs.Lying.{lies-end}
use Rattle.payload.proofs.Complete.{run_complete, value_complete}
use Rattle.payload.proofs.Sound.{Inside, inside-sound}
use Rattle.payload.proofs.Longest.{count-few, cut_size}

module _ (d s : List ℕ) (hb : Bytes s) where
  -- a value has fewer tuples than the payload has bytes
  inside-few : (room row p q l m : ℕ) (t : Tuples) → Inside d room s row p q l m t → count t ≤ length s
  inside-few room row p q l m t i = omega (arith, count-few t i.written.back i.written.rest, cut_size i.bytes i.written, i.lies.ends, lies-end i.lies)

  pub budget_free : (room row at p q l z m : ℕ) (t : Tuples) → q ≤ length s → inside_of d s room row at p q l ≡ good z m t → (b at' : ℕ) → count t ≤ b → inside_of d s room row at' p q b ≡ good q (b - count t) t
  budget_free room row at p q l z m t hq y b at' hb' = go room (inside-sound d s hb room row at p q l z m t hq y).1
    where
      go : (room : ℕ) → Inside d room s row p q l m t → inside_of d s room row at' p q b ≡ good q (b - count t) t
      go zero i = absurd (omega (arith, i.shallow))
      go (suc room) i =
          value_complete d s i.bytes room row at' p q b t i.lies i.written
          λ j y. run_complete d t room s i.written.back row 0 [] j q q b i.written.rest i.fitting y (omega arith) (omega (arith, i.shallow)) hb'

  pub count-bytes : (room row at p q l z m : ℕ) (t : Tuples) → q ≤ length s → inside_of d s room row at p q l ≡ good z m t → count t ≤ length s
  count-bytes room row at p q l z m t hq y = inside-few room row p q l m t (inside-sound d s hb room row at p q l z m t hq y).1
