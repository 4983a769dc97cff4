-- Demand 3 for the desk's calls: a call leaves every other number as it was, two calls on different numbers may be swapped, any mixing comes to the same,
-- and what there is of a number follows from its own calls and their answers. Each is the theorem of crate swapping, for the desk's calls.
-- Assumes nothing.
use Prim.Native.Nat.{ℕ, ◌+◌, ◌≤◌}
use mathlib.Core.Path.{◌≡◌}
use mathlib.Core.List.{List}
use lib.ListN.{length}
use Rattle.paper.specs.Limits.{desk_most}
use Rattle.swapping.specs.Calls.{Either, run, answers_to, own, Roomy, Alike}
use Rattle.swapping.proofs.Swapping as Swapping
use Rattle.swapping.proofs.Mixing as Mixing
use Rattle.desk_laws.specs.View.{GoodDesk, Kept, Seen, see}
use Rattle.desk_laws.specs.State.{Call, Answer, make, vacant, opens_of, desk_calls}
use Rattle.desk_laws.proofs.Touching.{good-desk, good-kept, touches}

pub sound-stays : (c : Call) (k : Kept) → GoodDesk k.desk → GoodDesk (make c k).kept.desk
sound-stays c k g = good-desk (make c k).kept ((touches c).good k (good-kept k g))

-- what a call leaves of every other number, on any desk and store
pub own_story : (c : Call) (k : Kept) → length k.desk.records ≡ desk_most → (n : ℕ) → (n ≡ c.named → ⊥) → see n (make c k).kept ≡ see n k
own_story c k l n ne = Swapping.own_story desk_calls c (touches c) k l n ne

pub swap : (f g : Call) → (f.named ≡ g.named → ⊥) → (k : Kept) → length k.desk.records ≡ desk_most
    → opens_of f.asked + opens_of g.asked ≤ vacant k.desk.records → Either desk_calls f g k
swap f g ne k l room = Swapping.swap desk_calls f g (touches f) (touches g) ne k l room

pub mixing : (k : Kept) → length k.desk.records ≡ desk_most → (cs ds : List Call) → ((n : ℕ) → own desk_calls n cs ≡ own desk_calls n ds)
    → Roomy desk_calls k cs → Roomy desk_calls k ds → Alike desk_calls k cs ds
mixing k l cs ds same a b = Mixing.mixing desk_calls touches k l cs ds same a b

-- what its own calls and their answers make of what there was of a number
abbrev pub seen_after : Seen → List Call → List Answer → Seen
seen_after = Mixing.seen_after desk_calls touches

pub seen-after : (n : ℕ) (cs : List Call) (k : Kept) → GoodDesk k.desk → see n (run desk_calls k cs) ≡ seen_after (see n k) (own desk_calls n cs) (answers_to desk_calls n k cs)
seen-after n cs k g = Mixing.seen-after desk_calls touches n cs k (good-kept k g)
