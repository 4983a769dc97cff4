-- Demand 3 rests on demand 2's tables: a desk that ignores calls swaps any two of them (`ignoring_swaps`) and mixes any lists (`ignoring_mixes`), with one answer
-- for each call and with the desk's own answers, and breaks the tables, whatever it answers (`ignoring_disobeys`). What keeps them is the desk alone (`obeys_once`).
-- Assumes nothing.
use Prim.Native.Nat.{ℕ, ◌+◌, ◌≤◌}
use mathlib.Core.Path.{◌≡◌, refl, sym, ap, ◌∙◌}
use mathlib.Core.List.{List, []}
use native.Mathlib.Omega.{arith}
use lib.ListN.{length}
use Rattle.paper.specs.Limits.{desk_most}
use Rattle.swapping.specs.Calls.{Touches, Either, own, Roomy, Alike}
use Rattle.swapping.proofs.Swapping as Swapping
use Rattle.swapping.proofs.Mixing as Mixing
use Rattle.desk_records.specs.Record.{create, triggered, running}
use Rattle.desk.specs.declared.Desk.{Desk}
use Rattle.desk.specs.Calls.{Moved}
use Rattle.desk.specs.Desk.{put, fresh_desk}
use Rattle.desk.proofs.Answered.{start-moves}
use Rattle.desk_laws.specs.View.{Kept}
use Rattle.desk_laws.specs.State.{Call, call, to_start, Answer, Done, makes, make, vacant, opens_of}
use Rattle.desk_laws.specs.Refusing.{Obeys, record_at, refusal_with}
use Rattle.desk_laws.specs.Ignoring.{ignores, ignoring, says_one, says_right}
use Rattle.desk_laws.proofs.Touching.{touches}
use Rattle.desk_laws.proofs.Refusing.{answers, answered}

-- each call touches its own number alone, as it touches nothing: whether it has one answer ..
pub one_touches : (x : Call → Answer) (c : Call) → Touches (ignoring (says_one x)) c
one_touches x c = record {
  decides = λ f v. x c;
  becomes = λ y v. v;
  refusal = x c;
  answers = λ k g r. refl;
  here = λ k g. refl;
  others = λ k g n ne. refl;
  good = λ k g. g;
  same = λ k g. refl;
  fills = λ k g. omega arith;
  refused = λ k s. refl;
  stays = λ k s. refl;
}

-- .. or the desk's own
pub right_touches : (c : Call) → Touches (ignoring says_right) c
right_touches c = record {
  decides = (touches c).decides;
  becomes = λ y v. v;
  refusal = (touches c).refusal;
  answers = λ k g r. (touches c).answers k (record { whole = g.whole; right = g.right }) r;
  here = λ k g. refl;
  others = λ k g n ne. refl;
  good = λ k g. g;
  same = λ k g. refl;
  fills = λ k g. omega arith;
  refused = (touches c).refused;
  stays = λ k s. refl;
}

module _ (x : Call → Kept → Answer) (t : (c : Call) → Touches (ignoring x) c) where
  pub ignoring_swaps : (f g : Call) → (f.named ≡ g.named → ⊥) → (k : Kept) → length k.desk.records ≡ desk_most
      → opens_of f.asked + opens_of g.asked ≤ vacant k.desk.records → Either (ignoring x) f g k
  ignoring_swaps f g ne k l room = Swapping.swap (ignoring x) f g (t f) (t g) ne k l room

  pub ignoring_mixes : (k : Kept) → length k.desk.records ≡ desk_most → (cs ds : List Call) → ((n : ℕ) → own (ignoring x) n cs ≡ own (ignoring x) n ds)
      → Roomy (ignoring x) k cs → Roomy (ignoring x) k ds → Alike (ignoring x) k cs ds
  ignoring_mixes k l cs ds same a b = Mixing.mixing (ignoring x) t k l cs ds same a b

-- the desk keeps the tables, and whatever keeps them does what the desk does
pub desk_obeys : Obeys make
desk_obeys c s l = answers c s l

pub obeys_once : (f : Call → Kept → Done) → Obeys f → (c : Call) (s : Kept) → length s.desk.records ≡ desk_most → f c s ≡ make c s
obeys_once f o c s l = sym (answered c s l (f c s) (o c s l))

-- the operation 7 in the second place, triggered
abbrev waiting : ℕ → Desk
waiting state = put fresh_desk 1 (record { number = 7; kind = create; state = state; declared = 5; received = 5; due = 0 })

abbrev before : Kept
before = record { desk = waiting triggered; store = [] }

-- "start: 2 to 3"
start-made : (make (call 7 to_start) before).kept.desk ≡ waiting running
unfolding makes
start-made = ap (λ (m : Moved). m.desk) start-moves

pub ignoring_disobeys : (x : Call → Kept → Answer) → Obeys (ignores x) → ⊥
ignoring_disobeys x o =
    let e = obeys_once (ignores x) o (call 7 to_start) before refl in
    let f : waiting triggered ≡ waiting running = ap (λ (y : Done). y.kept.desk) e ∙ start-made in
    let g : ◌≡◌ {A = ℕ} triggered running = ap (λ (d : Desk). (record_at d 1).state) f in
    omega arith

-- a desk that refuses everything, with any number
pub refusing_disobeys : (k : ℕ) → Obeys (ignores (says_one (λ c. refusal_with c.asked k))) → ⊥
refusing_disobeys k = ignoring_disobeys (says_one (λ c. refusal_with c.asked k))
