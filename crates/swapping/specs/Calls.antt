-- Calls that each name one number, made one after the other on what is kept: what demand 3 speaks of, for any kind of call.
--   Calls               a kind of call: what is kept, what a call answers and leaves, and what is seen of a number
--   Good k              what is kept is whole and sound
--   Finds c k           a place is empty if the call opens
--   Touches c           a call touches its own number alone
--   Either f g k        two calls, made on k in either order
--   run, answers_to      the calls of a list, made in turn: what is kept after them, and what those on one number were answered
--   own, Roomy          the calls on one number; a place is empty at every open
--   Reorders cs ds      ds comes from cs where neighbours on different numbers change turns
--   Alike k cs ds       two lists of calls, made on k, come to the same
use Rattle.std.specs.Prelude.{ℕ, ◌+◌, ◌≤◌, ◌≡◌, Bool, true, false, cond, List, [], ◌∷◌, eqb}

pub record Calls : Type 1 where
  pub Kept : Type 0
  pub Call : Type 0
  pub Answer : Type 0
  -- what is seen of one number
  pub Seen : Type 0
  -- what every call may look at and none changes
  pub Frame : Type 0
  pub named : Call → ℕ
  -- how many places a call may fill
  pub opens : Call → ℕ
  pub answer : Call → Kept → Answer
  pub next : Call → Kept → Kept
  pub see : ℕ → Kept → Seen
  pub frame : Kept → Frame
  pub vacant : Kept → ℕ
  -- what holds of whatever is kept, and what is tested of it
  pub Whole : Kept → Type 0
  pub sound : Kept → Bool

pub record Good (C : Calls) (k : C.Kept) : Type 0 where
  pub whole : C.Whole k
  pub right : C.sound k ≡ true

abbrev pub Finds : (C : Calls) → C.Call → C.Kept → Type 0
Finds C c k = C.opens c ≤ C.vacant k

-- Where what is kept is sound, a call's answer is decided by what there is of its number and by the frame, no more; room apart, `decides` is given
-- nothing else. What it leaves of its number follows from its answer and what was there. It changes what there is of no other number, keeps the
-- frame, and fills as many places as it opens at most. Where what is kept is not sound, it changes nothing and gives one answer.
pub record Touches (C : Calls) (c : C.Call) : Type 0 where
  pub decides : C.Frame → C.Seen → C.Answer
  pub becomes : C.Answer → C.Seen → C.Seen
  pub refusal : C.Answer
  pub answers : (k : C.Kept) → Good C k → Finds C c k → C.answer c k ≡ decides (C.frame k) (C.see (C.named c) k)
  pub here : (k : C.Kept) → Good C k → C.see (C.named c) (C.next c k) ≡ becomes (C.answer c k) (C.see (C.named c) k)
  pub others : (k : C.Kept) → Good C k → (n : ℕ) → (n ≡ C.named c → ⊥) → C.see n (C.next c k) ≡ C.see n k
  pub good : (k : C.Kept) → Good C k → Good C (C.next c k)
  pub same : (k : C.Kept) → Good C k → C.frame (C.next c k) ≡ C.frame k
  pub fills : (k : C.Kept) → Good C k → C.vacant k ≤ C.vacant (C.next c k) + C.opens c
  pub refused : (k : C.Kept) → C.sound k ≡ false → C.answer c k ≡ refusal
  pub stays : (k : C.Kept) → C.sound k ≡ false → C.next c k ≡ k

-- Demand 3: "made in either order each call gets the same answer, and afterwards every number has the same record and the same received bytes"
pub record Either (C : Calls) (f g : C.Call) (k : C.Kept) : Type 0 where
  pub first : C.answer f (C.next g k) ≡ C.answer f k
  pub second : C.answer g (C.next f k) ≡ C.answer g k
  pub after : (n : ℕ) → C.see n (C.next g (C.next f k)) ≡ C.see n (C.next f (C.next g k))
  pub frame : C.frame (C.next g (C.next f k)) ≡ C.frame (C.next f (C.next g k))

unfoldable pub run : (C : Calls) → C.Kept → List C.Call → C.Kept
run C k [] = k
run C k (c ∷ cs) = run C (C.next c k) cs

unfoldable pub answers_to : (C : Calls) → ℕ → C.Kept → List C.Call → List C.Answer
answers_to C n k [] = []
answers_to C n k (c ∷ cs) =
    cond (eqb (C.named c) n) (C.answer c k ∷ answers_to C n (C.next c k) cs) (answers_to C n (C.next c k) cs)

-- "two orders of the same calls that keep each operation's own calls in order": `own n` of both is the same for every n. That this is exactly
-- what may be reached by changing turns, `Reorders`, is proved (`orders`).
unfoldable pub own : (C : Calls) → ℕ → List C.Call → List C.Call
own C n [] = []
own C n (c ∷ cs) = cond (eqb (C.named c) n) (c ∷ own C n cs) (own C n cs)

pub data Reorders (C : Calls) : List C.Call → List C.Call → Type 0 where
  none : Reorders C [] []
  first : {c : C.Call} {cs ds : List C.Call} → Reorders C cs ds → Reorders C (c ∷ cs) (c ∷ ds)
  pass : {c e : C.Call} {cs : List C.Call} → (C.named c ≡ C.named e → ⊥) → Reorders C (c ∷ e ∷ cs) (e ∷ c ∷ cs)
  further : {cs ds es : List C.Call} → Reorders C cs ds → Reorders C ds es → Reorders C cs es

-- "in both a place is empty at every open"
abbrev pub Roomy : (C : Calls) → C.Kept → List C.Call → Type 0
Roomy C k [] = Unit {0}
Roomy C k (c ∷ cs) = Finds C c k × Roomy C (C.next c k) cs

-- "every call gets the same answer in both, and at the end every number has the same record and received bytes"
pub record Alike (C : Calls) (k : C.Kept) (cs ds : List C.Call) : Type 0 where
  pub answers : (n : ℕ) → answers_to C n k cs ≡ answers_to C n k ds
  pub after : (n : ℕ) → C.see n (run C k cs) ≡ C.see n (run C k ds)
  pub frame : C.frame (run C k cs) ≡ C.frame (run C k ds)
