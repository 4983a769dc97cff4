-- Inside the code's contracts alone: nobody needs to believe this page.
-- What the functions of the first pass ask and answer.
--   FreshMet             what stands before a member's value, where no name may come twice
--   Stand                where a value is measured: its row, its number, its place, and its first free slot
--   Measure, measured    what the first pass says of a value: refused, with number and place; or the place after it, the next free slot, its bytes and tuples; and the code's form of it
--   measure_of, Measured  the same of a definition; and what the first pass keeps
--   Closing, Shut        a group whose members are read
--   Step, stepped        after a member: the group's answer, or on to the next member; and the code's form of it
--   tallied, Adding, Stepping, PartedStep   after a member, by its parts
--   RootFor, RootMet, JudgeMet   the root's sign, the root, and the first pass over a whole text
use Rattle.std.specs.Prelude.{ℕ, ◌+◌, ◌*◌, ◌^◌, ◌≤◌, ◌<◌, ◌≡◌, List, ◌∷◌, length, set, Result, Ok, Err}
use Rattle.std.proofs.lemmas.List.Edits.{sets}
use Rattle.paper.specs.Limits.{depth_most}
use Rattle.paper.specs.declared.Refused as paper
use Rattle.paper.specs.Refusal as table
use Rattle.paper.specs.Checks.{Judged, refused, good, after}
use Rattle.numbers.specs.Number.{number_of}
use Rattle.payload.specs.Tree.{Tuples, count}
use Rattle.payload.specs.declared.Shape.{Shape}
use Rattle.payload.specs.declared.Shape.TheVariants.{Set}
use Rattle.payload.specs.Text.{opens}
use Rattle.payload.specs.Reading.{Single, group}
use Rattle.repeats.specs.Roll.{Kept}
use Rattle.text.specs.Tokens.{a_sign}
use Rattle.text.specs.Shortest.{shortest}
use Rattle.text.specs.Writing.{key_at, value_at, inside_of, root_for, root_at, tree_of}
use Rattle.writer_parse.specs.declared.Key.{Key}
use Rattle.writer_parse.specs.declared.Parted.{Parted}
use Rattle.writer_parse.specs.declared.Parted.TheVariants.{Comma, Closed}
use Rattle.writer_parse.specs.Met.{Site, PartedMet, key_of, KeyIn}
use Rattle.writer_sizes.specs.Plan.{alone, kept, plan, tuple_long}
use Rattle.writer_judge.specs.declared.Measure as code
use Rattle.writer_judge.specs.declared.Tally.{Tally}
use Rattle.writer_judge.specs.declared.Step as steps
use Rattle.writer_judge.specs.declared.Step.TheVariants as step

pub data Measure : Type 0 where
  Refused : ℕ → ℕ → Measure
  Sized : ℕ → ℕ → ℕ → ℕ → Measure

abbrev pub measured : Result code.Measure paper.Refused → Measure
measured (Err x) = Refused (table.number_of x.refusal) x.place
measured (Ok m) = Sized m.next m.slot m.long m.tuples

-- a member's number is put on the roll
pub record Keeps (d : List ℕ) (row : ℕ) (bits : List ℕ) (n : ℕ) (bits' : List ℕ) : Type 0 where
  pub more : (seen : List ℕ) → Kept d row seen bits → Kept d row (n ∷ seen) bits'

abbrev pub KeepsIn : List ℕ → ℕ → List ℕ → Result Key paper.Refused → List ℕ → Type 0
KeepsIn d row bits (Err x) bits' = Unit {0}
KeepsIn d row bits (Ok k) bits' = Keeps d row bits k.number bits'

pub record FreshMet (d s : List ℕ) (g : Shape) (row i : ℕ) (bits : List ℕ) (p : ℕ) (r : Result Key paper.Refused) (bits' : List ℕ) : Type 0 where
  pub same : (seen : List ℕ) → Kept d row seen bits → key_at d s g row i seen p ≡ key_of d s r
  pub lies : KeyIn d s row p r
  pub keeps : KeepsIn d row bits r bits'

pub record Stand (d s : List ℕ) (row n p k : ℕ) : Type 0 where
  pub site : Site d s row p
  pub number : n < 2 ^ 31
  pub slot : k ≤ 2 * p

abbrev pub measure_of : ℕ → Judged Single → Measure
measure_of k (refused a w) = Refused a w
measure_of k (good q l x) = Sized q (k + length (plan (alone x))) (length (shortest (alone x))) (count (alone x))

abbrev pub Stored : ℕ → List ℕ → Judged Single → List ℕ → Type 0
Stored k old (refused a w) new = Unit {0}
Stored k old (good q l x) new = new ≡ sets old k (plan (alone x))

-- sums of lengths fit: a tuple has at most 20 bytes for each byte of its text
pub record Bound (s : List ℕ) (p k q next b t : ℕ) : Type 0 where
  pub further : p < q
  pub within : q ≤ length s
  pub slots : next + 2 * p ≤ k + 2 * q
  pub bytes : b + 20 * p ≤ 20 * q
  pub tuples : t + p ≤ q

abbrev pub Bounded : List ℕ → ℕ → ℕ → Measure → Type 0
Bounded s p k (Refused a w) = Unit {0}
Bounded s p k (Sized q next b t) = Bound s p k q next b t

pub record Measured (d s : List ℕ) (room row n p k : ℕ) (old : List ℕ) (r : Measure) (new : List ℕ) : Type 0 where
  pub same : r ≡ measure_of k (value_at d s (inside_of d s room) n row p)
  pub stored : Stored k old (value_at d s (inside_of d s room) n row p) new
  pub long : length new ≡ length old
  pub bound : Bounded s p k r

pub record Closing (k n long : ℕ) : Type 0 where
  pub number : n < 2 ^ 31
  pub few : long < 2 ^ 31
  pub slot : k < 2 ^ 32

pub record Shut (old : List ℕ) (k n : ℕ) (all : Tally) (r : code.Measure) (new : List ℕ) : Type 0 where
  pub same : r ≡ record { next = all.at; slot = all.slot; long = tuple_long n (length (number_of all.members) + all.long); tuples = all.tuples }
  pub stored : new ≡ set (set old k (kept (length (number_of all.members) + all.long))) (k + 1) (kept all.members)

-- after a member
pub data Step : Type 0 where
  Stop : Measure → Step
  On : Tally → Step

abbrev pub stepped : Result steps.Step paper.Refused → Step
stepped (Err x) = Stop (measured (Err x))
stepped (Ok (step.Stop m)) = Stop (measured (Ok m))
stepped (Ok (step.On t)) = On t

-- with a member more, whose slots end at `next`, and which has b bytes and t tuples; the next stands at z
abbrev pub tallied : Tally → ℕ → ℕ → ℕ → ℕ → Tally
tallied was next b t z = record { at = z; slot = next; long = was.long + b; tuples = was.tuples + t; members = was.members + 1 }

pub record Adding (was : Tally) (b t : ℕ) : Type 0 where
  pub bytes : was.long + b < 2 ^ 31
  pub tuples : was.tuples + t < 2 ^ 31
  pub members : was.members + 1 < 2 ^ 31

pub record Stepping (s : List ℕ) (k n : ℕ) (was : Tally) (e b t : ℕ) : Type 0 where
  pub within : e ≤ length s
  pub adds : Adding was b t
  pub number : n < 2 ^ 31
  pub slot : k < 2 ^ 32

pub record Ended (old : List ℕ) (k n : ℕ) (all : Tally) (r : Step) (new : List ℕ) : Type 0 where
  pub answer : code.Measure
  pub shut : Shut old k n all answer new
  pub same : r ≡ Stop (measured (Ok answer))

pub record KeptOn (old : List ℕ) (x r : Step) (new : List ℕ) : Type 0 where
  pub same : r ≡ x
  pub kept_as : new ≡ old

abbrev pub StepIs : List ℕ → ℕ → ℕ → Tally → ℕ → ℕ → ℕ → Result Parted paper.Refused → Step → List ℕ → Type 0
StepIs old k n was next b t (Err x) r new = KeptOn old (Stop (measured (Err x))) r new
StepIs old k n was next b t (Ok (Comma z)) r new = KeptOn old (On (tallied was next b t z)) r new
StepIs old k n was next b t (Ok (Closed z)) r new = Ended old k n (tallied was next b t z) r new

pub record PartedStep (s : List ℕ) (g : Shape) (old : List ℕ) (k n : ℕ) (was : Tally) (e next b t : ℕ) (r : Step) (new : List ℕ) : Type 0 where
  pub parted : Result Parted paper.Refused
  pub met : PartedMet s g e parted
  pub is : StepIs old k n was next b t parted r new
  pub long : length new ≡ length old

-- the root
pub record RootNo (c at k w : ℕ) : Type 0 where
  pub same : (d s : List ℕ) → root_for d s (a_sign c) at (at + 1) ≡ refused k w

abbrev pub RootFor : ℕ → ℕ → Result (Unit {0}) paper.Refused → Type 0
RootFor c at (Err x) = RootNo c at (table.number_of x.refusal) x.place
RootFor c at (Ok u) = c ≡ opens Set

abbrev pub RootMet : List ℕ → List ℕ → Result (Unit {0}) paper.Refused → Type 0
RootMet d s (Err x) = root_at d s ≡ refused (table.number_of x.refusal) x.place
RootMet d s (Ok u) = value_at d s (inside_of d s depth_most) 0 0 0 ≡ (after (root_at d s) λ z _ kids. good z 0 (group 0 Set kids))

-- the first pass over a whole text: the measure of its tree's root tuple
abbrev pub root_measure : Judged Tuples → Measure
root_measure (refused a w) = Refused a w
root_measure (good q l t) = measure_of 0 (good q 0 (group 0 Set t))

abbrev pub RootStored : List ℕ → Judged Tuples → List ℕ → Type 0
RootStored old (refused a w) new = Unit {0}
RootStored old (good q l t) new = new ≡ sets old 0 (plan (alone (group 0 Set t)))

pub record JudgeMet (d s old : List ℕ) (r : Measure) (new : List ℕ) : Type 0 where
  pub same : r ≡ root_measure (tree_of d s)
  pub stored : RootStored old (tree_of d s) new
  pub ready : (q l : ℕ) (t : Tuples) → tree_of d s ≡ good q l t → value_at d s (inside_of d s depth_most) 0 0 0 ≡ good q 0 (group 0 Set t)
  pub long : length new ≡ length old
  pub bound : Bounded s 0 0 r
