-- Inside the code's contracts alone: nobody needs to believe this page.
-- What the functions of the first pass ask and answer.
--   Judgement            a refusal's number and place; or, of the value of a set or array, the budget left and the length of the text between its brackets, and of a payload the count of its tuples and the length of its text
--   placed               a check's refusal with its place
--   inner_told, done_told  the code's form of it
--   verdict, InsideMet   the value of a set or array
--   RootMet              the root's S, F and L
--   tree_verdict, verdict_of  the tree of a payload, and all before the room is looked at
use Rattle.std.specs.Prelude.{ℕ, ◌+◌, ◌*◌, ◌≤◌, ◌≡◌, List, true, not, ◌||◌, length, ltb, eqb, Result, Ok, Err}
use Rattle.paper.specs.Limits.{payload_least, payload_most}
use Rattle.paper.specs.Refusals.{dictionary_wrong, not_known, length_wrong, header_differs, misfit}
use Rattle.paper.specs.declared.Refusal.{Refusal}
use Rattle.paper.specs.declared.Refused as declared
use Rattle.paper.specs.declared.Done.{Done}
use Rattle.paper.specs.Refusal.{number_of}
use Rattle.paper.specs.Checks.{choose, Judged, refused, good}
use Rattle.numbers.specs.Number.{Found}
use Rattle.numbers.specs.Number as found
use Rattle.dictionary.specs.Formats.{set_form}
use Rattle.dictionary.specs.Accepts.{accepts}
use Rattle.payload.specs.Checked.{Checked}
use Rattle.payload.specs.Checked as checked
use Rattle.payload.specs.Tree.{Tuples}
use Rattle.payload.specs.Header.{header_agrees}
use Rattle.payload.specs.Text.{text_of, root_text, root_count}
use Rattle.payload.specs.Reading.{inside_of, tree_of}
use Rattle.reader_fields.specs.Fields.{sequence_at, format_at, extent_at}
use Rattle.reader_judge.specs.declared.group.Inner.{Inner}

pub data Judgement : Type 0 where
  Refused : ℕ → ℕ → Judgement
  Good : ℕ → ℕ → Judgement

-- a refusal with its place
abbrev pub placed : {T : Type 0} → Result T Refusal → ℕ → Result T declared.Refused
placed (Ok x) place = Ok x
placed (Err k) place = Err record { refusal = k; place = place }

abbrev pub inner_told : Result Inner declared.Refused → Judgement
inner_told (Err k) = Refused (number_of k.refusal) k.place
inner_told (Ok x) = Good x.left x.long

abbrev pub done_told : Result Done declared.Refused → Judgement
done_told (Err k) = Refused (number_of k.refusal) k.place
done_told (Ok x) = Good x.count x.length

-- the code's answer for what the definition finds in the value of a set or array
abbrev pub verdict : List ℕ → ℕ → Judged Tuples → Judgement
verdict d row (refused k w) = Refused k w
verdict d row (good z l kids) = Good l (length (text_of d kids row 0))

abbrev pub InsideShort : ℕ → ℕ → Judgement → Type 0
InsideShort from to (Refused k w) = Unit {0}
InsideShort from to (Good l t) = t + 104 * from ≤ 104 * to

pub record InsideMet (d s : List ℕ) (room row at from to l : ℕ) (r : Judgement) : Type 0 where
  pub same : r ≡ verdict d row (inside_of d s room row at from to l)
  pub short : InsideShort from to r

-- "root no set"
abbrev pub root_part : List ℕ → ℕ → ℕ → Checked → Found
root_part s p e (checked.Refused k) = found.Refused k
root_part s p e (checked.Good f) = choose (eqb f set_form) (λ _. extent_at s (p + 1) e) (λ _. found.Refused misfit)

-- "The root is a set, S is 0, row 0"
abbrev pub root_in : List ℕ → Found → Found
root_in s (found.Refused k) = found.Refused k
root_in s (found.Value n p) = choose (eqb n 0) (λ _. root_part s p (length s) (format_at s p (length s))) (λ _. found.Refused not_known)

abbrev pub RootPlaced : List ℕ → ℕ → Found → Type 0
RootPlaced s budget (found.Refused k) = Unit {0}
RootPlaced s budget (found.Value from to) = (1 ≤ budget) × (from ≤ to) × (to ≤ length s)

pub record RootMet (s : List ℕ) (budget : ℕ) (r : Found) : Type 0 where
  pub same : r ≡ root_in s (sequence_at s payload_least (length s) budget)
  pub placed : RootPlaced s budget r

pub record RootGround (d s : List ℕ) : Type 0 where
  pub accepted : accepts d ≡ true
  pub least : payload_least ≤ length s
  pub few : length s ≤ payload_most

abbrev pub tree_told : List ℕ → Judged Tuples → Judgement
tree_told d (refused k w) = Refused k w
tree_told d (good z l t) = Good (root_count d t) (length (root_text d t))

abbrev pub tree_verdict : List ℕ → List ℕ → ℕ → Judgement
tree_verdict d s budget = tree_told d (tree_of d s budget)

-- "1, 2, 3 are tested in that order before the root."
unfoldable pub verdict_of : List ℕ → List ℕ → ℕ → Judgement
verdict_of d s budget =
    choose (not (accepts d)) (λ _. Refused dictionary_wrong 0) λ _.
    choose (ltb (length s) payload_least || ltb payload_most (length s)) (λ _. Refused length_wrong 0) λ _.
    choose (not (header_agrees s)) (λ _. Refused header_differs 0) λ _.
    tree_verdict d s budget
