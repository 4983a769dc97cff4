-- The answers: what the reader says to every dictionary, payload, budget and room, with the paper's order of checks. Document 01: "Reading stops at the first fault met, tuples taken in byte
-- order; bytes left in a set or array are judged after its children."
--   asked                    the checks of a tuple before its value
--   tuple_at, run, inside_of   one tuple, a number of them, and the value of a set or array
--   root_at                   the root
--   reads d s budget room    the answer to a call
use Rattle.std.specs.Prelude.{ℕ, zero, suc, ◌+◌, ◌-◌, ◌/◌, ◌%◌, List, [], ◌∷◌, ◌++◌, Bool, true, not, ◌&&◌, ◌||◌, length, drop, ltb, leb, eqb, Option, None}
use Rattle.std.proofs.Math.Seq.{slice}
use Rattle.paper.specs.Limits.{payload_least, payload_most, text_most, depth_most}
use Rattle.paper.specs.Refusals.{dictionary_wrong, length_wrong, header_differs, past_end, not_known, given_twice, not_in_base, misfit, value_wrong, too_deep, budget_spent, after_root, no_room, accepted}
use Rattle.paper.specs.Checks.{choose, Judged, refused, good, refuse, need, after}
use Rattle.paper.specs.Refusal.{Answer}
use Rattle.numbers.specs.Bytes.{byte}
use Rattle.numbers.specs.Number.{Found, Refused, Value, number_at}
use Rattle.dictionary.specs.declared.formats.Format.{Format}
use Rattle.dictionary.specs.Formats.{set_form, real_form, boolean_form, form_named}
use Rattle.dictionary.specs.Accepts.{accepts}
use Rattle.payload.specs.Tree.{Scalar, Tuples, none, scalar, inner}
use Rattle.payload.specs.declared.Shape.{Shape}
use Rattle.payload.specs.declared.Shape.TheVariants.{Set, Array}
use Rattle.payload.specs.Header.{header_agrees}
use Rattle.payload.specs.Fits.{known, child, fresh, fits}
use Rattle.payload.specs.Text.{root_text, root_count}
use Rattle.payload.specs.Values.{Valued, wrong, worth, scalar_value}

-- a tuple, before it is put in front of a run
pub data Single : Type 0 where
  plain : ℕ → Scalar → Single
  group : ℕ → Shape → Tuples → Single

abbrev pub number_for : Single → ℕ
number_for (plain n x) = n
number_for (group n g kids) = n

abbrev pub before : Single → Tuples → Tuples
before (plain n x) rest = scalar n x rest
before (group n g kids) rest = inner n g kids rest

-- goes on with a number's value and the place after it; its faults are given at the tuple's start
abbrev pub number : {A : Type 0} → Found → ℕ → ℕ → (ℕ → ℕ → Judged A) → Judged A
number (Refused k) at p go = refused k at
number (Value n w) at p go = go n (p + 1 + w)

abbrev pub value : {A : Type 0} → Valued → ℕ → (Scalar → Judged A) → Judged A
value (wrong k) at go = refused k at
value (worth x) at go = go x

-- "deferred bit and format supported": the formats of the base are 0 to 5 and 7
unfoldable pub supported : ℕ → Bool
supported form = eqb (form % 2) 0 && not (eqb (form / 16) real_form) && leb (form / 16) boolean_form

-- the format of such a byte
abbrev pub supported_format : ℕ → Option Format
supported_format form = choose (supported form) (λ _. form_named (form / 16)) (λ _. None)

abbrev pub is_group : ℕ → Bool
is_group f = ltb f 2

abbrev pub shape_of : ℕ → Shape
shape_of zero = Set
shape_of (suc f) = Array

-- "Checks for a tuple, in this order: budget; S; selector; sequence known; repeat; deferred bit and format supported; format fits the row; L; room in the enclosing value; depth; value." Those of a tuple
-- at `at` that ends by e, with l left of the budget: `knows`, `news` and `suits` are the tests of its number, of a repeat and of its format, and `body` judges V, whose number, format, first byte and end it is given
unfoldable pub asked : {A : Type 0} → List ℕ → (ℕ → Bool) → (ℕ → Bool) → (ℕ → ℕ → Bool) → (ℕ → ℕ → ℕ → ℕ → Judged A) → ℕ → ℕ → ℕ → Judged A
asked s knows news suits body at e l =
    refuse (eqb l 0) budget_spent at λ _.
    number (number_at s at e) at at λ S p.
    need (eqb (S % 2) 0) not_in_base at λ _.
    need (knows (S / 2)) not_known at λ _.
    need (news (S / 2)) given_twice at λ _.
    refuse (leb e p) past_end at λ _.
    need (supported (byte s p)) not_in_base at λ _.
    need (suits (S / 2) (byte s p / 16)) misfit at λ _.
    number (number_at s (p + 1) e) at (p + 1) λ len q.
    refuse (ltb (e - q) len) past_end at λ _.
    body (S / 2) (byte s p / 16) q (q + len)

module _ (d s : List ℕ) where
  -- V, of the format f at the row r, from p to q. `inside` reads the value of a set or array: row, start of its tuple, first byte and end of V, budget
  abbrev pub body_at : (ℕ → ℕ → ℕ → ℕ → ℕ → Judged Tuples) → ℕ → ℕ → ℕ → ℕ → ℕ → ℕ → ℕ → Judged Single
  body_at inside n r f at p q left =
      choose (is_group f) (λ _. after (inside r at p q left) λ z l kids. good z l (group n (shape_of f) kids)) λ _.
      value (scalar_value d r f (slice p q s)) at λ x.
      good q left (plain n x)

  -- the tuple at `at`, which has to end by e: the i-th in the value of a row, after the numbers seen
  unfoldable pub tuple_at : (ℕ → ℕ → ℕ → ℕ → ℕ → Judged Tuples) → ℕ → ℕ → List ℕ → ℕ → ℕ → ℕ → Judged Single
  tuple_at inside row i seen at e left =
      asked s (known d row i) (fresh d row seen) (λ n f. fits d (child d row n) f)
      (λ n f q z. body_at inside n (child d row n) f at q z (left - 1))
      at e left

  -- k tuples from p on
  unfoldable pub run : (ℕ → ℕ → List ℕ → ℕ → ℕ → ℕ → Judged Single) → ℕ → ℕ → ℕ → List ℕ → ℕ → ℕ → ℕ → Judged Tuples
  run tuple row zero i seen p e left = good p left none
  run tuple row (suc k) i seen p e left =
      after (tuple row i seen p e left) λ q l x.
      after (run tuple row k (suc i) (number_for x ∷ seen) q e l) λ z m rest.
      good z m (before x rest)

  -- the value of a set or array, from p to q: a count and the tuples, which fill it. `room` is the nesting left
  unfoldable pub inside_of : ℕ → ℕ → ℕ → ℕ → ℕ → ℕ → Judged Tuples
  inside_of zero row at p q left = refused too_deep at
  inside_of (suc room) row at p q left =
      number (number_at s p q) at p λ n first.
      after (run (tuple_at (inside_of room)) row n 0 [] first q left) λ z l kids.
      need (eqb z q) value_wrong at λ _.
      good q l kids

  -- "The root is a set, S is 0, row 0": any other number is not known, any other format does not fit, and null neither
  unfoldable pub root_at : ℕ → Judged Tuples
  root_at budget =
      asked s (λ n. eqb n 0) (λ n. true) (λ n f. eqb f set_form)
      (λ n f q z. inside_of depth_most 0 payload_least q z (budget - 1))
      payload_least (length s) budget

  -- "Nothing follows it"
  unfoldable pub tree_of : ℕ → Judged Tuples
  tree_of budget = after (root_at budget) λ z l t. need (eqb z (length s)) after_root z λ _. good z l t

-- what a call comes to: refused with number and place, or a text and the count of tuples
pub data Outcome : Type 0 where
  refusal : ℕ → ℕ → Outcome
  result : List ℕ → ℕ → Outcome

-- "14: all else right, result longer than the lent buffer or the table's limit"
abbrev pub fitted : ℕ → ℕ → List ℕ → ℕ → Outcome
fitted room most t n = choose (ltb room (length t) || ltb most (length t)) (λ _. refusal no_room 0) (λ _. result t n)

abbrev pub spoken : List ℕ → ℕ → Judged Tuples → Outcome
spoken d room (refused k w) = refusal k w
spoken d room (good z l t) = fitted room text_most (root_text d t) (root_count d t)

-- "1, 2, 3 are tested in that order before the root."
unfoldable pub reads : List ℕ → List ℕ → ℕ → ℕ → Outcome
reads d s budget room =
    choose (not (accepts d)) (λ _. refusal dictionary_wrong 0) λ _.
    choose (ltb (length s) payload_least || ltb payload_most (length s)) (λ _. refusal length_wrong 0) λ _.
    choose (not (header_agrees s)) (λ _. refusal header_differs 0) λ _.
    spoken d room (tree_of d s budget)

-- "A refusal changes nothing lent; its count and length are 0. Acceptance is number 0, place 0. After acceptance, bytes past the reported length are as before."
abbrev pub answer_of : Outcome → Answer
answer_of (refusal k w) = record { number = k; place = w; count = 0; length = 0 }
answer_of (result t n) = record { number = accepted; place = 0; count = n; length = length t }

abbrev pub contents_of : Outcome → List ℕ → List ℕ
contents_of (refusal k w) old = old
contents_of (result t n) old = t ++ drop (length t) old
