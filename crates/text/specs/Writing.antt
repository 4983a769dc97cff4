-- The answers: what the writer says to every dictionary, text and room, with the paper's order of checks. Document 01, "The text": "Tokens are judged in text order. A token's own
-- grammar and its turn come first (15); then for a name 6, 7; for a value: fraction or exponent 8, row of a format not in the base and value not null 8, fit 9, depth 11, value 10."
--   name_at, colon_at, key_at     a member's name, the colon after it, and both
--   value_for, value_at, member_at   a value, by its token and by its place, and a member
--   parted_at                   what parts a member from the next, or ends the group
--   run, inside_of              members up to the bracket that closes them, and an object or array after the one that opens it
--   root_at, tree_of             the root, and the tree of the text
--   writes d s room            the answer to a call; number, place, count, length and buffer come from it as the reader's do
use Rattle.std.specs.Prelude.{ℕ, zero, suc, List, [], ◌∷◌, Bool, true, false, not, ◌||◌, length, ltb, leb, eqb, Option}
use Rattle.paper.specs.Limits.{payload_most, text_least, text_most, depth_most}
use Rattle.paper.specs.Refusals.{accepted, dictionary_wrong, length_wrong, not_known, given_twice, not_in_base, misfit, too_deep, after_root, bad_text}
use Rattle.paper.specs.Checks.{choose, Judged, refused, good, refuse, need, after}
use Rattle.dictionary.specs.Formats.{set_form, real_form}
use Rattle.dictionary.specs.Rows.{number_in}
use Rattle.dictionary.specs.Children.{child_named}
use Rattle.dictionary.specs.Accepts.{accepts}
use Rattle.payload.specs.Tree.{Tuples, none}
use Rattle.payload.specs.declared.Shape.{Shape}
use Rattle.payload.specs.declared.Shape.TheVariants.{Set, Array}
use Rattle.payload.specs.Fits.{found, row_of, child, fresh}
use Rattle.payload.specs.Text.{comma, colon, closes, root_count}
use Rattle.payload.specs.Reading.{Single, plain, group, number_for, before, value, is_group, shape_of, Outcome, refusal, fitted}
use Rattle.text.specs.Tokens.{Token, a_sign, a_string, a_null, a_boolean, an_integer, a_real, space}
use Rattle.text.specs.Shortest.{payload_of}
use Rattle.text.specs.Scanning.{past, onward, next}
use Rattle.text.specs.Values.{is_sign, begins, form_for, misfit_for, scalar_for}

-- the colon after a name
unfoldable pub colon_at : List ℕ → ℕ → Judged (Unit {0})
colon_at s p =
    next s p λ at q c.
    need (is_sign colon c) bad_text at λ _.
    good q 0 tt

-- after a member: a comma, where another follows (true), or the bracket that closes the group
unfoldable pub parted_at : List ℕ → Shape → ℕ → Judged Bool
parted_at s g p =
    next s p λ at q c.
    choose (is_sign comma c) (λ _. good q 0 true) λ _.
    need (is_sign (closes g) c) bad_text at λ _.
    good q 0 false

module _ (d s : List ℕ) where
  -- "then for a name 6": c is the child of that name, whose number the member has
  abbrev pub child_for : Option ℕ → ℕ → ℕ → Judged ℕ
  child_for c at q =
      need (found c) not_known at λ _.
      good q 0 (number_in d (row_of c))

  -- only a string is in turn where a name is due
  abbrev pub name_for : Token → ℕ → ℕ → ℕ → Judged ℕ
  name_for (a_sign b) row at q = refused bad_text at
  name_for (a_string t) row at q = child_for (child_named d row t) at q
  name_for a_null row at q = refused bad_text at
  name_for (a_boolean b) row at q = refused bad_text at
  name_for (an_integer w) row at q = refused bad_text at
  name_for (a_real w) row at q = refused bad_text at

  unfoldable pub name_at : ℕ → ℕ → Judged ℕ
  name_at row at = onward s at λ at q k. name_for k row at q

  -- "then for a name 6, 7": a set's member has a name and a colon before its value; "An array's tuples carry their index from 0"
  unfoldable pub key_at : Shape → ℕ → ℕ → List ℕ → ℕ → Judged ℕ
  key_at Set row i seen p =
      after (name_at row (past space s p)) λ e _ n.
      need (fresh d row seen n) given_twice (past space s p) λ _.
      after (colon_at s e) λ z _ _.
      good z 0 n
  key_at Array row i seen p = good p 0 i

  -- the value of the token k, from `at` to q, in the format f at a row. `inside` reads an object or array: shape, row, the place of its first bracket and the one after that
  abbrev pub body_at : (Shape → ℕ → ℕ → ℕ → Judged Tuples) → ℕ → ℕ → ℕ → ℕ → ℕ → Token → Judged Single
  body_at inside n row f at q k =
      choose (is_group f) (λ _. after (inside (shape_of f) row at q) λ z _ kids. good z 0 (group n (shape_of f) kids)) λ _.
      value (scalar_for d row k) at λ x.
      good q 0 (plain n x)

  abbrev pub form_at : (Shape → ℕ → ℕ → ℕ → Judged Tuples) → ℕ → ℕ → ℕ → ℕ → ℕ → Token → Judged Single
  form_at inside n row f at q k =
      need (eqb (misfit_for d row f) accepted) (misfit_for d row f) at λ _.
      body_at inside n row f at q k

  abbrev pub value_for : (Shape → ℕ → ℕ → ℕ → Judged Tuples) → ℕ → ℕ → Token → ℕ → ℕ → Judged Single
  value_for inside n row k at q =
      need (begins k) bad_text at λ _.
      form_at inside n row (form_for d row k) at q k

  -- the value at p, which is the member n's and belongs to a row
  unfoldable pub value_at : (Shape → ℕ → ℕ → ℕ → Judged Tuples) → ℕ → ℕ → ℕ → Judged Single
  value_at inside n row p = next s p λ at q k. value_for inside n row k at q

  -- the member at p: the i-th in the value of a row, after the numbers seen
  unfoldable pub member_at : (Shape → ℕ → ℕ → ℕ → Judged Tuples) → Shape → ℕ → ℕ → List ℕ → ℕ → Judged Single
  member_at inside g row i seen p = after (key_at g row i seen p) λ q _ n. value_at inside n (child d row n) q

  -- members from p on, up to the bracket that closes them. There are at most k: each takes a byte, so that a text has ended before its length is counted out
  unfoldable pub run : (Shape → ℕ → ℕ → List ℕ → ℕ → Judged Single) → Shape → ℕ → ℕ → ℕ → List ℕ → ℕ → Judged Tuples
  run member g row zero i seen p = refused bad_text (length s)
  run member g row (suc k) i seen p =
      after (member g row i seen p) λ e _ x.
      after (parted_at s g e) λ q _ more.
      choose more (λ _. after (run member g row k (suc i) (number_for x ∷ seen) q) λ z _ rest. good z 0 (before x rest)) λ _.
      good q 0 (before x none)

  -- an object or array whose first bracket stands at `at`, from the place p after that. `room` is the nesting left
  unfoldable pub inside_of : ℕ → Shape → ℕ → ℕ → ℕ → Judged Tuples
  inside_of zero g row at p = refused too_deep at
  inside_of (suc room) g row at p =
      next s p λ first q k.
      choose (is_sign (closes g) k) (λ _. good q 0 none) λ _.
      run (member_at (inside_of room)) g row (length s) 0 [] first

  -- "RFC 8259 text whose root is an object": any value is in turn there by that standard, and "root no set" is 9
  abbrev pub root_for : Token → ℕ → ℕ → Judged Tuples
  root_for k at q =
      need (begins k) bad_text at λ _.
      refuse (eqb (form_for d 0 k) real_form) not_in_base at λ _.
      need (eqb (form_for d 0 k) set_form) misfit at λ _.
      inside_of depth_most Set 0 at q

  unfoldable pub root_at : Judged Tuples
  root_at = next s 0 λ at q k. root_for k at q

  -- "bytes after the root, in text other than spaces": at the first such byte
  unfoldable pub tree_of : Judged Tuples
  tree_of = after root_at λ q _ t. need (leb (length s) (past space s q)) after_root (past space s q) λ _. good q 0 t

-- "Its count is the tuples written."
abbrev pub spoken : List ℕ → ℕ → Judged Tuples → Outcome
spoken d room (refused k w) = refusal k w
spoken d room (good q l t) = fitted room payload_most (payload_of t) (root_count d t)

-- "1, 2, 3 are tested in that order before the root"; a text has no header, and so no 3
unfoldable pub writes : List ℕ → List ℕ → ℕ → Outcome
writes d s room =
    choose (not (accepts d)) (λ _. refusal dictionary_wrong 0) λ _.
    choose (ltb (length s) text_least || ltb text_most (length s)) (λ _. refusal length_wrong 0) λ _.
    spoken d room (tree_of d s)
