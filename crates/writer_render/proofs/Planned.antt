-- What the second pass relies on, of the definitions: bytes, plan and size of a run after its first tuple, the slots of a group, and the members of a group one by one.
-- Assumes nothing.
--   before-bytes, before-plan, before-size   a tuple before a run
--   size_few, kept-few    no more tuples than bytes; a slot keeps what is within the table's limit
--   group-opening         a group is its opening and its members
--   first_of, past_of     what stands in the slots after the first, and after a part
--   run-some, run_step    members are one at least; the first and the others
--   member-value, member_keyed   a member that was taken, by what stands before its value
use Prim.Native.Nat.{ℕ, zero, suc, ◌+◌, ◌≤◌}
use mathlib.Core.Path.{◌≡◌, refl, sym, ap, ◌∙◌}
use mathlib.Core.List.{List, [], ◌∷◌, ◌++◌, append_assoc}
use mathlib.Core.Bool.{Bool, true, false}
use mathlib.Core.Bool as bool
use native.Mathlib.Omega.{arith}
use native.Mathlib.Nat.{add-zero}
use native.Mathlib.Numerals.{add-one}
use lib.ListN.{length, get_or, drop, length-append}
use lib.Seq.{drop-drop, drop-append_seam, get_or-drop}
use Rattle.paper.specs.Limits.{payload_most}
use Rattle.paper.specs.Refusals.{bad_text}
use Rattle.paper.specs.Checks.{choose, Judged, refused, good, need, after}
use Rattle.numbers.specs.Number.{number_of}
use Rattle.payload.specs.Tree.{Tuples, none, scalar, inner, shape_format, size}
use Rattle.payload.specs.declared.Shape.{Shape}
use Rattle.payload.specs.declared.Shape.TheVariants.{Set, Array}
use Rattle.payload.specs.Fits.{child, fresh}
use Rattle.payload.specs.Text.{comma, closes}
use Rattle.payload.specs.Reading.{Single, group, number_for, before}
use Rattle.payload.proofs.Lying.{lies-end}
use Rattle.paper.proofs.Checks.{never, same_place, same_thing, needed, followed}
use Rattle.text.specs.Tokens.{Token, a_sign, a_string, a_null, a_boolean, an_integer, a_real, space}
use Rattle.text.specs.Shortest.{shortest}
use Rattle.text.specs.Scanning.{past, token_at}
use Rattle.text.specs.Values.{is_sign}
use Rattle.text.specs.Writing.{name_at, parted_at, key_at, value_at, member_at, run}
use Rattle.text.proofs.Standing.{token-sound}
use Rattle.writer_parse.proofs.Keying.{never_given}
use Rattle.writer_sizes.specs.Plan.{alone, kept, plan, tuple_long}
use Rattle.writer_render.specs.Parts.{front, opening}
use Rattle.writer_sizes.proofs.Trees.{joint, joint-start, joint-next, bytes-joint, plan-joint, size-joint, size-alone, none-size, tuple_length, group-bytes}
use Rattle.writer_sizes.proofs.Plans.{plan-few}
use Rattle.writer_render.proofs.Puts.{tuple_is}

-- a tuple before a run
before-joint : (x : Single) (t : Tuples) → before x t ≡ joint (alone x) t
before-joint x t = sym (joint-start (before x t)) ∙ joint-next none x t ∙ ap (λ (a : Tuples). joint a t) (joint-start (alone x))

pub before-bytes : (x : Single) (t : Tuples) → shortest (before x t) ≡ shortest (alone x) ++ shortest t
before-bytes x t = ap shortest (before-joint x t) ∙ bytes-joint (alone x) t

pub before-plan : (x : Single) (t : Tuples) → plan (before x t) ≡ plan (alone x) ++ plan t
before-plan x t = ap plan (before-joint x t) ∙ plan-joint (alone x) t

pub before-size : (x : Single) (t : Tuples) → size (before x t) ≡ suc (size t)
before-size x t = omega (arith, ap size (before-joint x t), size-joint (alone x) t, size-alone x)

-- a run that has no tuple
pub nothing : (t : Tuples) → size t ≡ 0 → t ≡ none
unfolding size
nothing none e = refl
nothing (scalar n x t) e = absurd (omega arith)
nothing (inner n g kids t) e = absurd (omega arith)

pub no_bytes : shortest none ≡ []
unfolding shortest
no_bytes = refl

pub size_few : (t : Tuples) → size t ≤ length (shortest t)
size_few t = omega (arith, plan-few t)

pub kept-few : (n : ℕ) → n ≤ payload_most → kept n ≡ n
kept-few n h = omega arith

-- a group is its opening and its members
module _ (n : ℕ) (g : Shape) (t : Tuples) where
  pub group-opening : shortest (alone (group n g t)) ≡ opening n g (length (number_of (size t)) + length (shortest t)) (size t) ++ shortest t
  unfolding opening
  group-opening =
      group-bytes n g t
      ∙ tuple_is n (shape_format g) (number_of (size t) ++ shortest t)
      ∙ sym (append_assoc (front n (shape_format g) (length (number_of (size t) ++ shortest t))) (number_of (size t)) (shortest t))
      ∙ ap (λ (v : ℕ). (front n (shape_format g) v ++ number_of (size t)) ++ shortest t) (length-append (number_of (size t)) (shortest t))

  pub group-few : length (number_of (size t)) + length (shortest t) ≤ length (shortest (alone (group n g t)))
  unfolding tuple_long
  group-few =
      let v = number_of (size t) ++ shortest t in
      omega (arith, ap length (group-bytes n g t), tuple_length n (shape_format g) v, length-append (number_of (size t)) (shortest t))

-- what stands in the slots after the first, and after a part
pub first_of : (l r : List ℕ) (k x : ℕ) → drop k l ≡ x ∷ r → (get_or l k 0 ≡ x) × (drop (k + 1) l ≡ r)
first_of l r k x e = (
  ap (λ (i : ℕ). get_or l i 0) (sym (add-zero k)) ∙ sym (get_or-drop k l 0 0) ∙ ap (λ (y : List ℕ). get_or y 0 0) e,
  sym (drop-drop 1 k l) ∙ ap (drop 1) e,
)

pub past_of : (l a r : List ℕ) (k : ℕ) → drop k l ≡ a ++ r → drop (k + length a) l ≡ r
past_of l a r k e = sym (drop-drop (length a) k l) ∙ ap (drop (length a)) e ∙ drop-append_seam a r

-- a sign is one byte
pub sign-place : (s : List ℕ) (at q l c : ℕ) (k : Token) → is_sign c k ≡ true → token_at s at ≡ good q l k → (q ≡ at + 1) × (at + 1 ≤ length s)
sign-place s at q l c (a_sign b) e y =
    let o = (token-sound s at q l (a_sign b) y).lies in
    (o.ends, omega (arith, o.ends, lies-end o))
sign-place s at q l c (a_string t) e y = absurd (bool.true≢false (sym e))
sign-place s at q l c a_null e y = absurd (bool.true≢false (sym e))
sign-place s at q l c (a_boolean b) e y = absurd (bool.true≢false (sym e))
sign-place s at q l c (an_integer w) e y = absurd (bool.true≢false (sym e))
sign-place s at q l c (a_real w) e y = absurd (bool.true≢false (sym e))

-- the first member and the others, if there are any
pub record Step (d s : List ℕ) (member : Shape → ℕ → ℕ → List ℕ → ℕ → Judged Single) (g : Shape) (row i : ℕ) (seen : List ℕ) (p z : ℕ) (t : Tuples) : Type 0 where
  pub place : ℕ
  pub left : ℕ
  pub head : Single
  pub first : member g row i seen p ≡ good place left head
  pub inside : past space s place + 1 ≤ length s
  pub rest : Tuples
  pub whole : t ≡ before head rest
  pub more : ℕ
  pub mark : ℕ
  pub others : 1 ≤ size rest → run d s member g row more (i + 1) (number_for head ∷ seen) (past space s place + 1) ≡ good z mark rest
  pub last : size rest ≡ 0 → z ≡ past space s place + 1

pub parted-place : (s : List ℕ) (g : Shape) (p q l : ℕ) (more : Bool) → parted_at s g p ≡ good q l more → (q ≡ past space s p + 1) × (past space s p + 1 ≤ length s)
unfolding parted_at
parted-place s g p q l more y =
    let a = followed q l more (token_at s (past space s p)) _ y in
    go a.0 a.1 a.2 a.3 (is_sign comma a.2) refl a.4
  where
    go : (z m : ℕ) (c : Token) → token_at s (past space s p) ≡ good z m c → (u : Bool) → is_sign comma c ≡ u → (choose u (λ _. good z 0 true) λ _. need (is_sign (closes g) c) bad_text (past space s p) λ _. good z 0 false) ≡ good q l more → (q ≡ past space s p + 1) × (past space s p + 1 ≤ length s)
    go z m c v true h y = let b = sign-place s (past space s p) z m comma c h v in (sym (same_place y) ∙ b.0, b.1)
    go z m c v false h y =
        let o = needed q l more (is_sign (closes g) c) _ _ _ y in
        let b = sign-place s (past space s p) z m (closes g) c o.0 v in
        (sym (same_place o.1) ∙ b.0, b.1)

module _ (d s : List ℕ) (member : Shape → ℕ → ℕ → List ℕ → ℕ → Judged Single) (g : Shape) (row : ℕ) where
  -- as `run` goes on after a member
  abbrev onward : ℕ → ℕ → List ℕ → ℕ → Single → Bool → Judged Tuples
  onward k i seen q x more =
      choose more (λ _. after (run d s member g row k (suc i) (number_for x ∷ seen) q) λ z _ rest. good z 0 (before x rest)) λ _.
      good q 0 (before x none)

  pub run-some : (k i : ℕ) (seen : List ℕ) (p z l : ℕ) (t : Tuples) → run d s member g row k i seen p ≡ good z l t → 1 ≤ size t
  unfolding run
  run-some zero i seen p z l t y = never y
  run-some (suc k) i seen p z l t y =
      let a = followed z l t (member g row i seen p) _ y in
      let b = followed z l t (parted_at s g a.0) _ a.4 in
      go b.0 a.2 b.2 b.4
    where
      sized : (x : Single) (r : Tuples) (z' l' : ℕ) → good z' l' (before x r) ≡ good z l t → 1 ≤ size t
      sized x r z' l' e = omega (arith, before-size x r, ap size (same_thing e))

      go : (q : ℕ) (x : Single) (more : Bool) → onward k i seen q x more ≡ good z l t → 1 ≤ size t
      go q x true y =
          let f = followed z l t (run d s member g row k (suc i) (number_for x ∷ seen) q) _ y in
          sized x f.2 f.0 0 f.4
      go q x false y = sized x none q 0 y

  pub run_step : (k i : ℕ) (seen : List ℕ) (p z l : ℕ) (t : Tuples) → run d s member g row k i seen p ≡ good z l t → Step d s member g row i seen p z t
  unfolding run
  run_step zero i seen p z l t y = never y
  run_step (suc k) i seen p z l t y =
      let a = followed z l t (member g row i seen p) _ y in
      let b = followed z l t (parted_at s g a.0) _ a.4 in
      let o = parted-place s g a.0 b.0 b.1 b.2 b.3 in
      go a.0 a.1 a.2 a.3 b.0 o.0 o.1 b.2 b.4
    where
      more : (e m : ℕ) (x : Single) → member g row i seen p ≡ good e m x → (q : ℕ) → q ≡ past space s e + 1 → past space s e + 1 ≤ length s → (z' m' : ℕ) (r : Tuples) → run d s member g row k (suc i) (number_for x ∷ seen) q ≡ good z' m' r → good z' 0 (before x r) ≡ good z l t → Step d s member g row i seen p z t
      more e m x f q hq hi z' m' r o w =
          record {
            place = e;
            left = m;
            head = x;
            first = f;
            inside = hi;
            rest = r;
            whole = sym (same_thing w);
            more = k;
            mark = m';
            others = λ h. rw (add-one i, ← hq) (o ∙ ap (λ (j : ℕ). good j m' r) (same_place w));
            last = λ h. absurd (omega (arith, run-some k (suc i) (number_for x ∷ seen) q z' m' r o));
          }

      alone-here : (e m : ℕ) (x : Single) → member g row i seen p ≡ good e m x → (q : ℕ) → q ≡ past space s e + 1 → past space s e + 1 ≤ length s → good q 0 (before x none) ≡ good z l t → Step d s member g row i seen p z t
      alone-here e m x f q hq hi w =
          record {
            place = e;
            left = m;
            head = x;
            first = f;
            inside = hi;
            rest = none;
            whole = sym (same_thing w);
            more = 0;
            mark = 0;
            others = λ h. absurd (omega (arith, none-size));
            last = λ h. sym (same_place w) ∙ hq;
          }

      go : (e m : ℕ) (x : Single) → member g row i seen p ≡ good e m x → (q : ℕ) → q ≡ past space s e + 1 → past space s e + 1 ≤ length s → (u : Bool) → onward k i seen q x u ≡ good z l t → Step d s member g row i seen p z t
      go e m x f q hq hi true y =
          let o = followed z l t (run d s member g row k (suc i) (number_for x ∷ seen) q) _ y in
          more e m x f q hq hi o.0 o.1 o.2 o.3 o.4
      go e m x f q hq hi false y = alone-here e m x f q hq hi y

-- what stands before a value, where no number was seen
module _ (d s : List ℕ) (row i : ℕ) (seen : List ℕ) (p q l n : ℕ) where
  pub key_without : (g : Shape) → key_at d s g row i seen p ≡ good q l n → key_at d s g row i [] p ≡ good q l n
  unfolding key_at
  key_without Set e =
      let a = followed q l n (name_at d s row (past space s p)) _ e in
      let b = needed q l n (fresh d row seen a.2) _ _ _ a.4 in
      let x = a.3 in
      rw (x, never_given d row a.2) b.1
  key_without Array e = e

-- a member by what stands before its value
module _ (d s : List ℕ) (inside : Shape → ℕ → ℕ → ℕ → Judged Tuples) (g : Shape) (row i : ℕ) (seen : List ℕ) (p z m : ℕ) (x : Single) where
  pub member-value : (q n : ℕ) → member_at d s inside g row i seen p ≡ good z m x → key_at d s g row i [] p ≡ good q 0 n → value_at d s inside n (child d row n) q ≡ good z m x
  unfolding member_at
  member-value q n e k =
      let a = followed z m x (key_at d s g row i seen p) _ e in
      let f = sym (key_without d s row i seen p a.0 a.1 a.2 g a.3) ∙ k in
      made a.0 a.2 (same_place f) (same_thing f) a.4
    where
      made : (q' n' : ℕ) → q' ≡ q → n' ≡ n → value_at d s inside n' (child d row n') q' ≡ good z m x → value_at d s inside n (child d row n) q ≡ good z m x
      made q' n' u v y = rw (u, v) at y

  pub member_keyed : (a w : ℕ) {B : Type 0} → member_at d s inside g row i seen p ≡ good z m x → key_at d s g row i [] p ≡ refused a w → B
  unfolding member_at
  member_keyed a w e k =
      let o = followed z m x (key_at d s g row i seen p) _ e in
      never (sym k ∙ key_without d s row i seen p o.0 o.1 o.2 g o.3)
