-- The checks of a tuple before its value, where one fails: the tuple is refused by the line of the table that speaks of it, or its value is refused.
-- Assumes nothing.
--   number_stop, value_stop   a number or a scalar that refuses, or goes on and the rest refuses
--   asked_at                   the checks of the tuple at a spot; judged_at: with its value
--   asked_like                two values that refuse alike: so do the tuples
--   asked-begun ..            how the checks go on, as far as the tuple is in order
--   fails_4 .. fails_12       a line that speaks of a tuple is the table's
--   asked_stop                what is refused fails a check, or its value is refused
use mathlib.Core.Path.{◌≡◌, refl, ◌∙◌}
use mathlib.Core.List.{List}
use mathlib.Core.Bool.{true, false}
use Prim.Native.Nat.{ℕ, suc, ◌+◌, ◌-◌, ◌*◌, ◌/◌, ◌%◌, ◌<◌, ◌≤◌}
use native.Mathlib.Omega.{arith}
use lib.ListN.{length}
use lib.Dec.{ltb, leb, eqb}
use borrow.Author.Tests.{ltb-true, ltb-false, leb-true, leb-false, eqb-true, eqb-false, le-ltb, lt-leb, eq-eqb, ne_eqb}
use Rattle.paper.specs.Refusals.{past_end, width_wrong, not_known, given_twice, not_in_base, misfit, value_wrong, too_deep, budget_spent}
use Rattle.paper.specs.Checks.{Judged, refused, refuse, need}
use Rattle.paper.proofs.Checks.{refuse_stop, need_stop, refuse_like, need_like}
use Rattle.numbers.specs.Bytes.{Bytes, byte}
use Rattle.numbers.specs.Number.{Found, Refused, Value, number_at, NumberFault, number_past, width_off}
use Rattle.numbers.proofs.Numbers.{number_fault}
use Rattle.payload.specs.Tree.{Scalar}
use Rattle.payload.specs.Values.{Valued, wrong, worth}
use Rattle.payload.specs.Reading.{Single, asked, number, value, supported, body_at, inside_of}
use Rattle.payload.specs.Lying.{Read}
use Rattle.payload.specs.Reached.{Spot, Begun, Numbered, Formed, Measured, Due, its_s, its_l}
use Rattle.payload.specs.Refusing.{PastEnd, number_passes, form_passes, value_passes, WidthWrong, width_wrong_at, NotKnown, not_known_at, GivenTwice, given_twice_at, NotInBase, annotated, unsupported, Misfit, misfitting, ValueWrong, TooDeep, BudgetSpent}
use Rattle.payload.proofs.Lying.{number_read, number-goes}

module _ {A : Type 0} {k w : ℕ} {R : Type 0} where
  pub number_stop : (r : Found) (at p : ℕ) (f : ℕ → ℕ → Judged A) → number r at p f ≡ refused k w → (r ≡ Refused k → w ≡ at → R) → ((n v : ℕ) → r ≡ Value n v → f n (p + 1 + v) ≡ refused k w → R) → R
  number_stop (Refused k') at p f e x y = x (cc) (cc)
  number_stop (Value n v) at p f e x y = y n v refl e

  pub value_stop : (r : Valued) (at : ℕ) (f : Scalar → Judged A) → value r at f ≡ refused k w → (r ≡ wrong k → w ≡ at → R) → ((x : Scalar) → r ≡ worth x → f x ≡ refused k w → R) → R
  value_stop (wrong k') at f e x y = x (cc) (cc)
  value_stop (worth z) at f e x y = y z refl e

number_like : {A B : Type 0} {k w : ℕ} (r : Found) (at p : ℕ) (f : ℕ → ℕ → Judged A) (g : ℕ → ℕ → Judged B) → ((n q : ℕ) → f n q ≡ refused k w → g n q ≡ refused k w) → number r at p f ≡ refused k w → number r at p g ≡ refused k w
number_like {A} {B} {k} {w} (Refused k') at p f g H e = let i : k' ≡ k = cc in let j : at ≡ w = cc in rw (i, j)
number_like (Value n v) at p f g H e = H n (p + 1 + v) e

abbrev pub asked_at : {A : Type 0} → List ℕ → Spot → (ℕ → ℕ → ℕ → ℕ → Judged A) → Judged A
asked_at s x body = asked s x.knows x.news x.suits body x.start x.end x.left

abbrev pub judged_at : List ℕ → List ℕ → Spot → Judged Single
judged_at d s x = asked_at s x λ n f q z. body_at d s (inside_of d s x.room) n (x.row_for n) f x.start q z (x.left - 1)

pub asked_like : (s : List ℕ) (x : Spot) {A B : Type 0} (f : ℕ → ℕ → ℕ → ℕ → Judged A) (g : ℕ → ℕ → ℕ → ℕ → Judged B) (k w : ℕ) → ((n m q z : ℕ) → x.suits n m ≡ true → f n m q z ≡ refused k w → g n m q z ≡ refused k w) → asked_at s x f ≡ refused k w → asked_at s x g ≡ refused k w
unfolding asked
asked_like s x f g k w H =
    refuse_like (eqb x.left 0) _ _ _ _
    (number_like (number_at s x.start x.end) _ _ _ _ λ S p.
    need_like (eqb (S % 2) 0) _ _ _ _ λ _.
    need_like (x.knows (S / 2)) _ _ _ _ λ _.
    need_like (x.news (S / 2)) _ _ _ _ λ _.
    refuse_like (leb x.end p) _ _ _ _
    (need_like (supported (byte s p)) _ _ _ _ λ _.
    need_like (x.suits (S / 2) (byte s p / 16)) _ _ _ _ λ fits.
    number_like (number_at s (p + 1) x.end) _ _ _ _ λ len q.
    refuse_like (ltb (x.end - q) len) _ _ _ _
    (H (S / 2) (byte s p / 16) q (q + len) fits)))

pub some_left : (x : Spot) → 1 ≤ x.left → eqb x.left 0 ≡ false
some_left x h = ne_eqb x.left 0 (λ e. omega arith)

module _ (s : List ℕ) (x : Spot) {A : Type 0} (body : ℕ → ℕ → ℕ → ℕ → Judged A) where
  -- what is left to check, after S and after F
  abbrev pub from_f : ℕ → ℕ → Judged A
  from_f n p =
      refuse (leb x.end p) past_end x.start λ _.
      need (supported (byte s p)) not_in_base x.start λ _.
      need (x.suits n (byte s p / 16)) misfit x.start λ _.
      number (number_at s (p + 1) x.end) x.start (p + 1) λ len q.
      refuse (ltb (x.end - q) len) past_end x.start λ _.
      body n (byte s p / 16) q (q + len)

  abbrev pub from_l : ℕ → ℕ → Judged A
  from_l n p = number (number_at s (p + 1) x.end) x.start (p + 1) λ len q. refuse (ltb (x.end - q) len) past_end x.start λ _. body n (byte s p / 16) q (q + len)

  pub asked_S : (S p : ℕ) → 1 ≤ x.left → Read s x.start x.end S p → asked_at s x body ≡ (need (eqb (S % 2) 0) not_in_base x.start λ _. need (x.knows (S / 2)) not_known x.start λ _. need (x.news (S / 2)) given_twice x.start λ _. from_f (S / 2) p)
  unfolding asked
  asked_S S p h r = rw (some_left x h) (number-goes s r.bytes x.start p x.end S r.lies r.writes r.within x.start _)

  pub asked-begun : (n p : ℕ) → Begun s x n p → asked_at s x body ≡ (need (x.knows n) not_known x.start λ _. need (x.news n) given_twice x.start λ _. from_f n p)
  asked-begun n p b =
      let half : 2 * n / 2 ≡ n = omega arith in
      let even : 2 * n % 2 ≡ 0 = omega arith in
      asked_S (2 * n) p b.some b.number ∙ rw (half, eq-eqb _ _ even)

  pub asked-numbered : (n p : ℕ) → Numbered s x n p → asked_at s x body ≡ from_f n p
  asked-numbered n p h = asked-begun n p h.begun ∙ rw (h.is_known, h.is_new)

  pub asked-formed : (n p : ℕ) → Formed s x n p → asked_at s x body ≡ from_l n p
  asked-formed n p f = asked-numbered n p f.numbered ∙ rw (lt-leb x.end p f.within, f.supports, f.does_suit)

  pub asked-read : (n p len q : ℕ) → Formed s x n p → Read s (p + 1) x.end len q → asked_at s x body ≡ (refuse (ltb (x.end - q) len) past_end x.start λ _. body n (byte s p / 16) q (q + len))
  asked-read n p len q f r = asked-formed n p f ∙ number-goes s r.bytes (p + 1) q x.end len r.lies r.writes r.within x.start _

  pub asked-measured : (n f q z : ℕ) → Measured s x n f q z → asked_at s x body ≡ body n f q z
  asked-measured n f q z m = asked-read n m.place m.long q m.formed m.number ∙ rw (le-ltb (x.end - q) m.long (omega (arith, m.ends, m.within)), m.format, m.ends)

-- the lines of the table that speak of a tuple, by their number
pub data Fails (d s : List ℕ) (k : ℕ) (x : Spot) : Type 0 where
  fails_4 : k ≡ past_end → PastEnd s x → Fails d s k x
  fails_5 : k ≡ width_wrong → WidthWrong s x → Fails d s k x
  fails_6 : k ≡ not_known → NotKnown s x → Fails d s k x
  fails_7 : k ≡ given_twice → GivenTwice s x → Fails d s k x
  fails_8 : k ≡ not_in_base → NotInBase s x → Fails d s k x
  fails_9 : k ≡ misfit → Misfit s x → Fails d s k x
  fails_10 : k ≡ value_wrong → ValueWrong d s x → Fails d s k x
  fails_11 : k ≡ too_deep → TooDeep s x → Fails d s k x
  fails_12 : k ≡ budget_spent → BudgetSpent x → Fails d s k x

module _ (d s : List ℕ) (x : Spot) {k : ℕ} where
  pub due-fails : (p e : ℕ) → Due s x p e → NumberFault s p e k → Fails d s k x
  due-fails p e u (number_past h i) = fails_4 i (number_passes p e u h)
  due-fails p e u (width_off h i) = fails_5 i (width_wrong_at p e u h)

reread : {s : List ℕ} {p e m n q : ℕ} → m ≡ n → Read s p e m q → Read s p e n q
reread e r = rw e at r

module _ (d s : List ℕ) (x : Spot) {A : Type 0} (body : ℕ → ℕ → ℕ → ℕ → Judged A) (k w : ℕ) {R : Type 0} where
  pub asked_stop : Bytes s → x.end ≤ length s → asked_at s x body ≡ refused k w → (Fails d s k x → w ≡ x.start → R) → ((n f q z : ℕ) → Measured s x n f q z → body n f q z ≡ refused k w → R) → R
  unfolding asked
  asked_stop hb he x₀ own inner =
      refuse_stop (eqb x.left 0) _ _ _ x₀ (λ b i j. own (fails_12 i (eqb-true x.left 0 b)) j) λ b₁ x₁.
      let some = one-at-least x.left (eqb-false x.left 0 b₁) in
      number_stop (number_at s x.start x.end) _ _ _ x₁ (λ f j. own (due-fails d s x x.start x.end (its_s some refl refl) ((number_fault s x.start x.end k).0 f)) j) λ S v g x₂.
      let n = S / 2 in
      let p = x.start + 1 + v in
      let r = number_read s x.start x.end S v hb he g in
      need_stop (eqb (S % 2) 0) _ _ _ x₂ (λ b i j. own (fails_8 i (annotated n p some (reread (odd S (eqb-false _ _ b)) r))) j) λ b₂ x₃.
      let begun : Begun s x n p = record { some = some; number = reread (even S (eqb-true _ _ b₂)) r } in
      need_stop (x.knows n) _ _ _ x₃ (λ b i j. own (fails_6 i (not_known_at n p begun b)) j) λ b₃ x₄.
      need_stop (x.news n) _ _ _ x₄ (λ b i j. own (fails_7 i (given_twice_at n p begun b₃ b)) j) λ b₄ x₅.
      let numbered : Numbered s x n p = record { begun = begun; is_known = b₃; is_new = b₄ } in
      refuse_stop (leb x.end p) _ _ _ x₅ (λ b i j. own (fails_4 i (form_passes n p numbered (leb-true x.end p b))) j) λ b₅ x₆.
      let lt = leb-false x.end p b₅ in
      need_stop (supported (byte s p)) _ _ _ x₆ (λ b i j. own (fails_8 i (unsupported n p numbered lt b)) j) λ b₆ x₇.
      need_stop (x.suits n (byte s p / 16)) _ _ _ x₇ (λ b i j. own (fails_9 i (misfitting n p numbered lt b₆ b)) j) λ b₇ x₈.
      let formed : Formed s x n p = record { numbered = numbered; within = lt; supports = b₆; does_suit = b₇ } in
      number_stop (number_at s (p + 1) x.end) _ _ _ x₈ (λ f j. own (due-fails d s x (p + 1) x.end (its_l n p formed refl refl) ((number_fault s (p + 1) x.end k).0 f)) j) λ len u g' x₉.
      let q = p + 1 + 1 + u in
      let r' = number_read s (p + 1) x.end len u hb he g' in
      refuse_stop (ltb (x.end - q) len) _ _ _ x₉ (λ b i j. own (fails_4 i (value_passes n p len q formed r' (over q len (ltb-true (x.end - q) len b)))) j) λ b₈ y.
      inner n (byte s p / 16) q (q + len) (record { place = p; long = len; formed = formed; format = refl; number = r'; ends = refl; within = under q len r'.within (ltb-false (x.end - q) len b₈) }) y
    where
      one-at-least : (l : ℕ) → (l ≡ 0 → ⊥) → 1 ≤ l
      one-at-least l h = omega arith

      even : (S : ℕ) → S % 2 ≡ 0 → S ≡ 2 * (S / 2)
      even S h = omega arith

      odd : (S : ℕ) → (S % 2 ≡ 0 → ⊥) → S ≡ suc (2 * (S / 2))
      odd S h = omega arith

      over : (q len : ℕ) → x.end - q < len → x.end < q + len
      over q len h = omega arith

      under : (q len : ℕ) → q ≤ x.end → len ≤ x.end - q → q + len ≤ x.end
      under q len g h = omega arith
