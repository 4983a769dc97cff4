-- A tuple of which a line of the table speaks is refused with that line's number, at its start.
-- Assumes nothing.
--   base-of, order-of   what a tuple that is in order up to its value has
--   nested-judged       it is refused where the value of its set or array is
--   fails-judged        it is refused where a line speaks of it
use mathlib.Core.Path.{◌≡◌, refl, sym, ap, ◌∙◌}
use mathlib.Core.List.{List, []}
use mathlib.Core.Bool.{false}
use Prim.Native.Nat.{ℕ, suc, ◌+◌, ◌-◌, ◌*◌, ◌%◌, ◌≤◌}
use native.Mathlib.Omega.{arith}
use lib.ListN.{length}
use lib.Seq.{slice}
use borrow.Author.Tests.{ltb-false, lt-ltb, lt-leb, le-leb, eq-eqb, ne_eqb}
use Rattle.paper.specs.Refusals.{past_end, width_wrong, not_known, given_twice, not_in_base, misfit, value_wrong, too_deep, budget_spent}
use Rattle.paper.specs.Checks.{refused, good}
use Rattle.numbers.specs.Bytes.{Bytes, byte}
use Rattle.numbers.specs.Number.{Found, Refused, Value, number_at, NumberFault, number_past, width_off}
use Rattle.numbers.proofs.Places.{bytes-slice}
use Rattle.numbers.proofs.Numbers.{number_fault}
use Rattle.dictionary.specs.Formats.{enum_form}
use Rattle.payload.specs.Tree.{Tuples, count}
use Rattle.payload.specs.Values.{wrong, scalar_value}
use Rattle.payload.specs.Reading.{asked, is_group, tuple_at, run, inside_of}
use Rattle.payload.specs.Lying.{Read}
use Rattle.payload.specs.Reached.{Many, Spot, Measured, Nested, Due, its_s, its_l, its_count, its_option}
use Rattle.payload.specs.Refusing.{PastEnd, number_passes, form_passes, value_passes, WidthWrong, width_wrong_at, NotKnown, not_known_at, GivenTwice, given_twice_at, NotInBase, annotated, unsupported, Misfit, misfitting, ValueWrong, wrong_scalar, left_over, TooDeep, too_deep_at, BudgetSpent}
use Rattle.payload.proofs.Faults.{Fails, fails_4, fails_5, fails_6, fails_7, fails_8, fails_9, fails_10, fails_11, fails_12}
use Rattle.payload.proofs.Parts.{part-number}
use Rattle.payload.proofs.Lying.{number-lies, number-goes}
use Rattle.payload.proofs.Scalars.{no_option, no_scalar, misvalued}
use Rattle.payload.proofs.Asked.{Base, supported-is}
use Rattle.payload.proofs.Wrongs.{wrong-read, wrong-high, wrong-none}
use Rattle.payload.proofs.Complete.{run_complete}
use Rattle.payload.proofs.Faults.{judged_at, some_left, asked_S, asked-begun, asked-numbered, asked-formed, asked-read, asked-measured}

-- what was written and fits is accepted
pub many-run : (d : List ℕ) (room : ℕ) (s : List ℕ) (row n i : ℕ) (seen : List ℕ) (p e l q m : ℕ) (t : Tuples) → Many d room s row n i seen p e l q m t → run d s (tuple_at d s (inside_of d s room)) row n i seen p e l ≡ good q m t
many-run d room s row n i seen p e l q m t y =
    let c : l - count t ≡ m = omega (arith, y.spent) in
    ap (λ (k : ℕ). run d s (tuple_at d s (inside_of d s room)) row k i seen p e l) (sym y.sized)
    ∙ run_complete d t room s y.bytes row i seen p q e l y.written y.fitting y.lies y.within y.shallow (omega (arith, y.spent))
    ∙ ap (λ (k : ℕ). good q k t) c

-- one line after another
module _ (s : List ℕ) (x : Spot) {n f q z : ℕ} (m : Measured s x n f q z) where
  pub base-of : Base f
  base-of = rw m.format at (supported-is (byte s m.place) m.formed.supports).1

  pub order-of : q ≤ z
  order-of = omega (arith, m.ends)

-- an option's number, which fills a part of the payload
module _ (s : List ℕ) (q z : ℕ) (order : q ≤ z) (h : z ≤ length s) where
  pub part-there : (k : ℕ) → number_at (slice q z s) 0 (length (slice q z s)) ≡ Refused k → number_at s q z ≡ Refused k
  part-there k e = sym (part-number s q z order h) ∙ e

  pub part-back : (k : ℕ) → number_at s q z ≡ Refused k → number_at (slice q z s) 0 (length (slice q z s)) ≡ Refused k
  part-back k e = part-number s q z order h ∙ e

  pub part-found : (m p : ℕ) → Read s q z m p → (n : ℕ) × (w : ℕ) × (number_at (slice q z s) 0 (length (slice q z s)) ≡ Value n w)
  part-found m p r = go (number_at (slice q z s) 0 (length (slice q z s))) refl
    where
      go : (f : Found) → number_at (slice q z s) 0 (length (slice q z s)) ≡ f → (n : ℕ) × (w : ℕ) × (f ≡ Value n w)
      go (Value n w) e = (n, w, refl)
      go (Refused k) e = absurd (let a = part-there k e in let b = number-lies s r.bytes q p z m r.lies r.writes r.within in let c : ◌≡◌ {A = ℕ} 0 1 = cc in omega arith)

module _ (d s : List ℕ) (x : Spot) where
  pub nested-judged : (row q z room k w : ℕ) → Nested s x row q z room → inside_of d s (suc room) row x.start q z (x.left - 1) ≡ refused k w → judged_at d s x ≡ refused k w
  nested-judged row q z room k w n h = asked-measured s x _ n.number n.form q z n.measured ∙ rw (n.grouped, n.deep, n.row_is, h)

  scalar-judged : (n f q z k : ℕ) → Measured s x n f q z → is_group f ≡ false → scalar_value d (x.row_for n) f (slice q z s) ≡ wrong k → judged_at d s x ≡ refused k x.start
  scalar-judged n f q z k m g h = asked-measured s x _ n f q z m ∙ rw (g, h)

  module _ (hb : Bytes s) (he : x.end ≤ length s) where
    S_judged : (k : ℕ) → 1 ≤ x.left → number_at s x.start x.end ≡ Refused k → judged_at d s x ≡ refused k x.start
    unfolding asked
    S_judged k h f = rw (some_left x h, f)

    count-judged : (k row p e room : ℕ) → Nested s x row p e room → number_at s p e ≡ Refused k → judged_at d s x ≡ refused k x.start
    unfolding inside_of
    count-judged k row p e room n f = nested-judged row p e room k x.start n (rw f)

    due-judged : (k p e : ℕ) → Due s x p e → number_at s p e ≡ Refused k → judged_at d s x ≡ refused k x.start
    due-judged k p e (its_s h i j) f = S_judged k h (rw (i, j) at f)
    due-judged k p e (its_l n at m i j) f = let g : number_at s (at + 1) x.end ≡ Refused k = rw (i, j) at f in asked-formed s x _ n at m ∙ rw g
    due-judged k p e (its_count row room n) f = count-judged k row p e room n f
    due-judged k p e (its_option n m) f =
        scalar-judged n enum_form p e k m refl
        ((misvalued d (x.row_for n) enum_form (slice p e s) k (bytes-slice s p e hb) (omega arith) (omega arith) (λ z. omega arith)).1
        (no_option refl (part-back s p e (order-of s x m) (omega (arith, m.within)) k f)))

    faulty-due : (k p e : ℕ) → Due s x p e → NumberFault s p e k → judged_at d s x ≡ refused k x.start
    faulty-due k p e u h = due-judged k p e u ((number_fault s p e k).1 h)

    judged_4 : PastEnd s x → judged_at d s x ≡ refused past_end x.start
    judged_4 (number_passes p e u h) = faulty-due past_end p e u (number_past h refl)
    judged_4 (form_passes n p h g) = asked-numbered s x _ n p h ∙ rw (le-leb x.end p g)
    judged_4 (value_passes n p long q f r g) = asked-read s x _ n p long q f r ∙ rw (lt-ltb (x.end - q) long (omega (arith, r.within)))

    judged_5 : WidthWrong s x → judged_at d s x ≡ refused width_wrong x.start
    judged_5 (width_wrong_at p e u h) = faulty-due width_wrong p e u (width_off h refl)

    judged_6 : NotKnown s x → judged_at d s x ≡ refused not_known x.start
    judged_6 (not_known_at n p b u) = asked-begun s x _ n p b ∙ rw u

    judged_7 : GivenTwice s x → judged_at d s x ≡ refused given_twice x.start
    judged_7 (given_twice_at n p b u v) = asked-begun s x _ n p b ∙ rw (u, v)

    judged_8 : NotInBase s x → judged_at d s x ≡ refused not_in_base x.start
    judged_8 (annotated n p h r) =
        let odd : suc (2 * n) % 2 ≡ 0 → ⊥ = λ e. omega arith in
        asked_S s x _ (suc (2 * n)) p h r ∙ rw (ne_eqb (suc (2 * n) % 2) 0 odd)
    judged_8 (unsupported n p h g u) = asked-numbered s x _ n p h ∙ rw (lt-leb x.end p g, u)

    judged_9 : Misfit s x → judged_at d s x ≡ refused misfit x.start
    judged_9 (misfitting n p h g u v) = asked-numbered s x _ n p h ∙ rw (lt-leb x.end p g, u, v)

    judged_10 : ValueWrong d s x → judged_at d s x ≡ refused value_wrong x.start
    unfolding inside_of
    judged_10 (wrong_scalar n f q z m y) =
        let b = base-of s x m in
        let g = wrong-high d s (x.row_for n) f q z y in
        let end : z ≤ length s = omega (arith, m.within) in
        scalar-judged n f q z value_wrong m g
        ((misvalued d (x.row_for n) f (slice q z s) value_wrong (bytes-slice s q z hb) (ltb-false f 2 g) b.high b.not_real).1
        (no_scalar (λ e. let r = wrong-read d s (x.row_for n) f q z y e in part-found s q z (order-of s x m) end r.0 r.1 r.2) (wrong-none d s (x.row_for n) f q z hb (order-of s x m) end y) refl))
    judged_10 (left_over row q room n p z m t c y h) =
        let r = c.number in
        nested-judged row c.from q room value_wrong x.start c.nested
        (number-goes s r.bytes c.from p q n r.lies r.writes r.within x.start _ ∙ rw (many-run d room s row n 0 [] p q (x.left - 1) z m t y, ne_eqb z q (λ e. omega arith)))

    judged_11 : TooDeep s x → judged_at d s x ≡ refused too_deep x.start
    unfolding inside_of
    judged_11 (too_deep_at n f q z m g e) = asked-measured s x _ n f q z m ∙ rw (g, e)

    judged_12 : BudgetSpent x → judged_at d s x ≡ refused budget_spent x.start
    unfolding asked
    judged_12 e = rw (eq-eqb x.left 0 e)

    is : {k j : ℕ} → k ≡ j → judged_at d s x ≡ refused j x.start → judged_at d s x ≡ refused k x.start
    is e h = rw e h

    pub fails-judged : (k : ℕ) → Fails d s k x → judged_at d s x ≡ refused k x.start
    fails-judged k (fails_4 e h) = is e (judged_4 h)
    fails-judged k (fails_5 e h) = is e (judged_5 h)
    fails-judged k (fails_6 e h) = is e (judged_6 h)
    fails-judged k (fails_7 e h) = is e (judged_7 h)
    fails-judged k (fails_8 e h) = is e (judged_8 h)
    fails-judged k (fails_9 e h) = is e (judged_9 h)
    fails-judged k (fails_10 e h) = is e (judged_10 h)
    fails-judged k (fails_11 e h) = is e (judged_11 h)
    fails-judged k (fails_12 e h) = is e (judged_12 h)
