-- Whether a format fits a row, and the front of an object or an array: one lemma for each return.
-- Assumes nothing.
use Prim.Native.Nat.{ℕ, zero, suc, ◌+◌, ◌-◌, ◌*◌, ◌≤◌}
use mathlib.Core.Path.{◌≡◌, refl, sym, ap, ◌∙◌}
use mathlib.Core.List.{List}
use mathlib.Core.Bool.{Bool, true, false, not, ◌&&◌}
use native.Mathlib.Omega.{arith}
use lib.ListN.{length}
use lib.Dec.{eqb}
use borrow.Author.Tests.{eq-eqb, ne_eqb, eqb-true}
use Rattle.std.specs.Prelude.{Ok, Err}
use Rattle.paper.specs.declared.Refusal.{Refusal}
use Rattle.paper.specs.declared.Refusal.TheVariants as refusal
use Rattle.paper.specs.declared.Refused.{Refused}
use Rattle.paper.specs.Refusal.{number_of}
use Rattle.paper.specs.Refusals.{accepted, not_in_base, misfit}
use Rattle.paper.specs.Checks.{choose, Judged, good, need, after}
use Rattle.numbers.specs.Number.{fewest}
use Rattle.numbers.specs.Number as numbers
use Rattle.dictionary.specs.Formats.{null_form, real_form}
use Rattle.dictionary.specs.Rows.{kind}
use Rattle.dictionary.specs.Given.{Row}
use Rattle.dictionary.proofs.Asking.{row_inside}
use Rattle.payload.specs.Tree.{Tuples, none, shape_format}
use Rattle.payload.specs.declared.Shape.{Shape}
use Rattle.payload.specs.declared.Shape.TheVariants.{Set, Array}
use Rattle.payload.specs.Fits.{fits}
use Rattle.payload.specs.Text.{opens, closes}
use Rattle.payload.specs.Reading.{group}
use Rattle.writer_tokens.specs.declared.Token.{Token}
use Rattle.writer_tokens.specs.declared.Token.TheVariants as token
use Rattle.writer_tokens.specs.Met.{Passed, Scanned, LiesIn, meant}
use Rattle.text.specs.Tokens.{a_sign, space}
use Rattle.text.specs.Scanning.{next}
use Rattle.text.specs.Values.{is_sign, in_base, form_for, misfit_for}
use Rattle.text.specs.Writing.{value_for, inside_of}
use Rattle.writer_parse.specs.declared.Value.TheVariants.{Empty}
use Rattle.writer_parse.specs.declared.Head.TheVariants.{Leaf, Many}
use Rattle.writer_parse.specs.Met.{FitMet, members_at, ManyAt, ForMet}

-- a row's fields lie inside its dictionary
pub row_lies : (d : List ℕ) (row : ℕ) → Row d row → 12 + 10 * row + 10 ≤ length d
row_lies d row w = row_inside d w.accepted row w.inside

-- no refusal has the number of acceptance
pub refuses : (k : Refusal) → number_of k ≡ accepted → ⊥
refuses refusal.DictionaryWrong e = omega (arith, e)
refuses refusal.LengthWrong e = omega (arith, e)
refuses refusal.HeaderDiffers e = omega (arith, e)
refuses refusal.PastEnd e = omega (arith, e)
refuses refusal.WidthWrong e = omega (arith, e)
refuses refusal.NotKnown e = omega (arith, e)
refuses refusal.GivenTwice e = omega (arith, e)
refuses refusal.NotInBase e = omega (arith, e)
refuses refusal.Misfit e = omega (arith, e)
refuses refusal.ValueWrong e = omega (arith, e)
refuses refusal.TooDeep e = omega (arith, e)
refuses refusal.BudgetSpent e = omega (arith, e)
refuses refusal.AfterRoot e = omega (arith, e)
refuses refusal.NoRoom e = omega (arith, e)
refuses refusal.BadText e = omega (arith, e)
refuses refusal.NotSound e = omega (arith, e)
refuses refusal.NumberZero e = omega (arith, e)
refuses refusal.InUse e = omega (arith, e)
refuses refusal.AllTaken e = omega (arith, e)
refuses refusal.NoSuchNumber e = omega (arith, e)
refuses refusal.NotAllowed e = omega (arith, e)
refuses refusal.OpenWrong e = omega (arith, e)
refuses refusal.AmountWrong e = omega (arith, e)

-- what a misfit refuses first
pub unfit : {A : Type 0} (d : List ℕ) (row f at : ℕ) (k : Refused) (rest : Unit {0} → Judged A) → FitMet d row f at (Err k) → need (eqb (misfit_for d row f) accepted) (misfit_for d row f) at rest ≡ Judged.refused (number_of k.refusal) k.place
unfit d row f at k rest h = rw (h.0, ne_eqb (number_of k.refusal) accepted (refuses k.refusal), h.1)

module _ (d s : List ℕ) where
  -- a format that fits, and is not null, is the row's own
  pub misfit-none : (row f : ℕ) → misfit_for d row f ≡ accepted → (f ≡ null_form → ⊥) → kind d row ≡ f
  unfolding misfit_for fits
  misfit-none row f e n = go (eqb f real_form) (not (in_base d row) && true) (eqb f (kind d row)) refl (rw (ne_eqb f null_form n) at e)
    where
      go : (a b c : Bool) → eqb f (kind d row) ≡ c → ◌≡◌ {A = ℕ} (choose a (λ _. not_in_base) λ _. choose b (λ _. not_in_base) λ _. choose c (λ _. accepted) (λ _. misfit)) accepted → kind d row ≡ f
      go true b c h x = absurd (omega (arith, x))
      go false true c h x = absurd (omega (arith, x))
      go false false true h x = sym (eqb-true f (kind d row) h)
      go false false false h x = absurd (omega (arith, x))

  pub group_law : (room n row at : ℕ) (g : Shape) → value_for d s (inside_of d s room) n row (a_sign (opens g)) at (at + 1) ≡ (need (eqb (misfit_for d row (shape_format g)) accepted) (misfit_for d row (shape_format g)) at λ _. after (inside_of d s room g row at (at + 1)) λ z _ kids. good z 0 (group n g kids))
  unfolding form_for
  group_law room n row at Set = refl
  group_law room n row at Array = refl

  shape_no_null : (g : Shape) → shape_format g ≡ null_form → ⊥
  shape_no_null Set e = omega (arith, e)
  shape_no_null Array e = omega (arith, e)

  inside_law : (room row at p : ℕ) (g : Shape) → 1 ≤ room → inside_of d s room g row at p ≡ (next s p λ first q k. choose (is_sign (closes g) k) (λ _. good q 0 none) λ _. members_at d s room g row first)
  unfolding inside_of members_at
  inside_law (suc room) row at p g h = let e : suc room - 1 ≡ room = omega arith in rw e
  inside_law zero row at p g h = absurd (omega arith)

  module _ (room row at : ℕ) (g : Shape) (x : ℕ) (hx : x ≡ shape_format g) where
    pub group-misfit : (k : Refused) → FitMet d row x at (Err k) → ForMet d s room row (a_sign (opens g)) at (at + 1) (Err k)
    group-misfit k h = record { same = λ n. group_law room n row at g ∙ unfit d row (shape_format g) at k _ (rw hx at h); fine = tt }

    module _ (z : misfit_for d row x ≡ accepted) where
      fit_law : (n : ℕ) → value_for d s (inside_of d s room) n row (a_sign (opens g)) at (at + 1) ≡ (after (inside_of d s room g row at (at + 1)) λ z _ kids. good z 0 (group n g kids))
      fit_law n = group_law room n row at g ∙ rw (← hx, z)

      pub group-deep : room ≡ 0 → (k : Refused) → k.refusal ≡ refusal.TooDeep → k.place ≡ at → ForMet d s room row (a_sign (opens g)) at (at + 1) (Err k)
      unfolding inside_of
      group-deep e k f h = record { same = λ n. fit_law n ∙ rw (e, f, h); fine = tt }

      module _ (nd : room ≡ 0 → ⊥) (first : ℕ) (v : Passed space s (at + 1) first) where
        one : 1 ≤ room
        one = omega arith

        open_law : (n : ℕ) → value_for d s (inside_of d s room) n row (a_sign (opens g)) at (at + 1) ≡ (after (next s (at + 1) λ first q k. choose (is_sign (closes g) k) (λ _. good q 0 none) λ _. members_at d s room g row first) λ z _ kids. good z 0 (group n g kids))
        open_law n = fit_law n ∙ ap (λ (j : Judged Tuples). after j λ z _ kids. good z 0 (group n g kids)) (inside_law room row at (at + 1) g one)

        many : ManyAt d s room row at g first
        many =
            record {
              spans = record { further = omega (arith, v.from); within = v.within };
              roomy = one;
              form = misfit-none row (shape_format g) (rw hx at z) (shape_no_null g);
            }

        pub group-refused : (k : Refused) → Scanned s first (Err k) → ForMet d s room row (a_sign (opens g)) at (at + 1) (Err k)
        group-refused k y = record { same = λ n. open_law n ∙ rw (← v.same, y.same); fine = tt }

        module _ (t : Token) (y : Scanned s first (Ok t)) where
          module _ (c b : ℕ) (e : t ≡ token.Sign c) (hb : b ≡ closes g) where
            y-is : Scanned s first (Ok (token.Sign c))
            y-is = rw e at y

            pub group_empty : c ≡ b → ForMet d s room row (a_sign (opens g)) at (at + 1) (Ok (Leaf (Empty g) (first + 1)))
            unfolding numbers.number_of fewest
            group_empty f =
                let l : LiesIn s first (Ok (token.Sign c)) = y-is.lies in
                record {
                  same = λ n. open_law n ∙ rw (← v.same, y-is.same, eq-eqb c (closes g) (f ∙ hb));
                  fine = record { spans = record { further = omega (arith, v.from); within = l.within }; proper = tt; small = omega (arith, v.from) };
                }

            pub group-sign : (c ≡ b → ⊥) → ForMet d s room row (a_sign (opens g)) at (at + 1) (Ok (Many g first))
            group-sign f = record { same = λ n. open_law n ∙ rw (← v.same, y-is.same, ne_eqb c (closes g) (λ i. f (i ∙ sym hb))); fine = many }

          pub group-other : ((b : ℕ) → t ≡ token.Sign b → ⊥) → ForMet d s room row (a_sign (opens g)) at (at + 1) (Ok (Many g first))
          group-other x = record { same = λ n. open_law n ∙ rw (← v.same, y.same) (none_signs n t x); fine = many }
            where
              none_signs : (n : ℕ) (t : Token) → ((b : ℕ) → t ≡ token.Sign b → ⊥) → after (after (meant s first (Ok t)) λ q _ k. choose (is_sign (closes g) k) (λ _. good q 0 none) λ _. members_at d s room g row first) (λ z _ kids. good z 0 (group n g kids)) ≡ after (members_at d s room g row first) λ z _ kids. good z 0 (group n g kids)
              none_signs n (token.Sign b) x = absurd (x b refl)
              none_signs n (token.String q) x = refl
              none_signs n (token.Null q) x = refl
              none_signs n (token.Boolean b q) x = refl
              none_signs n (token.Integer q) x = refl
              none_signs n (token.Real q) x = refl

pub ruleset grouping = (group-misfit, group-deep, group-refused, group_empty, group-sign, group-other)
