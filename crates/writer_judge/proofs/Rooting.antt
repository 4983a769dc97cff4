-- The root and the first pass over a whole text, one lemma for each return.
-- Assumes nothing.
use Prim.Native.Nat.{ℕ, ◌+◌, ◌≤◌, ◌<◌}
use mathlib.Core.Path.{◌≡◌, refl, sym, ap, ◌∙◌}
use mathlib.Core.List.{List}
use mathlib.Core.Bool.{Bool, true, false}
use native.Mathlib.Omega.{arith}
use lib.ListN.{length}
use lib.Seq.{sets}
use lib.Dec.{eqb}
use borrow.Author.Tests.{le-leb, lt-leb, eq-eqb, ne_eqb}
use Rattle.std.specs.Prelude.{Result, Ok, Err}
use Rattle.paper.specs.declared.Refused as paper
use Rattle.paper.specs.declared.Refusal.TheVariants.{Misfit, NotInBase, BadText, AfterRoot}
use Rattle.paper.specs.Refusal as table
use Rattle.paper.specs.Limits.{depth_most}
use Rattle.paper.specs.Refusals.{accepted, after_root}
use Rattle.paper.specs.Checks.{Judged, refused, good, need, after}
use Rattle.dictionary.specs.Formats.{set_form}
use Rattle.dictionary.specs.Rows.{kind}
use Rattle.dictionary.proofs.Laws.{accepted_header}
use Rattle.payload.specs.Tree.{Tuples}
use Rattle.payload.specs.declared.Shape.TheVariants.{Set, Array}
use Rattle.payload.specs.Fits.{fits}
use Rattle.payload.specs.Text.{opens}
use Rattle.payload.specs.Reading.{Single, group}
use Rattle.paper.proofs.Checks.{never, same_place, same_thing}
use Rattle.writer_tokens.specs.declared.Token.{Token}
use Rattle.writer_tokens.specs.declared.Token.TheVariants as token
use Rattle.writer_tokens.specs.Met.{Passed, Scanned, meant}
use Rattle.text.specs.Tokens.{a_sign, space}
use Rattle.text.specs.Scanning.{past, token_at}
use Rattle.text.specs.Values.{is_enum, form_for, misfit_for, in_base}
use Rattle.text.specs.Writing.{value_for, value_at, inside_of, root_for, root_at, tree_of}
use Rattle.text.proofs.Valuing.{base-kind}
use Rattle.writer_parse.specs.Met.{Site}
use Rattle.writer_judge.specs.declared.Measure as code
use Rattle.writer_judge.specs.Met.{Measure, Refused, Sized, measured, Stand, measure_of, Measured, RootNo, RootFor, RootMet, root_measure, JudgeMet}
use Rattle.writer_sizes.specs.Plan.{alone, plan}
use Rattle.writer_judge.proofs.Gathers.{Told, told-good, told-bound, told_no}

module _ (c at o : ℕ) (ho : o ≡ opens Set) where
  pub sign_set : c ≡ o → c ≡ opens Set
  sign_set e = e ∙ ho

  module _ (n : c ≡ o → ⊥) (a : ℕ) (ha : a ≡ opens Array) (x : paper.Refused) (w : x.place ≡ at) where
    no_set : eqb c (opens Set) ≡ false
    no_set = ne_eqb c (opens Set) (λ e. n (e ∙ sym ho))

    pub sign_array : c ≡ a → x.refusal ≡ Misfit → RootNo c at (table.number_of x.refusal) x.place
    unfolding form_for
    sign_array e i = rw (i, w) (record { same = λ d s. rw (no_set, eq-eqb c (opens Array) (e ∙ ha)) })

    pub sign_other : (c ≡ a → ⊥) → x.refusal ≡ BadText → RootNo c at (table.number_of x.refusal) x.place
    sign_other m i = rw (i, w) (record { same = λ d s. rw (no_set, ne_eqb c (opens Array) (λ e. m (e ∙ sym ha))) })

pub ruleset root_signs = (sign_set, sign_array, sign_other)

module _ (d s : List ℕ) (st : Site d s 0 0) (at : ℕ) (v : Passed space s 0 at) where
  root-set : kind d 0 ≡ set_form
  root-set = (accepted_header d st.own.accepted).root

  set-fits : misfit_for d 0 set_form ≡ accepted
  unfolding misfit_for fits
  set-fits =
      let z : in_base d 0 ≡ true = base-kind d 0 set_form (record { high = omega arith; not_real = λ e. omega (arith, e) }) (sym root-set) in
      rw (z, eq-eqb set_form (kind d 0) (sym root-set))

  object_law : (at : ℕ) → value_for d s (inside_of d s depth_most) 0 0 (a_sign (opens Set)) at (at + 1) ≡ (need (eqb (misfit_for d 0 set_form) accepted) (misfit_for d 0 set_form) at λ _. after (inside_of d s depth_most Set 0 at (at + 1)) λ z _ kids. good z 0 (group 0 Set kids))
  unfolding form_for
  object_law at = refl

  pub root-refused : (x : paper.Refused) → Scanned s at (Err x) → RootMet d s (Err x)
  unfolding root_at
  root-refused x sc = let y = sc.same in rw (← v.same, y)

  -- a value that is no object
  module _ (t : Token) (sc : Scanned s at (Ok t)) (x : paper.Refused) (w : x.place ≡ at) where
    module _ (i : x.refusal ≡ Misfit) where
      root-string : (q : ℕ) → t ≡ token.String q → RootMet d s (Err x)
      unfolding root_at form_for is_enum
      root-string q e = let y = sc.same ∙ ap (λ (k : Token). meant s at (Ok k)) e in rw (i, w, ← v.same, y, root-set)

      root-null : (q : ℕ) → t ≡ token.Null q → RootMet d s (Err x)
      unfolding root_at form_for
      root-null q e = let y = sc.same ∙ ap (λ (k : Token). meant s at (Ok k)) e in rw (i, w, ← v.same, y)

      root-boolean : (b : Bool) (q : ℕ) → t ≡ token.Boolean b q → RootMet d s (Err x)
      unfolding root_at form_for
      root-boolean b q e = let y = sc.same ∙ ap (λ (k : Token). meant s at (Ok k)) e in rw (i, w, ← v.same, y)

      root-integer : (q : ℕ) → t ≡ token.Integer q → RootMet d s (Err x)
      unfolding root_at form_for
      root-integer q e = let y = sc.same ∙ ap (λ (k : Token). meant s at (Ok k)) e in rw (i, w, ← v.same, y)

    pub root_real : x.refusal ≡ NotInBase → (q : ℕ) → t ≡ token.Real q → RootMet d s (Err x)
    unfolding root_at form_for
    root_real i q e = let y = sc.same ∙ ap (λ (k : Token). meant s at (Ok k)) e in rw (i, w, ← v.same, y)

  pub root-other : (t : Token) → Scanned s at (Ok t) → ((c : ℕ) → t ≡ token.Sign c → ⊥) → ((q : ℕ) → t ≡ token.Real q → ⊥) → (x : paper.Refused) → x.refusal ≡ Misfit → x.place ≡ at → RootMet d s (Err x)
  root-other (token.Sign c) sc n m x i w = absurd (n c refl)
  root-other (token.String q) sc n m x i w = root-string (token.String q) sc x w i q refl
  root-other (token.Null q) sc n m x i w = root-null (token.Null q) sc x w i q refl
  root-other (token.Boolean b q) sc n m x i w = root-boolean (token.Boolean b q) sc x w i b q refl
  root-other (token.Integer q) sc n m x i w = root-integer (token.Integer q) sc x w i q refl
  root-other (token.Real q) sc n m x i w = absurd (m q refl)

  module _ (t : Token) (sc : Scanned s at (Ok t)) (c : ℕ) (e : t ≡ token.Sign c) where
    here : token_at s (past space s 0) ≡ good (past space s 0 + 1) 0 (a_sign c)
    here = ap (token_at s) (sym v.same) ∙ sc.same ∙ ap (λ (k : Token). meant s at (Ok k)) e ∙ ap (λ (k : ℕ). good (k + 1) 0 (a_sign c)) v.same

    granted : c ≡ opens Set → RootMet d s (Ok tt)
    unfolding value_at root_at form_for
    granted f =
        let x : token_at s (past space s 0) ≡ good (past space s 0 + 1) 0 (a_sign (opens Set)) = here ∙ ap (λ (k : ℕ). good (past space s 0 + 1) 0 (a_sign k)) f in
        rw x (object_law (past space s 0) ∙ rw set-fits)

    begun : root_at d s ≡ root_for d s (a_sign c) at (at + 1)
    unfolding root_at
    begun = rw (here, v.same)

    pub root-sign : (r : Result (Unit {0}) paper.Refused) → RootFor c at r → RootMet d s r
    root-sign (Ok u) h = granted h
    root-sign (Err x) h = begun ∙ h.same d s

pub ruleset rooting = (root-refused, root-other, root_real, root-sign)

-- the first pass over a whole text
inverted : (j : Judged Tuples) (q l : ℕ) (x : Single) → (after j λ z _ kids. good z 0 (group 0 Set kids)) ≡ good q l x → (kids : Tuples) × (m : ℕ) × (j ≡ good q m kids) × (x ≡ group 0 Set kids)
inverted (refused a w) q l x e = never e
inverted (good z m kids) q l x e = (kids, m, ap (λ (k : ℕ). good k m kids) (same_place e), sym (same_thing e))

refused_so : (j : Judged Tuples) (a w : ℕ) → (after j λ z _ kids. good z 0 (group 0 Set kids)) ≡ refused a w → j ≡ refused a w
refused_so (refused b u) a w e = let x : b ≡ a = cc in let y : u ≡ w = cc in rw (x, y)
refused_so (good z m kids) a w e = never (sym e)

module _ (d s old : List ℕ) where
  judged_no : (new : List ℕ) (a w : ℕ) → tree_of d s ≡ refused a w → length new ≡ length old → JudgeMet d s old (Refused a w) new
  judged_no new a w e h =
      record {
        same = sym (ap root_measure e);
        stored = rw e tt;
        ready = λ q l t f. never (sym e ∙ f);
        long = h;
        bound = tt;
      }

  pub judge_no_root : (x : paper.Refused) → RootMet d s (Err x) → JudgeMet d s old (measured (Err x)) old
  unfolding tree_of
  judge_no_root x h = judged_no old (table.number_of x.refusal) x.place (rw h) refl

  pub judge-stand : Site d s 0 0 → Stand d s 0 0 0 0
  judge-stand st = record { site = st; number = omega arith; slot = omega arith }

  module _ (root_is : RootMet d s (Ok tt)) (new : List ℕ) where
    pub judge-refused : (x : paper.Refused) → Measured d s depth_most 0 0 0 0 old (measured (Err x)) new → JudgeMet d s old (measured (Err x)) new
    unfolding tree_of
    judge-refused x hw =
        let a = table.number_of x.refusal in
        let y : root_at d s ≡ refused a x.place = refused_so (root_at d s) a x.place (sym root_is ∙ told_no d s depth_most 0 0 0 0 old (measured (Err x)) new hw a x.place refl) in
        judged_no new a x.place (rw y) hw.long

    module _ (m : code.Measure) (hw : Measured d s depth_most 0 0 0 0 old (measured (Ok m)) new) where
      abbrev w : Measure
      w = measured (Ok m)

      abbrev q : ℕ
      q = m.next

      abbrev next : ℕ
      next = m.slot

      abbrev b : ℕ
      b = m.long

      abbrev t : ℕ
      t = m.tuples

      abbrev f : measured (Ok m) ≡ Sized m.next m.slot m.long m.tuples
      f = refl

      pub judge-long : length new ≡ length old
      judge-long = hw.long

      pub judge-within : q ≤ length s
      judge-within = (told-bound d s depth_most 0 0 0 0 old w new hw q next b t f).within

      module _ (end : ℕ) (v : Passed space s q end) where
        told : Told d s depth_most 0 0 0 0 old q next b t new
        told = told-good d s depth_most 0 0 0 0 old w new hw q next b t f

        whole : (kids : Tuples) × (m : ℕ) × (root_at d s ≡ good q m kids) × (told.one ≡ group 0 Set kids)
        whole = inverted (root_at d s) q told.left told.one (sym root_is ∙ told.found)

        pub judge-after : end < length s → (y : paper.Refused) → y.refusal ≡ AfterRoot → y.place ≡ end → JudgeMet d s old (measured (Err y)) new
        unfolding tree_of
        judge-after l y i j = let x = whole.2 in rw (i, j) (judged_no new after_root end (rw (x, ← v.same, lt-leb (length s) end l)) hw.long)

        module _ (l : length s ≤ end) where
          tree_is : (kids : Tuples) (m : ℕ) → root_at d s ≡ good q m kids → tree_of d s ≡ good q 0 kids
          unfolding tree_of
          tree_is kids m x = rw (x, ← v.same, le-leb (length s) end l)

          value-is : (kids : Tuples) (m : ℕ) → root_at d s ≡ good q m kids → value_at d s (inside_of d s depth_most) 0 0 0 ≡ good q 0 (group 0 Set kids)
          value-is kids m x = root_is ∙ rw x

          ready-is : (kids : Tuples) (m : ℕ) → root_at d s ≡ good q m kids → (q' l' : ℕ) (t' : Tuples) → tree_of d s ≡ good q' l' t' → value_at d s (inside_of d s depth_most) 0 0 0 ≡ good q' 0 (group 0 Set t')
          ready-is kids m x q' l' t' g =
              let y = sym (tree_is kids m x) ∙ g in
              value-is kids m x ∙ ap (λ (k : ℕ). good k 0 (group 0 Set kids)) (same_place y) ∙ ap (λ (u : Tuples). good q' 0 (group 0 Set u)) (same_thing y)

          pub judge-whole : JudgeMet d s old (measured (Ok m)) new
          judge-whole =
              record {
                same = sym f ∙ hw.same ∙ ap (measure_of 0) (value-is whole.0 whole.1 whole.2) ∙ sym (ap root_measure (tree_is whole.0 whole.1 whole.2));
                stored = rw (tree_is whole.0 whole.1 whole.2) (told.put ∙ ap (λ (o : Single). sets old 0 (plan (alone o))) whole.3);
                ready = λ q' l' t' g. ready-is whole.0 whole.1 whole.2 q' l' t' g;
                long = hw.long;
                bound = told-bound d s depth_most 0 0 0 0 old w new hw q next b t f;
              }

pub ruleset judging = (judge_no_root, judge-stand, judge-refused, judge-long, judge-within, judge-after, judge-whole)
