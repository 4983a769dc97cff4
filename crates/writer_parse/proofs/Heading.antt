-- The front of a value, one lemma for each return of the functions that judge it.
-- Assumes nothing.
use Prim.Native.Nat.{ℕ, ◌+◌, ◌-◌, ◌*◌, ◌≤◌, ◌<◌}
use mathlib.Core.Path.{◌≡◌, refl, sym, ap, ◌∙◌}
use mathlib.Core.List.{List, [], ◌∷◌}
use mathlib.Core.Bool.{Bool, true, false}
use native.Mathlib.Omega.{arith}
use lib.ListN.{length, take, drop, length-append}
use lib.Seq.{slice, length-slice}
use lib.Dec.{eqb}
use borrow.Author.Tests.{eq-eqb, ne_eqb}
use Rattle.paper.specs.Refusals.{accepted}
use Rattle.paper.specs.Checks.{good, need}
use Rattle.numbers.specs.declared.Integer.{Integer}
use Rattle.numbers.specs.Decimal.{integral, integer_said}
use Rattle.numbers.proofs.Places.{slice-take}
use Rattle.numbers.proofs.Numbers.{number-few}
use Rattle.numbers.proofs.Brief.{brief_whole}
use Rattle.numbers.proofs.Decimals.{said-held}
use Rattle.std.specs.Prelude.{Option as Maybe, Some, None, Result, Ok, Err}
use Rattle.paper.specs.declared.Refusal.TheVariants.{BadText, NotInBase, ValueWrong}
use Rattle.paper.specs.declared.Refused.{Refused}
use Rattle.payload.specs.declared.Shape.{Shape}
use Rattle.payload.specs.declared.Shape.TheVariants.{Set, Array}
use Rattle.payload.specs.Text.{opens}
use Rattle.dictionary.specs.Formats.{null_form, integer_form, enum_form, string_form, boolean_form}
use Rattle.dictionary.specs.Rows.{entries, kind, number_in}
use Rattle.dictionary.specs.Children.{child_named}
use Rattle.dictionary.specs.Accepts.{accepts}
use Rattle.dictionary.specs.Given.{Row, parent}
use Rattle.dictionary.specs.Met.{Field}
use Rattle.dictionary.proofs.Laws.{accepted_family, named-child, enum_parent}
use Rattle.payload.specs.Tree.{string}
use Rattle.payload.specs.Fits.{fits}
use Rattle.payload.specs.Values.{Valued, worth}
use Rattle.payload.specs.Reading.{Single, plain, number_for, value}
use Rattle.writer_tokens.specs.declared.Token.{Token}
use Rattle.writer_tokens.specs.declared.Token.TheVariants as token
use Rattle.writer_tokens.specs.Met.{Passed, Spans, Integral, LiesIn, Scanned, meant}
use Rattle.text.specs.Tokens.{a_sign, a_string, a_null, a_boolean, an_integer, a_real, space}
use Rattle.text.specs.Tokens as tokens
use Rattle.text.specs.Scanning.{token_at}
use Rattle.text.specs.Values.{is_enum, form_for, misfit_for, scalar_for, in_base}
use Rattle.text.specs.Writing.{form_at, value_for, value_at, inside_of}
use Rattle.text.proofs.Valuing.{base-kind}
use Rattle.text.proofs.Trusting.{value-sound, inside-sound}
use Rattle.writer_parse.specs.declared.Value.{Value}
use Rattle.writer_parse.specs.declared.Value.TheVariants.{Null, Boolean, Option, String}
use Rattle.writer_parse.specs.declared.Value.TheVariants as leaf
use Rattle.writer_parse.specs.declared.Head.{Head}
use Rattle.writer_parse.specs.declared.Head.TheVariants.{Leaf, Many}
use Rattle.writer_parse.specs.Leaves.{said}
use Rattle.writer_parse.specs.Met.{Site, FitMet, LeafMet, LeafAt, Fine, ForMet, AnyMet, OptionSite, HeadMet}
use Rattle.writer_parse.proofs.Grouping.{row_lies, unfit}

module _ (d s : List ℕ) where
  -- a value that its format alone makes right or wrong
  leaf-met : (room row f at q : ℕ) (v : Value) (k : tokens.Token) (r : Result Head Refused) → LeafMet d row f v at q r → ((n : ℕ) → value_for d s (inside_of d s room) n row k at q ≡ (need (eqb (misfit_for d row f) accepted) (misfit_for d row f) at λ _. good q 0 (said s n v))) → LeafAt s at v q → ForMet d s room row k at q r
  leaf-met room row f at q v k (Err e) h law leaf = record { same = λ n. law n ∙ unfit d row f at e _ h; fine = tt }
  leaf-met room row f at q v k (Ok x) h law leaf = rw h.1 (record { same = λ n. law n ∙ rw h.0; fine = leaf })

  -- by the token, and so at the place before the spaces
  further : (room row p at : ℕ) (r : Result Head Refused) → p ≤ at → Fine d s room row at r → Fine d s room row p r
  further room row p at (Err k) h t = tt
  further room row p at (Ok (Leaf v q)) h t =
      record { spans = record { further = omega (arith, t.spans.further); within = t.spans.within }; proper = t.proper; small = omega (arith, t.small) }
  further room row p at (Ok (Many g first)) h t =
      record { spans = record { further = omega (arith, t.spans.further); within = t.spans.within }; roomy = t.roomy; form = t.form }

  lifted : (room row p at q : ℕ) (k : tokens.Token) (r : Result Head Refused) → Passed space s p at → token_at s at ≡ good q 0 k → ForMet d s room row k at q r → HeadMet d s room row p r
  unfolding value_at
  lifted room row p at q k r v e t = record { same = λ n. rw (← v.same, e) (t.same n); fine = further room row p at r v.from t.fine }

  module _ (room row p at : ℕ) (v : Passed space s p at) where
    pub head-refused : (k : Refused) → Scanned s at (Err k) → HeadMet d s room row p (Err k)
    unfolding value_at
    head-refused k y = record { same = λ n. rw (← v.same, y.same); fine = tt }

    module _ (t : Token) (y : Scanned s at (Ok t)) (r : Result Head Refused) where
      pub head-opens : (c : ℕ) (g : Shape) → t ≡ token.Sign c → c ≡ opens g → ForMet d s room row (a_sign (opens g)) at (at + 1) r → HeadMet d s room row p r
      head-opens c g e f h = lifted room row p at (at + 1) (a_sign (opens g)) r v (y.same ∙ ap (λ (u : Token). meant s at (Ok u)) (e ∙ ap token.Sign f)) h

      pub head-string : (q : ℕ) → t ≡ token.String q → AnyMet d s row (a_string (slice (at + 1) q s)) at (q + 1) r → HeadMet d s room row p r
      head-string q e h = lifted room row p at (q + 1) (a_string (slice (at + 1) q s)) r v (y.same ∙ ap (λ (u : Token). meant s at (Ok u)) e) (h.met room)

      pub head-null : (q : ℕ) → t ≡ token.Null q → LeafMet d row null_form Null at q r → HeadMet d s room row p r
      unfolding form_for scalar_for
      head-null q e h =
          let x : Scanned s at (Ok (token.Null q)) = rw e at y in
          let l : LiesIn s at (Ok (token.Null q)) = x.lies in
          lifted room row p at q a_null r v x.same
          (leaf-met room row null_form at q Null a_null r h (λ n. refl) (record { spans = l; proper = tt; small = omega (arith, l.further) }))

      pub head-boolean : (b : Bool) (q : ℕ) → t ≡ token.Boolean b q → LeafMet d row boolean_form (Boolean b) at q r → HeadMet d s room row p r
      unfolding form_for scalar_for
      head-boolean b q e h =
          let x : Scanned s at (Ok (token.Boolean b q)) = rw e at y in
          let l : LiesIn s at (Ok (token.Boolean b q)) = x.lies in
          lifted room row p at q (a_boolean b) r v x.same
          (leaf-met room row boolean_form at q (Boolean b) (a_boolean b) r h (λ n. refl) (record { spans = l; proper = tt; small = omega (arith, l.further) }))

      pub head-integer : (q : ℕ) → t ≡ token.Integer q → AnyMet d s row (an_integer (slice at q s)) at q r → HeadMet d s room row p r
      head-integer q e h = lifted room row p at q (an_integer (slice at q s)) r v (y.same ∙ ap (λ (u : Token). meant s at (Ok u)) e) (h.met room)

    module _ (t : Token) (y : Scanned s at (Ok t)) (k : Refused) (hp : k.place ≡ at) where
      pub head-sign : (c : ℕ) → t ≡ token.Sign c → (c ≡ opens Set → ⊥) → (c ≡ opens Array → ⊥) → k.refusal ≡ BadText → HeadMet d s room row p (Err k)
      head-sign c e ns na f =
          let x : Scanned s at (Ok (token.Sign c)) = rw e at y in
          lifted room row p at (at + 1) (a_sign c) (Err k) v x.same
          (record { same = λ n. rw (ne_eqb c (opens Set) ns, ne_eqb c (opens Array) na, f, hp); fine = tt })

      pub head-real : (q : ℕ) → t ≡ token.Real q → k.refusal ≡ NotInBase → HeadMet d s room row p (Err k)
      unfolding form_for misfit_for
      head-real q e f =
          let x : Scanned s at (Ok (token.Real q)) = rw e at y in
          lifted room row p at q (a_real (slice at q s)) (Err k) v x.same (record { same = λ n. rw (f, hp); fine = tt })

-- where a token lies
module _ (d s : List ℕ) (row p at : ℕ) (t : Token) (y : Scanned s at (Ok t)) where
  pub head-site : (c : ℕ) → t ≡ token.Sign c → Site d s row p → Site d s row (at + 1)
  head-site c e st =
      let x : Scanned s at (Ok (token.Sign c)) = rw e at y in
      let l : LiesIn s at (Ok (token.Sign c)) = x.lies in
      record { own = st.own; short = st.short; within = l.within }

  pub head-string_in : (q : ℕ) → t ≡ token.String q → Spans s (at + 1) (q + 1)
  head-string_in q e = let x : Scanned s at (Ok (token.String q)) = rw e at y in x.lies

  pub head-integer_in : (q : ℕ) → t ≡ token.Integer q → Integral s at q
  head-integer_in q e = let x : Scanned s at (Ok (token.Integer q)) = rw e at y in x.lies

pub ruleset heading = (head-refused, head-opens, head-site, head-string, head-string_in, head-null, head-boolean, head-integer, head-integer_in, head-sign, head-real)

-- a string
module _ (d s : List ℕ) (row at q : ℕ) where
  string-leaf : Spans s (at + 1) (q + 1) → LeafAt s at (String (at + 1) q) (q + 1)
  string-leaf w =
      record {
        spans = record { further = omega (arith, w.further); within = w.within };
        proper = w;
        small = omega (arith, length-append (slice (at + 1) q s) (0 ∷ []), length-slice (at + 1) q s (omega (arith, w.within)), w.further);
      }

  module _ (w : Spans s (at + 1) (q + 1)) where
    pub string-option : kind d row ≡ enum_form → Row d row → OptionSite d s row (at + 1) q
    string-option e o = record { own = o; form = e; order = omega (arith, w.further); within = omega (arith, w.within) }

    module _ (no_enum : eqb (kind d row) enum_form ≡ false) where
      string-form : (t : List ℕ) → form_for d row (a_string t) ≡ string_form
      unfolding form_for is_enum
      string-form t = rw no_enum

      string-scalar : (t : List ℕ) → scalar_for d row (a_string t) ≡ worth (string t)
      unfolding scalar_for is_enum
      string-scalar t = rw no_enum

      string_law : (room i : ℕ) (t : List ℕ) → value_for d s (inside_of d s room) i row (a_string t) at (q + 1) ≡ (need (eqb (misfit_for d row string_form) accepted) (misfit_for d row string_form) at λ _. good (q + 1) 0 (plain i (string t)))
      string_law room i t =
          ap (λ (f : ℕ). form_at d s (inside_of d s room) i row f at (q + 1) (a_string t)) (string-form t)
          ∙ ap (λ (v : Valued). (need (eqb (misfit_for d row string_form) accepted) (misfit_for d row string_form) at λ _. value v at λ x. good (q + 1) 0 (plain i x))) (string-scalar t)

      pub string_well : (r : Result Head Refused) → LeafMet d row string_form (String (at + 1) q) at (q + 1) r → AnyMet d s row (a_string (slice (at + 1) q s)) at (q + 1) r
      string_well r h =
          record {
            met = λ room. leaf-met d s room row string_form at (q + 1) (String (at + 1) q) (a_string (slice (at + 1) q s)) r h (λ i. string_law room i (slice (at + 1) q s)) (string-leaf w);
          }

pub ruleset stringing = (row_lies, string-option, string_well)

-- an option
module _ (d s : List ℕ) (row at q : ℕ) (o : OptionSite d s row (at + 1) q) where
  enum_fits : misfit_for d row enum_form ≡ accepted
  unfolding misfit_for fits
  enum_fits =
      let z : in_base d row ≡ true = base-kind d row enum_form (record { high = omega arith; not_real = λ e. omega (arith, e) }) (sym o.form) in
      rw (z, eq-eqb enum_form (kind d row) (sym o.form))

  text : List ℕ
  text = slice (at + 1) q s

  part : take (q - (at + 1)) (drop (at + 1) s) ≡ slice (at + 1) q s
  part =
      let e : at + 1 + (q - (at + 1)) ≡ q = omega (arith, o.order) in
      sym (slice-take s (at + 1) (q - (at + 1))) ∙ ap (λ (k : ℕ). slice (at + 1) k s) e

  option_law : (room n : ℕ) → value_for d s (inside_of d s room) n row (a_string (slice (at + 1) q s)) at (q + 1) ≡ (value (scalar_for d row (a_string (slice (at + 1) q s))) at λ x. good (q + 1) 0 (plain n x))
  unfolding form_for is_enum
  option_law room n =
      let z = eq-eqb (kind d row) enum_form o.form in
      rw (z, enum_fits)

  pub option-parent : (row < entries d) × (parent d row ≡ true)
  option-parent = (o.own.inside, enum_parent d row o.form)

  pub option-taken : accepts d ≡ true
  option-taken = o.own.accepted

  pub option-from : at + 1 ≤ q
  option-from = o.order

  pub option_in_lem : q ≤ length s
  option_in_lem = omega (arith, o.within)

  module _ (c : Maybe ℕ) (hc : c ≡ child_named d row (take (q - (at + 1)) (drop (at + 1) s))) where
    c-is : child_named d row (slice (at + 1) q s) ≡ c
    c-is = sym (hc ∙ ap (child_named d row) part)

    pub option-none : c ≡ None → (k : Refused) → k.refusal ≡ ValueWrong → k.place ≡ at → AnyMet d s row (a_string (slice (at + 1) q s)) at (q + 1) (Err k)
    unfolding scalar_for is_enum
    option-none e k f h = record { met = λ room. record { same = λ n. option_law room n ∙ rw (eq-eqb (kind d row) enum_form o.form, c-is, e, f, h); fine = tt } }

    module _ (x : ℕ) (e : c ≡ Some x) where
      pub option-lies : 12 + 10 * x + 10 ≤ length d
      option-lies =
          let f = accepted_family d o.own.accepted row o.own.inside (enum_parent d row o.form) in
          let l = named-child d row (slice (at + 1) q s) f x (c-is ∙ e) in
          row_lies d x (record { accepted = o.own.accepted; inside = l.0 })

      pub option-some : (m : ℕ) → Field (number_in d x) 65536 m → AnyMet d s row (a_string (slice (at + 1) q s)) at (q + 1) (Ok (Leaf (Option m) (q + 1)))
      unfolding scalar_for is_enum
      option-some m hm =
          record {
            met = λ room. record {
              same = λ n. option_law room n ∙ rw (eq-eqb (kind d row) enum_form o.form, c-is, e, ← hm.same);
              fine = record { spans = record { further = omega (arith, o.order); within = omega (arith, o.within) }; proper = omega (arith, hm.below); small = omega (arith, number-few m, o.order) };
            };
          }

pub ruleset options = (option-parent, option-taken, option-from, option_in_lem, option-none, option-lies, option-some)

-- an integer
module _ (d s : List ℕ) (row at q : ℕ) (w : Integral s at q) where
  integer_law : (room n : ℕ) → value_for d s (inside_of d s room) n row (an_integer (slice at q s)) at q ≡ (need (eqb (misfit_for d row integer_form) accepted) (misfit_for d row integer_form) at λ _. value (scalar_for d row (an_integer (slice at q s))) at λ x. good q 0 (plain n x))
  unfolding form_for
  integer_law room n = refl

  pub integer-not : (k : Refused) → FitMet d row integer_form at (Err k) → AnyMet d s row (an_integer (slice at q s)) at q (Err k)
  integer-not k h = record { met = λ room. record { same = λ i. integer_law room i ∙ unfit d row integer_form at k _ h; fine = tt } }

  pub integer_in : (at < q) × (q ≤ length s) × (integral (slice at q s) ≡ true)
  integer_in = (w.spans.further, w.spans.within, w.grammar)

  module _ (z : misfit_for d row integer_form ≡ accepted) (r : Maybe Integer) (hr : r ≡ integer_said (slice at q s)) where
    pub integer-wrong : r ≡ None → (k : Refused) → k.refusal ≡ ValueWrong → k.place ≡ at → AnyMet d s row (an_integer (slice at q s)) at q (Err k)
    unfolding scalar_for
    integer-wrong e k f h = record { met = λ room. record { same = λ i. integer_law room i ∙ rw (z, ← hr, e, f, h); fine = tt } }

    pub integer-is : (i : Integer) → r ≡ Some i → AnyMet d s row (an_integer (slice at q s)) at q (Ok (Leaf (leaf.Integer i) q))
    unfolding scalar_for
    integer-is i e =
        let held = said-held (slice at q s) r i w.grammar hr e in
        let b = brief_whole i held in
        record {
          met = λ room. record {
            same = λ n. integer_law room n ∙ rw (z, ← hr, e);
            fine = record { spans = w.spans; proper = held; small = omega (arith, b.most, w.spans.further) };
          };
        }

pub ruleset integers = (integer-not, integer_in, integer-wrong, integer-is)

-- a value that was taken has the number that it was given
pub numbered : (d s : List ℕ) (room row n p q l : ℕ) (x : Single) → Site d s row p → value_at d s (inside_of d s room) n row p ≡ good q l x → number_for x ≡ n
numbered d s room row n p q l x st e =
    (value-sound d s st.own.accepted room (inside-sound d s st.own.accepted room) n row p st.own.inside q l x st.within e).numbered
