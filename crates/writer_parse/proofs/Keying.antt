-- Names, and what stands before a member's value: one lemma for each return.
-- Assumes nothing.
use Prim.Native.Nat.{ℕ, ◌+◌, ◌-◌, ◌*◌, ◌≤◌, ◌<◌}
use mathlib.Core.Path.{◌≡◌, refl, sym, ap, ◌∙◌}
use mathlib.Core.List.{List, []}
use mathlib.Core.Bool.{Bool, true, false, not}
use native.Mathlib.Omega.{arith}
use lib.ListN.{length, take, drop}
use lib.Seq.{slice}
use borrow.Author.Tests.{eq-eqb}
use Rattle.paper.specs.Refusals.{given_twice, bad_text}
use Rattle.paper.specs.Tests.{among}
use Rattle.paper.specs.Checks.{choose, refused, good, need, after}
use Rattle.numbers.proofs.Places.{slice-take}
use Rattle.std.specs.Prelude.{Option, Some, None, Result, Ok, Err}
use Rattle.paper.specs.declared.Refusal.TheVariants.{NotKnown, BadText}
use Rattle.paper.specs.declared.Refused.{Refused}
use Rattle.dictionary.specs.Formats.{set_form, array_form}
use Rattle.dictionary.specs.Rows.{entries, kind, number_in, first_child}
use Rattle.dictionary.specs.Children.{child_named, child_numbered}
use Rattle.dictionary.specs.Accepts.{accepts}
use Rattle.dictionary.specs.Given.{Row, parent, Family}
use Rattle.dictionary.specs.Met.{Field}
use Rattle.dictionary.proofs.Laws.{accepted_family, accepted_array, array_parent, named-child}
use Rattle.payload.specs.declared.Shape.{Shape}
use Rattle.payload.specs.declared.Shape.TheVariants.{Set, Array}
use Rattle.payload.specs.Fits.{is_set, child, fresh}
use Rattle.payload.proofs.Sitting.{child_array}
use Rattle.writer_tokens.specs.declared.Token.{Token}
use Rattle.writer_tokens.specs.declared.Token.TheVariants as token
use Rattle.writer_tokens.specs.Met.{Passed, Spans, Scanned, meant}
use Rattle.text.specs.Tokens.{a_string, space}
use Rattle.text.specs.Writing.{name_for, name_at, colon_at, key_at}
use Rattle.text.proofs.Labels.{set-parent}
use Rattle.writer_parse.specs.declared.Key.{Key}
use Rattle.writer_parse.specs.Met.{Holder, DueMet, due_of, key_of, KeyAt, KeyMet}
use Rattle.writer_parse.proofs.Grouping.{row_lies}

-- the child of a name
module _ (d s : List ℕ) (row at : ℕ) (o : Holder d s row Set at) where
  pub child-parent : (row < entries d) × (parent d row ≡ true)
  child-parent = (o.site.own.inside, set-parent d row o.form)

  pub child-taken : accepts d ≡ true
  child-taken = o.site.own.accepted

module _ (d s : List ℕ) (row at q : ℕ) (o : Holder d s row Set at) (w : Spans s (at + 1) (q + 1)) where
  family : Family d row
  family = accepted_family d o.site.own.accepted row o.site.own.inside (set-parent d row o.form)

  part : take (q - (at + 1)) (drop (at + 1) s) ≡ slice (at + 1) q s
  part =
      let e : at + 1 + (q - (at + 1)) ≡ q = omega (arith, w.further) in
      sym (slice-take s (at + 1) (q - (at + 1))) ∙ ap (λ (k : ℕ). slice (at + 1) k s) e

  pub child-from : at + 1 ≤ q
  child-from = omega (arith, w.further)

  pub child_in : q ≤ length s
  child_in = omega (arith, w.within)

  module _ (c : Option ℕ) (hc : c ≡ child_named d row (take (q - (at + 1)) (drop (at + 1) s))) where
    c-is : child_named d row (slice (at + 1) q s) ≡ c
    c-is = sym (hc ∙ ap (child_named d row) part)

    pub child-none : c ≡ None → (k : Refused) → k.refusal ≡ NotKnown → k.place ≡ at → KeyMet d s row at (name_for d s (a_string (slice (at + 1) q s)) row at (q + 1)) (Err k)
    child-none e k f h = record { same = rw (c-is, e, f, h); lies = tt }

    module _ (x : ℕ) (e : c ≡ Some x) where
      pub child-row : Row d x
      child-row = record { accepted = o.site.own.accepted; inside = (named-child d row (slice (at + 1) q s) family x (c-is ∙ e)).0 }

      pub child-lies : 12 + 10 * x + 10 ≤ length d
      child-lies = row_lies d x child-row

      finds : (m : ℕ) → Field (number_in d x) 65536 m → child_numbered d row m ≡ Some x
      finds m hm = ap (child_numbered d row) hm.same ∙ (named-child d row (slice (at + 1) q s) family x (c-is ∙ e)).2

      pub child-some : (m : ℕ) → Field (number_in d x) 65536 m → KeyMet d s row at (name_for d s (a_string (slice (at + 1) q s)) row at (q + 1)) (Ok (record { next = q + 1; number = m; row = x }))
      unfolding child
      child-some m hm =
          let f = finds m hm in
          record {
            same = rw (c-is, e, ← hm.same);
            lies =
                record {
                  from = omega (arith, w.further);
                  within = w.within;
                  own = child-row;
                  child_is = rw (eq-eqb (kind d row) set_form o.form, f);
                  finds = λ _. f;
                  number = omega (arith, hm.below);
                };
          }

pub ruleset childing = (child-parent, child-taken, child-from, child_in, child-none, child-lies, child-some)

-- a name
module _ (d s : List ℕ) (row at : ℕ) where
  pub name-refused : (k : Refused) → Scanned s at (Err k) → KeyMet d s row at (name_at d s row at) (Err k)
  unfolding name_at
  name-refused k y = record { same = rw y.same; lies = tt }

  module _ (t : Token) (y : Scanned s at (Ok t)) where
    pub name_in : (q : ℕ) → t ≡ token.String q → Spans s (at + 1) (q + 1)
    name_in q e = let x : Scanned s at (Ok (token.String q)) = rw e at y in x.lies

    pub name-string : (q : ℕ) → t ≡ token.String q → (r : Result Key Refused) → KeyMet d s row at (name_for d s (a_string (slice (at + 1) q s)) row at (q + 1)) r → KeyMet d s row at (name_at d s row at) r
    unfolding name_at
    name-string q e r h = let x : Scanned s at (Ok (token.String q)) = rw e at y in record { same = rw x.same h.same; lies = h.lies }

    pub name-other : ((q : ℕ) → t ≡ token.String q → ⊥) → (k : Refused) → k.refusal ≡ BadText → k.place ≡ at → KeyMet d s row at (name_at d s row at) (Err k)
    unfolding name_at
    name-other x k f h = record { same = rw (y.same, f, h) (other t x); lies = tt }
      where
        other : (t : Token) → ((q : ℕ) → t ≡ token.String q → ⊥) → after (meant s at (Ok t)) (λ q _ k. name_for d s k row at q) ≡ refused bad_text at
        other (token.Sign b) x = refl
        other (token.String q) x = absurd (x q refl)
        other (token.Null q) x = refl
        other (token.Boolean b q) x = refl
        other (token.Integer q) x = refl
        other (token.Real q) x = refl

pub ruleset naming = (name-refused, name_in, name-string, name-other)

-- where no number was seen, none was given
pub never_given : (d : List ℕ) (row n : ℕ) → fresh d row [] n ≡ true
unfolding fresh among
never_given d row n = go (is_set d row)
  where
    go : (b : Bool) → choose b (λ _. not (among n [])) (λ _. true) ≡ true
    go true = refl
    go false = refl

-- a name after spaces, and a colon
pub after-spaces : (d s : List ℕ) (row : ℕ) (g : Shape) (p at : ℕ) → Holder d s row g p → Passed space s p at → Holder d s row g at
after-spaces d s row g p at o v = record { site = record { own = o.site.own; short = o.site.short; within = v.within }; form = o.form }

-- the same child, with the place after its colon
pub key_further : (d s : List ℕ) (row p at : ℕ) → Passed space s p at → (k : Key) → KeyAt d s row at k → (z : ℕ) → Spans s k.next z → KeyAt d s row p (record { next = z; number = k.number; row = k.row })
key_further d s row p at v k h z l =
    record { from = omega (arith, h.from, v.from, l.further); within = l.within; own = h.own; child_is = h.child_is; finds = h.finds; number = h.number }

module _ (d s : List ℕ) (row p at : ℕ) (v : Passed space s p at) where
  pub name_law : (y : Result Key Refused) → KeyMet d s row at (name_at d s row at) y → (i : ℕ) (seen : List ℕ) → key_at d s Set row i seen p ≡ (after (key_of d s y) λ e _ n. need (fresh d row seen n) given_twice at λ _. after (colon_at s e) λ z _ _. good z 0 n)
  unfolding key_at
  name_law y h i seen = rw (← v.same, h.same)

  pub key_unnamed : (k : Refused) → KeyMet d s row at (name_at d s row at) (Err k) → KeyMet d s row p (key_at d s Set row 0 [] p) (Err k)
  key_unnamed k h = record { same = name_law _ h 0 []; lies = tt }

  module _ (k : Key) (h : KeyMet d s row at (name_at d s row at) (Ok k)) where
    pub key_named : KeyAt d s row at k
    key_named = h.lies

    pub key_within : k.next ≤ length s
    key_within = key_named.within

    on_law : (t : Result ℕ Refused) → DueMet s k.next t → key_at d s Set row 0 [] p ≡ (after (due_of t) λ z _ _. good z 0 k.number)
    on_law t u = name_law _ h 0 [] ∙ rw (never_given d row k.number, u.same)

    pub key_missing : (e : Refused) → DueMet s k.next (Err e) → KeyMet d s row p (key_at d s Set row 0 [] p) (Err e)
    key_missing e u = record { same = on_law _ u; lies = tt }

    pub key_met : (z : ℕ) → DueMet s k.next (Ok z) → KeyMet d s row p (key_at d s Set row 0 [] p) (Ok (record { next = z; number = k.number; row = k.row }))
    key_met z u = record { same = on_law _ u; lies = key_further d s row p at v k key_named z u.lies }

pub ruleset membering = (after-spaces, key_unnamed, key_within, key_missing, key_met)

-- a member
module _ (d s : List ℕ) (g : Shape) (row i p : ℕ) (o : Holder d s row g p) where
  pub key_array : g ≡ Array → i ≤ p → (f : ℕ) → Field (first_child d row) 65536 f → KeyMet d s row p (key_at d s g row i [] p) (Ok (record { next = p; number = i; row = f }))
  unfolding key_at
  key_array e l f hf =
      let k : kind d row ≡ array_form = o.form ∙ rw e in
      let n : kind d row ≡ set_form → ⊥ = λ z. omega (arith, k, z) in
      let w = accepted_family d o.site.own.accepted row o.site.own.inside (array_parent d row k) in
      let one = accepted_array d o.site.own.accepted row o.site.own.inside k in
      rw e
      (record {
        same = refl;
        lies =
            record {
              from = omega arith;
              within = o.site.within;
              own = record { accepted = o.site.own.accepted; inside = omega (arith, hf.same, w.within, one) };
              child_is = child_array d row i n ∙ sym hf.same;
              finds = λ z. absurd (n z);
              number = omega (arith, l, o.site.within, o.site.short);
            };
      })

  pub key_set : g ≡ Set → (r : Result Key Refused) → KeyMet d s row p (key_at d s Set row 0 [] p) r → KeyMet d s row p (key_at d s g row i [] p) r
  unfolding key_at
  key_set e r t = rw e (record { same = t.same; lies = t.lies })

  pub key_set-holder : g ≡ Set → Holder d s row Set p
  key_set-holder e = record { site = o.site; form = o.form ∙ rw e }

  pub key_array_lies : 12 + 10 * row + 10 ≤ length d
  key_array_lies = row_lies d row o.site.own

pub ruleset keying = (key_array, key_set, key_set-holder, key_array_lies)
