-- What stands before a member's value, where no name may come twice: one lemma for each return.
-- Assumes nothing.
use Prim.Native.Nat.{ℕ, ◌≤◌, ◌<◌}
use mathlib.Core.Path.{◌≡◌, ◌∙◌}
use mathlib.Core.List.{List, []}
use mathlib.Core.Bool.{Bool, true, false, not}
use native.Mathlib.Omega.{arith}
use lib.ListN.{length}
use borrow.Author.Tests.{eq-eqb}
use Rattle.std.specs.Prelude.{Result, Ok, Err}
use Rattle.paper.specs.Refusals.{given_twice}
use Rattle.paper.specs.declared.Refused.{Refused}
use Rattle.paper.specs.declared.Refusal.TheVariants.{GivenTwice}
use Rattle.paper.specs.Checks.{good, need, after}
use Rattle.dictionary.specs.Formats.{set_form, array_form}
use Rattle.dictionary.specs.Rows.{kind}
use Rattle.dictionary.proofs.Laws.{accepted_header}
use Rattle.payload.specs.declared.Shape.{Shape}
use Rattle.payload.specs.declared.Shape.TheVariants.{Set, Array}
use Rattle.payload.specs.Fits.{fresh}
use Rattle.repeats.specs.Roll.{rows_most, marked, Gave, Kept}
use Rattle.repeats.proofs.Rolls.{keep-set, keep_array, bit-fresh}
use Rattle.writer_tokens.specs.Met.{Passed}
use Rattle.text.specs.Tokens.{space}
use Rattle.text.specs.Writing.{name_at, colon_at, key_at}
use Rattle.writer_parse.specs.declared.Key.{Key}
use Rattle.writer_parse.specs.Met.{Holder, DueMet, due_of, KeyAt, KeyMet, key_of}
use Rattle.writer_judge.specs.Met.{FreshMet, KeepsIn}

pub after-spaces : (d s : List ℕ) (row : ℕ) (g : Shape) (p at : ℕ) → Holder d s row g p → Passed space s p at → Holder d s row g at
after-spaces d s row g p at o v = record { site = record { own = o.site.own; short = o.site.short; within = v.within }; form = o.form }

module _ (d s : List ℕ) (row p : ℕ) (o : Holder d s row Set p) (at : ℕ) (v : Passed space s p at) (bits : List ℕ) where
  name_law : (y : Result Key Refused) → KeyMet d s row at (name_at d s row at) y → (seen : List ℕ) → key_at d s Set row 0 seen p ≡ (after (key_of d s y) λ e _ n. need (fresh d row seen n) given_twice at λ _. after (colon_at s e) λ z _ _. good z 0 n)
  unfolding key_at
  name_law y h seen = rw (← v.same, h.same)

  pub fresh_unnamed : (x : Refused) → KeyMet d s row at (name_at d s row at) (Err x) → FreshMet d s Set row 0 bits p (Err x) bits
  fresh_unnamed x h = record { same = λ seen kept. name_law (Err x) h seen; lies = tt; keeps = tt }

  module _ (key : Key) (h : KeyMet d s row at (name_at d s row at) (Ok key)) where
    named : KeyAt d s row at key
    named = h.lies

    pub fresh-row : key.row < rows_most
    fresh-row = let x = accepted_header d o.site.own.accepted in omega (arith, named.own.inside, x.inside, x.most)

    pub fresh-within : key.next ≤ length s
    fresh-within = named.within

    module _ (b : Bool) (hb : b ≡ marked bits key.row) where
      fresh-is : (seen : List ℕ) → Kept d row seen bits → fresh d row seen key.number ≡ not b
      unfolding fresh
      fresh-is seen kept =
          let m = bit-fresh d row seen bits key.number key.row kept o.form (named.finds o.form) in
          rw (eq-eqb (kind d row) set_form o.form, hb, m)

      pub fresh-given : b ≡ true → (x : Refused) → x.refusal ≡ GivenTwice → x.place ≡ at → FreshMet d s Set row 0 bits p (Err x) bits
      fresh-given f x i j = record { same = λ seen kept. name_law (Ok key) h seen ∙ rw (fresh-is seen kept, f, i, j); lies = tt; keeps = tt }

      module _ (f : b ≡ false) (bits' : List ℕ) (g : Gave bits key.row bits') where
        on_law : (t : Result ℕ Refused) → DueMet s key.next t → (seen : List ℕ) → Kept d row seen bits → key_at d s Set row 0 seen p ≡ (after (due_of t) λ z _ _. good z 0 key.number)
        on_law t u seen kept = name_law (Ok key) h seen ∙ rw (fresh-is seen kept, f, u.same)

        pub fresh_missing : (x : Refused) → DueMet s key.next (Err x) → FreshMet d s Set row 0 bits p (Err x) bits'
        fresh_missing x u = record { same = λ seen kept. on_law (Err x) u seen kept; lies = tt; keeps = tt }

        pub fresh-met : (z : ℕ) → DueMet s key.next (Ok z) → FreshMet d s Set row 0 bits p (Ok (record { next = z; number = key.number; row = key.row })) bits'
        fresh-met z u =
            let k = named in
            let l = u.lies in
            record {
              same = λ seen kept. on_law (Ok z) u seen kept;
              lies = record { from = omega (arith, k.from, v.from, l.further); within = l.within; own = k.own; child_is = k.child_is; finds = k.finds; number = k.number };
              keeps = record { more = λ seen kept. keep-set d row seen bits bits' key.number key.row kept (k.finds o.form) g };
            }

pub ruleset freshly = (after-spaces, fresh_unnamed, fresh-row, fresh-within, fresh-given, fresh_missing, fresh-met)

-- a member
module _ (d s : List ℕ) (g : Shape) (row i p : ℕ) (o : Holder d s row g p) (bits : List ℕ) where
  pub member_array : g ≡ Array → (r : Result Key Refused) → KeyMet d s row p (key_at d s g row i [] p) r → FreshMet d s g row i bits p r bits
  unfolding key_at
  member_array e r h =
      let f : kind d row ≡ array_form = o.form ∙ rw e in
      let k : kind d row ≡ set_form → ⊥ = λ z. omega (arith, f, z) in
      let x : KeyMet d s row p (key_at d s Array row i [] p) r = rw e at h in
      rw e (record { same = λ seen kept. x.same; lies = x.lies; keeps = kept_on k r })
    where
      kept_on : (kind d row ≡ set_form → ⊥) → (r : Result Key Refused) → KeepsIn d row bits r bits
      kept_on k (Err x) = tt
      kept_on k (Ok y) = record { more = λ seen kept. keep_array d row seen bits y.number kept k }

  pub member-set : g ≡ Set → (r : Result Key Refused) (bits' : List ℕ) → FreshMet d s Set row 0 bits p r bits' → FreshMet d s g row i bits p r bits'
  unfolding key_at
  member-set e r bits' t = rw e (record { same = λ seen kept. t.same seen kept; lies = t.lies; keeps = t.keeps })

  pub member-holder : g ≡ Set → Holder d s row Set p
  member-holder e = record { site = o.site; form = o.form ∙ rw e }

pub ruleset membering = (member_array, member-set, member-holder)
