-- A tuple from its F on: what each return of `body_at` has to show.
-- Assumes nothing.
use Prim.Native.Nat.{ℕ, ◌+◌, ◌-◌, ◌≤◌, ◌<◌}
use mathlib.Core.Path.{◌≡◌, refl, sym, ap, ◌∙◌}
use mathlib.Core.Logic.{◌⊎◌, inl, inr}
use mathlib.Core.List.{List}
use mathlib.Core.Bool.{Bool, true, false}
use native.Mathlib.Omega.{arith}
use lib.ListN.{length, take, drop, length-take}
use lib.Seq.{slice}
use borrow.Author.Tests.{lt-ltb, le-ltb}
use Rattle.std.specs.Prelude.{Ok, Err}
use Rattle.paper.specs.declared.Refusal.{Refusal}
use Rattle.paper.specs.declared.Refusal.TheVariants.{Misfit}
use Rattle.paper.specs.Refusal.{number_of}
use Rattle.numbers.specs.Number.{Refused, Value}
use Rattle.numbers.proofs.Places.{slice-take}
use Rattle.dictionary.specs.declared.formats.Format.{Format}
use Rattle.dictionary.specs.declared.formats.Format.TheVariants as is
use Rattle.dictionary.specs.Formats.{form_number}
use Rattle.payload.specs.Checked as checked
use Rattle.payload.specs.Tree.{Scalar}
use Rattle.payload.specs.Fits.{fits}
use Rattle.payload.specs.Text.{word}
use Rattle.payload.specs.Values.{Valued, wrong, worth, scalar_value}
use Rattle.payload.proofs.Sitting.{fits-own}
use Rattle.reader_fields.specs.declared.Extent.{Extent}
use Rattle.reader_fields.specs.Fields.{FormatMet, PartPlaced, ExtentMet}
use Rattle.reader_values.specs.Words.{word_for, WordMet}
use Rattle.reader_members.specs.declared.member.Body.TheVariants as body
use Rattle.reader_members.specs.Met.{rest_at, BodyMet}

pub group-low : {F : Format} → (F ≡ is.Set) ⊎ (F ≡ is.Array) → form_number F < 2
group-low (inl e) = let z = ap form_number e in omega arith
group-low (inr e) = let z = ap form_number e in omega arith

pub plain-high : (F : Format) → (F ≡ is.Set → ⊥) → (F ≡ is.Array → ⊥) → 2 ≤ form_number F
plain-high is.Set a b = absurd (a refl)
plain-high is.Array a b = absurd (b refl)
plain-high is.Null a b = omega arith
plain-high is.Integer a b = omega arith
plain-high is.Enum a b = omega arith
plain-high is.String a b = omega arith
plain-high is.Real a b = omega arith
plain-high is.Boolean a b = omega arith

-- what a test of the format's number says
pub tested : (d : List ℕ) (r : ℕ) (F : Format) {k : ℕ} {t b : Bool} → k ≡ form_number F → t ≡ fits d r k → t ≡ b → fits d r (form_number F) ≡ b
tested d r F e f g = ap (fits d r) (sym e) ∙ sym f ∙ g

-- what the length of a word says of its value
told-wrong : (d : List ℕ) (row k : ℕ) (v : Valued) → checked.Refused k ≡ word_for d row v → v ≡ wrong k
told-wrong d row k (wrong j) e = cc
told-wrong d row k (worth x) e = absurd (let z : ◌≡◌ {A = ℕ} 0 1 = cc in omega arith)

told-worth : (d : List ℕ) (row n : ℕ) (v : Valued) → checked.Good n ≡ word_for d row v → (x : Scalar) × (v ≡ worth x) × (n ≡ length (word d row x))
told-worth d row n (wrong j) e = absurd (let z : ◌≡◌ {A = ℕ} 0 1 = cc in omega arith)
told-worth d row n (worth x) e = (x, refl, cc)

module _ (d s : List ℕ) (r p e : ℕ) where
  pub body-form : {k : Refusal} → FormatMet s p e (checked.Refused (number_of k)) → BodyMet d s r p e (Err k)
  unfolding rest_at
  body-form m = record { met = record { told = λ inner n at l. rw (← m.same) } }

  module _ (F : Format) (m : FormatMet s p e (checked.Good (form_number F))) where
    pub body-misfit : fits d r (form_number F) ≡ false → BodyMet d s r p e (Err Misfit)
    unfolding rest_at
    body-misfit n = record { met = record { told = λ inner n' at l. rw (← m.same, n) } }

    module _ (suits : fits d r (form_number F) ≡ true) where
      pub body-part : {k : Refusal} → ExtentMet s (p + 1) e (Refused (number_of k)) → BodyMet d s r p e (Err k)
      unfolding rest_at
      body-part x = record { met = record { told = λ inner n' at l. rw (← m.same, suits, ← x.same) } }

      module _ (V : Extent) (x : ExtentMet s (p + 1) e (Value V.from V.to)) where
        lies : PartPlaced (p + 1) e V.from V.to
        lies = x.placed

        pub body-group : form_number F < 2 → BodyMet d s r p e (Ok (body.Group V))
        unfolding rest_at
        body-group h =
            record {
              met =
                  record {
                    format = form_number F;
                    told = λ inner n' at l. rw (← m.same, suits, ← x.same, lt-ltb (form_number F) 2 h);
                    holds = omega (arith, (fits-own d r (form_number F) (λ z. omega (arith, z))).0 suits);
                    further = omega (arith, lies.further);
                    order = lies.order;
                    within = lies.within;
                  };
            }

        module _ (h : 2 ≤ form_number F) where
          abbrev value : List ℕ
          value = take (V.to - V.from) (drop V.from s)

          part_is : slice V.from V.to s ≡ value
          part_is = let z : V.from + (V.to - V.from) ≡ V.to = omega (arith, lies.order) in ap (λ (k : ℕ). slice V.from k s) (sym z) ∙ slice-take s V.from (V.to - V.from)

          pub body-wrong : {k : Refusal} → WordMet d r (length value) (scalar_value d r (form_number F) value) (checked.Refused (number_of k)) → BodyMet d s r p e (Err k)
          unfolding rest_at
          body-wrong {k} v =
              let a = told-wrong d r (number_of k) (scalar_value d r (form_number F) value) v.same in
              record { met = record { told = λ inner n' at l. rw (← m.same, suits, ← x.same, le-ltb (form_number F) 2 h, part_is, a) } }

          pub body-word : {k : ℕ} → WordMet d r (length value) (scalar_value d r (form_number F) value) (checked.Good k) → BodyMet d s r p e (Ok (body.Plain V.to k))
          unfolding rest_at
          body-word {k} v = made (told-worth d r k (scalar_value d r (form_number F) value) v.same) (omega (arith, v.short, length-take (V.to - V.from) (drop V.from s)))
            where
              made : (x : Scalar) × (scalar_value d r (form_number F) value ≡ worth x) × (k ≡ length (word d r x)) → k ≤ 256 + (V.to - V.from) → BodyMet d s r p e (Ok (body.Plain V.to k))
              made a b =
                  record {
                    met =
                        record {
                          value = a.0;
                          told = λ inner n' at l. rw (← m.same, suits, ← x.same, le-ltb (form_number F) 2 h, part_is, a.1);
                          length_of = a.2;
                          short = omega (arith, b, lies.further, lies.order);
                          further = omega (arith, lies.further, lies.order);
                          within = lies.within;
                        };
                  }
