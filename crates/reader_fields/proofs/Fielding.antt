-- S, F and L: a format by its name is that by its number; and the checks of a tuple, put together from its fields.
-- Assumes nothing.
--   format_is                        what `format_at` has to show
--   asked-steps                      a tuple's checks are those of the fields in order
--   number-met, form-met, part-met   the bounds of a field that is found
use Prim.Native.Nat.{ℕ, ◌+◌, ◌-◌, ◌*◌, ◌/◌, ◌%◌, ◌^◌, ◌≤◌, ◌<◌}
use mathlib.Core.Path.{◌≡◌, refl, sym, ap, ◌∙◌}
use mathlib.Core.List.{List}
use mathlib.Core.Bool.{Bool, true, false}
use native.Mathlib.Omega.{arith}
use lib.ListN.{length}
use lib.Dec.{ltb, leb, eqb}
use borrow.Author.Tests.{lt-leb}
use Rattle.paper.specs.Refusals.{past_end, not_known, given_twice, not_in_base, misfit, budget_spent}
use Rattle.paper.specs.Checks.{choose, Judged, refuse, need}
use Rattle.numbers.specs.Bytes.{byte}
use Rattle.numbers.specs.Number.{Found, Refused, Value, number_at}
use Rattle.dictionary.specs.declared.formats.Format.{Format}
use Rattle.dictionary.specs.Formats.{boolean_form, form_named}
use Rattle.dictionary.proofs.Forms.{named_form, named_none}
use Rattle.std.specs.Prelude.{Option, Some, None, Result}
use Rattle.std.specs.Option.{ok_or}
use Rattle.paper.specs.declared.Refusal.{Refusal}
use Rattle.paper.specs.declared.Refusal.TheVariants.{NotInBase}
use Rattle.payload.specs.Checked.{Checked, format_checked}
use Rattle.payload.specs.Checked as checked
use Rattle.payload.specs.Reading.{number, supported, supported_format, asked}
use Rattle.payload.proofs.Asked.{supported-is}
use Rattle.reader_fields.specs.Fields.{sequence_in, sequence_at, format_at, extent_in, extent_at, sequenced, formed, extended, NumberPlaced, SequenceMet, FormatPlaced, FormatMet, PartPlaced, ExtentMet}

-- F
named : (x : ℕ) → format_checked (ok_or (supported_format x) NotInBase) ≡ choose (supported x) (λ _. checked.Good (x / 16)) (λ _. checked.Refused not_in_base)
named x = by (supported x) (λ e. (supported-is x e).1.high)
  where
    form : (o : Option Format) → form_named (x / 16) ≡ o → x / 16 ≤ boolean_form → format_checked (ok_or o NotInBase) ≡ checked.Good (x / 16)
    form (Some f) e h = ap checked.Good (sym (named_form (x / 16) f e))
    form None e h = absurd (omega (arith, named_none (x / 16) e))

    by : (t : Bool) → (t ≡ true → x / 16 ≤ boolean_form) → format_checked (ok_or (choose t (λ _. form_named (x / 16)) (λ _. None)) NotInBase) ≡ choose t (λ _. checked.Good (x / 16)) (λ _. checked.Refused not_in_base)
    by true h = form (form_named (x / 16)) refl (h refl)
    by false h = refl

pub format_is : (s : List ℕ) (p e : ℕ) → p < e → (o : Option Format) → o ≡ supported_format (byte s p) → (r : Result Format Refusal) → r ≡ ok_or o NotInBase → FormatMet s p e (format_checked r)
unfolding format_at
format_is s p e h o f r g =
    let z : format_checked r ≡ choose (supported (byte s p)) (λ _. checked.Good (byte s p / 16)) (λ _. checked.Refused not_in_base) = ap format_checked (g ∙ ap (λ (x : Option Format). ok_or x NotInBase) f) ∙ named (byte s p) in
    record { same = z ∙ sym (rw (lt-leb e p h)); placed = placed (format_checked r) }
  where
    placed : (x : Checked) → FormatPlaced p e x
    placed (checked.Refused k) = tt
    placed (checked.Good f) = h

-- the checks of `asked`, field by field
module _ {A : Type 0} (s : List ℕ) (at e : ℕ) where
  extent_steps : (p : ℕ) (go : ℕ → ℕ → Judged A) → number (number_at s p e) at p (λ len q. refuse (ltb (e - q) len) past_end at λ _. go q (q + len)) ≡ extended (extent_at s p e) at go
  unfolding extent_at
  extent_steps p go = by (number_at s p e)
    where
      room : (q len : ℕ) (t : Bool) → refuse t past_end at (λ _. go q (q + len)) ≡ extended (choose t (λ _. Refused past_end) (λ _. Value q (q + len))) at go
      room q len true = refl
      room q len false = refl

      by : (f : Found) → number f at p (λ len q. refuse (ltb (e - q) len) past_end at λ _. go q (q + len)) ≡ extended (extent_in p e f) at go
      by (Refused k) = refl
      by (Value len w) = room (p + 1 + w) len (ltb (e - (p + 1 + w)) len)

  format-steps : (p : ℕ) (go : ℕ → Judged A) → refuse (leb e p) past_end at (λ _. need (supported (byte s p)) not_in_base at λ _. go (byte s p / 16)) ≡ formed (format_at s p e) at go
  unfolding format_at
  format-steps p go = by (leb e p) (supported (byte s p))
    where
      by : (t u : Bool) → refuse t past_end at (λ _. need u not_in_base at λ _. go (byte s p / 16)) ≡ formed (choose t (λ _. checked.Refused past_end) λ _. choose u (λ _. checked.Good (byte s p / 16)) (λ _. checked.Refused not_in_base)) at go
      by true u = refl
      by false true = refl
      by false false = refl

  -- from F on
  abbrev Rest : (ℕ → Bool) → (ℕ → ℕ → ℕ → Judged A) → ℕ → Judged A
  Rest suits body p = refuse (leb e p) past_end at λ _. need (supported (byte s p)) not_in_base at λ _. need (suits (byte s p / 16)) misfit at λ _. number (number_at s (p + 1) e) at (p + 1) λ len q. refuse (ltb (e - q) len) past_end at λ _. body (byte s p / 16) q (q + len)

  abbrev pub Fielded : (ℕ → Bool) → (ℕ → ℕ → ℕ → Judged A) → ℕ → Judged A
  Fielded suits body p = formed (format_at s p e) at λ f. need (suits f) misfit at λ _. extended (extent_at s (p + 1) e) at (body f)

  rest-steps : (suits : ℕ → Bool) (body : ℕ → ℕ → ℕ → Judged A) (p : ℕ) → Rest suits body p ≡ Fielded suits body p
  rest-steps suits body p =
      ap (λ (x : Judged A). refuse (leb e p) past_end at (λ _. need (supported (byte s p)) not_in_base at λ _. need (suits (byte s p / 16)) misfit at λ _. x)) (extent_steps (p + 1) (body (byte s p / 16)))
      ∙ format-steps p (λ f. need (suits f) misfit at λ _. extended (extent_at s (p + 1) e) at (body f))

  module _ (knows news : ℕ → Bool) (suits : ℕ → ℕ → Bool) (body : ℕ → ℕ → ℕ → ℕ → Judged A) (l : ℕ) where
    abbrev Onward : (ℕ → ℕ → Judged A) → ℕ → ℕ → Judged A
    Onward rest n p = need (knows n) not_known at λ _. need (news n) given_twice at λ _. rest n p

    pub asked-steps : asked s knows news suits body at e l ≡ sequenced (sequence_at s at e l) at (Onward (λ n p. Fielded (suits n) (body n) p))
    unfolding asked sequence_at
    asked-steps = spent (eqb l 0)
      where
        even : (n p : ℕ) (t : Bool) → need t not_in_base at (λ _. Onward (λ n p. Rest (suits n) (body n) p) n p) ≡ sequenced (choose t (λ _. Value n p) (λ _. Refused not_in_base)) at (Onward (λ n p. Fielded (suits n) (body n) p))
        even n p true = ap (λ (x : Judged A). need (knows n) not_known at λ _. need (news n) given_twice at λ _. x) (rest-steps (suits n) (body n) p)
        even n p false = refl

        by : (f : Found) → number f at at (λ S p. need (eqb (S % 2) 0) not_in_base at λ _. Onward (λ n p. Rest (suits n) (body n) p) (S / 2) p) ≡ sequenced (sequence_in at f) at (Onward (λ n p. Fielded (suits n) (body n) p))
        by (Refused k) = refl
        by (Value S w) = even (S / 2) (at + 1 + w) (eqb (S % 2) 0)

        spent : (t : Bool) → refuse t budget_spent at (λ _. number (number_at s at e) at at λ S p. need (eqb (S % 2) 0) not_in_base at λ _. Onward (λ n p. Rest (suits n) (body n) p) (S / 2) p) ≡ sequenced (choose t (λ _. Refused budget_spent) (λ _. sequence_in at (number_at s at e))) at (Onward (λ n p. Fielded (suits n) (body n) p))
        spent true = refl
        spent false = by (number_at s at e)

-- the bounds of a field that is found
pub number-met : (s : List ℕ) (at e l n p : ℕ) (S : Found) → SequenceMet s at e l S → S ≡ Value n p → NumberPlaced at e l p
number-met s at e l n p S m g = taken (rw g at m)
  where
    taken : SequenceMet s at e l (Value n p) → NumberPlaced at e l p
    taken m = m.placed

pub form-met : (s : List ℕ) (p e f : ℕ) (x : Checked) → FormatMet s p e x → x ≡ checked.Good f → p < e
form-met s p e f x m g = taken (rw g at m)
  where
    taken : FormatMet s p e (checked.Good f) → p < e
    taken m = m.placed

pub part-met : (s : List ℕ) (p e from to : ℕ) (x : Found) → ExtentMet s p e x → x ≡ Value from to → PartPlaced p e from to
part-met s p e from to x m g = taken (rw g at m)
  where
    taken : ExtentMet s p e (Value from to) → PartPlaced p e from to
    taken m = m.placed

-- the place after F
pub after-form : (s : List ℕ) (p e f : ℕ) (x : Checked) → length s * 1 < 2 ^ 63 → e ≤ length s → FormatMet s p e x → x ≡ checked.Good f → p + 1 < 2 ^ 64
after-form s p e f x cap l m g = omega (arith, form-met s p e f x m g)
