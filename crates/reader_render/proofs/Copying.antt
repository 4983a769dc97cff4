-- A quoted text, and what stands before a member: one lemma for each call and each return.
-- Assumes nothing.
--   quote_rules                      of `put_quoted`
--   comma_rules, label_rules         of `put_comma` and `put_label`; lead_rules: of `put_lead`
use mathlib.Core.Path.{◌≡◌, refl, ap}
use mathlib.Core.List.{List, [], ◌∷◌, ◌++◌}
use Prim.Native.Nat.{ℕ, zero, suc, ◌+◌, ◌<◌, ◌≤◌}
use native.Mathlib.Omega.{arith}
use lib.ListN.{length, length-append}
use Rattle.numbers.specs.declared.output.Output.{Output}
use Rattle.numbers.specs.Output.{Room, Added}
use Rattle.numbers.proofs.Adding.{none, joined, as_long, renamed, room-first, room-next}
use Rattle.dictionary.specs.Rows.{name}
use Rattle.payload.specs.declared.Shape.{Shape}
use Rattle.payload.specs.declared.Shape.TheVariants.{Set, Array}
use Rattle.payload.specs.Text.{quote, comma, colon, quoted, comma_at}
use Rattle.reader_render.specs.Rendered.{labelled, lead}

-- one text after another, between quotes
module _ (t : List ℕ) (o : Output) (h : Room o (quoted t)) where
  long : length (quoted t) ≡ 2 + length t
  long = omega (arith, length-append t (quote ∷ []))

  pub quote-room : Room o (quote ∷ [])
  quote-room = omega (arith, long)

  module _ (o₁ : Output) (w : Added o (quote ∷ []) o₁) where
    pub text-room : Room o₁ t
    text-room = omega (arith, long, w.wrote.place, as_long w)

    module _ (o₂ : Output) (v : Added o₁ t o₂) where
      pub quote-room_2 : Room o₂ (quote ∷ [])
      quote-room_2 = omega (arith, long, w.wrote.place, as_long w, v.wrote.place, as_long v)

      pub quoted-whole : (o₃ : Output) → Added o₂ (quote ∷ []) o₃ → Added o (quoted t) o₃
      quoted-whole o₃ u = joined w (joined v u)

pub ruleset quote_rules = (quote-room, text-room, quote-room_2, quoted-whole)

-- the comma before the member i
comma-some : (i : ℕ) → 0 < i → comma_at i ≡ comma ∷ []
comma-some zero h = absurd (omega arith)
comma-some (suc i) h = refl

comma-none : (i : ℕ) → i ≤ 0 → comma_at i ≡ []
comma-none zero h = refl
comma-none (suc i) h = absurd (omega arith)

module _ (i : ℕ) (o : Output) where
  pub comma-room : 0 < i → Room o (comma_at i) → Room o (comma ∷ [])
  comma-room l h = omega (arith, ap length (comma-some i l))

  pub comma-has : (o₁ : Output) → 0 < i → Added o (comma ∷ []) o₁ → Added o (comma_at i) o₁
  comma-has o₁ l w = rw (comma-some i l) w

  pub comma_lacks : i ≤ 0 → Added o (comma_at i) o
  comma_lacks l = rw (comma-none i l) (none o)

pub ruleset comma_rules = (comma-room, comma-has, comma_lacks)

-- a name and a colon
module _ (d : List ℕ) (g : Shape) (row : ℕ) (o : Output) where
  pub label-none : g ≡ Array → Added o (labelled d g row) o
  label-none e = rw e (none o)

  module _ (e : g ≡ Set) (h : Room o (labelled d g row)) (t : List ℕ) (n : t ≡ name d row) where
    label_is : labelled d g row ≡ quoted t ++ (colon ∷ [])
    label_is = rw (e, n)

    fits : Room o (quoted t ++ (colon ∷ []))
    fits = rw label_is at h

    pub name-room : Room o (quoted t)
    name-room = room-first o (quoted t) (colon ∷ []) fits

    module _ (o₁ : Output) (w : Added o (quoted t) o₁) where
      pub colon-room : Room o₁ (colon ∷ [])
      colon-room = room-next (colon ∷ []) fits w

      pub label-whole : (o₂ : Output) → Added o₁ (colon ∷ []) o₂ → Added o (labelled d g row) o₂
      label-whole o₂ v = renamed label_is (joined w v)

pub ruleset label_rules = (label-none, name-room, colon-room, label-whole)

-- a comma and a label
module _ (d : List ℕ) (g : Shape) (row i : ℕ) (o : Output) (h : Room o (lead d g row i)) where
  pub lead-room : Room o (comma_at i)
  lead-room = room-first o (comma_at i) (labelled d g row) h

  module _ (o₁ : Output) (w : Added o (comma_at i) o₁) where
    pub lead-room_2 : Room o₁ (labelled d g row)
    lead-room_2 = room-next (labelled d g row) h w

    pub lead-whole : (o₂ : Output) → Added o₁ (labelled d g row) o₂ → Added o (lead d g row i) o₂
    lead-whole o₂ v = joined w v

pub ruleset lead_rules = (lead-room, lead-room_2, lead-whole)
