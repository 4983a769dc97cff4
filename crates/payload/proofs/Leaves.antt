-- The small functions that reader and writer share: one lemma for each return.
-- Assumes nothing.
--   spelt                       a part whose every byte passes is well spelt
--   headers, fittings, childs   the rules of `header_agrees`, `fits` and `child_of`
use Prim.Native.Nat.{ℕ, ◌+◌, ◌≤◌, ◌<◌}
use mathlib.Core.Path.{◌≡◌, refl, sym, ap, ◌∙◌}
use mathlib.Core.List.{List, [], ◌∷◌}
use mathlib.Core.Bool.{Bool, true, false, ◌&&◌}
use lib.ListN.{length, take}
use lib.Seq.{slice}
use lib.Dec.{eqb}
use Rattle.paper.specs.Tests.{same}
use Rattle.paper.proofs.Tests.{and-not-left, both_ways, same_true, same_eq, same-pointwise}
use Rattle.numbers.specs.Bytes.{byte}
use Rattle.std.specs.Prelude.{Option, Some, None, unwrap_or}
use Rattle.std.specs.List.{list_all, slice_range, starts_with}
use Rattle.std.proofs.lemmas.Slice.{between_is}
use Rattle.dictionary.specs.Formats.{set_form, null_form}
use Rattle.dictionary.specs.Rows.{row_at, row_bytes, entries, kind, nullable, first_child}
use Rattle.dictionary.specs.Accepts.{accepts}
use Rattle.dictionary.specs.Children.{child_numbered}
use Rattle.dictionary.specs.Given.{Row, parent}
use Rattle.dictionary.specs.Met.{Field}
use Rattle.dictionary.proofs.Asking as asking
use Rattle.payload.specs.Header.{header_agrees, version_bytes}
use Rattle.payload.specs.Strings.{string_byte, well_spelt}
use Rattle.payload.specs.Fits.{GroupRow, row_of, child, fits}
use Rattle.payload.proofs.Sitting.{fits-null, fits-kind, holder, child-found, child_array}

spelt-all : (t : List ℕ) → list_all string_byte t ≡ well_spelt t
unfolding well_spelt
spelt-all [] = refl
spelt-all (b ∷ t) = ap (λ (r : Bool). string_byte b && r) (spelt-all t)

-- what `all` says of a part of s
pub spelt : (s : List ℕ) (from to : ℕ) (r : Bool) → r ≡ list_all string_byte (slice_range s from to) → r ≡ well_spelt (slice from to s)
spelt s from to r e = e ∙ spelt-all (slice_range s from to) ∙ ap well_spelt (between_is s from to)

-- what `starts_with` says of s
module _ (s : List ℕ) (r : Bool) (e : r ≡ starts_with eqb s version_bytes) where
  begins : r ≡ same (take 4 s) version_bytes
  begins =
      let v = version_bytes in
      let t = take 4 s in
      e ∙ same-pointwise v t ∙ both_ways _ _ (λ h. same_eq t v (sym (same_true v t h))) (λ h. same_eq v t (sym (same_true t v h)))

  pub header_begun : r ≡ true → eqb (byte s 6) 0x00 ≡ header_agrees s
  unfolding header_agrees
  header_begun h = rw (sym begins ∙ h)

  pub header_other : r ≡ false → r ≡ header_agrees s
  unfolding header_agrees
  header_other h = h ∙ sym (and-not-left _ _ (sym begins ∙ h))

pub ruleset headers = (header_begun, header_other)

pub row_inside : (d : List ℕ) (row : ℕ) → Row d row → row_at row + row_bytes ≤ length d
row_inside d row w = asking.row_inside d w.accepted row w.inside

module _ (d : List ℕ) (row f : ℕ) where
  pub fit-null : f ≡ null_form → (t : Bool) → t ≡ nullable d row → t ≡ fits d row f
  fit-null e t g = g ∙ sym (ap (fits d row) e ∙ fits-null d row)

  pub fit-own : (f ≡ null_form → ⊥) → (k : ℕ) → Field (kind d row) 16 k → eqb f k ≡ fits d row f
  fit-own x k fk = ap (eqb f) fk.same ∙ sym (fits-kind d row f x)

pub ruleset fittings = (row_inside, fit-null, fit-own)

row-or : (x : Option ℕ) → row_of x ≡ unwrap_or x 0
row-or (Some c) = refl
row-or None = refl

-- the row of a tuple
module _ (d : List ℕ) (row : ℕ) (w : GroupRow d row) where
  pub group-inside : row_at row + row_bytes ≤ length d
  group-inside = asking.row_inside d w.accepted row w.inside

  pub group-accepted : accepts d ≡ true
  group-accepted = w.accepted

  pub group-parent : (row < entries d) × (parent d row ≡ true)
  group-parent = (w.inside, holder d row w.holds)

  module _ (n c : ℕ) where
    pub child_in_set : kind d row ≡ set_form → (x : Option ℕ) → x ≡ child_numbered d row n → c ≡ unwrap_or x 0 → c ≡ child d row n
    child_in_set e x f g = g ∙ sym (row-or x) ∙ ap row_of f ∙ sym (child-found d row n e)

    pub child_in_array : (kind d row ≡ set_form → ⊥) → Field (first_child d row) 65536 c → c ≡ child d row n
    child_in_array e f = f.same ∙ sym (child_array d row n e)

pub ruleset childs = (group-inside, group-accepted, group-parent, child_in_set, child_in_array)
