-- What acceptance gives, as facts: the crates above cite these and never open the checker's definition.
--   Headed d       the header
--   Row d row      a row of an accepted dictionary: what most functions above ask of their caller
--   Worded d r     the row's name lies inside and is printable
--   parent d r     the row's format has children
--   Family d r     such a row's children are in range, in turn and found by number
--   Members d r    the children of a set or enum are named, and no two alike
use Rattle.std.specs.Prelude.{ℕ, ◌+◌, ◌-◌, ◌≤◌, ◌<◌, ◌≡◌, List, Bool, true, ◌||◌, length, get_or, eqb}
use Rattle.paper.specs.Limits.{dictionary_least, dictionary_most}
use Rattle.dictionary.specs.Formats.{set_form, array_form, enum_form}
use Rattle.dictionary.specs.Rows.{entries, entries_end, whole_size, kind, number_in, first_child, child_count, name_length, name_offset, name}
use Rattle.dictionary.specs.Accepts.{name_byte, accepts}

pub record Headed (d : List ℕ) : Type 0 where
  pub least : dictionary_least ≤ length d
  pub most : length d ≤ dictionary_most
  pub sized : whole_size d ≡ length d
  pub some : 1 ≤ entries d
  pub inside : entries_end d ≤ length d
  pub root : kind d 0 ≡ set_form

pub record Row (d : List ℕ) (row : ℕ) : Type 0 where
  pub accepted : accepts d ≡ true
  pub inside : row < entries d

pub record Worded (d : List ℕ) (r : ℕ) : Type 0 where
  pub inside : name_offset d r + name_length d r ≤ length d
  pub two : (name_length d r ≡ 0 → ⊥) → 2 ≤ name_length d r
  pub long : length (name d r) ≡ name_length d r - 1
  pub printable : (i : ℕ) → i < length (name d r) → name_byte (get_or (name d r) i 0) ≡ true

unfoldable pub parent : List ℕ → ℕ → Bool
parent d r = eqb (kind d r) set_form || eqb (kind d r) array_form || eqb (kind d r) enum_form

pub record Family (d : List ℕ) (r : ℕ) : Type 0 where
  pub within : first_child d r + child_count d r ≤ entries d
  pub each_in_turn : (p : ℕ) → p < child_count d r → number_in d (first_child d r + p) ≡ p

pub record Members (d : List ℕ) (r : ℕ) : Type 0 where
  pub named : (p : ℕ) → p < child_count d r → name_length d (first_child d r + p) ≡ 0 → ⊥
  pub differ : (p q : ℕ) → q < p → p < child_count d r → name d (first_child d r + q) ≡ name d (first_child d r + p) → ⊥
