-- The formats by name: each is the one of its number, and a number that is no format's is above 7.
-- Assumes nothing.
use Prim.Native.Nat.{ℕ, ◌<◌}
use mathlib.Core.Path.{◌≡◌, refl}
use native.Mathlib.Omega.{arith}
use Rattle.std.specs.Prelude.{Some, None}
use Rattle.std.proofs.Common.{tests}
use Rattle.dictionary.specs.declared.formats.Format.{Format}
use Rattle.dictionary.specs.declared.formats.Format.TheVariants.{Set, Array, Null, Integer, Enum, String, Real, Boolean}
use Rattle.dictionary.specs.Formats.{form_number, form_named}

pub named-number : (f : Format) → form_named (form_number f) ≡ Some f
named-number Set = refl
named-number Array = refl
named-number Null = refl
named-number Integer = refl
named-number Enum = refl
named-number String = refl
named-number Real = refl
named-number Boolean = refl

pub named_form : (k : ℕ) (f : Format) → form_named k ≡ Some f → k ≡ form_number f
named_form k f e = grind (arith, tests)

pub named_none : (k : ℕ) → form_named k ≡ None → 7 < k
named_none k e = grind (arith, tests)

pub none_named : (k : ℕ) → 7 < k → form_named k ≡ None
none_named k h = grind (arith, tests)
