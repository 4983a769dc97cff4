-- Slots suffice: a group with members has seven bytes and a member's beside what its members' own groups have.
-- Assumes nothing.
use Prim.Native.Nat.{suc, ◌+◌, ◌*◌, ◌≤◌}
use mathlib.Core.Path.{◌≡◌, refl}
use mathlib.Core.List.{[], ◌∷◌, ◌++◌}
use mathlib.Core.Bool.{Bool, true, false}
use native.Mathlib.Omega.{arith}
use lib.ListN.{length, length-append}
use lib.Dec.{eqb}
use borrow.Author.Tests.{eqb-false}
use Rattle.paper.specs.Checks.{choose}
use Rattle.numbers.specs.Number.{number_of}
use Rattle.numbers.proofs.Numbers.{number-some}
use Rattle.payload.specs.Tree.{Tuples, none, scalar, inner, format_of, shape_format, size}
use Rattle.text.specs.Shortest.{tuple_of, value_bytes, shortest}
use Rattle.text.proofs.Paid.{tuple_long_lem}
use Rattle.writer_sizes.specs.Plan.{kept, group_long, plan}

pub plan-few : (t : Tuples) → 7 * length (plan t) + 10 * size t ≤ 2 * length (shortest t)
unfolding plan size shortest
plan-few none = omega arith
plan-few (scalar n x rest) =
    omega (arith, plan-few rest, length-append (tuple_of n (format_of x) (value_bytes x)) (shortest rest), tuple_long_lem n (format_of x) (value_bytes x))
plan-few (inner n g kids rest) = go (eqb (size kids) 0) refl (plan-few kids) (plan-few rest)
  where
    go : (b : Bool) → eqb (size kids) 0 ≡ b → 7 * length (plan kids) + 10 * size kids ≤ 2 * length (shortest kids) → 7 * length (plan rest) + 10 * size rest ≤ 2 * length (shortest rest)
        → 7 * length (choose b (λ _. []) (λ _. kept (group_long kids) ∷ kept (size kids) ∷ plan kids) ++ plan rest) + 10 * suc (size rest) ≤ 2 * length (tuple_of n (shape_format g) (number_of (size kids) ++ shortest kids) ++ shortest rest)
    go true e h k =
        omega (arith, h, k, length-append (tuple_of n (shape_format g) (number_of (size kids) ++ shortest kids)) (shortest rest), tuple_long_lem n (shape_format g) (number_of (size kids) ++ shortest kids))
    go false e h k =
        let z = eqb-false (size kids) 0 e in
        omega (
          arith,
          h,
          k,
          z,
          length-append (tuple_of n (shape_format g) (number_of (size kids) ++ shortest kids)) (shortest rest),
          tuple_long_lem n (shape_format g) (number_of (size kids) ++ shortest kids),
          length-append (number_of (size kids)) (shortest kids),
          number-some (size kids),
          length-append (kept (group_long kids) ∷ kept (size kids) ∷ plan kids) (plan rest),
        )
