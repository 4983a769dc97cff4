-- The whole check: its three parts, and what each part may count on.
-- Assumes nothing.
use Prim.Native.Nat.{ℕ, ◌≤◌}
use mathlib.Core.Path.{◌≡◌, refl}
use mathlib.Core.List.{List}
use mathlib.Core.Bool.{Bool, true, false, ◌&&◌}
use native.Mathlib.Omega.{arith}
use lib.ListN.{length}
use Rattle.paper.specs.Checks.{choose}
use Rattle.paper.specs.Tests.{all}
use Rattle.paper.proofs.Tests.{all_both}
use Rattle.dictionary.specs.Rows.{header_bytes, entries}
use Rattle.dictionary.specs.Accepts.{header_fine, name_fine, children_fine, row_fine, accepts}
use Rattle.dictionary.specs.Met.{Field, Rowed, Named}
use Rattle.dictionary.proofs.Laws.{header_gives}

module _ (d : List ℕ) where
  pub parts : accepts d ≡ (header_fine d && all (entries d) (name_fine d) && all (entries d) (children_fine d))
  unfolding accepts row_fine
  parts = go (header_fine d)
    where
      go : (t : Bool) → choose t (λ _. all (entries d) (row_fine d)) (λ _. false) ≡ (t && all (entries d) (name_fine d) && all (entries d) (children_fine d))
      go true = all_both (name_fine d) (children_fine d) (entries d)
      go false = refl

  module _ (e : header_fine d ≡ true) where
    pub room : header_bytes ≤ length d
    room = let h = header_gives d e in omega (arith, h.least)

    module _ (n : ℕ) (hn : Field (entries d) 65536 n) where
      pub rowed : Rowed d n
      rowed =
          let h = header_gives d e in
          record { counted = hn.same; inside = rw (← hn.same) at h.inside; few = h.most }

      pub named : all n (name_fine d) ≡ true → Named d n
      named f = record { rowed = rowed; names = f }

pub ruleset acceptance = (parts, room, rowed, named)
