-- Runs of bytes.
-- Assumes nothing.
use Prim.Native.Nat.{ℕ, zero, suc, ◌+◌, ◌<◌}
use mathlib.Core.Path.{◌≡◌, refl, sym, ap, ◌∙◌}
use mathlib.Core.List.{List, [], ◌∷◌}
use mathlib.Core.Bool.{Bool, true, false, cond, ◌&&◌}
use native.Mathlib.Omega.{arith}
use lib.ListN.{length, get_or, drop}
use borrow.Author.Tests.{ne_eqb}
use Rattle.std.specs.List.{prefix_len, list_all}
use Rattle.numbers.specs.Decimal.{digit, digits_only}
use Rattle.paper.specs.Checks.{choose}
use Rattle.text.specs.Numerals.{leading}
use Rattle.text.specs.Tokens.{space}
use Rattle.text.specs.Scanning.{past}
use Rattle.writer_tokens.specs.Met.{Passed}

pub leading-prefix : (P : ℕ → Bool) (t : List ℕ) → prefix_len P t ≡ leading P t
unfolding leading
leading-prefix P [] = refl
leading-prefix P (c ∷ t) = go (P c) (leading-prefix P t)
  where
    go : (b : Bool) → prefix_len P t ≡ leading P t → cond b (1 + prefix_len P t) 0 ≡ choose b (λ _. suc (leading P t)) (λ _. 0)
    go true e = omega (arith, e)
    go false e = refl

pub only-all : (t : List ℕ) (r : Bool) → r ≡ list_all digit t → r ≡ digits_only t
unfolding digits_only
only-all [] r e = e
only-all (c ∷ t) r e = e ∙ ap (λ (b : Bool). digit c && b) (only-all t _ refl)

-- a byte above 32 is no space, and a run of spaces ends where it begins
above : (c : ℕ) → 32 < c → space c ≡ false
unfolding space
above c h = rw (ne_eqb c 32 (λ e. omega (arith, e, h)), ne_eqb c 9 (λ e. omega (arith, e, h)), ne_eqb c 10 (λ e. omega (arith, e, h)), ne_eqb c 13 (λ e. omega (arith, e, h))) refl

none-leads : (s : List ℕ) (at : ℕ) → at < length s → 32 < get_or s at 0 → leading space (drop at s) ≡ 0
unfolding leading
none-leads [] at h g = absurd (omega (arith, h))
none-leads (c ∷ s) zero h g = rw (above c g) refl
none-leads (c ∷ s) (suc at) h g = none-leads s at (omega (arith, h)) g

pub no_space : (s : List ℕ) (at : ℕ) → at < length s → 32 < get_or s at 0 → Passed space s at at
unfolding past
no_space s at h g = record { from = omega arith; within = omega (arith, h); same = omega (arith, none-leads s at h g) }
