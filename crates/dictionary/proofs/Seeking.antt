-- A search among rows: what it finds passes and lies among them, and how it goes step by step.
-- Assumes nothing.
use Prim.Native.Nat.{ℕ, zero, suc, ◌+◌, ◌-◌, ◌≤◌, ◌<◌}
use mathlib.Core.Path.{◌≡◌, refl, sym, ap, ◌∙◌}
use mathlib.Core.Bool.{Bool, true, false}
use native.Mathlib.Omega.{arith}
use lib.Dec.{eqb}
use borrow.Author.Tests.{eqb-true, eqb-false}
use Rattle.paper.specs.Checks.{choose}
use Rattle.std.specs.Prelude.{Some, None}
use Rattle.dictionary.specs.Children.{seek}

pub record Sought (P : ℕ → Bool) (k c x : ℕ) : Type 0 where
  pub passes : P x ≡ true
  pub from : c ≤ x
  pub under : x < c + k

module _ (P : ℕ → Bool) where
  pub seek-none : (k c : ℕ) → k ≡ 0 → seek k c P ≡ None
  unfolding seek
  seek-none k c e = rw e

  pub seek-here : (k c : ℕ) → 0 < k → P c ≡ true → seek k c P ≡ Some c
  unfolding seek
  seek-here k c h e = let f : k ≡ suc (k - 1) = omega arith in ap (λ (n : ℕ). seek n c P) f ∙ rw e

  pub seek-next : (k c : ℕ) → 0 < k → P c ≡ false → seek k c P ≡ seek (k - 1) (c + 1) P
  unfolding seek
  seek-next k c h e =
      let f : k ≡ suc (k - 1) = omega arith in
      let g : suc c ≡ c + 1 = omega arith in
      ap (λ (n : ℕ). seek n c P) f ∙ rw (e, g)

  pub seek_found : (k c x : ℕ) → seek k c P ≡ Some x → Sought P k c x
  unfolding seek
  seek_found zero c x e = absurd (let z : ◌≡◌ {A = ℕ} 0 1 = cc in omega arith)
  seek_found (suc k) c x e = go (P c) refl e (λ f. seek_found k (suc c) x f)
    where
      go : (t : Bool) → P c ≡ t → seek (suc k) c P ≡ Some x → (seek k (suc c) P ≡ Some x → Sought P k (suc c) x) → Sought P (suc k) c x
      go true f e rec = let z : c ≡ x = cc (sym (seek-here (suc k) c (omega arith) f) ∙ e) in record { passes = rw z at f; from = omega arith; under = omega arith }
      go false f e rec =
          let g : suc k - 1 ≡ k = omega arith in
          let i : c + 1 ≡ suc c = omega arith in
          let y = rec (sym (rw (g, i) at (seek-next (suc k) c (omega arith) f)) ∙ e) in
          record { passes = y.passes; from = omega (arith, y.from); under = omega (arith, y.under) }

  -- where one passes, one is found
  pub seek-some : (k c x : ℕ) → P x ≡ true → c ≤ x → x < c + k → (y : ℕ) × (seek k c P ≡ Some y)
  unfolding seek
  seek-some zero c x e h g = absurd (omega arith)
  seek-some (suc k) c x e h g = go (P c) refl (λ l. seek-some k (suc c) x e l (omega arith))
    where
      go : (b : Bool) → P c ≡ b → (suc c ≤ x → (y : ℕ) × (seek k (suc c) P ≡ Some y)) → (y : ℕ) × (choose b (λ _. Some c) (λ _. seek k (suc c) P) ≡ Some y)
      go true f rec = (c, refl)
      go false f rec = rec (other (eqb c x) refl)
        where
          other : (b : Bool) → eqb c x ≡ b → suc c ≤ x
          other true z = let w = eqb-true c x z in absurd (let v : true ≡ false = sym e ∙ ap P (sym w) ∙ f in let o : ◌≡◌ {A = ℕ} 0 1 = cc in omega arith)
          other false z = omega (arith, eqb-false c x z)
