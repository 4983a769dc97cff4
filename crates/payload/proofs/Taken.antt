-- Each check of the answers that is the payload's own taken back: where the whole is accepted, the check was passed and the rest is accepted.
-- Assumes nothing.
use mathlib.Core.Path.{◌≡◌, refl}
use Prim.Native.Nat.{ℕ, ◌+◌}
use Rattle.paper.specs.Checks.{Judged, good}
use Rattle.paper.proofs.Checks.{never}
use Rattle.numbers.specs.Number.{Found, Refused, Value}
use Rattle.payload.specs.Tree.{Scalar}
use Rattle.payload.specs.Values.{Valued, wrong, worth}
use Rattle.payload.specs.Reading.{number, value}

module _ {A : Type 0} (q l : ℕ) (x : A) where
  pub numbered : (r : Found) (at p : ℕ) (f : ℕ → ℕ → Judged A) → number r at p f ≡ good q l x → (n : ℕ) × (w : ℕ) × (r ≡ Value n w) × (f n (p + 1 + w) ≡ good q l x)
  numbered (Refused k) at p f e = never e
  numbered (Value n w) at p f e = (n, w, refl, e)

  pub valued : (r : Valued) (at : ℕ) (f : Scalar → Judged A) → value r at f ≡ good q l x → (y : Scalar) × (r ≡ worth y) × (f y ≡ good q l x)
  valued (wrong k) at f e = never e
  valued (worth y) at f e = (y, refl, e)
