-- An order of checks taken back: what each check tells where the whole is accepted, and where it is refused.
-- Assumes nothing.
--   never, same_place, same_left, same_thing   no refusal is an acceptance; two acceptances are the same in each part
--   passed, needed, followed                   accepted: the check was passed and the rest is accepted
--   refuse_stop, need_stop, after_stop         refused: the check refuses, or it was passed and the rest is refused
--   refuse_like, need_like                     refused, with a rest that is refused alike: so is the other
--   step                                       a chain of choices by number, one after another
use mathlib.Core.Path.{◌≡◌, refl}
use mathlib.Core.Bool.{Bool, true, false}
use Prim.Native.Nat.{ℕ}
use native.Mathlib.Omega.{arith}
use lib.Dec.{eqb}
use borrow.Author.Tests.{eqb-true}
use Rattle.paper.specs.Checks.{choose, Judged, refused, good, refuse, need, after}

pub never : {A : Type 0} {k w q l : ℕ} {x : A} {B : Type 0} → refused k w ≡ good q l x → B
never e = absurd (let z : ◌≡◌ {A = ℕ} 0 1 = cc in omega arith)

module _ {A : Type 0} {p l q m : ℕ} {x y : A} (e : good p l x ≡ good q m y) where
  pub same_place : p ≡ q
  same_place = cc

  pub same_left : l ≡ m
  same_left = cc

  pub same_thing : x ≡ y
  same_thing = cc

module _ {A : Type 0} (q l : ℕ) (x : A) where
  pub passed : (t : Bool) (k w : ℕ) (f : Unit {0} → Judged A) → refuse t k w f ≡ good q l x → (t ≡ false) × (f tt ≡ good q l x)
  passed true k w f e = never e
  passed false k w f e = (refl, e)

  pub needed : (t : Bool) (k w : ℕ) (f : Unit {0} → Judged A) → need t k w f ≡ good q l x → (t ≡ true) × (f tt ≡ good q l x)
  needed true k w f e = (refl, e)
  needed false k w f e = never e

  pub followed : {B : Type 0} (r : Judged B) (f : ℕ → ℕ → B → Judged A) → after r f ≡ good q l x → (p : ℕ) × (m : ℕ) × (y : B) × (r ≡ good p m y) × (f p m y ≡ good q l x)
  followed (refused k w) f e = never e
  followed (good p m y) f e = (p, m, y, refl, e)

module _ {A : Type 0} {k w : ℕ} {R : Type 0} where
  pub refuse_stop : (b : Bool) (k' w' : ℕ) (f : Unit {0} → Judged A) → refuse b k' w' f ≡ refused k w → (b ≡ true → k ≡ k' → w ≡ w' → R) → (b ≡ false → f tt ≡ refused k w → R) → R
  refuse_stop true k' w' f e x y = x refl (cc) (cc)
  refuse_stop false k' w' f e x y = y refl e

  pub need_stop : (b : Bool) (k' w' : ℕ) (f : Unit {0} → Judged A) → need b k' w' f ≡ refused k w → (b ≡ false → k ≡ k' → w ≡ w' → R) → (b ≡ true → f tt ≡ refused k w → R) → R
  need_stop false k' w' f e x y = x refl (cc) (cc)
  need_stop true k' w' f e x y = y refl e

  pub after_stop : {B : Type 0} (r : Judged B) (f : ℕ → ℕ → B → Judged A) → after r f ≡ refused k w → (r ≡ refused k w → R) → ((p m : ℕ) (y : B) → r ≡ good p m y → f p m y ≡ refused k w → R) → R
  after_stop (refused k' w') f e x y = x (cc)
  after_stop (good p m z) f e x y = y p m z refl e

module _ {A B : Type 0} {k w : ℕ} where
  pub refuse_like : (b : Bool) (k' w' : ℕ) (f : Unit {0} → Judged A) (g : Unit {0} → Judged B) → (f tt ≡ refused k w → g tt ≡ refused k w) → refuse b k' w' f ≡ refused k w → refuse b k' w' g ≡ refused k w
  refuse_like true k' w' f g H e = let i : k' ≡ k = cc in let j : w' ≡ w = cc in rw (i, j)
  refuse_like false k' w' f g H e = H e

  pub need_like : (b : Bool) (k' w' : ℕ) (f : Unit {0} → Judged A) (g : Unit {0} → Judged B) → (b ≡ true → f tt ≡ refused k w → g tt ≡ refused k w) → need b k' w' f ≡ refused k w → need b k' w' g ≡ refused k w
  need_like false k' w' f g H e = let i : k' ≡ k = cc in let j : w' ≡ w = cc in rw (i, j)
  need_like true k' w' f g H e = H refl e

pub step : (k j : ℕ) {R : Type 0} (A : Type 0) (B : Unit {0} → Type 0) → choose (eqb k j) (λ _. A) B → (k ≡ j → A → R) → (B tt → R) → R
step k j {R} A B x f g = go (eqb k j) refl x
  where
    go : (t : Bool) → eqb k j ≡ t → choose t (λ _. A) B → R
    go true e x = f (eqb-true k j e) x
    go false e x = g x
