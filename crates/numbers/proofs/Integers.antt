-- What bytes say as an integer, in either sign, and that 8 bytes hold what 1 to 8 bytes say.
-- Assumes nothing.
--   one_byte, two_bytes_lem   80 is -128, and 80 00 is 128
--   flip-..               the bytes complemented
--   says-plus, -minus     by the top bit
--   says-held             what 1 to 8 bytes say, 8 bytes hold
--   twos_complement       what bytes say, in the words of arithmetic
use mathlib.Core.Path.{◌≡◌, refl, ap, ◌∙◌}
use mathlib.Core.List.{List, [], ◌∷◌}
use mathlib.Core.Bool.{Bool, true, false}
use Prim.Native.Nat.{ℕ, zero, suc, ◌+◌, ◌-◌, ◌*◌, ◌^◌, ◌<◌, ◌≤◌}
use native.Mathlib.Omega.{arith}
use native.Mathlib.Nat.{pow-succ'}
use lib.ListN.{length}
use lib.Dec.{ltb}
use borrow.Author.Tests.{ltb-true, ltb-false, lt-ltb, le-ltb}
use Rattle.paper.specs.Limits.{integer_most}
use Rattle.paper.specs.Checks.{choose}
use Rattle.numbers.specs.declared.Integer.{Integer}
use Rattle.numbers.specs.declared.Integer.TheVariants.{Plus, Minus}
use Rattle.numbers.specs.Bytes.{Bytes, byte, little, top, second}
use Rattle.numbers.specs.Integer.{flip, integer_of, Complement, Held}
use Rattle.numbers.proofs.Places.{bytes-at}
use Rattle.numbers.proofs.Little.{limit, limit_up, little-below}

-- 80 is -128, and 80 00 is 128
pub one_byte : integer_of (0x80 ∷ []) ≡ Minus 127
unfolding integer_of little flip
one_byte = refl

pub two_bytes_lem : integer_of (0x80 ∷ 0 ∷ []) ≡ Plus 128
unfolding integer_of little flip
two_bytes_lem = refl

pub flip-long : (v : List ℕ) → length (flip v) ≡ length v
unfolding flip
flip-long [] = refl
flip-long (x ∷ v) = ap suc (flip-long v)

pub flip-bytes : (v : List ℕ) → Bytes (flip v)
unfolding flip
flip-bytes [] = tt
flip-bytes (x ∷ v) = (omega arith, flip-bytes v)

pub flip-flip : (v : List ℕ) → Bytes v → flip (flip v) ≡ v
unfolding flip
flip-flip [] h = refl
flip-flip (x ∷ v) h =
    let e : 255 - (255 - x) ≡ x = omega (arith, h.0) in
    rw (e, flip-flip v h.1)

pub flip-at : (v : List ℕ) (i : ℕ) → i < length v → byte (flip v) i ≡ 255 - byte v i
unfolding flip
flip-at [] i h = absurd (omega arith)
flip-at (x ∷ v) zero h = refl
flip-at (x ∷ v) (suc i) h = flip-at v i (omega arith)

-- the highest byte, complemented, and the one below it
pub flip_top : (v : List ℕ) → 1 ≤ length v → top (flip v) ≡ 255 - top v
flip_top v h = ap (λ (k : ℕ). byte (flip v) (k - 1)) (flip-long v) ∙ flip-at v (length v - 1) (omega arith)

pub flip-second : (v : List ℕ) → 2 ≤ length v → second (flip v) ≡ 255 - second v
flip-second v h = ap (λ (k : ℕ). byte (flip v) (k - 2)) (flip-long v) ∙ flip-at v (length v - 2) (omega arith)

pub says-plus : (v : List ℕ) → top v < 128 → integer_of v ≡ Plus (little v)
unfolding integer_of
says-plus v h = rw (lt-ltb _ _ h)

pub says-minus : (v : List ℕ) → 128 ≤ top v → integer_of v ≡ Minus (little (flip v))
unfolding integer_of
says-minus v h = rw (le-ltb _ _ h)

-- bytes whose top bit is clear say a number below the limit of their count
top-limit : (v : List ℕ) → Bytes v → 1 ≤ length v → top v < 128 → little v < limit 128 (length v - 1)
top-limit [] h g t = absurd (omega arith)
top-limit (x ∷ v) h g t =
    let e : length (x ∷ v) - 1 ≡ length v = omega arith in
    rw e (little-below 128 x v h (rw e at t))

-- what bytes say: a number below the limit of their count, with one sign or the other
pub record Bounded (v : List ℕ) (n : ℕ) : Type 0 where
  pub below : n < limit 128 (length v - 1)

said-plus : (v : List ℕ) → Bytes v → 1 ≤ length v → top v < 128 → Bounded v (little v)
said-plus v h g t = record { below = top-limit v h g t }

said-minus : (v : List ℕ) → Bytes v → 1 ≤ length v → 128 ≤ top v → Bounded v (little (flip v))
said-minus v h g t =
    let r = top-limit (flip v) (flip-bytes v) (omega (arith, flip-long v)) (omega (arith, flip_top v g, bytes-at v (length v - 1) h)) in
    record { below = rw (flip-long v) at r }

said-held : (v : List ℕ) (n : ℕ) → length v ≤ integer_most → Bounded v n → n < 2 ^ 63
unfolding limit
said-held v n l r = omega (arith, r.below, limit_up 128 (length v - 1) 7 (omega arith) (omega arith))

abbrev BoundedBy : List ℕ → Integer → Type 0
BoundedBy v (Plus n) = Bounded v n
BoundedBy v (Minus n) = Bounded v n

bounded_by : (v : List ℕ) → Bytes v → 1 ≤ length v → BoundedBy v (integer_of v)
unfolding integer_of
bounded_by v h g = go (ltb (top v) 128) refl
  where
    go : (t : Bool) → ltb (top v) 128 ≡ t → BoundedBy v (choose t (λ _. Plus (little v)) (λ _. Minus (little (flip v))))
    go true e = said-plus v h g (ltb-true _ _ e)
    go false e = said-minus v h g (ltb-false _ _ e)

-- bytes and their complement add up to as many bytes of ones
flip-sum : (v : List ℕ) → Bytes v → little v + little (flip v) + 1 ≡ 256 ^ length v
unfolding little flip
flip-sum [] h = refl
flip-sum (x ∷ v) h =
    let r = flip-sum v h.1 in
    let p : 256 ^ length (x ∷ v) ≡ 256 * 256 ^ length v = pow-succ' 256 (length v) in
    omega (arith, h.0)

half_limit : (k : ℕ) → 2 * limit 128 k ≡ 256 ^ suc k
unfolding limit
half_limit zero = refl
half_limit (suc k) = let r = half_limit k in omega (arith, r)

below_half : (v : List ℕ) (n : ℕ) → 1 ≤ length v → Bounded v n → 2 * n < 256 ^ length v
below_half [] n g r = absurd (omega arith)
below_half (x ∷ v) n g r =
    let e : length (x ∷ v) - 1 ≡ length v = omega arith in
    omega (arith, rw e at r.below, half_limit (length v))

pub twos_complement : (v : List ℕ) → Bytes v → 1 ≤ length v → Complement v (integer_of v)
unfolding integer_of
twos_complement v h g = go (ltb (top v) 128) refl
  where
    go : (t : Bool) → ltb (top v) 128 ≡ t → Complement v (choose t (λ _. Plus (little v)) (λ _. Minus (little (flip v))))
    go true e = (refl, below_half v (little v) g (said-plus v h g (ltb-true _ _ e)))
    go false e = (flip-sum v h, below_half v (little (flip v)) g (said-minus v h g (ltb-false _ _ e)))

pub says-held : (v : List ℕ) → Bytes v → 1 ≤ length v → length v ≤ integer_most → Held (integer_of v)
says-held v h g l = go (integer_of v) (bounded_by v h g)
  where
    go : (i : Integer) → BoundedBy v i → Held i
    go (Plus n) r = said-held v n l r
    go (Minus n) r = said-held v n l r
