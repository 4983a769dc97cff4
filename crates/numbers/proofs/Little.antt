-- The bytes of a number, least first: how many there are, what they say, that none fewer say it, and which these are. `fewest` and `clear` are both `until`, with another bound.
-- Assumes nothing.
--   until b k n     bytes of n up to where what is left is below b; at most k
--   Ends b v        v ends where `until b` does
--   until-ends, ends-only   those of `until b` do, and no other bytes that do say the same number
--   limit b k       the least number that needs more than k + 1 bytes of `until b`
--   lowest k n      the k lowest bytes of n
use mathlib.Core.Path.{◌≡◌, refl, sym, ap, ◌∙◌}
use mathlib.Core.List.{List, [], ◌∷◌}
use mathlib.Core.Bool.{Bool, true, false}
use Prim.Native.Nat.{ℕ, zero, suc, ◌+◌, ◌-◌, ◌*◌, ◌/◌, ◌%◌, ◌^◌, ◌<◌, ◌≤◌, suc-le-suc}
use native.Mathlib.Omega.{arith}
use lib.ListN.{length}
use lib.Dec.{ltb}
use borrow.Author.Tests.{ltb-true, ltb-false, lt-ltb, le-ltb}
use Rattle.paper.specs.Checks.{choose}
use Rattle.numbers.specs.Bytes.{Bytes, byte, little, lowest, top, second}
use Rattle.numbers.specs.Number.{fewest}
use Rattle.numbers.specs.Integer.{clear, flip}

unfoldable pub until : ℕ → ℕ → ℕ → List ℕ
until b zero n = []
until b (suc k) n = n % 256 ∷ choose (ltb n b) (λ _. []) (λ _. until b k (n / 256))

unfoldable pub limit : ℕ → ℕ → ℕ
limit b zero = b
limit b (suc k) = 256 * limit b k

pub fewest-until : (k n : ℕ) → fewest k n ≡ until 256 k n
unfolding fewest until
fewest-until zero n = refl
fewest-until (suc k) n = ap (λ (l : List ℕ). n % 256 ∷ choose (ltb n 256) (λ _. []) (λ _. l)) (fewest-until k (n / 256))

pub clear-until : (k n : ℕ) → clear k n ≡ until 128 k n
unfolding clear until
clear-until zero n = refl
clear-until (suc k) n = ap (λ (l : List ℕ). n % 256 ∷ choose (ltb n 128) (λ _. []) (λ _. l)) (clear-until k (n / 256))

pub until-last : (b k n : ℕ) → n < b → until b (suc k) n ≡ n % 256 ∷ []
unfolding until
until-last b k n h = rw (lt-ltb n b h)

pub until-next : (b k n : ℕ) → b ≤ n → until b (suc k) n ≡ n % 256 ∷ until b k (n / 256)
unfolding until
until-next b k n h = rw (le-ltb n b h)

-- what a law of `until` has to show: where it stops, and where it goes on
by_cases : (P : List ℕ → Type 0) (b k n : ℕ) → (n < b → P (n % 256 ∷ [])) → (b ≤ n → P (n % 256 ∷ until b k (n / 256))) → P (until b (suc k) n)
unfolding until
by_cases P b k n f g = go (ltb n b) refl
  where
    go : (t : Bool) → ltb n b ≡ t → P (n % 256 ∷ choose t (λ _. []) (λ _. until b k (n / 256)))
    go true e = f (ltb-true n b e)
    go false e = g (ltb-false n b e)

pub until-bytes : (b k n : ℕ) → Bytes (until b k n)
unfolding until
until-bytes b zero n = tt
until-bytes b (suc k) n = by_cases Bytes b k n (λ h. (omega arith, tt)) (λ h. (omega arith, until-bytes b k (n / 256)))

pub until-few : (b k n : ℕ) → length (until b k n) ≤ k
unfolding until
until-few b zero n = omega arith
until-few b (suc k) n = by_cases (λ v. length v ≤ suc k) b k n (λ h. omega arith) (λ h. suc-le-suc (until-few b k (n / 256)))

pub until-some : (b k n : ℕ) → 1 ≤ length (until b (suc k) n)
unfolding until
until-some b k n = omega arith

-- they say the number
pub until-says : (b k n : ℕ) → b ≤ 256 → n < limit b k → little (until b (suc k) n) ≡ n
unfolding limit little
until-says b zero n h g = by_cases (λ v. little v ≡ n) b zero n (λ l. omega arith) (λ l. absurd (omega arith))
until-says b (suc k) n h g =
    by_cases (λ v. little v ≡ n) b (suc k) n (λ l. omega arith)
    (λ l. let r = until-says b k (n / 256) h (omega arith) in omega arith)

-- the highest byte
top_cons : (x : ℕ) (v : List ℕ) → 1 ≤ length v → top (x ∷ v) ≡ top v
top_cons x [] h = absurd (omega arith)
top_cons x (y ∷ v) h =
    let e : length (x ∷ y ∷ v) - 1 ≡ suc (length v) = omega arith in
    let f : length v ≡ length (y ∷ v) - 1 = omega arith in
    ap (byte (x ∷ y ∷ v)) e ∙ ap (byte (y ∷ v)) f

-- v ends where `until b` does: its top byte is below b, and the number of the top two is not
pub record Ends (b : ℕ) (v : List ℕ) : Type 0 where
  pub some : 1 ≤ length v
  pub below : top v < b
  pub full : 2 ≤ length v → b ≤ second v + 256 * top v

second_cons : (x : ℕ) (v : List ℕ) → 2 ≤ length v → second (x ∷ v) ≡ second v
second_cons x [] h = absurd (omega arith)
second_cons x (y ∷ v) h =
    let e : length (x ∷ y ∷ v) - 2 ≡ suc (length v - 1) = omega arith in
    let f : length v - 1 ≡ length (y ∷ v) - 2 = omega arith in
    ap (byte (x ∷ y ∷ v)) e ∙ ap (byte (y ∷ v)) f

-- of two bytes
two : (x y : ℕ) → second (x ∷ y ∷ []) + 256 * top (x ∷ y ∷ []) ≡ little (x ∷ y ∷ [])
unfolding little
two x y = let e : second (x ∷ y ∷ []) ≡ x = refl in let f : top (x ∷ y ∷ []) ≡ y = refl in omega arith

ends-one : (b x : ℕ) → x < b → Ends b (x ∷ [])
ends-one b x h = record { some = omega arith; below = h; full = λ l. absurd (omega arith) }

ends_cons : (b x : ℕ) (v : List ℕ) → Ends b v → b ≤ x + 256 * little v → Ends b (x ∷ v)
unfolding little
ends_cons b x [] e h = let l = e.some in absurd (omega arith)
ends_cons b x (y ∷ []) e h = record { some = omega arith; below = e.below; full = λ l. omega (arith, h, two x y) }
ends_cons b x (y ∷ z ∷ v) e h =
    let t = top_cons x (y ∷ z ∷ v) (omega arith) in
    let u = second_cons x (y ∷ z ∷ v) (omega arith) in
    record { some = omega arith; below = omega (arith, e.below); full = λ l. omega (arith, e.full (omega arith)) }

pub until-ends : (b k n : ℕ) → b ≤ 256 → n < limit b k → Ends b (until b (suc k) n)
unfolding limit
until-ends b zero n h g = by_cases (Ends b) b zero n (λ l. ends-one b (n % 256) (omega arith)) (λ l. absurd (omega arith))
until-ends b (suc k) n h g =
    by_cases (Ends b) b (suc k) n (λ l. ends-one b (n % 256) (omega arith))
    (λ l. ends_cons b (n % 256) (until b (suc k) (n / 256)) (until-ends b k (n / 256) h (omega arith)) (omega (arith, until-says b k (n / 256) h (omega arith))))

ends-tail : (b x y : ℕ) (v : List ℕ) → Ends b (x ∷ y ∷ v) → Ends b (y ∷ v)
ends-tail b x y v e =
    record {
      some = omega arith;
      below = omega (arith, e.below, top_cons x (y ∷ v) (omega arith));
      full = λ l. omega (arith, e.full (omega arith), top_cons x (y ∷ v) (omega arith), second_cons x (y ∷ v) l);
    }

ends_large : (b x y : ℕ) (v : List ℕ) → Ends b (x ∷ y ∷ v) → b ≤ little (x ∷ y ∷ v)
unfolding little
ends_large b x y [] e = omega (arith, e.full (omega arith), two x y)
ends_large b x y (z ∷ v) e = let r = ends_large b y z v (ends-tail b x y (z ∷ v) e) in omega arith

pub ends-only : (b k : ℕ) (v : List ℕ) → b ≤ 256 → Bytes v → Ends b v → length v ≤ k → v ≡ until b k (little v)
unfolding little
ends-only b k [] g h e l = let z = e.some in absurd (omega arith)
ends-only b zero (x ∷ v) g h e l = absurd (omega arith)
ends-only b (suc k) (x ∷ []) g h e l =
    let i : (x + 256 * 0) % 256 ≡ x = omega (arith, h.0) in
    sym (until-last b k (x + 256 * 0) (omega (arith, e.below)) ∙ ap (λ (y : ℕ). y ∷ []) i)
ends-only b (suc k) (x ∷ y ∷ v) g h e l =
    let w = h.0 in
    let i : little (x ∷ y ∷ v) % 256 ≡ x = omega arith in
    let j : little (x ∷ y ∷ v) / 256 ≡ little (y ∷ v) = omega arith in
    let r = ends-only b k (y ∷ v) g h.1 (ends-tail b x y v e) (omega arith) in
    sym (until-next b k (little (x ∷ y ∷ v)) (ends_large b x y v e) ∙ rw (i, j, ← r))

-- a number below the limit has no more bytes than that
pub until-short : (b k j n : ℕ) → n < limit b j → length (until b k n) ≤ suc j
unfolding until limit
until-short b zero j n h = omega arith
until-short b (suc k) zero n h = by_cases (λ v. length v ≤ 1) b k n (λ l. omega arith) (λ l. absurd (omega arith))
until-short b (suc k) (suc j) n h = by_cases (λ v. length v ≤ suc (suc j)) b k n (λ l. omega arith) (λ l. suc-le-suc (until-short b k j (n / 256) (omega arith)))

-- bytes whose highest is below the bound say a number below the limit
pub little-below : (b : ℕ) (x : ℕ) (v : List ℕ) → Bytes (x ∷ v) → byte (x ∷ v) (length v) < b → little (x ∷ v) < limit b (length v)
unfolding limit little
little-below b x [] h g = omega arith
little-below b x (y ∷ v) h g = let r = little-below b y v h.1 g in omega (arith, h.0)

pub limit_up : (b j k : ℕ) → j ≤ k → 1 ≤ b → limit b j ≤ limit b k
unfolding limit
limit_up b zero zero h g = omega arith
limit_up b zero (suc k) h g = let r = limit_up b zero k (omega arith) g in omega arith
limit_up b (suc j) zero h g = absurd (omega arith)
limit_up b (suc j) (suc k) h g = let r = limit_up b j k (omega arith) g in omega arith

-- one step more of what it is given does not change it
pub until-enough : (b k n : ℕ) → n < limit b k → until b (suc (suc k)) n ≡ until b (suc k) n
unfolding limit
until-enough b zero n h = until-last b (suc zero) n h ∙ sym (until-last b zero n h)
until-enough b (suc k) n h = go (ltb n b) refl (until-enough b k (n / 256) (omega arith))
  where
    go : (t : Bool) → ltb n b ≡ t → until b (suc (suc k)) (n / 256) ≡ until b (suc k) (n / 256) → until b (suc (suc (suc k))) n ≡ until b (suc (suc k)) n
    go true e r = until-last b (suc (suc k)) n (ltb-true n b e) ∙ sym (until-last b (suc k) n (ltb-true n b e))
    go false e r =
        until-next b (suc (suc k)) n (ltb-false n b e) ∙ ap (λ (l : List ℕ). n % 256 ∷ l) r
        ∙ sym (until-next b (suc k) n (ltb-false n b e))

pub until-more : (b k n : ℕ) → 1 ≤ b → b ≤ n → n < limit b k → until b (suc k) n ≡ n % 256 ∷ until b (suc k) (n / 256)
unfolding limit
until-more b zero n g h l = absurd (omega arith)
until-more b (suc k) n g h l = until-next b (suc k) n h ∙ ap (λ (v : List ℕ). n % 256 ∷ v) (sym (until-enough b k (n / 256) (omega arith)))

-- they are the lowest bytes
pub until-lowest : (b k n : ℕ) → until b k n ≡ lowest (length (until b k n)) n
unfolding until lowest
until-lowest b zero n = refl
until-lowest b (suc k) n = by_cases (λ v. v ≡ lowest (length v) n) b k n (λ h. refl) (λ h. ap (λ (v : List ℕ). n % 256 ∷ v) (until-lowest b k (n / 256)))

-- complementing each byte complements the number, in as many bytes as hold it or fewer
pub flip-lowest : (j k n m : ℕ) → j ≤ k → n + m + 1 ≡ 256 ^ k → flip (lowest j n) ≡ lowest j m
unfolding flip lowest
flip-lowest zero k n m l h = refl
flip-lowest (suc j) zero n m l h = absurd (omega arith)
flip-lowest (suc j) (suc k) n m l h =
    let e : 255 - n % 256 ≡ m % 256 = omega (arith, h) in
    let r = flip-lowest j k (n / 256) (m / 256) (omega arith) (omega (arith, h)) in
    rw (e, r)

-- bytes of a fixed number and what they say undo each other
pub little-lowest : (k n : ℕ) → n < 256 ^ k → little (lowest k n) ≡ n
unfolding little lowest
little-lowest zero n h = omega arith
little-lowest (suc k) n h = let e = little-lowest k (n / 256) (omega arith) in omega arith

pub lowest-little : (k : ℕ) (v : List ℕ) → length v ≡ k → Bytes v → lowest k (little v) ≡ v
unfolding little lowest
lowest-little zero [] l h = refl
lowest-little zero (x ∷ v) l h = absurd (omega arith)
lowest-little (suc k) [] l h = absurd (omega arith)
lowest-little (suc k) (x ∷ v) l h =
    let b = h.0 in
    let e : (x + 256 * little v) % 256 ≡ x = omega arith in
    let f : (x + 256 * little v) / 256 ≡ little v = omega arith in
    rw (e, f, lowest-little k v (omega arith) h.1)
