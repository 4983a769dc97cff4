-- Places in a list: what lies at a place, a part of a list, and the bytes of a part.
-- Assumes nothing.
--   first        the element at p is the first of what is dropped to
--   slice-take   the n elements from p on
--   slice_is     what a list that lies at p is
--   slice-lies   a slice lies at its place
--   blank        an array of one value
--   bytes-..     parts and joins of bytes are bytes, and so is a slice that the code is lent
use mathlib.Core.Path.{◌≡◌, refl, sym, ap, ◌∙◌}
use mathlib.Core.List.{List, [], ◌∷◌, ◌++◌}
use mathlib.Core.Bool.{Bool, true, false}
use Prim.Native.Nat.{ℕ, zero, suc, ◌+◌, ◌<◌}
use native.Mathlib.Omega.{arith}
use native.Mathlib.Nat.{add-zero, zero-add, suc-add}
use lib.ListN.{length, get_or, take, drop, replicate, take-append-drop, length-replicate, get_or-replicate, get_or-eq_default}
use lib.Dec.{leb}
use borrow.Author.Tests.{leb-true, leb-false}
use lib.Seq.{slice, get_or-drop, take-append_seam, drop-drop, take-nil}
use mir.Syntax.{w8}
use mir.Val.{Fits}
use Rattle.numbers.specs.Bytes.{Bytes, byte}

pub first : (s r : List ℕ) (x p : ℕ) → drop p s ≡ x ∷ r → byte s p ≡ x
first s r x p e = ap (λ (k : ℕ). get_or s k 0) (sym (add-zero p)) ∙ sym (get_or-drop p s 0 0) ∙ ap (λ (l : List ℕ). get_or l 0 0) e

pub slice-take : (s : List ℕ) (p n : ℕ) → slice p (p + n) s ≡ take n (drop p s)
slice-take s zero n = ap (λ (k : ℕ). take k s) (zero-add n)
slice-take [] (suc p) n = ap (drop (suc p)) (take-nil (suc p + n)) ∙ sym (take-nil n)
slice-take (x ∷ s) (suc p) n = ap (λ (k : ℕ). drop (suc p) (take k (x ∷ s))) (suc-add p n) ∙ slice-take s p n

pub slice_is : (s b r : List ℕ) (p : ℕ) → drop p s ≡ b ++ r → slice p (p + length b) s ≡ b
slice_is s b r p e = slice-take s p (length b) ∙ ap (take (length b)) e ∙ take-append_seam b r

pub slice-lies : (s : List ℕ) (p n : ℕ) → drop p s ≡ slice p (p + n) s ++ drop (p + n) s
slice-lies s p n = sym (take-append-drop n (drop p s)) ∙ ap (λ (l : List ℕ). l ++ drop n (drop p s)) (sym (slice-take s p n)) ∙ ap (λ (l : List ℕ). slice p (p + n) s ++ l) (drop-drop n p s)

pub bytes_drop : (s : List ℕ) (n : ℕ) → Bytes s → Bytes (drop n s)
bytes_drop s zero h = h
bytes_drop [] (suc n) h = tt
bytes_drop (x ∷ s) (suc n) h = bytes_drop s n h.1

pub bytes_take : (s : List ℕ) (n : ℕ) → Bytes s → Bytes (take n s)
bytes_take s zero h = tt
bytes_take [] (suc n) h = tt
bytes_take (x ∷ s) (suc n) h = (h.0, bytes_take s n h.1)

pub bytes-slice : (s : List ℕ) (p q : ℕ) → Bytes s → Bytes (slice p q s)
bytes-slice s p q h = bytes_drop (take q s) p (bytes_take s q h)

pub bytes_append : (a b : List ℕ) → Bytes a → Bytes b → Bytes (a ++ b)
bytes_append [] b h g = g
bytes_append (x ∷ a) b h g = (h.0, bytes_append a b h.1 g)

pub bytes-at : (s : List ℕ) (p : ℕ) → Bytes s → byte s p < 256
bytes-at [] p h = omega arith
bytes-at (x ∷ s) zero h = h.0
bytes-at (x ∷ s) (suc p) h = bytes-at s p h.1

-- an array of one value has it everywhere, past its end too
pub blank : (n j z : ℕ) → get_or (replicate n z) j z ≡ z
blank n j z = go (leb n j) refl
  where
    go : (t : Bool) → leb n j ≡ t → get_or (replicate n z) j z ≡ z
    go true e = get_or-eq_default (replicate n z) z (rw (← length-replicate n z) at (leb-true n j e))
    go false e = get_or-replicate n j z z (leb-false n j e)

-- what the code knows of every slice of bytes
pub bytes-known : (s : List ℕ) → ((p : ℕ) → Fits w8 (get_or s p 0)) → Bytes s
bytes-known [] h = tt
bytes-known (x ∷ s) h = (omega (arith, h 0), bytes-known s (λ p. h (suc p)))
