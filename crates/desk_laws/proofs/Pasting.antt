-- A part of a list into which another list was pasted: before the paste, behind it, and up to its end.
-- Assumes nothing.
use mathlib.Core.Path.{◌≡◌, sym, ap, ◌∙◌}
use mathlib.Core.List.{List, [], ◌∷◌, ◌++◌}
use Prim.Native.Nat.{ℕ, zero, suc, ◌+◌, ◌-◌, ◌≤◌}
use native.Mathlib.Nat.{zero-add, suc-add}
use native.Mathlib.Omega.{arith}
use lib.ListN.{length, take, drop, length-append}
use lib.Seq.{paste, drop-paste, take-paste, drop-append-le, take-append-le, take-take, drop-drop, length-take-le, take-nil}

take-drop : (b k : ℕ) (l : List ℕ) → take k (drop b l) ≡ drop b (take (b + k) l)
take-drop zero k l = rw zero-add
take-drop (suc b) k [] = take-nil k ∙ sym (ap (drop (suc b)) (take-nil (suc b + k)))
take-drop (suc b) k (x ∷ xs) = rw suc-add (take-drop b k xs)

module _ (d : List ℕ) (at : ℕ) (s : List ℕ) (n : ℕ) (fits : at + n ≤ length d) (whole : n ≤ length s) where
  -- a part that ends before the paste
  pub part-before : (b k : ℕ) → b + k ≤ at → take k (drop b (paste d at s n)) ≡ take k (drop b d)
  part-before b k h =
      let la = length-take-le at d (omega arith) in
      let lb = length-append (take at d) (take n s) in
      take-drop b k (paste d at s n)
      ∙ ap (drop b)
      (take-append-le (b + k) (take at d ++ take n s) (drop (at + n) d) (omega arith)
      ∙ take-append-le (b + k) (take at d) (take n s) (omega arith)
      ∙ take-take (b + k) at d h)
      ∙ sym (take-drop b k d)

  -- a part that begins behind it
  pub part_behind : (b k : ℕ) → at + n ≤ b → take k (drop b (paste d at s n)) ≡ take k (drop b d)
  part_behind b k h =
      let e : at + n + (b - (at + n)) ≡ b = omega arith in
      let f : (l : List ℕ) → drop b l ≡ drop (b - (at + n)) (drop (at + n) l) = λ l. sym (drop-drop (b - (at + n)) (at + n) l ∙ ap (λ (m : ℕ). drop m l) e) in
      ap (take k) (f (paste d at s n) ∙ ap (drop (b - (at + n))) (drop-paste d at s n (omega arith) whole) ∙ sym (f d))

  -- the part that ends with it
  pub part_with : (b k : ℕ) → b + k ≡ at → take (k + n) (drop b (paste d at s n)) ≡ take k (drop b d) ++ take n s
  part_with b k h =
      let la = length-take-le at d (omega arith) in
      let e : b + (k + n) ≡ at + n = omega arith in
      take-drop b (k + n) (paste d at s n)
      ∙ ap (λ (m : ℕ). drop b (take m (paste d at s n))) e
      ∙ ap (drop b) (take-paste d at s n (omega arith) whole)
      ∙ drop-append-le b (take at d) (take n s) (omega arith)
      ∙ ap (λ (l : List ℕ). l ++ take n s) (ap (λ (m : ℕ). drop b (take m d)) (sym h) ∙ sym (take-drop b k d))
