-- The library's `all` in the words of specs/Tests: `(0..n).all(..)`, and `d[a..a + n].iter().all(..)`, where what is asked of each is the test P.
-- Assumes nothing.
use Prim.Native.Nat.{ℕ, zero, suc, ◌+◌, ◌-◌, ◌≤◌, ◌<◌}
use mathlib.Core.Path.{◌≡◌, refl, sym, ap, ◌∙◌}
use mathlib.Core.List.{List}
use mathlib.Core.Bool.{Bool}
use native.Mathlib.Omega.{arith}
use native.Mathlib.Numerals.{add-one}
use native.Mathlib.Nat.{zero-add}
use lib.ListN.{length, length-drop, get_or, take, drop}
use lib.Seq.{take_all, get_or-drop}
use denote.Param.Members.{Mut}
use denote.Ref.{Bor}
use Rattle.std.specs.declared.ops.Range.{Range}
use Rattle.std.specs.declared.slice.Iter.{Iter}
use Rattle.std.specs.Fn.{Called}
use Rattle.std.specs.Iterator.{ChecksAll}
use Rattle.std.specs.Slice.Iter.{iter_rest}
use Rattle.std.specs.List.{list_all, range_with_len}
use Rattle.std.proofs.iter.Yields.{fronts, nat_range_steps}
use Rattle.std.proofs.lemmas.List.FromFn.{length-range_with_len, get_or-range_with_len}
use Rattle.std.proofs.lemmas.List.Folds.{list_all_more}
use Rattle.std.proofs.lemmas.Iterator.{YieldsList-from_range, YieldsList-from_slice}
use Rattle.std.proofs.lemmas.Iterator.Search.{all_from_yields_List}
use Rattle.paper.specs.Tests.{all}

all_list : (P Q : ℕ → Bool) (l : List ℕ) → ((k : ℕ) → k < length l → P (get_or l k 0) ≡ Q k) → (n : ℕ) → n ≤ length l → list_all P (take n l) ≡ all n Q
unfolding all
all_list P Q l f zero h = refl
all_list P Q l f (suc n) h =
    rw (← add-one)
    (list_all_more P l n 0 (omega arith) ∙ rw (all_list P Q l f n (omega arith), f n (omega arith)))

range-list : (P : ℕ → Bool) (n : ℕ) → list_all P (range_with_len 0 n) ≡ all n P
range-list P n =
    let l = range_with_len 0 n in
    let long = length-range_with_len 0 n in
    ap (λ m. list_all P m) (sym (take_all n l (omega (arith, long))))
    ∙ all_list P P l (λ k h. ap P (get_or-range_with_len 0 n k 0 (omega (arith, long)) ∙ zero-add k)) n (omega (arith, long))

part-list : (P Q : ℕ → Bool) (d : List ℕ) (a n : ℕ) → ((k : ℕ) → P (get_or d (a + k) 0) ≡ Q k) → a + n ≤ length d → list_all P (take (a + n - a) (drop a d)) ≡ all n Q
part-list P Q d a n f h =
    let e : a + n - a ≡ n = omega arith in
    rw e (all_list P Q (drop a d) (λ k _. ap P (get_or-drop a d k 0) ∙ f k) n (omega (arith, length-drop a d)))

-- what `all` ran, and what each call of the closure answered
module _ {F : Type 0} {f : F} {r : Bool} (P : ℕ → Bool) where
  pub all_below : {g : Mut F (ℕ × Unit {0}) Bool} {s u : Range ℕ} (n : ℕ) → s ≡ record { start = 0; end = n } → ChecksAll nat_range_steps g s f r u → ((x : ℕ) (b : Bool) (q : F) → Called g f (x, tt) b q → (q ≡ f) × (b ≡ P x)) → r ≡ all n P
  all_below n e h calls = all_from_yields_List P _ _ _ h (YieldsList-from_range 0 n n e (omega arith)) calls ∙ range-list P n

  pub all_of_part : {g : Mut F (Bor ℕ × Unit {0}) Bool} {s u : Iter ℕ} (Q : ℕ → Bool) (d : List ℕ) (a n : ℕ) → ((k : ℕ) → P (get_or d (a + k) 0) ≡ Q k) → a + n ≤ length d → iter_rest s ≡ take (a + n - a) (drop a d) → ChecksAll fronts g s f r u → ((x : Bor ℕ) (b : Bool) (q : F) → Called g f (x, tt) b q → (q ≡ f) × (b ≡ P x.now)) → r ≡ all n Q
  all_of_part Q d a n same inside e h calls = all_from_yields_List P _ _ _ h (YieldsList-from_slice _ e) calls ∙ part-list P Q d a n same inside
