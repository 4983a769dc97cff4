-- What is written in a list: one byte, one text after the other, a text at the front.
-- Assumes nothing.
--   none, one, copied, joined     nothing, one byte, bytes copied, two texts
--   as_long, front        the output's length, and the output after a text at its front
use mathlib.Core.Path.{◌≡◌, refl, sym, ap, ◌∙◌}
use mathlib.Core.List.{List, [], ◌∷◌, ◌++◌, append_assoc}
use Prim.Native.Nat.{ℕ, suc, ◌+◌, ◌-◌, ◌≤◌}
use native.Mathlib.Omega.{arith}
use native.Mathlib.Nat.{add-zero, zero-add}
use lib.ListN.{length, set, take, drop, length-append}
use lib.Seq.{sets, length-sets, sets-eq, drop-drop}
use Rattle.numbers.specs.Met.{wrote, Wrote}

pub one : (d : List ℕ) (p x : ℕ) → Wrote d p (x ∷ []) (p + 1) (set d p x)
unfolding wrote
one d p x = record { place = refl; left = refl }

pub none : (d : List ℕ) (p : ℕ) → Wrote d p [] p d
unfolding wrote
none d p = record { place = omega arith; left = refl }

sets_append : (a b d : List ℕ) (p : ℕ) → sets (sets d p a) (p + length a) b ≡ sets d p (a ++ b)
sets_append [] b d p = ap (λ (k : ℕ). sets d k b) (add-zero p)
sets_append (x ∷ a) b d p =
    ap (λ (k : ℕ). sets (sets (set d p x) (suc p) a) k b) (omega arith)
    ∙ sets_append a b (set d p x) (suc p)

pub joined : {d d' d'' : List ℕ} {p r r' : ℕ} {a b : List ℕ} → Wrote d p a r d' → Wrote d' r b r' d'' → Wrote d p (a ++ b) r' d''
unfolding wrote
joined {d} {d'} {d''} {p} {r} {r'} {a} {b} v w =
    record {
      place = omega (arith, v.place, w.place, length-append a b);
      left = w.left ∙ rw (v.left, v.place) (sets_append a b d p);
    }

pub as_long : {d d' : List ℕ} {p r : ℕ} {t : List ℕ} → Wrote d p t r d' → length d' ≡ length d
unfolding wrote
as_long {d} {d'} {p} {r} {t} w = ap length w.left ∙ length-sets d p t

pub front : {d d' : List ℕ} {r : ℕ} {t : List ℕ} → length t ≤ length d → Wrote d 0 t r d' → d' ≡ t ++ drop (length t) d
unfolding wrote
front {d} {d'} {r} {t} h w = w.left ∙ sets-eq t d 0 (omega arith) ∙ ap (λ (k : ℕ). t ++ drop k d) (zero-add (length t))

-- a part of the output that became t
pub copied : (d : List ℕ) (p : ℕ) (t : List ℕ) → p + length t ≤ length d → (u : List ℕ) → u ≡ t → Wrote d p t (p + length t) (take p d ++ (u ++ drop (p + length t - p) (drop p d)))
unfolding wrote
copied d p t h u e =
    let k : p + (p + length t - p) ≡ p + length t = omega arith in
    record { place = refl; left = rw (e, drop-drop (p + length t - p) p d, k) (sym (sets-eq t d p h ∙ append_assoc (take p d) t (drop (p + length t) d))) }
