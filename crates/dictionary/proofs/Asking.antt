-- The functions that ask an accepted dictionary for a name or a child, one lemma for each return.
-- Assumes nothing.
use Prim.Native.Nat.{ℕ, ◌+◌, ◌-◌, ◌≤◌, ◌<◌}
use mathlib.Core.Path.{◌≡◌, refl, sym, ap, ◌∙◌}
use mathlib.Core.List.{List, [], ◌∷◌}
use mathlib.Core.Bool.{true, false}
use native.Mathlib.Omega.{arith}
use lib.ListN.{length, take, drop, get_or}
use lib.Seq.{ext_get_or}
use borrow.Author.Count.{below_more}
use Rattle.paper.specs.Tests.{same}
use Rattle.paper.proofs.Tests.{same_eq, same_ne}
use Rattle.numbers.proofs.Places.{slice-take}
use Rattle.std.specs.Prelude.{Some, None}
use Rattle.dictionary.specs.Rows.{row_bytes, row_at, entries, first_child, child_count, name_length, name_offset, name}
use Rattle.dictionary.specs.Accepts.{accepts}
use Rattle.dictionary.specs.Children.{seek, has_name, child_numbered, child_named}
use Rattle.dictionary.specs.Given.{Row, parent, Family}
use Rattle.dictionary.specs.Met.{Field, NameMet}
use Rattle.dictionary.proofs.Seeking.{seek-none, seek-here, seek-next}
use Rattle.dictionary.proofs.Laws.{accepted_header, accepted-name, accepted_family, number-known, number_unknown}

empty : (l : List ℕ) → length l ≡ 0 → l ≡ []
empty [] e = refl
empty (x ∷ l) e = absurd (omega (arith, e))

-- a row, and its name
module _ (d : List ℕ) (ok : accepts d ≡ true) (r : ℕ) (h : r < entries d) where
  pub row_inside : row_at r + row_bytes ≤ length d
  row_inside = let x = accepted_header d ok in omega (arith, x.inside)

  module _ (k : ℕ) (hk : Field (name_length d r) 256 k) where
    pub nameless : k ≡ 0 → [] ≡ name d r
    unfolding name
    nameless e =
        let w = accepted-name d ok r h in
        let z : length (name d r) ≡ 0 = w.long ∙ omega (arith, hk.same) in
        sym (empty (name d r) z)

    module _ (o : ℕ) (ho : Field (name_offset d r) 65536 o) where
      pub end-inside : o + k - 1 ≤ length d
      end-inside = let w = accepted-name d ok r h in omega (arith, w.inside, hk.same, ho.same)

      pub part-name : (k ≡ 0 → ⊥) → take (o + k - 1 - o) (drop o d) ≡ name d r
      unfolding name
      part-name x =
          let e : o + (o + k - 1 - o) ≡ o + k - 1 = omega (arith, x) in
          sym (slice-take d o (o + k - 1 - o)) ∙ rw (e, ho.same, hk.same)

pub ruleset asking = (row_inside, nameless, end-inside, part-name)

-- how long a row's name is
module _ (d : List ℕ) (r : ℕ) (w : Row d r) where
  pub own_row : row_at r + row_bytes ≤ length d
  own_row = row_inside d w.accepted r w.inside

  module _ (k : ℕ) (hk : Field (name_length d r) 256 k) where
    pub one_less : (n : ℕ) → n ≡ k - 1 → NameMet d r n
    one_less n e = let x = accepted-name d w.accepted r w.inside in record { same = omega (arith, x.long, hk.same); few = omega (arith, hk.below) }

pub ruleset measuring = (own_row, one_less)

-- a child by its number
module _ (d : List ℕ) (ok : accepts d ≡ true) (r n : ℕ) (h : (r < entries d) × (parent d r ≡ true)) (k : ℕ) (hk : Field (child_count d r) 65536 k) where
  family : Family d r
  family = accepted_family d ok r h.0 h.1

  pub numbered-here : n < k → (f : ℕ) → Field (first_child d r) 65536 f → Some (f + n) ≡ child_numbered d r n
  numbered-here l f hf = sym (number-known d r n family (rw hk.same at l) ∙ ap Some (omega (arith, hf.same)))

  pub numbered-past : k ≤ n → None ≡ child_numbered d r n
  numbered-past l = sym (number_unknown d r n family (rw hk.same at l))

pub ruleset numbering = (row_inside, numbered-here, numbered-past)

-- a child by its name: what is left to seek, from row c up to the end, is the whole
pub record Looking (d : List ℕ) (r : ℕ) (t : List ℕ) (end c : ℕ) : Type 0 where
  pub rows : end ≤ entries d
  pub whole : child_named d r t ≡ seek (end - c) c (has_name d t)

-- the same within one turn, while row c's own name, as long as the text, is compared with it: alike before byte i
pub record Comparing (d : List ℕ) (r : ℕ) (t : List ℕ) (end turn : ℕ) (own : List ℕ) (c i : ℕ) : Type 0 where
  pub looking : Looking d r t end c
  pub still : c ≡ turn
  pub here : c < end
  pub named : own ≡ name d c
  pub long : length own ≡ length t
  pub alike : (k : ℕ) → k < i → get_or own k 0 ≡ get_or t k 0

module _ (d : List ℕ) (r : ℕ) (t : List ℕ) where
  pub look_start : accepts d ≡ true → (r < entries d) × (parent d r ≡ true) → (f k : ℕ) → Field (first_child d r) 65536 f → Field (child_count d r) 65536 k → Looking d r t (f + k) f
  unfolding child_named
  look_start ok h f k hf hk =
      let w = accepted_family d ok r h.0 h.1 in
      let e : f + k - f ≡ k = omega arith in
      record { rows = omega (arith, w.within, hf.same, hk.same); whole = rw (e, hf.same, hk.same) }

  module _ (end c : ℕ) (s : Looking d r t end c) where
    pub look_none : end ≤ c → None ≡ child_named d r t
    look_none h = sym (s.whole ∙ seek-none (has_name d t) (end - c) c (omega arith))

    module _ (h : c < end) where
      pub look_inside : c < entries d
      look_inside = omega (arith, s.rows)

      look_next : same (name d c) t ≡ false → Looking d r t end (c + 1)
      look_next e =
          let x : end - c - 1 ≡ end - (c + 1) = omega arith in
          record { rows = s.rows; whole = s.whole ∙ rw x at (seek-next (has_name d t) (end - c) c (omega arith) e) }

      pub look_other : (length (name d c) ≡ length t → ⊥) → Looking d r t end (c + 1)
      look_other x = look_next (same_ne (name d c) t λ e. x (ap length e))

      pub compare_start : (own : List ℕ) → own ≡ name d c → length own ≡ length t → Comparing d r t end c own c 0
      compare_start own e l =
          record { looking = s; still = refl; here = h; named = e; long = l; alike = λ k g. absurd (omega arith) }

  module _ (end turn : ℕ) (own : List ℕ) (c i : ℕ) (s : Comparing d r t end turn own c i) where
    pub compare_inside : i < length t → i < length own
    compare_inside h = omega (arith, s.long)

    pub compare_more : get_or own i 0 ≡ get_or t i 0 → Comparing d r t end turn own c (i + 1)
    compare_more e =
        record { looking = s.looking; still = s.still; here = s.here; named = s.named; long = s.long; alike = below_more _ _ s.alike e }

    pub compare_other : (get_or own i 0 ≡ get_or t i 0 → ⊥) → Looking d r t end (c + 1)
    compare_other x =
        look_next end c s.looking s.here (same_ne (name d c) t λ e. x (ap (λ (l : List ℕ). get_or l i 0) (s.named ∙ e)))

    pub compare_fewer : end - (c + 1) < end - turn
    compare_fewer = omega (arith, s.here, s.still)

    pub compare_done : length t ≤ i → Some c ≡ child_named d r t
    compare_done h =
        let e : own ≡ t = ext_get_or 0 own t s.long λ k g. s.alike k (omega (arith, s.long)) in
        let x : same (name d c) t ≡ true = same_eq (name d c) t (sym s.named ∙ e) in
        sym (s.looking.whole ∙ seek-here (has_name d t) (end - c) c (omega (arith, s.here)) x)

-- for a length that differs: the name that was read is as long as the row's
pub own-long : (own l t : List ℕ) → own ≡ l → length l ≡ length t → length own ≡ length t
own-long own l t e x = ap length e ∙ x

pub ruleset looking = (row_inside, look_start, look_none, look_inside, compare_start, compare_inside, compare_more, compare_other, compare_fewer, compare_done)
