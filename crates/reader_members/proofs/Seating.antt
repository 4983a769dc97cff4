-- A tuple's child and what stands before its value: what each return of `seat_at`, `comma_long` and `front_long` has to show.
-- Assumes nothing.
use Prim.Native.Nat.{ℕ, zero, suc, ◌+◌, ◌≤◌, ◌<◌}
use mathlib.Core.Path.{◌≡◌, sym, ap, ◌∙◌}
use mathlib.Core.List.{List, [], ◌∷◌, ◌++◌}
use mathlib.Core.Bool.{Bool, true, false}
use native.Mathlib.Omega.{arith}
use lib.ListN.{length, length-append}
use borrow.Author.Tests.{eqb-true, eqb-false, eq-eqb, ne_eqb}
use Rattle.std.specs.Prelude.{Option, Some, None}
use Rattle.paper.specs.Refusals.{not_known, given_twice}
use Rattle.dictionary.specs.Formats.{set_form}
use Rattle.dictionary.specs.Rows.{entries, kind, name}
use Rattle.dictionary.specs.Children.{child_numbered}
use Rattle.dictionary.specs.Given.{Row, Family, parent}
use Rattle.dictionary.specs.Met.{NameMet}
use Rattle.dictionary.proofs.Laws.{accepted_header, accepted_family, number-child}
use Rattle.payload.specs.Checked as checked
use Rattle.payload.specs.Fits.{GroupRow, found, row_of, known, child, is_set}
use Rattle.payload.specs.Text.{quote, quoted, colon, label, comma_at}
use Rattle.payload.proofs.Sitting.{holder, known-found, known-index, child-found, child-inside, fresh-among, fresh_array, label-set, label_array}
use Rattle.repeats.specs.Roll.{rows_most, marked, Gave}
use Rattle.repeats.proofs.Rolls.{keep-set, keep_array, bit-fresh}
use Rattle.reader_members.specs.Met.{SeatMet, FrontMet}

-- a child
module _ {d : List ℕ} {row : ℕ} (w : GroupRow d row) where
  pub group-row : Row d row
  group-row = record { accepted = w.accepted; inside = w.inside }

  pub group-parent : (row < entries d) × (parent d row ≡ true)
  group-parent = (w.inside, holder d row w.holds)

  family : Family d row
  family = accepted_family d w.accepted row w.inside (holder d row w.holds)

  few-rows : entries d ≤ rows_most
  few-rows = let h = accepted_header d w.accepted in omega (arith, h.inside, h.most)

  module _ (i n : ℕ) (bits : List ℕ) where
    module _ {t : Bool} (y : t ≡ is_set d row) (x : t ≡ false) where
      no_set : kind d row ≡ set_form → ⊥
      no_set = eqb-false (kind d row) set_form (sym y ∙ x)

      pub seat_out_of-turn : (n ≡ i → ⊥) → SeatMet d row i n bits (checked.Refused not_known) bits
      seat_out_of-turn h = record { inside = tt; told = λ seen kept. record { same = rw (known-index d row n no_set i, ne_eqb n i h); kept = tt } }

      pub seat_in_turn : n ≡ i → {c : ℕ} → c ≡ child d row n → SeatMet d row i n bits (checked.Good c) bits
      seat_in_turn h fc =
          let turn : known d row i n ≡ true = known-index d row n no_set i ∙ eq-eqb n i h in
          record {
            inside = rw fc (child-inside d w.accepted row w.inside i n w.holds turn);
            told = λ seen kept. record { same = rw (turn, fresh_array d row n no_set seen) (ap checked.Good fc); kept = keep_array d row seen bits n kept no_set };
          }

    module _ {t : Bool} (y : t ≡ is_set d row) (z : t ≡ true) where
      set : kind d row ≡ set_form
      set = eqb-true (kind d row) set_form (sym y ∙ z)

      pub seat_unknown : {r : Option ℕ} → r ≡ child_numbered d row n → r ≡ None → SeatMet d row i n bits (checked.Refused not_known) bits
      seat_unknown e x = record { inside = tt; told = λ seen kept. record { same = rw (known-found d row n set i, ap found (sym e ∙ x)); kept = tt } }

      module _ {r : Option ℕ} (e : r ≡ child_numbered d row n) {c : ℕ} (x : r ≡ Some c) where
        here : child_numbered d row n ≡ Some c
        here = sym e ∙ x

        among-rows : c < entries d
        among-rows = (number-child d row n family c here).0

        pub seat_row : c < rows_most
        seat_row = omega (arith, among-rows, few-rows)

        pub seat_twice : {u : Bool} → u ≡ marked bits c → u ≡ true → SeatMet d row i n bits (checked.Refused given_twice) bits
        seat_twice f g =
            record {
              inside = tt;
              told =
                  λ seen kept.
                  record {
                    same = rw (known-found d row n set i, ap found here, fresh-among d row n set seen, sym (bit-fresh d row seen bits n c kept set here) ∙ sym f ∙ g);
                    kept = tt;
                  };
            }

        pub seat_new : {u : Bool} → u ≡ marked bits c → u ≡ false → {bits' : List ℕ} → Gave bits c bits' → SeatMet d row i n bits (checked.Good c) bits'
        seat_new f g {bits'} v =
            record {
              inside = among-rows;
              told =
                  λ seen kept.
                  record {
                    same =
                        rw (known-found d row n set i, ap found here, fresh-among d row n set seen, sym (bit-fresh d row seen bits n c kept set here) ∙ sym f ∙ g, child-found d row n set)
                        (ap checked.Good (sym (ap row_of here)));
                    kept = keep-set d row seen bits bits' n c kept here v;
                  };
            }

pub ruleset seats = (group-row, group-parent, seat_out_of-turn, seat_in_turn, seat_unknown, seat_row, seat_twice, seat_new)

comma-short : (i : ℕ) → length (comma_at i) ≤ 1
comma-short zero = omega arith
comma-short (suc i) = omega arith

-- what stands before a member's value
module _ (d : List ℕ) (row i c q : ℕ) (m : q ≡ length (comma_at i)) where
  pub front_array : (t : Bool) → t ≡ is_set d row → t ≡ false → FrontMet d row i c q
  front_array t y x =
      record {
        same = λ n e. omega (arith, m, ap length (label_array d row n (eqb-false (kind d row) set_form (sym y ∙ x))));
        few = omega (arith, m, comma-short i);
      }

  module _ (h : ℕ) (v : NameMet d c h) where
    pub front-set : (t : Bool) → t ≡ is_set d row → t ≡ true → FrontMet d row i c (q + h + 3)
    front-set t x z =
        record {
          same =
              λ n e.
              let y : label d row n ≡ quoted (name d c) ++ (colon ∷ []) = label-set d row n (eqb-true (kind d row) set_form (sym x ∙ z)) ∙ ap (λ (j : ℕ). quoted (name d j) ++ (colon ∷ [])) e in
              omega (arith, m, ap length y, length-append (quoted (name d c)) (colon ∷ []), length-append (name d c) (quote ∷ []), v.same);
          few = omega (arith, m, comma-short i, v.few);
        }

pub ruleset fronts = (front_array, front-set)
