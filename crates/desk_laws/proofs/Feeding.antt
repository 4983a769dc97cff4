-- Feed looks at its number alone, in the desk and in the store: its piece goes behind that number's bytes, and no other number's bytes change.
-- Assumes nothing.
use Prim.Native.Nat.{ℕ, ◌+◌, ◌-◌, ◌*◌, ◌≤◌}
use mathlib.Core.Path.{◌≡◌, refl, sym, ap, ◌∙◌}
use mathlib.Core.Bool.{true, false, cond}
use mathlib.Core.List.{List, ◌++◌}
use native.Mathlib.Omega.{arith}
use lib.ListN.{length, get_or}
use lib.Seq.{paste, take-length, length-paste}
use lib.Dec.{eqb, ltb, leb}
use borrow.Author.Tests.{eqb-true, eqb-false, eq-eqb, ltb-true, ltb-false, leb-true}
use Rattle.paper.specs.Limits.{declared_most, store_bytes}
use Rattle.paper.specs.Refusals.{accepted}
use Rattle.paper.proofs.Tests.{and_right, split}
use Rattle.desk_records.specs.declared.Record.{Record}
use Rattle.desk.specs.declared.Desk.{Desk}
use Rattle.desk_records.specs.Record.{empty}
use Rattle.desk_records.specs.Moves.{feeding}
use Rattle.desk.specs.Desk.{place, record_of}
use Rattle.desk.specs.Calls.{called, fed, kept_from, fed_store}
use Rattle.desk_laws.specs.View.{GoodDesk, Seen, see, bytes_of}
use Rattle.desk.proofs.Places.{place-number, place_same, at-absent}
use Rattle.desk.proofs.Soundness.{blank, used-at, sound_records_lem}
use Rattle.desk.proofs.Settling.{full-fed, full-number}
use Rattle.desk_records.proofs.Moving.{feeding_safe, declared_most_lem, received_most}
use Rattle.desk_laws.proofs.Putting.{kept, seen, seen_eq, next_here}
use Rattle.desk_laws.proofs.ByNumber.{Goes, refused, goes, way, moved, call-others, next_of}
use Rattle.desk_laws.proofs.Pasting.{part-before, part_behind, part_with}

feeding-fits : (count : ℕ) (r : Record) → (feeding count).fits r ≡ true → count ≤ r.declared - r.received
unfolding feeding
feeding-fits count r e = leb-true _ _ (and_right (leb 1 count) (leb count (r.declared - r.received)) e)

feeding-number : (count : ℕ) (r : Record) → ((feeding count).next r).number ≡ r.number
unfolding feeding
feeding-number count r = refl

feeding_received : (count : ℕ) (r : Record) → ((feeding count).next r).received ≡ r.received + count
unfolding feeding
feeding_received count r = refl

module _ (d : Desk) (g : GoodDesk d) (st : List ℕ) (full : eqb (length st) store_bytes ≡ true) (n : ℕ) (piece : List ℕ) where
  store-stays : eqb (called d n (feeding (length piece))).number accepted ≡ false → fed_store d st n piece ≡ st
  unfolding fed_store called
  store-stays t = rw (full-number d st n piece full, t)

  store_goes : eqb (called d n (feeding (length piece))).number accepted ≡ true → fed_store d st n piece ≡ paste st (kept_from d n) piece (length piece)
  unfolding fed_store called
  store_goes t = rw (full-number d st n piece full, t)

  module _ (w : Goes d n (feeding (length piece))) where
    -- a piece that is taken ends within its place
    ends : kept_from d n + length piece ≤ declared_most * place n d.records + declared_most
    ends =
        let u = used-at d.records (sound_records_lem d g.right) n w.nonzero w.there in
        omega (arith, feeding-fits (length piece) (record_of n d) w.fits, declared_most_lem (record_of n d) u, received_most (record_of n d) u)

    inside : kept_from d n + length piece ≤ length st
    inside = omega (arith, ends, w.there, g.eight, eqb-true (length st) store_bytes full)

    -- a number's bytes do not change where another's piece is pasted
    apart : (k : ℕ) → (k ≡ n → ⊥) → bytes_of k d (paste st (kept_from d n) piece (length piece)) ≡ bytes_of k d st
    apart k ne =
        split (eqb k 0)
        (λ t. rw (eqb-true k 0 t) (rw (blank d.records (sound_records_lem d g.right))))
        (λ t. split (ltb (place k d.records) (length d.records))
        (λ q.
        let h = ltb-true (place k d.records) (length d.records) q in
        let u = used-at d.records (sound_records_lem d g.right) k (eqb-false k 0 t) h in
        let a = declared_most_lem (record_of k d) u in
        let b = received_most (record_of k d) u in
        let c = ends in
        split (ltb (place k d.records) (place n d.records))
        (λ x.
        let y = ltb-true (place k d.records) (place n d.records) x in
        part-before st (kept_from d n) piece (length piece) inside (omega arith) (declared_most * place k d.records) (record_of k d).received (omega arith))
        (λ x.
        let y = ltb-false (place k d.records) (place n d.records) x in
        let z : place k d.records ≡ place n d.records → ⊥ =
        λ e. ne (sym (place-number k d.records h) ∙ ap (λ (i : ℕ). (get_or d.records i empty).number) e ∙ place-number n d.records w.there) in
        part_behind st (kept_from d n) piece (length piece) inside (omega arith) (declared_most * place k d.records) (record_of k d).received (omega (arith, z))))
        (λ q. rw (at-absent k d.records (ltb-false _ _ q))))

    pub fed-bytes : bytes_of n (moved d n (feeding (length piece))) (paste st (kept_from d n) piece (length piece)) ≡ bytes_of n d st ++ piece
    fed-bytes =
        let r = (feeding (length piece)).next (record_of n d) in
        rw (
          next_here d g n w.nonzero w.there r (next_of n (feeding (length piece)) (feeding_safe (length piece)) d g w),
          feeding_received (length piece) (record_of n d),
          place_same n d.records (place n d.records) r (feeding-number (length piece) (record_of n d)),
        )
        (part_with st (kept_from d n) piece (length piece) inside (omega arith) (declared_most * place n d.records) (record_of n d).received refl
        ∙ ap (λ (l : List ℕ). bytes_of n d st ++ l) (take-length piece))

  pub feed-size : length (fed_store d st n piece) ≡ length st
  feed-size = elim (way d g n (feeding (length piece))) [
    | refused e t ↦ rw (store-stays t)
    | goes e t w ↦ rw (store_goes t) (length-paste st (kept_from d n) piece (length piece) (inside w) (omega arith))
  ]

  pub feed-others : (k : ℕ) → (k ≡ n → ⊥) → see k (kept (fed d st n piece).desk (fed_store d st n piece)) ≡ see k (kept d st)
  feed-others k ne =
      rw (full-fed d st n piece full)
      (call-others n (feeding (length piece)) (feeding_safe (length piece)) d g (fed_store d st n piece) k ne
      ∙ elim (way d g n (feeding (length piece))) [
        | refused e t ↦ rw (store-stays t)
        | goes e t w ↦ rw (store_goes t) (seen_eq refl (apart w k ne))
      ])

  pub feed-here : see n (kept (fed d st n piece).desk (fed_store d st n piece))
      ≡ cond (eqb (fed d st n piece).number accepted) (seen ((feeding (length piece)).next (record_of n d)) (bytes_of n d st ++ piece)) (see n (kept d st))
  feed-here =
      rw (full-fed d st n piece full)
      (elim (way d g n (feeding (length piece))) [
        | refused e t ↦ rw (e, store-stays t, t)
        | goes e t w ↦
            rw (e, store_goes t, t)
            (seen_eq (next_here d g n w.nonzero w.there ((feeding (length piece)).next (record_of n d)) (next_of n (feeding (length piece)) (feeding_safe (length piece)) d g w)) (fed-bytes w))
      ])

  -- an accepted piece stands behind what was received before
  pub feed_adds : (fed d st n piece).number ≡ accepted → bytes_of n (fed d st n piece).desk (fed_store d st n piece) ≡ bytes_of n d st ++ piece
  feed_adds a =
      ap (λ (v : Seen). v.bytes) (rw (eq-eqb _ _ a) at feed-here)
