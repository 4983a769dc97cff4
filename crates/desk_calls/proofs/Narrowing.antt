-- Every number of a desk stays within its field: bytes spell such records, and every call keeps them so.
-- Assumes nothing.
use Prim.Native.Nat.{ℕ, zero, suc, ◌+◌, ◌-◌, ◌^◌, ◌<◌}
use mathlib.Core.Path.{◌≡◌, ◌∙◌}
use mathlib.Core.Bool.{Bool, true, false, not, cond}
use mathlib.Core.List.{List, [], ◌∷◌}
use Rattle.std.specs.Prelude.{Some}
use native.Mathlib.Omega.{arith}
use lib.ListN.{length, get_or, set, length-set}
use lib.Dec.{eqb, leb}
use borrow.Author.Tests.{eqb-true, leb-true}
use Rattle.paper.specs.Limits.{desk_most, store_bytes}
use Rattle.paper.specs.Refusals.{not_sound, number_zero, no_such_number, not_allowed, amount_wrong}
use Rattle.paper.proofs.Tests.{and_left, and_right, split}
use Rattle.numbers.specs.Bytes.{Bytes}
use Rattle.desk_records.specs.declared.Record.{Record}
use Rattle.desk.specs.declared.Desk.{Desk}
use Rattle.desk_records.specs.declared.Finish.{Finish}
use Rattle.desk_records.specs.declared.Finish.TheVariants.{Failed, Good}
use Rattle.desk_records.specs.Record.{needs_input, triggered, running, have_results, completed, failed, abandoned, empty}
use Rattle.desk_records.specs.Moves.{Move, becomes, owing, opening, feeding, starting, finishing, taking, killing, closing}
use Rattle.desk.specs.Desk.{place, sound, has, record_of, put}
use Rattle.desk.specs.Calls.{call_number, called, open_number, opened, fed}
use Rattle.desk_laws.specs.State.{Asked, to_open, to_feed, to_start, to_finish, to_take, to_kill, to_close, to_tell, Call, makes, make}
use Rattle.desk_laws.specs.View.{Kept}
use Rattle.desk_bytes.specs.Bytes.{Narrow, AllNarrow, decode}
use Rattle.desk.proofs.Settling.{unless-passed, short-fed, full-fed}
use Rattle.desk_bytes.proofs.Codec.{decode-some, records_counted, records_narrow}
use Rattle.desk_calls.specs.Lending.{NarrowAsked, NarrowCall, Fine}

pub spelt-fine : (bs : List ℕ) (d : Desk) → Bytes bs → decode bs ≡ Some d → Fine d
spelt-fine bs d b h =
    let e = decode-some bs d h in
    rw (← e.1) (record { eight = records_counted desk_most bs; narrow = records_narrow desk_most bs b e.0 })

narrow-empty : Narrow empty
narrow-empty = (omega arith, (omega arith, (omega arith, (omega arith, (omega arith, (omega arith, tt))))))

narrow_at : (rs : List Record) (p : ℕ) → AllNarrow rs → Narrow (get_or rs p empty)
narrow_at [] p h = narrow-empty
narrow_at (r ∷ rs) zero h = h.0
narrow_at (r ∷ rs) (suc p) h = narrow_at rs p h.1

narrow-set : (rs : List Record) (p : ℕ) (r : Record) → AllNarrow rs → Narrow r → AllNarrow (set rs p r)
narrow-set [] p r h n = h
narrow-set (x ∷ rs) zero r h n = (n, h.1)
narrow-set (x ∷ rs) (suc p) r h n = (h.0, narrow-set rs p r h.1 n)

-- what a record's fields fit
abbrev declared_fits : (r : Record) → Narrow r → r.declared < 256 ^ 4
declared_fits r n = n.1.1.1.0

abbrev received_fits : (r : Record) → Narrow r → r.received < 256 ^ 4
received_fits r n = n.1.1.1.1.0

abbrev due_fits : (r : Record) → Narrow r → r.due < 256 ^ 4
due_fits r n = n.1.1.1.1.1.0

narrow-becomes : (r : Record) (state received due : ℕ) → Narrow r → state < 256 ^ 1 → received < 256 ^ 4 → due < 256 ^ 4 → Narrow (becomes r state received due)
narrow-becomes r state received due n a b c = (n.0, (n.1.0, (a, (declared_fits r n, (b, (c, tt))))))

either_narrow : (t : Bool) (a b : ℕ) → a < 256 ^ 1 → b < 256 ^ 1 → cond t a b < 256 ^ 1
either_narrow true a b h k = h
either_narrow false a b h k = k

narrow-owing : (r : Record) (due : ℕ) → Narrow r → due < 256 ^ 4 → Narrow (owing due r)
narrow-owing r due n h = narrow-becomes r _ _ due n (either_narrow (eqb due 0) completed have_results (omega arith) (omega arith)) (received_fits r n) h

-- each move keeps a record's numbers within their fields, where the call's amount fits
pub record Stays (m : Move) : Type 0 where
  pub narrow : (r : Record) → Narrow r → m.fits r ≡ true → Narrow (m.next r)

stays-feeding : (count : ℕ) → Stays (feeding count)
unfolding feeding
stays-feeding count = record {
  narrow = λ r n f.
      let a = leb-true 1 count (and_left (leb 1 count) (leb count (r.declared - r.received)) f) in
      let b = leb-true count (r.declared - r.received) (and_right (leb 1 count) (leb count (r.declared - r.received)) f) in
      narrow-becomes r _ _ _ n (either_narrow (eqb (r.received + count) r.declared) triggered needs_input (omega arith) (omega arith)) (omega (arith, a, b, declared_fits r n)) (due_fits r n);
}

stays-starting : Stays starting
unfolding starting
stays-starting = record { narrow = λ r n f. narrow-becomes r running _ _ n (omega arith) (received_fits r n) (due_fits r n) }

stays-finishing : (f : Finish) (n : ℕ) → NarrowAsked (to_finish f) n → Stays (finishing f)
unfolding finishing
stays-finishing Failed n h = record { narrow = λ r k f. narrow-becomes r failed _ _ k (omega arith) (received_fits r k) (due_fits r k) }
stays-finishing (Good due) n h = record { narrow = λ r k f. narrow-owing r due k h }

stays-taking : (count : ℕ) → Stays (taking count)
unfolding taking
stays-taking count = record { narrow = λ r n f. narrow-owing r (r.due - count) n (omega (arith, due_fits r n)) }

stays-killing : Stays killing
unfolding killing
stays-killing = record { narrow = λ r n f. narrow-becomes r abandoned _ 0 n (omega arith) (received_fits r n) (omega arith) }

stays-closing : Stays closing
unfolding closing
stays-closing = record { narrow = λ r n f. narrow-empty }

-- an accepted call's amount fits
call_fits : (d : Desk) (n : ℕ) (m : Move) → call_number d n m ≡ 0 → m.fits (record_of n d) ≡ true
unfolding call_number
call_fits d n m e =
    let a = unless-passed (sound d) not_sound _ (omega arith) e in
    let b = unless-passed (not (eqb n 0)) number_zero _ (omega arith) a.1 in
    let c = unless-passed (has n d) no_such_number _ (omega arith) b.1 in
    let f = unless-passed (m.allowed (record_of n d)) not_allowed _ (omega arith) c.1 in
    (unless-passed (m.fits (record_of n d)) amount_wrong _ (omega arith) f.1).0

put-fine : (d : Desk) (p : ℕ) (r : Record) → Fine d → Narrow r → Fine (put d p r)
put-fine d p r f n = record { eight = length-set d.records p r ∙ f.eight; narrow = narrow-set d.records p r f.narrow n }

called-fine : (d : Desk) (n : ℕ) (m : Move) → Stays m → Fine d → Fine (called d n m).desk
unfolding called
called-fine d n m s f =
    split (eqb (call_number d n m) 0)
    (λ t. rw t
    (put-fine d (place n d.records) (m.next (record_of n d)) f
    (s.narrow (record_of n d) (narrow_at d.records (place n d.records) f.narrow) (call_fits d n m (eqb-true _ _ t)))))
    (λ t. rw t f)

opening-narrow : (n kind declared : ℕ) → NarrowAsked (to_open kind declared) n → Narrow (opening n kind declared)
unfolding opening
opening-narrow n kind declared h =
    (h.0, (h.1, (either_narrow (eqb declared 0) triggered needs_input (omega arith) (omega arith), (h.2, (omega arith, (omega arith, tt))))))

opened-fine : (d : Desk) (n kind declared : ℕ) → NarrowAsked (to_open kind declared) n → Fine d → Fine (opened d n kind declared).desk
unfolding opened
opened-fine d n kind declared h f =
    split (eqb (open_number d n kind declared) 0)
    (λ t. rw t (put-fine d (place 0 d.records) (opening n kind declared) f (opening-narrow n kind declared h)))
    (λ t. rw t f)

fed-fine : (d : Desk) (st : List ℕ) (n : ℕ) (piece : List ℕ) → Fine d → Fine (fed d st n piece).desk
fed-fine d st n piece f =
    split (eqb (length st) store_bytes)
    (λ t. rw (full-fed d st n piece t) (called-fine d n (feeding (length piece)) (stays-feeding (length piece)) f))
    (λ t. rw (short-fed d st n piece t) f)

makes-fine : (a : Asked) (n : ℕ) (k : Kept) → NarrowAsked a n → Fine k.desk → Fine (makes a n k).kept.desk
unfolding makes
makes-fine (to_open kind declared) n k h f = opened-fine k.desk n kind declared h f
makes-fine (to_feed piece) n k h f = fed-fine k.desk k.store n piece f
makes-fine to_start n k h f = called-fine k.desk n starting stays-starting f
makes-fine (to_finish g) n k h f = called-fine k.desk n (finishing g) (stays-finishing g n h) f
makes-fine (to_take count) n k h f = called-fine k.desk n (taking count) (stays-taking count) f
makes-fine to_kill n k h f = called-fine k.desk n killing stays-killing f
makes-fine to_close n k h f = called-fine k.desk n closing stays-closing f
makes-fine to_tell n k h f = f

pub make-fine : (c : Call) (k : Kept) → NarrowCall c → Fine k.desk → Fine (make c k).kept.desk
make-fine c k h f = makes-fine c.asked c.named k h f
