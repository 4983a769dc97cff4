-- What list shows of a sound desk rises and names exactly the operations; on another desk it shows zeros.
-- Assumes nothing.
use Prim.Native.Nat.{ℕ, suc, ◌-◌, ◌<◌, ◌≤◌}
use mathlib.Core.Path.{◌≡◌, refl, sym, ap, ◌∙◌}
use mathlib.Core.Bool.{Bool, true, false, ◌||◌, true≢false}
use mathlib.Core.List.{List, [], ◌∷◌}
use native.Mathlib.Omega.{arith}
use lib.ListN.{length, replicate, length-append, length-replicate}
use lib.Dec.{eqb, ltb, leb}
use borrow.Author.Tests.{eq-eqb, ne_eqb, eqb-true, eqb-false, ltb-true, ltb-false, lt-ltb, le-ltb, leb-true, leb-false}
use Rattle.paper.specs.Limits.{desk_most}
use Rattle.paper.specs.Refusals.{not_sound}
use Rattle.desk_records.specs.declared.Record.{Record}
use Rattle.desk.specs.declared.Desk.{Desk}
use Rattle.desk.specs.Calls.{Listed}
use Rattle.desk.specs.Desk.{place, sound, sound_records}
use Rattle.paper.specs.Tests.{among}
use Rattle.desk.specs.Listing.{numbers, insert, rising, then_zeros, Below, Rises}
use Rattle.desk.specs.Calls.{list_number, listed}
use Rattle.desk_laws.specs.View.{GoodDesk, Lists}
use Rattle.paper.proofs.Tests.{split}
use Rattle.desk.proofs.Sorting.{length-rising, length-numbers}
use Rattle.desk.proofs.Soundness.{sound-alone, sound-tail, alone-absent, sound_records_lem}

or_swap : (a b c : Bool) → a || (b || c) ≡ b || (a || c)
or_swap true true c = refl
or_swap true false c = refl
or_swap false b c = refl

among-insert : (k n : ℕ) (ns : List ℕ) → among k (insert n ns) ≡ eqb n k || among k ns
unfolding among insert
among-insert k n [] = refl
among-insert k n (m ∷ ns) =
    split (leb n m)
    (λ t. rw t)
    (λ t. rw (t, among-insert k n ns) (or_swap (eqb m k) (eqb n k) (among k ns)))

among-rising : (k : ℕ) (ns : List ℕ) → among k (rising ns) ≡ among k ns
unfolding among rising
among-rising k [] = refl
among-rising k (n ∷ ns) = among-insert k n (rising ns) ∙ ap (λ (b : Bool). eqb n k || b) (among-rising k ns)

suc-ltb : (a b : ℕ) → ltb (suc a) (suc b) ≡ ltb a b
suc-ltb a b =
    split (ltb a b)
    (λ t. let h = ltb-true a b t in lt-ltb (suc a) (suc b) (omega arith) ∙ sym t)
    (λ t. let h = ltb-false a b t in le-ltb (suc a) (suc b) (omega arith) ∙ sym t)

-- the numbers are those that have a place
among-numbers : (k : ℕ) (rs : List Record) → (k ≡ 0 → ⊥) → among k (numbers rs) ≡ ltb (place k rs) (length rs)
unfolding among numbers place
among-numbers k [] z = sym (le-ltb 0 0 (omega arith))
among-numbers k (r ∷ rs) z =
    let ih = among-numbers k rs z in
    split (eqb r.number k)
    (λ t.
    let e = eqb-true r.number k t in
    rw (t, ne_eqb r.number 0 (λ y. z (sym e ∙ y))) (rw t (sym (lt-ltb 0 (suc (length rs)) (omega arith)))))
    (λ t. split (eqb r.number 0)
    (λ u. rw (t, u) (ih ∙ sym (suc-ltb (place k rs) (length rs))))
    (λ u. rw (t, u) (rw t (ih ∙ sym (suc-ltb (place k rs) (length rs))))))

zero-numbers : (rs : List Record) → among 0 (numbers rs) ≡ false
unfolding among numbers
zero-numbers [] = refl
zero-numbers (r ∷ rs) = split (eqb r.number 0) (λ t. rw t (zero-numbers rs)) (λ t. rw t (rw t (zero-numbers rs)))

below-insert : (m n : ℕ) (ns : List ℕ) → m < n → Below m ns → Below m (insert n ns)
unfolding insert
below-insert m n [] h b = h
below-insert m n (x ∷ ns) h b = split (leb n x) (λ t. rw t h) (λ t. rw t b)

insert_rises : (n : ℕ) (ns : List ℕ) → among n ns ≡ false → Rises ns → Rises (insert n ns)
unfolding insert among
insert_rises n [] a r = (tt, tt)
insert_rises n (m ∷ ns) a r =
    split (eqb m n)
    (λ e. absurd (true≢false (rw e at a)))
    (λ e.
    let ne = eqb-false m n e in
    split (leb n m)
    (λ t. let h = leb-true n m t in rw t (omega (arith, ne), r))
    (λ t. let h = leb-false n m t in rw t (below-insert m n ns h r.0, insert_rises n ns (rw e at a) r.1)))

numbers-rise : (rs : List Record) → sound_records rs ≡ true → Rises (rising (numbers rs))
unfolding numbers rising
numbers-rise [] s = tt
numbers-rise (r ∷ rs) s =
    let ih = numbers-rise rs (sound-tail r rs s) in
    split (eqb r.number 0)
    (λ t. rw t ih)
    (λ t.
    let z = eqb-false r.number 0 t in
    let a = le-ltb (place r.number rs) (length rs) (alone-absent r.number rs (sound-alone r rs s) z) in
    rw t (insert_rises r.number (rising (numbers rs)) (among-rising r.number (numbers rs) ∙ among-numbers r.number rs z ∙ a) ih))

length_zeros : (ns : List ℕ) → length ns ≤ desk_most → length (then_zeros ns) ≡ desk_most
unfolding then_zeros
length_zeros ns h = length-append ns (replicate (desk_most - length ns) 0) ∙ rw (length-replicate {A = ℕ} (desk_most - length ns) 0) (omega arith)

pub lists : (d : Desk) → GoodDesk d → Lists d (listed d) (rising (numbers d.records))
unfolding listed list_number
lists d g =
    let l = g.eight in
    record {
      accepts = rw g.right;
      shows = rw g.right;
      eight = rw g.right (length_zeros (rising (numbers d.records)) (omega (arith, length-rising (numbers d.records), length-numbers d.records)));
      rise = numbers-rise d.records (sound_records_lem d g.right);
      used = λ n z. among-rising n (numbers d.records) ∙ among-numbers n d.records z ∙ ap (ltb (place n d.records)) l;
      no_zero = among-rising 0 (numbers d.records) ∙ zero-numbers d.records;
    }

pub lists_unsound : (d : Desk) → sound d ≡ false → listed d ≡ record { number = not_sound; operations = replicate desk_most 0 }
unfolding listed list_number then_zeros
lists_unsound d s = rw s

-- A list that rises is known by what is among it: so list has one answer.
rises_above : (k n : ℕ) (ns : List ℕ) → Rises (n ∷ ns) → k ≤ n → among k ns ≡ false
unfolding among
rises_above k n [] r h = refl
rises_above k n (m ∷ ns) r h =
    let b = r.0 in
    let ne : m ≡ k → ⊥ = λ e. omega arith in
    rw (ne_eqb m k ne) (rises_above k m ns r.1 (omega arith))

among-head : (n : ℕ) (ns : List ℕ) → among n (n ∷ ns) ≡ true
unfolding among
among-head n ns = rw (eq-eqb n n refl)

-- the first of a list that rises is the least
among-least : (k n : ℕ) (ns : List ℕ) → Rises (n ∷ ns) → among k (n ∷ ns) ≡ true → n ≤ k
unfolding among
among-least k n ns r h =
    split (leb n k)
    (λ t. leb-true n k t)
    (λ t.
    let l = leb-false n k t in
    let ne : n ≡ k → ⊥ = λ e. omega arith in
    absurd (true≢false (sym (rw (ne_eqb n k ne) at h) ∙ rises_above k n ns r (omega arith))))

among-tail : (k n : ℕ) (ns : List ℕ) → (n ≡ k → ⊥) → among k (n ∷ ns) ≡ among k ns
unfolding among
among-tail k n ns ne = rw (ne_eqb n k ne)

among_none : (k : ℕ) → among k [] ≡ false
unfolding among
among_none k = refl

pub rises_one : (ns ms : List ℕ) → Rises ns → Rises ms → ((k : ℕ) → among k ns ≡ among k ms) → ns ≡ ms
rises_one [] [] r q h = refl
rises_one [] (m ∷ ms) r q h = absurd (true≢false (sym (among-head m ms) ∙ sym (h m) ∙ among_none m))
rises_one (n ∷ ns) [] r q h = absurd (true≢false (sym (among-head n ns) ∙ h n ∙ among_none n))
rises_one (n ∷ ns) (m ∷ ms) r q h =
    let a = among-least n m ms q (sym (h n) ∙ among-head n ns) in
    let b = among-least m n ns r (h m ∙ among-head m ms) in
    let e : n ≡ m = omega arith in
    let t : ns ≡ ms = rises_one ns ms r.1 q.1 (λ k.
    split (leb k n)
    (λ u. let l = leb-true k n u in rises_above k n ns r l ∙ sym (rises_above k m ms q (omega arith)))
    (λ u.
    let l = leb-false k n u in
    sym (among-tail k n ns (λ y. omega arith)) ∙ h k ∙ among-tail k m ms (λ y. omega arith))) in
    rw (e, t)

listed_eq : (a b : ℕ) (x y : List ℕ) → a ≡ b → x ≡ y → ◌≡◌ {A = Listed} (record { number = a; operations = x }) (record { number = b; operations = y })
listed_eq a b x y p q = rw (p, q)

pub lists-one : (d : Desk) (l l' : Listed) (ns ns' : List ℕ) → Lists d l ns → Lists d l' ns' → l ≡ l'
lists-one d l l' ns ns' a b =
    let e = rises_one ns ns' a.rise b.rise (λ k.
    split (eqb k 0)
    (λ t. rw (eqb-true k 0 t) (a.no_zero ∙ sym b.no_zero))
    (λ t. a.used k (eqb-false k 0 t) ∙ sym (b.used k (eqb-false k 0 t)))) in
    listed_eq l.number l'.number l.operations l'.operations (a.accepts ∙ sym b.accepts) (a.shows ∙ ap then_zeros e ∙ sym b.shows)
