-- Demand 3 for callers that keep a desk as bytes: two calls that name different numbers may be swapped.
-- Assumes nothing: the calls' numbers fit their fields, as whatever C passes does.
use Prim.Native.Nat.{ℕ, ◌+◌, ◌≤◌}
use mathlib.Core.Path.{◌≡◌, refl, sym, ap, ◌∙◌}
use mathlib.Core.List.{List}
use Rattle.std.specs.Prelude.{Option, None, Some}
use Rattle.numbers.specs.Bytes.{Bytes}
use Rattle.swapping.specs.Calls.{Either}
use Rattle.desk.specs.declared.Desk.{Desk}
use Rattle.desk_laws.specs.View.{Kept, Seen, see}
use Rattle.desk_laws.specs.State.{number_in, Call, make, vacant, opens_of, desk_calls}
use Rattle.desk_laws.proofs.Putting.{kept}
use Rattle.desk_laws.proofs.Swapping.{swap}
use Rattle.desk_bytes.specs.Bytes.{decode}
use Rattle.desk_calls.specs.Served.{Served, told_by, unread, served_by, served}
use Rattle.desk_calls.specs.Lending.{NarrowCall, Fine, AsMade, shown_by, shown, afterwards, EitherServed}
use Rattle.desk_calls.proofs.Narrowing.{make-fine, spelt-fine}
use Rattle.desk_calls.proofs.Lending.{served-fine}

-- bytes that spell no desk: both calls are refused, and nothing changes
served-none : (c : Call) (bs st : List ℕ) → decode bs ≡ None → served c bs st ≡ unread bs st
unfolding served
served-none c bs st e = ap (served_by c bs st) e

none_either : (f g : Call) (bs st : List ℕ) → decode bs ≡ None → EitherServed f g bs st
none_either f g bs st e =
    let a = served-none f bs st e in
    let b = served-none g bs st e in
    record { first = rw (b, a); first_values = rw (b, a); second = rw (a, b); second_values = rw (a, b); after = λ n. rw (a, b) (rw a) }

-- two calls over bytes, one after the other, come to what they come to on the desk
module _ (f g : Call) (bs st : List ℕ) (d : Desk) (e : decode bs ≡ Some d) (fine : Fine d) (nf : NarrowCall f) (ng : NarrowCall g) where
  then_made : AsMade (afterwards (served f bs st) g) (make g (make f (kept d st)).kept)
  then_made =
      let a = served-fine f bs st d e fine nf in
      rw a.store (served-fine g (served f bs st).desk (make f (kept d st)).kept.store (make f (kept d st)).kept.desk a.desk (make-fine f (kept d st) nf fine) ng)

shown_so : (n : ℕ) (s : Served) (k : Kept) → decode s.desk ≡ Some k.desk → s.store ≡ k.store → shown n s.desk s.store ≡ Some (see n k)
shown_so n s k e h = ap (shown_by n s.store) e ∙ ap (λ (st : List ℕ). Some (see n (kept k.desk st))) h

some_either : (f g : Call) (bs st : List ℕ) (d : Desk) → decode bs ≡ Some d → Fine d → NarrowCall f → NarrowCall g → Either desk_calls f g (kept d st) → EitherServed f g bs st
some_either f g bs st d e fine nf ng w =
    let a = served-fine f bs st d e fine nf in
    let b = served-fine g bs st d e fine ng in
    let x = then_made f g bs st d e fine nf ng in
    let y = then_made g f bs st d e fine ng nf in
    record {
      first = y.number ∙ ap number_in w.first ∙ sym a.number;
      first_values = y.values ∙ ap told_by w.first ∙ sym a.values;
      second = x.number ∙ ap number_in w.second ∙ sym b.number;
      second_values = x.values ∙ ap told_by w.second ∙ sym b.values;
      after = λ n.
          shown_so n (afterwards (served f bs st) g) (make g (make f (kept d st)).kept).kept x.desk x.store
          ∙ ap (λ (v : Seen). Some v) (w.after n)
          ∙ sym (shown_so n (afterwards (served g bs st) f) (make f (make g (kept d st)).kept).kept y.desk y.store);
    }

either_by : (f g : Call) → (f.named ≡ g.named → ⊥) → (bs st : List ℕ) → Bytes bs → NarrowCall f → NarrowCall g
    → ((d : Desk) → decode bs ≡ Some d → opens_of f.asked + opens_of g.asked ≤ vacant d.records)
    → (o : Option Desk) → decode bs ≡ o → EitherServed f g bs st
either_by f g ne bs st b nf ng room None e = none_either f g bs st e
either_by f g ne bs st b nf ng room (Some d) e =
    let fine = spelt-fine bs d b e in
    some_either f g bs st d e fine nf ng (swap f g ne (kept d st) fine.eight (room d e))

pub served_swap : (f g : Call) → (f.named ≡ g.named → ⊥) → (bs st : List ℕ) → Bytes bs → NarrowCall f → NarrowCall g
    → ((d : Desk) → decode bs ≡ Some d → opens_of f.asked + opens_of g.asked ≤ vacant d.records) → EitherServed f g bs st
served_swap f g ne bs st b nf ng room = either_by f g ne bs st b nf ng room (decode bs) refl
