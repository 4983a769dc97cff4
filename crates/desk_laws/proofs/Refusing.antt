-- The tables are kept exactly: what a call on an operation answers and leaves is what they say (`exactly`), a number above 0 is given exactly when its line
-- holds (`given`), 0 exactly when none does (`given-none`), and no two lines hold at once (`one_line`).
-- List has the lines 20 and 0 (`list-given`).
-- Assumes a desk of eight records, sound or not, and any store.
use Prim.Native.Nat.{ℕ}
use mathlib.Core.Path.{◌≡◌, refl, sym, ap, ◌∙◌}
use mathlib.Core.Logic.{◌↔◌}
use mathlib.Core.Bool.{true, false}
use mathlib.Core.List.{List}
use native.Mathlib.Omega.{arith}
use lib.ListN.{length}
use lib.Dec.{eqb}
use borrow.Author.Tests.{eq-eqb, ne_eqb, eqb-true, eqb-false, ltb-false}
use Rattle.paper.specs.Limits.{desk_most, store_bytes}
use Rattle.paper.specs.Refusals.{accepted, not_sound, number_zero, in_use, all_taken, no_such_number, not_allowed, open_wrong, amount_wrong}
use Rattle.paper.specs.Refusal as Paper
use Rattle.paper.proofs.Tests.{so_not, split}
use Rattle.desk_records.specs.declared.Record.{Record}
use Rattle.desk_records.specs.Record.{empty, suits}
use Rattle.desk_records.specs.Moves.{Move, opening, feeding, starting, finishing, taking, killing, closing}
use Rattle.desk.specs.declared.Desk.{Desk}
use Rattle.desk.specs.Desk.{place, sound, has, record_of, put}
use Rattle.desk.specs.Calls.{open_number, opened, call_number, called, fed, fed_store, feed_number, status_number, telling, told, list_number, listed}
use Rattle.desk.proofs.Places.{at-absent}
use Rattle.desk.proofs.Settling.{short-fed, short-store, full-number}
use Rattle.desk_laws.specs.View.{Kept}
use Rattle.desk_laws.specs.State.{Asked, to_open, to_feed, to_start, to_finish, to_take, to_kill, to_close, to_tell, Call, number, counts, number_in, Done, on_desk, makes, make}
use Rattle.desk_laws.specs.Refusing.{record_at, Lowest, Opens, MovesBy, Tells, StoreRight, store_after, refusal_with, Ready, Admitted, done, Line, line_20, line_21, line_22, line_23, line_24, line_25, line_26, line_27, Takes, opens, moves, tells_known, tells_unknown, Answers, refuses, takes, ListLine, list_20, list_0, desk_answer}
use Rattle.desk_laws.proofs.Touching.{unsound}
use Rattle.desk_laws.proofs.Standing.{has-stands, stands-has, has-not, not-has, lowest-place, lowest-has}

-- the numbers, on a sound desk, by what each test finds
module _ (d : Desk) (n : ℕ) (s : sound d ≡ true) (m : Move) where
  call-zero : n ≡ 0 → call_number d n m ≡ number_zero
  unfolding call_number
  call-zero z = rw (s, eq-eqb n 0 z)

  module _ (z : n ≡ 0 → ⊥) where
    call_none : has n d ≡ false → call_number d n m ≡ no_such_number
    unfolding call_number
    call_none h = rw (s, ne_eqb n 0 z, h)

    call-state : has n d ≡ true → m.allowed (record_of n d) ≡ false → call_number d n m ≡ not_allowed
    unfolding call_number
    call-state h a = rw (s, ne_eqb n 0 z, h, a)

    call-amount : has n d ≡ true → m.allowed (record_of n d) ≡ true → m.fits (record_of n d) ≡ false → call_number d n m ≡ amount_wrong
    unfolding call_number
    call-amount h a f = rw (s, ne_eqb n 0 z, h, a, f)

    call-right : has n d ≡ true → m.allowed (record_of n d) ≡ true → m.fits (record_of n d) ≡ true → call_number d n m ≡ accepted
    unfolding call_number
    call-right h a f = rw (s, ne_eqb n 0 z, h, a, f)

module _ (d : Desk) (n : ℕ) (s : sound d ≡ true) (kind declared : ℕ) where
  open-zero : n ≡ 0 → open_number d n kind declared ≡ number_zero
  unfolding open_number
  open-zero z = rw (s, eq-eqb n 0 z)

  module _ (z : n ≡ 0 → ⊥) where
    open-used : has n d ≡ true → open_number d n kind declared ≡ in_use
    unfolding open_number
    open-used h = rw (s, ne_eqb n 0 z, h)

    open-wrong : has n d ≡ false → suits kind declared ≡ false → open_number d n kind declared ≡ open_wrong
    unfolding open_number
    open-wrong h t = rw (s, ne_eqb n 0 z, h, t)

    open_full : has n d ≡ false → suits kind declared ≡ true → has 0 d ≡ false → open_number d n kind declared ≡ all_taken
    unfolding open_number
    open_full h t e = rw (s, ne_eqb n 0 z, h, t, e)

    open-right : has n d ≡ false → suits kind declared ≡ true → has 0 d ≡ true → open_number d n kind declared ≡ accepted
    unfolding open_number
    open-right h t e = rw (s, ne_eqb n 0 z, h, t, e)

-- a call by its number
abbrev kept_with : Kept → ℕ → Done
kept_with s k = record { kept = s; answer = number k }

called-refused : (s : Kept) (n : ℕ) (m : Move) (k : ℕ) → call_number s.desk n m ≡ k → (k ≡ 0 → ⊥) → on_desk s (called s.desk n m) ≡ kept_with s k
unfolding called
called-refused s n m k e z = rw (e, ne_eqb k accepted z)

called-taken : (s : Kept) (n : ℕ) (m : Move) → call_number s.desk n m ≡ accepted
    → on_desk s (called s.desk n m) ≡ done (put s.desk (place n s.desk.records) (m.next (record_of n s.desk))) s.store (number accepted)
unfolding called
called-taken s n m e = rw e

opened-refused : (s : Kept) (n kind declared k : ℕ) → open_number s.desk n kind declared ≡ k → (k ≡ 0 → ⊥) → on_desk s (opened s.desk n kind declared) ≡ kept_with s k
unfolding opened
opened-refused s n kind declared k e z = rw (e, ne_eqb k accepted z)

opened-taken : (s : Kept) (n kind declared : ℕ) → open_number s.desk n kind declared ≡ accepted
    → on_desk s (opened s.desk n kind declared) ≡ done (put s.desk (place 0 s.desk.records) (opening n kind declared)) s.store (number accepted)
unfolding opened
opened-taken s n kind declared e = rw e

fed-refused : (s : Kept) (n : ℕ) (piece : List ℕ) (k : ℕ) → feed_number s.desk s.store n piece ≡ k → (k ≡ 0 → ⊥) → makes (to_feed piece) n s ≡ kept_with s k
unfolding makes fed fed_store
fed-refused s n piece k e z = rw (e, ne_eqb k accepted z)

fed-taken : (s : Kept) (n : ℕ) (piece : List ℕ) → feed_number s.desk s.store n piece ≡ accepted
    → makes (to_feed piece) n s
    ≡ done (put s.desk (place n s.desk.records) ((feeding (length piece)).next (record_of n s.desk))) (store_after (to_feed piece) s (place n s.desk.records)) (number accepted)
unfolding makes fed fed_store
fed-taken s n piece e = rw e

-- every call that moves a known operation, by the number of its move
module _ (n : ℕ) (s : Kept) (m : Move) where
  move_refused : (a : Asked) → MovesBy a m → Ready a s → (k : ℕ) → call_number s.desk n m ≡ k → (k ≡ 0 → ⊥) → makes a n s ≡ record { kept = s; answer = refusal_with a k }
  unfolding makes
  move_refused (to_open kind declared) b r k e z = absurd b
  move_refused (to_feed piece) b r k e z = fed-refused s n piece k (full-number s.desk s.store n piece (eq-eqb _ _ r.store) ∙ ap (call_number s.desk n) (sym b) ∙ e) z
  move_refused to_start b r k e z = rw (sym b) (called-refused s n m k e z)
  move_refused (to_finish f) b r k e z = rw (sym b) (called-refused s n m k e z)
  move_refused (to_take count) b r k e z = rw (sym b) (called-refused s n m k e z)
  move_refused to_kill b r k e z = rw (sym b) (called-refused s n m k e z)
  move_refused to_close b r k e z = rw (sym b) (called-refused s n m k e z)
  move_refused to_tell b r k e z = absurd b

  move_taken : (a : Asked) → MovesBy a m → Ready a s → call_number s.desk n m ≡ accepted
      → makes a n s ≡ done (put s.desk (place n s.desk.records) (m.next (record_of n s.desk))) (store_after a s (place n s.desk.records)) (number accepted)
  unfolding makes
  move_taken (to_open kind declared) b r e = absurd b
  move_taken (to_feed piece) b r e =
      rw b (fed-taken s n piece (full-number s.desk s.store n piece (eq-eqb _ _ r.store) ∙ ap (call_number s.desk n) (sym b) ∙ e))
  move_taken to_start b r e = rw (sym b) (called-taken s n m e)
  move_taken (to_finish f) b r e = rw (sym b) (called-taken s n m e)
  move_taken (to_take count) b r e = rw (sym b) (called-taken s n m e)
  move_taken to_kill b r e = rw (sym b) (called-taken s n m e)
  move_taken to_close b r e = rw (sym b) (called-taken s n m e)
  move_taken to_tell b r e = absurd b

module _ (n : ℕ) (s : Kept) (kind declared : ℕ) where
  open-refused : (a : Asked) → Opens a kind declared → (k : ℕ) → open_number s.desk n kind declared ≡ k → (k ≡ 0 → ⊥) → makes a n s ≡ record { kept = s; answer = refusal_with a k }
  unfolding makes
  open-refused (to_open kind' declared') b k e z = rw (sym b.0, sym b.1) (opened-refused s n kind declared k e z)
  open-refused (to_feed piece) b k e z = absurd b
  open-refused to_start b k e z = absurd b
  open-refused (to_finish f) b k e z = absurd b
  open-refused (to_take count) b k e z = absurd b
  open-refused to_kill b k e z = absurd b
  open-refused to_close b k e z = absurd b
  open-refused to_tell b k e z = absurd b

  open-taken : (a : Asked) → Opens a kind declared → open_number s.desk n kind declared ≡ accepted
      → makes a n s ≡ done (put s.desk (place 0 s.desk.records) (opening n kind declared)) s.store (number accepted)
  unfolding makes
  open-taken (to_open kind' declared') b e = rw (sym b.0, sym b.1) (opened-taken s n kind declared e)
  open-taken (to_feed piece) b e = absurd b
  open-taken to_start b e = absurd b
  open-taken (to_finish f) b e = absurd b
  open-taken (to_take count) b e = absurd b
  open-taken to_kill b e = absurd b
  open-taken to_close b e = absurd b
  open-taken to_tell b e = absurd b

told_admitted : (d : Desk) (n : ℕ) → sound d ≡ true → (n ≡ 0 → ⊥) → told d n ≡ telling accepted (record_of n d)
unfolding told status_number
told_admitted d n s z = rw (s, ne_eqb n 0 z)

told-zero : (d : Desk) (n : ℕ) → sound d ≡ true → n ≡ 0 → told d n ≡ telling number_zero empty
unfolding told status_number
told-zero d n s z = rw (s, eq-eqb n 0 z)

tell-taken : (a : Asked) (n : ℕ) (s : Kept) → Tells a → Admitted a n s → makes a n s ≡ record { kept = s; answer = counts (telling accepted (record_of n s.desk)) }
unfolding makes
tell-taken (to_open kind declared) n s b g = absurd b
tell-taken (to_feed piece) n s b g = absurd b
tell-taken to_start n s b g = absurd b
tell-taken (to_finish f) n s b g = absurd b
tell-taken (to_take count) n s b g = absurd b
tell-taken to_kill n s b g = absurd b
tell-taken to_close n s b g = absurd b
tell-taken to_tell n s b g = rw (told_admitted s.desk n g.ready.desk g.nonzero)

-- 21, of every call
zero-refused : (a : Asked) (n : ℕ) (s : Kept) → Ready a s → n ≡ 0 → makes a n s ≡ record { kept = s; answer = refusal_with a number_zero }
unfolding makes
zero-refused (to_open kind declared) n s r z = open-refused n s kind declared (to_open kind declared) (refl, refl) number_zero (open-zero s.desk n r.desk kind declared z) (omega arith)
zero-refused (to_feed piece) n s r z = move_refused n s (feeding (length piece)) (to_feed piece) refl r number_zero (call-zero s.desk n r.desk (feeding (length piece)) z) (omega arith)
zero-refused to_start n s r z = move_refused n s starting to_start refl r number_zero (call-zero s.desk n r.desk starting z) (omega arith)
zero-refused (to_finish f) n s r z = move_refused n s (finishing f) (to_finish f) refl r number_zero (call-zero s.desk n r.desk (finishing f) z) (omega arith)
zero-refused (to_take count) n s r z = move_refused n s (taking count) (to_take count) refl r number_zero (call-zero s.desk n r.desk (taking count) z) (omega arith)
zero-refused to_kill n s r z = move_refused n s killing to_kill refl r number_zero (call-zero s.desk n r.desk killing z) (omega arith)
zero-refused to_close n s r z = move_refused n s closing to_close refl r number_zero (call-zero s.desk n r.desk closing z) (omega arith)
zero-refused to_tell n s r z = rw (told-zero s.desk n r.desk z)

-- 20, of every call: on a sound desk it is feed's alone
sound_unready : (a : Asked) (n : ℕ) (s : Kept) → sound s.desk ≡ true → (Ready a s → ⊥) → makes a n s ≡ record { kept = s; answer = refusal_with a not_sound }
unfolding makes
sound_unready (to_open kind declared) n s t f = absurd (f (record { desk = t; store = tt }))
sound_unready (to_feed piece) n s t f =
    let e = ne_eqb (length s.store) store_bytes (λ l. f (record { desk = t; store = l })) in
    rw (short-fed s.desk s.store n piece e, short-store s.desk s.store n piece e)
sound_unready to_start n s t f = absurd (f (record { desk = t; store = tt }))
sound_unready (to_finish g) n s t f = absurd (f (record { desk = t; store = tt }))
sound_unready (to_take count) n s t f = absurd (f (record { desk = t; store = tt }))
sound_unready to_kill n s t f = absurd (f (record { desk = t; store = tt }))
sound_unready to_close n s t f = absurd (f (record { desk = t; store = tt }))
sound_unready to_tell n s t f = absurd (f (record { desk = t; store = tt }))

unready : (a : Asked) (n : ℕ) (s : Kept) → (Ready a s → ⊥) → makes a n s ≡ record { kept = s; answer = refusal_with a not_sound }
unready a n s f =
    split (sound s.desk)
    (λ t. sound_unready a n s t f)
    (λ t. unsound (record { named = n; asked = a }) s t)

by_store : {A : Type 0} (a : Asked) (s : Kept) → (StoreRight a s → A) → ((StoreRight a s → ⊥) → A) → A
by_store (to_open kind declared) s f g = f tt
by_store (to_feed piece) s f g = split (eqb (length s.store) store_bytes) (λ t. f (eqb-true _ _ t)) (λ t. g (eqb-false _ _ t))
by_store to_start s f g = f tt
by_store (to_finish h) s f g = f tt
by_store (to_take count) s f g = f tt
by_store to_kill s f g = f tt
by_store to_close s f g = f tt
by_store to_tell s f g = f tt

-- what the tables say is what a call comes to
module _ (a : Asked) (n : ℕ) (s : Kept) (l : length s.desk.records ≡ desk_most) where
  abbrev d : Desk
  d = s.desk

  allowed_at : (m : Move) (p : ℕ) → Lowest n d p → m.allowed (record_of n d) ≡ m.allowed (record_at d p)
  allowed_at m p x = ap (λ (i : ℕ). m.allowed (record_at d i)) (sym (lowest-place n d l p x))

  fits-at : (m : Move) (p : ℕ) → Lowest n d p → m.fits (record_of n d) ≡ m.fits (record_at d p)
  fits-at m p x = ap (λ (i : ℕ). m.fits (record_at d i)) (sym (lowest-place n d l p x))

  line_so : (k : ℕ) → Line a n s k → makes a n s ≡ record { kept = s; answer = refusal_with a k }
  line_so k (line_20 e f) = rw e (unready a n s f)
  line_so k (line_21 e r z) = rw e (zero-refused a n s r z)
  line_so k (line_22 kind declared e b g x) =
      rw e (open-refused n s kind declared a b in_use (open-used d n g.ready.desk kind declared g.nonzero (stands-has n d l x)) (omega arith))
  line_so k (line_26 kind declared e b g x t) =
      rw e (open-refused n s kind declared a b open_wrong (open-wrong d n g.ready.desk kind declared g.nonzero (not-has n d l x) t) (omega arith))
  line_so k (line_23 kind declared e b g x t y) =
      rw e (open-refused n s kind declared a b all_taken (open_full d n g.ready.desk kind declared g.nonzero (not-has n d l x) t (not-has 0 d l y)) (omega arith))
  line_so k (line_24 m e b g x) =
      rw e (move_refused n s m a b g.ready no_such_number (call_none d n g.ready.desk m g.nonzero (not-has n d l x)) (omega arith))
  line_so k (line_25 m p e b g x t) =
      rw e (move_refused n s m a b g.ready not_allowed (call-state d n g.ready.desk m g.nonzero (lowest-has n d l p x) (allowed_at m p x ∙ t)) (omega arith))
  line_so k (line_27 m p e b g x t u) =
      rw e (move_refused n s m a b g.ready amount_wrong (call-amount d n g.ready.desk m g.nonzero (lowest-has n d l p x) (allowed_at m p x ∙ t) (fits-at m p x ∙ u)) (omega arith))

  takes_so : (x : Done) → Takes a n s x → makes a n s ≡ x
  takes_so x (opens kind declared p b g y t z e) =
      open-taken n s kind declared a b (open-right d n g.ready.desk kind declared g.nonzero (not-has n d l y) t (lowest-has 0 d l p z))
      ∙ ap (λ (i : ℕ). done (put d i (opening n kind declared)) s.store (number accepted)) (sym (lowest-place 0 d l p z))
      ∙ sym e
  takes_so x (moves m p r b g y v e) =
      move_taken n s m a b g.ready (call-right d n g.ready.desk m g.nonzero (lowest-has n d l p y) (allowed_at m p y ∙ v.state) (fits-at m p y ∙ v.amount))
      ∙ ap (λ (i : ℕ). done (put d i (m.next (record_at d i))) (store_after a s i) (number accepted)) (sym (lowest-place n d l p y))
      ∙ ap (λ (q : Record). done (put d p q) (store_after a s p) (number accepted)) (sym v.after)
      ∙ sym e
  takes_so x (tells_known p b g y e) =
      tell-taken a n s b g
      ∙ ap (λ (i : ℕ). record { kept = s; answer = counts (telling accepted (record_at d i)) }) (sym (lowest-place n d l p y))
      ∙ sym e
  takes_so x (tells_unknown b g y e) =
      let h = ltb-false (place n d.records) desk_most (not-has n d l y) in
      tell-taken a n s b g
      ∙ ap (λ (r : Record). record { kept = s; answer = counts (telling accepted r) }) (at-absent n d.records (omega arith))
      ∙ sym e

  -- some line holds, or the call is accepted
  data Way : Type 0 where
    refused : (k : ℕ) → Line a n s k → Way
    taken : (x : Done) → Takes a n s x → Way

  by_ready : (Ready a s → Way) → Way
  by_ready f =
      split (sound d)
      (λ t. by_store a s
      (λ r. f (record { desk = t; store = r }))
      (λ r. refused not_sound (line_20 refl (λ q. r q.store))))
      (λ t. refused not_sound (line_20 refl (λ q. so_not _ t q.desk)))

  by_admitted : (Admitted a n s → Way) → Way
  by_admitted f =
      by_ready (λ r.
      split (eqb n 0)
      (λ t. refused number_zero (line_21 refl r (eqb-true n 0 t)))
      (λ t. f (record { ready = r; nonzero = eqb-false n 0 t })))

  open_way : (kind declared : ℕ) → Opens a kind declared → Way
  open_way kind declared b =
      by_admitted (λ g.
      split (has n d)
      (λ h. let x = has-stands n d l h in refused in_use (line_22 kind declared refl b g (record { at = place n d.records; within = x.within; names = x.names })))
      (λ h.
      split (suits kind declared)
      (λ t.
      split (has 0 d)
      (λ e. taken _ (opens kind declared (place 0 d.records) b g (has-not n d l h) t (has-stands 0 d l e) refl))
      (λ e. refused all_taken (line_23 kind declared refl b g (has-not n d l h) t (has-not 0 d l e))))
      (λ t. refused open_wrong (line_26 kind declared refl b g (has-not n d l h) t))))

  move_way : (m : Move) → MovesBy a m → Way
  move_way m b =
      by_admitted (λ g.
      split (has n d)
      (λ h.
      split (m.allowed (record_of n d))
      (λ t.
      split (m.fits (record_of n d))
      (λ u. taken _ (moves m (place n d.records) (m.next (record_of n d)) b g (has-stands n d l h) (record { state = t; amount = u; after = refl }) refl))
      (λ u. refused amount_wrong (line_27 m (place n d.records) refl b g (has-stands n d l h) t u)))
      (λ t. refused not_allowed (line_25 m (place n d.records) refl b g (has-stands n d l h) t)))
      (λ h. refused no_such_number (line_24 m refl b g (has-not n d l h))))

  tell_way : Tells a → Way
  tell_way b =
      by_admitted (λ g.
      split (has n d)
      (λ h. taken _ (tells_known (place n d.records) b g (has-stands n d l h) refl))
      (λ h. taken _ (tells_unknown b g (has-not n d l h) refl)))

way : (a : Asked) (n : ℕ) (s : Kept) (l : length s.desk.records ≡ desk_most) → Way a n s l
way (to_open kind declared) n s l = open_way (to_open kind declared) n s l kind declared (refl, refl)
way (to_feed piece) n s l = move_way (to_feed piece) n s l (feeding (length piece)) refl
way to_start n s l = move_way to_start n s l starting refl
way (to_finish f) n s l = move_way (to_finish f) n s l (finishing f) refl
way (to_take count) n s l = move_way (to_take count) n s l (taking count) refl
way to_kill n s l = move_way to_kill n s l killing refl
way to_close n s l = move_way to_close n s l closing refl
way to_tell n s l = tell_way to_tell n s l tt

refusal-number : (a : Asked) (k : ℕ) → number_in (refusal_with a k) ≡ k
refusal-number (to_open kind declared) k = refl
refusal-number (to_feed piece) k = refl
refusal-number to_start k = refl
refusal-number (to_finish f) k = refl
refusal-number (to_take count) k = refl
refusal-number to_kill k = refl
refusal-number to_close k = refl
refusal-number to_tell k = refl

-- no line has the number 0, and acceptance no other
pub line_above : (a : Asked) (n : ℕ) (s : Kept) (k : ℕ) → Line a n s k → k ≡ accepted → ⊥
line_above a n s k (line_20 e f) z = omega arith
line_above a n s k (line_21 e r y) z = omega arith
line_above a n s k (line_22 kind declared e b g x) z = omega arith
line_above a n s k (line_26 kind declared e b g x t) z = omega arith
line_above a n s k (line_23 kind declared e b g x t y) z = omega arith
line_above a n s k (line_24 m e b g x) z = omega arith
line_above a n s k (line_25 m p e b g x t) z = omega arith
line_above a n s k (line_27 m p e b g x t u) z = omega arith

takes-zero : (a : Asked) (n : ℕ) (s : Kept) (x : Done) → Takes a n s x → number_in x.answer ≡ accepted
takes-zero a n s x (opens kind declared p b g y t z e) = rw e
takes-zero a n s x (moves m p r b g y v e) = rw e
takes-zero a n s x (tells_known p b g y e) = rw e
takes-zero a n s x (tells_unknown b g y e) = rw e

module _ (c : Call) (s : Kept) (l : length s.desk.records ≡ desk_most) where
  abbrev a : Asked
  a = c.asked

  abbrev n : ℕ
  n = c.named

  -- every call is answered as the tables say
  pub answers : Answers c s (make c s)
  answers = elim (way a n s l) [
    | refused k x ↦ refuses k x (line_so a n s l k x)
    | taken x t ↦ takes (rw (takes_so a n s l x t) t)
  ]

  -- and in no other way
  pub answered : (x : Done) → Answers c s x → make c s ≡ x
  answered x (refuses k y e) = line_so a n s l k y ∙ sym e
  answered x (takes y) = takes_so a n s l x y

  pub exactly : (x : Done) → (make c s ≡ x) ↔ Answers c s x
  exactly x = (λ e. rw e at answers, answered x)

  -- "A refusal changes nothing lent"
  pub refused_so : (k : ℕ) → Line a n s k → make c s ≡ record { kept = s; answer = refusal_with a k }
  refused_so k x = line_so a n s l k x

  line_number : (k : ℕ) → Line a n s k → number_in (make c s).answer ≡ k
  line_number k x = ap (λ (y : Done). number_in y.answer) (line_so a n s l k x) ∙ refusal-number a k

  -- 20 to 27, "given exactly when"
  pub given : (k : ℕ) → (k ≡ accepted → ⊥) → (number_in (make c s).answer ≡ k) ↔ Line a n s k
  given k z = (λ e. go e (way a n s l), line_number k)
    where
      go : number_in (make c s).answer ≡ k → Way a n s l → Line a n s k
      go e (refused j x) = let i : j ≡ k = sym (line_number j x) ∙ e in rw i at x
      go e (taken x t) = absurd (z (sym e ∙ ap (λ (y : Done). number_in y.answer) (takes_so a n s l x t) ∙ takes-zero a n s x t))

  pub one_line : (j k : ℕ) → Line a n s j → Line a n s k → j ≡ k
  one_line j k x y = sym (line_number j x) ∙ line_number k y

  -- "Acceptance is number 0": what is accepted is done
  pub accepted_exactly : (number_in (make c s).answer ≡ accepted) ↔ Takes a n s (make c s)
  accepted_exactly = (λ e. go e (way a n s l), takes-zero a n s (make c s))
    where
      go : number_in (make c s).answer ≡ accepted → Way a n s l → Takes a n s (make c s)
      go e (refused k x) = absurd (line_above a n s k x (sym (line_number k x) ∙ e))
      go e (taken x t) = rw (takes_so a n s l x t) t

  -- 0 exactly when no line holds
  pub given-none : (number_in (make c s).answer ≡ accepted) ↔ ((k : ℕ) → Line a n s k → ⊥)
  given-none = (λ e k x. line_above a n s k x (sym (line_number k x) ∙ e), λ f. go f (way a n s l))
    where
      go : ((k : ℕ) → Line a n s k → ⊥) → Way a n s l → number_in (make c s).answer ≡ accepted
      go f (refused k x) = absurd (f k x)
      go f (taken x t) = ap (λ (y : Done). number_in y.answer) (takes_so a n s l x t) ∙ takes-zero a n s x t

  -- the same of the whole answer, with its place and count
  pub given-whole : (k : ℕ) → (k ≡ accepted → ⊥) → (desk_answer (number_in (make c s).answer) ≡ desk_answer k) ↔ Line a n s k
  given-whole k z = (λ e. (given k z).0 (ap (λ (x : Paper.Answer). x.number) e), λ x. ap desk_answer ((given k z).1 x))

pub list-given : (d : Desk) (k : ℕ) → ((listed d).number ≡ k) ↔ ListLine d k
unfolding listed list_number
list-given d k = (λ e. split (sound d) (λ t. list_0 (sym e ∙ rw t refl) t) (λ t. list_20 (sym e ∙ rw t refl) t), back)
  where
    back : ListLine d k → (listed d).number ≡ k
    back (list_20 e t) = rw (t, e)
    back (list_0 e t) = rw (t, e)
