-- What a call answers, made of the steps that the code takes: the gate, the record's move, the record put back. One lemma for each return.
-- Assumes nothing.
use Rattle.std.proofs.Common.{◌≡◌, ℕ, Bool, true, false, cond, length, Option, Some, None, Result, Ok, Err, MatchResult, refl, sym, ap, ◌∙◌, arith}
use lib.ListN.{get_or}
use lib.Dec.{eqb, ltb}
use borrow.Author.Tests.{ltb-false}
use Rattle.std.specs.List.{position}
use Rattle.std.specs.Option.{ok_or, is_some}
use Rattle.paper.specs.Limits.{desk_most}
use Rattle.paper.specs.declared.Refusal.{Refusal}
use Rattle.paper.specs.declared.Refusal.TheVariants.{InUse, AllTaken, NoSuchNumber}
use Rattle.paper.proofs.Tests.{split}
use Rattle.desk_records.specs.declared.Record.{Record}
use Rattle.desk_records.specs.Record.{empty, suits}
use Rattle.desk_records.specs.Moves.{Move}
use Rattle.desk_records.specs.Met.{made, made_new}
use Rattle.desk.specs.declared.Desk.{Desk}
use Rattle.desk.specs.declared as code
use Rattle.desk.specs.Desk.{place, sound, has, record_of, put}
use Rattle.desk.specs.Calls.{Moved, Told, moved, open_number, opened, call_number, called, status_number, told, telling_of}
use Rattle.desk.specs.Met.{admitted, reached, Stepped, Changed}
use Rattle.desk.proofs.Places.{at-absent}
use Rattle.desk.proofs.Finding.{has_number, place-is}

-- what `?` does
abbrev onward : {A B : Type 0} → Result A Refusal → (A → Result B Refusal) → Result B Refusal
onward (Ok x) f = f x
onward (Err k) f = Err k

-- .. and what a call is told of it
abbrev reply : Desk → Result Desk Refusal → Moved
reply d (Ok e) = moved e (Ok tt)
reply d (Err k) = moved d (Err k)

-- the lowest place, as the code finds it
placed : (d : Desk) (n : ℕ) → length d.records ≡ desk_most → position (has_number n) d.records ≡ cond (has n d) (Some (place n d.records)) None
placed d n e = place-is n d.records ∙ ap (λ (l : ℕ). cond (ltb (place n d.records) l) (Some (place n d.records)) None) e

-- reach
abbrev reaching : Desk → ℕ → Result (Unit {0}) Refusal → Result ℕ Refusal
reaching d n a = onward a (λ _. ok_or (cond (has n d) (Some (place n d.records)) None) NoSuchNumber)

reach-steps : (d : Desk) (n : ℕ) → reaching d n (admitted d n) ≡ reached d n
reach-steps d n =
    split (sound d)
    (λ s. split (eqb n 0) (λ t. rw (s, t)) (λ t. split (has n d) (λ u. rw (s, t, u)) (λ u. rw (s, t, u))))
    (λ s. rw s)

pub reach-done : (d : Desk) (n : ℕ) → length d.records ≡ desk_most → (x : Unit {0}) → Ok x ≡ admitted d n → (o : Option ℕ) → o ≡ position (has_number n) d.records
    → ok_or o NoSuchNumber ≡ reached d n
reach-done d n l x a o e = ap (λ y. ok_or y NoSuchNumber) (e ∙ placed d n l) ∙ ap (reaching d n) a ∙ reach-steps d n

pub ruleset reaches = (reach-done)

-- a call that names a known operation
module _ (d : Desk) (n : ℕ) (m : Move) where
  abbrev placing : ℕ → Result Record Refusal → Moved
  placing p x = reply d (onward x (λ r. Ok (put d p r)))

  abbrev calling : Result ℕ Refusal → Moved
  calling g = reply d (onward g (λ p. onward (made m (get_or d.records p empty)) (λ r. Ok (put d p r))))

  steps : calling (reached d n) ≡ called d n m
  unfolding called call_number
  steps =
      split (sound d)
      (λ s. split (eqb n 0)
      (λ t. rw (s, t))
      (λ t. split (has n d)
      (λ u. split (m.allowed (record_of n d)) (λ v. split (m.fits (record_of n d)) (λ w. rw (s, t, u, v, w)) (λ w. rw (s, t, u, v, w))) (λ v. rw (s, t, u, v)))
      (λ u. rw (s, t, u))))
      (λ s. rw s)

  pub call-gate : (k : Refusal) → Err k ≡ reached d n → moved d (Err k) ≡ called d n m
  call-gate k e = ap calling e ∙ steps

  module _ (p : ℕ) (e : Ok p ≡ reached d n) where
    pub call-not : (k : Refusal) → Err k ≡ made m (get_or d.records p empty) → moved d (Err k) ≡ called d n m
    call-not k f = ap (placing p) f ∙ ap calling e ∙ steps

    pub call-done : (r : Record) → Ok r ≡ made m (get_or d.records p empty) → moved (put d p r) (Ok tt) ≡ called d n m
    call-done r f = ap (placing p) f ∙ ap calling e ∙ steps

-- open
module _ (d : Desk) (n kind declared : ℕ) where
  abbrev filling : Record → Result ℕ Refusal → Moved
  filling r p = reply d (onward p (λ p. Ok (put d p r)))

  abbrev recording : Result Record Refusal → Moved
  recording r = reply d (onward r (λ r. onward (ok_or (cond (has 0 d) (Some (place 0 d.records)) None) AllTaken) (λ p. Ok (put d p r))))

  abbrev using : Bool → Moved
  using b = reply d (cond b (Err InUse) (onward (made_new n kind declared) (λ r. onward (ok_or (cond (has 0 d) (Some (place 0 d.records)) None) AllTaken) (λ p. Ok (put d p r)))))

  abbrev entering : Result (Unit {0}) Refusal → Moved
  entering a = reply d (onward a (λ _. cond (has n d) (Err InUse) (onward (made_new n kind declared) (λ r. onward (ok_or (cond (has 0 d) (Some (place 0 d.records)) None) AllTaken) (λ p. Ok (put d p r))))))

  open-steps : entering (admitted d n) ≡ opened d n kind declared
  unfolding opened open_number
  open-steps =
      split (sound d)
      (λ s. split (eqb n 0)
      (λ t. rw (s, t))
      (λ t. split (has n d)
      (λ u. rw (s, t, u))
      (λ u. split (suits kind declared) (λ v. split (has 0 d) (λ w. rw (s, t, u, v, w)) (λ w. rw (s, t, u, v, w))) (λ v. rw (s, t, u, v)))))
      (λ s. rw s)

  pub open-gate : (k : Refusal) → Err k ≡ admitted d n → moved d (Err k) ≡ opened d n kind declared
  open-gate k e = ap entering e ∙ open-steps

  module _ (l : length d.records ≡ desk_most) (x : Unit {0}) (a : Ok x ≡ admitted d n) (o : Option ℕ) (e : o ≡ position (has_number n) d.records) where
    known : is_some o ≡ has n d
    known = ap is_some (e ∙ placed d n l) ∙ split (has n d) (λ t. rw t) (λ t. rw t)

    pub open-used : is_some o ≡ true → moved d (Err InUse) ≡ opened d n kind declared
    open-used t = ap using (sym t ∙ known) ∙ ap entering a ∙ open-steps

    module _ (t : is_some o ≡ false) where
      fresh : recording (made_new n kind declared) ≡ opened d n kind declared
      fresh = ap using (sym t ∙ known) ∙ ap entering a ∙ open-steps

      pub open-wrong : (k : Refusal) → Err k ≡ made_new n kind declared → moved d (Err k) ≡ opened d n kind declared
      open-wrong k f = ap recording f ∙ fresh

      module _ (r : Record) (f : Ok r ≡ made_new n kind declared) (q : Option ℕ) (g : q ≡ position (has_number 0) d.records) where
        filled : filling r (ok_or q AllTaken) ≡ opened d n kind declared
        filled = ap (λ y. filling r (ok_or y AllTaken)) (g ∙ placed d 0 l) ∙ ap recording f ∙ fresh

        pub open-full : (k : Refusal) → Err k ≡ ok_or q AllTaken → moved d (Err k) ≡ opened d n kind declared
        open-full k h = ap (filling r) h ∙ filled

        pub open-done : (p : ℕ) → Ok p ≡ ok_or q AllTaken → moved (put d p r) (Ok tt) ≡ opened d n kind declared
        open-done p h = ap (filling r) h ∙ filled

pub ruleset opens = (open-gate, open-used, open-wrong, open-full, open-done)

-- status
module _ (d : Desk) (n : ℕ) where
  abbrev shown : Record → Result code.Told.Told Refusal
  shown r = Ok (record { state = r.state; received = r.received; due = r.due })

  abbrev telling_on : Result (Unit {0}) Refusal → Told
  telling_on a = telling_of (onward a (λ _. shown (record_of n d)))

  status-steps : telling_on (admitted d n) ≡ told d n
  unfolding told status_number
  status-steps = split (sound d) (λ s. split (eqb n 0) (λ t. rw (s, t)) (λ t. rw (s, t))) (λ s. rw s)

  pub status-not : (k : Refusal) → Err k ≡ admitted d n → telling_of (Err k) ≡ told d n
  status-not k e = ap telling_on e ∙ status-steps

  module _ (l : length d.records ≡ desk_most) (x : Unit {0}) (a : Ok x ≡ admitted d n) where
    pub status-known : (p : ℕ) → Some p ≡ position (has_number n) d.records → telling_of (shown (get_or d.records p empty)) ≡ told d n
    status-known p e =
        split (has n d)
        (λ t.
        let f : Some p ≡ Some (place n d.records) = e ∙ placed d n l ∙ rw t in
        let g : p ≡ place n d.records = cc in
        rw g (ap telling_on a ∙ status-steps))
        (λ t. let f : ◌≡◌ {A = Option ℕ} (Some p) None = e ∙ placed d n l ∙ rw t in cc)

    pub status-unknown : None ≡ position (has_number n) d.records → telling_of (shown empty) ≡ told d n
    status-unknown e =
        split (has n d)
        (λ t. let f : ◌≡◌ {A = Option ℕ} None (Some (place n d.records)) = e ∙ placed d n l ∙ rw t in cc)
        (λ t.
        let h = ltb-false (place n d.records) desk_most t in
        ap (λ r. telling_of (shown r)) (sym (at-absent n d.records (omega (arith, l, h)))) ∙ ap telling_on a ∙ status-steps)

pub ruleset statuses = (status-not, status-known, status-unknown)

-- .. whose step is the move m
pub changed : (by : Record → Result Record Refusal → Type 0) (d : Desk) (n : ℕ) (r : Result (Unit {0}) Refusal) (e : Desk) → Changed by d n r e
    → (m : Move) → ((a : Record) (x : Result Record Refusal) → by a x → x ≡ made m a) → moved e r ≡ called d n m
changed by d n r e c m h = gate (reached d n) refl c.stepped
  where
    step : (p : ℕ) → Ok p ≡ reached d n → (x : Result Record Refusal) → x ≡ made m (get_or d.records p empty) → Stepped d p x r e → moved e r ≡ called d n m
    step p q (Ok next) f s = rw (s.0, s.1) (call-done d n m p q next f)
    step p q (Err k) f s = rw (s.0, s.1) (call-not d n m p q k f)

    gate : (g : Result ℕ Refusal) → g ≡ reached d n
        → MatchResult g (λ p. (x : Result Record Refusal) × by (get_or d.records p empty) x × Stepped d p x r e) (λ k. (r ≡ Err k) × (e ≡ d)) → moved e r ≡ called d n m
    gate (Ok p) q s = step p q s.0 (h (get_or d.records p empty) s.0 s.1) s.2
    gate (Err k) q s = rw (s.0, s.1) (call-gate d n m k q)
