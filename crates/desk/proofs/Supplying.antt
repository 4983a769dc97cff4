-- What feed answers and leaves in the store, one lemma for each return; and the bounds of its sums, which a sound desk gives.
-- Assumes nothing.
use Rattle.std.proofs.Common.{◌≡◌, ℕ, ◌+◌, ◌*◌, ◌-◌, ◌<◌, ◌≤◌, true, List, length, Result, Ok, Err, sym, ap, ◌∙◌, arith}
use lib.ListN.{get_or}
use lib.Seq.{paste}
use lib.Dec.{leb, eqb}
use borrow.Author.Tests.{eq-eqb, ne_eqb, ltb-true, leb-true, eqb-false}
use Rattle.paper.specs.Limits.{desk_most, declared_most, store_bytes}
use Rattle.paper.specs.declared.Refusal.{Refusal}
use Rattle.paper.specs.declared.Refusal.TheVariants.{NotSound}
use Rattle.paper.proofs.Tests.{and_left, and_right, split}
use Rattle.desk_records.specs.declared.Record.{Record}
use Rattle.desk_records.specs.Record.{needs_input, empty, between}
use Rattle.desk_records.specs.Moves.{feeding}
use Rattle.desk_records.specs.Met.{made}
use Rattle.desk_records.proofs.Moving.{Used, declared_most_lem}
use Rattle.desk.specs.declared.Desk.{Desk}
use Rattle.desk.specs.Desk.{place, sound, has, record_of, put}
use Rattle.desk.specs.Calls.{moved, called, call_number, fed, fed_store, feed_number, Fed}
use Rattle.desk.specs.Met.{reached}
use Rattle.desk.proofs.Soundness.{used-at, sound_records_lem}
use Rattle.desk.proofs.Settling.{full-fed, short-fed, short-store}
use Rattle.desk.proofs.Calling.{call-gate, call-not, call-done}

-- what the gate has shown
record Shown (d : Desk) (n p : ℕ) : Type 0 where
  right : sound d ≡ true
  nonzero : n ≡ 0 → ⊥
  known : place n d.records < desk_most
  there : p ≡ place n d.records

shown : (d : Desk) (n p : ℕ) → Ok p ≡ reached d n → Shown d n p
shown d n p e =
    split (sound d)
    (λ s. split (eqb n 0)
    (λ t. let g = rw (s, t) at e in cc)
    (λ t. split (has n d)
    (λ u. let g = rw (s, t, u) at e in record { right = s; nonzero = eqb-false n 0 t; known = ltb-true _ _ u; there = cc })
    (λ u. let g = rw (s, t, u) at e in cc)))
    (λ s. let g = rw s at e in cc)

module _ (d : Desk) (n p : ℕ) (e : Ok p ≡ reached d n) (eight : length d.records ≡ desk_most) where
  used : Used (get_or d.records p empty)
  used =
      let s = shown d n p e in
      let h : place n d.records < length d.records = omega (arith, s.known) in
      rw s.there (used-at d.records (sound_records_lem d s.right) n s.nonzero h)

  -- the piece ends within its place's bytes
  module _ (count : ℕ) (r : Record) (f : Ok r ≡ made (feeding count) (get_or d.records p empty)) where
    fits : (get_or d.records p empty).received + count ≤ (get_or d.records p empty).declared
    unfolding feeding
    fits =
        let x = get_or d.records p empty in
        split (eqb x.state needs_input)
        (λ t. split (between 1 count (x.declared - x.received))
        (λ u.
        let h = leb-true _ _ (and_right (leb 1 count) (leb count (x.declared - x.received)) u) in
        let l = leb-true _ _ (and_left (leb 1 count) (leb count (x.declared - x.received)) u) in
        omega arith)
        (λ u. let g = rw (t, u) at f in cc))
        (λ t. let g = rw t at f in cc)

    pub feed-fits : (get_or d.records p empty).received + count ≤ declared_most
    feed-fits = let l = declared_most_lem (get_or d.records p empty) used in let h = fits in omega arith

    pub feed-ends : declared_most * p + (get_or d.records p empty).received + count ≤ store_bytes
    feed-ends = let s = shown d n p e in let h = feed-fits in let l = s.known in let t = s.there in omega arith

module _ (d : Desk) (st : List ℕ) (n : ℕ) (pc : List ℕ) where
  pub feed-store : (length st ≡ store_bytes → ⊥) → Fed d st n pc (moved d (Err NotSound)) st
  feed-store z = let t = ne_eqb (length st) store_bytes z in record { moved = sym (short-fed d st n pc t); stored = sym (short-store d st n pc t) }

  -- the store after the steps that the code takes, as `calling` of Calling has the desk
  abbrev keeping : ℕ → Result Record Refusal → List ℕ
  keeping p (Ok r) = paste st (declared_most * p + (get_or d.records p empty).received) pc (length pc)
  keeping p (Err k) = st

  abbrev storing : Result ℕ Refusal → List ℕ
  storing (Ok p) = keeping p (made (feeding (length pc)) (get_or d.records p empty))
  storing (Err k) = st

  module _ (l : length st ≡ store_bytes) where
    full : called d n (feeding (length pc)) ≡ fed d st n pc
    full = sym (full-fed d st n pc (eq-eqb _ _ l))

    store-steps : storing (reached d n) ≡ fed_store d st n pc
    unfolding fed_store feed_number call_number
    store-steps =
        let m = feeding (length pc) in
        let z = eq-eqb (length st) store_bytes l in
        split (sound d)
        (λ s. split (eqb n 0)
        (λ t. rw (z, s, t))
        (λ t. split (has n d)
        (λ u. split (m.allowed (record_of n d)) (λ v. split (m.fits (record_of n d)) (λ w. rw (z, s, t, u, v, w)) (λ w. rw (z, s, t, u, v, w))) (λ v. rw (z, s, t, u, v)))
        (λ u. rw (z, s, t, u))))
        (λ s. rw (z, s))

    pub feed-gate : (k : Refusal) → Err k ≡ reached d n → Fed d st n pc (moved d (Err k)) st
    feed-gate k e = record { moved = call-gate d n (feeding (length pc)) k e ∙ full; stored = ap storing e ∙ store-steps }

    module _ (p : ℕ) (e : Ok p ≡ reached d n) where
      pub feed-not : (k : Refusal) → Err k ≡ made (feeding (length pc)) (get_or d.records p empty) → Fed d st n pc (moved d (Err k)) st
      feed-not k f = record { moved = call-not d n (feeding (length pc)) p e k f ∙ full; stored = ap (keeping p) f ∙ ap storing e ∙ store-steps }

      pub feed-done : (r : Record) → Ok r ≡ made (feeding (length pc)) (get_or d.records p empty) → (st' : List ℕ)
          → st' ≡ paste st (declared_most * p + (get_or d.records p empty).received) pc (length pc) → Fed d st n pc (moved (put d p r) (Ok tt)) st'
      feed-done r f st' g = record { moved = call-done d n (feeding (length pc)) p e r f ∙ full; stored = g ∙ ap (keeping p) f ∙ ap storing e ∙ store-steps }

pub ruleset feeds = (feed-store, feed-gate, feed-not, feed-done)
