-- Two lists of calls have the same calls on every number, in the same order, exactly when neighbours on different numbers that change turns lead from
-- one to the other: so the premise of `mixing` says "two orders of the same calls that keep each operation's own calls in order".
-- Assumes nothing.
use Prim.Native.Nat.{ℕ}
use mathlib.Core.Path.{◌≡◌, refl, sym, ap, ◌∙◌}
use mathlib.Core.Logic.{◌↔◌}
use mathlib.Core.List.{List, [], ◌∷◌}
use native.Mathlib.Omega.{arith}
use lib.Dec.{eqb}
use borrow.Author.Tests.{eqb-true, eqb-false, eq-eqb, ne_eqb}
use Rattle.swapping.specs.Calls.{Calls, own, Reorders, none, first, pass, further}
use Rattle.paper.proofs.Tests.{split}

module _ (C : Calls) where
  same : (cs : List C.Call) → Reorders C cs cs
  same [] = none
  same (c ∷ cs) = first (same cs)

  back : {cs ds : List C.Call} → Reorders C cs ds → Reorders C ds cs
  back none = none
  back (first r) = first (back r)
  back (pass ne) = pass (λ e. ne (sym e))
  back (further r s) = further (back s) (back r)

  own-mine : (n : ℕ) (c : C.Call) (cs : List C.Call) → C.named c ≡ n → own C n (c ∷ cs) ≡ c ∷ own C n cs
  unfolding own
  own-mine n c cs e = rw (eq-eqb _ _ e)

  own_other : (n : ℕ) (c : C.Call) (cs : List C.Call) → (C.named c ≡ n → ⊥) → own C n (c ∷ cs) ≡ own C n cs
  unfolding own
  own_other n c cs ne = rw (ne_eqb _ _ ne)

  own-none : (n : ℕ) → own C n [] ≡ []
  unfolding own
  own-none n = refl

  own_cons : (n : ℕ) (c : C.Call) (cs ds : List C.Call) → own C n cs ≡ own C n ds → own C n (c ∷ cs) ≡ own C n (c ∷ ds)
  unfolding own
  own_cons n c cs ds e = rw e

  own-pass : (n : ℕ) (c e : C.Call) (cs : List C.Call) → (C.named c ≡ C.named e → ⊥) → own C n (c ∷ e ∷ cs) ≡ own C n (e ∷ c ∷ cs)
  own-pass n c e cs ne =
      split (eqb (C.named c) n)
      (λ t.
      let a = eqb-true (C.named c) n t in
      let b : C.named e ≡ n → ⊥ = λ y. ne (a ∙ sym y) in
      own-mine n c (e ∷ cs) a ∙ ap (λ (l : List C.Call). c ∷ l) (own_other n e cs b) ∙ sym (own_other n e (c ∷ cs) b ∙ own-mine n c cs a))
      (λ t.
      let a = eqb-false (C.named c) n t in
      own_other n c (e ∷ cs) a ∙ own_cons n e cs (c ∷ cs) (sym (own_other n c cs a)))

  pub reorders_own : {cs ds : List C.Call} → Reorders C cs ds → (n : ℕ) → own C n cs ≡ own C n ds
  reorders_own none n = refl
  reorders_own (first {c = c} {cs = cs} {ds = ds} r) n = own_cons n c cs ds (reorders_own r n)
  reorders_own (pass {c = c} {e = e} {cs = cs} ne) n = own-pass n c e cs ne
  reorders_own (further r s) n = reorders_own r n ∙ reorders_own s n

  -- a call that is the first of its number goes to the front
  record Front (c : C.Call) (ds rest : List C.Call) : Type 0 where
    others : List C.Call
    moved : Reorders C ds (c ∷ others)
    mine : own C (C.named c) others ≡ rest

  cons_tail : {c e : C.Call} {cs ds : List C.Call} → ◌≡◌ {A = List C.Call} (c ∷ cs) (e ∷ ds) → cs ≡ ds
  cons_tail h = cc

  cons_head : {c e : C.Call} {cs ds : List C.Call} → ◌≡◌ {A = List C.Call} (c ∷ cs) (e ∷ ds) → c ≡ e
  cons_head h = cc

  none_cons : {c : C.Call} {cs : List C.Call} → ◌≡◌ {A = List C.Call} [] (c ∷ cs) → ⊥
  none_cons h = let z : ◌≡◌ {A = ℕ} 0 1 = cc in omega arith

  front : (c : C.Call) (ds rest : List C.Call) → own C (C.named c) ds ≡ c ∷ rest → Front c ds rest
  front c [] rest h = absurd (none_cons (sym (own-none (C.named c)) ∙ h))
  front c (e ∷ ds) rest h =
      split (eqb (C.named e) (C.named c))
      (λ t.
      let g = sym (own-mine (C.named c) e ds (eqb-true _ _ t)) ∙ h in
      record { others = ds; moved = rw (cons_head g) (same (c ∷ ds)); mine = cons_tail g })
      (λ t.
      let ne = eqb-false (C.named e) (C.named c) t in
      let f = front c ds rest (sym (own_other (C.named c) e ds ne) ∙ h) in
      record { others = e ∷ f.others; moved = further (first f.moved) (pass ne); mine = own_other (C.named c) e f.others ne ∙ f.mine })

  pub own_reorders : (cs ds : List C.Call) → ((n : ℕ) → own C n cs ≡ own C n ds) → Reorders C cs ds
  own_reorders [] [] h = none
  own_reorders [] (e ∷ ds) h = absurd (none_cons (sym (own-none (C.named e)) ∙ h (C.named e) ∙ own-mine (C.named e) e ds refl))
  own_reorders (c ∷ cs) ds h =
      let f = front c ds (own C (C.named c) cs) (sym (h (C.named c)) ∙ own-mine (C.named c) c cs refl) in
      further (first (own_reorders cs f.others (λ n.
      split (eqb (C.named c) n)
      (λ t. rw (← eqb-true (C.named c) n t) (sym f.mine))
      (λ t.
      let ne = eqb-false (C.named c) n t in
      sym (own_other n c cs ne) ∙ h n ∙ reorders_own f.moved n ∙ own_other n c f.others ne))))
      (back f.moved)

  pub orders : (cs ds : List C.Call) → ((n : ℕ) → own C n cs ≡ own C n ds) ↔ Reorders C cs ds
  orders cs ds = (own_reorders cs ds, reorders_own)
