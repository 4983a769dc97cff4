-- The first fault of a payload: the root is refused exactly when a tuple that is reached fails, and with the number and the start of that tuple.
-- Assumes nothing.
--   run-stops, run_stopped   a run is refused exactly when tuples of it are written and fit, and the next one is refused
--   reached-end              a tuple that is reached lies in the payload
--   reached-refused          the root is refused where a tuple that is reached is
--   first_fault              what is refused fails somewhere
--   root-first               the root is refused exactly so
use mathlib.Core.Path.{◌≡◌, refl, sym, ap, ◌∙◌}
use mathlib.Core.Logic.{◌↔◌}
use mathlib.Core.List.{List, [], ◌∷◌}
use mathlib.Core.Bool.{Bool, true, false}
use Prim.Native.Nat.{ℕ, zero, suc, ◌+◌, ◌-◌, ◌<◌, ◌≤◌}
use native.Mathlib.Omega.{arith}
use lib.ListN.{length}
use lib.Seq.{slice}
use lib.Dec.{eqb}
use borrow.Author.Tests.{ltb-false, eqb-true, eqb-false}
use Rattle.paper.specs.Limits.{payload_least, depth_most}
use Rattle.paper.specs.Refusals.{too_deep}
use Rattle.paper.specs.Checks.{choose, Judged, refused, good, after}
use Rattle.paper.proofs.Checks.{never, same_place, same_left, same_thing, followed, need_stop, after_stop}
use Rattle.numbers.specs.Bytes.{Bytes}
use Rattle.numbers.specs.Number.{Found, Refused, Value, number_at}
use Rattle.numbers.proofs.Places.{bytes-slice}
use Rattle.numbers.proofs.Numbers.{number_fault}
use Rattle.dictionary.specs.Formats.{set_form, enum_form}
use Rattle.payload.specs.Tree.{Tuples, none}
use Rattle.payload.specs.Values.{scalar_value, wrong}
use Rattle.payload.specs.Reading.{Single, plain, group, number_for, before, value, shape_of, is_group, body_at, tuple_at, run, inside_of, root_at}
use Rattle.payload.specs.Lying.{Read}
use Rattle.payload.specs.Reached.{Many, numbers, Spot, root_spot, member_spot, Measured, Nested, Counted, its_count, its_option, Next, Reached, at_root, further, Somewhere}
use Rattle.payload.specs.Refusing.{wrong_scalar, left_over, too_deep_at}
use Rattle.payload.proofs.Faults.{Fails, fails_10, fails_11}
use Rattle.payload.proofs.Lying.{number_read, number-goes}
use Rattle.payload.proofs.Scalars.{Misvalued, no_option, no_scalar, misvalued}
use Rattle.payload.proofs.Asked.{tuple_asked, root-asked}
use Rattle.payload.proofs.Sound.{One, many-none, many_cons, one-sound, run_sound, inside-sound}
use Rattle.payload.proofs.Wrongs.{none-wrong}
use Rattle.payload.proofs.Faults.{number_stop, value_stop, judged_at, fails_10, fails_11, due-fails, asked_stop, asked_like}
use Rattle.payload.proofs.Refused.{many-run, base-of, order-of, part-there, part-back, nested-judged, fails-judged}

numbers-before : (x : Single) (t : Tuples) (seen : List ℕ) → numbers (before x t) seen ≡ numbers t (number_for x ∷ seen)
unfolding numbers
numbers-before (plain n x) t seen = refl
numbers-before (group n g kids) t seen = refl

-- a run that was accepted, and the tuple after it refused
module _ (d s : List ℕ) (tuple : ℕ → ℕ → List ℕ → ℕ → ℕ → ℕ → Judged Single) (row e k w : ℕ) where
  moved : {a b : ℕ} {u v : List ℕ} {z z' m m' : ℕ} → a ≡ b → u ≡ v → z ≡ z' → m ≡ m' → tuple row b v z' e m' ≡ refused k w → tuple row a u z e m ≡ refused k w
  moved f g i j y = rw (f, g, i, j) y

  pub run-stops : (j n i : ℕ) (seen : List ℕ) (p l z m : ℕ) (t : Tuples) → j < n → run d s tuple row j i seen p e l ≡ good z m t → tuple row (i + j) (numbers t seen) z e m ≡ refused k w → run d s tuple row n i seen p e l ≡ refused k w
  unfolding run numbers
  run-stops j zero i seen p l z m t h x y = absurd (omega arith)
  run-stops zero (suc n) i seen p l z m t h x y =
      let i' : i ≡ i + 0 = omega arith in
      let y' : tuple row i seen p e l ≡ refused k w = moved i' (ap (λ (u : Tuples). numbers u seen) (same_thing x)) (same_place x) (same_left x) y in
      rw y'
  run-stops (suc j) (suc n) i seen p l z m t h x y =
      let a = followed z m t (tuple row i seen p e l) _ x in
      let b = followed z m t (run d s tuple row j (suc i) (number_for a.2 ∷ seen) a.0 e a.1) _ a.4 in
      let g : numbers b.2 (number_for a.2 ∷ seen) ≡ numbers t seen = sym (numbers-before a.2 b.2 seen) ∙ ap (λ (u : Tuples). numbers u seen) (same_thing b.4) in
      let i' : suc i + j ≡ i + suc j = omega arith in
      let r = run-stops j n (suc i) (number_for a.2 ∷ seen) a.0 a.1 b.0 b.1 b.2 (omega arith) b.3 (moved i' g (same_place b.4) (same_left b.4) y) in
      rw (a.3, r)

-- of n tuples from p on, some are written and fit, and the next one is refused
module _ (d : List ℕ) (room : ℕ) (s : List ℕ) (row e k w : ℕ) (tuple : ℕ → ℕ → List ℕ → ℕ → ℕ → ℕ → Judged Single) where
  pub record Stopped (n i : ℕ) (seen : List ℕ) (p l : ℕ) : Type 0 where
    pub before_it : ℕ
    pub start : ℕ
    pub left : ℕ
    pub tree : Tuples
    pub fewer : before_it < n
    pub many : Many d room s row before_it i seen p e l start left tree
    pub refuses : tuple row (i + before_it) (numbers tree seen) start e left ≡ refused k w

  stop_next : (n i : ℕ) (seen : List ℕ) (p l q m : ℕ) (x : Single) → One d room s row i seen p e l q m x → Stopped n (suc i) (number_for x ∷ seen) q m → Stopped (suc n) i seen p l
  stop_next n i seen p l q m x o f =
      let a : i + suc f.before_it ≡ suc i + f.before_it = omega arith in
      record {
        before_it = suc f.before_it;
        start = f.start;
        left = f.left;
        tree = before x f.tree;
        fewer = omega (arith, f.fewer);
        many = many_cons d room s row f.before_it i seen p e l f.start f.left q m x f.tree o f.many;
        refuses = moved d s tuple row e k w a (numbers-before x f.tree seen) refl refl f.refuses;
      }

  stop_here : (n i : ℕ) (seen : List ℕ) (p l : ℕ) → e ≤ length s → p ≤ e → tuple row i seen p e l ≡ refused k w → Stopped (suc n) i seen p l
  unfolding numbers
  stop_here n i seen p l he h t =
      let a : i + 0 ≡ i = omega arith in
      record { before_it = 0; start = p; left = l; tree = none; fewer = omega arith; many = many-none d room s row i seen p e l h he; refuses = rw a t }

  module _ (he : e ≤ length s) (H : (i : ℕ) (seen : List ℕ) (p l q m : ℕ) (x : Single) → tuple row i seen p e l ≡ good q m x → One d room s row i seen p e l q m x) where
    pub run_stopped : (n i : ℕ) (seen : List ℕ) (p l : ℕ) → p ≤ e → run d s tuple row n i seen p e l ≡ refused k w → Stopped n i seen p l
    unfolding run
    run_stopped zero i seen p l h x = never (sym x)
    run_stopped (suc n) i seen p l h x =
        after_stop (tuple row i seen p e l) _ x (λ y. stop_here n i seen p l he h y) λ q m y g x₁.
        let o = H i seen p l q m y g in
        after_stop (run d s tuple row n (suc i) (number_for y ∷ seen) q e m) _ x₁ (λ z. stop_next n i seen p l q m y o (run_stopped n (suc i) (number_for y ∷ seen) q m o.within z)) λ z j t g' x₂.
        never (sym x₂)

member-judged : (d s : List ℕ) (row i : ℕ) (seen : List ℕ) (at e l room : ℕ) → tuple_at d s (inside_of d s room) row i seen at e l ≡ judged_at d s (member_spot d row i seen at e l room)
member-judged d s row i seen at e l room = tuple_asked d s (inside_of d s room) row i seen at e l

ones : (d s : List ℕ) → Bytes s → (room row e : ℕ) → e ≤ length s → (i : ℕ) (seen : List ℕ) (p l q m : ℕ) (x : Single) → tuple_at d s (inside_of d s room) row i seen p e l ≡ good q m x → One d room s row i seen p e l q m x
ones d s hb room row e h i seen p l q m x = one-sound d s hb room (inside-sound d s hb room) row i seen p e l h q m x

module _ (d s : List ℕ) (budget : ℕ) where
  next-end : (y x : Spot) → Next d s y x → x.end ≤ y.end
  next-end y x n = let e = ap (λ (z : Spot). z.end) n.here in omega (arith, n.counted.nested.measured.within)

  pub reached-end : (x : Spot) → Reached d s budget x → x.end ≤ length s
  reached-end x (at_root e) = let f = ap (λ (z : Spot). z.end) e in omega arith
  reached-end x (further y r n) = omega (arith, next-end y x n, reached-end y r)

  -- a tuple that is refused, and the set or array that holds it
  next-refused : (k w : ℕ) (y x : Spot) → Next d s y x → judged_at d s x ≡ refused k w → judged_at d s y ≡ refused k w
  unfolding inside_of
  next-refused k w y x n h =
      let c = n.counted in
      let r = c.number in
      let i : 0 + n.before_it ≡ n.before_it = omega arith in
      let a : tuple_at d s (inside_of d s n.room) n.row (0 + n.before_it) (numbers n.run []) n.start n.to n.left ≡ refused k w
      = ap (λ (j : ℕ). tuple_at d s (inside_of d s n.room) n.row j (numbers n.run []) n.start n.to n.left) i ∙ member-judged d s n.row n.before_it (numbers n.run []) n.start n.to n.left n.room ∙ sym (ap (judged_at d s) n.here) ∙ h in
      let b = run-stops d s (tuple_at d s (inside_of d s n.room)) n.row n.to k w n.before_it n.tuples 0 [] n.first (y.left - 1) n.start n.left n.run n.fewer (many-run d n.room s n.row n.before_it 0 [] n.first n.to (y.left - 1) n.start n.left n.run n.many) a in
      nested-judged d s y n.row c.from n.to n.room k w c.nested
      (number-goes s r.bytes c.from n.first n.to n.tuples r.lies r.writes r.within y.start _ ∙ rw b)

  pub reached-refused : (k w : ℕ) (x : Spot) → Reached d s budget x → judged_at d s x ≡ refused k w → judged_at d s (root_spot s budget) ≡ refused k w
  reached-refused k w x (at_root e) h = sym (ap (judged_at d s) e) ∙ h
  reached-refused k w x (further y r n) h = reached-refused k w y r (next-refused k w y x n h)

  module _ (hb : Bytes s) (k w : ℕ) where
    here : (x : Spot) → Reached d s budget x → Fails d s k x → w ≡ x.start → Somewhere d s budget (Fails d s k) w
    here x r h e = record { spot = x; reached = r; fails = h; place = e }

    scalar_fault : (x : Spot) → x.end ≤ length s → (n f q z : ℕ) → Measured s x n f q z → is_group f ≡ false → scalar_value d (x.row_for n) f (slice q z s) ≡ wrong k → Fails d s k x
    scalar_fault x he n f q z m g h = go ((misvalued d (x.row_for n) f (slice q z s) k (bytes-slice s q z hb) (ltb-false f 2 g) (base-of s x m).high (base-of s x m).not_real).0 h)
      where
        end : z ≤ length s
        end = omega (arith, m.within)

        option : f ≡ enum_form → Measured s x n enum_form q z
        option e = rw e at m

        read : (j v : ℕ) → number_at (slice q z s) 0 (length (slice q z s)) ≡ Value j v → (r : Found) → number_at s q z ≡ r → (i : ℕ) × (p : ℕ) × Read s q z i p
        read j v e (Value i u) f = (i, q + 1 + u, number_read s q z i u hb end f)
        read j v e (Refused c) f = absurd (let a = part-back s q z (order-of s x m) end c f in let b : ◌≡◌ {A = ℕ} 0 1 = cc in omega arith)

        go : Misvalued d (x.row_for n) f (slice q z s) k → Fails d s k x
        go (no_option e i) = due-fails d s x q z (its_option n (option e)) ((number_fault s q z k).0 (part-there s q z (order-of s x m) end k i))
        go (no_scalar o nothing i) = fails_10 i (wrong_scalar n f q z m (none-wrong d s (x.row_for n) f q z hb (order-of s x m) end nothing (λ e. let u = o e in read u.0 u.1 u.2 (number_at s q z) refl) (ltb-false f 2 g) (base-of s x m)))

    -- the value of a set or array within the depth
    inside_fault : (x : Spot) → Reached d s budget x → (row q z room : ℕ) → Nested s x row q z room → ((y : Spot) → y.room ≡ room → Reached d s budget y → judged_at d s y ≡ refused k w → Somewhere d s budget (Fails d s k) w) → inside_of d s (suc room) row x.start q z (x.left - 1) ≡ refused k w → Somewhere d s budget (Fails d s k) w
    unfolding inside_of
    inside_fault x r row q z room nest H y₀ =
        number_stop (number_at s q z) _ _ _ y₀ (λ f j. here x r (due-fails d s x q z (its_count row room nest) ((number_fault s q z k).0 f)) j) λ n v g y₁.
        let p = q + 1 + v in
        let u = number_read s q z n v hb end g in
        let c : Counted s x row z room n p = record { from = q; nested = nest; number = u } in
        let tuple = tuple_at d s (inside_of d s room) in
        after_stop (run d s tuple row n 0 [] p z (x.left - 1)) _ y₁ (λ y. next n p c (run_stopped d room s row z k w tuple end (ones d s hb room row z end) n 0 [] p (x.left - 1) u.within y)) λ o m t g' y₂.
        let y = run_sound d room s row z end tuple (ones d s hb room row z end) n 0 [] p (x.left - 1) o m t u.within g' in
        need_stop (eqb o z) _ _ _ y₂ (λ b i j. here x r (fails_10 i (left_over row z room n p o m t c y (below o (eqb-false o z b) y.within))) j) λ b y₃. never (sym y₃)
      where
        end : z ≤ length s
        end = omega (arith, nest.measured.within, reached-end x r)

        below : (o : ℕ) → (o ≡ z → ⊥) → o ≤ z → o < z
        below o a b = omega arith

        next : (n p : ℕ) → Counted s x row z room n p → Stopped d room s row z k w (tuple_at d s (inside_of d s room)) n 0 [] p (x.left - 1) → Somewhere d s budget (Fails d s k) w
        next n p c t =
            let i : t.before_it ≡ 0 + t.before_it = omega arith in
            let y = member_spot d row t.before_it (numbers t.tree []) t.start z t.left room in
            H y refl
            (further x r (record { row = row; to = z; room = room; tuples = n; first = p; counted = c; before_it = t.before_it; fewer = t.fewer; start = t.start; left = t.left; run = t.tree; many = t.many; here = refl }))
            (sym (member-judged d s row t.before_it (numbers t.tree []) t.start z t.left room) ∙ ap (λ (j : ℕ). tuple_at d s (inside_of d s room) row j (numbers t.tree []) t.start z t.left) i ∙ t.refuses)

    depth_fault : (x : Spot) (row q z : ℕ) → x.room ≡ 0 → inside_of d s x.room row x.start q z (x.left - 1) ≡ refused k w → (k ≡ too_deep) × (w ≡ x.start)
    unfolding inside_of
    depth_fault x row q z e h = same (rw e at h)
      where
        same : {a b : ℕ} → ◌≡◌ {A = Judged Tuples} (refused a b) (refused k w) → (k ≡ a) × (w ≡ b)
        same e = (cc, cc)

    -- the value of a set or array, and then any tuple: the nesting left falls
    group_fault : (room : ℕ) (x : Spot) → x.room ≡ room → Reached d s budget x → ((y : Spot) (r : ℕ) → suc r ≡ room → y.room ≡ r → Reached d s budget y → judged_at d s y ≡ refused k w → Somewhere d s budget (Fails d s k) w) → (n f q z : ℕ) → Measured s x n f q z → is_group f ≡ true → inside_of d s x.room (x.row_for n) x.start q z (x.left - 1) ≡ refused k w → Somewhere d s budget (Fails d s k) w
    group_fault zero x e r H n f q z m g h = let y = depth_fault x (x.row_for n) q z e h in here x r (fails_11 y.0 (too_deep_at n f q z m g e)) y.1
    group_fault (suc room) x e r H n f q z m g h =
        inside_fault x r (x.row_for n) q z room (record { number = n; form = f; measured = m; grouped = g; row_is = refl; deep = e }) (λ y. H y room refl) (rw e at h)

    body_fault : (x : Spot) → Reached d s budget x → (n f q z : ℕ) → Measured s x n f q z → (inside_of d s x.room (x.row_for n) x.start q z (x.left - 1) ≡ refused k w → is_group f ≡ true → Somewhere d s budget (Fails d s k) w) → body_at d s (inside_of d s x.room) n (x.row_for n) f x.start q z (x.left - 1) ≡ refused k w → Somewhere d s budget (Fails d s k) w
    body_fault x r n f q z m G y = go (is_group f) refl y
      where
        go : (t : Bool) → is_group f ≡ t → choose t (λ _. after (inside_of d s x.room (x.row_for n) x.start q z (x.left - 1)) λ z l kids. good z l (group n (shape_of f) kids)) (λ _. value (scalar_value d (x.row_for n) f (slice q z s)) x.start λ y. good z (x.left - 1) (plain n y)) ≡ refused k w → Somewhere d s budget (Fails d s k) w
        go true g y = after_stop (inside_of d s x.room (x.row_for n) x.start q z (x.left - 1)) _ y (λ h. G h g) λ p j kids u v. never (sym v)
        go false g y = value_stop (scalar_value d (x.row_for n) f (slice q z s)) x.start _ y (λ h j. here x r (scalar_fault x (reached-end x r) n f q z m g h) j) λ y u v. never (sym v)

    pub first_fault : (room : ℕ) (x : Spot) → x.room ≡ room → Reached d s budget x → judged_at d s x ≡ refused k w → Somewhere d s budget (Fails d s k) w
    first_fault zero x e r h =
        asked_stop d s x _ k w hb (reached-end x r) h (here x r) λ n f q z m y.
        body_fault x r n f q z m (λ i g. group_fault zero x e r (λ y j u. absurd (omega arith)) n f q z m g i) y
    first_fault (suc room) x e r h =
        asked_stop d s x _ k w hb (reached-end x r) h (here x r) λ n f q z m y.
        body_fault x r n f q z m (λ i g. group_fault (suc room) x e r (λ y j u v. first_fault room y (v ∙ omega arith)) n f q z m g i) y

    -- the root is a set, so its value is refused as any set's is
    root_like : (root_at d s budget ≡ refused k w) ↔ (judged_at d s (root_spot s budget) ≡ refused k w)
    root_like = (
      λ h. asked_like s (root_spot s budget) _ _ k w (λ n f q z e y. there n f q z e y) (sym (root-asked d s budget) ∙ h),
      λ h. root-asked d s budget ∙ asked_like s (root_spot s budget) _ _ k w (λ n f q z e y. back n f q z e y) h,
    )
      where
        there : (n f q z : ℕ) → eqb f set_form ≡ true → inside_of d s depth_most 0 payload_least q z (budget - 1) ≡ refused k w → body_at d s (inside_of d s depth_most) n 0 f payload_least q z (budget - 1) ≡ refused k w
        there n f q z e y = rw (eqb-true f 0 e, y)

        back : (n f q z : ℕ) → eqb f set_form ≡ true → body_at d s (inside_of d s depth_most) n 0 f payload_least q z (budget - 1) ≡ refused k w → inside_of d s depth_most 0 payload_least q z (budget - 1) ≡ refused k w
        back n f q z e y = after_stop (inside_of d s depth_most 0 payload_least q z (budget - 1)) _ (rw (eqb-true f 0 e) at y) (λ h. h) λ p j kids u v. never (sym v)

    pub root-first : (root_at d s budget ≡ refused k w) ↔ Somewhere d s budget (Fails d s k) w
    root-first = (
      λ h. first_fault depth_most (root_spot s budget) refl (at_root refl) (root_like.0 h),
      λ y. root_like.1 (reached-refused k w y.spot y.reached (fails-judged d s y.spot hb (reached-end y.spot y.reached) k y.fails ∙ ap (refused k) (sym y.place))),
    )
