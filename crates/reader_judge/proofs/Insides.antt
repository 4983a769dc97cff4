-- The value of a set or array: what each return and each turn of the loop of `inside` has to show. What is left to read and to measure makes up the whole.
-- Assumes nothing.
use Prim.Native.Nat.{ℕ, ◌+◌, ◌-◌, ◌*◌, ◌≤◌, ◌<◌}
use mathlib.Core.Path.{◌≡◌, refl, sym, ap, ◌∙◌}
use mathlib.Core.List.{List, [], ◌∷◌}
use mathlib.Core.Bool.{Bool, true, false}
use native.Mathlib.Omega.{arith}
use lib.ListN.{length}
use lib.Dec.{eqb}
use borrow.Author.Tests.{eq-eqb, ne_eqb}
use Rattle.std.specs.Prelude.{Result, Ok, Err}
use Rattle.paper.specs.declared.Refused as declared
use Rattle.paper.specs.declared.Refusal.{Refusal}
use Rattle.paper.specs.Refusal.{number_of}
use Rattle.paper.specs.Refusals.{value_wrong, too_deep}
use Rattle.paper.specs.Checks.{choose, Judged, refused, good, need, after}
use Rattle.numbers.specs.Number.{Found}
use Rattle.numbers.specs.Number as found
use Rattle.numbers.specs.Met.{NumberMet}
use Rattle.payload.specs.Tree.{Tuples}
use Rattle.payload.specs.Fits.{child}
use Rattle.payload.specs.Text.{label, comma_at, text_of}
use Rattle.payload.specs.Reading.{Single, plain, group, shape_of, number_for, before, tuple_at, run, inside_of}
use Rattle.payload.proofs.Steps.{run_more, run-done, inside-deep, inside_at, inside-ends, one_long, none-long, before-long}
use Rattle.repeats.specs.Roll.{Blank, Kept}
use Rattle.repeats.proofs.Rolls.{keep-start}
use Rattle.reader_fields.specs.declared.Extent.{Extent}
use Rattle.reader_members.specs.declared.member.Body.{Body}
use Rattle.reader_members.specs.declared.member.Body.TheVariants as body
use Rattle.reader_members.specs.Met.{Site, PlainPlaced, GroupPlaced, MemberMet}
use Rattle.reader_judge.specs.Met.{Judgement, Refused, Good, placed, verdict, InsideMet}

-- a run from position i on, with t bytes of text before it
abbrev measured : List ℕ → ℕ → ℕ → ℕ → Judged Tuples → Judged ℕ
measured d row i t (refused k w) = refused k w
measured d row i t (good z l kids) = good z l (t + length (text_of d kids row i))

-- bytes left are judged after the tuples
abbrev closing : ℕ → ℕ → Judged ℕ → Judgement
closing at q (refused k w) = Refused k w
closing at q (good z l t) = choose (eqb z q) (λ _. Good l t) (λ _. Refused value_wrong at)

closed : (d : List ℕ) (row at q : ℕ) (R : Judged Tuples) → verdict d row (after R λ z l kids. need (eqb z q) value_wrong at λ _. good q l kids) ≡ closing at q (measured d row 0 0 R)
closed d row at q (refused k w) = refl
closed d row at q (good z l kids) = by (eqb z q)
  where
    by : (t : Bool) → verdict d row (need t value_wrong at λ _. good q l kids) ≡ choose t (λ _. Good l (0 + length (text_of d kids row 0))) (λ _. Refused value_wrong at)
    by true = ap (Good l) (omega arith)
    by false = refl

-- a tuple that is read moves on
measured-more : (d : List ℕ) (row i t u : ℕ) (x : Single) (R : Judged Tuples) → u ≡ length (comma_at i) + length (label d row (number_for x)) + one_long d row x → measured d row i t (after R λ z m rest. good z m (before x rest)) ≡ measured d row (i + 1) (t + u) R
measured-more d row i t u x (refused k w) e = refl
measured-more d row i t u x (good z m rest) e = ap (good z m) (omega (arith, before-long d row i x rest, e))

-- what an answer says of what the definition finds
told-refused : (d : List ℕ) (row k w : ℕ) (x : Judged Tuples) → Refused k w ≡ verdict d row x → x ≡ refused k w
told-refused d row k w (refused a b) e = cc
told-refused d row k w (good z l kids) e = absurd (let z : ◌≡◌ {A = ℕ} 0 1 = cc in omega arith)

told-good : (d : List ℕ) (row l t : ℕ) (x : Judged Tuples) → Good l t ≡ verdict d row x → (z : ℕ) × (kids : Tuples) × (x ≡ good z l kids) × (t ≡ length (text_of d kids row 0))
told-good d row l t (refused a b) e = absurd (let z : ◌≡◌ {A = ℕ} 0 1 = cc in omega arith)
told-good d row l t (good z m kids) e = let f : m ≡ l = cc in (z, kids, ap (λ (j : ℕ). good z j kids) f, cc)

pub record FoundInside (d s : List ℕ) (room row at from to l m t : ℕ) : Type 0 where
  pub kids : Tuples
  pub found : inside_of d s room row at from to l ≡ good to m kids
  pub measures : t ≡ length (text_of d kids row 0)
  pub short : t + 104 * from ≤ 104 * to

pub inside_found : (d s : List ℕ) (room row at from to l m t : ℕ) → InsideMet d s room row at from to l (Good m t) → FoundInside d s room row at from to l m t
inside_found d s room row at from to l m t v =
    let a = told-good d row m t (inside_of d s room row at from to l) v.same in
    let z = inside-ends d s room row at from to l a.0 m a.1 a.2 in
    record { kids = a.1; found = a.2 ∙ ap (λ (j : ℕ). good j m a.1) z; measures = a.3; short = v.short }

pub inside-refused : (d s : List ℕ) (room row at from to l k w : ℕ) → InsideMet d s room row at from to l (Refused k w) → inside_of d s room row at from to l ≡ refused k w
inside-refused d s room row at from to l k w v = told-refused d row k w (inside_of d s room row at from to l) v.same

-- what was given its place
pub ok-placed : {T : Type 0} (r : Result T Refusal) (p : ℕ) {R : Result T declared.Refused} {x : T} → R ≡ placed r p → R ≡ Ok x → r ≡ Ok x
ok-placed {T} r p {R} {x} e g = go r (sym e ∙ g)
  where
    go : (r : Result T Refusal) → placed r p ≡ Ok x → r ≡ Ok x
    go (Ok y) h = let z : y ≡ x = cc in ap Ok z
    go (Err k) h = absurd (let z : ◌≡◌ {A = ℕ} 0 1 = cc in omega arith)

pub err-placed : {T : Type 0} (r : Result T Refusal) (p : ℕ) {R : Result T declared.Refused} {k : declared.Refused} → R ≡ placed r p → R ≡ Err k → (r ≡ Err k.refusal) × (p ≡ k.place)
err-placed {T} r p {R} {k} e g = go r (sym e ∙ g)
  where
    go : (r : Result T Refusal) → placed r p ≡ Err k → (r ≡ Err k.refusal) × (p ≡ k.place)
    go (Ok y) h = absurd (let z : ◌≡◌ {A = ℕ} 0 1 = cc in omega arith)
    go (Err j) h = let z : ◌≡◌ {A = declared.Refused} record { refusal = j; place = p } k = cc in (ap (λ (v : declared.Refused). Err v.refusal) z, ap (λ (v : declared.Refused). v.place) z)

-- the loop at the i-th of n tuples, from `first` on
module _ (d s : List ℕ) (room row to n first l₀ : ℕ) where
  abbrev Running : ℕ → ℕ → List ℕ → ℕ → ℕ → Judged Tuples
  Running k i seen p l = run d s (tuple_at d s (inside_of d s room)) row k i seen p to l

  pub record Loop (bits : List ℕ) (pos l t i : ℕ) : Type 0 where
    pub seen : List ℕ
    pub whole : measured d row 0 0 (Running n 0 [] first l₀) ≡ measured d row i t (Running (n - i) i seen pos l)
    pub kept : Kept d row seen bits
    pub counted : i ≤ n
    pub within : pos ≤ to
    pub short : t + 104 * first ≤ 104 * pos

  loop_start : (bits : List ℕ) → Blank bits → first ≤ to → Loop bits first l₀ 0 0
  loop_start bits b h =
      let z : n - 0 ≡ n = omega arith in
      record { seen = []; whole = rw z; kept = keep-start d row bits b; counted = omega arith; within = h; short = omega arith }

  module _ (bits : List ℕ) (pos l t i : ℕ) (a : Loop bits pos l t i) where
    loop_done : n ≤ i → measured d row 0 0 (Running n 0 [] first l₀) ≡ good pos l t
    loop_done h =
        a.whole
        ∙ ap (measured d row i t) (run-done d s (tuple_at d s (inside_of d s room)) row n i a.seen pos to l h)
        ∙ ap (good pos l) (omega (arith, none-long d row i))

    module _ (h : i < n) where
      next : measured d row 0 0 (Running n 0 [] first l₀) ≡ measured d row i t (after (tuple_at d s (inside_of d s room) row i a.seen pos to l) (λ q m x. after (Running (n - (i + 1)) (i + 1) (number_for x ∷ a.seen) q m) λ z k rest. good z k (before x rest)))
      next = a.whole ∙ ap (measured d row i t) (run_more d s (tuple_at d s (inside_of d s room)) row n i a.seen pos to l h)

      stopped : (k w : ℕ) → tuple_at d s (inside_of d s room) row i a.seen pos to l ≡ refused k w → measured d row 0 0 (Running n 0 [] first l₀) ≡ refused k w
      stopped k w e = next ∙ rw e

      moved : (q m u : ℕ) (x : Single) → tuple_at d s (inside_of d s room) row i a.seen pos to l ≡ good q m x → u ≡ length (comma_at i) + length (label d row (number_for x)) + one_long d row x → measured d row 0 0 (Running n 0 [] first l₀) ≡ measured d row (i + 1) (t + u) (Running (n - (i + 1)) (i + 1) (number_for x ∷ a.seen) q m)
      moved q m u x e f = next ∙ rw e (measured-more d row i t u x (Running (n - (i + 1)) (i + 1) (number_for x ∷ a.seen) q m) f)

      module _ (bits' : List ℕ) where
        loop_bad : {k : Refusal} → MemberMet d s row i bits pos to l (Err k) bits' → measured d row 0 0 (Running n 0 [] first l₀) ≡ refused (number_of k) pos
        loop_bad {k} v = stopped (number_of k) pos ((v.told a.seen a.kept).told (inside_of d s room))

        module _ (c f : ℕ) (B : Body) (v : MemberMet d s row i bits pos to l (Ok record { row = c; front = f; body = B }) bits') where
          pub loop_plain : (q u : ℕ) → B ≡ body.Plain q u → Loop bits' q (l - 1) (t + (f + u)) (i + 1)
          loop_plain q u g = by (rw g at v)
            where
              by : MemberMet d s row i bits pos to l (Ok record { row = c; front = f; body = body.Plain q u }) bits' → Loop bits' q (l - 1) (t + (f + u)) (i + 1)
              by v =
                  let y = v.told a.seen a.kept in
                  let z = v.placed in
                  record {
                    seen = y.number ∷ a.seen;
                    whole = moved q (l - 1) (f + u) (plain y.number y.value) (y.told (inside_of d s room)) y.length_of;
                    kept = y.kept;
                    counted = omega arith;
                    within = z.within;
                    short = omega (arith, z.short, a.short);
                  }

          module _ (V : Extent) (g : B ≡ body.Group V) where
            loop_inner : (k w : ℕ) → InsideMet d s room c pos V.from V.to (l - 1) (Refused k w) → measured d row 0 0 (Running n 0 [] first l₀) ≡ refused k w
            loop_inner k w o = by (rw g at v)
              where
                by : MemberMet d s row i bits pos to l (Ok record { row = c; front = f; body = body.Group V }) bits' → measured d row 0 0 (Running n 0 [] first l₀) ≡ refused k w
                by v =
                    let y = v.told a.seen a.kept in
                    stopped k w (y.told (inside_of d s room) ∙ rw (inside-refused d s room c pos V.from V.to (l - 1) k w o))

            pub loop_group : (m b : ℕ) → InsideMet d s room c pos V.from V.to (l - 1) (Good m b) → Loop bits' V.to m (t + (f + 2 + b)) (i + 1)
            loop_group m b o = by (rw g at v) (inside_found d s room c pos V.from V.to (l - 1) m b o)
              where
                by : MemberMet d s row i bits pos to l (Ok record { row = c; front = f; body = body.Group V }) bits' → FoundInside d s room c pos V.from V.to (l - 1) m b → Loop bits' V.to m (t + (f + 2 + b)) (i + 1)
                by v x =
                    let y = v.told a.seen a.kept in
                    let p = v.placed in
                    let j = x.kids in
                    let w : f + 2 + b ≡ length (comma_at i) + length (label d row y.number) + (2 + length (text_of d j (child d row y.number) 0)) = omega (arith, y.length_of, x.measures, ap (λ (r : ℕ). length (text_of d j r 0)) y.is_child) in
                    record {
                      seen = y.number ∷ a.seen;
                      whole = moved V.to m (f + 2 + b) (group y.number (shape_of y.format) j) (y.told (inside_of d s room) ∙ rw x.found) w;
                      kept = y.kept;
                      counted = omega arith;
                      within = p.within;
                      short = omega (arith, p.short, a.short, x.short);
                    }

-- each return
module _ (d s : List ℕ) (room row at from to l₀ : ℕ) where
  pub inside_too_deep : room ≡ 0 → InsideMet d s room row at from to l₀ (Refused too_deep at)
  inside_too_deep h = record { same = rw (inside-deep d s room row at from to l₀ h); short = tt }

  module _ (some : room ≡ 0 → ⊥) where
    pub inside_fault : (k : Refusal) → NumberMet s from to (found.Refused (number_of k)) → InsideMet d s room row at from to l₀ (Refused (number_of k) at)
    inside_fault k m = record { same = rw (inside_at d s room row at from to l₀ some, ← m.same); short = tt }

    module _ (n w : ℕ) (m : NumberMet s from to (found.Value n w)) where
      pub inside-start : (bits : List ℕ) → Blank bits → Loop d s (room - 1) row to n (from + 1 + w) l₀ bits (from + 1 + w) l₀ 0 0
      inside-start bits b = loop_start d s (room - 1) row to n (from + 1 + w) l₀ bits b m.met.within

      verdict-is : verdict d row (inside_of d s room row at from to l₀) ≡ closing at to (measured d row 0 0 (run d s (tuple_at d s (inside_of d s (room - 1))) row n 0 [] (from + 1 + w) to l₀))
      verdict-is =
          ap (verdict d row) (inside_at d s room row at from to l₀ some)
          ∙ rw (← m.same) (closed d row at to (run d s (tuple_at d s (inside_of d s (room - 1))) row n 0 [] (from + 1 + w) to l₀))

      refusing : (k v : ℕ) → measured d row 0 0 (run d s (tuple_at d s (inside_of d s (room - 1))) row n 0 [] (from + 1 + w) to l₀) ≡ refused k v → InsideMet d s room row at from to l₀ (Refused k v)
      refusing k v e = record { same = sym (verdict-is ∙ ap (closing at to) e); short = tt }

      module _ (bits : List ℕ) (pos l t i : ℕ) (a : Loop d s (room - 1) row to n (from + 1 + w) l₀ bits pos l t i) where
        module _ (h : i < n) (bits' : List ℕ) where
          pub inside-bad : {k : Refusal} → MemberMet d s row i bits pos to l (Err k) bits' → InsideMet d s room row at from to l₀ (Refused (number_of k) pos)
          inside-bad {k} v = refusing (number_of k) pos (loop_bad d s (room - 1) row to n (from + 1 + w) l₀ bits pos l t i a h bits' v)

          pub inside-inner : (c f : ℕ) (B : Body) → MemberMet d s row i bits pos to l (Ok record { row = c; front = f; body = B }) bits' → (V : Extent) → B ≡ body.Group V → {k e : ℕ} → InsideMet d s (room - 1) c pos V.from V.to (l - 1) (Refused k e) → InsideMet d s room row at from to l₀ (Refused k e)
          inside-inner c f B v V g {k} {e} o = refusing k e (loop_inner d s (room - 1) row to n (from + 1 + w) l₀ bits pos l t i a h bits' c f B v V g k e o)

        module _ (h : n ≤ i) where
          over : measured d row 0 0 (run d s (tuple_at d s (inside_of d s (room - 1))) row n 0 [] (from + 1 + w) to l₀) ≡ good pos l t
          over = loop_done d s (room - 1) row to n (from + 1 + w) l₀ bits pos l t i a h

          pub inside-left : (pos ≡ to → ⊥) → InsideMet d s room row at from to l₀ (Refused value_wrong at)
          inside-left x = record { same = sym (verdict-is ∙ ap (closing at to) over ∙ rw (ne_eqb pos to x)); short = tt }

          pub inside-good : pos ≡ to → InsideMet d s room row at from to l₀ (Good l t)
          inside-good x = record { same = sym (verdict-is ∙ ap (closing at to) over ∙ rw (eq-eqb pos to x)); short = omega (arith, a.short, x) }

-- the bounds that the code asks
module _ (d s : List ℕ) (row i : ℕ) (bits : List ℕ) (pos to l : ℕ) (bits' : List ℕ) (c f : ℕ) (B : Body) (v : MemberMet d s row i bits pos to l (Ok record { row = c; front = f; body = B }) bits') where
  pub plain-met : (q u : ℕ) → B ≡ body.Plain q u → PlainPlaced pos to l q (f + u)
  plain-met q u g = by (rw g at v)
    where
      by : MemberMet d s row i bits pos to l (Ok record { row = c; front = f; body = body.Plain q u }) bits' → PlainPlaced pos to l q (f + u)
      by v = v.placed

  module _ (V : Extent) (g : B ≡ body.Group V) where
    pub group-met : GroupPlaced d pos to l c V.from V.to (f + 2)
    group-met = by (rw g at v)
      where
        by : MemberMet d s row i bits pos to l (Ok record { row = c; front = f; body = body.Group V }) bits' → GroupPlaced d pos to l c V.from V.to (f + 2)
        by v = v.placed

    pub group-site : Site d s row to → Site d s c V.to
    group-site w =
        let y = group-met in
        record {
          holder = record { accepted = w.holder.accepted; inside = y.inside; holds = y.holds };
          within = omega (arith, y.within, w.within);
          few = w.few;
        }
