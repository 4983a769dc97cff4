-- Under an accepted dictionary a text is the text of one tree at most, of those that bytes write.
-- Assumes nothing.
--   Sound t               each scalar of the tree is one that bytes hold; writes-sound, payload-sound
--   runs                  two runs of a row, each before the bracket that closes its value, that make one text are one
--   sound_unique          so two trees with one text are one; text_unique: of trees that payloads write
--   means-tree            payloads that mean one text have one tree, and one count
--   shortest-text         of all payloads that mean a text, none has fewer bytes than the writer writes for it; brief_text: and those mean it
use mathlib.Core.Path.{◌≡◌, refl, sym, ap, ◌∙◌}
use mathlib.Core.List.{List, [], ◌∷◌, ◌++◌, append_assoc, append_cancel_left, head-eq_of_cons-eq, tail-eq_of_cons-eq}
use mathlib.Core.Bool.{true}
use Prim.Native.Nat.{ℕ, zero, suc, ◌<◌, ◌≤◌}
use native.Mathlib.Omega.{arith}
use lib.ListN.{length}
use Rattle.numbers.proofs.Decimals.{Stop}
use Rattle.dictionary.specs.Rows.{entries, kind}
use Rattle.dictionary.specs.Accepts.{accepts}
use Rattle.dictionary.proofs.Laws.{accepted_header}
use Rattle.payload.specs.Tree.{Scalar, Tuples, none, scalar, inner, shape_format}
use Rattle.payload.specs.declared.Shape.{Shape}
use Rattle.payload.specs.declared.Shape.TheVariants.{Set, Array}
use Rattle.payload.specs.Writes.{Writes, Payload}
use Rattle.payload.specs.Fits.{Fits, child, fits, known}
use Rattle.payload.specs.Text.{comma, opens, closes, word, comma_at, text_of, root_text, root_count, Means}
use Rattle.payload.proofs.Sitting.{fits-own, child-inside}
use Rattle.payload.proofs.Unique.{shape-low}
use Rattle.text.specs.Shortest.{payload_of}
use Rattle.payload.proofs.Unique.{shape_unique}
use Rattle.text.proofs.Shortest.{Brief, payload-shortest, means-shortest}
use Rattle.text.proofs.Labels.{labels, label-closes}
use Rattle.text.proofs.Words.{Proper, holds-proper, word_first, words}

unfoldable pub Sound : Tuples → Type 0
Sound none = Unit {0}
Sound (scalar n x rest) = Proper x × Sound rest
Sound (inner n g kids rest) = Sound kids × Sound rest

pub writes-sound : (t : Tuples) (b : List ℕ) → Writes t b → Sound t
unfolding Writes Sound
writes-sound none b w = tt
writes-sound (scalar n x rest) b w =
    let z = w.here.rest.rest in
    (holds-proper x z.value z.here, writes-sound rest w.back w.rest)
writes-sound (inner n g kids rest) b w =
    let c = w.here.rest.rest.here in
    (writes-sound kids c.back c.rest, writes-sound rest w.back w.rest)

pub payload-sound : (t : Tuples) (b : List ℕ) → Payload t b → Sound t
payload-sound t b p = let c = p.root.rest.rest.here in writes-sound t c.back c.rest

not-comma : (g : Shape) → closes g ≡ comma → ⊥
not-comma Set e = omega arith
not-comma Array e = omega arith

not-open : (g : Shape) → opens g ≡ closes Array → ⊥
not-open Set e = omega arith
not-open Array e = omega arith

module _ (d : List ℕ) where
  -- the format of a group that fits a row is the row's
  pub group-kind : (row : ℕ) (g : Shape) → fits d row (shape_format g) ≡ true → kind d row ≡ shape_format g
  group-kind row g f = sym ((fits-own d row (shape_format g) (λ z. omega (arith, z, shape-low g))).0 f)

  no_bracket : (row : ℕ) (x : Scalar) (g : Shape) (c y : List ℕ) → Proper x → word d row x ++ c ≡ opens g ∷ y → ⊥
  no_bracket row x Set c y p e = omega (arith, (word_first d row x c y (opens Set) p e).under)
  no_bracket row x Array c y p e = (word_first d row x c y (opens Array) p e).square (omega arith) (omega arith)

  stop_run : (t : Tuples) (g : Shape) (row i : ℕ) (x : List ℕ) → Stop (text_of d t row (suc i) ++ (closes g ∷ x))
  unfolding text_of
  stop_run none Set row i x = refl
  stop_run none Array row i x = refl
  stop_run (scalar n v rest) g row i x = refl
  stop_run (inner n h kids rest) g row i x = refl

  -- a run that ends here is not one that goes on
  ended-scalar : (n : ℕ) (v : Scalar) (rest : Tuples) (g : Shape) (row i : ℕ) (x y : List ℕ) {A : Type 0} → kind d row ≡ shape_format g → Proper v → closes g ∷ x ≡ text_of d (scalar n v rest) row i ++ y → A
  unfolding text_of
  ended-scalar n v rest g row zero x y k p e =
      let z = label-closes d row n g _ x k (sym (simp append_assoc at e)) in
      absurd ((word_first d (child d row n) v _ x (closes Array) p z).square (omega arith) (omega arith))
  ended-scalar n v rest g row (suc i) x y k p e = absurd (not-comma g (head-eq_of_cons-eq e))

  ended-inner : (n : ℕ) (h : Shape) (kids rest : Tuples) (g : Shape) (row i : ℕ) (x y : List ℕ) {A : Type 0} → kind d row ≡ shape_format g → closes g ∷ x ≡ text_of d (inner n h kids rest) row i ++ y → A
  unfolding text_of
  ended-inner n h kids rest g row zero x y k e =
      let z = label-closes d row n g _ x k (sym (simp append_assoc at e)) in
      absurd (not-open h (head-eq_of_cons-eq z))
  ended-inner n h kids rest g row (suc i) x y k e = absurd (not-comma g (head-eq_of_cons-eq e))

module _ (d : List ℕ) (ok : accepts d ≡ true) where
  pub inside : (g : Shape) (row i n : ℕ) → row < entries d → kind d row ≡ shape_format g → known d row i n ≡ true → child d row n < entries d
  inside g row i n h k e = child-inside d ok row h i n (omega (arith, k, shape-low g)) e

  pub runs : (t u : Tuples) (g : Shape) (row i : ℕ) (seen x y : List ℕ) → row < entries d → kind d row ≡ shape_format g → Sound t → Sound u → Fits d t row i seen → Fits d u row i seen → text_of d t row i ++ (closes g ∷ x) ≡ text_of d u row i ++ (closes g ∷ y) → (t ≡ u) × (x ≡ y)
  unfolding text_of Fits Sound
  runs none none g row i seen x y l k p q f h e = (refl, tail-eq_of_cons-eq e)
  runs none (scalar m w r) g row i seen x y l k p q f h e = ended-scalar d m w r g row i x (closes g ∷ y) k q.0 e
  runs none (inner m b j r) g row i seen x y l k p q f h e = ended-inner d m b j r g row i x (closes g ∷ y) k e
  runs (scalar n v s) none g row i seen x y l k p q f h e = ended-scalar d n v s g row i y (closes g ∷ x) k p.0 (sym e)
  runs (scalar n v s) (scalar m w r) g row i seen x y l k p q f h e =
      let c = append_cancel_left (comma_at i) _ _ (simp append_assoc at e) in
      let z = labels d ok g row i n m _ _ l k f.0.is_known h.0.is_known c in
      let b : word d (child d row n) v ++ (text_of d s row (suc i) ++ (closes g ∷ x)) ≡ word d (child d row n) w ++ (text_of d r row (suc i) ++ (closes g ∷ y)) = rw (← z.0) at z.1 in
      let o = words d ok (child d row n) (inside g row i n l k f.0.is_known) v w _ _ f.0.does_fit (rw (← z.0) at h.0.does_fit) f.1 (rw (← z.0) at h.1) p.0 q.0 (stop_run d s g row i x) (stop_run d r g row i y) b in
      let a = runs s r g row (suc i) (n ∷ seen) x y l k p.1 q.1 f.2 (rw (← z.0) at h.2) o.1 in
      (rw (z.0, o.0, a.0), a.1)
  runs (scalar n v s) (inner m b j r) g row i seen x y l k p q f h e =
      let c = append_cancel_left (comma_at i) _ _ (simp append_assoc at e) in
      let z = labels d ok g row i n m _ _ l k f.0.is_known h.0.is_known c in
      absurd (no_bracket d (child d row n) v b _ _ p.0 z.1)
  runs (inner n a j s) none g row i seen x y l k p q f h e = ended-inner d n a j s g row i y (closes g ∷ x) k (sym e)
  runs (inner n a j s) (scalar m w r) g row i seen x y l k p q f h e =
      let c = append_cancel_left (comma_at i) _ _ (simp append_assoc at e) in
      let z = labels d ok g row i n m _ _ l k f.0.is_known h.0.is_known c in
      absurd (no_bracket d (child d row m) w a _ _ q.0 (sym z.1))
  runs (inner n a j s) (inner m b t r) g row i seen x y l k p q f h e =
      let c = append_cancel_left (comma_at i) _ _ (simp append_assoc at e) in
      let z = labels d ok g row i n m _ _ l k f.0.is_known h.0.is_known c in
      let ka = group-kind d (child d row n) a f.0.does_fit in
      let kb = group-kind d (child d row n) b (rw (← z.0) at h.0.does_fit) in
      let o = shape_unique a b (sym ka ∙ kb) in
      let w : text_of d j (child d row n) 0 ++ (closes a ∷ (text_of d s row (suc i) ++ (closes g ∷ x))) ≡ text_of d t (child d row n) 0 ++ (closes a ∷ (text_of d r row (suc i) ++ (closes g ∷ y))) = tail-eq_of_cons-eq (rw (← z.0, ← o) at z.1) in
      let kids = runs j t a (child d row n) 0 [] _ _ (inside g row i n l k f.0.is_known) ka p.0 q.0 f.1 (rw (← z.0) at h.1) w in
      let after = runs s r g row (suc i) (n ∷ seen) x y l k p.1 q.1 f.2 (rw (← z.0) at h.2) kids.1 in
      (rw (z.0, o, kids.0, after.0), after.1)

  pub sound_unique : (t u : Tuples) → Fits d t 0 0 [] → Fits d u 0 0 [] → Sound t → Sound u → root_text d t ≡ root_text d u → t ≡ u
  sound_unique t u f g p q e =
      let h = accepted_header d ok in
      (runs t u Set 0 0 [] [] [] (omega (arith, h.some)) h.root p q f g (tail-eq_of_cons-eq e)).0

  pub text_unique : (t u : Tuples) (b c : List ℕ) → Fits d t 0 0 [] → Fits d u 0 0 [] → Payload t b → Payload u c → root_text d t ≡ root_text d u → t ≡ u
  text_unique t u b c f g p q e = sound_unique t u f g (payload-sound t b p) (payload-sound u c q) e

  pub means-tree : (s z t : List ℕ) (n m : ℕ) (x : Means d s t n) (y : Means d z t m) → (x.tree ≡ y.tree) × (n ≡ m)
  means-tree s z t n m x y =
      let e = text_unique x.tree y.tree s z x.fitting y.fitting x.written y.written (x.text ∙ sym y.text) in
      (e, sym x.tuples ∙ ap (root_count d) e ∙ y.tuples)

  pub shortest-text : (s z t : List ℕ) (n m : ℕ) (x : Means d s t n) → Means d z t m → length (payload_of x.tree) ≤ length z
  shortest-text s z t n m x y =
      let e = (means-tree s z t n m x y).0 in
      rw e (payload-shortest y.tree z y.written).least

  pub brief_text : (s z t : List ℕ) (n m : ℕ) (x : Means d s t n) → Means d z t m → Brief (λ b. Means d b t n) (payload_of x.tree) z
  brief_text s z t n m x y = record { written = (means-shortest d s t n x).written; least = shortest-text s z t n m x y }
