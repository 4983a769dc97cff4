-- The entry: what each return of `read` has to show.
-- Assumes nothing.
use Prim.Native.Nat.{ℕ, ◌≤◌, ◌<◌}
use mathlib.Core.Path.{◌≡◌, refl, sym, ap, ◌∙◌}
use mathlib.Core.Logic.{◌⊎◌, inl, inr}
use mathlib.Core.List.{List, ◌++◌}
use mathlib.Core.Bool.{Bool, true, false, not, ◌||◌}
use native.Mathlib.Omega.{arith}
use native.Mathlib.Nat.{zero-add}
use lib.ListN.{length, get_or, drop}
use lib.Seq.{sets, sets-eq}
use lib.Dec.{ltb}
use borrow.Author.Tests.{lt-ltb, le-ltb}
use mir.Syntax.{w8}
use mir.Val.{Fits}
use Rattle.paper.specs.Limits.{payload_least, payload_most, text_most}
use Rattle.paper.specs.Refusals.{dictionary_wrong, length_wrong, header_differs, no_room}
use Rattle.paper.specs.Checks.{choose, Judged, refused, good}
use Rattle.std.specs.Prelude.{Ok, Err}
use Rattle.paper.specs.declared.Refused as declared
use Rattle.paper.specs.declared.Refusal.TheVariants.{NoRoom}
use Rattle.paper.specs.declared.Done.{Done}
use Rattle.paper.specs.Refusal.{Answer, number_of, told}
use Rattle.numbers.specs.Met.{wrote, Wrote}
use Rattle.numbers.proofs.Places.{bytes-known}
use Rattle.dictionary.specs.Accepts.{accepts}
use Rattle.payload.specs.Tree.{Tuples}
use Rattle.payload.specs.Header.{header_agrees}
use Rattle.payload.specs.Text.{root_text, root_count}
use Rattle.payload.specs.Reading.{tree_of, Outcome, refusal, result, fitted, spoken, reads, answer_of, contents_of}
use Rattle.reader_judge.specs.Met.{Refused, Good, tree_told, verdict_of}
use Rattle.reader_render.specs.Rendered.{payload_text, Accepted}
use Rattle.payload.specs.Answered.{Answered}
use Rattle.reader_render.proofs.Payloads.{accepted-of, payload-text}

-- what the first pass says of the whole answer
module _ (d s : List ℕ) (budget room : ℕ) where
  tree_denied : (k w : ℕ) (x : Judged Tuples) → Refused k w ≡ tree_told d x → spoken d room x ≡ refusal k w
  tree_denied k w (refused a b) e = cc
  tree_denied k w (good z l t) e = absurd (let z : ◌≡◌ {A = ℕ} 0 1 = cc in omega arith)

  denied : (k w : ℕ) → Refused k w ≡ verdict_of d s budget → reads d s budget room ≡ refusal k w
  unfolding verdict_of reads
  denied k w e = by (accepts d) (ltb (length s) payload_least || ltb payload_most (length s)) (header_agrees s) e
    where
      by : (a b c : Bool) → Refused k w ≡ choose (not a) (λ _. Refused dictionary_wrong 0) (λ _. choose b (λ _. Refused length_wrong 0) λ _. choose (not c) (λ _. Refused header_differs 0) λ _. tree_told d (tree_of d s budget)) → choose (not a) (λ _. refusal dictionary_wrong 0) (λ _. choose b (λ _. refusal length_wrong 0) λ _. choose (not c) (λ _. refusal header_differs 0) λ _. spoken d room (tree_of d s budget)) ≡ refusal k w
      by false b c e = cc
      by true true c e = cc
      by true false false e = cc
      by true false true e = tree_denied k w (tree_of d s budget) e

  record Told (n long : ℕ) : Type 0 where
    accepted : accepts d ≡ true
    end : ℕ
    left : ℕ
    tree : Tuples
    found : tree_of d s budget ≡ good end left tree
    count : n ≡ root_count d tree
    measures : long ≡ length (root_text d tree)
    answers : reads d s budget room ≡ fitted room text_most (root_text d tree) (root_count d tree)

  granted : (n long : ℕ) → Good n long ≡ verdict_of d s budget → Told n long
  unfolding verdict_of reads
  granted n long e = by (accepts d) refl (ltb (length s) payload_least || ltb payload_most (length s)) refl (header_agrees s) refl e
    where
      never : {k w : ℕ} {A : Type 0} → Good n long ≡ Refused k w → A
      never e = absurd (let z : ◌≡◌ {A = ℕ} 0 1 = cc in omega arith)

      tree : accepts d ≡ true → reads d s budget room ≡ spoken d room (tree_of d s budget) → (x : Judged Tuples) → tree_of d s budget ≡ x → Good n long ≡ tree_told d x → Told n long
      tree a f (refused k w) g e = never e
      tree a f (good z l t) g e = record { accepted = a; end = z; left = l; tree = t; found = g; count = cc; measures = cc; answers = f ∙ ap (spoken d room) g }

      by : (a : Bool) → accepts d ≡ a → (b : Bool) → ltb (length s) payload_least || ltb payload_most (length s) ≡ b → (c : Bool) → header_agrees s ≡ c → Good n long ≡ choose (not a) (λ _. Refused dictionary_wrong 0) (λ _. choose b (λ _. Refused length_wrong 0) λ _. choose (not c) (λ _. Refused header_differs 0) λ _. tree_told d (tree_of d s budget)) → Told n long
      by false fa b fb c fc e = never e
      by true fa true fb c fc e = never e
      by true fa false fb false fc e = never e
      by true fa false fb true fc e = tree fa (rw (fa, fb, fc)) (tree_of d s budget) refl e

alike : (n m k l : ℕ) → n ≡ m → k ≡ l → told (Ok record { count = n; length = k }) ≡ told (Ok record { count = m; length = l })
alike n m k l e f = rw (e, f)

-- each return
module _ (d s : List ℕ) (budget : ℕ) (old : List ℕ) where
  abbrev Answers : Answer → List ℕ → Type 0
  Answers r new = Answered (reads d s budget (length old)) old r new

  spoke : (x : Outcome) → reads d s budget (length old) ≡ x → (r : Answer) (new : List ℕ) → r ≡ answer_of x → new ≡ contents_of x old → Answers r new
  spoke x f r new g h = record { answer = g ∙ ap answer_of (sym f); contents = h ∙ ap (λ (y : Outcome). contents_of y old) (sym f) }

  pub read_denied : (k : declared.Refused) → Refused (number_of k.refusal) k.place ≡ verdict_of d s budget → Answers (told (Err k)) old
  read_denied k e = spoke (refusal (number_of k.refusal) k.place) (denied d s budget (length old) (number_of k.refusal) k.place e) (told (Err k)) old refl refl

  module _ (a : Done) (e : Good a.count a.length ≡ verdict_of d s budget) where
    found : Told d s budget (length old) a.count a.length
    found = granted d s budget (length old) a.count a.length e

    fitting : (a' b : Bool) → ltb (length old) a.length ≡ a' → ltb text_most a.length ≡ b → reads d s budget (length old) ≡ choose (a' || b) (λ _. refusal no_room 0) (λ _. result (root_text d found.tree) (root_count d found.tree))
    fitting a' b g h = let m = found.measures in found.answers ∙ rw (← m, g, h)

    -- the text is longer than the buffer or than the limit
    pub read_tight : (length old < a.length) ⊎ ((a.length ≤ length old) × (text_most < a.length)) → Answers (told (Err record { refusal = NoRoom; place = 0 })) old
    read_tight (inl h) = spoke (refusal no_room 0) (fitting true (ltb text_most a.length) (lt-ltb (length old) a.length h) refl) _ old refl refl
    read_tight (inr (h, g)) = spoke (refusal no_room 0) (fitting false true (le-ltb (length old) a.length h) (lt-ltb text_most a.length g)) _ old refl refl

    pub read-accepted : Accepted d s
    read-accepted = accepted-of d s budget found.end found.left found.tree found.found found.accepted

    module _ (h : a.length ≤ length old) where
      module _ (k : (i : ℕ) → Fits w8 (get_or s i 0)) where
        text : payload_text d s ≡ root_text d found.tree
        text = payload-text d s budget found.end found.left found.tree found.found (bytes-known s k)

        pub read-room : length (payload_text d s) ≤ length old
        read-room = omega (arith, ap length text, found.measures)

        pub read-good : a.length ≤ text_most → {r : ℕ} {new : List ℕ} → Wrote old 0 (payload_text d s) r new → Answers (told (Ok a)) new
        unfolding wrote
        read-good g {r} {new} w =
            let t = root_text d found.tree in
            let b : new ≡ t ++ drop (length t) old = w.left ∙ ap (sets old 0) text ∙ sets-eq t old 0 (omega (arith, found.measures)) ∙ ap (λ (i : ℕ). t ++ drop i old) (zero-add (length t)) in
            spoke (result t (root_count d found.tree)) (fitting false false (le-ltb (length old) a.length h) (le-ltb text_most a.length g)) _ new (alike a.count (root_count d found.tree) a.length (length t) found.count found.measures) b
