-- The loop of `render` over the members of a set or array: what it keeps, one lemma for each call, and the whole.
-- Assumes nothing.
use mathlib.Core.Path.{◌≡◌, refl, sym, ap, ◌∙◌}
use mathlib.Core.List.{List, [], ◌∷◌, ◌++◌, append_assoc}
use Prim.Native.Nat.{ℕ, zero, suc, ◌+◌, ◌-◌, ◌*◌, ◌<◌, ◌≤◌}
use native.Mathlib.Omega.{arith}
use lib.ListN.{length, take, drop, length-append, length-take, length-drop}
use lib.Seq.{slice}
use Rattle.std.specs.Prelude.{Option, Some, None, IsSome}
use Rattle.numbers.specs.Met.{Standing, Taken}
use Rattle.numbers.specs.declared.output.Output.{Output}
use Rattle.numbers.specs.Output.{Room, Added}
use Rattle.numbers.proofs.Places.{slice-take}
use Rattle.numbers.proofs.Adding.{Adding, joined, as_long, renamed, begun, onward, ended, room}
use Rattle.dictionary.specs.declared.formats.Format.{Format}
use Rattle.dictionary.specs.Formats.{form_named, form_number}
use Rattle.dictionary.specs.Rows.{kind}
use Rattle.dictionary.specs.Given.{Row}
use Rattle.dictionary.proofs.Forms.{named_form, named_none}
use Rattle.payload.specs.declared.Shape.{Shape}
use Rattle.payload.specs.Tree as tree
use Rattle.payload.specs.Tree.{Tuples, size}
use Rattle.payload.specs.Writes.{Writes}
use Rattle.payload.specs.Fits.{Fits, child}
use Rattle.payload.specs.Text.{opens, closes, comma_at, label, text_of}
use Rattle.payload.specs.Reading.{shape_of}
use Rattle.payload.specs.Lying.{Lies}
use Rattle.payload.proofs.Lying.{cut_front, cut_rest}
use Rattle.payload.proofs.Sitting.{label-set, label_array}
use Rattle.reader_render.specs.declared.tuple.Parts.{Parts}
use Rattle.reader_render.specs.Rendered.{past, from_of, Framed, PartsMet, lead, labelled, shown, AcceptedIn, value_text, Worth}
use Rattle.reader_render.proofs.Parting.{Counted, counted}
use Rattle.reader_render.proofs.Members.{whole, shown_is, Next, next}

-- what is written from the tuples t on, the first of which is the i-th
abbrev pub ending : List ℕ → ℕ → Tuples → ℕ → List ℕ
ending d row t i = text_of d t row i ++ (closes (shape_of (kind d row)) ∷ [])

-- before the i-th of n members, at p, all is written but their text
pub record Facts (d : List ℕ) (row : ℕ) (v : List ℕ) (o₀ o : Output) (p i n : ℕ) : Type 0 where
  pub given : AcceptedIn d row v
  pub fit : Room o₀ (ending d row given.tree 0)
  pub rest : Tuples
  pub seen : List ℕ
  pub bytes : List ℕ
  pub lies : Lies v bytes p (length v)
  pub written : Writes rest bytes
  pub fitting : Fits d rest row i seen
  pub sized : size rest + i ≡ n
  pub there : Adding o₀ (ending d row given.tree 0) o (ending d row rest i)

-- shut, so that a search takes it whole
pub data Printing (d : List ℕ) (row : ℕ) (v : List ℕ) (o₀ o : Output) (p i n : ℕ) : Type 0 where
  keeps : Facts d row v o₀ o p i n → Printing d row v o₀ o p i n

facts : {d : List ℕ} {row : ℕ} {v : List ℕ} {o₀ o : Output} {p i n : ℕ} → Printing d row v o₀ o p i n → Facts d row v o₀ o p i n
facts (keeps f) = f

module _ {d : List ℕ} {row : ℕ} {v : List ℕ} (h : AcceptedIn d row v) where
  here : Counted v 0 (0 + length h.written.front) (size h.tree)
  here = let c = h.written in counted v c.front 0 (0 + length c.front) (size h.tree) (cut_front c.front c.back v c.whole (whole v)) c.here

  pub count-stands : Standing v 0
  count-stands = here.stands

  module _ (o : Output) (has_room : Room o (shown d row v)) where
    long : length (shown d row v) ≡ 1 + length (ending d row h.tree 0)
    long = ap length (shown_is d row v h) ∙ omega arith

    pub opening-room : Room o (opens (shape_of (kind d row)) ∷ [])
    opening-room = omega (arith, long)

    pub print_start : {o₀ : Output} → Added o (opens (shape_of (kind d row)) ∷ []) o₀ → {n p : ℕ} → Taken v 0 n → p ≡ past v 0 → Printing d row v o₀ o₀ p 0 n
    print_start {o₀} u {n} {p} t e =
        let c = h.written in
        let k : 0 + length c.front ≡ p = sym here.next ∙ sym e in
        keeps record {
          given = h;
          fit = omega (arith, long, u.wrote.place, as_long u);
          rest = h.tree;
          seen = [];
          bytes = c.back;
          lies = rw k at (cut_rest c.front c.back v c.whole (whole v));
          written = c.rest;
          fitting = h.fitting;
          sized = omega (arith, t.same, here.value);
          there = begun o₀ (ending d row h.tree 0);
        }

none-left : (t : Tuples) → size t ≡ 0 → t ≡ tree.none
unfolding size
none-left tree.none e = refl
none-left (tree.scalar n x r) e = absurd (omega arith)
none-left (tree.inner n g k r) e = absurd (omega arith)

-- a member's label by the shape of the row's value
label_is : (d : List ℕ) (row n : ℕ) → labelled d (shape_of (kind d row)) (child d row n) ≡ label d row n
label_is d row n = go (kind d row) refl
  where
    go : (k : ℕ) → kind d row ≡ k → labelled d (shape_of k) (child d row n) ≡ label d row n
    go zero e = sym (label-set d row n e)
    go (suc k) e = sym (label_array d row n (λ z. omega (arith, e, z)))

regroup : (a b c t z : List ℕ) → (a ++ (b ++ (c ++ t))) ++ z ≡ (a ++ b) ++ (c ++ (t ++ z))
regroup a b c t z =
    ap (λ (l : List ℕ). l ++ z) (sym (append_assoc a b (c ++ t)))
    ∙ append_assoc (a ++ b) (c ++ t) z
    ∙ ap (λ (l : List ℕ). (a ++ b) ++ l) (append_assoc c t z)

module _ {d : List ℕ} {row : ℕ} {v : List ℕ} {o₀ o : Output} {p i n : ℕ} (K : Printing d row v o₀ o p i n) where
  P : Facts d row v o₀ o p i n
  P = facts K

  -- where the members end
  module _ (h : n ≤ i) where
    nothing_left : ending d row P.rest i ≡ closes (shape_of (kind d row)) ∷ []
    unfolding text_of
    nothing_left = let e = none-left P.rest (omega (arith, P.sized)) in rw e

    pub closing-room : Room o (closes (shape_of (kind d row)) ∷ [])
    closing-room = omega (arith, room P.fit P.there, ap length nothing_left)

    pub print_done : {o₁ o₂ : Output} → Added o₁ (opens (shape_of (kind d row)) ∷ []) o₀ → Added o (closes (shape_of (kind d row)) ∷ []) o₂ → Added o₁ (shown d row v) o₂
    print_done a b = renamed (shown_is d row v P.given) (joined a (ended refl (onward _ nothing_left P.there b)))

  -- one member more
  module _ (h : i < n) where
    first : Next d row v p i P.seen P.rest
    first = next d row P.given.holder v p i P.seen P.rest P.bytes P.lies P.written P.fitting (omega (arith, P.sized))

    abbrev V : List ℕ
    V = value_text d (child d row first.number) first.form first.value

    abbrev Others : List ℕ
    Others = ending d row first.others (suc i)

    left_is : ending d row P.rest i ≡ (comma_at i ++ label d row first.number) ++ (V ++ Others)
    left_is =
        ap (λ (l : List ℕ). l ++ (closes (shape_of (kind d row)) ∷ [])) first.text
        ∙ regroup (comma_at i) (label d row first.number) V (text_of d first.others row (suc i)) (closes (shape_of (kind d row)) ∷ [])

    pub member-framed : Framed v p
    member-framed = first.parts.framed

    module _ {t : Parts} (m : PartsMet v p t) where
      pub part-within : t.to ≤ length v
      part-within = omega (arith, m.is_to, first.parts.next, first.lies.start)

      pub part-order : t.from ≤ t.to
      part-order = omega (arith, m.is_from, m.is_to, first.parts.order, first.parts.next)

      pub part-named : (r : Option Format) → r ≡ form_named t.form → IsSome r
      part-named r n = go r (n ∙ ap form_named (m.is_form ∙ first.parts.form))
        where
          go : (o : Option Format) → o ≡ form_named first.form → IsSome o
          go (Some f) e = refl
          go None e = absurd (omega (arith, named_none first.form (sym e), first.low))

      module _ {c : ℕ} (ec : c ≡ child d row t.number) where
        child_is : c ≡ child d row first.number
        child_is = ec ∙ ap (child d row) (m.is_number ∙ first.parts.number)

        pub member-row : Row d c
        member-row = record { accepted = P.given.holder.accepted; inside = rw child_is first.inside }

        module _ {g : Shape} (eg : g ≡ shape_of (kind d row)) where
          lead_is : lead d g c i ≡ comma_at i ++ label d row first.number
          lead_is = rw (eg, child_is, label_is d row first.number)

          pub lead-room : Room o (lead d g c i)
          lead-room = omega (arith, room P.fit P.there, ap length left_is, ap length lead_is, length-append (comma_at i ++ label d row first.number) (V ++ Others))

          -- the lead is written, and the format is known
          module _ {o₁ : Output} (u : Added o (lead d g c i) o₁) {F : Format} (eF : form_named t.form ≡ Some F) where
            abbrev value : List ℕ
            value = take (t.to - t.from) (drop t.from v)

            value_is : value ≡ first.value
            value_is =
                let a : t.from ≡ from_of v p = m.is_from in
                let b : t.to ≡ first.next = m.is_to ∙ first.parts.next in
                let e : t.from + (t.to - t.from) ≡ t.to = omega (arith, part-order) in
                sym (slice-take v t.from (t.to - t.from)) ∙ ap (λ (k : ℕ). slice t.from k v) e ∙ rw (a, b) first.parts.value

            form_is : form_number F ≡ first.form
            form_is = sym (named_form first.form F (ap form_named (sym first.parts.form) ∙ ap form_named (sym m.is_form) ∙ eF))

            pub value-worth : Worth d c (form_number F) value
            value-worth = rw (child_is, form_is, value_is) first.worth

            value-text : value_text d c (form_number F) value ≡ V
            value-text = rw (child_is, form_is, value_is)

            after : Adding o₀ (ending d row P.given.tree 0) o₁ (V ++ Others)
            after = onward _ left_is P.there (renamed (sym lead_is) u)

            pub value-room : Room o₁ (value_text d c (form_number F) value)
            value-room = omega (arith, room P.fit after, length-append V Others, ap length value-text)

            pub value-falls : 2 * length value + 1 < 2 * length v
            value-falls = omega (arith, length-take (t.to - t.from) (drop t.from v), length-drop t.from v, m.is_from, part-within)

            pub print_again : {o₂ : Output} → Added o₁ (value_text d c (form_number F) value) o₂ → Printing d row v o₀ o₂ t.to (i + 1) n
            print_again {o₂} b =
                let e : suc i ≡ i + 1 = omega arith in
                let z : first.next ≡ t.to = sym (m.is_to ∙ first.parts.next) in
                let r : Facts d row v o₀ o₂ t.to (suc i) n = record {
                  given = P.given;
                  fit = P.fit;
                  rest = first.others;
                  seen = first.number ∷ P.seen;
                  bytes = first.bytes;
                  lies = rw z at first.lies;
                  written = first.written;
                  fitting = first.fitting;
                  sized = omega (arith, P.sized, first.sized);
                  there = onward _ refl after (renamed (sym value-text) b);
                } in keeps (rw e at r)

-- one byte by another name
pub bracket : {o o₁ : Output} {x y : ℕ} → Added o (x ∷ []) o₁ → x ≡ y → Added o (y ∷ []) o₁
bracket {o} {o₁} {x} {y} w e = renamed (ap (λ (b : ℕ). b ∷ []) (sym e)) w
