-- The parts of a tuple, written: one lemma for each call and each return.
-- Assumes nothing.
use Prim.Native.Nat.{ℕ, ◌+◌, ◌-◌, ◌*◌, ◌^◌, ◌≤◌, ◌<◌}
use mathlib.Core.Path.{◌≡◌, sym, ap, ◌∙◌}
use mathlib.Core.List.{List, [], ◌∷◌, ◌++◌, append_assoc}
use mathlib.Core.Bool.{Bool}
use native.Mathlib.Omega.{arith}
use lib.ListN.{length, take, drop}
use lib.Seq.{slice}
use Rattle.numbers.specs.declared.Integer.{Integer}
use Rattle.numbers.specs.declared.output.Output.{Output}
use Rattle.numbers.specs.Number.{number_of}
use Rattle.numbers.specs.Integer.{Held, brief_of}
use Rattle.numbers.specs.Output.{Room, Added}
use Rattle.numbers.proofs.Places.{slice-take}
use Rattle.numbers.proofs.Adding.{none, joined, as_long, renamed, room-first, room-next}
use Rattle.dictionary.specs.declared.formats.Format.{Format}
use Rattle.dictionary.specs.declared.formats.Format.TheVariants as is
use Rattle.dictionary.specs.Formats.{form_number}
use Rattle.payload.specs.Tree.{shape_format, boolean_byte}
use Rattle.payload.specs.declared.Shape.{Shape}
use Rattle.text.specs.Shortest.{form_byte, tuple_of}
use Rattle.writer_parse.specs.declared.Value.{Value}
use Rattle.writer_parse.specs.declared.Value.TheVariants.{Null, Boolean, Option, String, Empty}
use Rattle.writer_parse.specs.declared.Value.TheVariants as leaf
use Rattle.writer_tokens.specs.Met.{Spans}
use Rattle.writer_parse.specs.Leaves.{form_of, bytes_for, Proper}
use Rattle.writer_render.specs.Parts.{front, opening}

form-low : (F : Format) → form_number F < 16
form-low is.Set = omega arith
form-low is.Array = omega arith
form-low is.Null = omega arith
form-low is.Integer = omega arith
form-low is.Enum = omega arith
form-low is.String = omega arith
form-low is.Real = omega arith
form-low is.Boolean = omega arith

-- S, F and L, where k is the format's number
module _ (n : ℕ) (F : Format) (size : ℕ) (o : Output) where
  pub front_twice : n < 2 ^ 31 → 2 * n < 2 ^ 64
  front_twice h = omega arith

  module _ (k : ℕ) (e : k ≡ form_number F) where
    pub front-form : 16 * k < 2 ^ 8
    front-form = omega (arith, form-low F)

    pub front-wide : 16 * k < 2 ^ 64
    front-wide = omega (arith, form-low F)

  module _ (h : Room o (front n (form_number F) size)) where
    parts : Room o (number_of (2 * n) ++ (form_byte (form_number F) ∷ number_of size))
    unfolding front
    parts = h

    pub front_s : Room o (number_of (2 * n))
    front_s = room-first o (number_of (2 * n)) (form_byte (form_number F) ∷ number_of size) parts

    module _ (o₁ : Output) (x : Added o (number_of (2 * n)) o₁) where
      rest : Room o₁ (form_byte (form_number F) ∷ number_of size)
      rest = room-next (form_byte (form_number F) ∷ number_of size) parts x

      pub front_f : (k : ℕ) → Room o₁ (16 * k ∷ [])
      front_f k = omega (arith, rest)

      module _ (k : ℕ) (e : k ≡ form_number F) (o₂ : Output) (y : Added o₁ (16 * k ∷ []) o₂) where
        pub front_l : Room o₂ (number_of size)
        front_l = omega (arith, rest, y.wrote.place, as_long y)

        pub front-done : (o₃ : Output) → Added o₂ (number_of size) o₃ → Added o (front n (form_number F) size) o₃
        unfolding front
        front-done o₃ z = rw (← e) (joined x (joined y z))

pub ruleset fronts = (front_twice, front_s, front-form, front-wide, front_f, front_l, front-done)

-- V, by the value
module _ (s : List ℕ) (v : Value) (o : Output) where
  pub body-null : v ≡ Null → Added o (bytes_for s v) o
  body-null e = rw e (none o)

  module _ (h : Room o (bytes_for s v)) where
    space_for : (u : Value) → v ≡ u → Room o (bytes_for s u)
    space_for u e = rw e at h

    module _ (b : Bool) (e : v ≡ Boolean b) where
      pub body-boolean-room : (x : ℕ) → Room o (x ∷ [])
      body-boolean-room x = omega (arith, space_for (Boolean b) e)

      pub body-boolean : (x : ℕ) (o₁ : Output) → x ≡ boolean_byte b → Added o (x ∷ []) o₁ → Added o (bytes_for s v) o₁
      body-boolean x o₁ f w = rw e (rw f at w)

    module _ (i : Integer) (e : v ≡ leaf.Integer i) where
      pub body-held : Proper s v → Held i
      body-held p = rw e at p

      pub body-integer-room : Room o (brief_of i)
      body-integer-room = space_for (leaf.Integer i) e

      pub body-integer : (o₁ : Output) → Added o (brief_of i) o₁ → Added o (bytes_for s v) o₁
      body-integer o₁ w = rw e w

    module _ (m : ℕ) (e : v ≡ Option m) where
      pub body-option-room : Room o (number_of m)
      body-option-room = space_for (Option m) e

      pub body-option : (o₁ : Output) → Added o (number_of m) o₁ → Added o (bytes_for s v) o₁
      body-option o₁ w = rw e w

    module _ (a b : ℕ) (e : v ≡ String a b) (p : Proper s v) where
      spans : Spans s a (b + 1)
      spans = rw e at p

      pub body-string-order : a ≤ b
      body-string-order = omega (arith, spans.further)

      pub body-string-inside : b ≤ length s
      body-string-inside = omega (arith, spans.within)

      abbrev part : List ℕ
      part = take (b - a) (drop a s)

      part-is : part ≡ slice a b s
      part-is = let k : a + (b - a) ≡ b = omega (arith, body-string-order) in sym (slice-take s a (b - a)) ∙ ap (λ (j : ℕ). slice a j s) k

      text : Room o (part ++ (0 ∷ []))
      text = rw part-is (space_for (String a b) e)

      pub body-string-room : Room o part
      body-string-room = room-first o part (0 ∷ []) text

      module _ (o₁ : Output) (x : Added o part o₁) where
        pub body-zero-room : Room o₁ (0 ∷ [])
        body-zero-room = room-next (0 ∷ []) text x

        pub body-string : (o₂ : Output) → Added o₁ (0 ∷ []) o₂ → Added o (bytes_for s v) o₂
        body-string o₂ y = rw e (renamed (ap (λ (l : List ℕ). l ++ (0 ∷ [])) (sym part-is)) (joined x y))

    module _ (g : Shape) (e : v ≡ Empty g) where
      pub body-empty-room : Room o (number_of 0)
      body-empty-room = space_for (Empty g) e

      pub body-empty : (o₁ : Output) → Added o (number_of 0) o₁ → Added o (bytes_for s v) o₁
      body-empty o₁ w = rw e w

pub ruleset bodies = (body-null, body-boolean-room, body-boolean, body-held, body-integer-room, body-integer, body-option-room, body-option, body-string-order, body-string-inside, body-string-room, body-zero-room, body-string, body-empty-room, body-empty)

pub tuple_is : (n f : ℕ) (v : List ℕ) → tuple_of n f v ≡ front n f (length v) ++ v
unfolding tuple_of front
tuple_is n f v = sym (append_assoc (number_of (2 * n)) (form_byte f ∷ number_of (length v)) v)

-- a value's front, then V
module _ (s : List ℕ) (n : ℕ) (v : Value) (o : Output) (h : Room o (tuple_of n (form_of v) (bytes_for s v))) (F : Format) (z : ℕ) (hf : form_number F ≡ form_of v) (hz : z ≡ length (bytes_for s v)) where
  leaf-is : tuple_of n (form_of v) (bytes_for s v) ≡ front n (form_number F) z ++ bytes_for s v
  leaf-is = rw (hf, hz) (tuple_is n (form_of v) (bytes_for s v))

  both : Room o (front n (form_number F) z ++ bytes_for s v)
  both = rw leaf-is at h

  pub leaf-front : Room o (front n (form_number F) z)
  leaf-front = room-first o (front n (form_number F) z) (bytes_for s v) both

  module _ (o₁ : Output) (x : Added o (front n (form_number F) z) o₁) where
    pub leaf-body : Room o₁ (bytes_for s v)
    leaf-body = room-next (bytes_for s v) both x

    pub leaf-done : (o₂ : Output) → Added o₁ (bytes_for s v) o₂ → Added o (tuple_of n (form_of v) (bytes_for s v)) o₂
    leaf-done o₂ y = renamed leaf-is (joined x y)

pub ruleset leaves = (leaf-front, leaf-body, leaf-done)

-- a group up to its members
module _ (n : ℕ) (g : Shape) (z m : ℕ) (o : Output) (h : Room o (opening n g z m)) (F : Format) (hf : form_number F ≡ shape_format g) where
  opening-is : opening n g z m ≡ front n (form_number F) z ++ number_of m
  unfolding opening
  opening-is = rw hf

  opened : Room o (front n (form_number F) z ++ number_of m)
  opened = rw opening-is at h

  pub opening-front : Room o (front n (form_number F) z)
  opening-front = room-first o (front n (form_number F) z) (number_of m) opened

  module _ (o₁ : Output) (x : Added o (front n (form_number F) z) o₁) where
    pub opening-count : Room o₁ (number_of m)
    opening-count = room-next (number_of m) opened x

    pub opening-done : (o₂ : Output) → Added o₁ (number_of m) o₂ → Added o (opening n g z m) o₂
    opening-done o₂ y = renamed opening-is (joined x y)

pub ruleset openings = (opening-front, opening-count, opening-done)
