-- What is added to an output: nothing, two texts, the same text by another name; and a text of which a part is added.
-- Assumes nothing.
--   none, joined, renamed  nothing, two texts, the same text by another name
--   as_long                the buffer's length stays
--   room-first, room-next  where two texts fit, the first does, and then the second
--   given_back             the buffer, where its lender has it again
--   Adding .. rest         of t all is added but rest; `begun`, `onward`, `ended` take it from the whole to nothing
use mathlib.Core.Path.{◌≡◌, refl, sym, ap, ◌∙◌}
use mathlib.Core.List.{List, [], ◌++◌, append_assoc, append-nil}
use Prim.Native.Nat.{ℕ}
use native.Mathlib.Omega.{arith}
use lib.ListN.{length, length-append}
use Rattle.numbers.specs.declared.output.Output.{Output}
use Rattle.numbers.specs.Met.{Wrote}
use Rattle.numbers.specs.Output.{Room, Added}
use Rattle.numbers.proofs.Writing as writing

pub none : (o : Output) → Added o [] o
none o = record { same = refl; wrote = writing.none o.buf.now o.pos }

-- what a function writes of the buffer and the place
pub written : (o o' : Output) (t : List ℕ) → o'.buf.ghost_name ≡ o.buf.ghost_name → Wrote o.buf.now o.pos t o'.pos o'.buf.now → Added o t o'
written o o' t e w = record { same = e; wrote = w }

pub joined : {o o' o'' : Output} {a b : List ℕ} → Added o a o' → Added o' b o'' → Added o (a ++ b) o''
joined {o} {o'} {o''} {a} {b} v w = record { same = w.same ∙ v.same; wrote = writing.joined v.wrote w.wrote }

pub renamed : {o o' : Output} {t u : List ℕ} → u ≡ t → Added o t o' → Added o u o'
renamed {o} {o'} {t} {u} e w = rw e w

pub as_long : {o o' : Output} {t : List ℕ} → Added o t o' → length o'.buf.now ≡ length o.buf.now
as_long {o} {o'} {t} w = writing.as_long w.wrote

pub room-first : (o : Output) (a b : List ℕ) → Room o (a ++ b) → Room o a
room-first o a b h = omega (arith, length-append a b)

pub room-next : {o o' : Output} {a : List ℕ} (b : List ℕ) → Room o (a ++ b) → Added o a o' → Room o' b
room-next {o} {o'} {a} b h w = omega (arith, w.wrote.place, as_long w, length-append a b)

pub given_back : {o o' : Output} {t d : List ℕ} → Added o t o' → d ≡ o'.buf.now → Wrote o.buf.now o.pos t o'.pos d
given_back {o} {o'} {t} {d} w e = rw e w.wrote

pub record Adding (o : Output) (t : List ℕ) (o' : Output) (rest : List ℕ) : Type 0 where
  pub done : List ℕ
  pub whole : t ≡ done ++ rest
  pub there : Added o done o'

pub begun : (o : Output) (t : List ℕ) → Adding o t o t
begun o t = record { done = []; whole = refl; there = none o }

pub onward : {o o' o'' : Output} {t a rest : List ℕ} (l : List ℕ) → l ≡ a ++ rest → Adding o t o' l → Added o' a o'' → Adding o t o'' rest
onward {o} {o'} {o''} {t} {a} {rest} l e w v =
    record {
      done = w.done ++ a;
      whole = w.whole ∙ ap (λ (x : List ℕ). w.done ++ x) e ∙ sym (append_assoc w.done a rest);
      there = joined w.there v;
    }

pub ended : {o o' : Output} {t l : List ℕ} → l ≡ [] → Adding o t o' l → Added o t o'
ended {o} {o'} {t} {l} e w =
    let f : t ≡ w.done = w.whole ∙ ap (λ (x : List ℕ). w.done ++ x) e ∙ append-nil w.done in
    renamed f w.there

pub room : {o o' : Output} {t l : List ℕ} → Room o t → Adding o t o' l → Room o' l
room {o} {o'} {t} {l} h w = omega (arith, ap length w.whole, length-append w.done l, w.there.wrote.place, as_long w.there)
