-- A group whose members are read, and what comes after a member: one lemma for each return.
-- Assumes nothing.
use Prim.Native.Nat.{ℕ, ◌+◌, ◌^◌, ◌≤◌, ◌<◌}
use mathlib.Core.Path.{◌≡◌, refl, ap, ◌∙◌}
use mathlib.Core.List.{List}
use native.Mathlib.Omega.{arith}
use lib.ListN.{length, set, length-set}
use Rattle.std.specs.Prelude.{Ok, Err}
use Rattle.paper.specs.declared.Refused as paper
use Rattle.numbers.specs.Number.{number_of}
use Rattle.payload.specs.declared.Shape.{Shape}
use Rattle.writer_parse.specs.declared.Parted.{Parted}
use Rattle.writer_parse.specs.declared.Parted.TheVariants.{Comma, Closed}
use Rattle.writer_parse.specs.Met.{PartedMet}
use Rattle.writer_sizes.specs.Plan.{kept, tuple_long}
use Rattle.writer_sizes.specs.Met.{Long}
use Rattle.writer_judge.specs.declared.Measure as code
use Rattle.writer_judge.specs.declared.Tally.{Tally}
use Rattle.writer_judge.specs.Met.{measured, Stop, On, tallied, Closing, Shut, Adding, Stepping, PartedStep}

module _ (old : List ℕ) (k n : ℕ) (all : Tally) (h : Closing k n all.long) (a : ℕ) (ha : Long (length (number_of all.members)) 5 a) where
  pub close-fits : a + all.long < 2 ^ 64
  close-fits = omega (arith, ha.small, h.few)

  pub close-number : n < 2 ^ 31
  close-number = h.number

  pub close-size : a + all.long < 2 ^ 32
  close-size = omega (arith, ha.small, h.few)

  pub close-slot : k + 1 < 2 ^ 64
  close-slot = omega (arith, h.slot)

  pub close-met : (r : ℕ) (one two : List ℕ) → one ≡ set old k (kept (a + all.long)) → two ≡ set one (k + 1) (kept all.members) → r ≡ tuple_long n (a + all.long) → Shut old k n all (record { next = all.at; slot = all.slot; long = r; tuples = all.tuples }) two
  close-met r one two e f g =
      record {
        same = ap (λ (x : ℕ). record { next = all.at; slot = all.slot; long = x; tuples = all.tuples }) (g ∙ ap (λ (x : ℕ). tuple_long n (x + all.long)) ha.same);
        stored = f ∙ ap (λ (l : List ℕ). set l (k + 1) (kept all.members)) (e ∙ ap (λ (x : ℕ). set old k (kept (x + all.long))) ha.same);
      }

pub ruleset closes = (close-fits, close-number, close-size, close-slot, close-met)

-- after a member
module _ (s : List ℕ) (g : Shape) (slots : List ℕ) (k n : ℕ) (was : Tally) (e next b t : ℕ) where
  pub part-refused : (x : paper.Refused) → PartedMet s g e (Err x) → PartedStep s g slots k n was e next b t (Stop (measured (Err x))) slots
  part-refused x h = record { parted = Err x; met = h; is = record { same = refl; kept_as = refl }; long = refl }

  pub part-comma : (u : Parted) → PartedMet s g e (Ok u) → (z : ℕ) → u ≡ Comma z → (now : Tally) → now ≡ tallied was next b t z → PartedStep s g slots k n was e next b t (On now) slots
  part-comma u h z j now i = record { parted = Ok (Comma z); met = rw j at h; is = record { same = ap On i; kept_as = refl }; long = refl }

  pub part-closed : (u : Parted) → PartedMet s g e (Ok u) → (z : ℕ) → u ≡ Closed z → (now : Tally) → now ≡ tallied was next b t z → (r : code.Measure) (new : List ℕ) → Shut slots k n now r new → PartedStep s g slots k n was e next b t (Stop (measured (Ok r))) new
  part-closed u h z j now i r new sh' =
      let sh : Shut slots k n (tallied was next b t z) r new = rw i at sh' in
      record {
        parted = Ok (Closed z);
        met = rw j at h;
        is = record { answer = r; shut = sh; same = refl };
        long = ap length sh.stored ∙ length-set (set slots k _) (k + 1) (kept (was.members + 1)) ∙ length-set slots k _;
      }

module _ (s : List ℕ) (k n : ℕ) (was : Tally) (e b t : ℕ) (h : Stepping s k n was e b t) where
  pub part-within : e ≤ length s
  part-within = h.within

  pub part-adding : Adding was b t
  part-adding = h.adds

  pub part-closing : (next z : ℕ) (now : Tally) → now ≡ tallied was next b t z → Closing k n now.long
  part-closing next z now i = rw i (record { number = h.number; few = h.adds.bytes; slot = h.slot })

pub ruleset parts = (part-refused, part-comma, part-closed, part-within, part-adding, part-closing)

-- a member more
module _ (was : Tally) (b t : ℕ) (h : Adding was b t) where
  pub add_bytes : was.long + b < 2 ^ 64
  add_bytes = omega (arith, h.bytes)

  pub add-tuples : was.tuples + t < 2 ^ 64
  add-tuples = omega (arith, h.tuples)

  pub add-members : was.members + 1 < 2 ^ 64
  add-members = omega (arith, h.members)

pub ruleset adds = (add_bytes, add-tuples, add-members)
