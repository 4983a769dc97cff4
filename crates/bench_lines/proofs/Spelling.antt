-- Hex and decimal: a digit is the library's, and what each return and each turn of the loops of `hex_pair`, `number` and `unhex` shows.
-- Assumes nothing.
use Rattle.std.proofs.Common.{◌≡◌, ℕ, suc, ◌+◌, ◌*◌, ◌/◌, ◌%◌, ◌≤◌, ◌<◌, true, ◌&&◌, cond, List, [], ◌∷◌, ◌++◌, length, take, drop, get_or, refl, sym, ◌∙◌, arith, add-one, drop-cons, append_assoc, Some, None, ◌⊎◌, inl, inr}
use Rattle.std.specs.Char.{digit_value}
use Rattle.std.proofs.lemmas.Bool.Decides.{nat_tests}
use lib.Dec.{ltb}
use lib.ListN.{set, length-set, drop_of_length-le}
use lib.Seq.{take-suc-set}
use mathlib.Core.List.{append-nil}
use Rattle.bench_lines.specs.Digits.{hex_digit, hex_pair, is_hex, hex_bytes, is_decimal, decimal_from}
use Rattle.bench_lines.specs.Met.{Pair, Valued, Spelt}

pub digit_is : (c : ℕ) → hex_digit c ≡ cond (ltb (digit_value c) 16) (digit_value c) 16
unfolding hex_digit
digit_is c = grind (arith, nat_tests)

module _ (a b : ℕ) where
  pub pair_high : (digit_value a < 16 → ⊥) → Pair a b None
  unfolding hex_pair
  pair_high h = record { met = grind (arith, nat_tests, digit_is) }

  pub pair_low : (digit_value b < 16 → ⊥) → Pair a b None
  unfolding hex_pair
  pair_low h = record { met = grind (arith, nat_tests, digit_is) }

  pub pair_met : digit_value a < 16 → digit_value b < 16 → Pair a b (Some (digit_value a * 16 + digit_value b))
  unfolding hex_pair
  pair_met h g = record { met = (grind (arith, nat_tests, digit_is), omega arith) }

-- `number` has read i bytes, which say n
pub record Counting (s : List ℕ) (most n i : ℕ) : Type 0 where
  pub some : 0 < length s
  pub within : i ≤ length s
  pub small : n ≤ most
  pub only : is_decimal s ≡ is_decimal (drop i s)
  pub same : decimal_from 0 s ≡ decimal_from n (drop i s)

-- the number only grows
grows : (n : ℕ) (s : List ℕ) → n ≤ decimal_from n s
unfolding decimal_from
grows n [] = omega arith
grows n (c ∷ s) = omega (arith, grows (n * 10 + hex_digit c) s)

module _ {s : List ℕ} {most n i : ℕ} (w : Counting s most n i) where
  module _ (l : i < length s) where
    only_next : is_decimal (drop i s) ≡ ltb (hex_digit (get_or s i 0)) 10 && is_decimal (drop (i + 1) s)
    unfolding is_decimal
    only_next = rw (add-one, drop-cons s i 0 l)

    same_next : decimal_from n (drop i s) ≡ decimal_from (n * 10 + hex_digit (get_or s i 0)) (drop (i + 1) s)
    unfolding decimal_from
    same_next = rw (add-one, drop-cons s i 0 l)

    pub number_wrong : (digit_value (get_or s i 0) < 10 → ⊥) → Valued s most None
    number_wrong h = record { good = rw (w.only, only_next) (grind (arith, nat_tests, digit_is)); said = tt; small = tt }

    module _ {x v d : ℕ} (e : d ≡ v) (u : (digit_value x < 10) × (v ≡ digit_value x)) (at : x ≡ get_or s i 0) where
      digit : hex_digit (get_or s i 0) ≡ d
      digit = rw (← at) (grind (arith, nat_tests, digit_is))

      next-same : decimal_from 0 s ≡ decimal_from (n * 10 + d) (drop (i + 1) s)
      next-same = w.same ∙ same_next ∙ rw digit

      pub number-next : n * 10 + d ≤ most → Counting s most (n * 10 + d) (i + 1)
      number-next h = record { some = w.some; within = omega arith; small = h; only = w.only ∙ only_next ∙ grind (arith, nat_tests, digit); same = next-same }

    pub number_large : {x v d : ℕ} → most < n * 10 + d → d ≡ v → (digit_value x < 10) × (v ≡ digit_value x) → x ≡ get_or s i 0 → Valued s most None
    number_large {d = d} h e u at = record { good = grind (arith, nat_tests, next-same e u at, grows (n * 10 + d) (drop (i + 1) s)); said = tt; small = tt }

  pub number-done : length s ≤ i → Valued s most (Some n)
  unfolding is_decimal decimal_from
  number-done h = let over : drop i s ≡ [] = drop_of_length-le s h in record { good = grind (arith, nat_tests, over, w.only, w.same, w.some, w.small); said = sym (w.same ∙ rw over); small = w.small }

-- two digits for each byte
long : (s : List ℕ) → is_hex s ≡ true → length s ≡ 2 * length (hex_bytes s)
unfolding is_hex hex_bytes
long [] e = refl
long (a ∷ []) e = cc
long (a ∷ b ∷ s) e = let h : is_hex s ≡ true = grind arith in omega (arith, long s h)

-- `unhex` has read i of n pairs
pub record Unhexing (s d : List ℕ) (n i : ℕ) (d' : List ℕ) : Type 0 where
  pub even : n * 2 ≡ length s
  pub room : n ≤ length d
  pub within : i ≤ n
  pub kept : length d' ≡ length d
  pub only : is_hex s ≡ is_hex (drop (2 * i) s)
  pub same : take i d' ++ hex_bytes (drop (2 * i) s) ≡ hex_bytes s

module _ {s d d' : List ℕ} where
  refused : (is_hex s ≡ true → length d < length (hex_bytes s)) → Spelt s d None d'
  refused f = record { good = grind (arith, nat_tests, f); said = tt; within = tt }

  pub spelt_none : (length s % 2 ≡ 0 → ⊥) ⊎ (length s % 2 ≡ 0 × (length d < length s / 2)) → Spelt s d None d'
  spelt_none (inl odd) = refused (λ e. absurd (odd (omega (arith, long s e))))
  spelt_none (inr l) = refused (λ e. omega (arith, l.1, long s e))

  module _ {n i : ℕ} (w : Unhexing s d n i d') where
    module _ (l : i < n) where
      split : drop (2 * i) s ≡ get_or s (2 * i) 0 ∷ get_or s (2 * i + 1) 0 ∷ drop (2 * (i + 1)) s
      split =
          let two : 2 * (i + 1) ≡ suc (suc (2 * i)) = omega arith in
          let a : 2 * i < length s = omega (arith, w.even) in
          let b : suc (2 * i) < length s = omega (arith, w.even) in
          rw (two, add-one (2 * i), drop-cons s (2 * i) 0 a, drop-cons s (suc (2 * i)) 0 b)

      hex-next : is_hex (drop (2 * i) s) ≡ ltb (hex_pair (get_or s (2 * i) 0) (get_or s (2 * i + 1) 0)) 256 && is_hex (drop (2 * (i + 1)) s)
      unfolding is_hex
      hex-next = rw split

      bytes_next : hex_bytes (drop (2 * i) s) ≡ hex_pair (get_or s (2 * i) 0) (get_or s (2 * i + 1) 0) ∷ hex_bytes (drop (2 * (i + 1)) s)
      unfolding hex_bytes
      bytes_next = rw split

      pub spelt-wrong : Pair (get_or s (2 * i) 0) (get_or s (2 * i + 1) 0) None → Spelt s d None d'
      spelt-wrong g = refused (λ e. absurd (grind (arith, nat_tests, hex-next, w.only)))

      pub spelt-next : {x : ℕ} → Pair (get_or s (2 * i) 0) (get_or s (2 * i + 1) 0) (Some x) → Unhexing s d n (i + 1) (set d' i x)
      spelt-next {x} g =
          record {
            even = w.even;
            room = w.room;
            within = omega arith;
            kept = length-set d' i x ∙ w.kept;
            only = w.only ∙ hex-next ∙ grind (arith, nat_tests);
            same = go;
          }
        where
          front : take (i + 1) (set d' i x) ≡ take i d' ++ (x ∷ [])
          front = rw (add-one i, take-suc-set d' i x (omega (arith, w.room, w.kept)))

          go : take (i + 1) (set d' i x) ++ hex_bytes (drop (2 * (i + 1)) s) ≡ hex_bytes s
          go = rw (front, append_assoc, g.met.0) (rw bytes_next at w.same)

    pub spelt-done : n ≤ i → Spelt s d (Some n) d'
    unfolding is_hex hex_bytes
    spelt-done h = record { good = grind (arith, nat_tests, all, long s all); said = is; within = w.room }
      where
        end : i ≡ n
        end = omega (arith, w.within)

        over : drop (2 * i) s ≡ []
        over = drop_of_length-le s {i = 2 * i} (omega (arith, w.even))

        all : is_hex s ≡ true
        all = w.only ∙ rw over

        is : take n d' ≡ hex_bytes s
        is = sym (append-nil (take n d')) ∙ (rw (over, end) at w.same)
