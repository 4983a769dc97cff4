-- Inside the code's contracts alone: nobody needs to believe this page.
-- What the contracts of the programs' helpers say.
--   Counts s x r       r is how many separators there are
--   Pair a b r         r is the byte that two hex digits say, if they are digits
--   Valued s most r    r is the number that s says, if it is one up to `most`
--   Spelt s d r d'     r bytes that s says stand in front of a buffer, if s is hex and the buffer has room
--   Counted d n r      a case's bytes are inside buffers of d and of n, and its number has 32 bits
--   CaseMet ..         a line's case, if it is well formed: what its fields say
use Rattle.std.specs.Prelude.{ℕ, ◌≤◌, ◌<◌, ◌≡◌, Bool, ◌&&◌, List, length, take, ltb, leb, eqb, Option, IfSome, is_some, MatchOption}
use Rattle.bench_lines.specs.Digits.{hex_pair, is_hex, hex_bytes, is_decimal, decimal_from, decimal_most}
use Rattle.bench_lines.specs.Fields.{field, count_of}
use Rattle.bench_lines.specs.declared.cases.Case.{Case}

pub record Counts (s : List ℕ) (x r : ℕ) : Type 0 where
  pub same : r ≡ count_of x s
  pub small : r ≤ length s

pub record Pair (a b : ℕ) (r : Option ℕ) : Type 0 where
  pub met : MatchOption r (hex_pair a b ≡ 256) (λ x. (x ≡ hex_pair a b) × (x < 256))

-- s is decimal digits that say a number up to `most`
abbrev pub says : List ℕ → ℕ → Bool
says s most = ltb 0 (length s) && is_decimal s && leb (decimal_from 0 s) most

pub record Valued (s : List ℕ) (most : ℕ) (r : Option ℕ) : Type 0 where
  pub good : is_some r ≡ says s most
  pub said : IfSome r (λ n. n ≡ decimal_from 0 s)
  pub small : IfSome r (λ n. n ≤ most)

-- s is hex digits, for whose bytes d has room
abbrev pub spells : List ℕ → List ℕ → Bool
spells s d = is_hex s && leb (length (hex_bytes s)) (length d)

pub record Spelt (s d : List ℕ) (r : Option ℕ) (d' : List ℕ) : Type 0 where
  pub good : is_some r ≡ spells s d
  pub said : IfSome r (λ n. take n d' ≡ hex_bytes s)
  pub within : IfSome r (λ n. n ≤ length d)

pub record Counted (d n : ℕ) (r : Case) : Type 0 where
  pub dictionary : r.dictionary ≤ d
  pub bytes : r.bytes ≤ n
  pub number : r.number ≤ decimal_most

-- three tabs, hex, hex, and a number of 32 bits
abbrev pub well_formed : List ℕ → List ℕ → List ℕ → Bool
well_formed line d b = eqb (count_of 9 line) 3 && spells (field 9 1 line) d && spells (field 9 2 line) b && says (field 9 3 line) decimal_most

pub record CaseMet (line d b : List ℕ) (r : Option Case) (d' b' : List ℕ) : Type 0 where
  pub good : is_some r ≡ well_formed line d b
  pub dictionary : IfSome r (λ c. take c.dictionary d' ≡ hex_bytes (field 9 1 line))
  pub bytes : IfSome r (λ c. take c.bytes b' ≡ hex_bytes (field 9 2 line))
  pub number : IfSome r (λ c. c.number ≡ decimal_from 0 (field 9 3 line))
  pub counted : IfSome r (λ c. Counted (length d) (length b) c)
