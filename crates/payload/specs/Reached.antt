-- How far a payload is in order: which tuples are reached. "Reading stops at the first fault met, tuples taken in byte order", so what stands before a tuple that is reached, and in the sets and arrays around it, is in order. No order of checks stands here but the one that is told.
--   Many                               a run of tuples that is written and fits
--   Spot                               where a tuple begins, and what its place asks of it
--   Begun, Numbered, Formed, Measured  how far a tuple is in order: up to S, its number, F, L
--   Nested, Counted                    it is a set or array within the depth; and its count is read
--   Due                                a number of the tuple is due
--   Reached                            all before the tuple's own checks is in order
--   Somewhere P w                      a tuple that is reached and starts at w fails as P says
use Rattle.std.specs.Prelude.{ℕ, suc, ◌+◌, ◌-◌, ◌*◌, ◌/◌, ◌<◌, ◌≤◌, ◌≡◌, List, [], ◌∷◌, Bool, true, length, eqb}
use Rattle.paper.specs.Limits.{payload_least, depth_most}
use Rattle.numbers.specs.Bytes.{byte}
use Rattle.dictionary.specs.Formats.{set_form, enum_form}
use Rattle.payload.specs.Tree.{Tuples, none, scalar, inner, size, count, depth}
use Rattle.payload.specs.Writes.{Writes}
use Rattle.payload.specs.Fits.{known, child, fresh, fits, Fits}
use Rattle.payload.specs.Reading.{supported, is_group}
use Rattle.payload.specs.Lying.{Lies, Read}

-- in the value of a row, the k tuples t from `at` to q: they are written there, end by e, fit from position i on and after the numbers seen, nest within the room, and leave m of l
pub record Many (d : List ℕ) (room : ℕ) (s : List ℕ) (row k i : ℕ) (seen : List ℕ) (at e l q m : ℕ) (t : Tuples) : Type 0 where
  pub bytes : List ℕ
  pub lies : Lies s bytes at q
  pub written : Writes t bytes
  pub fitting : Fits d t row i seen
  pub sized : size t ≡ k
  pub shallow : depth t ≤ room
  pub spent : count t + m ≡ l
  pub within : q ≤ e

-- the numbers seen after a run
unfoldable pub numbers : Tuples → List ℕ → List ℕ
numbers none seen = seen
numbers (scalar n x rest) seen = numbers rest (n ∷ seen)
numbers (inner n g kids rest) seen = numbers rest (n ∷ seen)

-- where a tuple begins: which numbers are known and not yet given, which format fits a number, and the number's row; its first byte, the end of the enclosing value, the budget left, and the nesting left
pub record Spot : Type 0 where
  pub knows : ℕ → Bool
  pub news : ℕ → Bool
  pub suits : ℕ → ℕ → Bool
  pub row_for : ℕ → ℕ
  pub start : ℕ
  pub end : ℕ
  pub left : ℕ
  pub room : ℕ

-- "The root is a set, S is 0, row 0."
abbrev pub root_spot : List ℕ → ℕ → Spot
root_spot s budget =
    record {
      knows = λ n. eqb n 0;
      news = λ n. true;
      suits = λ n f. eqb f set_form;
      row_for = λ n. 0;
      start = payload_least;
      end = length s;
      left = budget;
      room = depth_most;
    }

-- the i-th tuple in the value of a row, after the numbers seen
abbrev pub member_spot : List ℕ → ℕ → ℕ → List ℕ → ℕ → ℕ → ℕ → ℕ → Spot
member_spot d row i seen at e l r =
    record {
      knows = known d row i;
      news = fresh d row seen;
      suits = λ n f. fits d (child d row n) f;
      row_for = child d row;
      start = at;
      end = e;
      left = l;
      room = r;
    }

module _ (s : List ℕ) (x : Spot) where
  -- "budget; S; selector": the tuple's number is n, and F is due at p
  pub record Begun (n p : ℕ) : Type 0 where
    pub some : 1 ≤ x.left
    pub number : Read s x.start x.end (2 * n) p

  -- "sequence known; repeat"
  pub record Numbered (n p : ℕ) : Type 0 where
    pub begun : Begun n p
    pub is_known : x.knows n ≡ true
    pub is_new : x.news n ≡ true

  -- "deferred bit and format supported; format fits the row"
  pub record Formed (n p : ℕ) : Type 0 where
    pub numbered : Numbered n p
    pub within : p < x.end
    pub supports : supported (byte s p) ≡ true
    pub does_suit : x.suits n (byte s p / 16) ≡ true

  -- "L; room in the enclosing value": the format is f, and V stands from q to z
  pub record Measured (n f q z : ℕ) : Type 0 where
    pub place : ℕ
    pub long : ℕ
    pub formed : Formed n place
    pub format : byte s place / 16 ≡ f
    pub number : Read s (place + 1) x.end long q
    pub ends : q + long ≡ z
    pub within : z ≤ x.end

  -- "depth": V, from q to z, is that of a set or array of the row, and the tuples in it may nest as deep as the room
  pub record Nested (row q z room : ℕ) : Type 0 where
    pub number : ℕ
    pub form : ℕ
    pub measured : Measured number form q z
    pub grouped : is_group form ≡ true
    pub row_is : x.row_for number ≡ row
    pub deep : x.room ≡ suc room

  -- "a number counting the tuples, then the tuples": there are n, and the first is due at p
  pub record Counted (row z room n p : ℕ) : Type 0 where
    pub from : ℕ
    pub nested : Nested row from z room
    pub number : Read s from z n p

  -- a number of the tuple is due at p and has to end by e: S, L, the count of a set or array, an enum's option
  pub data Due (p e : ℕ) : Type 0 where
    its_s : 1 ≤ x.left → p ≡ x.start → e ≡ x.end → Due p e
    its_l : (n at : ℕ) → Formed n at → p ≡ at + 1 → e ≡ x.end → Due p e
    its_count : (row room : ℕ) → Nested row p e room → Due p e
    its_option : (n : ℕ) → Measured n enum_form p e → Due p e

module _ (d s : List ℕ) where
  -- y is a set or array, of whose tuples some are written and fit, and x is the next
  pub record Next (y x : Spot) : Type 0 where
    pub row : ℕ
    pub to : ℕ
    pub room : ℕ
    pub tuples : ℕ
    pub first : ℕ
    pub counted : Counted s y row to room tuples first
    pub before_it : ℕ
    pub fewer : before_it < tuples
    pub start : ℕ
    pub left : ℕ
    pub run : Tuples
    pub many : Many d room s row before_it 0 [] first to (y.left - 1) start left run
    pub here : x ≡ member_spot d row before_it (numbers run []) start to left room

  -- "tuples taken in byte order": a set or array comes before its tuples, and they before what follows it
  pub data Reached (budget : ℕ) : Spot → Type 0 where
    at_root : {x : Spot} → x ≡ root_spot s budget → Reached budget x
    further : {x : Spot} (y : Spot) → Reached budget y → Next y x → Reached budget x

  -- "tuple start"
  pub record Somewhere (budget : ℕ) (P : Spot → Type 0) (w : ℕ) : Type 0 where
    pub spot : Spot
    pub reached : Reached budget spot
    pub fails : P spot
    pub place : w ≡ spot.start
