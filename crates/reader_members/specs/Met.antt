-- Inside the code's contracts alone: nobody needs to believe this page.
-- What the functions of a tuple ask and answer. A text of a payload has no more than 104 bytes for each of its bytes, so sums of lengths fit.
--   Site                 a row that is a set or an array, of an accepted dictionary, and a payload that is not too long
--   SeatMet              which child a tuple's number names, and the roll after it
--   FrontMet             what stands before a member's value
--   rest_at, BodyMet      a tuple from its F on
--   MemberMet            a tuple
use Rattle.std.specs.Prelude.{ℕ, ◌+◌, ◌-◌, ◌*◌, ◌≤◌, ◌<◌, ◌≡◌, List, ◌∷◌, Bool, length, Result, Ok, Err}
use Rattle.paper.specs.Limits.{payload_most}
use Rattle.paper.specs.Refusals.{not_known, given_twice, misfit}
use Rattle.paper.specs.declared.Refusal.{Refusal}
use Rattle.paper.specs.Refusal.{number_of}
use Rattle.paper.specs.Checks.{choose, Judged, refused, good, need, after}
use Rattle.dictionary.specs.Rows.{entries, kind}
use Rattle.payload.specs.Checked.{Checked}
use Rattle.payload.specs.Checked as checked
use Rattle.payload.specs.Tree.{Scalar, Tuples}
use Rattle.payload.specs.Fits.{GroupRow, known, child, fresh, fits}
use Rattle.payload.specs.Text.{word, label, comma_at}
use Rattle.payload.specs.Reading.{Single, plain, group, shape_of, body_at, tuple_at}
use Rattle.repeats.specs.Roll.{Kept}
use Rattle.reader_fields.specs.Fields.{format_at, extent_at, formed, extended}
use Rattle.reader_members.specs.declared.member.Body.{Body}
use Rattle.reader_members.specs.declared.member.Body.TheVariants as body
use Rattle.reader_members.specs.declared.member.Member.{Member}

pub record Site (d s : List ℕ) (row to : ℕ) : Type 0 where
  pub holder : GroupRow d row
  pub within : to ≤ length s
  pub few : length s ≤ payload_most

-- the code's answer for a tuple's number: "sequence known; repeat"
abbrev pub seat_of : Bool → Bool → ℕ → Checked
seat_of knows news c = choose knows (λ _. choose news (λ _. checked.Good c) (λ _. checked.Refused given_twice)) (λ _. checked.Refused not_known)

abbrev pub SeatKept : List ℕ → ℕ → List ℕ → ℕ → Checked → List ℕ → Type 0
SeatKept d row seen n (checked.Refused k) bits = Unit {0}
SeatKept d row seen n (checked.Good c) bits = Kept d row (n ∷ seen) bits

abbrev pub SeatInside : List ℕ → Checked → Type 0
SeatInside d (checked.Refused k) = Unit {0}
SeatInside d (checked.Good c) = c < entries d

pub record Seating (d : List ℕ) (row i : ℕ) (seen : List ℕ) (n : ℕ) (r : Checked) (bits : List ℕ) : Type 0 where
  pub same : r ≡ seat_of (known d row i n) (fresh d row seen n) (child d row n)
  pub kept : SeatKept d row seen n r bits

pub record SeatMet (d : List ℕ) (row i n : ℕ) (bits : List ℕ) (r : Checked) (bits' : List ℕ) : Type 0 where
  pub inside : SeatInside d r
  pub told : (seen : List ℕ) → Kept d row seen bits → Seating d row i seen n r bits'

pub record FrontMet (d : List ℕ) (row i c r : ℕ) : Type 0 where
  pub same : (n : ℕ) → child d row n ≡ c → r ≡ length (comma_at i) + length (label d row n)
  pub few : r ≤ 258

-- a reader of the values of sets and arrays: row, start of the tuple, first byte and end of V, budget
abbrev pub Inner : Type 0
Inner = ℕ → ℕ → ℕ → ℕ → ℕ → Judged Tuples

abbrev pub grouped : Inner → ℕ → ℕ → ℕ → ℕ → ℕ → ℕ → ℕ → Judged Single
grouped inner n r f at from to l = after (inner r at from to l) λ z m kids. good z m (group n (shape_of f) kids)

module _ (d s : List ℕ) where
  -- a tuple at `at` with the number n and the row r, from its F at p on
  unfoldable pub rest_at : Inner → ℕ → ℕ → ℕ → ℕ → ℕ → ℕ → Judged Single
  rest_at inner n r at p e l =
      formed (format_at s p e) at λ f.
      need (fits d r f) misfit at λ _.
      extended (extent_at s (p + 1) e) at λ q z.
      body_at d s inner n r f at q z l

  module _ (r p e : ℕ) where
    pub record Restless (k : ℕ) : Type 0 where
      pub told : (inner : Inner) (n at l : ℕ) → rest_at inner n r at p e l ≡ refused k at

    pub record Wording (next long : ℕ) : Type 0 where
      pub value : Scalar
      pub told : (inner : Inner) (n at l : ℕ) → rest_at inner n r at p e l ≡ good next l (plain n value)
      pub length_of : long ≡ length (word d r value)
      pub short : long + p + 3 ≤ 256 + next
      pub further : p + 3 ≤ next
      pub within : next ≤ e

    pub record Housing (from to : ℕ) : Type 0 where
      pub format : ℕ
      pub told : (inner : Inner) (n at l : ℕ) → rest_at inner n r at p e l ≡ grouped inner n r format at from to l
      pub holds : kind d r < 2
      pub further : p + 3 ≤ from
      pub order : from ≤ to
      pub within : to ≤ e

    abbrev pub Holding : Body → Type 0
    Holding (body.Plain next long) = Wording next long
    Holding (body.Group v) = Housing v.from v.to

    abbrev pub Bodied : Result Body Refusal → Type 0
    Bodied (Err k) = Restless (number_of k)
    Bodied (Ok b) = Holding b

    pub record BodyMet (b : Result Body Refusal) : Type 0 where
      pub met : Bodied b

  module _ (row i : ℕ) (seen : List ℕ) (at e l : ℕ) where
    pub record Refusing (k : ℕ) : Type 0 where
      pub told : (inner : Inner) → tuple_at d s inner row i seen at e l ≡ refused k at

    pub record Plainly (next long : ℕ) (bits : List ℕ) : Type 0 where
      pub number : ℕ
      pub value : Scalar
      pub told : (inner : Inner) → tuple_at d s inner row i seen at e l ≡ good next (l - 1) (plain number value)
      pub kept : Kept d row (number ∷ seen) bits
      pub length_of : long ≡ length (comma_at i) + length (label d row number) + length (word d (child d row number) value)

    pub record Grouping (c from to long : ℕ) (bits : List ℕ) : Type 0 where
      pub number : ℕ
      pub format : ℕ
      pub told : (inner : Inner) → tuple_at d s inner row i seen at e l ≡ grouped inner number c format at from to (l - 1)
      pub kept : Kept d row (number ∷ seen) bits
      pub is_child : c ≡ child d row number
      pub length_of : long ≡ length (comma_at i) + length (label d row number) + 2

    abbrev pub Taking : ℕ → ℕ → Body → List ℕ → Type 0
    Taking c front (body.Plain next long) bits = Plainly next (front + long) bits
    Taking c front (body.Group v) bits = Grouping c v.from v.to (front + 2) bits

    abbrev pub Membering : Result Member Refusal → List ℕ → Type 0
    Membering (Err k) bits = Refusing (number_of k)
    Membering (Ok m) bits = Taking m.row m.front m.body bits

pub record PlainPlaced (at e l next long : ℕ) : Type 0 where
  pub some : 1 ≤ l
  pub short : long + 104 * at ≤ 104 * next
  pub further : at ≤ next
  pub within : next ≤ e

pub record GroupPlaced (d : List ℕ) (at e l c from to long : ℕ) : Type 0 where
  pub some : 1 ≤ l
  pub short : long + 104 * at ≤ 104 * from
  pub holds : kind d c < 2
  pub inside : c < entries d
  pub order : from ≤ to
  pub within : to ≤ e

abbrev pub BodyPlaced : List ℕ → ℕ → ℕ → ℕ → ℕ → ℕ → Body → Type 0
BodyPlaced d at e l c front (body.Plain next long) = PlainPlaced at e l next (front + long)
BodyPlaced d at e l c front (body.Group v) = GroupPlaced d at e l c v.from v.to (front + 2)

abbrev pub MemberPlaced : List ℕ → ℕ → ℕ → ℕ → Result Member Refusal → Type 0
MemberPlaced d at e l (Err k) = Unit {0}
MemberPlaced d at e l (Ok m) = BodyPlaced d at e l m.row m.front m.body

pub record MemberMet (d s : List ℕ) (row i : ℕ) (bits : List ℕ) (at e l : ℕ) (r : Result Member Refusal) (bits' : List ℕ) : Type 0 where
  pub placed : MemberPlaced d at e l r
  pub told : (seen : List ℕ) → Kept d row seen bits → Membering d s row i seen at e l r bits'
