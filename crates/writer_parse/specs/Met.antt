-- Inside the code's contracts alone: nobody needs to believe this page.
-- What the functions on signs, values and names ask and answer: each answers a definition of crates/text/specs/Writing by its name, and says where in the text its answer lies.
--   Site, Holder       a row of an accepted dictionary, with a place of a text; and the row of a group of that shape
--   DueMet, PartedMet  a colon; what parts members
--   outcome, Fine      what the front of a value comes to, and what a caller needs to know of it
--   HeadMet, ForMet    the front of a value, by its place and by its token; AnyMet: however deep it stands
--   key_of, KeyMet      a name, and all that stands before a value
use Rattle.std.specs.Prelude.{ℕ, ◌+◌, ◌-◌, ◌^◌, ◌≤◌, ◌<◌, ◌≡◌, List, [], Bool, true, false, length, Result, Ok, Err, Some}
use Rattle.paper.specs.Limits.{integer_most, text_most}
use Rattle.paper.specs.declared.Refusal.{Refusal}
use Rattle.paper.specs.declared.Refused.{Refused}
use Rattle.paper.specs.Refusals.{accepted}
use Rattle.paper.specs.Refusal.{number_of}
use Rattle.paper.specs.Checks.{Judged, refused, good, after}
use Rattle.dictionary.specs.Formats.{set_form, enum_form}
use Rattle.dictionary.specs.Rows.{kind}
use Rattle.dictionary.specs.Children.{child_numbered}
use Rattle.dictionary.specs.Given.{Row}
use Rattle.payload.specs.Tree.{Tuples, shape_format}
use Rattle.payload.specs.declared.Shape.{Shape}
use Rattle.payload.specs.Fits.{child}
use Rattle.payload.specs.Reading.{Single, group}
use Rattle.text.specs.Tokens.{Token, a_sign}
use Rattle.text.specs.Scanning.{token_at}
use Rattle.text.specs.Values.{is_sign, misfit_for}
use Rattle.text.specs.Writing.{colon_at, parted_at, value_for, value_at, member_at, run, inside_of}
use Rattle.writer_tokens.specs.Met.{Spans}
use Rattle.writer_parse.specs.declared.Value.{Value}
use Rattle.writer_parse.specs.declared.Head.{Head}
use Rattle.writer_parse.specs.declared.Head.TheVariants.{Leaf, Many}
use Rattle.writer_parse.specs.declared.Parted.{Parted}
use Rattle.writer_parse.specs.declared.Parted.TheVariants.{Comma, Closed}
use Rattle.writer_parse.specs.declared.Key.{Key}
use Rattle.writer_parse.specs.Leaves.{said, bytes_for, Proper}

pub record Site (d s : List ℕ) (row p : ℕ) : Type 0 where
  pub own : Row d row
  pub short : length s ≤ text_most
  pub within : p ≤ length s

pub record Holder (d s : List ℕ) (row : ℕ) (g : Shape) (p : ℕ) : Type 0 where
  pub site : Site d s row p
  pub form : kind d row ≡ shape_format g

-- signs
pub record SignAt (s : List ℕ) (at c : ℕ) : Type 0 where
  pub is : token_at s at ≡ good (at + 1) 0 (a_sign c)
  pub inside : at + 1 ≤ length s

pub record OtherAt (s : List ℕ) (at : ℕ) : Type 0 where
  pub place : ℕ
  pub token : Token
  pub is : token_at s at ≡ good place 0 token
  pub none : (c : ℕ) → is_sign c token ≡ false

abbrev pub due_of : Result ℕ Refused → Judged (Unit {0})
due_of (Err k) = refused (number_of k.refusal) k.place
due_of (Ok z) = good z 0 tt

abbrev pub DueIn : List ℕ → ℕ → Result ℕ Refused → Type 0
DueIn s p (Err k) = Unit {0}
DueIn s p (Ok z) = Spans s p z

pub record DueMet (s : List ℕ) (p : ℕ) (r : Result ℕ Refused) : Type 0 where
  pub same : colon_at s p ≡ due_of r
  pub lies : DueIn s p r

abbrev pub part_of : Result Parted Refused → Judged Bool
part_of (Err k) = refused (number_of k.refusal) k.place
part_of (Ok (Comma z)) = good z 0 true
part_of (Ok (Closed z)) = good z 0 false

abbrev pub PartIn : List ℕ → ℕ → Result Parted Refused → Type 0
PartIn s p (Err k) = Unit {0}
PartIn s p (Ok (Comma z)) = Spans s p z
PartIn s p (Ok (Closed z)) = Spans s p z

pub record PartedMet (s : List ℕ) (g : Shape) (p : ℕ) (r : Result Parted Refused) : Type 0 where
  pub same : parted_at s g p ≡ part_of r
  pub lies : PartIn s p r

-- the number of a refusal, or that of acceptance
abbrev pub misfit_said : Result (Unit {0}) Refusal → ℕ
misfit_said (Ok u) = accepted
misfit_said (Err k) = number_of k

-- whether a format fits a row: what refuses it does so at a place
abbrev pub FitMet : List ℕ → ℕ → ℕ → ℕ → Result (Unit {0}) Refused → Type 0
FitMet d row f at (Ok u) = misfit_for d row f ≡ accepted
FitMet d row f at (Err k) = (misfit_for d row f ≡ number_of k.refusal) × (k.place ≡ at)

-- values
abbrev pub LeafMet : List ℕ → ℕ → ℕ → Value → ℕ → ℕ → Result Head Refused → Type 0
LeafMet d row f v at q (Ok h) = (misfit_for d row f ≡ accepted) × (h ≡ Leaf v q)
LeafMet d row f v at q (Err k) = (misfit_for d row f ≡ number_of k.refusal) × (k.place ≡ at)

pub record LeafAt (s : List ℕ) (p : ℕ) (v : Value) (q : ℕ) : Type 0 where
  pub spans : Spans s p q
  pub proper : Proper s v
  pub small : length (bytes_for s v) + p ≤ q + integer_most

module _ (d s : List ℕ) where
  -- the members of a group from `first` on, as a value's own members
  unfoldable pub members_at : ℕ → Shape → ℕ → ℕ → Judged Tuples
  members_at room g row first = run d s (member_at d s (inside_of d s (room - 1))) g row (length s) 0 [] first

  abbrev pub outcome : ℕ → ℕ → ℕ → Result Head Refused → Judged Single
  outcome room row n (Err k) = refused (number_of k.refusal) k.place
  outcome room row n (Ok (Leaf v q)) = good q 0 (said s n v)
  outcome room row n (Ok (Many g first)) = after (members_at room g row first) λ z _ kids. good z 0 (group n g kids)

  pub record ManyAt (room row p : ℕ) (g : Shape) (first : ℕ) : Type 0 where
    pub spans : Spans s p first
    pub roomy : 1 ≤ room
    pub form : kind d row ≡ shape_format g

  abbrev pub Fine : ℕ → ℕ → ℕ → Result Head Refused → Type 0
  Fine room row p (Err k) = Unit {0}
  Fine room row p (Ok (Leaf v q)) = LeafAt s p v q
  Fine room row p (Ok (Many g first)) = ManyAt room row p g first

  pub record HeadMet (room row p : ℕ) (r : Result Head Refused) : Type 0 where
    pub same : (n : ℕ) → value_at d s (inside_of d s room) n row p ≡ outcome room row n r
    pub fine : Fine room row p r

  -- by the token k, from `at` to q
  pub record ForMet (room row : ℕ) (k : Token) (at q : ℕ) (r : Result Head Refused) : Type 0 where
    pub same : (n : ℕ) → value_for d s (inside_of d s room) n row k at q ≡ outcome room row n r
    pub fine : Fine room row at r

  pub record AnyMet (row : ℕ) (k : Token) (at q : ℕ) (r : Result Head Refused) : Type 0 where
    pub met : (room : ℕ) → ForMet room row k at q r

  -- an enum's option, by the string from a to b
  pub record OptionSite (row a b : ℕ) : Type 0 where
    pub own : Row d row
    pub form : kind d row ≡ enum_form
    pub order : a ≤ b
    pub within : b < length s

  -- names: x is what the definition says of one
  abbrev pub key_of : Result Key Refused → Judged ℕ
  key_of (Err k) = refused (number_of k.refusal) k.place
  key_of (Ok k) = good k.next 0 k.number

  pub record KeyAt (row p : ℕ) (k : Key) : Type 0 where
    pub from : p ≤ k.next
    pub within : k.next ≤ length s
    pub own : Row d k.row
    pub child_is : child d row k.number ≡ k.row
    pub finds : kind d row ≡ set_form → child_numbered d row k.number ≡ Some k.row
    pub number : k.number < 2 ^ 31

  abbrev pub KeyIn : ℕ → ℕ → Result Key Refused → Type 0
  KeyIn row p (Err k) = Unit {0}
  KeyIn row p (Ok k) = KeyAt row p k

  pub record KeyMet (row p : ℕ) (x : Judged ℕ) (r : Result Key Refused) : Type 0 where
    pub same : x ≡ key_of r
    pub lies : KeyIn row p r
