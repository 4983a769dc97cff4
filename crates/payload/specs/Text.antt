-- The text that a tree means. Document 01, "The text": "The reader writes no spaces; members in payload order; integers in shortest decimal; enum options as strings."
--   word d row x     a scalar at a row
--   label d row n    what stands before a member: its name and a colon in a set, nothing in an array
--   text_of d t row   the members of a row's value, between its brackets
--   root_text, root_count  the text and the count of tuples of a payload
--   Means d s t n    the payload s means the text t and has n tuples
use Rattle.std.specs.Prelude.{ℕ, zero, suc, ◌≤◌, ◌≡◌, List, [], ◌∷◌, ◌++◌, true, false}
use Rattle.paper.specs.Limits.{depth_most}
use Rattle.paper.specs.Checks.{choose}
use Rattle.numbers.specs.Decimal.{decimal_of}
use Rattle.dictionary.specs.Rows.{name}
use Rattle.dictionary.specs.Children.{child_numbered}
use Rattle.payload.specs.Tree.{Scalar, null, integer, option, string, boolean, Tuples, none, scalar, inner, count, depth}
use Rattle.payload.specs.declared.Shape.{Shape}
use Rattle.payload.specs.declared.Shape.TheVariants.{Set, Array}
use Rattle.payload.specs.Writes.{Payload}
use Rattle.payload.specs.Fits.{Fits, is_set, child, row_of}

-- ASCII
abbrev pub quote : ℕ
quote = 34

abbrev pub comma : ℕ
comma = 44

abbrev pub colon : ℕ
colon = 58

abbrev pub opens : Shape → ℕ
opens Set = 123
opens Array = 91

abbrev pub closes : Shape → ℕ
closes Set = 125
closes Array = 93

abbrev pub null_text : List ℕ
null_text = 110 ∷ 117 ∷ 108 ∷ 108 ∷ []

abbrev pub true_text : List ℕ
true_text = 116 ∷ 114 ∷ 117 ∷ 101 ∷ []

abbrev pub false_text : List ℕ
false_text = 102 ∷ 97 ∷ 108 ∷ 115 ∷ 101 ∷ []

abbrev pub quoted : List ℕ → List ℕ
quoted t = quote ∷ (t ++ (quote ∷ []))

abbrev pub word : List ℕ → ℕ → Scalar → List ℕ
word d row null = null_text
word d row (integer i) = decimal_of i
word d row (option n) = quoted (name d (row_of (child_numbered d row n)))
word d row (string t) = quoted t
word d row (boolean true) = true_text
word d row (boolean false) = false_text

unfoldable pub label : List ℕ → ℕ → ℕ → List ℕ
label d row n = choose (is_set d row) (λ _. quoted (name d (child d row n)) ++ (colon ∷ [])) (λ _. [])

-- a comma stands before each member but the first, whose position is 0
abbrev pub comma_at : ℕ → List ℕ
comma_at zero = []
comma_at (suc i) = comma ∷ []

module _ (d : List ℕ) where
  unfoldable pub text_of : Tuples → ℕ → ℕ → List ℕ
  text_of none row i = []
  text_of (scalar n x rest) row i = comma_at i ++ (label d row n ++ (word d (child d row n) x ++ text_of rest row (suc i)))
  text_of (inner n g kids rest) row i =
      comma_at i ++ (label d row n ++ ((opens g ∷ (text_of kids (child d row n) 0 ++ (closes g ∷ []))) ++ text_of rest row (suc i)))

  -- the text of a payload whose root has these members
  abbrev pub root_text : Tuples → List ℕ
  root_text t = opens Set ∷ (text_of t 0 0 ++ (closes Set ∷ []))

  -- root counted
  abbrev pub root_count : Tuples → ℕ
  root_count t = suc (count t)

  pub record Means (s : List ℕ) (t : List ℕ) (n : ℕ) : Type 0 where
    pub tree : Tuples
    pub written : Payload tree s
    pub fitting : Fits d tree 0 0 []
    pub shallow : suc (depth tree) ≤ depth_most
    pub text : root_text tree ≡ t
    pub tuples : root_count tree ≡ n
