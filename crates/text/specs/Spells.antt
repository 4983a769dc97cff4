-- Which texts spell a tree under a dictionary (document 01, "The text"), with no order of checks. Spaces are all that the paper leaves free, so many texts spell one tree.
--   Spells ks s     the text s has the tokens ks
--   root_tokens d t  the tokens of the text of a tree
--   less s          the text s less its spaces between tokens
--   Says d s b n    the text s says what the payload b says, in n tuples
use Rattle.std.specs.Prelude.{ℕ, zero, suc, ◌≤◌, ◌≡◌, List, [], ◌∷◌, ◌++◌, Bool, true, false, not, ◌&&◌, eqb}
use Rattle.paper.specs.Limits.{depth_most}
use Rattle.paper.specs.Checks.{choose}
use Rattle.numbers.specs.Decimal.{decimal_of}
use Rattle.dictionary.specs.Rows.{name}
use Rattle.dictionary.specs.Children.{child_numbered}
use Rattle.payload.specs.Tree.{Scalar, null, integer, option, string, boolean, Tuples, none, scalar, inner, depth}
use Rattle.payload.specs.declared.Shape.TheVariants.{Set}
use Rattle.payload.specs.Writes.{Cut, Payload}
use Rattle.payload.specs.Fits.{Fits, is_set, child, row_of}
use Rattle.payload.specs.Text.{quote, comma, colon, opens, closes, root_count}
use Rattle.text.specs.Tokens.{Token, a_sign, a_string, a_null, a_boolean, an_integer, spelt, space}

unfoldable pub blank : List ℕ → Bool
blank [] = true
blank (c ∷ s) = space c && blank s

-- "that standard's white space ("spaces") allowed between tokens"; before the first and after the last, too
unfoldable pub Spells : List Token → List ℕ → Type 0
Spells [] s = blank s ≡ true
Spells (k ∷ rest) s = Cut (λ b. blank b ≡ true) (Cut (λ b. b ≡ spelt k) (Spells rest)) s

-- "integers in shortest decimal; enum options as strings"
abbrev pub token_of : List ℕ → ℕ → Scalar → Token
token_of d row null = a_null
token_of d row (integer i) = an_integer (decimal_of i)
token_of d row (option n) = a_string (name d (row_of (child_numbered d row n)))
token_of d row (string t) = a_string t
token_of d row (boolean b) = a_boolean b

-- what stands before a member: its name and a colon in a set, nothing in an array
unfoldable pub label_tokens : List ℕ → ℕ → ℕ → List Token
label_tokens d row n = choose (is_set d row) (λ _. a_string (name d (child d row n)) ∷ a_sign colon ∷ []) (λ _. [])

abbrev pub comma_token : ℕ → List Token
comma_token zero = []
comma_token (suc i) = a_sign comma ∷ []

module _ (d : List ℕ) where
  -- the members of a row's value, from position i on, between its brackets
  unfoldable pub tokens_of : Tuples → ℕ → ℕ → List Token
  tokens_of none row i = []
  tokens_of (scalar n x rest) row i =
      comma_token i ++ (label_tokens d row n ++ (token_of d (child d row n) x ∷ tokens_of rest row (suc i)))
  tokens_of (inner n g kids rest) row i =
      comma_token i
      ++ (label_tokens d row n
      ++ ((a_sign (opens g) ∷ (tokens_of kids (child d row n) 0 ++ (a_sign (closes g) ∷ []))) ++ tokens_of rest row (suc i)))

  -- the tokens of a text whose root, an object, has these members
  abbrev pub root_tokens : Tuples → List Token
  root_tokens t = a_sign (opens Set) ∷ (tokens_of t 0 0 ++ (a_sign (closes Set) ∷ []))

  pub record Says (s b : List ℕ) (n : ℕ) : Type 0 where
    pub tree : Tuples
    pub spells : Spells (root_tokens tree) s
    pub written : Payload tree b
    pub fitting : Fits d tree 0 0 []
    pub shallow : suc (depth tree) ≤ depth_most
    pub tuples : root_count d tree ≡ n

-- "spaces between tokens": those inside a string stay. With no escapes, every quote begins or ends one
unfoldable pub less_from : Bool → List ℕ → List ℕ
less_from inside [] = []
less_from inside (c ∷ s) =
    choose (eqb c quote) (λ _. c ∷ less_from (not inside) s) λ _.
    choose (not inside && space c) (λ _. less_from inside s) λ _.
    c ∷ less_from inside s

abbrev pub less : List ℕ → List ℕ
less s = less_from false s
