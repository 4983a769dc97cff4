-- A text less its spaces is the tokens' own bytes, one after another; and those of a tree's tokens are the tree's text.
-- Assumes nothing.
--   flat ks           the bytes of the tokens ks, with no spaces
--   spells-flat       they spell the tokens
--   tokens-text, root-flat   the tokens of a tree, flat, are its text
--   Tight k           what `less` leaves of the token k is k, whatever follows
--   less-flat         a text less its spaces is its tokens, flat
use mathlib.Core.Path.{◌≡◌, refl, sym, ap, ◌∙◌}
use mathlib.Core.List.{List, [], ◌∷◌, ◌++◌, append_assoc, append-nil}
use mathlib.Core.Bool.{Bool, true, false}
use Prim.Native.Nat.{ℕ, zero, suc}
use native.Mathlib.Omega.{arith}
use lib.Dec.{eqb}
use borrow.Author.Tests.{ne_eqb}
use Rattle.paper.proofs.Tests.{and_left, and_right}
use Rattle.payload.specs.Tree.{Scalar, null, integer, option, string, boolean, Tuples, none, scalar, inner}
use Rattle.payload.specs.declared.Shape.TheVariants.{Set}
use Rattle.payload.specs.Fits.{child, is_set}
use Rattle.payload.specs.Text.{quote, opens, closes, word, label, comma_at, text_of, root_text}
use Rattle.text.specs.Tokens.{Token, a_sign, a_string, spelt, space}
use Rattle.text.specs.Spells.{blank, Spells, token_of, label_tokens, comma_token, tokens_of, root_tokens, less_from, less}
use Rattle.text.proofs.Labels.{Unquoted}

unfoldable pub flat : List Token → List ℕ
flat [] = []
flat (k ∷ rest) = spelt k ++ flat rest

pub spells-flat : (ks : List Token) → Spells ks (flat ks)
unfolding Spells flat blank
spells-flat [] = refl
spells-flat (k ∷ rest) =
    record {
      front = [];
      back = spelt k ++ flat rest;
      whole = refl;
      here = refl;
      rest = record { front = spelt k; back = flat rest; whole = refl; here = refl; rest = spells-flat rest };
    }

pub flat_append : (a b : List Token) → flat (a ++ b) ≡ flat a ++ flat b
unfolding flat
flat_append [] b = refl
flat_append (k ∷ a) b = ap (λ (l : List ℕ). spelt k ++ l) (flat_append a b) ∙ sym (append_assoc (spelt k) (flat a) (flat b))

module _ (d : List ℕ) where
  token-word : (row : ℕ) (x : Scalar) → spelt (token_of d row x) ≡ word d row x
  token-word row null = refl
  token-word row (integer i) = refl
  token-word row (option n) = refl
  token-word row (string t) = refl
  token-word row (boolean true) = refl
  token-word row (boolean false) = refl

  flat-label : (row n : ℕ) → flat (label_tokens d row n) ≡ label d row n
  unfolding flat label_tokens label
  flat-label row n = go (is_set d row) refl
    where
      go : (b : Bool) → is_set d row ≡ b → flat (label_tokens d row n) ≡ label d row n
      go true e = rw e
      go false e = rw e

  flat-comma : (i : ℕ) → flat (comma_token i) ≡ comma_at i
  unfolding flat
  flat-comma zero = refl
  flat-comma (suc i) = refl

  -- a member's comma and label, and what follows them
  flat-led : (row i n : ℕ) (ks : List Token) (t : List ℕ) → flat ks ≡ t → flat (comma_token i ++ (label_tokens d row n ++ ks)) ≡ comma_at i ++ (label d row n ++ t)
  flat-led row i n ks t e =
      flat_append (comma_token i) (label_tokens d row n ++ ks)
      ∙ ap (λ (l : List ℕ). l ++ flat (label_tokens d row n ++ ks)) (flat-comma i)
      ∙ ap (λ (l : List ℕ). comma_at i ++ l) (flat_append (label_tokens d row n) ks ∙ ap (λ (l : List ℕ). l ++ flat ks) (flat-label row n) ∙ ap (λ (l : List ℕ). label d row n ++ l) e)

  pub tokens-text : (t : Tuples) (row i : ℕ) → flat (tokens_of d t row i) ≡ text_of d t row i
  unfolding flat tokens_of text_of
  tokens-text none row i = refl
  tokens-text (scalar n x rest) row i =
      flat-led row i n (token_of d (child d row n) x ∷ tokens_of d rest row (suc i)) (word d (child d row n) x ++ text_of d rest row (suc i))
      (ap (λ (l : List ℕ). l ++ flat (tokens_of d rest row (suc i))) (token-word (child d row n) x) ∙ ap (λ (l : List ℕ). word d (child d row n) x ++ l) (tokens-text rest row (suc i)))
  tokens-text (inner n g kids rest) row i =
      let k = tokens_of d kids (child d row n) 0 in
      let r = tokens_of d rest row (suc i) in
      flat-led row i n ((a_sign (opens g) ∷ (k ++ (a_sign (closes g) ∷ []))) ++ r) ((opens g ∷ (text_of d kids (child d row n) 0 ++ (closes g ∷ []))) ++ text_of d rest row (suc i))
      (ap (λ (l : List ℕ). opens g ∷ l)
      (flat_append (k ++ (a_sign (closes g) ∷ [])) r
      ∙ ap (λ (l : List ℕ). l ++ flat r) (flat_append k (a_sign (closes g) ∷ []) ∙ ap (λ (l : List ℕ). l ++ (closes g ∷ [])) (tokens-text kids (child d row n) 0))
      ∙ ap (λ (l : List ℕ). (text_of d kids (child d row n) 0 ++ (closes g ∷ [])) ++ l) (tokens-text rest row (suc i))))

  pub root-flat : (t : Tuples) → flat (root_tokens d t) ≡ root_text d t
  unfolding flat
  root-flat t =
      ap (λ (l : List ℕ). opens Set ∷ l)
      (flat_append (tokens_of d t 0 0) (a_sign (closes Set) ∷ []) ∙ ap (λ (l : List ℕ). l ++ (closes Set ∷ [])) (tokens-text t 0 0))

  -- the reader's text spells its tree, with no spaces
  pub root-spells : (t : Tuples) → Spells (root_tokens d t) (root_text d t)
  root-spells t = rw (root-flat t) at (spells-flat (root_tokens d t))

abbrev pub Tight : Token → Type 0
Tight k = (x : List ℕ) → less (spelt k ++ x) ≡ spelt k ++ less x

unfoldable pub AllTight : List Token → Type 0
AllTight [] = Unit {0}
AllTight (k ∷ rest) = Tight k × AllTight rest

pub all_tight : (a b : List Token) → AllTight a → AllTight b → AllTight (a ++ b)
unfolding AllTight
all_tight [] b x y = y
all_tight (k ∷ a) b x y = (x.0, all_tight a b x.1 y)

-- a byte that is no quote and no space
pub record Solid (c : ℕ) : Type 0 where
  pub no_quote : eqb c quote ≡ false
  pub no_space : space c ≡ false

unfoldable pub Solids : List ℕ → Type 0
Solids [] = Unit {0}
Solids (c ∷ w) = Solid c × Solids w

pub solid_tight : (w x : List ℕ) → Solids w → less (w ++ x) ≡ w ++ less x
unfolding less_from Solids
solid_tight [] x h = refl
solid_tight (c ∷ w) x h = rw (h.0.no_quote, h.0.no_space) (ap (λ (l : List ℕ). c ∷ l) (solid_tight w x h.1))

inside_tight : (t x : List ℕ) → Unquoted t → less_from true (t ++ (quote ∷ x)) ≡ t ++ (quote ∷ less x)
unfolding less_from
inside_tight [] x h = refl
inside_tight (c ∷ t) x h = rw (ne_eqb c quote h.0) (ap (λ (l : List ℕ). c ∷ l) (inside_tight t x h.1))

pub string_tight : (t : List ℕ) → Unquoted t → Tight (a_string t)
unfolding less_from
string_tight t h x =
    ap (λ (l : List ℕ). quote ∷ less_from true l) (append_assoc t (quote ∷ []) x)
    ∙ ap (λ (l : List ℕ). quote ∷ l) (inside_tight t x h ∙ sym (append_assoc t (quote ∷ []) (less x)))

space-quote : (c : ℕ) → space c ≡ true → eqb c quote ≡ false
unfolding space
space-quote c e = ne_eqb c quote (λ z. bad z)
  where
    bad : c ≡ quote → ⊥
    bad z = let w : false ≡ true = rw z at e in absurd (let y : ◌≡◌ {A = ℕ} 0 1 = cc in omega arith)

pub blank-less : (b x : List ℕ) → blank b ≡ true → less (b ++ x) ≡ less x
unfolding less_from blank
blank-less [] x e = refl
blank-less (c ∷ b) x e =
    let s = and_left (space c) (blank b) e in
    rw (space-quote c s, s) (blank-less b x (and_right (space c) (blank b) e))

pub less-flat : (ks : List Token) (s : List ℕ) → AllTight ks → Spells ks s → less s ≡ flat ks
unfolding Spells flat AllTight less_from
less-flat [] s h y = ap less (sym (append-nil s)) ∙ blank-less s [] y ∙ refl
less-flat (k ∷ rest) s h y =
    let c = y.rest in
    ap less y.whole ∙ blank-less y.front y.back y.here
    ∙ ap less (c.whole ∙ ap (λ (l : List ℕ). l ++ c.back) c.here)
    ∙ h.0 c.back ∙ ap (λ (l : List ℕ). spelt k ++ l) (less-flat rest c.back h.1 c.rest)
