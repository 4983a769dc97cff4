-- The tokens of a tree that fits are clean, so a text of it less its spaces is the reader's text.
-- Assumes nothing.
--   name-spelt        a name is spelt well
--   token-clean, label-clean, tokens-clean   the tokens of a scalar, of a label, of a tree
--   less-text         a text that spells a tree, less its spaces, is the text of the tree
use mathlib.Core.Path.{◌≡◌, refl, sym, ap, ◌∙◌}
use mathlib.Core.List.{List, [], ◌∷◌, ◌++◌}
use mathlib.Core.Bool.{Bool, true, false}
use Prim.Native.Nat.{ℕ, zero, suc, ◌+◌, ◌<◌}
use native.Mathlib.Omega.{arith}
use lib.ListN.{length, get_or}
use Rattle.paper.proofs.Tests.{and_both}
use Rattle.numbers.proofs.Decimals.{text-integral}
use Rattle.dictionary.specs.Formats.{enum_form}
use Rattle.dictionary.specs.Rows.{entries, kind, first_child, child_count, name}
use Rattle.dictionary.specs.Accepts.{name_byte, accepts}
use Rattle.dictionary.specs.Children.{child_numbered}
use Rattle.dictionary.proofs.Laws.{accepted-name, accepted_header, accepted_family, number-known, enum_parent}
use Rattle.payload.specs.Tree.{Scalar, null, integer, option, string, boolean, Tuples, none, scalar, inner, format_of, shape_format}
use Rattle.payload.specs.declared.Shape.{Shape}
use Rattle.payload.specs.declared.Shape.TheVariants.{Set, Array}
use Rattle.payload.specs.Strings.{string_byte, well_spelt}
use Rattle.payload.specs.Fits.{Fits, is_set, child, row_of, fits, allowed}
use Rattle.payload.specs.Text.{comma, colon, opens, closes, root_text}
use Rattle.payload.proofs.Sitting.{fits-own, option-known}
use Rattle.text.specs.Tokens.{Token, a_sign, sign}
use Rattle.text.specs.Spells.{Spells, token_of, label_tokens, comma_token, tokens_of, root_tokens, less}
use Rattle.text.proofs.Words.{Proper}
use Rattle.text.proofs.Told.{Sound, group-kind, inside}
use Rattle.text.proofs.Flat.{AllTight, less-flat, root-flat}
use Rattle.text.proofs.Cutting.{Clean, clean_tight}

unfoldable pub AllClean : List Token → Type 0
AllClean [] = Unit {0}
AllClean (k ∷ ks) = Clean k × AllClean ks

clean_append : (a b : List Token) → AllClean a → AllClean b → AllClean (a ++ b)
unfolding AllClean
clean_append [] b x y = y
clean_append (k ∷ a) b x y = (x.0, clean_append a b x.1 y)

pub all_tight_of : (ks : List Token) → AllClean ks → AllTight ks
unfolding AllClean AllTight
all_tight_of [] h = tt
all_tight_of (k ∷ ks) h = (clean_tight k h.0, all_tight_of ks h.1)

spelt-at : (t : List ℕ) → ((i : ℕ) → i < length t → name_byte (get_or t i 0) ≡ true) → well_spelt t ≡ true
unfolding well_spelt string_byte
spelt-at [] h = refl
spelt-at (c ∷ t) h = and_both (name_byte c) (well_spelt t) (h 0 (omega arith)) (spelt-at t (λ i l. h (suc i) (omega arith)))

pub opens-sign : (g : Shape) → sign (opens g) ≡ true
unfolding sign
opens-sign Set = refl
opens-sign Array = refl

pub closes-sign : (g : Shape) → sign (closes g) ≡ true
unfolding sign
closes-sign Set = refl
closes-sign Array = refl

pub colon-sign : sign colon ≡ true
unfolding sign
colon-sign = refl

pub comma-sign : sign comma ≡ true
unfolding sign
comma-sign = refl

comma-clean : (i : ℕ) → AllClean (comma_token i)
unfolding AllClean
comma-clean zero = tt
comma-clean (suc i) = (comma-sign, tt)

module _ (d : List ℕ) (ok : accepts d ≡ true) where
  pub name-spelt : (r : ℕ) → r < entries d → well_spelt (name d r) ≡ true
  name-spelt r h = spelt-at (name d r) (accepted-name d ok r h).printable

  pub enum_kind : (row : ℕ) → fits d row enum_form ≡ true → kind d row ≡ enum_form
  enum_kind row f = sym ((fits-own d row enum_form (λ z. omega (arith, z))).0 f)

  -- the option of an enum row
  pub option-row : (row n : ℕ) → row < entries d → fits d row enum_form ≡ true → allowed d row (option n) ≡ true → (n < child_count d row) × (row_of (child_numbered d row n) ≡ first_child d row + n) × (first_child d row + n < entries d)
  option-row row n h f a =
      let k = enum_kind row f in
      let w = accepted_family d ok row h (enum_parent d row k) in
      let p = (option-known d row w n).0 a in
      (p, ap row_of (number-known d row n w p), omega (arith, w.within))

  pub token-clean : (row : ℕ) (x : Scalar) → row < entries d → fits d row (format_of x) ≡ true → allowed d row x ≡ true → Proper x → Clean (token_of d row x)
  token-clean row null h f a p = tt
  token-clean row (integer i) h f a p = text-integral i p
  token-clean row (option n) h f a p = let o = option-row row n h f a in name-spelt (row_of (child_numbered d row n)) (omega (arith, o.1, o.2))
  token-clean row (string t) h f a p = p
  token-clean row (boolean b) h f a p = tt

  label-clean : (row n : ℕ) → child d row n < entries d → AllClean (label_tokens d row n)
  unfolding AllClean label_tokens
  label-clean row n h = go (is_set d row) refl
    where
      go : (b : Bool) → is_set d row ≡ b → AllClean (label_tokens d row n)
      go true e = rw e (name-spelt (child d row n) h, (colon-sign, tt))
      go false e = rw e tt

  pub tokens-clean : (t : Tuples) (g : Shape) (row i : ℕ) (seen : List ℕ) → row < entries d → kind d row ≡ shape_format g → Sound t → Fits d t row i seen → AllClean (tokens_of d t row i)
  unfolding AllClean tokens_of Sound Fits
  tokens-clean none g row i seen h k p f = tt
  tokens-clean (scalar n x rest) g row i seen h k p f =
      let c = inside d ok g row i n h k f.0.is_known in
      clean_append (comma_token i) _ (comma-clean i)
      (clean_append (label_tokens d row n) _ (label-clean row n c)
      (token-clean (child d row n) x c f.0.does_fit f.1 p.0, tokens-clean rest g row (suc i) (n ∷ seen) h k p.1 f.2))
  tokens-clean (inner n a kids rest) g row i seen h k p f =
      let c = inside d ok g row i n h k f.0.is_known in
      let j = tokens_of d kids (child d row n) 0 in
      clean_append (comma_token i) _ (comma-clean i)
      (clean_append (label_tokens d row n) _ (label-clean row n c) (
        opens-sign a,
        clean_append (j ++ (a_sign (closes a) ∷ [])) (tokens_of d rest row (suc i))
            (clean_append j (a_sign (closes a) ∷ []) (tokens-clean kids a (child d row n) 0 [] c (group-kind d (child d row n) a f.0.does_fit) p.0 f.1) (closes-sign a, tt))
            (tokens-clean rest g row (suc i) (n ∷ seen) h k p.1 f.2),
      ))

  pub root-clean : (t : Tuples) → Sound t → Fits d t 0 0 [] → AllClean (root_tokens d t)
  unfolding AllClean
  root-clean t p f =
      let z = accepted_header d ok in
      (opens-sign Set, clean_append (tokens_of d t 0 0) (a_sign (closes Set) ∷ []) (tokens-clean t Set 0 0 [] (omega (arith, z.some)) z.root p f) (closes-sign Set, tt))

  pub less-text : (t : Tuples) (s : List ℕ) → Spells (root_tokens d t) s → Sound t → Fits d t 0 0 [] → less s ≡ root_text d t
  less-text t s y p f = less-flat (root_tokens d t) s (all_tight_of (root_tokens d t) (root-clean t p f)) y ∙ root-flat d t
