-- A word tells the scalar, at a row that it fits, where what follows goes on with no digit.
-- Assumes nothing.
--   Proper x          8 bytes hold an integer, and a string is spelt well; holds-proper: of what bytes hold
--   First x b         what the first byte of a word can be: no bracket; and null's for null only
--   words             two words, each before a stop, that make one text are of one scalar
use mathlib.Core.Path.{◌≡◌, refl, sym, ap, ◌∙◌}
use mathlib.Core.List.{List, ◌∷◌, ◌++◌, head-eq_of_cons-eq, append_cancel_left}
use mathlib.Core.Bool.{Bool, true, false}
use Prim.Native.Nat.{ℕ, ◌+◌, ◌<◌, ◌≤◌}
use native.Mathlib.Omega.{arith}
use lib.Dec.{leb, eqb}
use borrow.Author.Tests.{leb-true, eqb-true, eqb-false}
use Rattle.paper.proofs.Tests.{and_right}
use Rattle.numbers.specs.declared.Integer.{Integer}
use Rattle.numbers.specs.declared.Integer.TheVariants.{Plus, Minus}
use Rattle.numbers.specs.Integer.{Held}
use Rattle.numbers.specs.Decimal.{decimal, decimal_of, digits_only}
use Rattle.numbers.proofs.Brief.{only_brief}
use Rattle.numbers.proofs.Decimals.{Led, decimal-led, only-head, Stop, text_cut}
use Rattle.dictionary.specs.Formats.{null_form, enum_form}
use Rattle.dictionary.specs.Rows.{entries, kind, first_child, child_count, name}
use Rattle.dictionary.specs.Accepts.{accepts}
use Rattle.dictionary.specs.Given.{Family}
use Rattle.dictionary.proofs.Laws.{number-known, accepted_family, accepted-members, enum_parent}
use Rattle.payload.specs.Tree.{Scalar, null, integer, option, string, boolean, format_of}
use Rattle.payload.specs.Strings.{well_spelt}
use Rattle.payload.specs.Writes.{Holds}
use Rattle.payload.specs.Fits.{row_of, fits, allowed}
use Rattle.payload.specs.declared.Shape.TheVariants.{Array}
use Rattle.payload.specs.Text.{opens, closes, quoted, null_text, true_text, false_text, word}
use Rattle.payload.proofs.Sitting.{fits-own, option-known}
use Rattle.text.proofs.Labels.{spelt_unquoted, quoted_cut, named_cut}

abbrev pub Proper : Scalar → Type 0
Proper null = Unit {0}
Proper (integer i) = Held i
Proper (option n) = Unit {0}
Proper (string t) = well_spelt t ≡ true
Proper (boolean b) = Unit {0}

pub holds-proper : (x : Scalar) (v : List ℕ) → Holds x v → Proper x
holds-proper null v h = tt
holds-proper (integer i) v h = ((only_brief i v).0 h).0
holds-proper (option n) v h = tt
holds-proper (string t) v h = h.bytes
holds-proper (boolean b) v h = tt

pub record First (x : Scalar) (b : ℕ) : Type 0 where
  pub under : b < 120
  pub square : opens Array ≤ b → b ≤ closes Array → ⊥
  pub empty : b ≡ 110 → format_of x ≡ null_form

low : (x : Scalar) (b : ℕ) → b < 58 → First x b
low x b h = record { under = omega arith; square = λ f g. omega arith; empty = λ e. absurd (omega arith) }

digits-first : (n : ℕ) (t x y : List ℕ) (b : ℕ) → Led n t → t ++ x ≡ b ∷ y → b < 58
digits-first n t x y b r e = go r.head r.tail r.whole
  where
    go : (c : ℕ) (v : List ℕ) → t ≡ c ∷ v → b < 58
    go c v f =
        let o : digits_only (c ∷ v) ≡ true = ap digits_only (sym f) ∙ r.only in
        let z : c ∷ (v ++ x) ≡ b ∷ y = ap (λ (l : List ℕ). l ++ x) (sym f) ∙ e in
        omega (arith, leb-true c 57 (and_right (leb 48 c) (leb c 57) (only-head c v o)), head-eq_of_cons-eq z)

decimal-first : (i : Integer) (x y : List ℕ) (b : ℕ) → Held i → decimal_of i ++ x ≡ b ∷ y → b < 58
unfolding decimal_of
decimal-first (Plus n) x y b h e = digits-first n (decimal n) x y b (decimal-led n (omega (arith, h))) e
decimal-first (Minus n) x y b h e = omega (arith, head-eq_of_cons-eq e)

module _ (d : List ℕ) (row : ℕ) where
  pub word_first : (x : Scalar) (c y : List ℕ) (b : ℕ) → Proper x → word d row x ++ c ≡ b ∷ y → First x b
  word_first null c y b p e =
      let z = head-eq_of_cons-eq e in
      record { under = omega (arith, z); square = λ f g. omega (arith, z); empty = λ q. refl }
  word_first (integer i) c y b p e = low (integer i) b (decimal-first i c y b p e)
  word_first (option n) c y b p e = let z = head-eq_of_cons-eq e in low (option n) b (omega (arith, z))
  word_first (string t) c y b p e = let z = head-eq_of_cons-eq e in low (string t) b (omega (arith, z))
  word_first (boolean true) c y b p e =
      let z = head-eq_of_cons-eq e in
      record { under = omega (arith, z); square = λ f g. omega (arith, z); empty = λ q. absurd (omega (arith, z)) }
  word_first (boolean false) c y b p e =
      let z = head-eq_of_cons-eq e in
      record { under = omega (arith, z); square = λ f g. omega (arith, z); empty = λ q. absurd (omega (arith, z)) }

  null_word : (x : Scalar) → format_of x ≡ null_form → word d row x ≡ null_text
  null_word null e = refl
  null_word (integer i) e = absurd (omega arith)
  null_word (option n) e = absurd (omega arith)
  null_word (string t) e = absurd (omega arith)
  null_word (boolean b) e = absurd (omega arith)

  null_like : (x y : Scalar) (c e : List ℕ) → Proper y → word d row x ++ c ≡ word d row y ++ e → format_of x ≡ null_form → format_of y ≡ null_form
  null_like x y c e p q f =
      (word_first y e (117 ∷ 108 ∷ 108 ∷ c) 110 p (sym q ∙ ap (λ (l : List ℕ). l ++ c) (null_word x f))).empty refl

  forms : (x y : Scalar) (c e : List ℕ) → fits d row (format_of x) ≡ true → fits d row (format_of y) ≡ true → Proper x → Proper y → word d row x ++ c ≡ word d row y ++ e → format_of x ≡ format_of y
  forms x y c e f g p q s = go (eqb (format_of x) null_form) (eqb (format_of y) null_form) refl refl
    where
      go : (a b : Bool) → eqb (format_of x) null_form ≡ a → eqb (format_of y) null_form ≡ b → format_of x ≡ format_of y
      go true b h k = let z = eqb-true (format_of x) null_form h in z ∙ sym (null_like x y c e q s z)
      go false true h k = let z = eqb-true (format_of y) null_form k in null_like y x e c p (sym s) z ∙ sym z
      go false false h k =
          (fits-own d row (format_of x) (eqb-false (format_of x) null_form h)).0 f
          ∙ sym ((fits-own d row (format_of y) (eqb-false (format_of y) null_form k)).0 g)

module _ (d : List ℕ) (ok : accepts d ≡ true) (row : ℕ) (inside : row < entries d) where
  options : (n m : ℕ) (c e : List ℕ) → kind d row ≡ enum_form → allowed d row (option n) ≡ true → allowed d row (option m) ≡ true → word d row (option n) ++ c ≡ word d row (option m) ++ e → (n ≡ m) × (c ≡ e)
  options n m c e k a b s =
      let w = accepted_family d ok row inside (enum_parent d row k) in
      let z = accepted-members d ok row inside (λ z. omega (arith, sym k ∙ z)) (enum_parent d row k) in
      let p = (option-known d row w n).0 a in
      let q = (option-known d row w m).0 b in
      named_cut d ok row n m c e w z p q (sym (at n c w p) ∙ s ∙ at m e w q)
    where
      at : (n : ℕ) (c : List ℕ) → Family d row → n < child_count d row → word d row (option n) ++ c ≡ quoted (name d (first_child d row + n)) ++ c
      at n c w p = ap (λ k. quoted (name d (row_of k)) ++ c) (number-known d row n w p)

  alike : (x y : Scalar) (c e : List ℕ) → format_of x ≡ format_of y → (format_of x ≡ enum_form → kind d row ≡ enum_form) → allowed d row x ≡ true → allowed d row y ≡ true → Proper x → Proper y → Stop c → Stop e → word d row x ++ c ≡ word d row y ++ e → (x ≡ y) × (c ≡ e)
  alike null null c e f k a b p q u v s = (refl, append_cancel_left null_text c e s)
  alike null (integer j) c e f k a b p q u v s = absurd (omega arith)
  alike null (option m) c e f k a b p q u v s = absurd (omega arith)
  alike null (string t) c e f k a b p q u v s = absurd (omega arith)
  alike null (boolean o) c e f k a b p q u v s = absurd (omega arith)
  alike (integer i) null c e f k a b p q u v s = absurd (omega arith)
  alike (integer i) (integer j) c e f k a b p q u v s = let r = text_cut i j c e p q u v s in (ap integer r.0, r.1)
  alike (integer i) (option m) c e f k a b p q u v s = absurd (omega arith)
  alike (integer i) (string t) c e f k a b p q u v s = absurd (omega arith)
  alike (integer i) (boolean o) c e f k a b p q u v s = absurd (omega arith)
  alike (option n) null c e f k a b p q u v s = absurd (omega arith)
  alike (option n) (integer j) c e f k a b p q u v s = absurd (omega arith)
  alike (option n) (option m) c e f k a b p q u v s = let r = options n m c e (k refl) a b s in (ap option r.0, r.1)
  alike (option n) (string t) c e f k a b p q u v s = absurd (omega arith)
  alike (option n) (boolean o) c e f k a b p q u v s = absurd (omega arith)
  alike (string t) null c e f k a b p q u v s = absurd (omega arith)
  alike (string t) (integer j) c e f k a b p q u v s = absurd (omega arith)
  alike (string t) (option m) c e f k a b p q u v s = absurd (omega arith)
  alike (string t) (string w) c e f k a b p q u v s =
      let r = quoted_cut t w c e (spelt_unquoted t p) (spelt_unquoted w q) s in
      (ap string r.0, r.1)
  alike (string t) (boolean o) c e f k a b p q u v s = absurd (omega arith)
  alike (boolean o) null c e f k a b p q u v s = absurd (omega arith)
  alike (boolean o) (integer j) c e f k a b p q u v s = absurd (omega arith)
  alike (boolean o) (option m) c e f k a b p q u v s = absurd (omega arith)
  alike (boolean o) (string t) c e f k a b p q u v s = absurd (omega arith)
  alike (boolean true) (boolean true) c e f k a b p q u v s = (refl, append_cancel_left true_text c e s)
  alike (boolean true) (boolean false) c e f k a b p q u v s = absurd (let z = head-eq_of_cons-eq s in omega (arith, z))
  alike (boolean false) (boolean true) c e f k a b p q u v s = absurd (let z = head-eq_of_cons-eq s in omega (arith, z))
  alike (boolean false) (boolean false) c e f k a b p q u v s = (refl, append_cancel_left false_text c e s)

  pub words : (x y : Scalar) (c e : List ℕ) → fits d row (format_of x) ≡ true → fits d row (format_of y) ≡ true → allowed d row x ≡ true → allowed d row y ≡ true → Proper x → Proper y → Stop c → Stop e → word d row x ++ c ≡ word d row y ++ e → (x ≡ y) × (c ≡ e)
  words x y c e f g a b p q u v s =
      alike x y c e (forms d row x y c e f g p q s) (λ k. sym ((fits-own d row (format_of x) (λ z. omega (arith, sym k ∙ z))).0 f) ∙ k) a b p q u v s
