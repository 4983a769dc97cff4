-- What acceptance gives, for the crates above: the header, every row's name, and the children of a set, array or enum.
-- Assumes nothing.
--   header_gives       a header that is fine: its facts, as Headed
--   block_inside       a block of children that is fine lies among the rows
--   array_parent, enum_parent   a row of that format has children
-- and of an accepted dictionary:
--   accepted_header    the header's facts
--   accepted-rowed     the entries lie inside; accepted-named: and every row's name keeps the rule
--   accepted-name      a row's name lies inside and is printable
--   by_format          of a row with children: what follows from each of the three formats, follows
--   accepted_family    its children lie among the rows, each with its position as its number
--   accepted-members   those of a set or enum are named, no two alike
--   accepted_array     an array has one child
--   accepted_enum      an enum has at least one child, and only strings
-- Children by number and by name (Finding) are passed on: number-own, number-known, number_unknown, number-child, named-child, sibling, named-known.
use Prim.Native.Nat.{ℕ, ◌+◌, ◌-◌, ◌%◌, ◌≤◌, ◌<◌}
use mathlib.Core.Path.{◌≡◌, refl, sym, ◌∙◌}
use mathlib.Core.List.{List}
use mathlib.Core.Bool.{Bool, true, false, not, ◌&&◌, ◌||◌, true≢false}
use native.Mathlib.Omega.{arith}
use lib.ListN.{length}
use lib.Dec.{leb, eqb}
use borrow.Author.Tests.{leb-true, eqb-true, eqb-false, not-true}
use Rattle.paper.specs.Limits.{dictionary_least, dictionary_most}
use Rattle.paper.specs.Tests.{all}
use Rattle.paper.specs.Checks.{choose}
use Rattle.paper.proofs.Tests.{and_left, and_right, so_not, all-at, all_both, same_eq}
use Rattle.dictionary.specs.Formats.{set_form, array_form, enum_form, string_form}
use Rattle.dictionary.specs.Rows.{header_bytes, row_bytes, child_offset, whole_size, entries_end, entries, kind, number_in, first_child, child_count, name_length, name}
use Rattle.dictionary.specs.Accepts.{header_fine, block_fine, in_turn, unlike, differs, member, string_child, set_fine, array_fine, enum_fine, leaf_form, childless, children_fine, name_fine, row_fine, accepts}
use Rattle.dictionary.specs.Given.{Headed, Worded, parent, Family, Members}
use Rattle.dictionary.specs.Met.{Rowed, Named}
use Rattle.dictionary.proofs.Naming.{none_or, name-inside, name-two, name-long, name-printable}
pub use Rattle.dictionary.proofs.Finding.{number-own, number-known, number_unknown, number-child, named-child, sibling, named-known}

-- a block that is fine lies among the rows
pub block_inside : (d : List ℕ) (r : ℕ) → block_fine d r ≡ true → first_child d r + child_count d r ≤ entries d
unfolding block_fine childless
block_inside d r e =
    none_or (first_child d r + child_count d r ≤ entries d) (child_offset d r) (child_count d r) _ e (λ o k. omega (arith, o, k))
    (λ h. leb-true _ _ (and_right (leb header_bytes (child_offset d r) && eqb ((child_offset d r - header_bytes) % row_bytes) 0) _ h))

-- a header that is fine
pub header_gives : (d : List ℕ) → header_fine d ≡ true → Headed d
unfolding header_fine
header_gives d h = go _ _ _ _ _ _ _ refl refl refl refl refl h
  where
    go : (a b c e f g i : Bool) → leb dictionary_least (length d) ≡ a → leb (length d) dictionary_most ≡ b → eqb (whole_size d) (length d) ≡ f → leb 1 (entries d) ≡ g → leb (entries_end d) (length d) ≡ i → a && b && c && e && f && g && i && eqb (kind d 0) set_form ≡ true → Headed d
    go a b c e f g i ea eb ef eg ei h =
        let h7 = and_left (a && b && c && e && f && g && i) (eqb (kind d 0) set_form) h in
        let h6 = and_left (a && b && c && e && f && g) i h7 in
        let h5 = and_left (a && b && c && e && f) g h6 in
        let h4 = and_left (a && b && c && e) f h5 in
        let h2 = and_left (a && b) c (and_left (a && b && c) e h4) in
        record {
          least = leb-true dictionary_least (length d) (ea ∙ and_left a b h2);
          most = leb-true (length d) dictionary_most (eb ∙ and_right a b h2);
          sized = eqb-true (whole_size d) (length d) (ef ∙ and_right (a && b && c && e) f h5);
          some = leb-true 1 (entries d) (eg ∙ and_right (a && b && c && e && f) g h6);
          inside = leb-true (entries_end d) (length d) (ei ∙ and_right (a && b && c && e && f && g) i h7);
          root = eqb-true (kind d 0) set_form (and_right (a && b && c && e && f && g && i) (eqb (kind d 0) set_form) h);
        }

member-unlike : (d : List ℕ) (first p : ℕ) → member d first p ≡ true → unlike d first p ≡ true
unfolding member
member-unlike d first p e = and_right (in_turn d first p) _ e

member-named : (d : List ℕ) (first p : ℕ) → member d first p ≡ true → name_length d (first + p) ≡ 0 → ⊥
unfolding unlike
member-named d first p e =
    eqb-false (name_length d (first + p)) 0
    (not-true _ (and_left (not (eqb (name_length d (first + p)) 0)) _ (member-unlike d first p e)))

member-differs : (d : List ℕ) (first p q : ℕ) → q < p → member d first p ≡ true → name d (first + q) ≡ name d (first + p) → ⊥
unfolding unlike
member-differs d first p q l e f =
    so_not _
    (not-true _ (all-at (differs d first p) p (and_right (not (eqb (name_length d (first + p)) 0)) _ (member-unlike d first p e)) q l))
    (same_eq _ _ f)

pub array_parent : (d : List ℕ) (r : ℕ) → kind d r ≡ array_form → parent d r ≡ true
unfolding parent
array_parent d r e = rw e

pub enum_parent : (d : List ℕ) (r : ℕ) → kind d r ≡ enum_form → parent d r ≡ true
unfolding parent
enum_parent d r e = rw e

string-child : (d : List ℕ) (first p : ℕ) → string_child d first p ≡ true → kind d (first + p) ≡ string_form
unfolding string_child
string-child d first p e = eqb-true (kind d (first + p)) string_form e

-- the parts of an accepted dictionary
module _ (d : List ℕ) (ok : accepts d ≡ true) where
  header_ok : header_fine d ≡ true
  unfolding accepts
  header_ok = go (header_fine d) _ ok
    where
      go : (t u : Bool) → choose t (λ _. u) (λ _. false) ≡ true → t ≡ true
      go true u e = refl
      go false u e = e

  rows_ok : all (entries d) (row_fine d) ≡ true
  unfolding accepts
  rows_ok = go (header_fine d) _ ok
    where
      go : (t u : Bool) → choose t (λ _. u) (λ _. false) ≡ true → u ≡ true
      go true u e = e
      go false u e = absurd (true≢false (sym e))

  pub accepted_header : Headed d
  accepted_header = header_gives d header_ok

  pub accepted-rowed : Rowed d (entries d)
  accepted-rowed = let h = accepted_header in record { counted = refl; inside = h.inside; few = h.most }

  names_ok : all (entries d) (name_fine d) ≡ true
  unfolding row_fine
  names_ok = and_left (all (entries d) (name_fine d)) (all (entries d) (children_fine d)) (sym (all_both (name_fine d) (children_fine d) (entries d)) ∙ rows_ok)

  pub accepted-named : Named d (entries d)
  accepted-named = record { rowed = accepted-rowed; names = names_ok }

  module _ (r : ℕ) (h : r < entries d) where
    pub accepted-name : Worded d r
    accepted-name =
        let w = accepted-named in
        record {
          inside = name-inside d (entries d) w r h;
          two = name-two d (entries d) w r h;
          long = name-long d (entries d) w r h;
          printable = name-printable d (entries d) w r h;
        }

    children_ok : children_fine d r ≡ true
    unfolding row_fine
    children_ok = and_right (name_fine d r) (children_fine d r) (all-at (row_fine d) (entries d) rows_ok r h)

    -- whichever of the three formats the row has, what each of them gives
    pub by_format : (A : Type 0) → parent d r ≡ true → (kind d r ≡ set_form → set_fine d r ≡ true → A) → (kind d r ≡ array_form → array_fine d r ≡ true → A) → (kind d r ≡ enum_form → enum_fine d r ≡ true → A) → A
    unfolding children_fine parent
    by_format A is f g k =
        go (eqb (kind d r) set_form) (eqb (kind d r) array_form) (eqb (kind d r) enum_form) _ _ _ (choose (leaf_form (kind d r)) (λ _. childless d r) (λ _. true)) is children_ok (λ y. f (eqb-true (kind d r) set_form y)) (λ y. g (eqb-true (kind d r) array_form y)) (λ y. k (eqb-true (kind d r) enum_form y))
      where
        go : (a b c s u v w : Bool) → a || b || c ≡ true → choose a (λ _. s) (λ _. choose b (λ _. u) (λ _. choose c (λ _. v) (λ _. w))) ≡ true → (a ≡ true → s ≡ true → A) → (b ≡ true → u ≡ true → A) → (c ≡ true → v ≡ true → A) → A
        go true b c s u v w i e f g k = f refl e
        go false true c s u v w i e f g k = g refl e
        go false false true s u v w i e f g k = k refl e
        go false false false s u v w i e f g k = absurd (true≢false (sym i))

  module _ (r : ℕ) where
    set-members : set_fine d r ≡ true → all (child_count d r) (member d (first_child d r)) ≡ true
    unfolding set_fine
    set-members e = and_right (block_fine d r) _ e

    enum_members : enum_fine d r ≡ true → all (child_count d r) (member d (first_child d r)) ≡ true
    unfolding enum_fine
    enum_members e = and_right (block_fine d r && leb 1 (child_count d r) && all (child_count d r) (string_child d (first_child d r))) _ e

    set_block : set_fine d r ≡ true → block_fine d r ≡ true
    unfolding set_fine
    set_block e = and_left (block_fine d r) _ e

    array_block : array_fine d r ≡ true → block_fine d r ≡ true
    unfolding array_fine
    array_block e = and_left (block_fine d r) _ (and_left (block_fine d r && eqb (child_count d r) 1) _ e)

    enum_block : enum_fine d r ≡ true → block_fine d r ≡ true
    unfolding enum_fine
    enum_block e =
        let c = all (child_count d r) (string_child d (first_child d r)) in
        and_left (block_fine d r) _ (and_left (block_fine d r && leb 1 (child_count d r)) _ (and_left (block_fine d r && leb 1 (child_count d r) && c) _ e))

    array_turns : array_fine d r ≡ true → all (child_count d r) (in_turn d (first_child d r)) ≡ true
    unfolding array_fine
    array_turns e = and_right (block_fine d r && eqb (child_count d r) 1) _ e

    array_one : array_fine d r ≡ true → child_count d r ≡ 1
    unfolding array_fine
    array_one e = eqb-true (child_count d r) 1 (and_right (block_fine d r) _ (and_left (block_fine d r && eqb (child_count d r) 1) _ e))

    enum_some : enum_fine d r ≡ true → 1 ≤ child_count d r
    unfolding enum_fine
    enum_some e =
        let c = all (child_count d r) (string_child d (first_child d r)) in
        leb-true _ _ (and_right (block_fine d r) _ (and_left (block_fine d r && leb 1 (child_count d r)) _ (and_left (block_fine d r && leb 1 (child_count d r) && c) _ e)))

    enum_strings : enum_fine d r ≡ true → all (child_count d r) (string_child d (first_child d r)) ≡ true
    unfolding enum_fine
    enum_strings e =
        let c = all (child_count d r) (string_child d (first_child d r)) in
        and_right (block_fine d r && leb 1 (child_count d r)) c (and_left (block_fine d r && leb 1 (child_count d r) && c) _ e)

    member-turn : (p : ℕ) → member d (first_child d r) p ≡ true → in_turn d (first_child d r) p ≡ true
    unfolding member
    member-turn p e = and_left (in_turn d (first_child d r) p) _ e

    turn : (p : ℕ) → in_turn d (first_child d r) p ≡ true → number_in d (first_child d r + p) ≡ p
    unfolding in_turn
    turn p e = eqb-true (number_in d (first_child d r + p)) p e

    module _ (h : r < entries d) where
      pub accepted_family : parent d r ≡ true → Family d r
      accepted_family is =
          by_format r h (Family d r) is
          (λ _ e. made (set_block e) λ p l. turn p (member-turn p (all-at _ _ (set-members e) p l)))
          (λ _ e. made (array_block e) λ p l. turn p (all-at _ _ (array_turns e) p l))
          (λ _ e. made (enum_block e) λ p l. turn p (member-turn p (all-at _ _ (enum_members e) p l)))
        where
          made : block_fine d r ≡ true → ((p : ℕ) → p < child_count d r → number_in d (first_child d r + p) ≡ p) → Family d r
          made b t = record { within = block_inside d r b; each_in_turn = t }

      pub accepted-members : (kind d r ≡ array_form → ⊥) → parent d r ≡ true → Members d r
      accepted-members no-array is =
          by_format r h (Members d r) is (λ _ e. made (set-members e)) (λ k _. absurd (no-array k)) (λ _ e. made (enum_members e))
        where
          made : all (child_count d r) (member d (first_child d r)) ≡ true → Members d r
          made e =
              record {
                named = λ p l. member-named d (first_child d r) p (all-at _ _ e p l);
                differ = λ p q lt l. member-differs d (first_child d r) p q lt (all-at _ _ e p l);
              }

      pub accepted_array : kind d r ≡ array_form → child_count d r ≡ 1
      accepted_array k =
          by_format r h (child_count d r ≡ 1) (array_parent d r k) (λ f _. absurd (let z = sym k ∙ f in omega (arith, z))) (λ _ e. array_one e)
          (λ f _. absurd (let z = sym k ∙ f in omega (arith, z)))

      pub accepted_enum : kind d r ≡ enum_form → (1 ≤ child_count d r) × ((p : ℕ) → p < child_count d r → kind d (first_child d r + p) ≡ string_form)
      accepted_enum k =
          by_format r h ((1 ≤ child_count d r) × ((p : ℕ) → p < child_count d r → kind d (first_child d r + p) ≡ string_form)) (enum_parent d r k)
          (λ f _. absurd (let z = sym k ∙ f in omega (arith, z)))
          (λ f _. absurd (let z = sym k ∙ f in omega (arith, z)))
          (λ _ e. (enum_some e, λ p l. string-child d (first_child d r) p (all-at _ _ (enum_strings e) p l)))
