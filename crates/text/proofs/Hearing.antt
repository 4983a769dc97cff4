-- A text that spells a tree that fits is answered with that tree.
-- Assumes nothing.
--   run_complete      members up to the bracket that closes them
--   inside_complete   an object or array
--   tree_complete     the whole text
use mathlib.Core.Path.{◌≡◌, refl, sym, ap, ◌∙◌}
use mathlib.Core.List.{List, [], ◌∷◌, ◌++◌, append_assoc, append-nil}
use mathlib.Core.Bool.{Bool, true, false}
use Prim.Native.Nat.{ℕ, zero, suc, ◌+◌, ◌-◌, ◌<◌, ◌≤◌}
use native.Mathlib.Omega.{arith}
use lib.ListN.{length, drop, length-drop}
use lib.Dec.{eqb}
use borrow.Author.Tests.{le-leb}
use Rattle.paper.specs.Limits.{depth_most}
use Rattle.paper.specs.Checks.{Judged, good}
use Rattle.dictionary.specs.Rows.{entries, kind, name}
use Rattle.dictionary.specs.Accepts.{accepts}
use Rattle.dictionary.proofs.Laws.{accepted_header}
use Rattle.payload.specs.Tree.{Scalar, null, integer, option, string, boolean, Tuples, none, scalar, inner, shape_format, depth}
use Rattle.payload.specs.declared.Shape.{Shape}
use Rattle.payload.specs.declared.Shape.TheVariants.{Set, Array}
use Rattle.payload.specs.Fits.{Fits, is_set, child}
use Rattle.payload.specs.Text.{comma, colon, opens, closes}
use Rattle.payload.specs.Reading.{Single, plain, group, number_for, before}
use Rattle.text.specs.Tokens.{Token, a_sign, a_string, space}
use Rattle.text.specs.Spells.{Spells, token_of, label_tokens, tokens_of, root_tokens}
use Rattle.text.specs.Scanning.{past}
use Rattle.text.specs.Values.{is_sign, form_for}
use Rattle.text.specs.Writing.{parted_at, member_at, run, inside_of, root_at, tree_of}
use Rattle.text.proofs.Told.{Sound, group-kind, inside}
use Rattle.text.proofs.Cutting.{Clean, blank-all, past-run, past-most}
use Rattle.text.proofs.Spacing.{Signed, Loose, loose_signed, next_complete}
use Rattle.text.proofs.Cleanly.{name-spelt, comma-sign, opens-sign, closes-sign, token-clean}
use Rattle.text.proofs.Valuing.{Arrived, scalar-value, group-value, member_complete}

abbrev pub Filled : Tuples → Type 0
Filled none = ⊥
Filled (scalar n x rest) = Unit {0}
Filled (inner n g kids rest) = Unit {0}

close-comma : (g : Shape) → eqb (closes g) comma ≡ false
close-comma Set = refl
close-comma Array = refl

close-close : (g : Shape) → eqb (closes g) (closes g) ≡ true
close-close Set = refl
close-close Array = refl

open-close : (a g : Shape) → eqb (opens a) (closes g) ≡ false
open-close Set Set = refl
open-close Set Array = refl
open-close Array Set = refl
open-close Array Array = refl

module _ (d : List ℕ) where
  -- the tokens of members, without the comma before the first
  unfoldable pub lead : Tuples → ℕ → ℕ → List Token
  lead none row i = []
  lead (scalar n x rest) row i = label_tokens d row n ++ (token_of d (child d row n) x ∷ tokens_of d rest row (suc i))
  lead (inner n g kids rest) row i =
      label_tokens d row n ++ ((a_sign (opens g) ∷ (tokens_of d kids (child d row n) 0 ++ (a_sign (closes g) ∷ []))) ++ tokens_of d rest row (suc i))

  pub lead-first : (t : Tuples) (row : ℕ) → tokens_of d t row 0 ≡ lead t row 0
  unfolding lead tokens_of
  lead-first none row = refl
  lead-first (scalar n x rest) row = refl
  lead-first (inner n g kids rest) row = refl

  pub lead-more : (t : Tuples) (row i : ℕ) → Filled t → tokens_of d t row (suc i) ≡ a_sign comma ∷ lead t row (suc i)
  unfolding lead tokens_of
  lead-more none row i h = absurd h
  lead-more (scalar n x rest) row i h = refl
  lead-more (inner n g kids rest) row i h = refl

  signed_rest : (t : Tuples) (g : Shape) (row i : ℕ) (r : List Token) → Signed (tokens_of d t row (suc i) ++ (a_sign (closes g) ∷ r))
  unfolding tokens_of
  signed_rest none g row i r = closes-sign g
  signed_rest (scalar n x rest) g row i r = comma-sign
  signed_rest (inner n a kids rest) g row i r = comma-sign

module _ (d s : List ℕ) (member : Shape → ℕ → ℕ → List ℕ → ℕ → Judged Single) (g : Shape) (row k i : ℕ) (seen : List ℕ) (p : ℕ) (x : Single) (r : List Token) where
  last-member : Arrived s (member g row i seen p) x (a_sign (closes g) ∷ r) (suc p) → Arrived s (run d s member g row (suc k) i seen p) (before x none) r (suc p)
  unfolding run parted_at
  last-member a =
      let o = next_complete s a.place (a_sign (closes g)) r (closes-sign g) tt a.rest in
      record { place = o.0; is = rw (a.is, o.1.is, close-comma g, close-close g); rest = o.1.rest; further = omega (arith, a.further, o.1.further); within = o.1.within }

  more-members : (rest : Tuples) (ks : List Token) → Arrived s (member g row i seen p) x (a_sign comma ∷ ks) (suc p) → ((q : ℕ) → p < q → q ≤ length s → Spells ks (drop q s) → Arrived s (run d s member g row k (suc i) (number_for x ∷ seen) q) rest r (suc q)) → Arrived s (run d s member g row (suc k) i seen p) (before x rest) r (suc p)
  unfolding run parted_at
  more-members rest ks a rec =
      let o = next_complete s a.place (a_sign comma) ks comma-sign tt a.rest in
      let c = rec o.0 (omega (arith, a.further, o.1.further)) o.1.within o.1.rest in
      record { place = c.place; is = rw (a.is, o.1.is, c.is); rest = c.rest; further = omega (arith, a.further, o.1.further, c.further); within = c.within }

-- the first token of members
record Begun (g : Shape) (ks : List Token) : Type 0 where
  token : Token
  more : List Token
  whole : ks ≡ token ∷ more
  clean : Clean token
  loose : Loose token more
  stays : is_sign (closes g) token ≡ false

no_sign : (d : List ℕ) (row : ℕ) (x : Scalar) (c : ℕ) → is_sign c (token_of d row x) ≡ false
no_sign d row null c = refl
no_sign d row (integer i) c = refl
no_sign d row (option n) c = refl
no_sign d row (string t) c = refl
no_sign d row (boolean b) c = refl

module _ (d s : List ℕ) (ok : accepts d ≡ true) where
  begun_label : (g : Shape) (row n : ℕ) (ks : List Token) → child d row n < entries d → Begun g ks → Begun g (label_tokens d row n ++ ks)
  unfolding label_tokens
  begun_label g row n ks h b = go (is_set d row) refl
    where
      go : (t : Bool) → is_set d row ≡ t → Begun g (label_tokens d row n ++ ks)
      go true e = rw e (record { token = a_string (name d (child d row n)); more = a_sign colon ∷ ks; whole = refl; clean = name-spelt d ok (child d row n) h; loose = tt; stays = refl })
      go false e = rw e b

  begun : (t : Tuples) (g : Shape) (row i : ℕ) (seen : List ℕ) (r : List Token) → Filled t → row < entries d → kind d row ≡ shape_format g → Sound t → Fits d t row i seen → Begun g (lead d t row i ++ (a_sign (closes g) ∷ r))
  unfolding lead Sound Fits
  begun none g row i seen r z h k p f = absurd z
  begun (scalar n x rest) g row i seen r z h k p f =
      let c = inside d ok g row i n h k f.0.is_known in
      let ks = token_of d (child d row n) x ∷ tokens_of d rest row (suc i) in
      let w = a_sign (closes g) ∷ r in
      rw (append_assoc (label_tokens d row n) ks w)
      (begun_label g row n (ks ++ w) c (record {
        token = token_of d (child d row n) x;
        more = tokens_of d rest row (suc i) ++ w;
        whole = refl;
        clean = token-clean d ok (child d row n) x c f.0.does_fit f.1 p.0;
        loose = loose_signed (token_of d (child d row n) x) (tokens_of d rest row (suc i) ++ w) (signed_rest d rest g row i r);
        stays = no_sign d (child d row n) x (closes g);
      }))
  begun (inner n a kids rest) g row i seen r z h k p f =
      let c = inside d ok g row i n h k f.0.is_known in
      let js = tokens_of d kids (child d row n) 0 ++ (a_sign (closes a) ∷ []) in
      let ks = (a_sign (opens a) ∷ js) ++ tokens_of d rest row (suc i) in
      let w = a_sign (closes g) ∷ r in
      rw (append_assoc (label_tokens d row n) ks w)
      (begun_label g row n (ks ++ w) c (record {
        token = a_sign (opens a);
        more = (js ++ tokens_of d rest row (suc i)) ++ w;
        whole = refl;
        clean = opens-sign a;
        loose = tt;
        stays = open-close a g;
      }))

  -- past the bracket, where a member follows
  entered : (room : ℕ) (t : Tuples) (g : Shape) (row at p : ℕ) (r : List Token) → p ≤ length s → (b : Begun g (lead d t row 0 ++ (a_sign (closes g) ∷ r))) → Spells (lead d t row 0 ++ (a_sign (closes g) ∷ r)) (drop p s) → ((q : ℕ) → p ≤ q → q ≤ length s → Spells (lead d t row 0 ++ (a_sign (closes g) ∷ r)) (drop q s) → Arrived s (run d s (member_at d s (inside_of d s room)) g row (length s) 0 [] q) t r (suc q)) → Arrived s (inside_of d s (suc room) g row at p) t r p
  unfolding inside_of
  entered room t g row at p r h b y rec =
      let z : Spells (b.token ∷ b.more) (drop p s) = rw b.whole at y in
      let o = next_complete s p b.token b.more b.clean b.loose z in
      let c = rec (past space s p) o.1.from (past-most space s p h) (rw (sym b.whole) at o.1.there) in
      record { place = c.place; is = rw (o.1.is, b.stays) c.is; rest = c.rest; further = omega (arith, c.further, o.1.from); within = c.within }

  -- an object or array, where its members are answered
  inside_complete : (room : ℕ) (t : Tuples) (g : Shape) (row at p : ℕ) (r : List Token) → row < entries d → kind d row ≡ shape_format g → Sound t → Fits d t row 0 [] → p ≤ length s → Spells (tokens_of d t row 0 ++ (a_sign (closes g) ∷ r)) (drop p s) → (Filled t → (q : ℕ) → p ≤ q → q ≤ length s → Spells (lead d t row 0 ++ (a_sign (closes g) ∷ r)) (drop q s) → Arrived s (run d s (member_at d s (inside_of d s room)) g row (length s) 0 [] q) t r (suc q)) → Arrived s (inside_of d s (suc room) g row at p) t r p
  unfolding inside_of tokens_of
  inside_complete room none g row at p r h k v f b y rec =
      let o = next_complete s p (a_sign (closes g)) r (closes-sign g) tt y in
      record { place = o.0; is = rw (o.1.is, close-close g); rest = o.1.rest; further = omega (arith, o.1.further); within = o.1.within }
  inside_complete room (scalar n x rest) g row at p r h k v f b y rec = entered room (scalar n x rest) g row at p r b (begun (scalar n x rest) g row 0 [] r tt h k v f) (rw (lead-first d (scalar n x rest) row) at y) (rec tt)
  inside_complete room (inner n a kids rest) g row at p r h k v f b y rec = entered room (inner n a kids rest) g row at p r b (begun (inner n a kids rest) g row 0 [] r tt h k v f) (rw (lead-first d (inner n a kids rest) row) at y) (rec tt)

  -- a member, and what follows it up to the bracket
  goes_on : (member : Shape → ℕ → ℕ → List ℕ → ℕ → Judged Single) (rest : Tuples) (g : Shape) (row k i : ℕ) (seen : List ℕ) (p : ℕ) (x : Single) (r : List Token) → Arrived s (member g row i seen p) x (tokens_of d rest row (suc i) ++ (a_sign (closes g) ∷ r)) (suc p) → (Filled rest → (q : ℕ) → p < q → q ≤ length s → Spells (lead d rest row (suc i) ++ (a_sign (closes g) ∷ r)) (drop q s) → Arrived s (run d s member g row k (suc i) (number_for x ∷ seen) q) rest r (suc q)) → Arrived s (run d s member g row (suc k) i seen p) (before x rest) r (suc p)
  unfolding tokens_of lead
  goes_on member none g row k i seen p x r a rec = last-member d s member g row k i seen p x r a
  goes_on member (scalar n v rest) g row k i seen p x r a rec =
      more-members d s member g row k i seen p x r (scalar n v rest) (lead d (scalar n v rest) row (suc i) ++ (a_sign (closes g) ∷ r)) a (rec tt)
  goes_on member (inner n b kids rest) g row k i seen p x r a rec =
      more-members d s member g row k i seen p x r (inner n b kids rest) (lead d (inner n b kids rest) row (suc i) ++ (a_sign (closes g) ∷ r)) a (rec tt)

  some_left : (g : Shape) (ks : List Token) (p : ℕ) → Begun g ks → Spells ks (drop p s) → p < length s
  some_left g ks p b y =
      let z : Spells (b.token ∷ b.more) (drop p s) = rw b.whole at y in
      let o = next_complete s p b.token b.more b.clean b.loose z in
      omega (arith, o.1.further, o.1.within)

  spread : (l k r w : List Token) (o c : Token) → (l ++ ((o ∷ (k ++ (c ∷ []))) ++ r)) ++ w ≡ l ++ (o ∷ (k ++ (c ∷ (r ++ w))))
  spread l k r w o c =
      append_assoc l ((o ∷ (k ++ (c ∷ []))) ++ r) w
      ∙ ap (λ (z : List Token). l ++ (o ∷ z)) (append_assoc (k ++ (c ∷ [])) r w ∙ append_assoc k (c ∷ []) (r ++ w))

  pub run_complete : (t : Tuples) (room : ℕ) (g : Shape) (row k i : ℕ) (seen : List ℕ) (p : ℕ) (r : List Token) → Filled t → row < entries d → kind d row ≡ shape_format g → Sound t → Fits d t row i seen → depth t ≤ room → p ≤ length s → length s ≤ p + k → Spells (lead d t row i ++ (a_sign (closes g) ∷ r)) (drop p s) → Arrived s (run d s (member_at d s (inside_of d s room)) g row k i seen p) t r (suc p)
  unfolding lead Sound Fits depth
  run_complete none room g row k i seen p r z h e v f m b l y = absurd z
  run_complete (scalar n x rest) room g row zero i seen p r z h e v f m b l y =
      absurd (omega (arith, some_left g (lead d (scalar n x rest) row i ++ (a_sign (closes g) ∷ r)) p (begun (scalar n x rest) g row i seen r tt h e v f) y))
  run_complete (scalar n x rest) room g row (suc k) i seen p r z h e v f m b l y =
      let w = a_sign (closes g) ∷ r in
      let c = inside d ok g row i n h e f.0.is_known in
      let t = token_of d (child d row n) x in
      let y' : Spells (label_tokens d row n ++ (t ∷ (tokens_of d rest row (suc i) ++ w))) (drop p s) = rw (append_assoc (label_tokens d row n) (t ∷ tokens_of d rest row (suc i)) w) at y in
      goes_on (member_at d s (inside_of d s room)) rest g row k i seen p (plain n x) r
      (member_complete d s ok (inside_of d s room) g row i n seen p (plain n x) (tokens_of d rest row (suc i) ++ w) (t ∷ (tokens_of d rest row (suc i) ++ w)) h e f.0.is_known f.0.is_fresh b y'
      λ q a u. scalar-value d s ok (inside_of d s room) n (child d row n) q x (tokens_of d rest row (suc i) ++ w) c f.0.does_fit f.1 v.0 (signed_rest d rest g row i r) u)
      (λ o q a u y. run_complete rest room g row k (suc i) (n ∷ seen) q r o h e v.1 f.2 m u (omega arith) y)
  run_complete (inner n a kids rest) room g row zero i seen p r z h e v f m b l y =
      absurd (omega (arith, some_left g (lead d (inner n a kids rest) row i ++ (a_sign (closes g) ∷ r)) p (begun (inner n a kids rest) g row i seen r tt h e v f) y))
  run_complete (inner n a kids rest) zero g row (suc k) i seen p r z h e v f m b l y = absurd (omega arith)
  run_complete (inner n a kids rest) (suc room) g row (suc k) i seen p r z h e v f m b l y =
      let w = a_sign (closes g) ∷ r in
      let c = inside d ok g row i n h e f.0.is_known in
      let ck = group-kind d (child d row n) a f.0.does_fit in
      let R = tokens_of d rest row (suc i) ++ w in
      let K = tokens_of d kids (child d row n) 0 ++ (a_sign (closes a) ∷ R) in
      let y' : Spells (label_tokens d row n ++ (a_sign (opens a) ∷ K)) (drop p s) = rw (spread (label_tokens d row n) (tokens_of d kids (child d row n) 0) (tokens_of d rest row (suc i)) w (a_sign (opens a)) (a_sign (closes a))) at y in
      goes_on (member_at d s (inside_of d s (suc room))) rest g row k i seen p (group n a kids) r
      (member_complete d s ok (inside_of d s (suc room)) g row i n seen p (group n a kids) R (a_sign (opens a) ∷ K) h e f.0.is_known f.0.is_fresh b y'
      λ q o u. group-value d s ok (inside_of d s (suc room)) n (child d row n) q a kids R K f.0.does_fit u
      λ at q o u y. inside_complete room kids a (child d row n) at q R c ck v.0 f.1 u y
      λ z q o u y. run_complete kids room a (child d row n) (length s) 0 [] q R z c ck v.0 f.1 (omega arith) u (omega arith) y)
      (λ o q a u y. run_complete rest (suc room) g row k (suc i) (n ∷ seen) q r o h e v.1 f.2 (omega arith) u (omega arith) y)

  root_complete : (t : Tuples) → Spells (root_tokens d t) s → Fits d t 0 0 [] → Sound t → suc (depth t) ≤ depth_most → Arrived s (root_at d s) t [] 0
  unfolding root_at form_for
  root_complete t y f v m =
      let z = accepted_header d ok in
      let o = next_complete s 0 (a_sign (opens Set)) (tokens_of d t 0 0 ++ (a_sign (closes Set) ∷ [])) (opens-sign Set) tt y in
      let c = inside_complete (depth_most - 1) t Set 0 (past space s 0) o.0 [] (omega (arith, z.some)) z.root v f o.1.within o.1.rest
      (λ x q b u y. run_complete t (depth_most - 1) Set 0 (length s) 0 [] q [] x (omega (arith, z.some)) z.root v f (omega arith) u (omega arith) y) in
      record { place = c.place; is = rw o.1.is c.is; rest = c.rest; further = omega arith; within = c.within }

  pub tree_complete : (t : Tuples) → Spells (root_tokens d t) s → Fits d t 0 0 [] → Sound t → suc (depth t) ≤ depth_most → (q : ℕ) × (tree_of d s ≡ good q 0 t)
  unfolding tree_of Spells
  tree_complete t y f v m = made (root_complete t y f v m)
    where
      made : Arrived s (root_at d s) t [] 0 → (q : ℕ) × (tree_of d s ≡ good q 0 t)
      made c =
          let z = past-run space s (drop c.place s) [] c.place (sym (append-nil (drop c.place s))) (blank-all (drop c.place s) c.rest) tt in
          (c.place, rw (c.is, le-leb (length s) (past space s c.place) (omega (arith, z, length-drop c.place s, c.within))))
