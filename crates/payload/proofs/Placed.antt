-- Where the answers stand: a tuple's refusal has a number from 4 to 12 and a place from the tuple's start to the end of what encloses it, and what is accepted ends there.
-- Assumes nothing.
--   Late lo hi k w    the number k is one of a tuple's, and the place w is from lo to hi
--   Placed lo hi r    an answer is refused so, or ends from lo to hi
--   tuple_placed, run-placed, inside-placed, root-placed   so is each
use mathlib.Core.Path.{◌≡◌, refl}
use mathlib.Core.List.{List, [], ◌∷◌}
use mathlib.Core.Bool.{Bool, true, false, ◌&&◌, true≢false}
use Prim.Native.Nat.{ℕ, zero, suc, ◌+◌, ◌-◌, ◌/◌, ◌%◌, ◌<◌, ◌≤◌}
use native.Mathlib.Omega.{arith}
use lib.ListN.{length, take}
use lib.Seq.{slice}
use lib.Dec.{ltb, leb, eqb}
use borrow.Author.Tests.{ltb-false}
use Rattle.dictionary.specs.Formats.{null_form, integer_form, enum_form, string_form}
use Rattle.paper.specs.Refusals.{past_end, width_wrong, not_known, given_twice, not_in_base, misfit, value_wrong, too_deep, budget_spent}
use Rattle.paper.specs.Limits.{payload_least, depth_most, number_least, number_most}
use Rattle.paper.specs.Checks.{choose, Judged, refused, good, refuse, need, after}
use Rattle.numbers.specs.Bytes.{byte}
use Rattle.numbers.specs.Number.{Found, Refused, Value, number_at}
use Rattle.numbers.specs.Integer.{is_integer}
use Rattle.numbers.proofs.Numbers.{stands}
use Rattle.dictionary.specs.Children.{child_numbered}
use Rattle.payload.specs.Tree.{Scalar, option, Tuples, boolean_byte}
use Rattle.payload.specs.Strings.{well_spelt}
use Rattle.payload.specs.Fits.{child, found}
use Rattle.payload.specs.Values.{Valued, wrong, worth, when, integer_value, boolean_value, string_value, option_in, option_value, scalar_value}
use Rattle.payload.specs.Reading.{asked, Single, number_for, number, value, supported, tuple_at, run, inside_of, root_at}
use Rattle.payload.proofs.Asked.{tuple_asked, root-asked}

pub record Late (lo hi k w : ℕ) : Type 0 where
  pub least : past_end ≤ k
  pub most : k ≤ budget_spent
  pub low : lo ≤ w
  pub high : w ≤ hi

unfoldable pub Placed : {A : Type 0} → ℕ → ℕ → Judged A → Type 0
Placed lo hi (refused k w) = Late lo hi k w
Placed lo hi (good z l x) = (lo ≤ z) × (z ≤ hi)

pub placed-refused : {A : Type 0} (lo hi k w : ℕ) (r : Judged A) → Placed lo hi r → r ≡ refused k w → Late lo hi k w
unfolding Placed
placed-refused lo hi k w r h e = rw e at h

-- the faults of a number
unfoldable Numeric : Found → Type 0
Numeric (Refused k) = (past_end ≤ k) × (k ≤ width_wrong)
Numeric (Value n w) = Unit {0}

numeric_value : (n w : ℕ) → Numeric (Value n w)
unfolding Numeric
numeric_value n w = tt

numeric_choose : (b : Bool) (k : ℕ) (f : Unit {0} → Found) → past_end ≤ k → k ≤ width_wrong → Numeric (f tt) → Numeric (choose b (λ _. Refused k) f)
unfolding Numeric
numeric_choose true k f h g r = (h, g)
numeric_choose false k f h g r = r

numeric : (s : List ℕ) (p e : ℕ) → Numeric (number_at s p e)
unfolding number_at
numeric s p e =
    numeric_choose (leb e p) past_end _ (omega arith) (omega arith)
    (numeric_choose (ltb (byte s p) number_least) width_wrong _ (omega arith) (omega arith)
    (numeric_choose (ltb number_most (byte s p)) width_wrong _ (omega arith) (omega arith)
    (numeric_choose (ltb (e - (p + 1)) (byte s p)) past_end _ (omega arith) (omega arith) (numeric_value _ _))))

-- those of a scalar
unfoldable Scalary : Valued → Type 0
Scalary (wrong k) = (past_end ≤ k) × (k ≤ budget_spent)
Scalary (worth x) = Unit {0}

scalary_worth : (x : Scalar) → Scalary (worth x)
unfolding Scalary
scalary_worth x = tt

scalary_when : (b : Bool) (x : Scalar) → Scalary (when b (λ _. x))
unfolding Scalary
scalary_when true x = tt
scalary_when false x = (omega arith, omega arith)

scalary_choose : (b : Bool) (f g : Unit {0} → Valued) → Scalary (f tt) → Scalary (g tt) → Scalary (choose b f g)
unfolding Scalary
scalary_choose true f g x y = x
scalary_choose false f g x y = y

scalary_option : (d : List ℕ) (row : ℕ) (v : List ℕ) (r : Found) → Numeric r → Scalary (option_in d row v r)
unfolding Scalary Numeric
scalary_option d row v (Refused k) h = (h.0, omega (arith, h.1))
scalary_option d row v (Value n w) h = scalary_when (eqb (1 + w) (length v) && found (child_numbered d row n)) (option n)

scalary : (d : List ℕ) (row f : ℕ) (v : List ℕ) → Scalary (scalar_value d row f v)
unfolding scalar_value integer_value option_value string_value boolean_value
scalary d row f v =
    scalary_choose (eqb f null_form) _ _ (scalary_when (eqb (length v) 0) _)
    (scalary_choose (eqb f integer_form) _ _ (scalary_when (is_integer v) _)
    (scalary_choose (eqb f enum_form) _ _ (scalary_option d row v (number_at v 0 (length v)) (numeric v 0 (length v)))
    (scalary_choose (eqb f string_form) _ _ (scalary_when (leb 1 (length v) && eqb (byte v (length v - 1)) 0 && well_spelt (take (length v - 1) v)) _)
    (scalary_choose (eqb (length v) 1 && eqb (byte v 0) (boolean_byte false)) _ _ (scalary_worth _) (scalary_when (eqb (length v) 1 && eqb (byte v 0) (boolean_byte true)) _)))))

-- each combinator keeps it
module _ {A : Type 0} (lo hi : ℕ) where
  good_placed : (z l : ℕ) (x : A) → lo ≤ z → z ≤ hi → Placed lo hi (good z l x)
  unfolding Placed
  good_placed z l x h g = (h, g)

  module _ (k w : ℕ) (h : Late lo hi k w) where
    refuse-placed : (b : Bool) (f : Unit {0} → Judged A) → (b ≡ false → Placed lo hi (f tt)) → Placed lo hi (refuse b k w f)
    unfolding Placed
    refuse-placed true f g = h
    refuse-placed false f g = g refl

    need-placed : (b : Bool) (f : Unit {0} → Judged A) → Placed lo hi (f tt) → Placed lo hi (need b k w f)
    unfolding Placed
    need-placed true f g = g
    need-placed false f g = h

  after-placed : {B : Type 0} (r : Judged B) (f : ℕ → ℕ → B → Judged A) → Placed lo hi r → ((p m : ℕ) (y : B) → lo ≤ p → p ≤ hi → Placed lo hi (f p m y)) → Placed lo hi (after r f)
  unfolding Placed
  after-placed (refused k w) f h g = h
  after-placed (good p m y) f h g = g p m y h.0 h.1

  number-placed : (s : List ℕ) (at p e : ℕ) (f : ℕ → ℕ → Judged A) → lo ≤ at → at ≤ hi → ((n q : ℕ) → p < q → q ≤ e → Placed lo hi (f n q)) → Placed lo hi (number (number_at s p e) at p f)
  unfolding Placed Numeric
  number-placed s at p e f a b g = go (number_at s p e) refl (numeric s p e)
    where
      go : (r : Found) → number_at s p e ≡ r → Numeric r → Placed lo hi (number r at p f)
      go (Refused k) x h = record { least = h.0; most = omega (arith, h.1); low = a; high = b }
      go (Value n w) x h = let t = stands s p e n w x in g n (p + 1 + w) (omega arith) t.within

  value-placed : (r : Valued) (at : ℕ) (f : Scalar → Judged A) → Scalary r → lo ≤ at → at ≤ hi → ((x : Scalar) → Placed lo hi (f x)) → Placed lo hi (value r at f)
  unfolding Placed Scalary
  value-placed (wrong k) at f h a b g = record { least = h.0; most = h.1; low = a; high = b }
  value-placed (worth x) at f h a b g = g x

  -- further out
  wider : (lo' hi' : ℕ) (r : Judged A) → lo' ≤ lo → hi ≤ hi' → Placed lo hi r → Placed lo' hi' r
  unfolding Placed
  wider lo' hi' (refused k w) h g x = record { least = x.least; most = x.most; low = omega (arith, x.low); high = omega (arith, x.high) }
  wider lo' hi' (good z l y) h g x = (omega (arith, x.0), omega (arith, x.1))

choose-placed : {A : Type 0} (lo hi : ℕ) (b : Bool) (f g : Unit {0} → Judged A) → Placed lo hi (f tt) → Placed lo hi (g tt) → Placed lo hi (choose b f g)
unfolding Placed
choose-placed lo hi true f g x y = x
choose-placed lo hi false f g x y = y

unfoldable pub Insides : (ℕ → ℕ → ℕ → ℕ → ℕ → Judged Tuples) → Type 0
Insides inside = (r at p q l : ℕ) → at ≤ p → p ≤ q → Placed at q (inside r at p q l)

-- the checks before a value
asked-placed : {A : Type 0} (s : List ℕ) (knows news : ℕ → Bool) (suits : ℕ → ℕ → Bool) (body : ℕ → ℕ → ℕ → ℕ → Judged A) (at e l : ℕ) → at ≤ e → ((n f q z : ℕ) → at ≤ q → q ≤ z → z ≤ e → Placed at e (body n f q z)) → Placed at e (asked s knows news suits body at e l)
unfolding asked
asked-placed s knows news suits body at e l h H =
    let own : (k : ℕ) → past_end ≤ k → k ≤ budget_spent → Late at e k at = λ k a b. record { least = a; most = b; low = omega arith; high = h } in
    refuse-placed at e budget_spent at (own budget_spent (omega arith) (omega arith)) (eqb l 0) _ λ _.
    number-placed at e s at at e _ (omega arith) h λ S p lt le.
    need-placed at e not_in_base at (own not_in_base (omega arith) (omega arith)) (eqb (S % 2) 0) _
    (need-placed at e not_known at (own not_known (omega arith) (omega arith)) (knows (S / 2)) _
    (need-placed at e given_twice at (own given_twice (omega arith) (omega arith)) (news (S / 2)) _
    (refuse-placed at e past_end at (own past_end (omega arith) (omega arith)) (leb e p) _ λ _.
    need-placed at e not_in_base at (own not_in_base (omega arith) (omega arith)) (supported (byte s p)) _
    (need-placed at e misfit at (own misfit (omega arith) (omega arith)) (suits (S / 2) (byte s p / 16)) _
    (number-placed at e s at (p + 1) e _ (omega arith) h λ len q lt' le'.
    refuse-placed at e past_end at (own past_end (omega arith) (omega arith)) (ltb (e - q) len) _ λ room.
    H (S / 2) (byte s p / 16) q (q + len) (omega arith) (omega arith) (omega (arith, ltb-false (e - q) len room)))))))

module _ (d s : List ℕ) where
  pub tuple_placed : (inside : ℕ → ℕ → ℕ → ℕ → ℕ → Judged Tuples) → Insides inside → (row i : ℕ) (seen : List ℕ) (at e l : ℕ) → at ≤ e → Placed at e (tuple_at d s inside row i seen at e l)
  unfolding Insides
  tuple_placed inside H row i seen at e l h =
      rw (tuple_asked d s inside row i seen at e l)
      (asked-placed s _ _ _ _ at e l h λ n f q z a b c.
      let r = child d row n in
      choose-placed at e (ltb f 2) _ _
      (after-placed at e (inside r at q z (l - 1)) _ (wider at z at e (inside r at q z (l - 1)) (omega arith) c (H r at q z (l - 1) a b)) λ y m kids g j. good_placed at e y m _ g j)
      (value-placed at e (scalar_value d r f (slice q z s)) at _ (scalary d r f (slice q z s)) (omega arith) h λ x. good_placed at e z (l - 1) _ (omega arith) c))

  pub run-placed : (tuple : ℕ → ℕ → List ℕ → ℕ → ℕ → ℕ → Judged Single) (row e : ℕ) → ((i : ℕ) (seen : List ℕ) (p l : ℕ) → p ≤ e → Placed p e (tuple row i seen p e l)) → (k i : ℕ) (seen : List ℕ) (p l : ℕ) → p ≤ e → Placed p e (run d s tuple row k i seen p e l)
  unfolding run
  run-placed tuple row e H zero i seen p l h = good_placed p e p l _ (omega arith) h
  run-placed tuple row e H (suc k) i seen p l h =
      after-placed p e (tuple row i seen p e l) _ (H i seen p l h) λ q m x a b.
      let rest = run d s tuple row k (suc i) (number_for x ∷ seen) q e m in
      after-placed p e rest _ (wider q e p e rest a (omega arith) (run-placed tuple row e H k (suc i) (number_for x ∷ seen) q m b)) λ z n t c f. good_placed p e z n _ c f

  pub inside-placed : (room : ℕ) → Insides (inside_of d s room)
  unfolding inside_of Insides
  inside-placed zero r at p q l h g = refuse-placed at q too_deep at (record { least = omega arith; most = omega arith; low = omega arith; high = omega arith }) true (λ _. refused too_deep at) λ e. absurd (true≢false e)
  inside-placed (suc room) r at p q l h g =
      number-placed at q s at p q _ (omega arith) (omega arith) λ n first a b.
      let kids = run d s (tuple_at d s (inside_of d s room)) r n 0 [] first q l in
      after-placed at q kids _ (wider first q at q kids (omega arith) (omega arith) (run-placed (tuple_at d s (inside_of d s room)) r q (λ i seen p l e. tuple_placed (inside_of d s room) (inside-placed room) r i seen p q l e) n 0 [] first l b)) λ z m t c f.
      need-placed at q value_wrong at (record { least = omega arith; most = omega arith; low = omega arith; high = omega arith }) (eqb z q) _ (good_placed at q q m _ (omega arith) (omega arith))

  pub root-placed : (budget : ℕ) → payload_least ≤ length s → Placed payload_least (length s) (root_at d s budget)
  unfolding Insides
  root-placed budget h =
      rw (root-asked d s budget)
      (asked-placed s _ _ _ _ payload_least (length s) budget h λ n f q z a b c.
      wider payload_least z payload_least (length s) (inside_of d s depth_most 0 payload_least q z (budget - 1)) (omega arith) c (inside-placed depth_most 0 payload_least q z (budget - 1) a b))
