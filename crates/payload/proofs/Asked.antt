-- The checks before a tuple's value, once for the root and every other tuple: what is written passes them, and what passes them is written.
-- Assumes nothing.
--   asked                     the checks, with the tests of number, repeat and fit, and what judges the value
--   tuple_asked, root-asked   both are instances of it
--   Base f                    f is a format of the base; supported-of, supported-is: the test, both ways
--   asked_complete            a tuple that is written and passes the tests is judged by its value
--   asked-sound               a tuple that is accepted is written around its value, whatever that is
use mathlib.Core.Path.{◌≡◌, refl, sym, ap, ◌∙◌}
use mathlib.Core.List.{List, [], ◌∷◌, ◌++◌}
use mathlib.Core.Bool.{Bool, true, false, not, ◌&&◌}
use Prim.Native.Nat.{ℕ, ◌+◌, ◌-◌, ◌*◌, ◌/◌, ◌%◌, ◌<◌, ◌≤◌}
use native.Mathlib.Omega.{arith}
use lib.ListN.{length, drop}
use lib.Dec.{ltb, leb, eqb}
use borrow.Author.Tests.{ltb-false, leb-true, leb-false, eqb-true, eqb-false, not-true, le-ltb, lt-leb, le-leb, eq-eqb, ne_eqb}
use Rattle.paper.specs.Limits.{payload_least, depth_most}
use Rattle.paper.specs.Refusals.{past_end, not_in_base, misfit}
use Rattle.paper.specs.Checks.{Judged, good, refuse, need}
use Rattle.paper.proofs.Tests.{and_left, and_right}
use Rattle.paper.proofs.Checks.{passed, needed}
use Rattle.numbers.specs.Bytes.{Bytes, byte}
use Rattle.numbers.specs.Number.{Value, Number, number_at}
use Rattle.numbers.proofs.Places.{first, bytes-at}
use Rattle.dictionary.specs.Formats.{set_form, real_form, boolean_form}
use Rattle.payload.specs.Tree.{Tuples}
use Rattle.payload.specs.Writes.{Cut, Format, Sized, Tuple}
use Rattle.payload.specs.Fits.{known, child, fresh, fits}
use Rattle.payload.specs.Reading.{number, supported, asked, body_at, tuple_at, inside_of, root_at}
use Rattle.payload.specs.Lying.{Lies, Read}
use Rattle.payload.proofs.Lying.{lies-order, cut_front, cut_rest, join, one, number-long, number-lies, number_read, renumber}
use Rattle.payload.proofs.Taken.{numbered}

module _ (d s : List ℕ) where
  pub tuple_asked : (inside : ℕ → ℕ → ℕ → ℕ → ℕ → Judged Tuples) (row i : ℕ) (seen : List ℕ) (at e l : ℕ) → tuple_at d s inside row i seen at e l ≡ asked s (known d row i) (fresh d row seen) (λ n f. fits d (child d row n) f) (λ n f q z. body_at d s inside n (child d row n) f at q z (l - 1)) at e l
  unfolding tuple_at asked
  tuple_asked inside row i seen at e l = refl

  pub root-asked : (budget : ℕ) → root_at d s budget ≡ asked s (λ n. eqb n 0) (λ n. true) (λ n f. eqb f set_form) (λ n f q z. inside_of d s depth_most 0 payload_least q z (budget - 1)) payload_least (length s) budget
  unfolding root_at asked
  root-asked budget = refl

pub record Base (f : ℕ) : Type 0 where
  pub high : f ≤ boolean_form
  pub not_real : f ≡ real_form → ⊥

pub supported-of : (x f : ℕ) → x / 16 ≡ f → x % 2 ≡ 0 → Base f → supported x ≡ true
unfolding supported
supported-of x f e z b = rw (e, eq-eqb _ _ z, ne_eqb f real_form b.not_real, le-leb f boolean_form b.high)

pub supported-is : (x : ℕ) → supported x ≡ true → (x % 2 ≡ 0) × Base (x / 16)
unfolding supported
supported-is x e =
    let a = and_left _ _ e in (
      eqb-true (x % 2) 0 (and_left _ _ a),
      record {
        high = leb-true (x / 16) boolean_form (and_right (eqb (x % 2) 0 && not (eqb (x / 16) real_form)) _ e);
        not_real = eqb-false (x / 16) real_form (not-true _ (and_right (eqb (x % 2) 0) _ a));
      },
    )

-- F and L stand from p on, and V from `from` to q
record Fielded (s : List ℕ) (p q e f : ℕ) (v : List ℕ) : Type 0 where
  width : ℕ
  from : ℕ
  within : leb e p ≡ false
  supports : supported (byte s p) ≡ true
  format : byte s p / 16 ≡ f
  found : number_at s (p + 1) e ≡ Value (length v) width
  place : p + 1 + 1 + width ≡ from
  room : ltb (e - from) (length v) ≡ false
  end : from + length v ≡ q
  lies : Lies s v from q

fields_complete : (s w : List ℕ) (P : List ℕ → Type 0) (p q e f : ℕ) (y : Lies s w p q) (t : Cut (Format f) (Sized P) w) → Base f → q ≤ e → Fielded s p q e f t.rest.value
fields_complete s w P p q e f y t b h =
    let x = t.here in
    let z = t.rest in
    let y₁ = cut_front t.front t.back w t.whole y in
    let y₂ = cut_rest t.front t.back w t.whole y in
    let k : length t.front ≡ 1 = ap length x.whole in
    let p₂ = p + length t.front in
    let p₃ = p₂ + length z.length_bytes in
    let y₃ = cut_front z.length_bytes z.value t.back z.whole y₂ in
    let y₄ = cut_rest z.length_bytes z.value t.back z.whole y₂ in
    let m = number-long z.long in
    let g : byte s p ≡ x.byte = first s (drop p₂ s) x.byte p (y₁.stands ∙ ap (λ (l : List ℕ). l ++ drop p₂ s) x.whole) in
    let i : p₂ ≡ p + 1 = omega arith in
    record {
      width = length z.length_bytes - 1;
      from = p₃;
      within = lt-leb e p (omega (arith, y₄.ends));
      supports = rw g (supported-of x.byte f x.nibble x.bound b);
      format = ap (λ (k : ℕ). k / 16) g ∙ x.nibble;
      found = rw i at (number-lies s z.length_bytes p₂ p₃ e (length z.value) y₃ z.long (omega (arith, y₄.ends)));
      place = omega arith;
      room = le-ltb (e - p₃) (length z.value) (omega (arith, y₄.ends));
      end = sym y₄.ends;
      lies = y₄;
    }

-- S, F and L from `at` on, which leave V from `from` to `to`
pub record Shell (s : List ℕ) (at e n f from to : ℕ) : Type 1 where
  pub within : to ≤ e
  pub order : from ≤ to
  pub base : Base f
  pub whole : (P : List ℕ → Type 0) (v : List ℕ) → Lies s v from to → P v → (w : List ℕ) × Lies s w at to × Tuple n f P w

pub shell-sound : (s : List ℕ) (at e S p len q : ℕ) → Bytes s → Read s at e S p → S % 2 ≡ 0 → p < e → e ≤ length s → supported (byte s p) ≡ true → Read s (p + 1) e len q → len ≤ e - q → Shell s at e (S / 2) (byte s p / 16) q (q + len)
shell-sound s at e S p len q hb u even lt he sup v room =
    let b = supported-is (byte s p) sup in
    let double : 2 * (S / 2) ≡ S = omega arith in
    record {
      within = omega (arith, v.within);
      order = omega arith;
      base = b.1;
      whole =
          λ P w y h.
          let m : Number (length w) v.bytes = renumber (omega (arith, y.ends)) v.writes in
          let f = byte s p ∷ [] in
          let z₁ = join v.bytes w v.lies y in
          let z₂ = join f (v.bytes ++ w) (one s p (omega arith)) z₁ in
          let z₃ = join u.bytes (f ++ (v.bytes ++ w)) u.lies z₂ in (
            u.bytes ++ (f ++ (v.bytes ++ w)),
            z₃,
            record {
              front = u.bytes;
              back = f ++ (v.bytes ++ w);
              whole = refl;
              here = renumber (sym double) u.writes;
              rest =
                  record {
                    front = f;
                    back = v.bytes ++ w;
                    whole = refl;
                    here = record { byte = byte s p; whole = refl; small = bytes-at s p hb; nibble = refl; bound = b.0 };
                    rest = record { length_bytes = v.bytes; value = w; whole = refl; long = m; here = h };
                  };
            },
          );
    }

-- the three tests
pub record Asks (knows news : ℕ → Bool) (suits : ℕ → ℕ → Bool) (n f : ℕ) : Type 0 where
  pub is_known : knows n ≡ true
  pub is_new : news n ≡ true
  pub does_suit : suits n f ≡ true

module _ {A : Type 0} (s : List ℕ) (knows news : ℕ → Bool) (suits : ℕ → ℕ → Bool) (body : ℕ → ℕ → ℕ → ℕ → Judged A) (at e l : ℕ) where
  -- V, and that all hangs on it
  pub record Opened (n f q : ℕ) (v : List ℕ) : Type 0 where
    pub from : ℕ
    pub lies : Lies s v from q
    pub same : asked s knows news suits body at e l ≡ body n f from q

  pub asked_complete : (P : List ℕ → Type 0) (w : List ℕ) (n f q : ℕ) → Lies s w at q → (t : Tuple n f P w) → Asks knows news suits n f → Base f → 1 ≤ l → q ≤ e → Opened n f q t.rest.rest.value
  unfolding asked
  asked_complete P w n f q y t a b hl h =
      let p = at + length t.front in
      let y₁ = cut_front t.front t.back w t.whole y in
      let y₂ = cut_rest t.front t.back w t.whole y in
      let x = fields_complete s t.back P p q e f y₂ t.rest b h in
      let g : number_at s at e ≡ Value (2 * n) (length t.front - 1) = number-lies s t.front at p e (2 * n) y₁ t.here (omega (arith, lies-order y₂)) in
      let k : at + 1 + (length t.front - 1) ≡ p = omega (arith, number-long t.here) in
      let half : 2 * n / 2 ≡ n = omega arith in
      let even : 2 * n % 2 ≡ 0 = omega arith in
      let some : eqb l 0 ≡ false = ne_eqb l 0 (λ x. omega arith) in
      record {
        from = x.from;
        lies = x.lies;
        same = rw (some, g, k, half, eq-eqb _ _ even, a.is_known, a.is_new, x.within, x.supports, x.format, a.does_suit, x.found, x.place, x.room, x.end);
      }

  -- a tuple that is accepted, up to its value
  pub record Open (q m : ℕ) (x : A) : Type 1 where
    pub number : ℕ
    pub form : ℕ
    pub from : ℕ
    pub to : ℕ
    pub asks : Asks knows news suits number form
    pub some : 1 ≤ l
    pub shell : Shell s at e number form from to
    pub judged : body number form from to ≡ good q m x

  pub asked-sound : (q m : ℕ) (x : A) → Bytes s → e ≤ length s → asked s knows news suits body at e l ≡ good q m x → Open q m x
  unfolding asked
  asked-sound q m x hb he y₀ =
      let y₁ = passed q m x (eqb l 0) _ _ _ y₀ in
      let y₂ = numbered q m x (number_at s at e) _ _ _ y₁.1 in
      let y₃ = needed q m x (eqb (y₂.0 % 2) 0) _ _ _ y₂.3 in
      let y₄ = needed q m x (knows (y₂.0 / 2)) _ _ _ y₃.1 in
      let y₅ = needed q m x (news (y₂.0 / 2)) _ _ _ y₄.1 in
      fields y₂.0 (at + 1 + y₂.1) (eqb-false l 0 y₁.0) (number_read s at e y₂.0 y₂.1 hb he y₂.2) (eqb-true _ _ y₃.0) y₄.0 y₅.0 y₅.1
    where
      fields : (S p : ℕ) → (l ≡ 0 → ⊥) → Read s at e S p → S % 2 ≡ 0 → knows (S / 2) ≡ true → news (S / 2) ≡ true
          → (refuse (leb e p) past_end at λ _. need (supported (byte s p)) not_in_base at λ _. need (suits (S / 2) (byte s p / 16)) misfit at λ _. number (number_at s (p + 1) e) at (p + 1) λ len q. refuse (ltb (e - q) len) past_end at λ _. body (S / 2) (byte s p / 16) q (q + len)) ≡ good q m x
          → Open q m x
      fields S p hl u even kn nw y₅ =
          let y₆ = passed q m x (leb e p) _ _ _ y₅ in
          let y₇ = needed q m x (supported (byte s p)) _ _ _ y₆.1 in
          let y₈ = needed q m x (suits (S / 2) (byte s p / 16)) _ _ _ y₇.1 in
          let y₉ = numbered q m x (number_at s (p + 1) e) _ _ _ y₈.1 in
          let from = p + 1 + 1 + y₉.1 in
          let z = passed q m x (ltb (e - from) y₉.0) _ _ _ y₉.3 in
          record {
            number = S / 2;
            form = byte s p / 16;
            from = from;
            to = from + y₉.0;
            asks = record { is_known = kn; is_new = nw; does_suit = y₈.0 };
            some = omega arith;
            shell = shell-sound s at e S p y₉.0 from hb u even (leb-false e p y₆.0) he y₇.0 (number_read s (p + 1) e y₉.0 y₉.1 hb he y₉.2) (ltb-false _ _ z.0);
            judged = z.1;
          }
