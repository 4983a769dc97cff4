-- A tuple: what each return of `member_at` has to show.
-- Assumes nothing.
use Prim.Native.Nat.{ℕ, ◌-◌}
use mathlib.Core.Path.{◌≡◌, refl, sym, ap, ◌∙◌}
use mathlib.Core.List.{List}
use mathlib.Core.Bool.{Bool, true, false}
use native.Mathlib.Omega.{arith}
use lib.ListN.{length}
use Rattle.std.specs.Prelude.{Ok, Err}
use Rattle.paper.specs.declared.Refusal.{Refusal}
use Rattle.paper.specs.Refusal.{number_of}
use Rattle.paper.specs.Refusals.{not_known, given_twice}
use Rattle.paper.specs.Checks.{Judged, refused, need}
use Rattle.numbers.specs.Number.{Found}
use Rattle.numbers.specs.Number as found
use Rattle.payload.specs.Checked.{Checked}
use Rattle.payload.specs.Checked as checked
use Rattle.payload.specs.Fits.{known, child, fresh, fits}
use Rattle.payload.specs.Text.{word}
use Rattle.payload.specs.Reading.{Single, body_at, tuple_at}
use Rattle.payload.proofs.Asked.{tuple_asked}
use Rattle.repeats.specs.Roll.{Kept}
use Rattle.reader_fields.specs.Fields.{sequence_at, sequenced, NumberPlaced, SequenceMet}
use Rattle.reader_fields.proofs.Fielding.{asked-steps}
use Rattle.reader_members.specs.declared.member.Body.{Body}
use Rattle.reader_members.specs.declared.member.Body.TheVariants as body
use Rattle.reader_fields.specs.declared.Extent.{Extent}
use Rattle.reader_members.specs.Met.{seat_of, SeatMet, FrontMet, Inner, rest_at, Wording, Housing, BodyMet, MemberMet}

-- what follows S in the i-th tuple of a row's value
module _ (d s : List ℕ) (inner : Inner) (row i : ℕ) (seen : List ℕ) (at e l : ℕ) where
  abbrev Seatings : ℕ → ℕ → Judged Single
  Seatings n p = need (known d row i n) not_known at λ _. need (fresh d row seen n) given_twice at λ _. rest_at d s inner n (child d row n) at p e (l - 1)

  tuple_steps : tuple_at d s inner row i seen at e l ≡ sequenced (sequence_at s at e l) at Seatings
  unfolding rest_at
  tuple_steps =
      tuple_asked d s inner row i seen at e l
      ∙ asked-steps s at e (known d row i) (fresh d row seen) (λ n f. fits d (child d row n) f) (λ n f q z. body_at d s inner n (child d row n) f at q z (l - 1)) l

-- what an answer of `seat_at` says of the two checks
seat_refuses : {A : Type 0} (a b : Bool) (c k at : ℕ) (x : Judged A) → checked.Refused k ≡ seat_of a b c → need a not_known at (λ _. need b given_twice at λ _. x) ≡ refused k at
seat_refuses true true c k at x e = absurd (let z : ◌≡◌ {A = ℕ} 0 1 = cc in omega arith)
seat_refuses true false c k at x e = let z : k ≡ given_twice = cc in rw z
seat_refuses false b c k at x e = let z : k ≡ not_known = cc in rw z

seat_takes : {A : Type 0} (a b : Bool) (c c' at : ℕ) (x : Judged A) → checked.Good c ≡ seat_of a b c' → (c ≡ c') × (need a not_known at (λ _. need b given_twice at λ _. x) ≡ x)
seat_takes true true c c' at x e = (cc, refl)
seat_takes true false c c' at x e = absurd (let z : ◌≡◌ {A = ℕ} 0 1 = cc in omega arith)
seat_takes false b c c' at x e = absurd (let z : ◌≡◌ {A = ℕ} 0 1 = cc in omega arith)

module _ (d s : List ℕ) (row i : ℕ) (bits : List ℕ) (at e l : ℕ) where
  pub member-sequence : {k : Refusal} → SequenceMet s at e l (found.Refused (number_of k)) → MemberMet d s row i bits at e l (Err k) bits
  member-sequence m =
      record {
        placed = tt;
        told = λ seen kept. record { told = λ inner. tuple_steps d s inner row i seen at e l ∙ rw (← m.same) };
      }

  module _ (n p : ℕ) (m : SequenceMet s at e l (found.Value n p)) (bits' : List ℕ) where
    begun : (inner : Inner) (seen : List ℕ) → tuple_at d s inner row i seen at e l ≡ Seatings d s inner row i seen at e l n p
    begun inner seen = tuple_steps d s inner row i seen at e l ∙ rw (← m.same)

    placing : NumberPlaced at e l p
    placing = m.placed

    pub member_seat : {k : Refusal} → SeatMet d row i n bits (checked.Refused (number_of k)) bits' → MemberMet d s row i bits at e l (Err k) bits'
    member_seat {k} v =
        record {
          placed = tt;
          told = λ seen kept. record { told = λ inner. begun inner seen ∙ seat_refuses (known d row i n) (fresh d row seen n) (child d row n) (number_of k) at _ (v.told seen kept).same };
        }

    module _ (c : ℕ) (v : SeatMet d row i n bits (checked.Good c) bits') where
      module _ (seen : List ℕ) (kept : Kept d row seen bits) where
        is_child : c ≡ child d row n
        is_child = (seat_takes {A = Single} (known d row i n) (fresh d row seen n) c (child d row n) at (refused 0 0) (v.told seen kept).same).0

        seated : (inner : Inner) → tuple_at d s inner row i seen at e l ≡ rest_at d s inner n c at p e (l - 1)
        seated inner =
            begun inner seen
            ∙ (seat_takes (known d row i n) (fresh d row seen n) c (child d row n) at _ (v.told seen kept).same).1
            ∙ ap (λ (r : ℕ). rest_at d s inner n r at p e (l - 1)) (sym is_child)

      pub member-body : {k : Refusal} → BodyMet d s c p e (Err k) → MemberMet d s row i bits at e l (Err k) bits'
      member-body y = record { placed = tt; told = λ seen kept. record { told = λ inner. seated seen kept inner ∙ y.met.told inner n at (l - 1) } }

      module _ (q : ℕ) (u : FrontMet d row i c q) where
        plain : (next long : ℕ) → Wording d s c p e next long → MemberMet d s row i bits at e l (Ok record { row = c; front = q; body = body.Plain next long }) bits'
        plain next long a =
            record {
              placed =
                  record {
                    some = placing.some;
                    short = omega (arith, u.few, a.short, a.further, placing.further);
                    further = omega (arith, a.further, placing.further);
                    within = a.within;
                  };
              told =
                  λ seen kept.
                  let z = is_child seen kept in
                  record {
                    number = n;
                    value = a.value;
                    told = λ inner. seated seen kept inner ∙ a.told inner n at (l - 1);
                    kept = (v.told seen kept).kept;
                    length_of = omega (arith, u.same n (sym z), a.length_of, ap (λ (r : ℕ). length (word d r a.value)) z);
                  };
            }

        group : (V : Extent) → Housing d s c p e V.from V.to → MemberMet d s row i bits at e l (Ok record { row = c; front = q; body = body.Group V }) bits'
        group V a =
            record {
              placed =
                  record {
                    some = placing.some;
                    short = omega (arith, u.few, a.further, placing.further);
                    holds = a.holds;
                    inside = v.inside;
                    order = a.order;
                    within = a.within;
                  };
              told =
                  λ seen kept.
                  let z = is_child seen kept in
                  record {
                    number = n;
                    format = a.format;
                    told = λ inner. seated seen kept inner ∙ a.told inner n at (l - 1);
                    kept = (v.told seen kept).kept;
                    is_child = z;
                    length_of = omega (arith, u.same n (sym z));
                  };
            }

        pub member-good : (B : Body) → BodyMet d s c p e (Ok B) → MemberMet d s row i bits at e l (Ok record { row = c; front = q; body = B }) bits'
        member-good (body.Plain next long) y = plain next long y.met
        member-good (body.Group V) y = group V y.met
