-- The loop of sound: from i on, what is left of the records decides.
-- Assumes nothing.
use Rattle.std.proofs.Common.{◌≡◌, ℕ, ◌+◌, ◌-◌, ◌<◌, ◌≤◌, Bool, true, false, ◌&&◌, List, length, take, drop, sym, ◌∙◌, add-one, arith}
use lib.ListN.{get_or, length-drop, drop_of_length-le}
use lib.Seq.{drop-cons, take_all}
use Rattle.paper.specs.Limits.{desk_most}
use Rattle.desk_records.specs.declared.Record.{Record}
use Rattle.desk_records.specs.Record.{empty, sound_record}
use Rattle.desk.specs.declared.Desk.{Desk}
use Rattle.desk.specs.Desk.{alone, sound, sound_records}
use Rattle.desk.specs.Met.{Sounding}

sound-step : (rs : List Record) (i : ℕ) → i < length rs
    → sound_records (drop i rs) ≡ sound_record (get_or rs i empty) && alone (get_or rs i empty).number (drop (i + 1) rs) && sound_records (drop (i + 1) rs)
unfolding sound_records
sound-step rs i h = rw (drop-cons rs i empty h, add-one i)

-- the records behind a place, as the code's slice has them
rest-is : (rs : List Record) (i : ℕ) → length rs ≡ desk_most → take (desk_most - (i + 1)) (drop (i + 1) rs) ≡ drop (i + 1) rs
rest-is rs i e = let l = length-drop (i + 1) rs in take_all (desk_most - (i + 1)) (drop (i + 1) rs) (omega arith)

module _ (d : Desk) (eight : length d.records ≡ desk_most) (i : ℕ) (s : Sounding d i) where
  pub sound-end : desk_most ≤ i → true ≡ sound d
  unfolding sound sound_records
  sound-end h = let l : length d.records ≤ i = omega arith in sym (s ∙ rw (drop_of_length-le d.records l))

  module _ (h : i < desk_most) (a b : Bool) (e : a ≡ sound_record (get_or d.records i empty)) (f : b ≡ alone (get_or d.records i empty).number (take (desk_most - (i + 1)) (drop (i + 1) d.records))) where
    step : sound_records (drop i d.records) ≡ a && b && sound_records (drop (i + 1) d.records)
    step = rw (e, f, rest-is d.records i eight) (sound-step d.records i (omega arith))

    pub sound-more : a ≡ true → b ≡ true → Sounding d (i + 1)
    sound-more p q = s ∙ step ∙ rw (p, q)

    pub sound-shared : a ≡ true → b ≡ false → false ≡ sound d
    unfolding sound
    sound-shared p q = sym (s ∙ step ∙ rw (p, q))

  pub sound-not : i < desk_most → sound_record (get_or d.records i empty) ≡ false → false ≡ sound d
  unfolding sound
  sound-not h p = sym (s ∙ sound-step d.records i (omega arith) ∙ rw p)

pub ruleset sounds = (sound-end, sound-more, sound-shared, sound-not)
