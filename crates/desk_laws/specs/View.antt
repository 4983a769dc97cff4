-- What a desk and its store say, number by number: where a number stands is no part of it.
--   GoodDesk d    eight records, and sound
--   Kept          a desk with its store
--   Seen, see     what there is of one number: its record and its received bytes
--   Lists d l ns  the answer l to list names the operations of d: ns, in rising order
use Rattle.std.specs.Prelude.{ℕ, ◌*◌, ◌≡◌, true, false, List, length, take, drop}
use Rattle.paper.specs.Limits.{desk_most, declared_most}
use Rattle.paper.specs.Refusals.{accepted}
use Rattle.desk_records.specs.declared.Record.{Record}
use Rattle.desk.specs.declared.Desk.{Desk}
use Rattle.desk.specs.Calls.{Listed}
use Rattle.desk.specs.Desk.{place, sound, has, record_of}
use Rattle.paper.specs.Tests.{among}
use Rattle.desk.specs.Listing.{then_zeros, Rises}

-- "Its records are eight in an array passed whole."
pub record GoodDesk (d : Desk) : Type 0 where
  pub eight : length d.records ≡ desk_most
  pub right : sound d ≡ true

pub record Kept : Type 0 where
  pub desk : Desk
  pub store : List ℕ

-- "place p, from 0, has those from 4,096p": the first `received` of them are the operation's, the others are nobody's
abbrev pub bytes_of : ℕ → Desk → List ℕ → List ℕ
bytes_of n d store = take (record_of n d).received (drop (declared_most * place n d.records) store)

pub record Seen : Type 0 where
  pub entry : Record
  pub bytes : List ℕ

abbrev pub see : ℕ → Kept → Seen
see n k = record { entry = record_of n k.desk; bytes = bytes_of n k.desk k.store }

-- "list: the numbers in rising order, then zeros.": they rise, and are exactly those in use
pub record Lists (d : Desk) (l : Listed) (ns : List ℕ) : Type 0 where
  pub accepts : l.number ≡ accepted
  pub shows : l.operations ≡ then_zeros ns
  pub eight : length l.operations ≡ desk_most
  pub rise : Rises ns
  pub used : (n : ℕ) → (n ≡ 0 → ⊥) → among n ns ≡ has n d
  pub no_zero : among 0 ns ≡ false
