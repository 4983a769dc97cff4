-- A call made on the bytes of a desk, for callers in C: the bytes are read (desk_bytes/specs/Bytes), the call is made, and the bytes are written back.
--   Served               what is there after it: its number, the desk's bytes, the store, and the values that it tells
--   served c bs store    the call c, made on the desk that the bytes bs spell, with the store; a call that is not lent the store is made with []
--   served_list bs        list, made on that desk
use Rattle.std.specs.Prelude.{ℕ, cond, List, [], ◌∷◌, eqb, Option, None, Some}
use Rattle.paper.specs.Refusals.{accepted, not_sound}
use Rattle.desk.specs.declared.Desk.{Desk}
use Rattle.desk.specs.Calls.{listed}
use Rattle.desk_laws.specs.State.{Call, Answer, number, counts, number_in, Done, make}
use Rattle.desk_bytes.specs.Bytes.{encode, decode}

pub record Served : Type 0 where
  pub number : ℕ
  pub desk : List ℕ
  pub store : List ℕ
  pub values : List ℕ

-- "status: state, received and due counts"
abbrev pub values_of : Answer → List ℕ
values_of (number n) = []
values_of (counts t) = t.state ∷ t.received ∷ t.due ∷ []

-- "A refusal changes nothing lent": it tells no values
abbrev pub told_by : Answer → List ℕ
told_by a = cond (eqb (number_in a) accepted) (values_of a) []

-- "desk not sound": bytes of another length spell no desk at all
abbrev pub unread : List ℕ → List ℕ → Served
unread bs store = record { number = not_sound; desk = bs; store = store; values = [] }

-- "A refusal changes nothing lent", neither the desk's bytes nor the row for the values.
abbrev pub answered : List ℕ → Done → Served
answered bs x = record {
  number = number_in x.answer;
  desk = cond (eqb (number_in x.answer) accepted) (encode x.kept.desk) bs;
  store = x.kept.store;
  values = told_by x.answer;
}

abbrev pub served_by : Call → List ℕ → List ℕ → Option Desk → Served
served_by c bs store None = unread bs store
served_by c bs store (Some d) = answered bs (make c (record { desk = d; store = store }))

unfoldable pub served : Call → List ℕ → List ℕ → Served
served c bs store = served_by c bs store (decode bs)

abbrev pub listed_by : List ℕ → Option Desk → Served
listed_by bs None = unread bs []
listed_by bs (Some d) = record {
  number = (listed d).number;
  desk = bs;
  store = [];
  values = cond (eqb (listed d).number accepted) (listed d).operations [];
}

unfoldable pub served_list : List ℕ → Served
served_list bs = listed_by bs (decode bs)
