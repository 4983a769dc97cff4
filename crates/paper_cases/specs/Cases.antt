-- Document 01, "Worked on Figure 6's dictionary": the cases marked *, as one table, with what the definitions are asked and what the paper says they answer.
--   Question, answer    a payload to read, a text to write, or calls on an empty desk; and the definitions' reply
--   Case, starred       the table
use Rattle.std.specs.Prelude.{ℕ, List, [], ◌∷◌, ◌++◌, map, length}
use Prim.Native.String.{String}
use Rattle.paper.specs.Limits.{text_most, payload_most}
use Rattle.paper.specs.Refusal.{Answer}
use Rattle.payload.specs.Reading.{Outcome, reads, answer_of, contents_of}
use Rattle.text.specs.Writing.{writes}
use Rattle.desk.specs.declared.Desk.{Desk}
use Rattle.desk.specs.Calls.{Moved}
use Rattle.desk_records.specs.Record.{read}
use Rattle.desk.specs.Desk.{fresh_desk}
use Rattle.desk.specs.Calls.{opened, killed, closed}
use Rattle.paper_cases.specs.Spelling.{ascii, hex}
use Rattle.paper_cases.specs.Figure6.{figure6}

pub data Call : Type 0 where
  opens : ℕ → Call
  kills : ℕ → Call
  closes : ℕ → Call

-- a payload with the budget; a text; a text under another dictionary, with the room; calls
pub data Question : Type 0 where
  reading : List ℕ → ℕ → Question
  writing : List ℕ → Question
  writing_under : List ℕ → List ℕ → ℕ → Question
  calling : List Call → Question

-- the answer, and the text or payload that was written; or each call's number, and the numbers that stand in the eight places after them all
pub data Reply : Type 0 where
  wrote : Answer → List ℕ → Reply
  moved : List ℕ → List ℕ → Reply

-- an open is one of the type read, which declares 0 bytes
abbrev pub made : Desk → Call → Moved
made d (opens n) = opened d n read 0
made d (kills n) = killed d n
made d (closes n) = closed d n

unfoldable pub numbers_of : Desk → List Call → List ℕ
numbers_of d [] = []
numbers_of d (c ∷ calls) = (made d c).number ∷ numbers_of (made d c).desk calls

unfoldable pub desk_after : Desk → List Call → Desk
desk_after d [] = d
desk_after d (c ∷ calls) = desk_after (made d c).desk calls

abbrev pub outcome : Outcome → Reply
outcome o = wrote (answer_of o) (contents_of o [])

-- the buffers are as large as the table allows
unfoldable pub answer : Question → Reply
answer (reading payload budget) = outcome (reads figure6 payload budget text_most)
answer (writing text) = outcome (writes figure6 text payload_most)
answer (writing_under d text room) = outcome (writes d text room)
answer (calling calls) = moved (numbers_of fresh_desk calls) (map (λ r. r.number) (desk_after fresh_desk calls).records)

-- so many tuples, and the text or payload
abbrev pub gives : ℕ → List ℕ → Reply
gives count bytes = wrote (record { number = 0; place = 0; count = count; length = length bytes }) bytes

-- the number, and the place
abbrev pub refuses : ℕ → ℕ → Reply
refuses number place = wrote (record { number = number; place = place; count = 0; length = 0 }) []

pub record Case : Type 0 where
  pub name : String
  pub question : Question
  pub expected : Reply

abbrev pub case : String → Question → Reply → Case
case name question expected = record { name = name; question = question; expected = expected }

-- "After the seven header bytes 00 F0 F0 F1 00 00 00"
abbrev pub after : String → List ℕ
after bytes = hex "00 F0 F0 F1 00 00 00" ++ hex bytes

abbrev pub a : List ℕ
a = after "01 00 00 01 02 01 00"

abbrev pub a_text : List ℕ
a_text = ascii "{}"

abbrev pub b : List ℕ
b = after "01 00 00 01 08 01 01 01 06 30 01 01 0C"

abbrev pub b_text : List ℕ
b_text = ascii "{\"SampleIntegerProperty\":12}"

abbrev pub c : List ℕ
c = after "01 00 00 01 1D 01 01 01 00 10 01 16 01 01 01 00 00 01 0F 01 02 01 00 70 01 01 FF 01 02 40 01 02 01 02"

abbrev pub c_text : List ℕ
c_text = ascii "{\"ChildArrayProperty\":[{\"AnotherBoolean\":true,\"LinkStatus\":\"NoLink\"}]}"

abbrev pub nine_opens : List Call
nine_opens = opens 1 ∷ opens 2 ∷ opens 3 ∷ opens 4 ∷ opens 5 ∷ opens 6 ∷ opens 7 ∷ opens 8 ∷ opens 9 ∷ []

-- Where the paper names no budget, it is the 9 of its case file. Of the writer it stars b; a and c are given back, too. A close is allowed in states 5 to 7, so a kill goes before j's.
unfoldable pub starred : List Case
starred =
    case "a" (reading a 9) (gives 1 a_text)
    ∷ case "b" (reading b 9) (gives 2 b_text)
    ∷ case "c" (reading c 9) (gives 5 c_text)
    ∷ case "a written" (writing a_text) (gives 1 a)
    ∷ case "b written" (writing b_text) (gives 2 b)
    ∷ case "c written" (writing c_text) (gives 5 c)
    ∷ case "d" (reading b 1) (refuses 12 14)
    ∷ case "e" (reading (a ++ hex "00") 9) (refuses 13 14)
    ∷ case "f" (reading (after "01 00 00 01 08 01 01 01 08 30 01 01 0C") 9) (refuses 6 14)
    ∷ case "g" (reading (after "01 00 00 01 08 01 01 01 06 50 01 01 0C") 9) (refuses 9 14)
    ∷ case "h" (reading (after "01 00 00 01 08 01 01 01 06 30 01 01 FF") 9) (gives 2 (ascii "{\"SampleIntegerProperty\":-1}"))
    ∷ case "i" (reading (hex "00 F0 F0 F1 00 00") 9) (refuses 2 0)
    ∷ case "j" (calling nine_opens) (moved (0 ∷ 0 ∷ 0 ∷ 0 ∷ 0 ∷ 0 ∷ 0 ∷ 0 ∷ 23 ∷ []) (1 ∷ 2 ∷ 3 ∷ 4 ∷ 5 ∷ 6 ∷ 7 ∷ 8 ∷ []))
    ∷ case "j after one close"
    (calling (nine_opens ++ (kills 3 ∷ closes 3 ∷ opens 9 ∷ [])))
    (moved (0 ∷ 0 ∷ 0 ∷ 0 ∷ 0 ∷ 0 ∷ 0 ∷ 0 ∷ 23 ∷ 0 ∷ 0 ∷ 0 ∷ []) (1 ∷ 2 ∷ 9 ∷ 4 ∷ 5 ∷ 6 ∷ 7 ∷ 8 ∷ []))
    ∷ []
