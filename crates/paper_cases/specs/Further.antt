-- More cases under Figure 6's dictionary, of the same form as the starred ones: what meaning and answers of the definitions share and no starred case fixes, and the refusals of a text.
--   values     null, false, a string, an array of two: read, and written back
--   integers   request 6: none of two or more bytes whose top byte only repeats the sign
--   refusals   of a text, in the order of their numbers: each is the first fault that the text meets
use Rattle.std.specs.Prelude.{ℕ, zero, suc, List, [], ◌∷◌, ◌++◌}
use Prim.Native.String.{String}
use Rattle.paper_cases.specs.Spelling.{ascii, hex}
use Rattle.paper_cases.specs.Figure6.{figure6}
use Rattle.paper_cases.specs.Cases.{Case, case, reading, writing, writing_under, gives, refuses, after}

abbrev pub null_bytes : List ℕ
null_bytes = after "01 00 00 01 07 01 01 01 02 20 01 00"

abbrev pub null_text : List ℕ
null_text = ascii "{\"Id\":null}"

abbrev pub false_bytes : List ℕ
false_bytes = after "01 00 00 01 08 01 01 01 04 70 01 01 00"

abbrev pub false_text : List ℕ
false_text = ascii "{\"SampleEnabledProperty\":false}"

abbrev pub string_bytes : List ℕ
string_bytes = after "01 00 00 01 0B 01 01 01 02 50 01 04 50 53 55 00"

abbrev pub string_text : List ℕ
string_text = ascii "{\"Id\":\"PSU\"}"

abbrev pub two_bytes : List ℕ
two_bytes = after "01 00 00 01 17 01 01 01 00 10 01 10 01 02 01 00 00 01 02 01 00 01 02 00 01 02 01 00"

abbrev pub two_text : List ℕ
two_text = ascii "{\"ChildArrayProperty\":[{},{}]}"

unfoldable pub values : List Case
values =
    case "null" (reading null_bytes 9) (gives 2 null_text)
    ∷ case "false" (reading false_bytes 9) (gives 2 false_text)
    ∷ case "a string" (reading string_bytes 9) (gives 2 string_text)
    ∷ case "an array of two" (reading two_bytes 9) (gives 4 two_text)
    ∷ case "null written" (writing null_text) (gives 2 null_bytes)
    ∷ case "false written" (writing false_text) (gives 2 false_bytes)
    ∷ case "a string written" (writing string_text) (gives 2 string_bytes)
    ∷ case "an array of two written" (writing two_text) (gives 4 two_bytes)
    ∷ []

-- the root with the one integer of so many bytes
abbrev pub of_one : String → List ℕ
of_one v = after "01 00 00 01 08 01 01 01 06 30 01 01" ++ hex v

abbrev pub of_two : String → List ℕ
of_two v = after "01 00 00 01 09 01 01 01 06 30 01 02" ++ hex v

abbrev pub of_eight : String → List ℕ
of_eight v = after "01 00 00 01 0F 01 01 01 06 30 01 08" ++ hex v

abbrev pub says : String → List ℕ
says value = ascii "{\"SampleIntegerProperty\":" ++ ascii value ++ ascii "}"

unfoldable pub integers : List Case
integers =
    case "0C 00" (reading (of_two "0C 00") 9) (refuses 10 14)
    ∷ case "00 00" (reading (of_two "00 00") 9) (refuses 10 14)
    ∷ case "7F 00" (reading (of_two "7F 00") 9) (refuses 10 14)
    ∷ case "80 00" (reading (of_two "80 00") 9) (gives 2 (says "128"))
    ∷ case "80 FF" (reading (of_two "80 FF") 9) (refuses 10 14)
    ∷ case "FF FF" (reading (of_two "FF FF") 9) (refuses 10 14)
    ∷ case "7F FF" (reading (of_two "7F FF") 9) (gives 2 (says "-129"))
    ∷ case "00" (reading (of_one "00") 9) (gives 2 (says "0"))
    ∷ case "80" (reading (of_one "80") 9) (gives 2 (says "-128"))
    ∷ case "eight bytes of FF" (reading (of_eight "FF FF FF FF FF FF FF FF") 9) (refuses 10 14)
    ∷ case "eight bytes, 7F below 00" (reading (of_eight "FF FF FF FF FF FF 7F 00") 9) (refuses 10 14)
    ∷ case "eight bytes, 80 below 00" (reading (of_eight "FF FF FF FF FF FF 80 00") 9) (gives 2 (says "36310271995674623"))
    ∷ case "the least" (reading (of_eight "00 00 00 00 00 00 00 80") 9) (gives 2 (says "-9223372036854775808"))
    ∷ case "the greatest" (reading (of_eight "FF FF FF FF FF FF FF 7F") 9) (gives 2 (says "9223372036854775807"))
    ∷ case "128 written" (writing (says "128")) (gives 2 (of_two "80 00"))
    ∷ case "-129 written" (writing (says "-129")) (gives 2 (of_two "7F FF"))
    ∷ []

-- a text, and the number and place of its refusal
abbrev pub bad : String → ℕ → ℕ → Case
bad text number place = case text (writing (ascii text)) (refuses number place)

-- a set whose one child, of the name a, is itself: Figure 6 nests only to 3
abbrev pub self_set : List ℕ
self_set = hex "00 00 01 00 00 F0 F0 F1 18 00 00 00 00 00 00 0C 00 01 00 02 16 00 61 00"

-- so many sets inside each other, each begun
unfoldable pub nested : ℕ → List ℕ
nested zero = ascii "{"
nested (suc n) = ascii "{\"a\":" ++ nested n

unfoldable pub refusals : List Case
refusals =
    case "no dictionary" (writing_under [] (ascii "{}") 99) (refuses 1 0)
    ∷ bad "" 2 0
    ∷ bad "{\"Nope\":1}" 6 1
    ∷ bad "{\"Nope\"," 6 1
    ∷ bad "{\"\":1}" 6 1
    ∷ bad "{\"Id\":\"x\",\"Id\"" 7 10
    ∷ bad "1.5" 8 0
    ∷ bad "{\"Id\":1e5}" 8 6
    ∷ bad "[]" 9 0
    ∷ bad "null" 9 0
    ∷ bad "{\"Id\":1}" 9 6
    ∷ bad "{\"Id\":{" 9 6
    ∷ bad "{\"ChildArrayProperty\":[null]}" 9 23
    ∷ bad "{\"SampleIntegerProperty\":-0}" 10 25
    ∷ bad "{\"SampleIntegerProperty\":9223372036854775808}" 10 25
    ∷ bad "{\"ChildArrayProperty\":[{\"LinkStatus\":\"Up\"}]}" 10 37
    ∷ case "16 levels, and one more" (writing_under self_set (nested 16) 99) (refuses 11 80)
    ∷ bad "{}x" 13 2
    ∷ bad "{} }" 13 3
    ∷ case "13 bytes of room for 14" (writing_under figure6 (ascii "{}") 13) (refuses 14 0)
    ∷ case "an end at 16 levels" (writing_under self_set (nested 15) 99) (refuses 15 76)
    ∷ bad "tru" 15 0
    ∷ bad "}" 15 0
    ∷ bad "{ " 15 2
    ∷ bad "{\"Nope" 15 6
    ∷ bad "{\"Id\" \"a\"}" 15 6
    ∷ bad "{\"Id\":}" 15 6
    ∷ bad "{\"Id\":\"a" 15 8
    ∷ bad "{\"Id\":\"\\" 15 6
    ∷ bad "{\"Id\":\"a\" \"b\"}" 15 10
    ∷ bad "{\"Id\":\"a\",}" 15 10
    ∷ bad "{\"SampleIntegerProperty\":01}" 15 25
    ∷ []
