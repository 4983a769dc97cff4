-- Document 01, "What the base holds": every number of its table, once.
use Rattle.std.specs.Prelude.{ℕ}

-- dictionary bytes
abbrev pub dictionary_least : ℕ
dictionary_least = 22

abbrev pub dictionary_most : ℕ
dictionary_most = 65535

-- payload bytes, header included
abbrev pub payload_least : ℕ
payload_least = 7

abbrev pub payload_most : ℕ
payload_most = 16384

-- JSON text bytes
abbrev pub text_least : ℕ
text_least = 1

abbrev pub text_most : ℕ
text_most = 65535

-- nesting (root is 1; each set or array inside adds 1)
abbrev pub depth_most : ℕ
depth_most = 16

-- integer value bytes
abbrev pub integer_least : ℕ
integer_least = 1

abbrev pub integer_most : ℕ
integer_most = 8

-- bytes of a number after its N ("N is 1 to 4 (house)")
abbrev pub number_least : ℕ
number_least = 1

abbrev pub number_most : ℕ
number_most = 4

-- operations on the desk
abbrev pub desk_most : ℕ
desk_most = 8

-- declared request bytes of one operation
abbrev pub declared_most : ℕ
declared_most = 4096

-- bytes of the store: "place p, from 0, has those from 4,096p"
abbrev pub store_bytes : ℕ
store_bytes = 32768
