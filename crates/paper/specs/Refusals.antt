-- Document 01, "What a refusal says": the table's numbers, once, with its words. Acceptance is number 0, place 0.
use Rattle.std.specs.Prelude.{ℕ}

abbrev pub accepted : ℕ
accepted = 0

-- dictionary not accepted (tested first)
abbrev pub dictionary_wrong : ℕ
dictionary_wrong = 1

-- payload or text length outside the table
abbrev pub length_wrong : ℕ
length_wrong = 2

-- header differs
abbrev pub header_differs : ℕ
header_differs = 3

-- a field passes the end of its enclosing value
abbrev pub past_end : ℕ
past_end = 4

-- N is 0 or above 4
abbrev pub width_wrong : ℕ
width_wrong = 5

-- sequence or name not known; array index out of turn
abbrev pub not_known : ℕ
not_known = 6

-- child given twice in one set
abbrev pub given_twice : ℕ
given_twice = 7

-- annotation selector, deferred bit, format or number kind not in the base
abbrev pub not_in_base : ℕ
not_in_base = 8

-- format doesn't fit the row; root no set
abbrev pub misfit : ℕ
misfit = 9

-- value wrong: integer length or range, a top byte that only repeats its sign, boolean, string, enum option, null with bytes, bytes left in a value
abbrev pub value_wrong : ℕ
value_wrong = 10

-- depth passed
abbrev pub too_deep : ℕ
too_deep = 11

-- a tuple begins with the budget spent
abbrev pub budget_spent : ℕ
budget_spent = 12

-- bytes after the root, in text other than spaces
abbrev pub after_root : ℕ
after_root = 13

-- all else right, result longer than the lent buffer or the table's limit
abbrev pub no_room : ℕ
no_room = 14

-- up to the root's end, text breaks the grammar, or has an escape or a string byte not allowed
abbrev pub bad_text : ℕ
bad_text = 15

-- desk not sound, or the store isn't 32,768 bytes
abbrev pub not_sound : ℕ
not_sound = 20

-- operation number 0
abbrev pub number_zero : ℕ
number_zero = 21

-- open: number in use
abbrev pub in_use : ℕ
in_use = 22

-- open: all 8 places taken
abbrev pub all_taken : ℕ
all_taken = 23

-- other calls but status: no such number
abbrev pub no_such_number : ℕ
no_such_number = 24

-- call not allowed in this state
abbrev pub not_allowed : ℕ
not_allowed = 25

-- open: type above 6, or length wrong for the type
abbrev pub open_wrong : ℕ
open_wrong = 26

-- feed: piece empty or longer than declared less received; take: n 0 or above due
abbrev pub amount_wrong : ℕ
amount_wrong = 27
