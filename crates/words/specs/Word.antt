-- Words of 32 bits (document 01, "Words"): their kinds, which bits each kind names, and its fields.
use Rattle.std.specs.Prelude.{ℕ, ◌+◌, ◌*◌, ◌/◌, ◌%◌, ◌^◌, List, [], ◌∷◌, Bool, cond, ◌&&◌, ltb, eqb}

-- document 01's kinds: alphabet entry; the rule words symbol, empty language, union, product, closure; chapter element;
-- table head, symbol move, empty move, part state of a move; document 02's length word (U1) and its rule word "for every tree over the
-- alphabet" (U7); and no kind of theirs
pub data Kind : Type 0 where
  entry_kind symbol_kind empty_kind union_kind product_kind closure_kind node_kind : Kind
  head_kind transition_kind epsilon_kind source_kind length_kind anything_kind no_kind : Kind

-- the documents' number of a kind; 0 is that of none
abbrev pub kind_number : Kind → ℕ
kind_number entry_kind = 0x1
kind_number symbol_kind = 0x2
kind_number empty_kind = 0x3
kind_number union_kind = 0x4
kind_number product_kind = 0x5
kind_number closure_kind = 0x6
kind_number node_kind = 0x7
kind_number head_kind = 0x8
kind_number transition_kind = 0x9
kind_number epsilon_kind = 0xA
kind_number source_kind = 0xB
kind_number length_kind = 0xC
kind_number anything_kind = 0xE
kind_number no_kind = 0x0

-- the one of these kinds that has the number n, or no kind
abbrev pub kind_among : List Kind → ℕ → Kind
kind_among [] n = no_kind
kind_among (k ∷ ks) n = cond (eqb n (kind_number k)) k (kind_among ks n)

-- the documents' kinds
abbrev pub kinds : List Kind
kinds =
    entry_kind ∷ symbol_kind ∷ empty_kind ∷ union_kind ∷ product_kind ∷ closure_kind ∷ node_kind ∷ head_kind ∷ transition_kind
    ∷ epsilon_kind ∷ source_kind ∷ length_kind ∷ anything_kind ∷ []

-- the kind that has the number n
unfoldable pub kind_at : ℕ → Kind
kind_at n = kind_among kinds n

-- a word has 32 bits
abbrev pub word_range : ℕ
word_range = 2 ^ 32

-- "bits 31..28 are the kind": the other 28 bits stay below this number
abbrev pub kind_unit : ℕ
kind_unit = 0x1000_0000

abbrev pub number_of : ℕ → ℕ
number_of w = w / kind_unit

-- whether a word is of k, one of the documents' kinds
abbrev pub has_kind : Kind → ℕ → Bool
has_kind k w = eqb (number_of w) (kind_number k)

-- the kind that a word is of, or no kind
abbrev pub kind_of : ℕ → Kind
kind_of w = kind_at (number_of w)

-- the other 28 bits
abbrev pub body_of : ℕ → ℕ
body_of w = w % kind_unit

-- the range of each field: a rank, a symbol and a substitution symbol (document 01's c) have eight bits, what tells a hole (document
-- 02, U8) one, a state has ten, a state count eleven, and a word count twelve
abbrev pub symbol_range : ℕ
symbol_range = 0x100

abbrev pub hole_range : ℕ
hole_range = 0x2

abbrev pub state_range : ℕ
state_range = 0x400

abbrev pub count_range : ℕ
count_range = 0x800

abbrev pub length_range : ℕ
length_range = 0x1000

-- The named bits of each kind are its lowest ones: a word's other 28 bits stay below this number.
abbrev pub field_range : Kind → ℕ
field_range entry_kind = hole_range * symbol_range
field_range symbol_kind = symbol_range
field_range empty_kind = 0x1
field_range union_kind = 0x1
field_range product_kind = symbol_range
field_range closure_kind = symbol_range
field_range node_kind = symbol_range
field_range head_kind = count_range * state_range
field_range transition_kind = symbol_range * state_range
field_range epsilon_kind = state_range * state_range
field_range source_kind = state_range
field_range length_kind = length_range
field_range anything_kind = 0x1
field_range no_kind = 0x0

-- "Bits not named are zero."
unfoldable pub spare_bits_clear : ℕ → Bool
spare_bits_clear w = ltb (body_of w) (field_range (kind_of w))

-- a word of that kind, its other bits zero
unfoldable pub is_of : Kind → ℕ → Bool
is_of k w = has_kind k w && spare_bits_clear w

-- the word of a kind with these named bits
abbrev pub word_of : Kind → ℕ → ℕ
word_of k body = kind_number k * kind_unit + body

-- bits 7..0: a rank, a symbol or a substitution symbol
abbrev pub low_byte : ℕ → ℕ
low_byte w = w % symbol_range

-- bit 8: whether an alphabet entry is a hole's
abbrev pub hole_above : ℕ → ℕ
hole_above w = w / symbol_range % hole_range

-- bits 17..10: the symbol of a transition (a symbol move)
abbrev pub symbol_above : ℕ → ℕ
symbol_above w = w / state_range % symbol_range

-- bits 20..10: the state count of a head
abbrev pub count_above : ℕ → ℕ
count_above w = w / state_range % count_range

-- bits 19..10: the from state of an epsilon transition (an empty move)
abbrev pub state_above : ℕ → ℕ
state_above w = w / state_range % state_range

-- bits 9..0: a state
abbrev pub state_below : ℕ → ℕ
state_below w = w % state_range

-- bits 11..0: the word count of a length word
abbrev pub length_below : ℕ → ℕ
length_below w = w % length_range

-- the named bits of a word of a table: x stands above state s
abbrev pub above_state : ℕ → ℕ → ℕ
above_state x s = x * state_range + s
