-- The table of the source's own example, and of five small expressions, computed from the definitions.
use Prim.Native.Nat.{ℕ}
use mathlib.Core.Path.{◌≡◌, refl}
use mathlib.Core.List.{List, [], ◌∷◌, flat_map}
use Rattle.words.specs.Word.{kind_at}
use Rattle.words.specs.Alphabet.{rank_of, constants_from, constants_of}
use Rattle.words.specs.Postfix.{arity}
use Rattle.language.proofs.MembershipExamples.{alphabet}
use Rattle.automaton.specs.Transition.{table_words}
use Rattle.automaton.specs.Numbering.{has_entries, states_of, port_of, every_symbol, own_transitions, ports_from, states_after}
use Rattle.automaton.specs.Numbering.{transitions_from, compiled}

-- a b f c g d (product over c) union (closure over d)
abbrev pub rule : List ℕ
rule =
    0x20000000 ∷ 0x20000001 ∷ 0x20000004 ∷ 0x20000002 ∷ 0x20000005 ∷ 0x20000003
    ∷ 0x50000002 ∷ 0x40000000 ∷ 0x60000003 ∷ []

-- 29 states, final state 24, 37 words
abbrev table : List ℕ
table =
    0x80007418 ∷ 0xc0000025 ∷ 0x90000019 ∷ 0x9000041a ∷ 0x9000081b ∷ 0x90000c1c
    ∷ 0x90001002 ∷ 0xb0000000 ∷ 0xb0000001 ∷ 0xa0000c00 ∷ 0xa0001001
    ∷ 0x90001408 ∷ 0xb0000007 ∷ 0xa0002c07
    ∷ 0xa000200e ∷ 0xa000340b ∷ 0xa0003c09 ∷ 0xa000400a ∷ 0xa000480c ∷ 0xa000480d
    ∷ 0xa0000813 ∷ 0xa0003813 ∷ 0xa0005003 ∷ 0xa000500f ∷ 0xa0005404 ∷ 0xa0005410
    ∷ 0xa0005805 ∷ 0xa0005811 ∷ 0xa0005c06 ∷ 0xa0005c12
    ∷ 0xa0004c17 ∷ 0xa0004c18 ∷ 0xa0006414 ∷ 0xa0006815 ∷ 0xa0006c16 ∷ 0xa0007017 ∷ 0xa0007018 ∷ []

pub example-table : table_words (compiled alphabet rule) ≡ table
unfolding kind_at rank_of constants_from constants_of arity has_entries states_of port_of own_transitions ports_from states_after transitions_from
    compiled flat_map
example-table = refl

-- c of rank 0 and f of rank 2
abbrev small_alphabet : List ℕ
small_alphabet = 0x10000000 ∷ 0x10000002 ∷ []

-- f(c, c): the entry for c leads to both children, the left one first
pub twice-table :
    table_words (compiled small_alphabet (0x20000000 ∷ 0x20000000 ∷ 0x20000001 ∷ []))
    ≡ 0x80001002 ∷ 0xc0000008 ∷ 0x90000003 ∷ 0x90000402 ∷ 0xb0000000 ∷ 0xb0000001 ∷ 0xa0000c00 ∷ 0xa0000c01 ∷ []
unfolding kind_at rank_of constants_from constants_of arity has_entries states_of port_of own_transitions ports_from states_after transitions_from
    compiled flat_map
twice-table = refl

-- the closure over c of the empty language, which has no entry
pub empty-table :
    table_words (compiled small_alphabet (0x30000000 ∷ 0x60000000 ∷ []))
    ≡ 0x80000c01 ∷ 0xc0000005 ∷ 0x90000002 ∷ 0xa0000001 ∷ 0xa0000801 ∷ []
unfolding kind_at rank_of constants_from constants_of arity has_entries states_of port_of own_transitions ports_from states_after transitions_from
    compiled flat_map
empty-table = refl

-- anything over c and f: f from the exit in both parts to the exit, then the entry for c to the exit
pub anything-table :
    table_words (compiled small_alphabet (0xe0000000 ∷ []))
    ≡ 0x80000800 ∷ 0xc0000007 ∷ 0x90000001 ∷ 0x90000400 ∷ 0xb0000000 ∷ 0xb0000000 ∷ 0xa0000400 ∷ []
unfolding kind_at rank_of constants_from constants_of arity has_entries states_of port_of every_symbol own_transitions ports_from states_after
    transitions_from compiled flat_map
anything-table = refl

-- the product over c of anything by anything
pub product-table :
    table_words (compiled small_alphabet (0xe0000000 ∷ 0xe0000000 ∷ 0x50000000 ∷ []))
    ≡ 0x80001804 ∷ 0xc000000e ∷ 0x90000005
    ∷ 0x90000400 ∷ 0xb0000000 ∷ 0xb0000000 ∷ 0xa0000400
    ∷ 0x90000402 ∷ 0xb0000002 ∷ 0xb0000002 ∷ 0xa0000c02
    ∷ 0xa0000004 ∷ 0xa0000801 ∷ 0xa0001403 ∷ []
unfolding kind_at rank_of constants_from constants_of arity has_entries states_of port_of every_symbol own_transitions ports_from states_after
    transitions_from compiled flat_map
product-table = refl

-- anything over c, d, f of rank 2 and g of rank 1: both symbols in order, then both entries
pub symbols-table :
    table_words (compiled (0x10000000 ∷ 0x10000002 ∷ 0x10000000 ∷ 0x10000001 ∷ []) (0xe0000000 ∷ []))
    ≡ 0x80000c00 ∷ 0xc000000b ∷ 0x90000001 ∷ 0x90000802
    ∷ 0x90000400 ∷ 0xb0000000 ∷ 0xb0000000 ∷ 0x90000c00 ∷ 0xb0000000 ∷ 0xa0000400 ∷ 0xa0000800 ∷ []
unfolding kind_at rank_of constants_from constants_of arity has_entries states_of port_of every_symbol own_transitions ports_from states_after
    transitions_from compiled flat_map
symbols-table = refl
