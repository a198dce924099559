-- Rules with anything (document 02, U7), compiled, run and listed: one table of rows, one theorem. Of their languages alone
-- AnythingMembers (language/proofs) has theorems.
use mathlib.Core.Path.{refl}
use mathlib.Core.List.{List, [], ◌∷◌, flatten, flat_map}
use Rattle.words.specs.Word.{kind_at, spare_bits_clear, is_of}
use Rattle.words.specs.Alphabet.{marks_hole, is_entry, rank_of, is_constant, is_hole, has_holes, may_name, constants_from, constants_of}
use Rattle.words.specs.Alphabet.{no_alphabet, wrong_constants}
use Rattle.words.specs.Lists.{highest}
use Rattle.words.specs.Shape.{trees_by, value_on_by, values_by, stack_after_by, height_over, height_of_by, start_from_by}
use Rattle.words.specs.Postfix.{arity, not_one_tree}
use Rattle.words.specs.ExpressionWords.{is_expression_word, wrong_length, not_expression_words}
use Rattle.words.specs.Chapter.{is_node, not_nodes, too_high, holes_in}
use Rattle.language.proofs.MembershipExamples.{alphabet}
use Rattle.automaton.specs.Transition.{transitions_at, automaton_of}
use Rattle.automaton.specs.Numbering.{has_entries, states_of, port_of, every_symbol, own_transitions, ports_from, states_after}
use Rattle.automaton.specs.Numbering.{transitions_from, compiled}
use Rattle.automaton.specs.Table.{table_word_count, is_head, is_table_word, sources_left, are_transitions, is_table, no_table}
use Rattle.automaton.specs.StateSet.{size_for, contains, insert, all_contained, symbol_pass, epsilon_pass, epsilon_closure, state_set}
use Rattle.operations.specs.Compile.{too_many_states, too_many_words, table_too_long}
use Rattle.operations.specs.Marks.{size_of, final_of, node_set, node_sets, stored_set}
use Rattle.operations.specs.Run.{wrong_count, marks_too_short, run_marks}
use Rattle.operations.specs.Listing.{matches_in, matches_of}
use Rattle.operations.proofs.Examples.{chapter, Row, listing, AllHold}

abbrev pub anything_rows : List Row
anything_rows =
    -- alone, every element of the source's chapter a b f d g h f
    listing alphabet (0xE000_0000 ∷ []) chapter 5 17 0x8000_1400
    ((0, 0, 1) ∷ (1, 1, 1) ∷ (2, 4, 3) ∷ (3, 3, 1) ∷ (4, 5, 2) ∷ (5, 6, 3) ∷ (6, 4, 7) ∷ [])
    -- the product over c of anything by d, chapter a d f: every element, d in the place of c
    ∷ listing alphabet (0xE000_0000 ∷ 0x2000_0003 ∷ 0x5000_0002 ∷ []) (0x7000_0000 ∷ 0x7000_0003 ∷ 0x7000_0004 ∷ []) 11 23 0x8000_2C06
    ((0, 0, 1) ∷ (1, 3, 1) ∷ (2, 4, 3) ∷ [])
    -- by the empty rule, chapter a c f: what has no c
    ∷ listing alphabet (0xE000_0000 ∷ 0x3000_0000 ∷ 0x5000_0002 ∷ []) (0x7000_0000 ∷ 0x7000_0002 ∷ 0x7000_0004 ∷ []) 11 22 0x8000_2C06
    ((0, 0, 1) ∷ [])
    -- by g(c), chapter c g c f: g(c), and not f(g(c), c)
    ∷ listing alphabet (0xE000_0000 ∷ 0x2000_0002 ∷ 0x2000_0005 ∷ 0x5000_0002 ∷ [])
    (0x7000_0002 ∷ 0x7000_0005 ∷ 0x7000_0002 ∷ 0x7000_0004 ∷ []) 16 29 0x8000_400B
    ((1, 5, 2) ∷ [])
    -- the closure over c of f(c, anything), chapter c b f a b f f: c, f(c,b) and f(f(c,b),f(a,b)), and not f(a,b)
    ∷ listing alphabet (0x2000_0002 ∷ 0xE000_0000 ∷ 0x2000_0004 ∷ 0x6000_0002 ∷ [])
    (0x7000_0002 ∷ 0x7000_0001 ∷ 0x7000_0004 ∷ 0x7000_0000 ∷ 0x7000_0001 ∷ 0x7000_0004 ∷ 0x7000_0004 ∷ []) 16 32 0x8000_400B
    ((0, 2, 1) ∷ (2, 4, 3) ∷ (6, 4, 7) ∷ [])
    -- the pattern f(anything, a), chapter d g a f b f: f(g(d), a) and not f(f(g(d), a), b)
    ∷ listing alphabet (0xE000_0000 ∷ 0x2000_0000 ∷ 0x2000_0004 ∷ [])
    (0x7000_0003 ∷ 0x7000_0005 ∷ 0x7000_0000 ∷ 0x7000_0004 ∷ 0x7000_0001 ∷ 0x7000_0004 ∷ []) 11 25 0x8000_2C06
    ((3, 4, 4) ∷ [])
    -- document 002's example 2: the pattern a2(S, a1(S)) in a2(a2(a0, a1(a0)), a1(a0)), over a0, a1 and a2, "matching at nodes" a2
    ∷ listing (0x1000_0000 ∷ 0x1000_0001 ∷ 0x1000_0002 ∷ []) (0xE000_0000 ∷ 0xE000_0000 ∷ 0x2000_0001 ∷ 0x2000_0002 ∷ [])
    (0x7000_0000 ∷ 0x7000_0000 ∷ 0x7000_0001 ∷ 0x7000_0002 ∷ 0x7000_0000 ∷ 0x7000_0001 ∷ 0x7000_0002 ∷ []) 8 23 0x8000_2006
    ((3, 2, 4) ∷ (6, 2, 7) ∷ [])
    ∷ []

pub anything-examples : AllHold anything_rows
unfolding kind_at spare_bits_clear is_of marks_hole is_entry rank_of is_constant is_hole has_holes may_name constants_from constants_of no_alphabet
    wrong_constants arity trees_by not_one_tree is_expression_word wrong_length not_expression_words has_entries states_of port_of every_symbol
    own_transitions ports_from states_after transitions_from compiled too_many_states too_many_words table_too_long flat_map flatten is_node not_nodes
    table_word_count is_head is_table_word sources_left are_transitions is_table no_table wrong_count marks_too_short transitions_at automaton_of size_for
    contains insert all_contained symbol_pass epsilon_pass epsilon_closure state_set size_of final_of node_set node_sets values_by value_on_by run_marks
    stored_set start_from_by matches_in matches_of stack_after_by highest height_over height_of_by too_high holes_in
anything-examples = (
  record { compiles = refl; state_count = refl; word_count = refl; head_is = refl; runs = refl; hits = refl },
  (
    record { compiles = refl; state_count = refl; word_count = refl; head_is = refl; runs = refl; hits = refl },
    (
      record { compiles = refl; state_count = refl; word_count = refl; head_is = refl; runs = refl; hits = refl },
      (
        record { compiles = refl; state_count = refl; word_count = refl; head_is = refl; runs = refl; hits = refl },
        (
          record { compiles = refl; state_count = refl; word_count = refl; head_is = refl; runs = refl; hits = refl },
          (
            record { compiles = refl; state_count = refl; word_count = refl; head_is = refl; runs = refl; hits = refl },
            (record { compiles = refl; state_count = refl; word_count = refl; head_is = refl; runs = refl; hits = refl }, tt),
          ),
        ),
      ),
    ),
  ),
)
