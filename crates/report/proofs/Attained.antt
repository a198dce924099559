-- `marklist` says 25 of a rule with a table of 2,049 words (document 02, U7), and not of one with 2,048.
use mathlib.Core.Path.{◌≡◌, refl}
use mathlib.Core.List.{[], flat_map}
use Rattle.words.specs.Word.{kind_at, spare_bits_clear, is_of}
use Rattle.words.specs.Alphabet.{marks_hole, is_entry, rank_of, is_constant, is_hole, has_holes, may_name, constants_from, constants_of}
use Rattle.words.specs.Alphabet.{no_alphabet, wrong_constants}
use Rattle.words.specs.ExpressionWords.{is_expression_word, wrong_length, not_expression_words}
use Rattle.words.specs.Shape.{trees_by}
use Rattle.words.specs.Postfix.{arity, not_one_tree}
use Rattle.automaton.specs.Numbering.{has_entries, states_of, port_of, every_symbol, own_transitions, ports_from, states_after}
use Rattle.automaton.specs.Numbering.{transitions_from, compiled}
use Rattle.automaton.proofs.LargestRules.{wide, full_table, over_table}
use Rattle.operations.specs.Compile.{too_many_states, too_many_words}
use Rattle.report.specs.Output.{wrong_chapter, marklist_fault}

-- also of a chapter that 9 refuses
pub says-25 : marklist_fault wide over_table [] ≡ 25
unfolding
    kind_at spare_bits_clear is_of marks_hole is_entry rank_of is_constant is_hole has_holes may_name constants_from constants_of no_alphabet
    wrong_constants is_expression_word wrong_length not_expression_words arity trees_by not_one_tree has_entries states_of port_of every_symbol
    own_transitions ports_from states_after transitions_from compiled too_many_states too_many_words flat_map
says-25 = refl

pub passes-25 : marklist_fault wide full_table [] ≡ 9
unfolding
    kind_at spare_bits_clear is_of marks_hole is_entry rank_of is_constant is_hole has_holes may_name constants_from constants_of no_alphabet
    wrong_constants is_expression_word wrong_length not_expression_words arity trees_by not_one_tree has_entries states_of port_of every_symbol
    own_transitions ports_from states_after transitions_from compiled too_many_states too_many_words flat_map wrong_chapter
passes-25 = refl
