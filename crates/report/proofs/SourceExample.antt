-- The source's own example, byte for byte: what the definitions print of its input. The hits are those of the table of marked
-- examples.
use Prim.Native.Nat.{ℕ}
use mathlib.Core.Path.{◌≡◌, refl, ap, ◌∙◌, sym}
use mathlib.Core.List.{List, [], ◌∷◌, ◌++◌, map, flat_map}
use lib.ListN.{replicate}
use Rattle.words.specs.Word.{kind_at, spare_bits_clear, is_of}
use Rattle.words.specs.Alphabet.{marks_hole, is_entry, rank_of, is_constant, is_hole, has_holes, may_name, constants_from, constants_of}
use Rattle.words.specs.Alphabet.{no_alphabet, wrong_constants}
use Rattle.words.specs.ExpressionWords.{is_expression_word, wrong_length, not_expression_words}
use Rattle.words.specs.Chapter.{is_node, not_nodes, too_high, holes_in}
use Rattle.words.specs.Lists.{highest}
use Rattle.words.specs.Shape.{trees_by, value_on_by, stack_after_by, height_over, height_of_by, start_from_by}
use Rattle.words.specs.Postfix.{arity, not_one_tree}
use Rattle.automaton.specs.Transition.{transitions_at, automaton_of}
use Rattle.automaton.specs.Numbering.{has_entries, states_of, port_of, own_transitions, ports_from, states_after, transitions_from, compiled}
use Rattle.language.proofs.MembershipExamples.{alphabet}
use Rattle.automaton.proofs.CompiledExample.{rule}
use Rattle.operations.specs.Compile.{compiled_table, too_many_states, too_many_words}
use Rattle.operations.specs.Marks.{final_of, node_sets}
use Rattle.operations.specs.Run.{run_marks}
use Rattle.operations.specs.Listing.{matches_in, matches_of}
use Rattle.operations.proofs.RunLaws.{run-writes, matches-node_sets}
use Rattle.operations.proofs.Examples.{chapter, examples}
use Rattle.encoding.specs.Decimal.{digits_within, decimal}
use Rattle.encoding.specs.Words.{word_at, words_in}
use Rattle.lines.specs.Line.{head_line, hit_line, hit_lines}
use Rattle.report.specs.Output.{wrong_chapter, marklist_fault, hits_of}
use Rattle.report.specs.Input.{program_output}
use Rattle.report.proofs.KeptLaws.{complete-output, accepted-output}
use Rattle.report.proofs.ProgramLaws.{program-complete}

-- the counts 7, 9 and 7, then alphabet, rule and chapter, each word low byte first
abbrev pub example_input : List ℕ
example_input =
    7 ∷ 0 ∷ 0 ∷ 0 ∷ 9 ∷ 0 ∷ 0 ∷ 0 ∷ 7 ∷ 0 ∷ 0 ∷ 0
    ∷ 0 ∷ 0 ∷ 0 ∷ 16 ∷ 0 ∷ 0 ∷ 0 ∷ 16 ∷ 0 ∷ 0 ∷ 0 ∷ 16 ∷ 0 ∷ 0 ∷ 0 ∷ 16
    ∷ 2 ∷ 0 ∷ 0 ∷ 16 ∷ 1 ∷ 0 ∷ 0 ∷ 16 ∷ 1 ∷ 0 ∷ 0 ∷ 16
    ∷ 0 ∷ 0 ∷ 0 ∷ 32 ∷ 1 ∷ 0 ∷ 0 ∷ 32 ∷ 4 ∷ 0 ∷ 0 ∷ 32 ∷ 2 ∷ 0 ∷ 0 ∷ 32
    ∷ 5 ∷ 0 ∷ 0 ∷ 32 ∷ 3 ∷ 0 ∷ 0 ∷ 32 ∷ 2 ∷ 0 ∷ 0 ∷ 80 ∷ 0 ∷ 0 ∷ 0 ∷ 64
    ∷ 3 ∷ 0 ∷ 0 ∷ 96
    ∷ 0 ∷ 0 ∷ 0 ∷ 112 ∷ 1 ∷ 0 ∷ 0 ∷ 112 ∷ 4 ∷ 0 ∷ 0 ∷ 112 ∷ 3 ∷ 0 ∷ 0 ∷ 112
    ∷ 5 ∷ 0 ∷ 0 ∷ 112 ∷ 6 ∷ 0 ∷ 0 ∷ 112 ∷ 4 ∷ 0 ∷ 0 ∷ 112 ∷ []

-- nodes 7 states 29 hits 3
-- 2 4 3
-- 3 3 1
-- 4 5 2
abbrev pub example_output : List ℕ
example_output =
    110 ∷ 111 ∷ 100 ∷ 101 ∷ 115 ∷ 32 ∷ 55 ∷ 32 ∷ 115 ∷ 116 ∷ 97 ∷ 116 ∷ 101 ∷ 115 ∷ 32 ∷ 50 ∷ 57 ∷ 32 ∷ 104 ∷ 105 ∷ 116 ∷ 115 ∷ 32 ∷ 51 ∷ 10
    ∷ 50 ∷ 32 ∷ 52 ∷ 32 ∷ 51 ∷ 10
    ∷ 51 ∷ 32 ∷ 51 ∷ 32 ∷ 49 ∷ 10
    ∷ 52 ∷ 32 ∷ 53 ∷ 32 ∷ 50 ∷ 10 ∷ []

-- ---- the hits

abbrev first : ℕ × ℕ × ℕ → ℕ
first p = p.0

firsts : (f g : ℕ → ℕ) (is : List ℕ) → map first (map (λ i. (i, f i, g i)) is) ≡ is
firsts f g [] = refl
firsts f g (i ∷ is) = ap (λ (l : List ℕ). i ∷ l) (firsts f g is)

final-is : final_of (compiled_table alphabet rule) ≡ (compiled alphabet rule).final
unfolding
    kind_at rank_of is_constant constants_from constants_of arity has_entries states_of port_of own_transitions ports_from states_after
    transitions_from compiled
    transitions_at automaton_of final_of flat_map
final-is = refl

hits-are : hits_of alphabet rule chapter ≡ 2 ∷ 3 ∷ 4 ∷ []
unfolding hits_of
hits-are =
    let table = compiled_table alphabet rule in
    let marks = run_marks alphabet table chapter (replicate 7 0) in
    ap (λ (q : ℕ). matches_in q 0 (node_sets alphabet table chapter)) (sym final-is)
    ∙ sym (matches-node_sets alphabet table chapter marks (run-writes alphabet table chapter (replicate 7 0)))
    ∙ sym (firsts _ _ (matches_of table 7 marks))
    ∙ ap (map first) examples.0.hits

-- ---- the lines

no-fault : marklist_fault alphabet rule chapter ≡ 0
unfolding
    kind_at spare_bits_clear is_of marks_hole is_entry rank_of is_constant is_hole has_holes may_name constants_from constants_of no_alphabet
    wrong_constants is_expression_word wrong_length not_expression_words is_node not_nodes arity trees_by not_one_tree has_entries states_of port_of
    own_transitions ports_from states_after transitions_from compiled
    value_on_by stack_after_by height_over highest height_of_by too_high holes_in too_many_states too_many_words flat_map wrong_chapter
no-fault = refl

words_are : words_in example_input ≡ 7 ∷ 9 ∷ 7 ∷ (alphabet ++ (rule ++ (chapter ++ [])))
unfolding word_at words_in
words_are = refl

lines_are : head_line 7 29 3 ++ hit_lines alphabet chapter (2 ∷ 3 ∷ 4 ∷ []) ≡ example_output
unfolding kind_at rank_of arity start_from_by digits_within decimal head_line hit_line hit_lines
lines_are = refl

pub example-printed : program_output example_input ≡ example_output
example-printed =
    program-complete example_input 7 9 7 alphabet rule chapter [] words_are refl refl refl
    ∙ complete-output _ alphabet rule chapter refl
    ∙ accepted-output alphabet rule chapter no-fault
    ∙ rw (hits-are, examples.0.state_count) lines_are
