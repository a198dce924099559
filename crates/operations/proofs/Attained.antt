-- Demand 1: each refusal number of each operation is the answer of some call, also where conditions of later numbers hold:
-- one table of rows, one theorem.
use Prim.Native.Nat.{ℕ}
use mathlib.Core.Path.{◌≡◌, refl}
use mathlib.Core.List.{List, [], ◌∷◌, ◌++◌, map, flatten}
use lib.ListN.{replicate}
use lib.Count.{ones, ones_in}
use Rattle.words.specs.Word.{kind_at, spare_bits_clear, is_of}
use Rattle.words.specs.Alphabet.{marks_hole, is_entry, rank_of, is_constant, is_hole, has_holes, may_name, constants_from, constants_of}
use Rattle.words.specs.Alphabet.{no_alphabet, wrong_constants}
use Rattle.words.specs.Lists.{highest}
use Rattle.words.specs.Shape.{trees_by, value_on_by, values_by, stack_after_by, height_over, height_of_by, start_from_by, is_ancestor_by, splice_by}
use Rattle.words.specs.Shape.{stack_given_by}
use Rattle.words.specs.Postfix.{arity, not_one_tree}
use Rattle.words.specs.ExpressionWords.{is_expression_word, wrong_length, not_expression_words}
use Rattle.words.specs.Chapter.{is_node, not_nodes, too_high, holes_in}
use Rattle.words.specs.Answer.{Answer, refused}
use Rattle.automaton.specs.Transition.{transitions_at, automaton_of}
use Rattle.automaton.specs.Numbering.{has_entries, states_of, port_of, every_symbol, own_transitions, ports_from, states_after}
use Rattle.automaton.specs.Numbering.{transitions_from, compiled}
use Rattle.automaton.specs.Table.{table_word_count, table_in, is_head, is_table_word, sources_left, are_transitions, is_table, no_table}
use Rattle.automaton.specs.StateSet.{size_for, contains, insert, all_contained, symbol_pass, epsilon_pass, epsilon_closure, state_set}
use Rattle.automaton.proofs.LargestRules.{over_limit, wide, full_table, over_table}
use Rattle.operations.specs.Compile.{too_many_states, too_many_words, table_too_long, compile_answer}
use Rattle.operations.specs.Marks.{size_of, final_of, node_set, node_sets, stored_set, same_words}
use Rattle.operations.specs.Run.{wrong_count, marks_too_short, cells_in, run_answer}
use Rattle.operations.specs.Listing.{list_too_short, matches_in, list_answer}
use Rattle.operations.specs.ExchangeCall.{exchange_call}
use Rattle.operations.specs.Exchange.{wrong_used_count, no_element, no_replacement, result_too_long, propagate, root_set}
use Rattle.operations.specs.Exchange.{outcomes_behind, outcomes_after, new_tree, outcomes, old_totals, new_totals, fault, exchange_answer}
use Rattle.operations.specs.Totals.{Totals, totals_of, out_of_range, wrong_totals}

-- a call of an operation, with all that is lent
pub data Called : Type 0 where
  compile : (a e slice : List ℕ) → Called
  run : (a table_slice ch marks : List ℕ) → Called
  list : (a table_slice : List ℕ) (n : ℕ) (marks slice : List ℕ) → Called
  exchange : (a table_slice ch marks : List ℕ) (n i : ℕ) (xs : List ℕ) (t : Totals) → Called

abbrev pub answer_to : Called → Answer
answer_to (compile a e slice) = compile_answer a e slice
answer_to (run a table_slice ch marks) = run_answer a (table_in table_slice) ch marks
answer_to (list a table_slice n marks slice) = list_answer a (table_in table_slice) n marks slice
answer_to (exchange a table_slice ch marks n i xs t) = exchange_answer (exchange_call a (table_in table_slice) ch marks n i xs) t

-- a constant 0 and a symbol 1 of rank 2; 16 constants
abbrev two : List ℕ
two = 0x1000_0000 ∷ 0x1000_0002 ∷ []

-- a constant 0 and a symbol 1 of rank 1
abbrev line : List ℕ
line = 0x1000_0000 ∷ 0x1000_0001 ∷ []

-- a constant 0, a symbol 1 of rank 2 and a hole 2; the same with the symbol of rank 1
abbrev holed : List ℕ
holed = 0x1000_0000 ∷ 0x1000_0002 ∷ 0x1000_0100 ∷ []

abbrev holed_line : List ℕ
holed_line = 0x1000_0000 ∷ 0x1000_0001 ∷ 0x1000_0100 ∷ []

abbrev sixteen : List ℕ
sixteen = replicate 16 0x1000_0000

-- the table of the rule 0: one state, reached by the constant 0
abbrev one : List ℕ
one = 0x8000_0400 ∷ 0xC000_0003 ∷ 0x9000_0000 ∷ []

-- a slice that begins with it and is longer than any table
abbrev longer : List ℕ
longer = one ++ replicate 2048 0xC000_0003

abbrev leaf : ℕ
leaf = 0x7000_0000

abbrev pair : ℕ
pair = 0x7000_0001

abbrev hole : ℕ
hole = 0x7000_0002

-- records of totals: none; as much as there may be of each, so that 27 applies wherever an exchange adds elements; of a chapter with as
-- many elements, hits and cells
abbrev nothing : Totals
nothing = record { elements = 0; hits = 0; cells = 0 }

abbrev full : Totals
full = record { elements = 4194304; hits = 4194304; cells = 4194304 }

abbrev of : ℕ → ℕ → ℕ → Totals
of n m k = record { elements = n; hits = m; cells = k }

-- a leaf and n nodes above it, over the alphabet `line`
abbrev above : ℕ → List ℕ
above n = leaf ∷ replicate n 0x7000_0001

abbrev pub calls : List (ℕ × Called)
calls =
    (1, compile [] [] [])
    ∷ (2, compile (0x1000_0002 ∷ []) [] [])
    ∷ (3, compile two (replicate 65 0) [])
    ∷ (4, compile two (0x7000_0001 ∷ []) [])
    ∷ (5, compile two (0x2000_0001 ∷ []) [])
    ∷ (6, compile sixteen over_limit [])
    ∷ (7, compile two (0x2000_0000 ∷ []) (0 ∷ 0 ∷ []))
    -- a hole of rank 1; 17 constants, of which one is a hole; a c that is no hole beside one, in a product and in a closure, where 5
    -- holds too; a c that is a hole, and one where there is none; a hole as a symbol
    ∷ (1, compile (0x1000_0000 ∷ 0x1000_0101 ∷ []) [] [])
    ∷ (2, compile (0x1000_0100 ∷ sixteen) [] [])
    ∷ (4, compile holed (0x5000_0000 ∷ []) [])
    ∷ (4, compile holed (0x6000_0000 ∷ []) [])
    ∷ (7, compile holed (0x2000_0000 ∷ 0x6000_0002 ∷ []) [])
    ∷ (7, compile two (0x2000_0000 ∷ 0x6000_0000 ∷ []) [])
    ∷ (7, compile holed (0x2000_0002 ∷ []) [])
    -- anything: with a spare bit; with another rule behind it; alone; 2,049 table words, where 7 holds too, and where nothing else
    -- does; 2,048; 1,037 states and more than 2,048 words
    ∷ (4, compile two (0xE000_0001 ∷ []) [])
    ∷ (5, compile two (0xE000_0000 ∷ 0xE000_0000 ∷ []) [])
    ∷ (7, compile two (0xE000_0000 ∷ []) (replicate 6 0))
    ∷ (25, compile wide over_table [])
    ∷ (25, compile wide over_table (replicate 2049 0))
    ∷ (7, compile wide full_table (replicate 2047 0))
    ∷ (6, compile (sixteen ++ replicate 10 0x1000_0004) (replicate 31 0xE000_0000 ++ replicate 30 0x4000_0000) [])
    ∷ (1, run (0 ∷ []) [] [] [])
    ∷ (2, run (0x1000_0001 ∷ []) [] [] [])
    ∷ (8, run two [] [] [])
    -- the length word: missing, as in document 01's table; a count of 1, over the slice, of 2,049; a spare bit; given again
    ∷ (8, run two (0x8000_0400 ∷ 0x9000_0000 ∷ []) [] [])
    ∷ (8, run two (0x8000_0400 ∷ 0xC000_0001 ∷ []) [] [])
    ∷ (8, run two (0x8000_0400 ∷ 0xC000_0003 ∷ []) [] [])
    ∷ (8, run two (0x8000_0400 ∷ 0xC000_0801 ∷ replicate 2047 0xA000_0000) [] [])
    ∷ (8, run two (0x8000_0400 ∷ 0xC000_1002 ∷ []) [] [])
    ∷ (8, run two (0x8000_0400 ∷ 0xC000_0003 ∷ 0xC000_0003 ∷ []) [] [])
    -- what follows the table is no ground for 8
    ∷ (9, run two longer [] [])
    ∷ (9, run two one (replicate 4097 0x6000_0000) [])
    ∷ (10, run two one (0x6000_0000 ∷ []) [])
    ∷ (11, run two one (pair ∷ []) [])
    -- a tree of height 513 behind another
    ∷ (11, run line one (leaf ∷ above 512) (replicate 514 0))
    -- of height 513, where 12 holds too, and where nothing else does
    ∷ (24, run line one (above 512) [])
    ∷ (24, run line one (above 512) (replicate 513 0))
    -- a hole: at the root, where 12 holds too; first, in the middle and last of the leaves, where nothing else does; where 24, 11 or
    -- 10 holds too
    ∷ (26, run holed one (hole ∷ []) [])
    ∷ (26, run holed one (hole ∷ leaf ∷ pair ∷ []) (replicate 3 0))
    ∷ (26, run holed one (leaf ∷ hole ∷ leaf ∷ pair ∷ pair ∷ []) (replicate 5 0))
    ∷ (26, run holed one (leaf ∷ hole ∷ pair ∷ []) (replicate 3 0))
    ∷ (24, run holed_line one (hole ∷ replicate 512 0x7000_0001) [])
    ∷ (11, run holed one (hole ∷ hole ∷ []) [])
    ∷ (10, run holed one (hole ∷ 0x7000_0003 ∷ []) [])
    ∷ (12, run line one (above 511) [])
    ∷ (12, run two one (leaf ∷ []) [])
    ∷ (1, list (0x1000_0005 ∷ []) [] 0 [] [])
    ∷ (2, list (replicate 17 0x1000_0000) [] 0 [] [])
    ∷ (8, list two (0x8000_0000 ∷ 0xC000_0002 ∷ []) 0 [] [])
    ∷ (9, list two one 4097 [] [])
    ∷ (9, list two longer 0 [] [])
    ∷ (12, list two one 1 [] [])
    ∷ (13, list two one 1 (0 ∷ []) [])
    ∷ (1, exchange [] [] [] [] 0 0 [] full)
    ∷ (2, exchange (0x1000_0004 ∷ []) [] [] [] 0 0 [] full)
    ∷ (8, exchange two (0x8000_0401 ∷ 0xC000_0002 ∷ []) [] [] 0 0 [] full)
    ∷ (9, exchange two one (0x6000_0000 ∷ []) [] 2 2 [] full)
    ∷ (9, exchange two longer [] [] 0 0 [] full)
    ∷ (10, exchange two one (0x6000_0000 ∷ []) [] 1 1 [] full)
    ∷ (11, exchange two one (leaf ∷ leaf ∷ []) [] 2 2 [] full)
    -- a used chapter of height 513, where 12, 14 and 15 hold too, and where nothing else does: the result is a leaf
    ∷ (24, exchange line one (above 512) [] 513 513 [] full)
    ∷ (24, exchange line one (above 512) (replicate 513 0) 513 512 (leaf ∷ []) full)
    -- the result is too high, too
    ∷ (24, exchange line one (above 512 ++ 0 ∷ []) (replicate 514 0) 513 0 (above 1) full)
    -- a hole in the used chapter, where 12 and 14 hold too, and where nothing else does; behind it, where it is not looked at
    ∷ (26, exchange holed one (hole ∷ []) [] 1 1 [] full)
    ∷ (26, exchange holed one (leaf ∷ hole ∷ pair ∷ []) (replicate 3 0) 3 1 (leaf ∷ []) full)
    ∷ (14, exchange holed one (leaf ∷ hole ∷ []) (0 ∷ []) 1 1 (hole ∷ []) full)
    ∷ (12, exchange line one (above 511) [] 512 0 (leaf ∷ []) full)
    ∷ (12, exchange two one (leaf ∷ []) [] 1 1 [] full)
    ∷ (14, exchange two one (leaf ∷ []) (0 ∷ []) 1 1 (leaf ∷ leaf ∷ []) full)
    ∷ (15, exchange two one (leaf ∷ []) (0 ∷ []) 1 0 (leaf ∷ leaf ∷ []) full)
    -- a hole in the replacement, where 15 holds too; where 16 does; and where nothing else does
    ∷ (15, exchange holed one (leaf ∷ []) (0 ∷ []) 1 0 (hole ∷ hole ∷ []) full)
    ∷ (26, exchange holed one (leaf ∷ []) (0 ∷ []) 1 0 (leaf ∷ hole ∷ pair ∷ []) full)
    ∷ (26, exchange holed one (leaf ∷ []) (0 ∷ []) 1 0 (hole ∷ []) full)
    ∷ (16, exchange two one (leaf ∷ []) (0 ∷ []) 1 0 (leaf ∷ leaf ∷ pair ∷ []) full)
    -- a result of height 513 that is too long, too, and where nothing else holds
    ∷ (16, exchange line one (above 511) (replicate 513 0) 512 0 (above 1) full)
    ∷ (24, exchange line one (above 511 ++ 0 ∷ []) (replicate 513 0) 512 0 (above 1) full)
    -- a total alone would come out of the exchange below zero, or above the figure: elements, hits, cells. A leaf with the mark of its
    -- state, or with a stray mark beside it, gives way to a leaf that gets the state's mark; three elements give way to a leaf
    ∷ (27, exchange two one (leaf ∷ leaf ∷ pair ∷ []) (0 ∷ 0 ∷ 0 ∷ []) 3 2 (leaf ∷ []) (of 1 0 0))
    ∷ (27, exchange two one (leaf ∷ 0 ∷ 0 ∷ []) (1 ∷ 0 ∷ 0 ∷ []) 1 0 (leaf ∷ leaf ∷ pair ∷ []) (of 4194303 1 1))
    ∷ (27, exchange two one (leaf ∷ leaf ∷ pair ∷ []) (1 ∷ 1 ∷ 0 ∷ []) 3 2 (leaf ∷ []) (of 3 0 2))
    ∷ (27, exchange two one (leaf ∷ []) (0 ∷ []) 1 0 (leaf ∷ []) (of 1 4194304 0))
    ∷ (27, exchange two one (leaf ∷ []) (3 ∷ []) 1 0 (leaf ∷ []) (of 1 1 0))
    ∷ (27, exchange two one (leaf ∷ []) (0 ∷ []) 1 0 (leaf ∷ []) (of 1 0 4194304))
    -- one that is above the figure, and stays there
    ∷ (27, exchange two one (leaf ∷ []) (1 ∷ []) 1 0 (leaf ∷ []) (of 4194305 1 1))
    -- 16, and 24 for the result, come before
    ∷ (16, exchange two one (leaf ∷ leaf ∷ pair ∷ []) (0 ∷ 0 ∷ 0 ∷ []) 3 0 (leaf ∷ leaf ∷ pair ∷ []) nothing)
    ∷ (24, exchange line one (above 511 ++ 0 ∷ []) (replicate 513 0) 512 0 (above 1) nothing)
    ∷ []

-- each answers its number
pub attained : map (λ r. answer_to r.1) calls ≡ map (λ r. refused r.0) calls
unfolding kind_at spare_bits_clear is_of marks_hole is_entry rank_of is_constant is_hole has_holes may_name constants_from constants_of no_alphabet
    wrong_constants arity trees_by not_one_tree
    value_on_by stack_after_by height_over highest height_of_by too_high holes_in start_from_by splice_by
    is_expression_word wrong_length not_expression_words is_node not_nodes automaton_of has_entries states_of port_of every_symbol own_transitions
    ports_from states_after transitions_from
    compiled table_word_count table_in is_head is_table_word sources_left are_transitions is_table no_table size_for too_many_states too_many_words
    table_too_long compile_answer size_of wrong_count marks_too_short
    run_answer list_too_short list_answer wrong_used_count no_element no_replacement result_too_long
    flatten ones ones_in cells_in contains insert all_contained symbol_pass epsilon_pass epsilon_closure state_set transitions_at final_of node_set
    node_sets values_by stored_set matches_in is_ancestor_by stack_given_by same_words propagate root_set outcomes_behind outcomes_after new_tree
    outcomes totals_of out_of_range wrong_totals old_totals new_totals fault exchange_answer
attained = refl
