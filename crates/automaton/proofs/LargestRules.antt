-- The limits on compiled automata are attained: an accepted expression with exactly 1,024 states and a table of 1,148 words, and one
-- with 1,038 states; with anything, one with a table of exactly 2,048 words, and one with 2,049.
use Prim.Native.Nat.{ℕ}
use mathlib.Core.Path.{◌≡◌, refl}
use mathlib.Core.List.{List, [], ◌∷◌, ◌++◌, flat_map}
use lib.ListN.{length, replicate}
use Rattle.words.specs.Limits.{constants_most, states_most, table_most, compiled_most}
use Rattle.words.specs.Word.{spare_bits_clear, is_of, kind_at}
use Rattle.words.specs.Alphabet.{marks_hole, is_entry, rank_of, is_constant, is_hole, has_holes, may_name, constants_from, constants_of}
use Rattle.words.specs.Alphabet.{no_alphabet, wrong_constants, alphabet_fault}
use Rattle.words.specs.Shape.{trees_by}
use Rattle.words.specs.Postfix.{arity, not_one_tree}
use Rattle.words.specs.ExpressionWords.{is_expression_word, wrong_length, not_expression_words, expression_fault}
use Rattle.automaton.specs.Transition.{table_words}
use Rattle.automaton.specs.Numbering.{has_entries, states_of, port_of, every_symbol, own_transitions, ports_from, states_after}
use Rattle.automaton.specs.Numbering.{transitions_from, compiled}

-- 16 constants and a symbol of rank 4
abbrev alphabet : List ℕ
alphabet = replicate constants_most 0x1000_0000 ++ (0x1000_0004 ∷ [])

-- "60 words with entries and 4 constants, over 16 constants, make exactly 1,024 states": the symbol over four constants, under
-- 59 closures over the first constant
abbrev largest : List ℕ
largest = replicate 4 0x2000_0000 ++ (0x2000_0010 ∷ replicate 59 0x6000_0000)

-- "61 closures over one constant make 1,038"
abbrev pub over_limit : List ℕ
over_limit = 0x2000_0000 ∷ replicate 61 0x6000_0000

-- a constant, 35 symbols of rank 4 and two of rank 2
abbrev pub wide : List ℕ
wide = 0x1000_0000 ∷ (replicate 35 0x1000_0004 ++ replicate 2 0x1000_0002)

-- eleven anythings in ten unions
abbrev eleven : List ℕ
eleven = replicate 11 0xE000_0000 ++ replicate 10 0x4000_0000

-- their union with the empty rule, and their closure over the constant, which takes one table word more
abbrev pub full_table : List ℕ
full_table = eleven ++ (0x3000_0000 ∷ 0x4000_0000 ∷ [])

abbrev pub over_table : List ℕ
over_table = eleven ++ (0x6000_0000 ∷ [])

pub record LimitsAttained : Type 0 where
  pub alphabet-passes : alphabet_fault alphabet ≡ 0
  pub largest-accepted : expression_fault alphabet largest ≡ 0
  pub largest-states : (compiled alphabet largest).states ≡ states_most
  pub largest-words : length (table_words (compiled alphabet largest)) ≡ compiled_most
  pub over-accepted : expression_fault alphabet over_limit ≡ 0
  pub over-states : (compiled alphabet over_limit).states ≡ 1038
  pub wide-passes : alphabet_fault wide ≡ 0
  pub full-accepted : expression_fault wide full_table ≡ 0
  pub full-words : length (table_words (compiled wide full_table)) ≡ table_most
  pub over_table-accepted : expression_fault wide over_table ≡ 0
  pub over_table-words : length (table_words (compiled wide over_table)) ≡ 2049

pub limits-attained : LimitsAttained
unfolding
    kind_at spare_bits_clear is_of marks_hole is_entry rank_of is_constant is_hole has_holes may_name constants_from constants_of no_alphabet
    wrong_constants arity trees_by not_one_tree
    is_expression_word wrong_length not_expression_words has_entries states_of port_of every_symbol own_transitions ports_from states_after
    transitions_from compiled flat_map
limits-attained =
    record {
      alphabet-passes = refl;
      largest-accepted = refl;
      largest-states = refl;
      largest-words = refl;
      over-accepted = refl;
      over-states = refl;
      wide-passes = refl;
      full-accepted = refl;
      full-words = refl;
      over_table-accepted = refl;
      over_table-words = refl;
    }
