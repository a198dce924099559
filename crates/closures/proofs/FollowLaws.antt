-- A chain of a table's index, followed word by word.
use mathlib.Core.Path.{◌≡◌}
use mathlib.Core.List.{List}
use Prim.Native.Nat.{ℕ, zero, suc, ◌+◌, ◌-◌, ◌<◌, ◌≤◌}
use native.Mathlib.Omega.{arith}
use lib.ListN.{length, get_or}
use Rattle.std.proofs.Common.{Option, Some, None}
use Rattle.words.specs.Limits.{states_most}
use Rattle.automaton.specs.Transition.{automaton_of}
use Rattle.automaton.proofs.TableLaws.{is_table-states}
use Rattle.index.specs.Index.{IndexedTable, key_count, chain_word}
use Rattle.index.proofs.ChainLaws.{FirstWith, next_with, next-some}
use Rattle.index.proofs.IndexLaws.{keyed, index-first, index-next}

-- the words that may follow: the numbers of a chain ascend
pub left : List ℕ → Option ℕ → ℕ
left table None = 0
left table (Some i) = length table - i

module _ {table index : List ℕ} (c : IndexedTable table index) where
  pub states-most : (automaton_of table).states ≤ states_most
  states-most = is_table-states c.alphabet table c.checked

  pub chain_first : (key : ℕ) → key < key_count → get_or index key 0 ≡ next_with table key 0
  chain_first key h = rw c.indexed (index-first table (keyed c) key h)

  module _ {key from i : ℕ} (n : FirstWith table key from i) where
    module _ (h : key < key_count) where
      pub chain_next : get_or index (key_count + i) 0 ≡ next_with table key (i + 1)
      chain_next = rw c.indexed (index-next table (keyed c) i key n.inside n.keyed h)

      pub left_less : left table (chain_word (get_or index (key_count + i) 0)) < left table (Some i)
      unfolding left chain_word
      left_less =
          go (get_or index (key_count + i) 0) (λ k. (next-some chain_next k).behind) (λ k. (next-some chain_next k).inside)
        where
          go : (j : ℕ) → (0 < j → i + 1 ≤ j) → (0 < j → j < length table) → left table (chain_word j) < left table (Some i)
          go zero up inside = let l = n.inside in omega arith
          go (suc j) up inside = let a = up (omega arith) in let b = inside (omega arith) in omega arith
