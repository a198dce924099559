-- An index of a table: for each symbol the words at which the transitions on it begin, and for each state the words of the
-- epsilon transitions from it, as chains in ascending order. It serves inner functions.
use Rattle.std.specs.Prelude.{ℕ, zero, suc, ◌+◌, ◌-◌, ◌<◌, ◌≤◌, ◌≡◌, List, true, cond, length, get_or, set, replicate, ltb, Option, Some, None}
use Rattle.words.specs.Limits.{alphabet_most, table_most}
use Rattle.words.specs.Word.{transition_kind, epsilon_kind, has_kind, symbol_range, state_range, symbol_above, state_above}
use Rattle.automaton.specs.Table.{is_table}

-- the key of a state, behind the numbers that a symbol may have
abbrev pub state_key : ℕ → ℕ
state_key s = symbol_range + s

-- how many keys there are
abbrev pub key_count : ℕ
key_count = state_key state_range

-- the key of a word: the symbol of a symbol transition, that of the from state of an epsilon transition; any other word has none
unfoldable pub key_of : ℕ → ℕ
key_of w = cond (has_kind transition_kind w) (symbol_above w) (cond (has_kind epsilon_kind w) (state_key (state_above w)) key_count)

-- First stand the first words of the keys' chains; behind them the word of the table with number i has the next word of its
-- chain. A chain ends with 0: the head is in none.
unfoldable pub indexed_at : List ℕ → ℕ → List ℕ → List ℕ
indexed_at table i index =
    let key = key_of (get_or table i 0) in
    cond (ltb key key_count) (set (set index (key_count + i) (get_or index key 0)) key i) index

-- the words of an index: for each key, and for each word of the longest table
abbrev pub index_length : ℕ
index_length = key_count + table_most

-- the index of the last n words, from the last one backwards
unfoldable pub index_back : List ℕ → ℕ → List ℕ
index_back table zero = replicate index_length 0
index_back table (suc n) = indexed_at table (length table - suc n) (index_back table n)

unfoldable pub index_of : List ℕ → List ℕ
index_of table = index_back table (length table)

-- the word with this number, if it is a word of a chain
unfoldable pub chain_word : ℕ → Option ℕ
chain_word zero = None
chain_word (suc i) = Some (suc i)

-- what putting word i in front of its key's chain asks
pub record Insertable (table : List ℕ) (i : ℕ) (index : List ℕ) : Type 0 where
  pub inside : i < length table
  pub few : length table ≤ table_most
  pub size : length index ≡ index_length

-- what writing a table's index asks: an array of zeros
pub record Indexable (table index : List ℕ) : Type 0 where
  pub few : length table ≤ table_most
  pub zeros : index ≡ replicate index_length 0

-- a checked table with its index
pub record IndexedTable (table index : List ℕ) : Type 0 where
  pub alphabet : List ℕ
  pub short : length alphabet ≤ alphabet_most
  pub checked : is_table alphabet table ≡ true
  pub indexed : index ≡ index_of table
