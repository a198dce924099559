-- What the emitter's inner functions write, how many words at most, and what they are given. It serves these functions.
use Rattle.std.specs.Prelude.{ℕ, ◌+◌, ◌*◌, ◌<◌, ◌≤◌, ◌≡◌, List, length, get_or}
use Rattle.words.specs.Limits.{alphabet_most, constants_most, rank_most}
use Rattle.words.specs.Alphabet.{rank_of}
use Rattle.words.specs.Word.{low_byte, closure_kind, product_kind, union_kind, symbol_range, kind_of}
use Rattle.automaton.specs.Numbering.{symbol_targets, product_targets, closure_targets, anything_targets}
use Rattle.ports.specs.declared.states.Port.{Port}
use Rattle.ports.specs.Ports.{ports_in, child_in}
use Rattle.emitter.specs.Writing.{last_index}
use Rattle.emitter.specs.declared.entries.Targets.{Targets}
use Rattle.emitter.specs.declared.entries.Targets.TheVariants.{Children, Product, Closure, Exit}

-- the most words of the transitions from one entry: to the entry of each child, and to the word's own exit
abbrev pub entry_words_most : ℕ
entry_words_most = rank_most + 1

-- the most words of the transitions from all entries of a word
abbrev pub entries_words_most : ℕ
entries_words_most = constants_most * entry_words_most

-- the most words of a symbol move with its part states
abbrev pub symbol_words_most : ℕ
symbol_words_most = 1 + rank_most

-- the most words of the symbol moves of anything, one for each symbol
abbrev pub every_symbol_most : ℕ
every_symbol_most = alphabet_most * symbol_words_most

-- the most words of the own transitions of a word: the symbol moves of anything, where the other kinds have fewer words, and the
-- transitions from its entries
abbrev pub own_words_most : ℕ
own_words_most = every_symbol_most + entries_words_most

-- where the entry for a constant leads, by what is said of the word, which has exit x and children with ports ps
abbrev pub targets_in : List ℕ → List Port → ℕ → Targets → ℕ → List ℕ
targets_in cs ps x Children b = symbol_targets (ports_in cs ps) b
targets_in cs ps x (Product c) b = product_targets c (child_in cs ps 0) (child_in cs ps 1) b
targets_in cs ps x (Closure c) b = closure_targets c x (child_in cs ps 0) b
targets_in cs ps x Exit b = anything_targets x b

-- a word with these targets has as many children as ps has ports
abbrev pub Targetable : Targets → List Port → Type 0
Targetable Children ps = Unit {0}
Targetable (Product c) ps = length ps ≡ 2
Targetable (Closure c) ps = length ps ≡ 1
Targetable Exit ps = Unit {0}

-- the symbols of the alphabet are few, and none has too high a rank
pub record SymbolsEmittable (a : List ℕ) : Type 0 where
  pub few : length a ≤ alphabet_most
  pub ranks : (s : ℕ) → rank_of a s ≤ rank_most

-- c is one of the constants
abbrev pub ListedConstant : List ℕ → ℕ → Type 0
ListedConstant cs c = (k : ℕ) × (k < length cs) × (get_or cs k 0 ≡ c)

-- word w takes children with ports ps, and its c is one of the constants
pub record OwnEmittable (cs : List ℕ) (ps : List Port) (w : ℕ) : Type 0 where
  pub union : kind_of w ≡ union_kind → length ps ≡ 2
  pub product : kind_of w ≡ product_kind → (length ps ≡ 2) × ListedConstant cs (low_byte w)
  pub closure : kind_of w ≡ closure_kind → (length ps ≡ 1) × ListedConstant cs (low_byte w)

-- the constants are few and symbols, and their moves may be written from index `at` on
pub record ConstantsEmittable (cs : List ℕ) (at : ℕ) : Type 0 where
  pub few : length cs ≤ constants_most
  pub symbols : (k : ℕ) → k < length cs → get_or cs k 0 < symbol_range
  pub fits : at + constants_most ≤ last_index
