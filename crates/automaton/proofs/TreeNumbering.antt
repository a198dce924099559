-- The numbered automaton of an expression as a tree: the states and transitions of each part from its first free state n
-- on, over the alphabet a.
use Prim.Native.Nat.{ℕ, suc, ◌+◌}
use mathlib.Core.List.{List, [], ◌∷◌, ◌++◌, map, Memᴰ}
use lib.ListN.{length}
use Rattle.words.specs.Alphabet.{constants_of}
use Rattle.language.specs.Expression.{Expression, Expressions, symbol, empty, union, product, closure, anything, noneᵉ, moreᵉ}
use Rattle.automaton.specs.Transition.{Transition}
use Rattle.automaton.specs.Numbering.{Port, full_entries, exit_entry, lookup, symbol_targets, symbol_transitions, union_transitions}
use Rattle.automaton.specs.Numbering.{product_transitions, closure_transitions, anything_transitions, constant_transitions}

module _ (a : List ℕ) where
  abbrev cs : List ℕ
  cs = constants_of a

  -- ---- states

  -- behind the own states of a symbol whose exit is x: over no children it is a constant, which has its exit alone
  abbrev pub behind : Expressions → ℕ → ℕ
  behind noneᵉ x = suc x
  behind (moreᵉ e es) x = suc x + length cs

  -- the first state behind those of an expression
  abbrev mutual
    pub next : Expression → ℕ → ℕ
    next (symbol f es) n = behind es (next_all es n)
    next empty n = suc n
    next (union F G) n = suc (next G (next F n)) + length cs
    next (product c F G) n = suc (next G (next F n)) + length cs
    next (closure c F) n = suc (next F n) + length cs
    next anything n = suc n + length cs

    pub next_all : Expressions → ℕ → ℕ
    next_all noneᵉ n = n
    next_all (moreᵉ e es) n = next_all es (next e n)

  abbrev pub exit_state : Expression → ℕ → ℕ
  exit_state (symbol f es) n = next_all es n
  exit_state empty n = n
  exit_state (union F G) n = next G (next F n)
  exit_state (product c F G) n = next G (next F n)
  exit_state (closure c F) n = next F n
  exit_state anything n = n

  abbrev pub entry_states : Expression → ℕ → List (ℕ × ℕ)
  entry_states (symbol c noneᵉ) n = exit_entry c n
  entry_states (symbol f (moreᵉ e es)) n = full_entries cs (exit_state (symbol f (moreᵉ e es)) n)
  entry_states empty n = []
  entry_states (union F G) n = full_entries cs (exit_state (union F G) n)
  entry_states (product c F G) n = full_entries cs (exit_state (product c F G) n)
  entry_states (closure c F) n = full_entries cs (exit_state (closure c F) n)
  entry_states anything n = full_entries cs n

  abbrev pub port : Expression → ℕ → Port
  port E n = record { exit = exit_state E n; entries = entry_states E n }

  abbrev pub ports : Expressions → ℕ → List Port
  ports noneᵉ n = []
  ports (moreᵉ e es) n = port e n ∷ ports es (next e n)

  -- the entry for a constant: none or one
  abbrev pub entry : Expression → ℕ → ℕ → List ℕ
  entry E n c = lookup (entry_states E n) c

  abbrev pub exits : Expressions → ℕ → List ℕ
  exits es n = map (λ P. P.exit) (ports es n)

  -- each child's entry for a constant
  abbrev pub child_entries : Expressions → ℕ → ℕ → List ℕ
  child_entries es n c = symbol_targets (ports es n) c

  -- ---- transitions

  -- those of the last word of an expression
  abbrev pub own : Expression → ℕ → List Transition
  own (symbol f es) n = symbol_transitions f (port (symbol f es) n) (ports es n)
  own empty n = []
  own (union F G) n = union_transitions (port (union F G) n) (port F n) (port G (next F n))
  own (product c F G) n = product_transitions c (port (product c F G) n) (port F n) (port G (next F n))
  own (closure c F) n = closure_transitions c (port (closure c F) n) (port F n)
  own anything n = anything_transitions a (port anything n)

  -- those of all its words
  abbrev mutual
    pub transitions_of : Expression → ℕ → List Transition
    transitions_of (symbol f es) n = transitions_of_all es n ++ own (symbol f es) n
    transitions_of empty n = []
    transitions_of (union F G) n = transitions_of F n ++ (transitions_of G (next F n) ++ own (union F G) n)
    transitions_of (product c F G) n = transitions_of F n ++ (transitions_of G (next F n) ++ own (product c F G) n)
    transitions_of (closure c F) n = transitions_of F n ++ own (closure c F) n
    transitions_of anything n = own anything n

    pub transitions_of_all : Expressions → ℕ → List Transition
    transitions_of_all noneᵉ n = []
    transitions_of_all (moreᵉ e es) n = transitions_of e n ++ transitions_of_all es (next e n)

  -- those of the constants too: all transitions of the automaton
  abbrev pub tree_transitions : Expression → List Transition
  tree_transitions E = constant_transitions (entry_states E 0) ++ transitions_of E 0

  -- ---- the constants of an expression are listed

  abbrev pub SymbolListed : ℕ → Expressions → Type 0
  SymbolListed c noneᵉ = Memᴰ c cs
  SymbolListed f (moreᵉ e es) = Unit {0}

  abbrev mutual
    pub ConstantsListed : Expression → Type 0
    ConstantsListed (symbol f es) = SymbolListed f es × ConstantsListedAll es
    ConstantsListed empty = Unit {0}
    ConstantsListed (union F G) = ConstantsListed F × ConstantsListed G
    ConstantsListed (product c F G) = Memᴰ c cs × ConstantsListed F × ConstantsListed G
    ConstantsListed (closure c F) = Memᴰ c cs × ConstantsListed F
    ConstantsListed anything = Unit {0}

    pub ConstantsListedAll : Expressions → Type 0
    ConstantsListedAll noneᵉ = Unit {0}
    ConstantsListedAll (moreᵉ e es) = ConstantsListed e × ConstantsListedAll es
