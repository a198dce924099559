-- The numbered Thompson tree automaton of a rule, word by word (document 01, "Numbered automaton"; document 000, section
-- 3; document 02, U7).
use Rattle.std.specs.Prelude.{ℕ, suc, ◌+◌, ◌-◌, Bool, true, false, not, cond, length, get_or, take, drop, replicate, eqb}
use mathlib.Core.List.{List, [], ◌∷◌, ◌++◌, map, flat_map, reverse}
use Rattle.words.specs.Word.{Kind, entry_kind, symbol_kind, empty_kind, union_kind, product_kind, closure_kind, node_kind}
use Rattle.words.specs.Word.{head_kind, transition_kind, epsilon_kind, source_kind, length_kind, anything_kind, no_kind, kind_of, has_kind, low_byte}
use Rattle.words.specs.Alphabet.{entry_rank, rank_of, constants_of}
use Rattle.words.specs.Postfix.{arity}
use Rattle.automaton.specs.Transition.{Transition, Automaton, on_symbol, epsilon}

-- a word's states: its exit, and its entries, each a constant with the state for it
pub record Port : Type 0 where
  pub exit : ℕ
  pub entries : List (ℕ × ℕ)

-- the constants, each with a state, from state n on
abbrev pub numbered : ℕ → List ℕ → List (ℕ × ℕ)
numbered n [] = []
numbered n (c ∷ cs) = (c, n) ∷ numbered (suc n) cs

-- whether a word of a kind has entries, where `rank` is the rank of its symbol: any rule word but a constant and the empty language;
-- anything "gets an exit and an entry for each constant" (document 02, U7)
abbrev pub entries_at : ℕ → Kind → Bool
entries_at rank symbol_kind = not (eqb rank 0)
entries_at rank empty_kind = false
entries_at rank union_kind = true
entries_at rank product_kind = true
entries_at rank closure_kind = true
entries_at rank anything_kind = true
entries_at rank node_kind = false
entries_at rank entry_kind = false
entries_at rank head_kind = false
entries_at rank transition_kind = false
entries_at rank epsilon_kind = false
entries_at rank source_kind = false
entries_at rank length_kind = false
entries_at rank no_kind = false

unfoldable pub has_entries : List ℕ → ℕ → Bool
has_entries a w = entries_at (rank_of a (low_byte w)) (kind_of w)

-- "A constant or empty word gets one, its exit. Any other word gets its exit, then one entry for each constant"
unfoldable pub states_of : List ℕ → ℕ → ℕ
states_of a w = suc (cond (has_entries a w) (length (constants_of a)) 0)

-- "its exit, then one entry for each constant": the entries for the constants cs behind exit n
abbrev pub full_entries : List ℕ → ℕ → List (ℕ × ℕ)
full_entries cs n = numbered (suc n) cs

-- "A constant's exit is also its entry for itself; it has no other entry": exit n of the constant c
abbrev pub exit_entry : ℕ → ℕ → List (ℕ × ℕ)
exit_entry c n = (c, n) ∷ []

-- .. "and the empty word has none."
abbrev pub own_entry : ℕ → ℕ → List (ℕ × ℕ)
own_entry n w = cond (has_kind symbol_kind w) (exit_entry (low_byte w) n) []

-- the states of a word with an entry for each constant of cs, of which n is the first
abbrev pub full_port : List ℕ → ℕ → Port
full_port cs n = record { exit = n; entries = full_entries cs n }

-- the state n of a constant or empty word w
abbrev pub leaf_port : ℕ → ℕ → Port
leaf_port n w = record { exit = n; entries = own_entry n w }

-- the states of word w, of which n is the first
unfoldable pub port_of : List ℕ → ℕ → ℕ → Port
port_of a n w = cond (has_entries a w) (full_port (constants_of a) n) (leaf_port n w)

-- the entry for a constant, or none
abbrev pub lookup : List (ℕ × ℕ) → ℕ → List ℕ
lookup [] c = []
lookup (entry ∷ entries) c = let rest = lookup entries c in cond (eqb entry.0 c) (entry.1 ∷ rest) rest

abbrev pub entry_for : Port → ℕ → List ℕ
entry_for P c = lookup P.entries c

-- empty moves from p to each state of a list; a move that names a missing entry is omitted
abbrev pub epsilons : ℕ → List ℕ → List Transition
epsilons p qs = map (λ q. epsilon p q) qs

-- empty moves from each entry to the states that `targets` gives for its constant
abbrev pub entry_epsilons : List (ℕ × ℕ) → (ℕ → List ℕ) → List Transition
entry_epsilons [] targets = []
entry_epsilons (entry ∷ entries) targets = epsilons entry.1 (targets entry.0) ++ entry_epsilons entries targets

-- the transitions of a word with states E over its children's states, "ordered by from and then by to", and the states to
-- which E's entry for a constant leads

-- "Symbol: E's entry for each constant to that entry of each part."
abbrev pub symbol_targets : List Port → ℕ → List ℕ
symbol_targets Ps b = flat_map (λ P. entry_for P b) Ps

-- "its symbol move, if its rank is above 0": a constant has no transitions
abbrev pub symbol_transitions : ℕ → Port → List Port → List Transition
symbol_transitions f E [] = []
symbol_transitions f E (P ∷ Ps) =
    on_symbol f (map (λ Q. Q.exit) (P ∷ Ps)) E.exit ∷ entry_epsilons E.entries (symbol_targets (P ∷ Ps))

-- "Union: the same to both parts; both exits to E's exit."
abbrev pub union_targets : Port → Port → ℕ → List ℕ
union_targets F G b = entry_for F b ++ entry_for G b

abbrev pub union_transitions : Port → Port → Port → List Transition
union_transitions E F G = epsilon F.exit E.exit ∷ epsilon G.exit E.exit ∷ entry_epsilons E.entries (union_targets F G)

-- "Product: each entry to G's; each but c's to F's; G's exit to F's entry for c; F's exit to E's exit."
abbrev pub product_targets : ℕ → Port → Port → ℕ → List ℕ
product_targets c F G b = cond (eqb b c) [] (entry_for F b) ++ entry_for G b

abbrev pub product_transitions : ℕ → Port → Port → Port → List Transition
product_transitions c E F G =
    epsilon F.exit E.exit ∷ (epsilons G.exit (entry_for F c) ++ entry_epsilons E.entries (product_targets c F G))

-- "Closure: each entry to F's; E's entry for c to E's exit; F's exit to F's entry for c and to E's exit."
abbrev pub closure_targets : ℕ → ℕ → Port → ℕ → List ℕ
closure_targets c x F b = entry_for F b ++ cond (eqb b c) (x ∷ []) []

abbrev pub closure_transitions : ℕ → Port → Port → List Transition
closure_transitions c E F =
    epsilons F.exit (entry_for F c ++ (E.exit ∷ [])) ++ entry_epsilons E.entries (closure_targets c E.exit F)

-- "for each symbol of rank above 0 in order, a symbol move from its exit in every part to its exit": those of a word with exit x, on
-- the symbols of entries of which the first has number s
unfoldable pub every_symbol : ℕ → ℕ → List ℕ → List Transition
every_symbol x s [] = []
every_symbol x s (w ∷ ws) =
    let rest = every_symbol x (suc s) ws in
    cond (eqb (entry_rank w) 0) rest (on_symbol s (replicate (entry_rank w) x) x ∷ rest)

-- "then each entry to its exit"
abbrev pub anything_targets : ℕ → ℕ → List ℕ
anything_targets x b = x ∷ []

-- anything over the alphabet a, with states E
abbrev pub anything_transitions : List ℕ → Port → List Transition
anything_transitions a E = every_symbol E.exit 0 a ++ entry_epsilons E.entries (anything_targets E.exit)

-- child i, where there is one
abbrev pub child_port : List Port → ℕ → Port
child_port Ps i = get_or Ps i (record { exit = 0; entries = [] })

-- the own transitions of a word of a kind, with its symbol, over its children
abbrev pub own_at : List ℕ → Kind → ℕ → Port → List Port → List Transition
own_at a symbol_kind s E Ps = symbol_transitions s E Ps
own_at a union_kind s E Ps = union_transitions E (child_port Ps 0) (child_port Ps 1)
own_at a product_kind s E Ps = product_transitions s E (child_port Ps 0) (child_port Ps 1)
own_at a closure_kind s E Ps = closure_transitions s E (child_port Ps 0)
own_at a anything_kind s E Ps = anything_transitions a E
own_at a empty_kind s E Ps = []
own_at a node_kind s E Ps = []
own_at a entry_kind s E Ps = []
own_at a head_kind s E Ps = []
own_at a transition_kind s E Ps = []
own_at a epsilon_kind s E Ps = []
own_at a source_kind s E Ps = []
own_at a length_kind s E Ps = []
own_at a no_kind s E Ps = []

-- the own transitions of word w
unfoldable pub own_transitions : List ℕ → ℕ → Port → List Port → List Transition
own_transitions a w E Ps = own_at a (kind_of w) (low_byte w) E Ps

-- "Rule words in order get consecutive states from 0": the states of the words, from state n on
unfoldable pub ports_from : List ℕ → ℕ → List ℕ → List Port
ports_from a n [] = []
ports_from a n (w ∷ ws) = port_of a n w ∷ ports_from a (n + states_of a w) ws

-- the first state behind those of the words
unfoldable pub states_after : List ℕ → ℕ → List ℕ → ℕ
states_after a n [] = n
states_after a n (w ∷ ws) = states_after a (n + states_of a w) ws

-- the own transitions of the words in order, from state n on, over a stack of their children's states
unfoldable pub transitions_from : List ℕ → ℕ → List ℕ → List Port → List Transition
transitions_from a n [] stack = []
transitions_from a n (w ∷ ws) stack =
    own_transitions a w (port_of a n w) (reverse (take (arity a w) stack))
    ++ transitions_from a (n + states_of a w) ws (port_of a n w ∷ drop (arity a w) stack)

-- the symbol moves of constants into entries, in the order of the entries
abbrev pub constant_transitions : List (ℕ × ℕ) → List Transition
constant_transitions entries = map (λ entry. on_symbol entry.0 [] entry.1) entries

-- the states of the last word
abbrev pub last_port : List ℕ → List ℕ → Port
last_port a e = child_port (ports_from a 0 e) (length e - 1)

-- "The table is the head, with the last word's exit as final state; the symbol moves of the constants into the last word's
-- entries, in symbol order; then for each rule word its symbol move .. and its empty moves"
unfoldable pub compiled : List ℕ → List ℕ → Automaton
compiled a e = record {
  states = states_after a 0 e;
  final = (last_port a e).exit;
  transitions = constant_transitions (last_port a e).entries ++ transitions_from a 0 e [];
}
