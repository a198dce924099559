-- Ports (a word's exit and which entries it has), and an entry that may be missing. It serves the inner functions of Compile.
use Rattle.std.specs.Prelude.{ℕ, ◌+◌, ◌*◌, ◌<◌, ◌≡◌, List, [], ◌∷◌, map, length, get_or, Option, Some, None}
use Rattle.words.specs.Word.{count_range}
use Rattle.automaton.specs.Numbering.{Port as States, numbered, full_entries, exit_entry, lookup, entry_for, child_port}
use Rattle.ports.specs.declared.states.Port.{Port}
use Rattle.ports.specs.declared.states.Entries.{Entries}
use Rattle.ports.specs.declared.states.Entries.TheVariants.{Every, Single, Missing}

-- an exit has as many bits as a state count
abbrev pub exit_range : ℕ
exit_range = count_range

-- the entries that are said of a word with exit x
abbrev pub entries_in : List ℕ → ℕ → Entries → List (ℕ × ℕ)
entries_in cs x Every = full_entries cs x
entries_in cs x (Single c) = exit_entry c x
entries_in cs x Missing = []

abbrev pub exit_in : Port → ℕ
exit_in p = p.exit

abbrev pub code_in : Port → Entries
code_in p = p.entries

-- the states that a port stands for
abbrev pub port_in : List ℕ → Port → States
port_in cs p = record { exit = exit_in p; entries = entries_in cs (exit_in p) (code_in p) }

-- the exits of a word's children, from left to right, and their ports
abbrev pub exits_in : List Port → List ℕ
exits_in ps = map (λ p. exit_in p) ps

abbrev pub ports_in : List ℕ → List Port → List States
ports_in cs ps = map (port_in cs) ps

-- the port of the child with index i
abbrev pub child_in : List ℕ → List Port → ℕ → States
child_in cs ps i = child_port (ports_in cs ps) i

-- where a word with exit x has an entry for each constant: the state of the one for the constant with index k
abbrev pub entry_state : ℕ → ℕ → ℕ
entry_state x k = x + 1 + k

-- each constant is found at its own index: none stands twice
abbrev pub EachOnce : List ℕ → Type 0
EachOnce cs = (n k : ℕ) → k < length cs → lookup (numbered n cs) (get_or cs k 0) ≡ (n + k) ∷ []

-- the states of an entry: one, or none where it is missing
abbrev pub states_of_entry : Option ℕ → List ℕ
states_of_entry None = []
states_of_entry (Some s) = s ∷ []

-- the states of a port, its exit and the few entries behind it, stay below this number
abbrev pub entry_range : ℕ
entry_range = 2 * exit_range

abbrev pub Low : Option ℕ → Type 0
Low None = Unit {0}
Low (Some s) = s < entry_range

-- the entry of port p for a constant
pub record EntryRead (cs : List ℕ) (p : Port) (c : ℕ) (r : Option ℕ) : Type 0 where
  pub states : states_of_entry r ≡ entry_for (port_in cs p) c
  pub low : Low r
