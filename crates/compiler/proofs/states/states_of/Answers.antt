-- `compiler::states::states_of` meets its contract: a word with entries has one for each constant.
use mathlib.Core.Path.{◌∙◌, sym}
use native.Mathlib.Omega.{arith}
use Rattle.automaton.proofs.EntryStates.{states-full, states-leaf}
use Rattle.compiler.proofs.states.states_of.Goals as goal

pub returns-then-has_entries : goal.returns-then-has_entries
returns-then-has_entries c =
    let p = c.requires in
    let few = p.few in
    let full = states-full _ _ (sym c.has_entries.ensures ∙ c.if-has_entries.true) in
    (omega (arith, p.constants, full), omega arith)

pub returns : goal.returns
returns c = (sym (states-leaf _ _ (sym c.has_entries.ensures ∙ c.if-has_entries.false)), omega arith)
