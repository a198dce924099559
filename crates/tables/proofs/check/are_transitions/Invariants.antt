-- `tables::check::are_transitions` meets its contract: before each word the rest is judged as the whole was.
use Rattle.tables.proofs.TableScanLaws.{Checked}
use Rattle.tables.proofs.check.are_transitions.Given as goal

abbrev pub invariant-loop-word : goal.invariant-loop-word
invariant-loop-word l = Checked l.alphabet l.states l.moves l.left l.word-index
