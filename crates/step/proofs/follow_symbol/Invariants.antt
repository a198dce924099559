-- `step::follow_symbol` meets its contract: the words of the symbol's chain before the current one are followed.
use lib.ListN.{length}
use Rattle.closures.proofs.FollowLaws.{left}
use Rattle.step.proofs.SymbolLaws.{SymbolAt}
use Rattle.step.proofs.follow_symbol.Given as goal

abbrev pub invariant-loop-word : goal.invariant-loop-word
invariant-loop-word l =
    SymbolAt l.indexed.table.now l.indexed.index.now l.symbol
    l.children.size l.children.marks.now l.children.nodes.now
    l.closures l.pending l.set (length l.initial.pending) l.word

abbrev pub decreases-loop-word : goal.decreases-loop-word
decreases-loop-word l = left l.indexed.table.now l.word
