-- `step::follow_symbol` meets its contract: the words of the symbol's chain before the current one are followed.
use borrow.Author.Rules.{rules}
use Rattle.step.proofs.SymbolLaws.{symbol-first, symbol-inside, symbol-at, symbol-less, symbol-more, symbol_end}
use Rattle.step.proofs.follow_symbol.Goals as goal

pub loop-word-init : goal.loop-word-init
loop-word-init c = rw c.first-word.ensures (symbol-first c.requires)

pub follow_transition-requires : goal.follow_transition-requires
follow_transition-requires c =
    symbol-at c.loop-word.invariant c.in-Some.is

pub next-word-requires-clause-inside : goal.next-word-requires-clause-inside
next-word-requires-clause-inside c = symbol-inside c.loop-word.invariant c.in-Some.is

pub loop-word-smaller : goal.loop-word-smaller
loop-word-smaller c = rw (c.next-word.ensures, c.in-Some.is) (symbol-less c.loop-word.invariant c.in-Some.is)

pub loop-word-preserved : goal.loop-word-preserved
loop-word-preserved c =
    rw c.next-word.ensures
    (symbol-more c.loop-word.invariant c.in-Some.is (search rules) c.follow_transition.ensures)

pub returns : goal.returns
returns c = symbol_end c.loop-word.invariant c.in_default.is
