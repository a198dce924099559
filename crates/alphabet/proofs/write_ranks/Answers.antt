-- `alphabet::write_ranks` meets its contract: before each turn the ranks of the symbols before `symbol` are written, but for holes, and
-- the list is as it was from there on.
use native.Mathlib.Omega.{arith}
use borrow.Author.Rules.{rules}
use Rattle.alphabet.proofs.RankLaws.{ranks-none, ranks-more, ranks-end}
use Rattle.alphabet.proofs.write_ranks.Goals as goal

pub loop-symbol-init : goal.loop-symbol-init
loop-symbol-init c = ranks-none _ _

pub loop-symbol-preserved : goal.loop-symbol-preserved
loop-symbol-preserved c = ranks-more c.loop-symbol.invariant (search rules) (search rules) _ c.rank_unless_hole.ensures

pub returns : goal.returns
returns c = ranks-end c.loop-symbol.invariant (omega arith)
