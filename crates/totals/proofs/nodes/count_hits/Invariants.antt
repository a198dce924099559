-- `totals::nodes::count_hits` meets its contract: before each turn the hits before node i are counted.
use Rattle.totals.proofs.HitLaws.{Counting}
use Rattle.totals.proofs.nodes.count_hits.Given as goal

abbrev pub invariant-loop-i : goal.invariant-loop-i
invariant-loop-i l = Counting l.marks l.size l.last l.from l.to l.hits l.i
