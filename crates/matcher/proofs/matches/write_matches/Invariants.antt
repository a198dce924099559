-- The matches among the nodes before this one are written.
use Rattle.matcher.proofs.ListingLaws.{FoundMatches}
use Rattle.matcher.proofs.matches.write_matches.Given as goal

abbrev pub invariant-loop-node : goal.invariant-loop-node
invariant-loop-node l = FoundMatches l.table l.marks l.initial.list l.list l.found l.node
