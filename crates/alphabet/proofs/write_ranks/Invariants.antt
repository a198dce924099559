-- `alphabet::write_ranks` meets its contract: before each turn the ranks of the symbols before `symbol` are written, but for holes, and
-- the list is as it was from there on.
use Rattle.alphabet.proofs.RankLaws.{RanksSoFar}
use Rattle.alphabet.proofs.write_ranks.Given as goal

abbrev pub invariant-loop-symbol : goal.invariant-loop-symbol
invariant-loop-symbol l = RanksSoFar l.alphabet l.initial.ranks l.ranks l.symbol
