-- `bounds::runs::tree_bound` meets its contract: before each run the words so far are nodes, and the pairs bound the height of each tree
-- that they make.
use Rattle.std.proofs.Common.{◌≡◌, ◌*◌, length}
use Rattle.std.specs.Slice.Iter.{chunks_rest, chunks_size}
use Rattle.bounds.specs.Runs.{run_most}
use Rattle.bounds.proofs.CoverLaws.{RunsSoFar}
use Rattle.bounds.proofs.runs.tree_bound.Given as goal

abbrev pub invariant-loop-run : goal.invariant-loop-run
invariant-loop-run l =
    (chunks_size l.run-iterator ≡ run_most)
    × RunsSoFar l.ranks l.words l.pairs l.made (length l.yielded * run_most) (chunks_rest l.run-iterator)
