-- `bounds::pairs::Pairs::last_at` meets its contract: before each turn the pair looked for is below the one at k, or is the first.
use Rattle.std.proofs.Common.{◌-◌, ◌≤◌}
use Rattle.bounds.specs.Pairs.{places_of}
use Rattle.bounds.proofs.PairLaws.{Looking}
use Rattle.bounds.proofs.pairs.Pairs.last_at.Given as goal

abbrev pub invariant-loop-k : goal.invariant-loop-k
invariant-loop-k l = (1 ≤ l.k) × Looking (places_of l.self.pairs) l.place l.top (l.k - 1)
