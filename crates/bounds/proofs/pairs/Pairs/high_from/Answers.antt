-- `bounds::pairs::Pairs::high_from` meets its contract: `high` and the bounds to come have the highest of all.
use Rattle.std.proofs.Common.{ℕ, max, List, ap, ◌∙◌}
use Rattle.words.specs.Lists.{highest}
use Rattle.bounds.specs.Runs.{run_most}
use Rattle.bounds.proofs.PairLaws.{high_none, high_more, high_end, bounds-part}
use Rattle.bounds.proofs.pairs.Pairs.high_from.Goals as goal

pub loop-pair-init : goal.loop-pair-init
loop-pair-init c = high_none _

pub loop-pair-preserved : goal.loop-pair-preserved
loop-pair-preserved c = high_more c.loop-pair.invariant _ c.loop-pair-test.true c.higher-high.ensures

pub returns : goal.returns
returns c =
    high_end c.loop-pair.invariant c.loop-pair-test.false
    ∙ ap (λ (l : List ℕ). max run_most (highest l)) (bounds-part c.args.self.now.pairs c.args.first c.args.self.now.top)
