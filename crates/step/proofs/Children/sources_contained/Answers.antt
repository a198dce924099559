-- `step::Children::sources_contained` meets its contract: before each child, what is left is judged as the whole was.
use Rattle.step.proofs.SourceSetLaws.{sources-held-none}
use Rattle.step.proofs.SourceSetLaws.{sources-held-more, sources-held-fails, sources-held-end, row-contains}
use Rattle.step.proofs.Children.sources_contained.Goals as goal

pub loop-k-init : goal.loop-k-init
loop-k-init c = sources-held-none c.requires

pub returns-then-not-contains : goal.returns-then-not-contains
returns-then-not-contains c =
    sources-held-fails c.loop-k.invariant c.loop-k-test.true _ (row-contains _ _ _ _ _ c.contains.ensures)
    c.if-not-contains.true

pub loop-k-preserved : goal.loop-k-preserved
loop-k-preserved c =
    sources-held-more c.loop-k.invariant c.loop-k-test.true _ (row-contains _ _ _ _ _ c.contains.ensures)
    c.if-not-contains.false

pub returns : goal.returns
returns c = sources-held-end c.loop-k.invariant c.loop-k-test.false
