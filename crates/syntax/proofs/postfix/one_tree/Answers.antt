-- `syntax::postfix::one_tree` meets its contract: before each turn the words that are left, after the trees so far, make one tree
-- exactly if all words do.
use mathlib.Core.Path.{◌∙◌, sym}
use native.Mathlib.Omega.{arith}
use Rattle.words.proofs.ScanLaws.{trees-lacks, trees-continues, trees-end}
use Rattle.syntax.proofs.postfix.one_tree.Goals as goal

pub returns-then-made-children : goal.returns-then-made-children
returns-then-made-children c =
    sym (c.loop-w.invariant.same ∙ trees-lacks _ _ _ _ _ _ c.loop-w-test.true c.arity-children.ensures c.if-made-children.true)

pub loop-w-preserved : goal.loop-w-preserved
loop-w-preserved c = record {
  below = omega (arith, c.loop-w.invariant);
  same = c.loop-w.invariant.same ∙ trees-continues _ _ _ _ _ _ c.loop-w-test.true c.arity-children.ensures c.if-made-children.false;
}

pub returns : goal.returns
returns c = sym (c.loop-w.invariant.same ∙ trees-end _ _ _ _ _ c.loop-w-test.false)
