-- `matcher::tree::mark_chapter` meets its contract: the nodes marked one after the other leave the state sets of the tree, and the
-- totals are those of the sets stored then.
use Rattle.matcher.proofs.RunCallLaws.{workable, tree-updatable, run-left, run-countable, run-totals}
use Rattle.matcher.proofs.tree.mark_chapter.Goals as goal

pub update_marks-requires : goal.update_marks-requires
update_marks-requires c = tree-updatable (workable _ _ _ c.args.marks.now c.requires)

pub nodes_totals-requires : goal.nodes_totals-requires
nodes_totals-requires c = run-countable _ _ _ _ c.requires _ _ c.update_marks.ensures

pub returns : goal.returns
returns c = record {
  answer = run-totals _ _ _ _ c.requires _ _ c.update_marks.ensures _ c.nodes_totals.ensures;
  marks = run-left _ _ _ _ c.requires _ _ c.update_marks.ensures;
}
