-- `totals::listed::list_ancestors` meets its contract: before each turn the ancestors before node j are listed.
use borrow.Author.Rules.{rules}
use Rattle.totals.proofs.ListedAncestors.{listed-none, listed_at, listed_more, listed-count, listed-words}
use Rattle.totals.proofs.listed.list_ancestors.Goals as goal

pub loop-j-init : goal.loop-j-init
loop-j-init c = listed-none _ _ _ _ c.requires.inside

pub list_node-listed-requires : goal.list_node-listed-requires
list_node-listed-requires c =
    listed_at _ _ _ _ _ _ _ _ c.loop-j.invariant c.requires
    c.loop-j-test.true

pub loop-j-preserved : goal.loop-j-preserved
loop-j-preserved c =
    let node = c.list_node-listed in
    let at = listed_at _ _ _ _ _ _ _ _ c.loop-j.invariant c.requires c.loop-j-test.true in
    listed_more _ _ _ _ _ _ _ _ c.loop-j.invariant c.loop-j-test.true at.room _ _ _ node.ensures.reach
    node.ensures.found node.ensures.list (search rules)

pub shape_of-list : goal.shape_of-list
shape_of-list c = c.loop-j.invariant.long

pub returns : goal.returns
returns c =
    let inv = c.loop-j.invariant in
    record { answer = listed-count _ _ _ _ _ _ _ _ inv c.loop-j-test.false; list = listed-words _ _ _ _ _ _ _ _ inv c.loop-j-test.false }
