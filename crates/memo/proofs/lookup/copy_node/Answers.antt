-- `memo::lookup::copy_node` meets its contract: one word is as many words as its index says.
use Rattle.memo.proofs.NodeWritingLaws.{one-copied}
use Rattle.memo.proofs.lookup.copy_node.Goals as goal

pub returns-then-size-eq1 : goal.returns-then-size-eq1
returns-then-size-eq1 c =
    one-copied _ _ _ _ c.requires c.if-size-eq1.true _ c.copy_set.ensures
