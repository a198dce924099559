-- `exchanger::tail::move_tail` meets its contract: the two steps leave what the definition of a slice with other words in use says.
use Rattle.exchanger.proofs.TailLaws.{tail-moved}
use Rattle.exchanger.proofs.tail.move_tail.Goals as goal

pub returns : goal.returns
returns c =
    tail-moved _ _ _ _ c.requires _ _ c.move_words.ensures c.clear_words.ensures
