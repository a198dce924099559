-- `syntax::postfix::subtree_span` meets its contract: the words from the start up to the node are its subtree's.
use Rattle.syntax.proofs.SpanLaws.{span-missing, span-is}
use Rattle.syntax.proofs.postfix.subtree_span.Goals as goal

pub returns-then-node-words : goal.returns-then-node-words
returns-then-node-words c = span-missing _ _ _ c.if-node-words.true

pub returns : goal.returns
returns c = span-is _ _ _ _ c.subtree_start-start.ensures.start _ c.words_height-height.ensures
