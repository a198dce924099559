-- `syntax::chapter::nodes_only` meets its contract: the chain answers whether every word is a node.
use borrow.Author.Rules.{rules}
use Rattle.words.specs.Chapter.{is_node}
use Rattle.words.proofs.ChainLaws.{all-told}
use Rattle.syntax.proofs.chapter.nodes_only.Goals as goal

pub returns : goal.returns
returns c = all-told (is_node c.args.alphabet.now) c.args.words.now c.all.result (search rules)
