-- `syntax::chapter::is_element` meets its contract: of a word of the kind the spare bits decide, and no other word is one.
use borrow.Author.Rules.{rules}
use Rattle.syntax.proofs.ChapterLaws.{node_left}
use Rattle.syntax.proofs.chapter.is_element.Goals as goal

pub returns-in_default : goal.returns-in_default
returns-in_default c = node_left _ _ c.kind_of-kind.ensures (search rules)
