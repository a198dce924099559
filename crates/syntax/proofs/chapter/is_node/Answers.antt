-- `syntax::chapter::is_node` meets its contract: the kind and the spare bits decide, and then the symbol.
use mathlib.Core.Path.{◌∙◌, sym}
use Rattle.words.specs.Chapter.{is_node}
use Rattle.syntax.proofs.chapter.is_node.Goals as goal

pub returns-then-is_element : goal.returns-then-is_element
unfolding is_node
returns-then-is_element c = rw (sym c.is_element.ensures ∙ c.if-is_element.true)

pub returns-else-is_element : goal.returns-else-is_element
unfolding is_node
returns-else-is_element c = rw (c.if-is_element.false, sym c.is_element.ensures ∙ c.if-is_element.false)
