-- `syntax::chapter::tree_fault` meets its contract: before each turn the words before word i are nodes and make `made` trees, so
-- that the words from i on decide.
use mathlib.Core.Path.{◌∙◌, sym}
use Rattle.words.specs.Chapter.{tree_refusals}
use Rattle.words.proofs.RefusalLaws.{found-refusal}
use Rattle.words.proofs.WordLaws.{is_node-facts}
use Rattle.syntax.proofs.ChapterLaws.{judged-none, judged-no-node, judged-lacks}
use Rattle.syntax.proofs.ChapterLaws.{judged-later, judged-more, judged-one, judged-not-one}
use Rattle.syntax.proofs.chapter.tree_fault.Goals as goal

pub loop-i-init : goal.loop-i-init
loop-i-init c = judged-none _ _

pub returns-then-not-is_node : goal.returns-then-not-is_node
returns-then-not-is_node c =
    found-refusal (tree_refusals _ _)
    (judged-no-node c.loop-i.invariant c.loop-i-test.true (sym c.is_node.ensures ∙ c.if-not-is_node.true))

pub node_arity-children-requires : goal.node_arity-children-requires
node_arity-children-requires c = (is_node-facts _ _ (sym c.is_node.ensures ∙ c.if-not-is_node.false)).kind

pub returns-then-not-nodes_only : goal.returns-then-not-nodes_only
returns-then-not-nodes_only c =
    found-refusal (tree_refusals _ _) (judged-later c.loop-i.invariant _ c.nodes_only.ensures c.if-not-nodes_only.true)

pub returns-then-made-children : goal.returns-then-made-children
returns-then-made-children c =
    found-refusal (tree_refusals _ _)
    (judged-lacks c.loop-i.invariant c.loop-i-test.true (sym c.is_node.ensures ∙ c.if-not-is_node.false) _
    c.node_arity-children.ensures c.if-made-children.true _ c.nodes_only.ensures c.if-not-nodes_only.false)

pub loop-i-preserved : goal.loop-i-preserved
loop-i-preserved c =
    judged-more c.loop-i.invariant c.loop-i-test.true (sym c.is_node.ensures ∙ c.if-not-is_node.false) _
    c.node_arity-children.ensures c.if-made-children.false

pub returns-then-made-eq1 : goal.returns-then-made-eq1
returns-then-made-eq1 c =
    found-refusal (tree_refusals _ _) (judged-one c.loop-i.invariant c.loop-i-test.false c.if-made-eq1.true)

pub returns : goal.returns
returns c =
    found-refusal (tree_refusals _ _) (judged-not-one c.loop-i.invariant c.loop-i-test.false c.if-made-eq1.false)
