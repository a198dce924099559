-- `syntax::postfix::subtree_start` meets its contract: before each turn the node's subtree begins where the trees that are still
-- needed before `start` begin.
use Rattle.words.specs.Postfix.{arity}
use Rattle.syntax.proofs.SpanLaws.{Backward}
use Rattle.syntax.proofs.postfix.subtree_start.Given as goal

abbrev pub invariant-loop-start : goal.invariant-loop-start
invariant-loop-start l = Backward (arity l.alphabet) l.words l.node l.start l.needed
