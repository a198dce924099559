-- `syntax::chapter::tree_fault` meets its contract: before each turn the words before word i are nodes and make `made` trees, so
-- that the words from i on decide.
use Rattle.syntax.proofs.ChapterLaws.{ChapterJudged}
use Rattle.syntax.proofs.chapter.tree_fault.Given as goal

abbrev pub invariant-loop-i : goal.invariant-loop-i
invariant-loop-i l = ChapterJudged l.alphabet l.words l.made l.i
