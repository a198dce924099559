-- `marklist::answer_input` meets its contract: the counts say how many words follow, and what it lends of each slice are the words
-- that make a difference.
use Rattle.marklist.proofs.PrintedLaws.{answered}
use Rattle.marklist.proofs.answer_input.Goals as goal

pub returns : goal.returns
returns c =
    answered _ _ _ _ _ _ c.is_ok.ensures.value c.read_parts-read.ensures
    c.kept_words.ensures c.kept_words-2.ensures c.kept_words-3.ensures c.report.ensures.answer c.report.ensures.out
