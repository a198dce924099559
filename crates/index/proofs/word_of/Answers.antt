-- `index::word_of` meets its contract: only 0 ends a chain.
use Rattle.index.proofs.ChainLaws.{chain-end, chain-goes}
use Rattle.index.proofs.word_of.Goals as goal

pub returns-then-number-eq0 : goal.returns-then-number-eq0
returns-then-number-eq0 c = chain-end _ c.if-number-eq0.true

pub returns : goal.returns
returns c = chain-goes _ c.if-number-eq0.false
