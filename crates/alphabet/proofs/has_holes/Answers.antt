-- `alphabet::has_holes` meets its contract: the chain answers whether some word has a mark.
use borrow.Author.Rules.{rules}
use Rattle.words.specs.Alphabet.{marks_hole, has_holes}
use Rattle.words.proofs.ChainLaws.{some-told}
use Rattle.alphabet.proofs.has_holes.Goals as goal

pub returns : goal.returns
unfolding has_holes
returns c = some-told marks_hole c.args.alphabet.now c.any.result (search rules)
