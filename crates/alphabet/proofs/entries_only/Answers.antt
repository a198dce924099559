-- `alphabet::entries_only` meets its contract: the chain answers whether every word is an entry.
use borrow.Author.Rules.{rules}
use Rattle.words.specs.Alphabet.{is_entry}
use Rattle.words.proofs.ChainLaws.{all-told}
use Rattle.alphabet.proofs.entries_only.Goals as goal

pub returns : goal.returns
returns c = all-told is_entry c.args.alphabet.now c.all.result (search rules)
