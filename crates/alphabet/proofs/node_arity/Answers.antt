-- `alphabet::node_arity` meets its contract: a node takes as many children as its symbol's rank.
use mathlib.Core.Path.{sym, ◌∙◌}
use Rattle.words.proofs.WordLaws.{arity-kind}
use Rattle.alphabet.proofs.node_arity.Goals as goal

pub returns : goal.returns
returns c = c.symbol_rank.ensures ∙ sym (arity-kind _ _ _ c.requires)
