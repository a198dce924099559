-- `emitter::anything::push_on_symbol` meets its contract: a constant has no move, and any other symbol one from the exit in every part.
use mathlib.Core.Path.{sym, ◌∙◌}
use Rattle.words.specs.Alphabet.{rank_of}
use Rattle.emitter.proofs.AnythingLaws.{on-constant, on-symbol}
use Rattle.emitter.proofs.anything.push_on_symbol.Goals as goal

pub returns-then-children-eq0-clause-written : goal.returns-then-children-eq0-clause-written
unfolding rank_of
returns-then-children-eq0-clause-written c = on-constant _ _ _ _ _ (sym c.rank-children.ensures ∙ c.if-children-eq0.true)

pub returns-clause-written : goal.returns-clause-written
unfolding rank_of
returns-clause-written c =
    let rank = c.rank-children.ensures in
    on-symbol _ _ _ _ _ (λ z. c.if-children-eq0.false (rank ∙ z)) _ rank _ _ _ _ c.push_transition.ensures.written
    c.push_exits.ensures.written
