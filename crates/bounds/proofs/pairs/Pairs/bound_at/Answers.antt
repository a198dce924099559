-- `bounds::pairs::Pairs::bound_at` meets its contract: the last pair whose place is at most the given one has the bound.
use Rattle.std.proofs.Common.{ℕ, get_or, sym, ap, ◌∙◌}
use Rattle.bounds.specs.Pairs.{bounds_of, bound_at}
use Rattle.bounds.proofs.PairLaws.{bound_is}
use Rattle.bounds.proofs.pairs.Pairs.bound_at.Goals as goal

pub returns : goal.returns
unfolding bound_at
returns c =
    let pairs = c.args.self.now.pairs in
    sym (bound_is pairs c.last_at-last.result) ∙ ap (λ (k : ℕ). get_or (bounds_of pairs) k 0) c.last_at-last.ensures.same
