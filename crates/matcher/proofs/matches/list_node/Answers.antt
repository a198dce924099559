-- `matcher::matches::list_node` meets its contract: the node is a match exactly if its state set holds the final state.
use mathlib.Core.Path.{sym, ◌∙◌}
use native.Mathlib.Omega.{arith}
use Rattle.matcher.proofs.ListingLaws.{match-here, match_none}
use Rattle.matcher.proofs.matches.list_node.Goals as goal

pub returns-then-contains : goal.returns-then-contains
returns-then-contains c =
    let e = match-here c.args.last c.args.set.now c.args.node (sym c.contains.ensures ∙ c.if-contains.true) in record {
      answer = rw e;
      list = rw e;
    }

pub returns : goal.returns
returns c =
    let e = match_none c.args.last c.args.set.now c.args.node (sym c.contains.ensures ∙ c.if-contains.false) in record {
      answer = rw e (omega arith);
      list = rw e;
    }
