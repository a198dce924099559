-- `totals::listed::list_node` meets its contract: the arity tells whether the node is an ancestor.
use Prim.Native.Nat.{◌+◌, ◌≤◌}
use native.Mathlib.Omega.{arith}
use lib.ListN.{length}
use Rattle.totals.proofs.ListedAncestors.{reach-beside, number-beside, reach-ancestor, number-ancestor}
use Rattle.totals.proofs.listed.list_node.Goals as goal

pub returns-then-children-reach : goal.returns-then-children-reach
returns-then-children-reach c =
    let args = c.args in
    let children = c.node_arity-children.ensures in
    let e = number-beside args.alphabet.now args.nodes.now args.j args.listed.reach _ children c.if-children-reach.true in
    record {
      reach = reach-beside _ _ _ _ _ children c.if-children-reach.true;
      found = rw e (omega arith);
      list = rw e;
    }

pub bounds-list-found : goal.bounds-list-found
bounds-list-found c =
    let args = c.args in
    let e =
    number-ancestor args.alphabet.now args.nodes.now args.j args.listed.reach _ c.node_arity-children.ensures
    c.if-children-reach.false in
    let room : args.listed.found + 1 ≤ length args.list.now = rw e at c.requires.room in
    omega arith

pub returns : goal.returns
returns c =
    let args = c.args in
    let children = c.node_arity-children.ensures in
    let e = number-ancestor args.alphabet.now args.nodes.now args.j args.listed.reach _ children c.if-children-reach.false in
    record { reach = reach-ancestor _ _ _ _ _ children c.if-children-reach.false; found = rw e; list = rw e }
