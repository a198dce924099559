-- `closures::add_closure` meets its contract: the state is put into the set, and all that waits is followed.
use Rattle.closures.proofs.KeptClosureLaws.{add-puttable, add-stack, add-end}
use Rattle.closures.proofs.add_closure.Goals as goal

pub put_state-requires : goal.put_state-requires
put_state-requires c = add-puttable c.requires

pub follow_pending-requires : goal.follow_pending-requires
follow_pending-requires c = record {
  checked =
      c.requires.closable.checked;
  stack =
      add-stack c.requires
      c.put_state.ensures.put;
}

pub returns : goal.returns
returns c =
    add-end c.requires
    c.put_state.ensures.put
    c.follow_pending.ensures.followed
