-- `closures::close_state` meets its contract: the closure is put into the empty set.
use Rattle.closures.proofs.KeptClosureLaws.{close-empty, close-end}
use Rattle.closures.proofs.close_state.Goals as goal

pub add_closure-requires : goal.add_closure-requires
add_closure-requires c = close-empty c.requires

pub returns : goal.returns
returns c = close-end c.add_closure.ensures
