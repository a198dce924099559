-- `closures::KeptClosures::keep` meets its contract: the row has the closure already, is another state's, or gets it.
use native.Mathlib.Omega.{arith}
use Rattle.closures.proofs.FollowLaws.{states-most}
use Rattle.closures.proofs.KeptClosureLaws.{keep_known, keep-other, keep-new}
use Rattle.closures.proofs.KeptClosures.keep.Goals as goal

pub overflow_cast-owner : goal.overflow_cast-owner
overflow_cast-owner c = omega (arith, c.requires.closable.state, states-most c.requires.closable.checked)

pub overflow_add-owner : goal.overflow_add-owner
overflow_add-owner c = omega (arith, c.requires.closable.state, states-most c.requires.closable.checked)

pub returns-then-found-owner : goal.returns-then-found-owner
returns-then-found-owner c = keep_known c.requires c.if-found-owner.true

pub returns-then-found-ne0 : goal.returns-then-found-ne0
returns-then-found-ne0 c = keep-other c.requires

pub returns : goal.returns
returns c =
    keep-new c.requires c.close_state-closure.ensures
    c.write_set_at.ensures
