-- `memo::key::step_key` meets its contract: the number fits.
use native.Mathlib.Omega.{arith}
use Rattle.memo.proofs.KeyLaws.{key-few, key-is}
use Rattle.memo.proofs.key.step_key.Goals as goal

pub overflow_mul-result : goal.overflow_mul-result
overflow_mul-result c = omega (arith, key-few c.requires, c.pack.ensures)

pub overflow_add-result : goal.overflow_add-result
overflow_add-result c = omega (arith, key-few c.requires, c.pack.ensures, c.from.ensures)

pub overflow_add-result-2 : goal.overflow_add-result-2
overflow_add-result-2 c = omega (arith, key-few c.requires, c.pack.ensures, c.from.ensures)

pub returns : goal.returns
returns c = rw c.from.ensures (key-is _ _ _ c.pack.ensures)
