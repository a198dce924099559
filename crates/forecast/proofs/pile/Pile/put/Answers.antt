-- `forecast::pile::Pile::put` meets its contract: the set is written behind those that stay, and the rest of the stack is as it was.
use mathlib.Core.Path.{refl}
use native.Mathlib.Omega.{arith}
use Rattle.forecast.proofs.StackInLaws.{put-inside, put_small, put-stack}
use Rattle.forecast.proofs.pile.Pile.put.Goals as goal

pub overflow_mul-below : goal.overflow_mul-below
overflow_mul-below c = let l = put_small c.requires in omega arith

pub write_set_at-requires : goal.write_set_at-requires
write_set_at-requires c = put-inside c.requires

pub returns : goal.returns
returns c = record { height = refl; sets = put-stack c.requires _ refl _ c.write_set_at.ensures }
