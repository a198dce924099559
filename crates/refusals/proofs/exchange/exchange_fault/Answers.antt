-- `refusals::exchange::exchange_fault` meets its contract: it asks the conditions in their order, and so many elements are used as the
-- count says.
use native.Mathlib.Omega.{arith}
use Rattle.std.proofs.Common.{rules}
use Rattle.std.proofs.lemmas.Grind.{common_steps}
use Rattle.refusals.proofs.CountRefusalLaws.{used_length}
use Rattle.refusals.proofs.exchange.exchange_fault.Goals as goal

pub returns-in_err-bound : goal.returns-in_err-bound
returns-in_err-bound c = record { fault = grind (arith, common_steps, used_length); begins = search rules }

pub returns : goal.returns
returns c = record { fault = grind (arith, used_length); begins = search rules }
