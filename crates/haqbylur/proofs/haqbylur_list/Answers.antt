-- `haqbylur::haqbylur_list` meets its contract: it answers and leaves what List does, and each value fits 32 bits.
use native.Mathlib.Omega.{arith}
use Rattle.haqbylur.proofs.AnswerValueLaws.{list-small}
use Rattle.haqbylur.proofs.haqbylur_list.Goals as goal

pub overflow_cast-hits : goal.overflow_cast-hits
overflow_cast-hits c = omega (arith, list-small _ _ _ _ _ _ c.in-Ok.is c.list-listed.ensures.answer)
