-- `haqbylur::haqbylur_compile` meets its contract: it answers and leaves what Compile does, and each value fits 32 bits.
use native.Mathlib.Omega.{arith}
use Rattle.haqbylur.proofs.AnswerValueLaws.{compile-small}
use Rattle.haqbylur.proofs.haqbylur_compile.Goals as goal

pub overflow_cast-words : goal.overflow_cast-words
overflow_cast-words c = omega (arith, compile-small _ _ _ _ c.in-Ok.is c.compile-compiled.ensures.answer)
