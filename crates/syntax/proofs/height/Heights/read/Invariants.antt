-- `syntax::height::Heights::read` meets its contract: the loop keeps that the stack is the one behind the words read so far.
use mathlib.Core.Path.{◌≡◌}
use lib.ListN.{take}
use Rattle.syntax.specs.HeightStack.{heights_after}
use Rattle.syntax.proofs.height.Heights.read.Given as goal

abbrev pub invariant-loop-w : goal.invariant-loop-w
invariant-loop-w g l = l.self ≡ heights_after l.alphabet (take l.w-index l.words) l.initial.self
