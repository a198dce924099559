-- `syntax::height::runs_height` meets its contract: three runs are read one after the other on one stack.
use native.Mathlib.Omega.{arith}
use borrow.Author.Rules.{rules}
use mathlib.Core.Path.{◌∙◌}
use Rattle.words.specs.Lists.{highest}
use Rattle.syntax.proofs.HeightStackLaws.{second-room, second-low, third-room, third-low, runs-top}
use Rattle.syntax.proofs.height.runs_height.Goals as goal

pub read-requires : goal.read-requires
unfolding highest
read-requires g c = let n = c.requires in (search rules, (omega arith, omega arith))

pub read-requires-2 : goal.read-requires-2
read-requires-2 g c =
    let n = c.requires in
    (search rules, (second-room _ _ _ _ _ _ n.room n.low c.read.ensures, second-low _ _ _ _ _ _ n.room n.low c.read.ensures))

pub read-requires-3 : goal.read-requires-3
read-requires-3 g c =
    let n = c.requires in
    (search rules, (third-room _ _ _ _ _ _ n.room n.low c.read.ensures _ c.read-2.ensures, third-low _ _ _ _ _ _ n.room n.low c.read.ensures _ c.read-2.ensures))

pub returns : goal.returns
returns g c = c.top.ensures ∙ runs-top _ _ _ _ _ _ c.requires.room c.requires.low c.read.ensures _ c.read-2.ensures _ c.read-3.ensures
