-- `syntax::height::Heights::read` meets its contract: the loop keeps that the stack is the one behind the words read so far.
use borrow.Author.Rules.{rules}
use Rattle.syntax.proofs.HeightStackLaws.{read-none, read-room, read-low, read-more, read-end}
use Rattle.syntax.proofs.height.Heights.read.Goals as goal

pub loop-w-init : goal.loop-w-init
loop-w-init g c = read-none c.args.alphabet.now c.args.words.now c.args.self.now

pub push-requires : goal.push-requires
push-requires g c = (
  search rules,
  (
    read-room _ _ _ _ _ c.loop-w.invariant c.loop-w-test.true _ c.requires.room,
    read-low _ _ _ _ _ c.loop-w.invariant c.loop-w-test.true _ c.requires.low,
  ),
)

pub loop-w-preserved : goal.loop-w-preserved
loop-w-preserved g c = read-more _ _ _ _ _ c.loop-w.invariant c.loop-w-test.true _ c.push.ensures

pub returns : goal.returns
returns g c = read-end _ _ _ _ _ c.loop-w.invariant c.loop-w-test.false
