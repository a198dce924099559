-- `bounds::pairs::Pairs::last_at` meets its contract: before each turn the pair looked for is below the one at k, or is the first.
use Rattle.std.proofs.Common.{◌≡◌, ◌+◌, ◌-◌, arith}
use Rattle.bounds.proofs.PairLaws.{place_at, looking-none, looking-found, looking-more, looking-end}
use Rattle.bounds.proofs.pairs.Pairs.last_at.Goals as goal

pub loop-k-init : goal.loop-k-init
loop-k-init c = let e : c.args.self.now.top + 1 - 1 ≡ c.args.self.now.top = omega arith in (omega arith, rw e (looking-none _ _ _))

pub returns-then-self-k : goal.returns-then-self-k
returns-then-self-k c =
    let more = c.loop-k-test.true in
    looking-found c.loop-k.invariant.1 (omega arith) (rw (place_at c.args.self.now.pairs (c.loop-k.k - 1)) c.if-self-k.true)

pub loop-k-preserved : goal.loop-k-preserved
loop-k-preserved c =
    let more = c.loop-k-test.true in (
      omega arith,
      looking-more c.loop-k.invariant.1 (omega arith) (rw (place_at c.args.self.now.pairs (c.loop-k.k - 1)) c.if-self-k.false),
    )

pub returns : goal.returns
returns c = let ended = c.loop-k-test.false in looking-end c.loop-k.invariant.1 (omega arith)
