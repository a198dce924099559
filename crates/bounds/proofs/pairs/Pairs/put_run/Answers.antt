-- `bounds::pairs::Pairs::put_run` meets its contract: the pairs up to the last whose place is at most `fewest` stay, the highest bound
-- from there on holds for every tree that the run can take, and two stores put the new pairs behind it.
use Rattle.std.proofs.Common.{◌≡◌, length, arith, refl, rules}
use Rattle.bounds.proofs.PairLaws.{put_low, put_done}
use Rattle.bounds.proofs.pairs.Pairs.put_run.Goals as goal

pub overflow_add-self : goal.overflow_add-self
overflow_add-self c =
    let long : length c.args.self.now.pairs ≡ 130 = search rules in
    omega (arith, put_low _ _ _ c.requires long _ c.last_at-last.ensures _ c.high_from-high.ensures)

pub returns : goal.returns
returns c =
    let long : length c.args.self.now.pairs ≡ 130 = search rules in
    put_done _ _ _ c.requires long _ c.last_at-last.ensures _ c.high_from-high.ensures _ refl refl
