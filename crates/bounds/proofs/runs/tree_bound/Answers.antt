-- `bounds::runs::tree_bound` meets its contract: before each run the words so far are nodes, and the pairs bound the height of each tree
-- that they make.
use Rattle.std.proofs.Common.{◌≡◌, ◌+◌, ◌*◌, [], ◌∷◌, ◌++◌, length, length-append, arith, ◌∙◌}
use Rattle.bounds.specs.Runs.{run_most}
use Rattle.bounds.proofs.CoverLaws.{runs_none, run_room, pairs_puttable, runs_more, runs_end}
use Rattle.bounds.proofs.runs.tree_bound.Goals as goal

pub loop-run-init : goal.loop-run-init
loop-run-init c =
    rw c.into_iter-run-iterator.ensures.into_iter_gives
    (c.chunks-run-items.ensures.size, runs_none _ _ _ c.new-pairs.ensures _ c.chunks-run-items.ensures.rest)

pub read_run-requires : goal.read_run-requires
read_run-requires c =
    let steps = c.in-Some.ensures.steps in
    run_room c.loop-run.invariant.1 c.requires _ _ steps.1.0 (rw c.loop-run.invariant.0 at steps.1.1) steps.1.2

pub put_run-requires : goal.put_run-requires
put_run-requires c =
    let steps = c.in-Some.ensures.steps in
    pairs_puttable c.loop-run.invariant.1 c.requires _ _ steps.1.0 (rw c.loop-run.invariant.0 at steps.1.1) steps.1.2 _
    c.in_ok-figures.ensures

pub loop-run-preserved : goal.loop-run-preserved
loop-run-preserved c =
    let steps = c.in-Some.ensures.steps in
    let size = c.loop-run.invariant.0 in
    let more : length (c.loop-run.yielded ++ c.in-Some.run' ∷ []) * run_most ≡ length c.loop-run.yielded * run_most + run_most =
    omega (arith, length-append c.loop-run.yielded (c.in-Some.run' ∷ [])) in (
      steps.0 ∙ size,
      rw more
          (runs_more c.loop-run.invariant.1 c.requires _ _ steps.1.0 (rw size at steps.1.1) steps.1.2 _ c.in_ok-figures.ensures _
          c.put_run.ensures),
    )

pub returns : goal.returns
returns c = runs_end c.loop-run.invariant.1 c.requires c.in-None.ensures.steps.1.0 c.if-made-gt1.false _ c.bound_at.ensures
