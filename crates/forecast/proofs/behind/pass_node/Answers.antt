-- `forecast::behind::pass_node` meets its contract: the stored set is put on the array, or the one that is worked out.
use borrow.Author.Tests.{not-true, not-false}
use Rattle.forecast.proofs.StepSetLaws.{step-kind}
use Rattle.forecast.proofs.TreeLaws.{value-front, value-inside, value-size, value-short}
use Rattle.forecast.proofs.PassLaws.{pass-small, pass-addable, pass-stored-addable, pass-puttable}
use Rattle.forecast.proofs.PassLaws.{pass-beside, pass-stored, pass-worked}
use Rattle.forecast.proofs.behind.pass_node.Goals as goal

pub node_arity-children-requires : goal.node_arity-children-requires
node_arity-children-requires c = step-kind c.requires.step

pub put-requires : goal.put-requires
put-requires c =
    pass-puttable c.requires _ c.node_arity-children.ensures

pub returns-then-children-reach : goal.returns-then-children-reach
returns-then-children-reach c =
    let g = c.requires in
    record {
      passed =
          pass-beside g _ c.node_arity-children.ensures _ c.put.ensures.height
          c.put.ensures.sets c.if-children-reach.true;
      kept = g.step.kept;
    }

pub put-requires-then-not-passing : goal.put-requires-then-not-passing
put-requires-then-not-passing c =
    pass-puttable c.requires _ c.node_arity-children.ensures

pub add_set-requires : goal.add_set-requires
add_set-requires c =
    pass-stored-addable c.requires

pub returns-then-not-passing : goal.returns-then-not-passing
returns-then-not-passing c =
    let g = c.requires in
    let put = c.put-then-not-passing.ensures in
    record {
      passed =
          pass-stored g _ c.node_arity-children.ensures _ put.height put.sets c.if-children-reach.false
          (not-true _ c.if-not-passing.true) _ c.add_set.ensures.answer c.add_set.ensures.plausible;
      kept = g.step.kept;
    }

pub slice_bounds-set-end : goal.slice_bounds-set-end
slice_bounds-set-end c =
    value-inside _ _ (pass-small c.requires) _ _ _ c.step-set.ensures.answer _ c.set_size-size.ensures

pub slice_bounds-same_words-end : goal.slice_bounds-same_words-end
slice_bounds-same_words-end c =
    value-size _ _ (pass-small c.requires) _ _ _ c.step-set.ensures.answer _ c.set_size-size.ensures

pub slice_bounds-set-end-2 : goal.slice_bounds-set-end-2
slice_bounds-set-end-2 c =
    value-inside _ _ (pass-small c.requires) _ _ _ c.step-set.ensures.answer _ c.set_size-size.ensures

pub slice_bounds-add_set-end : goal.slice_bounds-add_set-end
slice_bounds-add_set-end c =
    value-size _ _ (pass-small c.requires) _ _ _ c.step-set.ensures.answer _ c.set_size-size.ensures

pub add_set-requires-2 : goal.add_set-requires-2
add_set-requires-2 c =
    pass-addable c.requires _ (value-short _ _ (pass-small c.requires) _ _ _ c.step-set.ensures.answer _ c.set_size-size.ensures)

pub returns : goal.returns
returns c =
    let set = c.step-set.ensures in
    record {
      passed =
          pass-worked c.requires _ c.node_arity-children.ensures c.if-children-reach.false (not-false _ c.if-not-passing.false)
          set.height set.sets _ (value-front _ _ (pass-small c.requires) _ _ _ set.answer _ c.set_size-size.ensures)
          _ c.same_words-same.ensures _ c.add_set-2.ensures.answer c.add_set-2.ensures.plausible;
      kept = set.kept;
    }
