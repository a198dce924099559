-- `emitter::entries::push_to_children` meets its contract: before each turn the transitions to the first i children are written.
use mathlib.Core.Path.{refl, ◌∙◌}
use lib.ListN.{get_or}
use Rattle.emitter.proofs.EntryLaws.{children-none, children-more}
use Rattle.emitter.proofs.entries.push_to_children.Goals as goal

pub loop-port-init : goal.loop-port-init
loop-port-init c = record { same_slice = refl; written = children-none _ _ _ _ _ _ }

pub loop-port-preserved : goal.loop-port-preserved
loop-port-preserved c =
    let a = c.args in
    record {
      same_slice = c.push_to.ensures.same_slice ∙ c.loop-port.invariant.same_slice;
      written = children-more a.word.now.constants.now a.word.now.ports.now c.entry_state-from.result (get_or a.word.now.constants.now a.k 0) c.loop-port.invariant.written _ _ _ _ c.loop-port-test.true c.port-item.is c.entry_at.ensures c.push_to.ensures.written;
    }
