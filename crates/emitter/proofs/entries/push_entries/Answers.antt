-- `emitter::entries::push_entries` meets its contract: before each turn the transitions for the first k constants are written.
use mathlib.Core.Path.{◌∙◌}
use Rattle.emitter.proofs.EntryEpsilonLaws.{entries_written-more}
use Rattle.emitter.proofs.entries.push_entries.Goals as goal

pub loop-k-preserved : goal.loop-k-preserved
loop-k-preserved c =
    record {
      same_slice = c.push_entry.ensures.same_slice ∙ c.loop-k.invariant.same_slice;
      written = entries_written-more c.loop-k.invariant.written _ _ c.loop-k-test.true c.push_entry.ensures.written;
    }
