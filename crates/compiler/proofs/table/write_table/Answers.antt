-- `compiler::table::write_table` meets its contract: the first words of the list are the constants.
use native.Mathlib.Omega.{arith}
use mathlib.Core.Path.{refl, sym}
use lib.Seq.{length-take-le}
use Rattle.compiler.proofs.AcceptedRuleLaws.{rule-alphabet, constants-first, constants-within}
use Rattle.compiler.proofs.table.write_table.Goals as goal

pub slice_bounds-list-end : goal.slice_bounds-list-end
slice_bounds-list-end c =
    let k = c.write_constants-count.ensures in
    constants-within _ _ _ _ (rule-alphabet _ _ c.requires) refl k.answer k.list

pub slice_bounds-write_parts-end : goal.slice_bounds-write_parts-end
slice_bounds-write_parts-end c =
    let k = c.write_constants-count.ensures in
    sym (length-take-le _ _ (constants-within _ _ _ _ (rule-alphabet _ _ c.requires) refl k.answer k.list))

pub write_parts-requires-clause-compilable : goal.write_parts-requires-clause-compilable
write_parts-requires-clause-compilable c =
    let k = c.write_constants-count.ensures in
    record {
      accepted = c.requires;
      constants = constants-first _ _ _ _ (rule-alphabet _ _ c.requires) refl k.answer k.list;
      fits = omega arith;
    }
