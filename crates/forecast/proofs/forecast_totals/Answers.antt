-- `forecast::forecast_totals` meets its contract: the replacement is counted alone, then the ancestors of its place.
use mathlib.Core.Path.{refl}
use native.Mathlib.Omega.{arith}
use Rattle.forecast.proofs.ForecastLaws.{forecast-index, forecast-tree, used-part, root-inside, root-length, root-small}
use Rattle.forecast.proofs.ForecastLaws.{part-inside, part_length, root_is, root-size, forecast-marked, forecast-inside, forecast-few}
use Rattle.forecast.proofs.AddedLaws.{forecast-is}
use Rattle.forecast.proofs.forecast_totals.Goals as goal

pub write_index-requires : goal.write_index-requires
write_index-requires c = forecast-index c.requires

pub tree_totals-counted-requires : goal.tree_totals-counted-requires
tree_totals-counted-requires c =
    forecast-tree c.requires c.write_index.ensures refl

pub shared_ref_as_front-write_set : goal.shared_ref_as_front-write_set
shared_ref_as_front-write_set c =
    let pile = c.tree_totals-counted.new.pile in
    omega (arith, root-inside c.requires pile _ c.set_size-size.ensures, pile.long)

pub slice_bounds-write_set-end-2 : goal.slice_bounds-write_set-end-2
slice_bounds-write_set-end-2 c = root-length c.requires c.tree_totals-counted.new.pile _ c.set_size-size.ensures

pub write_set-requires : goal.write_set-requires
write_set-requires c = root-small c.requires c.tree_totals-counted.new.pile _ c.set_size-size.ensures

pub slice_bounds-place-end : goal.slice_bounds-place-end
slice_bounds-place-end c = used-part c.requires

pub slice_bounds-root-end : goal.slice_bounds-root-end
slice_bounds-root-end c =
    part-inside c.requires c.tree_totals-counted.new.pile _ c.set_size-size.ensures _ c.write_set.ensures

pub slice_bounds-behind_totals-end : goal.slice_bounds-behind_totals-end
slice_bounds-behind_totals-end c =
    part_length c.requires c.tree_totals-counted.new.pile _ c.set_size-size.ensures _ c.write_set.ensures

pub behind_totals-requires : goal.behind_totals-requires
behind_totals-requires c =
    let counted = c.tree_totals-counted.ensures in
    record {
      marked = forecast-marked c.requires;
      kept = counted.kept;
      inside = forecast-inside c.requires;
      begins = c.requires.begins;
      size = root-size c.requires c.tree_totals-counted.new.pile _ c.set_size-size.ensures _ c.write_set.ensures;
      plausible = counted.plausible;
      counted = forecast-few c.requires counted.answer;
    }

pub returns : goal.returns
returns c =
    forecast-is _ c.requires.passes _
    (root_is c.requires c.tree_totals-counted.new.pile _ c.set_size-size.ensures _ c.write_set.ensures _ c.tree_totals-counted.ensures.root) _
    c.requires.begins _ c.tree_totals-counted.ensures.answer _ c.behind_totals.ensures
