-- `forecast::sum::add_set` meets its contract: no sum is large, since hits and cells are no more than the elements allow.
use native.Mathlib.Omega.{arith}
use Rattle.forecast.proofs.SumLaws.{hit_few, cells-small, set-added}
use Rattle.forecast.proofs.sum.add_set.Goals as goal

pub overflow_cast-result-2 : goal.overflow_cast-result-2
overflow_cast-result-2 c =
    omega (
      arith,
      cells-small c.requires (λ k. (c.type_inv.set k).fits) _ c.count_cells-cells.ensures,
    )

pub overflow_add-result-3 : goal.overflow_add-result-3
overflow_add-result-3 c =
    let g = c.requires in
    omega (
      arith,
      g.few,
      g.plausible.cells,
      cells-small g (λ k. (c.type_inv.set k).fits) _ c.count_cells-cells.ensures,
    )

pub returns : goal.returns
returns c =
    let g = c.requires in
    let few = cells-small g (λ k. (c.type_inv.set k).fits) _ c.count_cells-cells.ensures in
    record {
      answer =
          set-added g (λ k. (c.type_inv.set k).fits) _ c.count_cells-cells.ensures _ _ c.final_state.ensures _
          c.contains-hit.ensures;
      plausible = record {
        hits = omega (arith, g.plausible.hits, hit_few c.contains-hit.result);
        cells = omega (arith, g.plausible.cells, few);
      };
    }
