-- The record of totals as the definitions have it.
use Rattle.operations.specs.Totals.{Totals}
use Rattle.totals.specs.declared.Totals.{Totals as Record}

abbrev pub totals_in : Record → Totals
totals_in t = record { elements = t.elements; hits = t.hits; cells = t.cells }
