-- Totals on hand (document 02, U10): the chapter's record of three totals, what Run sets it to, how an exchange changes it, and 27.
use Rattle.std.specs.Prelude.{ℕ, ◌+◌, ◌-◌, Bool, cond, ◌||◌, length, ltb, eqb}
use mathlib.Core.List.{List, [], ◌∷◌, flatten}
use Rattle.words.specs.Limits.{cells_most}
use Rattle.automaton.specs.StateSet.{StateSet}
use Rattle.operations.specs.Marks.{final_of, node_sets}
use Rattle.operations.specs.Run.{cells_in, run_fault}
use Rattle.operations.specs.Listing.{matches_in}

-- "the chapter's record of three totals": elements, hits and cells
pub record Totals : Type 0 where
  pub elements : ℕ
  pub hits : ℕ
  pub cells : ℕ

-- its words, as they are lent
abbrev pub totals_words : Totals → List ℕ
totals_words t = t.elements ∷ t.hits ∷ t.cells ∷ []

-- the totals of elements with these marks: their number, the hits among them as List names them, the ones in their marks
unfoldable pub totals_of : List ℕ → List StateSet → Totals
totals_of table rs = record { elements = length rs; hits = length (matches_in (final_of table) 0 rs); cells = cells_in (flatten rs) }

-- the record at exit: "a refused call leaves it alone"
abbrev pub totals_exit : ℕ → Totals → Totals → Totals
totals_exit fault after before = cond (eqb fault 0) after before

-- it "is lent to Run, which sets it"
unfoldable pub run_totals : List ℕ → List ℕ → List ℕ → List ℕ → Totals → Totals
run_totals a table ch marks before = totals_exit (run_fault a table ch (length marks)) (totals_of table (node_sets a table ch)) before

-- a total that is changed "by the difference that the exchange makes", from `old` to `new`
abbrev pub moved : ℕ → ℕ → ℕ → ℕ
moved t old new = t + new - old

abbrev pub moved_totals : Totals → Totals → Totals → Totals
moved_totals t old new = record {
  elements = moved t.elements old.elements new.elements;
  hits = moved t.hits old.hits new.hits;
  cells = moved t.cells old.cells new.cells;
}

-- 27: a total "would come out of an exchange below zero or above that figure"
unfoldable pub out_of_range : ℕ → ℕ → ℕ → Bool
out_of_range t old new = ltb (t + new) old || ltb cells_most (moved t old new)

-- 27: "any of the three"
unfoldable pub wrong_totals : Totals → Totals → Totals → Bool
wrong_totals t old new =
    out_of_range t.elements old.elements new.elements || out_of_range t.hits old.hits new.hits
    || out_of_range t.cells old.cells new.cells
