-- What `marklist` prints of an alphabet, a rule and a chapter, as bytes (document 01, "The source's own example").
use Rattle.std.specs.Prelude.{ℕ, List, ◌∷◌, ◌++◌, Bool, cond, length, eqb}
use Rattle.words.specs.Limits.{outside}
use Rattle.words.specs.Refusal.{Refusals, refusal}
use Rattle.automaton.specs.Numbering.{compiled}
use Rattle.operations.specs.Compile.{compiled_table, rule_table_refusals}
use Rattle.operations.specs.Marks.{node_sets}
use Rattle.operations.specs.Run.{element_refusals}
use Rattle.operations.specs.Listing.{matches_in}
use Rattle.lines.specs.Line.{refused_line, head_line, hit_lines}

-- ---- the whole output

-- the most elements of a chapter here
abbrev pub chapter_most : ℕ
chapter_most = 256

-- 9 in Run's place: "Over 256 elements it says 9", and a chapter of 0 elements
unfoldable pub wrong_chapter : List ℕ → Bool
wrong_chapter ch = outside chapter_most (length ch)

-- of a chapter: Run's
abbrev pub chapter_refusals : List ℕ → List ℕ → Refusals
chapter_refusals a ch = (9, wrong_chapter ch) ∷ element_refusals a ch

-- "the faults of Compile before those of Run"; its memory is so large that no refusal of a short slice can arise, nor one of a
-- table, which is a compiled one
abbrev pub marklist_refusals : List ℕ → List ℕ → List ℕ → Refusals
marklist_refusals a e ch = rule_table_refusals a e ++ chapter_refusals a ch

abbrev pub marklist_fault : List ℕ → List ℕ → List ℕ → ℕ
marklist_fault a e ch = refusal (marklist_refusals a e ch)

-- the hits: the nodes whose state sets hold the final state
unfoldable pub hits_of : List ℕ → List ℕ → List ℕ → List ℕ
hits_of a e ch = matches_in (compiled a e).final 0 (node_sets a (compiled_table a e) ch)

abbrev pub report_lines : List ℕ → List ℕ → List ℕ → List ℕ
report_lines a e ch =
    head_line (length ch) (compiled a e).states (length (hits_of a e ch)) ++ hit_lines a ch (hits_of a e ch)

unfoldable pub marklist_output : List ℕ → List ℕ → List ℕ → List ℕ
marklist_output a e ch =
    let lines = report_lines a e ch in
    cond (eqb (marklist_fault a e ch) 0) lines (refused_line (marklist_fault a e ch))

-- the same of words of which some may be missing: "input that ends early is number 0, before all others"
unfoldable pub output_of : Bool → List ℕ → List ℕ → List ℕ → List ℕ
output_of complete a e ch = cond complete (marklist_output a e ch) (refused_line 0)
