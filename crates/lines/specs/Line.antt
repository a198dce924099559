-- The lines that `marklist` prints, as bytes (document 01, "The source's own example").
use Rattle.std.specs.Prelude.{ℕ, ◌+◌, ◌-◌, List, [], ◌∷◌, ◌++◌, get_or}
use Rattle.words.specs.Chapter.{symbol_of}
use Rattle.words.specs.Postfix.{span_of}
use Rattle.encoding.specs.Decimal.{field}

-- ---- texts, in ASCII

abbrev pub space : ℕ
space = 32

abbrev pub newline : ℕ
newline = 10

-- `refused `
abbrev pub refused_text : List ℕ
refused_text = 114 ∷ 101 ∷ 102 ∷ 117 ∷ 115 ∷ 101 ∷ 100 ∷ 32 ∷ []

-- `nodes `
abbrev pub nodes_text : List ℕ
nodes_text = 110 ∷ 111 ∷ 100 ∷ 101 ∷ 115 ∷ 32 ∷ []

-- `states `
abbrev pub states_text : List ℕ
states_text = 115 ∷ 116 ∷ 97 ∷ 116 ∷ 101 ∷ 115 ∷ 32 ∷ []

-- `hits `
abbrev pub hits_text : List ℕ
hits_text = 104 ∷ 105 ∷ 116 ∷ 115 ∷ 32 ∷ []

-- ---- lines

unfoldable pub refused_line : ℕ → List ℕ
refused_line number = refused_text ++ field number newline

-- "a head line of element, state and hit counts"
unfoldable pub head_line : ℕ → ℕ → ℕ → List ℕ
head_line nodes states hits = nodes_text ++ field nodes space ++ states_text ++ field states space ++ hits_text ++ field hits newline

-- "for each hit the element, its symbol and its subtree's element count"; the subtree ends at the element
unfoldable pub hit_line : List ℕ → List ℕ → ℕ → List ℕ
hit_line a ch i = field i space ++ field (symbol_of (get_or ch i 0)) space ++ field (i + 1 - (span_of a ch i).start) newline

unfoldable pub hit_lines : List ℕ → List ℕ → List ℕ → List ℕ
hit_lines a ch [] = []
hit_lines a ch (i ∷ is) = hit_line a ch i ++ hit_lines a ch is
