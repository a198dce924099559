-- The words of a chapter (document 01, kind 7) and refusals 10, 11, 24 and 26.
use Rattle.std.specs.Prelude.{ℕ, List, [], ◌∷◌, Bool, not, ◌&&◌, ltb}
use Rattle.words.specs.Lists.{all, some}
use Rattle.words.specs.Limits.{height_most}
use Rattle.words.specs.Refusal.{Refusals, refusal}
use Rattle.words.specs.Word.{node_kind, is_of, low_byte}
use Rattle.words.specs.Alphabet.{is_symbol, is_hole}
use Rattle.words.specs.Postfix.{not_one_tree, height_of}

-- the symbol of a node: bits 7..0
abbrev pub symbol_of : ℕ → ℕ
symbol_of w = low_byte w

-- a node (document 01's chapter element) with a symbol that the alphabet has
unfoldable pub is_node : List ℕ → ℕ → Bool
is_node a w = is_of node_kind w && is_symbol a (symbol_of w)

-- 10: "a word that is no element or an unknown symbol"
unfoldable pub not_nodes : List ℕ → List ℕ → Bool
not_nodes a ch = not (all (is_node a) ch)

-- 10 is judged over the whole slice before 11. 15 asks for these too, of a replacement (`no_replacement`).
abbrev pub tree_refusals : List ℕ → List ℕ → Refusals
tree_refusals a ch = (10, not_nodes a ch) ∷ (11, not_one_tree a ch) ∷ []

-- 10 or 11, the first that applies, or 0
abbrev pub tree_fault : List ℕ → List ℕ → ℕ
tree_fault a ch = refusal (tree_refusals a ch)

-- 24: "too high" (document 02, U6)
unfoldable pub too_high : List ℕ → List ℕ → Bool
too_high a ch = ltb height_most (height_of a ch)

-- 26: "a hole in a chapter", or in a replacement (document 02, U8); every element is looked at
unfoldable pub holes_in : List ℕ → List ℕ → Bool
holes_in a ch = some (λ w. is_hole a (symbol_of w)) ch
