-- The words of a rule (document 01, kinds 2 to 6; document 02, kind 14) and refusals 3, 4 and 5.
use Rattle.std.specs.Prelude.{ℕ, List, [], ◌∷◌, Bool, true, false, not, ◌&&◌, length}
use Rattle.words.specs.Lists.{all, some}
use Rattle.words.specs.Limits.{outside, expression_most}
use Rattle.words.specs.Refusal.{Refusals, refusal}
use Rattle.words.specs.Word.{Kind, entry_kind, symbol_kind, empty_kind, union_kind, product_kind, closure_kind, node_kind}
use Rattle.words.specs.Word.{head_kind, transition_kind, epsilon_kind, source_kind, length_kind, anything_kind, no_kind, kind_of, has_kind}
use Rattle.words.specs.Word.{spare_bits_clear, low_byte}
use Rattle.words.specs.Alphabet.{is_symbol, may_name}
use Rattle.words.specs.Postfix.{not_one_tree}

-- whether the low byte of a rule word of a kind is in order: a symbol that the alphabet has; a c that may be named
abbrev pub names_at : List ℕ → ℕ → Kind → Bool
names_at a s symbol_kind = is_symbol a s
names_at a s empty_kind = true
names_at a s union_kind = true
names_at a s product_kind = may_name a s
names_at a s closure_kind = may_name a s
names_at a s anything_kind = true
names_at a s node_kind = false
names_at a s entry_kind = false
names_at a s head_kind = false
names_at a s transition_kind = false
names_at a s epsilon_kind = false
names_at a s source_kind = false
names_at a s length_kind = false
names_at a s no_kind = false

-- a rule word over the alphabet
unfoldable pub is_expression_word : List ℕ → ℕ → Bool
is_expression_word a w = spare_bits_clear w && names_at a (low_byte w) (kind_of w)

-- a rule with anything in it (document 02, U7)
abbrev pub has_anything : List ℕ → Bool
has_anything e = some (has_kind anything_kind) e

-- 3: "rule of 0 or over 64 words"
unfoldable pub wrong_length : List ℕ → Bool
wrong_length e = outside expression_most (length e)

-- 4: "a word that is no rule word, an unknown symbol, or a c that is no constant"; or no hole, where the alphabet has one (document
-- 02, U8)
unfoldable pub not_expression_words : List ℕ → List ℕ → Bool
not_expression_words a e = not (all (is_expression_word a) e)

-- 4 is judged over the whole slice before 5
abbrev pub expression_refusals : List ℕ → List ℕ → Refusals
expression_refusals a e = (3, wrong_length e) ∷ (4, not_expression_words a e) ∷ (5, not_one_tree a e) ∷ []

-- 3, 4 or 5, the first that applies, or 0
abbrev pub expression_fault : List ℕ → List ℕ → ℕ
expression_fault a e = refusal (expression_refusals a e)
