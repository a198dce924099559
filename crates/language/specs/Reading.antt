-- The expression of a rule's words, read in postfix order with a stack. Of words that 4 or 5 refuses it is some expression, of
-- accepted ones the only one whose words they are.
use Rattle.std.specs.Prelude.{ℕ, List, [], ◌∷◌, get_or}
use Rattle.words.specs.Word.{Kind, entry_kind, symbol_kind, empty_kind, union_kind, product_kind, closure_kind}
use Rattle.words.specs.Word.{node_kind, head_kind, transition_kind, epsilon_kind, source_kind, length_kind, anything_kind, no_kind, kind_of, low_byte}
use Rattle.words.specs.Postfix.{stack_after}
use Rattle.language.specs.Expression.{Expression, Expressions, symbol, empty, union, product, closure, anything, noneᵉ, moreᵉ}

-- a list of expressions as the children of a symbol
abbrev pub childrenᵉ : List Expression → Expressions
childrenᵉ [] = noneᵉ
childrenᵉ (E ∷ Es) = moreᵉ E (childrenᵉ Es)

-- a word of a kind with that symbol over its children
abbrev pub of_kind : Kind → ℕ → List Expression → Expression
of_kind symbol_kind s Es = symbol s (childrenᵉ Es)
of_kind union_kind s Es = union (get_or Es 0 empty) (get_or Es 1 empty)
of_kind product_kind s Es = product s (get_or Es 0 empty) (get_or Es 1 empty)
of_kind closure_kind s Es = closure s (get_or Es 0 empty)
of_kind empty_kind s Es = empty
of_kind anything_kind s Es = anything
of_kind node_kind s Es = empty
of_kind entry_kind s Es = empty
of_kind head_kind s Es = empty
of_kind transition_kind s Es = empty
of_kind epsilon_kind s Es = empty
of_kind source_kind s Es = empty
of_kind length_kind s Es = empty
of_kind no_kind s Es = empty

abbrev pub expression_on : ℕ → List Expression → Expression
expression_on w Es = of_kind (kind_of w) (low_byte w) Es

-- the only expression that is left on the stack
unfoldable pub expression_of : List ℕ → List ℕ → Expression
expression_of a words = get_or (stack_after a expression_on words []) 0 empty
