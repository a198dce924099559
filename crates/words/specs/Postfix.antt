-- Postfix order of rules and chapters (document 01, "Words"): how many children a word takes, by the ranks that the alphabet gives,
-- and Shape.antt's definitions for that arity; each stands there under its sentence. One reading serves rules and chapters.
use Rattle.std.specs.Prelude.{ℕ, List, Bool}
use Rattle.words.specs.Word.{Kind, entry_kind, symbol_kind, empty_kind, union_kind, product_kind, closure_kind, node_kind}
use Rattle.words.specs.Word.{head_kind, transition_kind, epsilon_kind, source_kind, length_kind, anything_kind, no_kind, kind_of, low_byte}
use Rattle.words.specs.Alphabet.{rank_of}
use Rattle.words.specs.Shape.{Span, trees_by, one_tree_by, not_one_tree_by, height_of_by, start_from_by, span_of_by, subtree_of_by, is_ancestor_by}
use Rattle.words.specs.Shape.{depth_of_by, splice_by, value_on_by, values_by, stack_after_by, stack_given_by, roots_by, children_of_by}

-- how many children (document 01's parts) a word of a kind takes, where `rank` is the rank of its symbol
abbrev pub arity_at : ℕ → Kind → ℕ
arity_at rank symbol_kind = rank
arity_at rank node_kind = rank
arity_at rank empty_kind = 0
arity_at rank union_kind = 2
arity_at rank product_kind = 2
arity_at rank closure_kind = 1
arity_at rank anything_kind = 0
arity_at rank entry_kind = 0
arity_at rank head_kind = 0
arity_at rank transition_kind = 0
arity_at rank epsilon_kind = 0
arity_at rank source_kind = 0
arity_at rank length_kind = 0
arity_at rank no_kind = 0

unfoldable pub arity : List ℕ → ℕ → ℕ
arity a w = arity_at (rank_of a (low_byte w)) (kind_of w)

-- ---- which words make trees, subtrees and their heights, ancestors, and a subtree that gives way

abbrev pub trees : List ℕ → ℕ → List ℕ → ℕ → Bool
trees a = trees_by (arity a)

abbrev pub one_tree : List ℕ → List ℕ → Bool
one_tree a = one_tree_by (arity a)

-- 5: "some word lacks parts, or not exactly one rule remains"; 11: "no single tree"
unfoldable pub not_one_tree : List ℕ → List ℕ → Bool
not_one_tree a = not_one_tree_by (arity a)

-- document 02, U6
abbrev pub height_of : List ℕ → List ℕ → ℕ
height_of a = height_of_by (arity a)

abbrev pub start_from : List ℕ → List ℕ → ℕ → ℕ → ℕ
start_from a = start_from_by (arity a)

abbrev pub span_of : List ℕ → List ℕ → ℕ → Span
span_of a = span_of_by (arity a)

abbrev pub subtree_of : List ℕ → List ℕ → ℕ → List ℕ
subtree_of a = subtree_of_by (arity a)

abbrev pub is_ancestor : List ℕ → List ℕ → ℕ → ℕ → Bool
is_ancestor a = is_ancestor_by (arity a)

abbrev pub depth_of : List ℕ → List ℕ → ℕ → ℕ
depth_of a = depth_of_by (arity a)

abbrev pub splice : List ℕ → List ℕ → ℕ → List ℕ → List ℕ
splice a = splice_by (arity a)

-- ---- reading with a stack, and a node's children

abbrev pub value_on : {A : Type 0} → List ℕ → (ℕ → List A → A) → ℕ → List A → A
value_on a = value_on_by (arity a)

abbrev pub values : {A : Type 0} → List ℕ → (ℕ → List A → A) → List ℕ → List A → List A
values a = values_by (arity a)

abbrev pub stack_after : {A : Type 0} → List ℕ → (ℕ → List A → A) → List ℕ → List A → List A
stack_after a = stack_after_by (arity a)

abbrev pub stack_given : {A : Type 0} → List ℕ → (ℕ → A) → ℕ → List ℕ → List A → List A
stack_given a = stack_given_by (arity a)

abbrev pub roots_of : List ℕ → List ℕ → ℕ → List ℕ
roots_of a = roots_by (arity a)

abbrev pub children_of : List ℕ → List ℕ → ℕ → List ℕ
children_of a = children_of_by (arity a)
