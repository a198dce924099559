-- Postfix order (document 01, "Words") where a function says how many children a word takes: which words make trees, a value for
-- every node by a stack, where a subtree begins and how high it is, a node's children and ancestors. Rules and chapters are read by
-- the arity that their alphabet gives (Postfix.antt).
use Rattle.std.specs.Prelude.{ℕ, zero, suc, ◌+◌, ◌-◌, List, [], ◌∷◌, ◌++◌, reverse, Bool, false, not, cond, ◌&&◌, length, get_or, take, drop, ltb, leb, eqb}
use Rattle.words.specs.Lists.{count, list_from, highest}

module _ (arity : ℕ → ℕ) where
  -- after d trees the words make t trees: no word lacks children, and each puts one tree in the place of its children
  unfoldable pub trees_by : ℕ → List ℕ → ℕ → Bool
  trees_by d [] t = eqb d t
  trees_by d (w ∷ ws) t = cond (leb (arity w) d) (trees_by (d - arity w + 1) ws t) false

  -- the shape check: exactly one tree remains
  abbrev pub one_tree_by : List ℕ → Bool
  one_tree_by ws = trees_by 0 ws 1

  -- some word lacks children, or not exactly one tree remains
  abbrev pub not_one_tree_by : List ℕ → Bool
  not_one_tree_by ws = not (one_tree_by ws)

-- Words are read with a stack of values, the last on top. A word takes as many values as its arity from the top; its own
-- value comes from the word and from theirs, from left to right, and is put on the stack.
module _ {A : Type 0} (arity : ℕ → ℕ) (value : ℕ → List A → A) where
  unfoldable pub value_on_by : ℕ → List A → A
  value_on_by w stack = value w (reverse (take (arity w) stack))

  -- the values of all words, in their order
  unfoldable pub values_by : List ℕ → List A → List A
  values_by [] stack = []
  values_by (w ∷ ws) stack = value_on_by w stack ∷ values_by ws (value_on_by w stack ∷ drop (arity w) stack)

  -- the stack behind the words
  unfoldable pub stack_after_by : List ℕ → List A → List A
  stack_after_by [] stack = stack
  stack_after_by (w ∷ ws) stack = stack_after_by ws (value_on_by w stack ∷ drop (arity w) stack)

-- what is told of a node's subtree: the index of its first word, and its height
pub record Span : Type 0 where
  pub start : ℕ
  pub height : ℕ

-- a word's height from its children's: the value with which the words are read to find heights
unfoldable pub height_over : ℕ → List ℕ → ℕ
height_over w heights = suc (highest heights)

module _ (arity : ℕ → ℕ) where
  -- the height of the last tree that the words make: the one on top of the stack; 0 of no words
  unfoldable pub height_of_by : List ℕ → ℕ
  height_of_by ws = get_or (stack_after_by arity height_over ws []) 0 0

  -- where the last n trees of the first j words begin: the last word is one tree's root, its children are trees before it
  unfoldable pub start_from_by : List ℕ → ℕ → ℕ → ℕ
  start_from_by ws zero n = zero
  start_from_by ws (suc j) zero = suc j
  start_from_by ws (suc j) (suc n) = start_from_by ws j (n + arity (get_or ws j 0))

  -- "An element's subtree is the run of words that ends at it and makes one tree": the index of its first word. "Finding where a
  -- subtree begins .. shall tell its height too" (document 02, U6): the height of the tree that these words make
  abbrev pub span_of_by : List ℕ → ℕ → Span
  span_of_by ws i =
      let start = start_from_by ws (i + 1) 1 in
      record { start = start; height = height_of_by (drop start (take (i + 1) ws)) }

  -- the words of node i's subtree
  abbrev pub subtree_of_by : List ℕ → ℕ → List ℕ
  subtree_of_by ws i = drop (span_of_by ws i).start (take (i + 1) ws)

  -- "its ancestors are the other elements whose subtrees hold it": j's subtree holds i
  unfoldable pub is_ancestor_by : List ℕ → ℕ → ℕ → Bool
  is_ancestor_by ws i j = ltb i j && leb (span_of_by ws j).start i

  -- "the depth of the place": the number of node i's ancestors
  unfoldable pub depth_of_by : List ℕ → ℕ → ℕ
  depth_of_by ws i = count (is_ancestor_by ws i) (list_from (λ j. j) 0 (length ws))

  -- "the words of the element's subtree give way to the replacement's words; those before and behind stay in order"
  unfoldable pub splice_by : List ℕ → ℕ → List ℕ → List ℕ
  splice_by ws i xs = take (span_of_by ws i).start ws ++ (xs ++ drop (i + 1) ws)

-- the stack behind the words from index j on, where word j's value is not worked out but given
unfoldable pub stack_given_by : {A : Type 0} → (ℕ → ℕ) → (ℕ → A) → ℕ → List ℕ → List A → List A
stack_given_by arity given j [] stack = stack
stack_given_by arity given j (w ∷ ws) stack = stack_given_by arity given (suc j) ws (given j ∷ drop (arity w) stack)

-- the roots of the trees that the first j words make, the last one first
abbrev pub roots_by : (ℕ → ℕ) → List ℕ → ℕ → List ℕ
roots_by arity ws j = stack_given_by arity (λ k. k) 0 (take j ws) []

-- the numbers of node i's children, from left to right
unfoldable pub children_of_by : (ℕ → ℕ) → List ℕ → ℕ → List ℕ
children_of_by arity ws i = reverse (take (arity (get_or ws i 0)) (roots_by arity ws i))
