-- Regular tree expressions (document 01's rules), and expressions and subject trees as postfix words.
use Rattle.std.specs.Prelude.{ℕ, suc, ◌<◌, ◌≡◌, true, false, List, map, length}
use Rattle.words.specs.Alphabet.{rank_of, is_hole, may_name}
use Rattle.words.specs.Word.{symbol_kind, empty_kind, union_kind, product_kind, closure_kind, node_kind, anything_kind, word_of}
use Rattle.words.specs.Tree.{Tree, Trees, node, none, more, number, postfix}

-- a symbol over expressions; the empty language; a union; the product F by G over c; the closure of F over c; "every tree over the
-- alphabet" (document 02, U7)
mutual
  pub data Expression : Type 0 where
    symbol : ℕ → Expressions → Expression
    empty : Expression
    union : Expression → Expression → Expression
    product : ℕ → Expression → Expression → Expression
    closure : ℕ → Expression → Expression
    anything : Expression

  pub data Expressions : Type 0 where
    noneᵉ : Expressions
    moreᵉ : Expression → Expressions → Expressions

-- the tree of an expression's words: "for a product F comes before G"
abbrev mutual
  pub syntax_tree : Expression → Tree
  syntax_tree (symbol f es) = node (word_of symbol_kind f) (syntax_trees es)
  syntax_tree empty = node (word_of empty_kind 0) none
  syntax_tree (union F G) = node (word_of union_kind 0) (more (syntax_tree F) (more (syntax_tree G) none))
  syntax_tree (product c F G) = node (word_of product_kind c) (more (syntax_tree F) (more (syntax_tree G) none))
  syntax_tree (closure c F) = node (word_of closure_kind c) (more (syntax_tree F) none)
  syntax_tree anything = node (word_of anything_kind 0) none

  pub syntax_trees : Expressions → Trees
  syntax_trees noneᵉ = none
  syntax_trees (moreᵉ E Es) = more (syntax_tree E) (syntax_trees Es)

-- the words of an expression
abbrev pub expression_words : Expression → List ℕ
expression_words E = postfix (syntax_tree E)

-- the words of a subject tree (document 01's chapter), whose nodes carry symbols
abbrev pub tree_words : Tree → List ℕ
tree_words t = map (λ s. word_of node_kind s) (postfix t)

-- a tree over the alphabet: each symbol is known and stands over as many children as its rank
abbrev mutual
  pub TreeOver : List ℕ → Tree → Type 0
  TreeOver a (node f ts) = (f < length a) × (rank_of a f ≡ number ts) × TreesOver a ts

  pub TreesOver : List ℕ → Trees → Type 0
  TreesOver a none = Unit {0}
  TreesOver a (more t ts) = TreeOver a t × TreesOver a ts

-- "hole-free" (document 02, U8): no node is a hole
abbrev mutual
  pub HoleFree : List ℕ → Tree → Type 0
  HoleFree a (node f ts) = (is_hole a f ≡ false) × HoleFreeAll a ts

  pub HoleFreeAll : List ℕ → Trees → Type 0
  HoleFreeAll a none = Unit {0}
  HoleFreeAll a (more t ts) = HoleFree a t × HoleFreeAll a ts

abbrev pub numberᵉ : Expressions → ℕ
numberᵉ noneᵉ = 0
numberᵉ (moreᵉ E Es) = suc (numberᵉ Es)

-- an expression over the alphabet: each symbol as in a tree, and a c that may be named: "c must be one", a constant, and "Once an
-- alphabet has a hole, only holes may be named in a product or closure" (document 02, U8)
abbrev mutual
  pub ExpressionOver : List ℕ → Expression → Type 0
  ExpressionOver a (symbol f es) = (f < length a) × (rank_of a f ≡ numberᵉ es) × ExpressionsOver a es
  ExpressionOver a empty = Unit {0}
  ExpressionOver a (union F G) = ExpressionOver a F × ExpressionOver a G
  ExpressionOver a (product c F G) = (may_name a c ≡ true) × ExpressionOver a F × ExpressionOver a G
  ExpressionOver a (closure c F) = (may_name a c ≡ true) × ExpressionOver a F
  ExpressionOver a anything = Unit {0}

  pub ExpressionsOver : List ℕ → Expressions → Type 0
  ExpressionsOver a noneᵉ = Unit {0}
  ExpressionsOver a (moreᵉ E Es) = ExpressionOver a E × ExpressionsOver a Es

-- an expression over the alphabet whose words these are
pub record ExpressionOf (a ws : List ℕ) (E : Expression) : Type 0 where
  pub over : ExpressionOver a E
  pub words : expression_words E ≡ ws

-- a subject tree over the alphabet whose words these are
pub record SubjectOf (a ws : List ℕ) (t : Tree) : Type 0 where
  pub over : TreeOver a t
  pub words : tree_words t ≡ ws
