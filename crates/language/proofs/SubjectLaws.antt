-- Words that are nodes and make one tree are the words of exactly one tree over the alphabet, and the words of every tree
-- over the alphabet are nodes that make one tree.
use mathlib.Core.Path.{◌≡◌, refl, ap, ap₂, ◌∙◌, sym}
use mathlib.Core.Bool.{true}
use mathlib.Core.List.{List, [], ◌∷◌, map}
use Prim.Native.Nat.{ℕ, ◌≤◌}
use native.Mathlib.Omega.{arith}
use lib.ListN.{length}
use Rattle.words.specs.Lists.{all}
use Rattle.words.specs.Word.{node_kind, word_of}
use Rattle.words.specs.Tree.{Tree, Trees, node, none, more, postfix, postfix_all}
use Rattle.words.specs.Postfix.{arity, one_tree}
use Rattle.words.specs.Chapter.{symbol_of, is_node}
use Rattle.words.specs.ExactlyOne.{ExactlyOne}
use Rattle.words.specs.Limits.{alphabet_most}
use Rattle.words.proofs.RankedTree.{Ranked, RankedAll}
use Rattle.words.proofs.TestLaws.{and-true, true-and, all_left, all_right, all_append}
use Rattle.words.proofs.ExactlyOneLaws.{one_along}
use Rattle.words.proofs.WordLaws.{arity-word_of, is_node-facts, is_node-word_of, symbol_of-word_of}
use Rattle.words.proofs.RelabelLaws.{relabel, relabel_all, number-relabel, postfix-relabel}
use Rattle.words.proofs.ReadingLaws.{one_tree-tree}
use Rattle.words.proofs.TreeLaws.{TreeOf, exactly-one-tree}
use Rattle.language.specs.Expression.{tree_words, TreeOver, TreesOver, SubjectOf}

-- the tree of words of a tree of symbols, and back
abbrev pub word_tree : Tree → Tree
word_tree t = relabel (λ s. word_of node_kind s) t

abbrev symbol_tree : Tree → Tree
symbol_tree t = relabel symbol_of t

module _ (a : List ℕ) where
  -- ---- from words to symbols

  mutual
    over-symbols : (t : Tree) → Ranked (arity a) t → all (is_node a) (postfix t) ≡ true → TreeOver a (symbol_tree t)
    over-symbols (node w ts) r h =
        let f = is_node-facts a w (and-true (is_node a w) true (all_right (is_node a) (postfix_all ts) (w ∷ []) h)).0 in (
          f.symbol,
          sym f.arity-rank ∙ r.0 ∙ sym (number-relabel symbol_of ts),
          over-symbols_all ts r.1 (all_left (is_node a) (postfix_all ts) (w ∷ []) h),
        )

    over-symbols_all : (ts : Trees) → RankedAll (arity a) ts → all (is_node a) (postfix_all ts) ≡ true → TreesOver a (relabel_all symbol_of ts)
    over-symbols_all none r h = tt
    over-symbols_all (more t ts) r h = (
      over-symbols t r.0 (all_left (is_node a) (postfix t) (postfix_all ts) h),
      over-symbols_all ts r.1 (all_right (is_node a) (postfix t) (postfix_all ts) h),
    )

  -- nodes are the words of their symbols
  words-symbols : (ws : List ℕ) → all (is_node a) ws ≡ true → map (λ s. word_of node_kind s) (map symbol_of ws) ≡ ws
  words-symbols [] h = refl
  words-symbols (w ∷ ws) h =
      let p = and-true (is_node a w) (all (is_node a) ws) h in
      ap₂ (λ (x : ℕ) (y : List ℕ). x ∷ y) (sym (is_node-facts a w p.0).word) (words-symbols ws p.1)

  subject-read : (ch : List ℕ) → all (is_node a) ch ≡ true → (t : Tree) → TreeOf (arity a) ch t → SubjectOf a ch (symbol_tree t)
  subject-read ch h t k =
      record {
        over = over-symbols t k.ranked (rw k.words h);
        words = ap (map (λ s. word_of node_kind s)) (postfix-relabel symbol_of t ∙ ap (map symbol_of) k.words) ∙ words-symbols ch h;
      }

  -- ---- from symbols to words

  module _ (m : length a ≤ alphabet_most) where
    mutual
      ranked-words : (t : Tree) → TreeOver a t → Ranked (arity a) (word_tree t)
      ranked-words (node s ts) h =
          let l = h.0 in
          (arity-word_of a node_kind s (omega arith) ∙ h.1 ∙ sym (number-relabel (λ n. word_of node_kind n) ts), ranked-words_all ts h.2)

      ranked-words_all : (ts : Trees) → TreesOver a ts → RankedAll (arity a) (relabel_all (λ s. word_of node_kind s) ts)
      ranked-words_all none h = tt
      ranked-words_all (more t ts) h = (ranked-words t h.0, ranked-words_all ts h.1)

    mutual
      nodes-words : (t : Tree) → TreeOver a t → all (is_node a) (postfix (word_tree t)) ≡ true
      nodes-words (node s ts) h =
          let l = h.0 in
          all_append (is_node a) (postfix_all (relabel_all (λ n. word_of node_kind n) ts)) (word_of node_kind s ∷ []) (nodes-words_all ts h.2)
          (true-and (is_node a (word_of node_kind s)) true (is_node-word_of a s (omega arith) l) refl)

      nodes-words_all : (ts : Trees) → TreesOver a ts → all (is_node a) (postfix_all (relabel_all (λ s. word_of node_kind s) ts)) ≡ true
      nodes-words_all none h = refl
      nodes-words_all (more t ts) h =
          all_append (is_node a) (postfix (word_tree t)) (postfix_all (relabel_all (λ s. word_of node_kind s) ts)) (nodes-words t h.0)
          (nodes-words_all ts h.1)

    mutual
      symbols-back : (t : Tree) → TreeOver a t → symbol_tree (word_tree t) ≡ t
      symbols-back (node s ts) h =
          let l = h.0 in
          ap₂ node (symbol_of-word_of s (omega arith)) (symbols-back_all ts h.2)

      symbols-back_all : (ts : Trees) → TreesOver a ts → relabel_all symbol_of (relabel_all (λ s. word_of node_kind s) ts) ≡ ts
      symbols-back_all none h = refl
      symbols-back_all (more t ts) h = ap₂ more (symbols-back t h.0) (symbols-back_all ts h.1)

    pub subject-words : (ch : List ℕ) (t : Tree) → SubjectOf a ch t → TreeOf (arity a) ch (word_tree t)
    subject-words ch t k = record { ranked = ranked-words t k.over; words = postfix-relabel (λ s. word_of node_kind s) t ∙ k.words }

    -- the words of a tree over the alphabet pass both tests
    pub subject-nodes : (t : Tree) → TreeOver a t → all (is_node a) (tree_words t) ≡ true
    subject-nodes t h = rw (postfix-relabel (λ s. word_of node_kind s) t) at (nodes-words t h)

    pub subject-one_tree : (t : Tree) → TreeOver a t → one_tree a (tree_words t) ≡ true
    subject-one_tree t h = rw (postfix-relabel (λ s. word_of node_kind s) t) at (one_tree-tree (arity a) (word_tree t) (ranked-words t h))

    -- and words that pass both are those of exactly one
    pub exactly-one-subject : (ch : List ℕ) → all (is_node a) ch ≡ true → one_tree a ch ≡ true → ExactlyOne (SubjectOf a ch)
    exactly-one-subject ch h o =
        one_along symbol_tree word_tree (subject-read ch h) (subject-words ch) (λ t k. symbols-back t k.over)
        (exactly-one-tree (arity a) ch o)
