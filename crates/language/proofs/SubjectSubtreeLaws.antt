-- A node's subtree in an accepted chapter is the words of exactly one tree over the alphabet, and a value that looks only
-- at symbols is the fold of that tree.
use mathlib.Core.Path.{◌≡◌, refl, ap₂, ◌∙◌}
use mathlib.Core.Bool.{true}
use mathlib.Core.List.{List, [], ◌∷◌}
use Prim.Native.Nat.{ℕ, ◌+◌, ◌<◌, ◌≤◌}
use native.Mathlib.Omega.{arith}
use lib.ListN.{length, get_or, take, drop, take-append-drop}
use Rattle.words.specs.Lists.{all}
use Rattle.words.specs.Word.{node_kind, word_of}
use Rattle.words.specs.Tree.{Tree, Trees, node, none, more}
use Rattle.words.specs.Postfix.{arity, one_tree, span_of, subtree_of, values}
use Rattle.words.specs.Chapter.{symbol_of, is_node}
use Rattle.words.specs.ExactlyOne.{ExactlyOne}
use Rattle.words.specs.Limits.{alphabet_most}
use Rattle.words.proofs.TreeFold.{fold, fold_all}
use Rattle.words.proofs.TestLaws.{all_left, all_right}
use Rattle.words.proofs.WordLaws.{symbol_of-word_of}
use Rattle.words.proofs.RelabelLaws.{relabel_all}
use Rattle.words.proofs.PostfixLaws.{sub-tree}
use Rattle.words.proofs.SubtreeLaws.{value-subtree}
use Rattle.language.specs.Expression.{TreeOver, TreesOver, SubjectOf}
use Rattle.language.proofs.SubjectLaws.{word_tree, subject-words, exactly-one-subject}

-- the words of a subtree are nodes
subtree-nodes : (a ch : List ℕ) (i : ℕ) → all (is_node a) ch ≡ true → all (is_node a) (subtree_of a ch i) ≡ true
subtree-nodes a ch i h =
    let l : all (is_node a) (take (i + 1) ch) ≡ true =
    all_left (is_node a) (take (i + 1) ch) (drop (i + 1) ch) (rw (take-append-drop (i + 1) ch) h) in
    all_right (is_node a) (take (span_of a ch i).start (take (i + 1) ch)) (subtree_of a ch i)
    (rw (take-append-drop (span_of a ch i).start (take (i + 1) ch)) l)

module _ (a : List ℕ) (m : length a ≤ alphabet_most) where
  pub exactly-one-subtree : (ch : List ℕ) (i : ℕ) → all (is_node a) ch ≡ true → one_tree a ch ≡ true → i < length ch
      → ExactlyOne (SubjectOf a (subtree_of a ch i))
  exactly-one-subtree ch i h o hi = exactly-one-subject a m (subtree_of a ch i) (subtree-nodes a ch i h) (sub-tree (arity a) ch i o hi)

  module _ {A : Type 0} (g : ℕ → List A → A) where
    -- the same value of a word: it looks at the symbol
    abbrev on_word : ℕ → List A → A
    on_word w rs = g (symbol_of w) rs

    mutual
      fold_words : (t : Tree) → TreeOver a t → fold on_word (word_tree t) ≡ fold g t
      fold_words (node s ts) h =
          let l = h.0 in
          ap₂ g (symbol_of-word_of s (omega arith)) (fold-words_all ts h.2)

      fold-words_all : (ts : Trees) → TreesOver a ts → fold_all on_word (relabel_all (λ s. word_of node_kind s) ts) ≡ fold_all g ts
      fold-words_all none h = refl
      fold-words_all (more t ts) h = ap₂ (λ (x : A) (y : List A). x ∷ y) (fold_words t h.0) (fold-words_all ts h.1)

    -- the value of node i is the fold of its subtree's tree
    pub value-subject : (ch : List ℕ) (i : ℕ) (d : A) (t : Tree) → i < length ch → SubjectOf a (subtree_of a ch i) t
        → get_or (values a (λ w rs. g (symbol_of w) rs) ch []) i d ≡ fold g t
    value-subject ch i d t hi k =
        value-subtree (arity a) on_word ch i d (word_tree t) hi (subject-words a m (subtree_of a ch i) t k) ∙ fold_words t k.over
