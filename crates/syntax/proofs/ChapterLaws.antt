-- The check of a chapter in one pass: what is judged already, and what the rest decides.
use mathlib.Core.Path.{◌≡◌, refl, ap, ◌∙◌, sym}
use mathlib.Core.Bool.{Bool, true, false, not}
use mathlib.Core.List.{List, [], ◌∷◌}
use Prim.Native.Nat.{ℕ, ◌+◌, ◌-◌, ◌<◌, ◌≤◌}
use native.Mathlib.Omega.{arith}
use lib.ListN.{length, get_or, take, drop}
use lib.Dec.{eqb}
use borrow.Author.Tests.{eq-eqb, ne_eqb}
use Rattle.words.specs.Lists.{all}
use Rattle.words.specs.Word.{node_kind, kind_of, spare_bits_clear, is_of}
use Rattle.words.specs.Decoded.{kind_in}
use Rattle.words.specs.declared.word.Kind.{Kind as Case}
use Rattle.words.specs.declared.word.Kind.TheVariants.{Node}
use Rattle.words.specs.Postfix.{arity, trees, not_one_tree}
use Rattle.words.specs.Alphabet.{has_holes}
use Rattle.words.specs.Chapter.{is_node, not_nodes, tree_refusals, holes_in}
use Rattle.words.proofs.ScanLaws.{drop-part, all-fails, all-continues, all_end, trees-lacks, trees-continues, trees-end}
use Rattle.words.proofs.RefusalLaws.{Found, none, here, next}
use Rattle.words.proofs.HoleLaws.{holes_in-without}
use Rattle.words.proofs.DecodedLaws.{told-is_of, left-is_of}

-- the words before word i are nodes and make `made` trees: the words from i on decide
pub record ChapterJudged (a words : List ℕ) (made i : ℕ) : Type 0 where
  pub few : i ≤ length words
  pub below : made ≤ i
  pub nodes : all (is_node a) words ≡ all (is_node a) (drop i words)
  pub shape : trees a 0 words 1 ≡ trees a made (drop i words) 1

pub judged-none : (a words : List ℕ) → ChapterJudged a words 0 0
judged-none a words = record { few = omega arith; below = omega arith; nodes = refl; shape = refl }

module _ {a words : List ℕ} {made i : ℕ} (s : ChapterJudged a words made i) where
  -- behind the last word
  module _ (h : length words ≤ i) where
    no_other : not_nodes a words ≡ false
    unfolding not_nodes
    no_other = ap not (s.nodes ∙ all_end (is_node a) words i h)

    made-decides : not_one_tree a words ≡ not (eqb made 1)
    unfolding not_one_tree
    made-decides = ap not (s.shape ∙ trees-end (arity a) words made i 1 h)

    pub judged-one : made ≡ 1 → Found (tree_refusals a words) 0
    judged-one e = next no_other (next (made-decides ∙ ap not (eq-eqb made 1 e)) none)

    pub judged-not-one : (made ≡ 1 → ⊥) → Found (tree_refusals a words) 11
    judged-not-one e = next no_other (here (made-decides ∙ ap not (ne_eqb made 1 e)))

  -- b tells whether the part `&words[i..]` has nodes only
  module _ (b : Bool) (e : b ≡ all (is_node a) (take (length words - i) (drop i words))) where
    rest-decides : not_nodes a words ≡ not b
    unfolding not_nodes
    rest-decides = ap not (s.nodes ∙ sym (e ∙ ap (all (is_node a)) (drop-part words i)))

    pub judged-later : b ≡ false → Found (tree_refusals a words) 10
    judged-later f = here (rest-decides ∙ ap not f)

  module _ (h : i < length words) where
    pub judged-no-node : is_node a (get_or words i 0) ≡ false → Found (tree_refusals a words) 10
    unfolding not_nodes
    judged-no-node e = here (ap not (s.nodes ∙ all-fails (is_node a) words i h e))

    -- word i is a node, and r is its arity
    module _ (node : is_node a (get_or words i 0) ≡ true) (r : ℕ) (e : r ≡ arity a (get_or words i 0)) where
      pub judged-lacks : made < r → (b : Bool) → b ≡ all (is_node a) (take (length words - i) (drop i words)) → b ≡ true
          → Found (tree_refusals a words) 11
      unfolding not_one_tree
      judged-lacks l b eb t =
          next (rest-decides b eb ∙ ap not t) (here (ap not (s.shape ∙ trees-lacks (arity a) words made i 1 r h e l)))

      pub judged-more : r ≤ made → ChapterJudged a words (made - r + 1) (i + 1)
      judged-more l =
          let below = s.below in
          record {
            few = omega arith;
            below = omega arith;
            nodes = s.nodes ∙ all-continues (is_node a) words i h node;
            shape = s.shape ∙ trees-continues (arity a) words made i 1 r h e l;
          }

-- where the alphabet has no hole, no word's symbol is one, for `grind`
pub without_holes : (a ch : List ℕ) → has_holes a ≡ false → false ≡ holes_in a ch
without_holes a ch e = sym (holes_in-without a e ch)

-- ---- of a word of the kind the spare bits decide whether it is an element (for `grind`), and no other word is one

pub node_told : (w : ℕ) (k : Case) (s : Bool) → kind_in k ≡ kind_of w → k ≡ Node → s ≡ spare_bits_clear w → s ≡ is_of node_kind w
node_told w k s kind is clear = clear ∙ sym (told-is_of w k kind Node is (omega arith))

pub node_left : (w : ℕ) (k : Case) → kind_in k ≡ kind_of w → (k ≡ Node → ⊥) → false ≡ is_of node_kind w
node_left w k kind other = sym (left-is_of w k kind (Node ∷ []) (other, tt) node_kind refl)
