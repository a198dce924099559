-- Hole-free trees (document 02, U8): 26 asks exactly for them, and over an alphabet without holes every tree is one.
use mathlib.Core.Path.{◌≡◌, refl, ap, ◌∙◌, sym}
use mathlib.Core.Logic.{◌↔◌}
use mathlib.Core.Bool.{Bool, false, ◌||◌}
use mathlib.Core.List.{List, [], ◌∷◌}
use Prim.Native.Nat.{ℕ, ◌≤◌}
use native.Mathlib.Omega.{arith}
use lib.ListN.{length}
use Rattle.words.specs.Lists.{some}
use Rattle.words.specs.Limits.{alphabet_most}
use Rattle.words.specs.Word.{node_kind, word_of}
use Rattle.words.specs.Alphabet.{is_hole, has_holes}
use Rattle.words.specs.Tree.{Tree, Trees, node, none, more, postfix, postfix_all}
use Rattle.words.specs.Chapter.{symbol_of, holes_in}
use Rattle.words.proofs.TestLaws.{or-false, false-or, or-none, some-append}
use Rattle.words.proofs.WordLaws.{symbol_of-word_of}
use Rattle.words.proofs.RelabelLaws.{relabel_all}
use Rattle.words.proofs.HoleLaws.{is_hole-without}
use Rattle.language.specs.Expression.{TreeOver, TreesOver, HoleFree, HoleFreeAll, SubjectOf}
use Rattle.language.proofs.SubjectLaws.{word_tree, subject-words}

module _ (a : List ℕ) (m : length a ≤ alphabet_most) where
  -- the test of 26, and the words of a node's children
  abbrev hole_at : ℕ → Bool
  hole_at w = is_hole a (symbol_of w)

  abbrev child_words : Trees → List ℕ
  child_words ts = postfix_all (relabel_all (λ s. word_of node_kind s) ts)

  mutual
    free : (t : Tree) → TreeOver a t → (some hole_at (postfix (word_tree t)) ≡ false) ↔ HoleFree a t
    free (node s ts) o =
        let l = o.0 in
        let r = free_all ts o.2 in
        let own : some hole_at (word_of node_kind s ∷ []) ≡ is_hole a s =
        or-none (hole_at (word_of node_kind s)) ∙ ap (is_hole a) (symbol_of-word_of s (omega arith)) in
        let e = some-append hole_at (child_words ts) (word_of node_kind s ∷ []) ∙ ap (λ (b : Bool). some hole_at (child_words ts) || b) own in (
          (λ h. let p = or-false (some hole_at (child_words ts)) (is_hole a s) (sym e ∙ h) in (p.1, r.0 p.0)),
          (λ h. e ∙ false-or (some hole_at (child_words ts)) (is_hole a s) (r.1 h.1) h.0),
        )

    free_all : (ts : Trees) → TreesOver a ts → (some hole_at (child_words ts) ≡ false) ↔ HoleFreeAll a ts
    free_all none o = ((λ h. tt), (λ h. refl))
    free_all (more t ts) o =
        let q = free t o.0 in
        let r = free_all ts o.1 in
        let e = some-append hole_at (postfix (word_tree t)) (child_words ts) in (
          (λ h.
              let p = or-false (some hole_at (postfix (word_tree t))) (some hole_at (child_words ts)) (sym e ∙ h) in
              (q.0 p.0, r.0 p.1)),
          (λ h. e ∙ false-or (some hole_at (postfix (word_tree t))) (some hole_at (child_words ts)) (q.1 h.0) (r.1 h.1)),
        )

  -- 26 does not apply to the words of a tree exactly if it is hole-free
  pub subject-hole_free : (ch : List ℕ) (t : Tree) → SubjectOf a ch t → (holes_in a ch ≡ false) ↔ HoleFree a t
  unfolding holes_in
  subject-hole_free ch t k =
      let e : some hole_at (postfix (word_tree t)) ≡ some hole_at ch = ap (some hole_at) (subject-words a m ch t k).words in
      let f = free t k.over in
      ((λ h. f.0 (e ∙ h)), (λ h. sym e ∙ f.1 h))

-- "Without holes all reads as before"
module _ (a : List ℕ) (e : has_holes a ≡ false) where
  mutual
    pub hole_free-without : (t : Tree) → HoleFree a t
    hole_free-without (node f ts) = (is_hole-without a e f, hole_free-without_all ts)

    hole_free-without_all : (ts : Trees) → HoleFreeAll a ts
    hole_free-without_all none = tt
    hole_free-without_all (more t ts) = (hole_free-without t, hole_free-without_all ts)
