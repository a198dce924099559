-- How many roots are pending while the words of a tree are read: as its height allows, where no word takes more than `rank_most` children.
use mathlib.Core.Path.{◌≡◌, refl, ap, ◌∙◌, sym}
use mathlib.Core.Bool.{true}
use mathlib.Core.List.{List, [], ◌∷◌, ◌++◌}
use Prim.Native.Nat.{ℕ, zero, suc, ◌+◌, ◌-◌, ◌*◌, ◌<◌, ◌≤◌, max}
use native.Mathlib.Omega.{arith}
use native.Mathlib.Numerals.{add-one}
use lib.ListN.{length, take, drop, length-drop, take-append-drop}
use lib.Seq.{take-take, take-append-le, take-append-add}
use Rattle.words.specs.Limits.{rank_most}
use Rattle.words.specs.Tree.{Tree, Trees, node, none, more, number, postfix, postfix_all, height, height_all}
use Rattle.words.specs.Shape.{one_tree_by, stack_given_by, roots_by, height_of_by, span_of_by, subtree_of_by}
use Rattle.words.proofs.RankedTree.{Ranked, RankedAll}
use Rattle.words.proofs.PostfixLaws.{start-le, sub-tree}
use Rattle.words.proofs.TreeLaws.{TreeOf, exactly-one-tree}
use Rattle.words.proofs.HeightLaws.{height-tree}

-- no more children than the height of theirs allows
number-few : (ts : Trees) → number ts ≤ rank_most → number ts ≤ 3 * height_all ts + 1
number-few none h = omega arith
number-few (more (node w us) ts) h = omega arith

module _ (arity : ℕ → ℕ) where
  -- how many trees there are behind the words, over d trees
  abbrev pending_after : ℕ → List ℕ → ℕ
  pending_after d [] = d
  pending_after d (w ∷ ws) = pending_after (d - arity w + 1) ws

  -- the most there are before or behind any of the words
  abbrev pending_most : ℕ → List ℕ → ℕ
  pending_most d [] = d
  pending_most d (w ∷ ws) = max d (pending_most (d - arity w + 1) ws)

  -- ---- words in parts

  after-append : (l k : List ℕ) (d : ℕ) → pending_after d (l ++ k) ≡ pending_after (pending_after d l) k
  after-append [] k d = refl
  after-append (w ∷ l) k d = after-append l k (d - arity w + 1)

  most-append : (l k : List ℕ) (d : ℕ) → pending_most d (l ++ k) ≤ max (pending_most d l) (pending_most (pending_after d l) k)
  most-append [] k d = omega arith
  most-append (w ∷ l) k d = let h = most-append l k (d - arity w + 1) in omega arith

  most-take : (l : List ℕ) (n d : ℕ) → pending_after d (take n l) ≤ pending_most d l
  most-take [] zero d = omega arith
  most-take [] (suc n) d = omega arith
  most-take (w ∷ l) zero d = omega arith
  most-take (w ∷ l) (suc n) d = let h = most-take l n (d - arity w + 1) in omega arith

  -- ---- the words of trees

  mutual
    after-tree : (t : Tree) (d : ℕ) → Ranked arity t → pending_after d (postfix t) ≡ d + 1
    after-tree (node w ts) d r =
        let e = after-append (postfix_all ts) (w ∷ []) d in
        let h = after-trees ts d r.1 in
        let n = r.0 in
        omega arith

    after-trees : (ts : Trees) (d : ℕ) → RankedAll arity ts → pending_after d (postfix_all ts) ≡ d + number ts
    after-trees none d r = omega arith
    after-trees (more t ts) d r =
        let e : d + 1 + number ts ≡ d + suc (number ts) = omega arith in
        after-append (postfix t) (postfix_all ts) d ∙ ap (λ (x : ℕ). pending_after x (postfix_all ts)) (after-tree t d r.0)
        ∙ after-trees ts (d + 1) r.1 ∙ e

  -- words that make one tree are those of a tree
  after-words : (ws : List ℕ) (t : Tree) (d : ℕ) → TreeOf arity ws t → pending_after d ws ≡ d + 1
  after-words ws t d h = ap (pending_after d) (sym h.words) ∙ after-tree t d h.ranked

  after_one : (ws : List ℕ) (d : ℕ) → one_tree_by arity ws ≡ true → pending_after d ws ≡ d + 1
  after_one ws d h = let x = exactly-one-tree arity ws h in after-words ws x.the d x.has

  -- ---- the roots

  given-pending : {A : Type 0} (f : ℕ → A) (ws : List ℕ) (j : ℕ) (s : List A)
      → length (stack_given_by arity f j ws s) ≡ pending_after (length s) ws
  unfolding stack_given_by
  given-pending f [] j s = refl
  given-pending f (w ∷ ws) j s =
      let e : suc (length (drop (arity w) s)) ≡ length s - arity w + 1 =
      rw (length-drop (arity w) s) (sym (add-one (length s - arity w))) in
      given-pending f ws (suc j) (f j ∷ drop (arity w) s) ∙ ap (λ (x : ℕ). pending_after x ws) e

  roots-after : (ws : List ℕ) (i : ℕ) → length (roots_by arity ws i) ≡ pending_after 0 (take i ws)
  roots-after ws i = given-pending (λ k. k) (take i ws) 0 []

  -- behind a node there is one root more than before its subtree
  pub pending-subtree : (ws : List ℕ) (i : ℕ) → one_tree_by arity ws ≡ true → i < length ws
      → length (roots_by arity ws (i + 1)) ≡ length (roots_by arity ws (span_of_by arity ws i).start) + 1
  pending-subtree ws i h l =
      let start = (span_of_by arity ws i).start in
      let sub = subtree_of_by arity ws i in
      let le = start-le arity ws i in
      let parts : take (i + 1) ws ≡ take start ws ++ sub =
      sym (take-append-drop start (take (i + 1) ws))
      ∙ ap (λ (x : List ℕ). x ++ sub) (take-take start (i + 1) ws (omega arith)) in
      roots-after ws (i + 1) ∙ ap (pending_after 0) parts ∙ after-append (take start ws) sub 0
      ∙ after_one sub (pending_after 0 (take start ws)) (sub-tree arity ws i h l)
      ∙ ap (λ (x : ℕ). x + 1) (sym (roots-after ws start))

  -- no fewer over more trees
  after_more : (ws : List ℕ) (d n : ℕ) → d ≤ n → pending_after d ws ≤ pending_after n ws
  after_more [] d n h = h
  after_more (w ∷ ws) d n h = after_more ws (d - arity w + 1) (n - arity w + 1) (omega arith)

  module _ (few : (w : ℕ) → arity w ≤ rank_most) where
    mutual
      most-tree : (t : Tree) (d : ℕ) → Ranked arity t → pending_most d (postfix t) ≤ d + 3 * (height t - 1) + 1
      most-tree (node w ts) d r =
          let p = most-append (postfix_all ts) (w ∷ []) d in
          let q = most-trees ts d r.1 in
          let e = after-trees ts d r.1 in
          let n = r.0 in
          let f = number-few ts (omega (arith, few w)) in
          omega (arith, few w)

      most-trees : (ts : Trees) (d : ℕ) → RankedAll arity ts → pending_most d (postfix_all ts) ≤ d + number ts + 3 * (height_all ts - 1)
      most-trees none d r = omega arith
      most-trees (more t ts) d r =
          let p = most-append (postfix t) (postfix_all ts) d in
          let q = most-tree t d r.0 in
          let s : pending_most (pending_after d (postfix t)) (postfix_all ts) ≤ d + 1 + number ts + 3 * (height_all ts - 1) =
          rw (after-tree t d r.0) (most-trees ts (d + 1) r.1) in
          omega arith

    most-words : (ws : List ℕ) (t : Tree) → TreeOf arity ws t → pending_most 0 ws ≤ 3 * (height_of_by arity ws - 1) + 1
    most-words ws t h =
        let e : pending_most 0 (postfix t) ≡ pending_most 0 ws = ap (pending_most 0) h.words in
        omega (arith, e, most-tree t 0 h.ranked, height-tree arity ws t h)

    most-one : (ws : List ℕ) → one_tree_by arity ws ≡ true → pending_most 0 ws ≤ 3 * (height_of_by arity ws - 1) + 1
    most-one ws h = let x = exactly-one-tree arity ws h in most-words ws x.the x.has

    -- while the words of a tree are read
    pub roots-pending : (ws : List ℕ) (i : ℕ) → one_tree_by arity ws ≡ true
        → length (roots_by arity ws i) ≤ 3 * (height_of_by arity ws - 1) + 1
    roots-pending ws i h = omega (arith, roots-after ws i, most-take ws i 0, most-one ws h)

    -- and while a part of them is read alone
    pub part-pending : (front xs behind : List ℕ) (k : ℕ) → k ≤ length xs → one_tree_by arity (front ++ (xs ++ behind)) ≡ true
        → length (roots_by arity xs k) ≤ 3 * (height_of_by arity (front ++ (xs ++ behind)) - 1) + 1
    part-pending front xs behind k l h =
        let ws = front ++ (xs ++ behind) in
        let e : take (length front + k) ws ≡ front ++ take k xs =
        take-append-add front (xs ++ behind) k ∙ ap (λ (x : List ℕ). front ++ x) (take-append-le k xs behind l) in
        let a : pending_after 0 (take (length front + k) ws) ≡ pending_after (pending_after 0 front) (take k xs) =
        ap (pending_after 0) e ∙ after-append front (take k xs) 0 in
        let m = after_more (take k xs) 0 (pending_after 0 front) (omega arith) in
        omega (arith, a, roots-after xs k, most-take ws (length front + k) 0, most-one ws h)
