-- Heights by the stack reading are those of exactly the trees whose words are read: of the whole, of a node's span, and with a
-- subtree put in place, where the words before, the new ones and those behind are read one after the other with one stack.
use mathlib.Core.Path.{◌≡◌, refl, ap, ap₂, ◌∙◌, sym, subst}
use mathlib.Core.Bool.{true}
use mathlib.Core.List.{List, [], ◌∷◌, ◌++◌}
use Prim.Native.Nat.{ℕ, zero, suc, ◌+◌, ◌<◌, ◌≤◌, max}
use native.Mathlib.Omega.{arith}
use lib.ListN.{length, get_or, take, drop}
use lib.Seq.{take-length}
use Rattle.words.specs.Lists.{highest}
use Rattle.words.specs.Tree.{Tree, Trees, node, none, more, height, height_all}
use Rattle.words.specs.Shape.{one_tree_by, value_on_by, stack_after_by, height_over, height_of_by, span_of_by, subtree_of_by, splice_by}
use Rattle.words.proofs.HighestLaws.{highest-take, highest-drop, highest-reverse, at-most-highest}
use Rattle.words.proofs.TreeFold.{fold, fold_all}
use Rattle.words.proofs.ReadingLaws.{stack-tree}
use Rattle.words.proofs.StackLaws.{stack-append, Read, read}
use Rattle.words.proofs.TreeLaws.{TreeOf}
use Rattle.words.proofs.PostfixLaws.{sub-tree, parts-tree}
use Rattle.words.proofs.SubtreeMeaning.{subtree-run}

-- ---- the fold of a tree by `height_over` is its height

mutual
  unfolding highest height_over

  fold-height : (t : Tree) → fold height_over t ≡ height t
  fold-height (node w ts) = ap suc (fold-heights ts)

  fold-heights : (ts : Trees) → highest (fold_all height_over ts) ≡ height_all ts
  fold-heights none = refl
  fold-heights (more t ts) = ap₂ max (fold-height t) (fold-heights ts)

module _ (arity : ℕ → ℕ) where
  -- the stack of heights behind the words
  abbrev after : List ℕ → List ℕ → List ℕ
  after = stack_after_by arity height_over

  -- ---- the height of words is that of their tree

  pub height-tree : (ws : List ℕ) (t : Tree) → TreeOf arity ws t → height_of_by arity ws ≡ height t
  unfolding height_of_by
  height-tree ws t h =
      ap (λ (s : List ℕ). get_or s 0 0)
      (ap (λ (l : List ℕ). after l []) (sym h.words) ∙ stack-tree arity height_over t [] h.ranked)
      ∙ fold-height t

  -- the root's span is the whole
  pub root-span : (ws : List ℕ) (i : ℕ) → one_tree_by arity ws ≡ true → i + 1 ≡ length ws
      → span_of_by arity ws i ≡ record { start = 0; height = height_of_by arity ws }
  root-span ws i h e =
      let t : take (i + 1) ws ≡ ws = ap (λ (n : ℕ). take n ws) e ∙ take-length ws in
      let s : (span_of_by arity ws i).start ≡ 0 =
      subtree-run arity ws i 0 (omega arith) (omega arith) (subst (λ (l : List ℕ). one_tree_by arity l ≡ true) (sym t) h) in
      let w : subtree_of_by arity ws i ≡ ws = ap (λ (n : ℕ). drop n (take (i + 1) ws)) s ∙ t in
      ap₂ (λ (s h : ℕ). record { start = s; height = h }) s (ap (height_of_by arity) w)

  -- ---- a word makes the highest height at most one more

  pub word-highest : (w : ℕ) (s : List ℕ) → value_on_by arity height_over w s ≤ suc (highest s)
  unfolding value_on_by height_over
  word-highest w s =
      let p = highest-reverse (take (arity w) s) in
      let q = highest-take (arity w) s in
      omega arith

  pub highest-after : (ws s : List ℕ) → highest (after ws s) ≤ highest s + length ws
  unfolding stack_after_by highest
  highest-after [] s = omega arith
  highest-after (w ∷ ws) s =
      let h = highest-after ws (value_on_by arity height_over w s ∷ drop (arity w) s) in
      let p = word-highest w s in
      let q = highest-drop (arity w) s in
      omega arith

  pub height-few : (ws : List ℕ) → height_of_by arity ws ≤ length ws
  unfolding height_of_by highest
  height-few ws =
      let p = at-most-highest (after ws []) 0 in
      let q = highest-after ws [] in
      omega arith

  -- ---- a subtree put in place

  -- three runs of words, one after the other
  pub height-runs : (before xs behind : List ℕ)
      → height_of_by arity (before ++ (xs ++ behind)) ≡ get_or (after behind (after xs (after before []))) 0 0
  unfolding height_of_by
  height-runs before xs behind =
      ap (λ (s : List ℕ). get_or s 0 0)
      (stack-append arity height_over before (xs ++ behind) [] ∙ stack-append arity height_over xs behind (after before []))

  -- no height on the first stack is more than d above that at the same place on the second
  abbrev Raised : ℕ → List ℕ → List ℕ → Type 0
  Raised d [] t = Unit {0}
  Raised d (x ∷ s) [] = ⊥
  Raised d (x ∷ s) (y ∷ t) = (x ≤ y + d) × Raised d s t

  raised-same : (d : ℕ) (s : List ℕ) → Raised d s s
  raised-same d [] = tt
  raised-same d (x ∷ s) = (omega arith, raised-same d s)

  raised-take : (d n : ℕ) (s t : List ℕ) → Raised d s t → highest (take n s) ≤ highest (take n t) + d
  unfolding highest
  raised-take d zero s t r = omega arith
  raised-take d (suc n) [] t r = omega arith
  raised-take d (suc n) (x ∷ s) [] r = absurd r
  raised-take d (suc n) (x ∷ s) (y ∷ t) r =
      let h = raised-take d n s t r.1 in
      let p = r.0 in
      omega arith

  raised-drop : (d n : ℕ) (s t : List ℕ) → Raised d s t → Raised d (drop n s) (drop n t)
  raised-drop d zero s t r = r
  raised-drop d (suc n) [] t r = tt
  raised-drop d (suc n) (x ∷ s) [] r = absurd r
  raised-drop d (suc n) (x ∷ s) (y ∷ t) r = raised-drop d n s t r.1

  raised-word : (d w : ℕ) (s t : List ℕ) → Raised d s t → value_on_by arity height_over w s ≤ value_on_by arity height_over w t + d
  unfolding value_on_by height_over
  raised-word d w s t r =
      let p = raised-take d (arity w) s t r in
      let e = highest-reverse (take (arity w) s) in
      let f = highest-reverse (take (arity w) t) in
      omega arith

  raised-after : (d : ℕ) (ws s t : List ℕ) → Raised d s t → Raised d (after ws s) (after ws t)
  unfolding stack_after_by
  raised-after d [] s t r = r
  raised-after d (w ∷ ws) s t r =
      raised-after d ws (value_on_by arity height_over w s ∷ drop (arity w) s) (value_on_by arity height_over w t ∷ drop (arity w) t)
      (raised-word d w s t r, raised-drop d (arity w) s t r)

  raised-first : (d : ℕ) (s t : List ℕ) → Raised d s t → get_or s 0 0 ≤ get_or t 0 0 + d
  raised-first d [] t r = omega arith
  raised-first d (x ∷ s) [] r = absurd r
  raised-first d (x ∷ s) (y ∷ t) r = r.0

  -- the result is at most as much higher as the new subtree is high
  module _ (ws : List ℕ) (i : ℕ) (xs : List ℕ) (h : one_tree_by arity ws ≡ true) (hi : i < length ws) (hx : one_tree_by arity xs ≡ true) where
    abbrev start : ℕ
    start = (span_of_by arity ws i).start

    abbrev front : List ℕ
    front = after (take start ws) []

    abbrev old : Read arity height_over (subtree_of_by arity ws i)
    old = read arity height_over (subtree_of_by arity ws i) (sub-tree arity ws i h hi)

    abbrev new : Read arity height_over xs
    new = read arity height_over xs hx

    height-old : height_of_by arity ws ≡ get_or (after (drop (i + 1) ws) (old.root ∷ front)) 0 0
    height-old =
        ap (height_of_by arity) (sym (parts-tree arity ws i h hi))
        ∙ height-runs (take start ws) (subtree_of_by arity ws i) (drop (i + 1) ws)
        ∙ ap (λ (s : List ℕ). get_or (after (drop (i + 1) ws) s) 0 0) (old.stack-on front)

    height-new : height_of_by arity (splice_by arity ws i xs) ≡ get_or (after (drop (i + 1) ws) (new.root ∷ front)) 0 0
    unfolding splice_by
    height-new =
        height-runs (take start ws) xs (drop (i + 1) ws)
        ∙ ap (λ (s : List ℕ). get_or (after (drop (i + 1) ws) s) 0 0) (new.stack-on front)

    raised-result : (d : ℕ) → new.root ≤ old.root + d → height_of_by arity (splice_by arity ws i xs) ≤ height_of_by arity ws + d
    raised-result d h =
        let behind = drop (i + 1) ws in
        let p = raised-after d behind (new.root ∷ front) (old.root ∷ front) (h, raised-same d front) in
        rw (height-new, height-old) (raised-first d (after behind (new.root ∷ front)) (after behind (old.root ∷ front)) p)

    height-root : height_of_by arity xs ≡ new.root
    unfolding height_of_by
    height-root = ap (λ (s : List ℕ). get_or s 0 0) new.alone

    pub splice-height-most : height_of_by arity (splice_by arity ws i xs) ≤ height_of_by arity ws + height_of_by arity xs
    splice-height-most = raised-result (height_of_by arity xs) (omega (arith, height-root))

    -- and no higher, if the new subtree is no higher than the old one
    pub splice-height-kept : height_of_by arity xs ≤ (span_of_by arity ws i).height
        → height_of_by arity (splice_by arity ws i xs) ≤ height_of_by arity ws
    unfolding height_of_by
    splice-height-kept h =
        let e : (span_of_by arity ws i).height ≡ old.root = ap (λ (s : List ℕ). get_or s 0 0) old.alone in
        omega (arith, raised-result 0 (omega (arith, height-root)))
