-- The definitions of postfix order say what document 01's sentences say: an element's subtree is the one run of words that ends at
-- it and makes one tree, and it is its parts' subtrees, from left to right, and then its own word.
use mathlib.Core.Path.{◌≡◌, refl, ap, ap₂, ◌∙◌, sym, subst}
use mathlib.Core.Bool.{true}
use mathlib.Core.List.{List, [], ◌∷◌, ◌++◌, flat_map, reverse, reverse-append, append_assoc}
use Prim.Native.Nat.{ℕ, zero, suc, ◌+◌, ◌-◌, ◌<◌, ◌≤◌}
use native.Mathlib.Omega.{arith}
use native.Mathlib.Decide.{dec_le}
use native.Mathlib.Numerals.{add-one}
use lib.ListN.{length, get_or, take, drop, length-reverse, take-append-drop}
use lib.Seq.{slice, slice_empty, take-suc, take-take, length-take-le, split_at, get_or-drop, drop-append-le}
use borrow.Author.Tests.{eqb-true}
use Rattle.words.specs.Shape.{trees_by, one_tree_by, start_from_by, span_of_by, subtree_of_by, stack_given_by, roots_by, children_of_by}
use Rattle.words.proofs.PostfixLaws.{trees-split, trees-unsnoc, trees-same, start_from-none, start_from-add, start_from-le}
use Rattle.words.proofs.PostfixLaws.{start-parts, start-le, run_is, run-snoc}
use Rattle.words.proofs.ChildLaws.{given-height, roots-more}

-- two parts of a list side by side
slice-slice : {A : Type 0} (l : List A) (s m t : ℕ) → s ≤ m → m ≤ t → t ≤ length l → slice s m l ++ slice m t l ≡ slice s t l
slice-slice {A} l s m t hs hm ht =
    let q : take m (take t l) ≡ take m l = take-take m t l hm in
    let n : length (take m l) ≡ m = length-take-le m l (omega arith) in
    sym (drop-append-le s (take m l) (slice m t l) (rw n hs))
    ∙ ap (drop s) (ap (λ (x : List A). x ++ slice m t l) (sym q) ∙ take-append-drop m (take t l))

-- ---- the run of words that ends at a node and makes one tree

module _ (arity : ℕ → ℕ) (ws : List ℕ) where
  -- whatever run makes n trees up to j, it begins where start_from says
  run-start : (j n s : ℕ) → s ≤ j → j ≤ length ws → trees_by arity 0 (slice s j ws) n ≡ true → start_from_by arity ws j n ≡ s
  unfolding start_from_by trees_by
  run-start zero n s hs hj h = omega arith
  run-start (suc j) n s hs hj h = go (dec_le s j) (run-start j)
    where
      go : Dec (s ≤ j) → ((n s : ℕ) → s ≤ j → j ≤ length ws → trees_by arity 0 (slice s j ws) n ≡ true → start_from_by arity ws j n ≡ s)
          → start_from_by arity ws (suc j) n ≡ s
      go (yes k) ih =
          let r = arity (get_or ws j 0) in
          let b = trees-unsnoc arity (slice s j ws) 0 (get_or ws j 0) n (rw (run-snoc ws s j k hj) at h) in
          let z : b.0 - r + r ≡ b.0 = omega (arith, b.2) in
          ap (start_from_by arity ws (suc j)) (b.3 ∙ add-one (b.0 - r)) ∙ ap (start_from_by arity ws j) z ∙ ih b.0 s k (omega arith) b.1
      go (no k) ih =
          let q : s ≡ suc j = omega arith in
          let z : 0 ≡ n = eqb-true 0 n (rw (q, slice_empty (suc j) ws) at h) in
          ap (start_from_by arity ws (suc j)) (sym z) ∙ sym q

  -- "the run of words that ends at it and makes one tree": there is no other
  pub subtree-run : (i s : ℕ) → s ≤ i → i < length ws → one_tree_by arity (slice s (i + 1) ws) ≡ true → (span_of_by arity ws i).start ≡ s
  subtree-run i s hs hi h = run-start (i + 1) 1 s (omega arith) (omega arith) h

-- ---- a node's children

module _ (arity : ℕ → ℕ) (ws : List ℕ) where
  -- place k from the top is the root of the tree that ends where the last k trees begin
  roots-start : (j k : ℕ) → j ≤ length ws → get_or (roots_by arity ws j) k 0 ≡ start_from_by arity ws j k - 1
  unfolding start_from_by stack_given_by
  roots-start zero k h = omega arith
  roots-start (suc j) zero h = ap (λ (l : List ℕ). get_or l 0 0) (roots-more arity ws j h) ∙ omega arith
  roots-start (suc j) (suc k) h =
      let r = arity (get_or ws j 0) in
      let q : r + k ≡ k + r = omega arith in
      ap (λ (l : List ℕ). get_or l (suc k) 0) (roots-more arity ws j h) ∙ get_or-drop r (roots_by arity ws j) k 0
      ∙ ap (λ (i : ℕ). get_or (roots_by arity ws j) i 0) q ∙ roots-start j (k + r) (omega arith)

module _ (arity : ℕ → ℕ) (ws : List ℕ) (j d : ℕ) (hj : j ≤ length ws) (h : trees_by arity 0 (take j ws) d ≡ true) where
  roots-height : length (roots_by arity ws j) ≡ d
  roots-height = given-height arity (λ k. k) (take j ws) 0 [] d h

  -- fewer than all trees do not reach back to the first word
  start-above : (n : ℕ) → n < d → 0 < start_from_by arity ws j n
  start-above n l = go (start_from_by arity ws j n) refl
    where
      go : (s : ℕ) → start_from_by arity ws j n ≡ s → 0 < s
      go zero e =
          let u : trees_by arity 0 (take j ws) n ≡ true =
          subst (λ (s : ℕ). trees_by arity 0 (slice s j ws) n ≡ true) e (run_is arity ws j n d hj h (omega arith)) in
          let z : n ≡ d = trees-same arity (take j ws) 0 n d u h in
          absurd (omega arith)
      go (suc s) e = omega arith

  -- the subtrees of the last n roots on the stack, side by side
  roots-words : (n : ℕ) → n ≤ d
      → flat_map (subtree_of_by arity ws) (reverse (take n (roots_by arity ws j))) ≡ slice (start_from_by arity ws j n) j ws
  unfolding flat_map
  roots-words zero l = sym (ap (λ (s : ℕ). slice s j ws) (start_from-none arity ws j) ∙ slice_empty j ws)
  roots-words (suc n) l =
      let N = roots_by arity ws j in
      let s = start_from_by arity ws j n in
      let z = start-above n l in
      let k : get_or N n 0 ≡ s - 1 = roots-start arity ws j n hj in
      let e : s - 1 + 1 ≡ s = omega arith in
      let p : start_from_by arity ws s 1 ≡ start_from_by arity ws j (suc n) =
      sym (start_from-add arity ws j n 1) ∙ ap (start_from_by arity ws j) (add-one n) in
      let q : (span_of_by arity ws (s - 1)).start ≡ start_from_by arity ws j (suc n) = ap (λ (x : ℕ). start_from_by arity ws x 1) e ∙ p in
      let r : reverse (take (suc n) N) ≡ (s - 1) ∷ reverse (take n N) =
      ap reverse (take-suc N n 0 (rw roots-height l)) ∙ reverse-append (take n N) (get_or N n 0 ∷ [])
      ∙ ap (λ (x : ℕ). x ∷ reverse (take n N)) k in
      ap (flat_map (subtree_of_by arity ws)) r
      ∙ ap₂ (λ (x y : List ℕ). x ++ y) (ap₂ (λ (x y : ℕ). slice x y ws) q e) (roots-words n (omega arith))
      ∙ slice-slice ws (start_from_by arity ws j (suc n)) s j (rw p at (start_from-le arity ws s 1)) (start_from-le arity ws j n) hj

module _ (arity : ℕ → ℕ) (ws : List ℕ) (i : ℕ) (h : one_tree_by arity ws ≡ true) (hi : i < length ws) where
  -- the words before word i make at least as many trees as it takes
  trees-before : (d : ℕ) × (trees_by arity 0 (take i ws) d ≡ true) × (arity (get_or ws i 0) ≤ d)
  trees-before =
      let p = trees-split arity (take i ws ++ get_or ws i 0 ∷ []) (drop (suc i) ws) 0 1
      (subst (λ (l : List ℕ). trees_by arity 0 l 1 ≡ true)
      (split_at ws i 0 hi ∙ sym (append_assoc (take i ws) (get_or ws i 0 ∷ []) (drop (suc i) ws))) h) in
      let b = trees-unsnoc arity (take i ws) 0 (get_or ws i 0) p.0 p.1 in
      (b.0, b.1, b.2)

  -- a node has as many children as its word takes
  pub children-number : length (children_of_by arity ws i) ≡ arity (get_or ws i 0)
  unfolding children_of_by
  children-number =
      let b = trees-before in
      let r = arity (get_or ws i 0) in
      length-reverse (take r (roots_by arity ws i))
      ∙ length-take-le r (roots_by arity ws i) (rw (roots-height arity ws i b.0 (omega arith) b.1) b.2)

  -- "parts first and from left to right": a subtree is the subtrees of the children and then the node's own word
  pub children-subtrees : subtree_of_by arity ws i ≡ flat_map (subtree_of_by arity ws) (children_of_by arity ws i) ++ get_or ws i 0 ∷ []
  unfolding children_of_by
  children-subtrees =
      let b = trees-before in
      let r = arity (get_or ws i 0) in
      let s = (span_of_by arity ws i).start in
      ap (λ (n : ℕ). slice s n ws) (add-one i) ∙ run-snoc ws s i (start-le arity ws i) hi
      ∙ ap (λ (l : List ℕ). l ++ get_or ws i 0 ∷ [])
      (ap (λ (s : ℕ). slice s i ws) (start-parts arity ws i) ∙ sym (roots-words arity ws i b.0 (omega arith) b.1 r b.2))
