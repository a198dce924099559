-- Laws, for any arity, of postfix words that make trees, of where subtrees begin, and of a subtree that gives way.
use mathlib.Core.Path.{◌≡◌, refl, ap, ap₂, ◌∙◌, sym, subst}
use mathlib.Core.Bool.{true}
use mathlib.Core.List.{List, [], ◌∷◌, ◌++◌, append_assoc}
use Prim.Native.Nat.{ℕ, zero, suc, ◌+◌, ◌-◌, ◌<◌, ◌≤◌}
use native.Mathlib.Omega.{arith}
use native.Mathlib.Numerals.{add-one}
use native.Mathlib.Nat.{zero-add, suc-add}
use lib.ListN.{length, get_or, take, drop, length-append, length-drop, take-append-drop}
use lib.Seq.{slice, take-suc, drop-append-le, length-take-le, slice_empty, take-take}
use lib.Dec.{leb, eqb}
use borrow.Author.Tests.{le-leb, leb-true, eq-eqb, eqb-true}
use Rattle.words.specs.Shape.{trees_by, one_tree_by, start_from_by, span_of_by, splice_by}
use Rattle.words.proofs.TestLaws.{picked, picks}

-- ---- words that make trees

module _ (arity : ℕ → ℕ) where
  pub trees-append : (l k : List ℕ) (d m t : ℕ) → trees_by arity d l m ≡ true → trees_by arity m k t ≡ true
      → trees_by arity d (l ++ k) t ≡ true
  unfolding trees_by
  trees-append [] k d m t h g = rw (eqb-true d m h) g
  trees-append (w ∷ l) k d m t h g =
      let p = picked (leb (arity w) d) (trees_by arity (d - arity w + 1) l m) h in
      picks (leb (arity w) d) (trees_by arity (d - arity w + 1) (l ++ k) t) p.0 (trees-append l k (d - arity w + 1) m t p.1 g)

  abbrev Split : List ℕ → List ℕ → ℕ → ℕ → Type 0
  Split l k d t = (m : ℕ) × (trees_by arity d l m ≡ true) × (trees_by arity m k t ≡ true)

  pub trees-split : (l k : List ℕ) (d t : ℕ) → trees_by arity d (l ++ k) t ≡ true → Split l k d t
  unfolding trees_by
  trees-split [] k d t h = (d, eq-eqb d d refl, h)
  trees-split (w ∷ l) k d t h =
      let p = picked (leb (arity w) d) (trees_by arity (d - arity w + 1) (l ++ k) t) h in
      let b = trees-split l k (d - arity w + 1) t p.1 in
      (b.0, picks (leb (arity w) d) (trees_by arity (d - arity w + 1) l b.0) p.0 b.1, b.2)

  -- n trees more below make no difference
  trees-more : (l : List ℕ) (d t n : ℕ) → trees_by arity d l t ≡ true → trees_by arity (d + n) l (t + n) ≡ true
  unfolding trees_by
  trees-more [] d t n h = eq-eqb (d + n) (t + n) (ap (λ (x : ℕ). x + n) (eqb-true d t h))
  trees-more (w ∷ l) d t n h =
      let r = arity w in
      let p = picked (leb r d) (trees_by arity (d - r + 1) l t) h in
      let le : r ≤ d = leb-true r d p.0 in
      let q : d + n - r + 1 ≡ d - r + 1 + n = omega arith in
      picks (leb r (d + n)) (trees_by arity (d + n - r + 1) l (t + n)) (le-leb r (d + n) (omega arith))
      (rw q (trees-more l (d - r + 1) t n p.1))

  pub trees-same : (l : List ℕ) (d t t' : ℕ) → trees_by arity d l t ≡ true → trees_by arity d l t' ≡ true → t ≡ t'
  unfolding trees_by
  trees-same [] d t t' h g = sym (eqb-true d t h) ∙ eqb-true d t' g
  trees-same (w ∷ l) d t t' h g =
      let p = picked (leb (arity w) d) (trees_by arity (d - arity w + 1) l t) h in
      let q = picked (leb (arity w) d) (trees_by arity (d - arity w + 1) l t') g in
      trees-same l (d - arity w + 1) t t' p.1 q.1

  -- one tree in the place of another
  trees-replace : (f s x b : List ℕ) → one_tree_by arity s ≡ true → one_tree_by arity x ≡ true → one_tree_by arity (f ++ (s ++ b)) ≡ true
      → one_tree_by arity (f ++ (x ++ b)) ≡ true
  trees-replace f s x b hs hx h =
      let p = trees-split f (s ++ b) 0 1 h in
      let q = trees-split s b p.0 1 p.2 in
      let n : 0 + p.0 ≡ p.0 = zero-add p.0 in
      let hs' : trees_by arity p.0 s (1 + p.0) ≡ true = rw n at (trees-more s 0 1 p.0 hs) in
      let hx' : trees_by arity p.0 x (1 + p.0) ≡ true = rw n at (trees-more x 0 1 p.0 hx) in
      let e : q.0 ≡ 1 + p.0 = trees-same s p.0 q.0 (1 + p.0) q.1 hs' in
      trees-append f (x ++ b) 0 p.0 1 p.1 (trees-append x b p.0 (1 + p.0) 1 hx' (rw e at q.2))

  -- one word more
  pub trees-unsnoc : (l : List ℕ) (d w t : ℕ) → trees_by arity d (l ++ w ∷ []) t ≡ true
      → (m : ℕ) × (trees_by arity d l m ≡ true) × (arity w ≤ m) × (t ≡ m - arity w + 1)
  unfolding trees_by
  trees-unsnoc l d w t h =
      let p = trees-split l (w ∷ []) d t h in
      let q = picked (leb (arity w) p.0) (eqb (p.0 - arity w + 1) t) p.2 in
      (p.0, p.1, leb-true (arity w) p.0 q.0, sym (eqb-true (p.0 - arity w + 1) t q.1))

  pub trees-snoc : (l : List ℕ) (d w m : ℕ) → trees_by arity d l m ≡ true → arity w ≤ m
      → trees_by arity d (l ++ w ∷ []) (m - arity w + 1) ≡ true
  unfolding trees_by
  trees-snoc l d w m h hr =
      trees-append l (w ∷ []) d m (m - arity w + 1) h
      (picks (leb (arity w) m) (eqb (m - arity w + 1) (m - arity w + 1)) (le-leb (arity w) m hr)
      (eq-eqb (m - arity w + 1) (m - arity w + 1) refl))

-- ---- where subtrees begin

-- the run from s to j, and one word more
pub run-snoc : (ch : List ℕ) (s j : ℕ) → s ≤ j → j < length ch → slice s (suc j) ch ≡ slice s j ch ++ get_or ch j 0 ∷ []
run-snoc ch s j hs hj =
    ap (drop s) (take-suc ch j 0 hj)
    ∙ drop-append-le s (take j ch) (get_or ch j 0 ∷ []) (rw (length-take-le j ch (omega arith)) hs)

module _ (arity : ℕ → ℕ) (ch : List ℕ) where
  pub start_from-none : (j : ℕ) → start_from_by arity ch j 0 ≡ j
  unfolding start_from_by
  start_from-none zero = refl
  start_from-none (suc j) = refl

  pub start_from-more : (j n : ℕ) → start_from_by arity ch (suc j) (suc n) ≡ start_from_by arity ch j (n + arity (get_or ch j 0))
  unfolding start_from_by
  start_from-more j n = refl

  -- the last m + n trees begin where the last n of those before the last m begin
  pub start_from-add : (j m n : ℕ) → start_from_by arity ch j (m + n) ≡ start_from_by arity ch (start_from_by arity ch j m) n
  unfolding start_from_by
  start_from-add zero m n = refl
  start_from-add (suc j) zero n = rw zero-add
  start_from-add (suc j) (suc m) n =
      let r = arity (get_or ch j 0) in
      let e : m + n + r ≡ m + r + n = omega arith in
      rw (suc-add, e) (start_from-add j (m + r) n)

  pub start_from-le : (j n : ℕ) → start_from_by arity ch j n ≤ j
  unfolding start_from_by
  start_from-le zero n = omega arith
  start_from-le (suc j) zero = omega arith
  start_from-le (suc j) (suc n) = omega (arith, start_from-le j (n + arity (get_or ch j 0)))

  -- an element's subtree begins where its parts begin
  pub start-parts : (i : ℕ) → (span_of_by arity ch i).start ≡ start_from_by arity ch i (arity (get_or ch i 0))
  start-parts i =
      ap (λ (x : ℕ). start_from_by arity ch x 1) (add-one i) ∙ start_from-more i 0
      ∙ ap (start_from_by arity ch i) (zero-add (arity (get_or ch i 0)))

  pub start-le : (i : ℕ) → (span_of_by arity ch i).start ≤ i
  start-le i = rw start-parts (start_from-le i (arity (get_or ch i 0)))

  -- where no word lacks parts, the run that start_from finds does make n trees
  pub run_is : (j n d : ℕ) → j ≤ length ch → trees_by arity 0 (take j ch) d ≡ true → n ≤ d
      → trees_by arity 0 (slice (start_from_by arity ch j n) j ch) n ≡ true
  unfolding start_from_by trees_by
  run_is zero n d hj h hn =
      let z : 0 ≡ d = eqb-true 0 d h in
      eq-eqb 0 n (omega arith)
  run_is (suc j) zero d hj h hn = rw (slice_empty (suc j) ch)
  run_is (suc j) (suc n) d hj h hn =
      let w = get_or ch j 0 in
      let r = arity w in
      let b = trees-unsnoc arity (take j ch) 0 w d (rw (take-suc ch j 0 hj) at h) in
      let q : n + r - r + 1 ≡ suc n = omega arith in
      let s = start_from_by arity ch j (n + r) in
      rw (run-snoc ch s j (start_from-le j (n + r)) hj, ← q)
      (trees-snoc arity (slice s j ch) 0 w (n + r) (run_is j (n + r) b.0 (omega arith) b.1 (omega (arith, b.2, b.3))) (omega arith))

-- ---- a node's subtree, what stands before it, and what behind

module _ (arity : ℕ → ℕ) (ch : List ℕ) (i : ℕ) (h : one_tree_by arity ch ≡ true) (hi : i < length ch) where
  abbrev front : List ℕ
  front = take (span_of_by arity ch i).start ch

  abbrev sub : List ℕ
  sub = slice (span_of_by arity ch i).start (i + 1) ch

  abbrev behind : List ℕ
  behind = drop (i + 1) ch

  pub front-sub : front ++ sub ≡ take (i + 1) ch
  front-sub =
      let le = start-le arity ch i in
      ap (λ (l : List ℕ). l ++ sub) (sym (take-take (span_of_by arity ch i).start (i + 1) ch (omega arith)))
      ∙ take-append-drop (span_of_by arity ch i).start (take (i + 1) ch)

  pub parts-tree : front ++ (sub ++ behind) ≡ ch
  parts-tree = simp (← append_assoc, front-sub, take-append-drop)

  pub sub-tree : one_tree_by arity sub ≡ true
  sub-tree =
      let p = trees-split arity (take (i + 1) ch) (drop (i + 1) ch) 0 1 (rw (take-append-drop (i + 1) ch) h) in
      let u : take (i + 1) ch ≡ take i ch ++ get_or ch i 0 ∷ [] = ap (λ (k : ℕ). take k ch) (add-one i) ∙ take-suc ch i 0 hi in
      let b = trees-unsnoc arity (take i ch) 0 (get_or ch i 0) p.0 (subst (λ (l : List ℕ). trees_by arity 0 l p.0 ≡ true) u p.1) in
      run_is arity ch (i + 1) 1 p.0 (omega arith) p.1 (omega (arith, b.3))

  pub splice-tree : (x : List ℕ) → one_tree_by arity x ≡ true → one_tree_by arity (splice_by arity ch i x) ≡ true
  unfolding splice_by
  splice-tree x hx = trees-replace arity front sub x behind sub-tree hx (rw parts-tree h)

pub length-splice : (arity : ℕ → ℕ) (ch : List ℕ) (i : ℕ) (x : List ℕ) → i < length ch
    → length (splice_by arity ch i x) ≡ (span_of_by arity ch i).start + (length x + length (drop (i + 1) ch))
unfolding splice_by
length-splice arity ch i x hi =
    let le = start-le arity ch i in
    length-append (take (span_of_by arity ch i).start ch) (x ++ drop (i + 1) ch)
    ∙ ap₂ (λ (j k : ℕ). j + k) (length-take-le (span_of_by arity ch i).start ch (omega arith)) (length-append x (drop (i + 1) ch))

-- the same by counts: the words before the subtree, the new ones, and those behind
pub splice-count : (arity : ℕ → ℕ) (ch : List ℕ) (i s : ℕ) (x : List ℕ) → i < length ch → s ≡ (span_of_by arity ch i).start
    → s + length x + (length ch - i - 1) ≡ length (splice_by arity ch i x)
splice-count arity ch i s x h q =
    let n = length-drop (i + 1) ch in
    ap (λ (k : ℕ). k + length x + (length ch - i - 1)) q ∙ omega (arith, length-splice arity ch i x h)
