-- A node has fewer ancestors than its tree is high: on the stack of heights, the tree that holds the node is higher than there are
-- ancestors so far.
use mathlib.Core.Path.{◌≡◌, refl, ap, ◌∙◌}
use mathlib.Core.Bool.{Bool, true, false, cond}
use mathlib.Core.List.{List, [], ◌∷◌, ◌++◌}
use Prim.Native.Nat.{ℕ, zero, suc, ◌+◌, ◌-◌, ◌<◌, ◌≤◌}
use native.Mathlib.Omega.{arith}
use native.Mathlib.Nat.{add-zero, add-suc}
use native.Mathlib.Numerals.{add-one}
use native.Mathlib.Decide.{dec_lt}
use lib.ListN.{length, get_or, take, drop, length-append}
use lib.Seq.{take-suc, take_all, get_or-take, get_or-drop}
use Rattle.words.specs.Shape.{value_on_by, stack_after_by, height_over, height_of_by}
use Rattle.words.specs.Postfix.{arity, is_ancestor, one_tree, height_of}
use Rattle.words.proofs.HighestLaws.{highest-reverse, at-most-highest}
use Rattle.words.proofs.StackLaws.{stack-append, read}
use Rattle.words.proofs.HoldingLaws.{HoldingTree, holding-first, takes-others, holding-others, takes-holding, holding-ancestor}
use Rattle.totals.specs.Place.{numbers_where, ancestors_of}
use Rattle.totals.proofs.NumberLaws.{numbers_more}

-- ---- one word on the stack of heights

module _ (arity : ℕ → ℕ) (w : ℕ) (s : List ℕ) where
  value-some : 0 < value_on_by arity height_over w s
  unfolding value_on_by height_over
  value-some = omega arith

  -- higher than each tree that it takes
  value-high : (d : ℕ) → d < arity w → get_or s d 0 < value_on_by arity height_over w s
  unfolding value_on_by height_over
  value-high d l =
      let here = get_or-take (arity w) s d 0 l in
      let most = at-most-highest (take (arity w) s) d in
      let back = highest-reverse (take (arity w) s) in
      omega arith

  -- a tree that it does not take
  value-beside : (d : ℕ) → arity w ≤ d → get_or (value_on_by arity height_over w s ∷ drop (arity w) s) (d - arity w + 1) 0 ≡ get_or s d 0
  value-beside d l =
      let n : arity w + (d - arity w) ≡ d = omega arith in
      ap (λ (k : ℕ). get_or (value_on_by arity height_over w s ∷ drop (arity w) s) k 0) (add-one (d - arity w))
      ∙ get_or-drop (arity w) s (d - arity w) 0 ∙ ap (λ (k : ℕ). get_or s k 0) n

-- ---- the words behind the node

module _ (a ch : List ℕ) (i : ℕ) where
  abbrev above : ℕ → Bool
  above = is_ancestor a ch i

  abbrev numbers : ℕ → List ℕ
  numbers n = numbers_where above (i + 1) n

  abbrev after : ℕ → List ℕ
  after j = stack_after_by (arity a) height_over (take j ch) []

  after_more : (j : ℕ) → j < length ch
      → after (suc j) ≡ value_on_by (arity a) height_over (get_or ch j 0) (after j) ∷ drop (arity a (get_or ch j 0)) (after j)
  unfolding stack_after_by
  after_more j l =
      ap (λ (ws : List ℕ). stack_after_by (arity a) height_over ws []) (take-suc ch j 0 l)
      ∙ stack-append (arity a) height_over (take j ch) (get_or ch j 0 ∷ []) []

  -- the tree that holds node i, before node j, is higher than there are ancestors among the n nodes before j
  record Higher (j n : ℕ) : Type 0 where
    d : ℕ
    holding : HoldingTree (arity a) ch i j d
    high : length (numbers n) < get_or (after j) d 0

  higher-first : i < length ch → Higher (i + 1) 0
  higher-first l = record {
    d = 0;
    holding = holding-first (arity a) ch i;
    high = rw (add-one i, after_more i l) (value-some (arity a) (get_or ch i 0) (after i));
  }

  module _ (j n : ℕ) (e : i + 1 + n ≡ j) (l : j < length ch) (g : Higher j n) where
    abbrev w : ℕ
    w = get_or ch j 0

    many : (b : Bool) → above j ≡ b → length (numbers (suc n)) ≡ length (numbers n) + length (cond b (j ∷ []) [])
    many b h =
        ap length
        (numbers_more above n (i + 1) ∙ ap (λ (k : ℕ). numbers n ++ cond (above k) (k ∷ []) []) e
        ∙ ap (λ (x : Bool). numbers n ++ cond x (j ∷ []) []) h)
        ∙ length-append (numbers n) (cond b (j ∷ []) [])

    higher-more : Higher (suc j) (suc n)
    higher-more = go (dec_lt g.d (arity a w))
      where
        high : length (numbers n) < get_or (after j) g.d 0
        high = g.high

        go : Dec (g.d < arity a w) → Higher (suc j) (suc n)
        go (yes h) =
            let one = many true (takes-holding (arity a) ch i j g.d g.holding h) in
            let up = value-high (arity a) w (after j) g.d h in
            record {
              d = 0;
              holding = holding-ancestor (arity a) ch i j g.d g.holding h;
              high = rw (after_more j l) (omega (arith, high, one, up));
            }
        go (no h) =
            let few : arity a w ≤ g.d = omega arith in
            let same = many false (takes-others (arity a) ch i j g.d g.holding few) in
            let here = value-beside (arity a) w (after j) g.d few in
            record {
              d = g.d - arity a w + 1;
              holding = holding-others (arity a) ch i j g.d g.holding few;
              high = rw (after_more j l, here) (omega (arith, high, same));
            }

  higher : i < length ch → (n : ℕ) → i + 1 + n ≤ length ch → Higher (i + 1 + n) n
  higher l zero h = rw (add-zero (i + 1)) (higher-first l)
  higher l (suc n) h =
      let q : i + 1 + n < length ch = omega arith in
      rw (add-suc (i + 1) n) (higher-more (i + 1 + n) n refl q (higher l n (omega arith)))

  -- the whole is one tree
  top-only : (root d : ℕ) → 0 < get_or (root ∷ []) d 0 → get_or (root ∷ []) d 0 ≡ root
  top-only root zero h = refl
  top-only root (suc d) h = absurd (omega arith)

  pub ancestors-high : one_tree a ch ≡ true → i < length ch → length (ancestors_of a ch i) < height_of a ch
  unfolding ancestors_of height_of_by
  ancestors-high tree l =
      let n = length ch - (i + 1) in
      let all : i + 1 + n ≡ length ch = omega arith in
      let g = higher l n (omega arith) in
      let whole : after (i + 1 + n) ≡ stack_after_by (arity a) height_over ch []
      = ap (λ (ws : List ℕ). stack_after_by (arity a) height_over ws []) (take_all (i + 1 + n) ch (omega arith)) in
      let r = read (arity a) height_over ch tree in
      let s : after (i + 1 + n) ≡ r.root ∷ [] = whole ∙ r.alone in
      let high : length (numbers n) < get_or (r.root ∷ []) g.d 0 = rw s at g.high in
      let top = top-only r.root g.d (omega arith) in
      let height : get_or (stack_after_by (arity a) height_over ch []) 0 0 ≡ r.root = ap (λ (t : List ℕ). get_or t 0 0) r.alone in
      omega arith
