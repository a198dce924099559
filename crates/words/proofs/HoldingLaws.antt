-- Laws of ancestors: which words behind a node are its ancestors, told by how many trees stand between.
use mathlib.Core.Path.{◌≡◌, ap, ◌∙◌, sym}
use mathlib.Core.Bool.{true, false}
use mathlib.Core.List.{List}
use Prim.Native.Nat.{ℕ, suc, ◌+◌, ◌-◌, ◌<◌, ◌≤◌}
use native.Mathlib.Omega.{arith}
use native.Mathlib.Numerals.{add-one}
use lib.ListN.{get_or}
use borrow.Author.Tests.{le-leb, lt-leb, lt-ltb}
use Rattle.words.specs.Shape.{start_from_by, span_of_by, is_ancestor_by}
use Rattle.words.proofs.PostfixLaws.{start_from-none, start_from-more, start_from-add, start_from-le, start-parts, start-le}

-- of the trees that the first j words make, the one below d others holds node i; it ends before word `end`
pub record HoldingTree (arity : ℕ → ℕ) (ws : List ℕ) (i j d : ℕ) : Type 0 where
  pub end : ℕ
  pub begins : start_from_by arity ws j d ≡ end
  pub low : start_from_by arity ws end 1 ≤ i
  pub high : i < end

-- behind i itself it is i's subtree
pub holding-first : (arity : ℕ → ℕ) (ws : List ℕ) (i : ℕ) → HoldingTree arity ws i (i + 1) 0
holding-first arity ws i = record { end = i + 1; begins = start_from-none arity ws (i + 1); low = start-le arity ws i; high = omega arith }

module _ (arity : ℕ → ℕ) (ws : List ℕ) (i j d : ℕ) (h : HoldingTree arity ws i j d) where
  abbrev r : ℕ
  r = arity (get_or ws j 0)

  behind : i < j
  behind = let high = h.high in omega (arith, h.begins, start_from-le arity ws j d)

  -- a word that takes at most the d trees above it is no ancestor
  pub takes-others : r ≤ d → is_ancestor_by arity ws i j ≡ false
  unfolding is_ancestor_by
  takes-others l =
      let high = h.high in
      let q : r + (d - r) ≡ d = omega arith in
      let s : start_from_by arity ws (start_from_by arity ws j r) (d - r) ≡ h.end =
      sym (start_from-add arity ws j r (d - r)) ∙ ap (start_from_by arity ws j) q ∙ h.begins in
      rw (lt-ltb i j behind, start-parts arity ws j)
      (lt-leb (start_from_by arity ws j r) i (omega (arith, s, start_from-le arity ws (start_from_by arity ws j r) (d - r))))

  pub holding-others : r ≤ d → HoldingTree arity ws i (suc j) (d - r + 1)
  holding-others l =
      let q : d - r + r ≡ d = omega arith in
      record {
        end = h.end;
        begins =
            ap (start_from_by arity ws (suc j)) (add-one (d - r)) ∙ start_from-more arity ws j (d - r) ∙ ap (start_from_by arity ws j) q
            ∙ h.begins;
        low = h.low;
        high = h.high;
      }

  begins-before : d < r → (span_of_by arity ws j).start ≤ i
  begins-before l =
      let low = h.low in
      let q : d + 1 + (r - (d + 1)) ≡ r = omega arith in
      let s : start_from_by arity ws j (d + 1) ≡ start_from_by arity ws h.end 1 =
      start_from-add arity ws j d 1 ∙ ap (λ (k : ℕ). start_from_by arity ws k 1) h.begins in
      let t : start_from_by arity ws j r ≡ start_from_by arity ws (start_from_by arity ws j (d + 1)) (r - (d + 1)) =
      ap (start_from_by arity ws j) (sym q) ∙ start_from-add arity ws j (d + 1) (r - (d + 1)) in
      rw (start-parts arity ws j, t) (omega (arith, s, start_from-le arity ws (start_from_by arity ws j (d + 1)) (r - (d + 1))))

  -- a word that takes more is one
  pub takes-holding : d < r → is_ancestor_by arity ws i j ≡ true
  unfolding is_ancestor_by
  takes-holding l = rw (lt-ltb i j behind, le-leb (span_of_by arity ws j).start i (begins-before l))

  pub holding-ancestor : d < r → HoldingTree arity ws i (suc j) 0
  holding-ancestor l =
      let b = begins-before l in
      record {
        end = suc j;
        begins = start_from-none arity ws (suc j);
        low = rw (← add-one j) b;
        high = omega (arith, behind);
      }
