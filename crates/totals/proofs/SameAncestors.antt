-- The replacement's root has the ancestors that the replaced element had: the words behind are the same.
use mathlib.Core.Path.{◌≡◌, ap, ◌∙◌, sym}
use mathlib.Core.List.{List, ◌++◌}
use Prim.Native.Nat.{ℕ, zero, suc, ◌+◌, ◌-◌, ◌<◌, ◌≤◌}
use native.Mathlib.Omega.{arith}
use native.Mathlib.Nat.{add-zero, add-suc}
use native.Mathlib.Decide.{dec_lt}
use lib.ListN.{length, get_or, take, drop, length-drop}
use lib.Seq.{get_or-drop, get_or-append-add, length-take-le}
use Rattle.words.specs.Shape.{splice_by}
use Rattle.words.specs.Postfix.{arity, is_ancestor}
use Rattle.words.proofs.PostfixLaws.{start-le, length-splice}
use Rattle.words.proofs.HoldingLaws.{HoldingTree, holding-first, takes-others, holding-others, takes-holding, holding-ancestor}
use Rattle.operations.specs.ExchangeCall.{ExchangeCall}
use Rattle.operations.specs.Exchange.{used, new_tree, words_fault}
use Rattle.operations.specs.Recomputation.{start_in, behind_in, old_number, new_number}
use Rattle.operations.proofs.Recomputed.{there, some}
use Rattle.totals.specs.Place.{root_in}

module _ (c : ExchangeCall) (fine : words_fault c ≡ 0) where
  abbrev a : List ℕ
  a = c.alphabet

  abbrev old : List ℕ
  old = used c

  abbrev e : ℕ
  e = c.element

  abbrev xs : List ℕ
  xs = c.replacement

  pub start-low : start_in c ≤ c.element
  start-low = start-le (arity c.alphabet) (used c) c.element

  pub length-new : length (new_tree c) ≡ start_in c + (length c.replacement + behind_in c)
  unfolding new_tree
  length-new = length-splice (arity a) old e xs (there c fine)

  pub length-old : length (used c) ≡ c.element + 1 + behind_in c
  length-old = let h = there c fine in rw (length-drop (e + 1) old) (omega arith)

  pub behind-root : root_in c + 1 ≡ start_in c + length c.replacement
  behind-root = let h = some c fine in omega arith

  -- node k behind has the same word in both trees
  same_word : (k : ℕ) → get_or (new_tree c) (new_number c k) 0 ≡ get_or (used c) (old_number c k) 0
  unfolding new_tree splice_by
  same_word k =
      let h = there c fine in
      let front : length (take (start_in c) old) ≡ start_in c = length-take-le (start_in c) old (omega (arith, start-low)) in
      let place : new_number c k ≡ length (take (start_in c) old) + (length xs + k) = omega (arith, front) in
      ap (λ (i : ℕ). get_or (take (start_in c) old ++ (xs ++ drop (e + 1) old)) i 0) place
      ∙ get_or-append-add (take (start_in c) old) (xs ++ drop (e + 1) old) (length xs + k) 0
      ∙ get_or-append-add xs (drop (e + 1) old) k 0 ∙ get_or-drop (e + 1) old k 0

  -- before node k behind, equally many trees stand behind the one that holds the place
  record Both (k : ℕ) : Type 0 where
    d : ℕ
    in-old : HoldingTree (arity a) old e (old_number c k) d
    in-new : HoldingTree (arity a) (new_tree c) (root_in c) (new_number c k) d

  both_first : Both 0
  both_first =
      let p : new_number c 0 ≡ root_in c + 1 = add-zero _ ∙ sym behind-root in
      record {
        d = 0;
        in-old = rw (add-zero (e + 1)) (holding-first (arity a) old e);
        in-new = rw p (holding-first (arity a) (new_tree c) (root_in c));
      }

  module _ (k : ℕ) (b : Both k) where
    r : ℕ
    r = arity a (get_or old (old_number c k) 0)

    same-arity : arity a (get_or (new_tree c) (new_number c k) 0) ≡ r
    unfolding r
    same-arity = ap (arity a) (same_word k)

    both-more : Both (suc k)
    unfolding r
    both-more = go (dec_lt b.d r)
      where
        go : Dec (b.d < r) → Both (suc k)
        go (yes h) = record {
          d = 0;
          in-old = rw (add-suc (e + 1) k) (holding-ancestor (arity a) old e (old_number c k) b.d b.in-old h);
          in-new =
              rw (add-suc (start_in c + length xs) k)
              (holding-ancestor (arity a) (new_tree c) (root_in c) (new_number c k) b.d b.in-new (rw same-arity h));
        }
        go (no h) = record {
          d = b.d - r + 1;
          in-old = rw (add-suc (e + 1) k) (holding-others (arity a) old e (old_number c k) b.d b.in-old (omega arith));
          in-new =
              rw (add-suc (start_in c + length xs) k, ← same-arity)
              (holding-others (arity a) (new_tree c) (root_in c) (new_number c k) b.d b.in-new (rw same-arity (omega arith)));
        }

    both-same : is_ancestor a (new_tree c) (root_in c) (new_number c k) ≡ is_ancestor a old e (old_number c k)
    unfolding r
    both-same = go (dec_lt b.d r)
      where
        go : Dec (b.d < r) → is_ancestor a (new_tree c) (root_in c) (new_number c k) ≡ is_ancestor a old e (old_number c k)
        go (yes h) =
            takes-holding (arity a) (new_tree c) (root_in c) (new_number c k) b.d b.in-new (rw same-arity h)
            ∙ sym (takes-holding (arity a) old e (old_number c k) b.d b.in-old h)
        go (no h) =
            takes-others (arity a) (new_tree c) (root_in c) (new_number c k) b.d b.in-new (rw same-arity (omega arith))
            ∙ sym (takes-others (arity a) old e (old_number c k) b.d b.in-old (omega arith))

  both : (k : ℕ) → Both k
  both zero = both_first
  both (suc k) = both-more k (both k)

  pub ancestors-same : (k : ℕ)
      → is_ancestor c.alphabet (new_tree c) (root_in c) (new_number c k) ≡ is_ancestor c.alphabet (used c) c.element (old_number c k)
  ancestors-same k = both-same k (both k)
