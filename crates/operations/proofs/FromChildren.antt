-- Every recomputed node's state set comes from its children's as they stand in the outcomes: those just recomputed,
-- otherwise those stored, whatever the stored sets are.
use mathlib.Core.Path.{◌≡◌, refl, ap, ◌∙◌, sym, subst}
use mathlib.Core.Bool.{Bool, true}
use mathlib.Core.List.{List, [], ◌∷◌, ◌++◌, map}
use Prim.Native.Nat.{ℕ, zero, suc, ◌+◌, ◌<◌, ◌≤◌}
use native.Mathlib.Omega.{arith}
use lib.ListN.{length, get_or, take, drop}
use lib.Seq.{drop-cons, length-take-le}
use Rattle.words.specs.Shape.{splice_by, values_by, stack_after_by, stack_given_by}
use Rattle.words.specs.Postfix.{arity, one_tree, span_of, is_ancestor, splice, value_on, values, stack_after, stack_given, children_of, roots_of}
use Rattle.words.proofs.TestLaws.{Tested, holds, fails, tested}
use Rattle.words.proofs.ListLaws.{map-drop}
use Rattle.words.proofs.PostfixLaws.{start-le}
use Rattle.words.proofs.StackLaws.{read}
use Rattle.words.proofs.ChildLaws.{roots-more, children-value}
use Rattle.automaton.specs.StateSet.{StateSet}
use Rattle.operations.specs.Marks.{node_set, node_sets, same_words}
use Rattle.operations.specs.Exchange.{Outcome, kept, recomputed, set_in, kept_from, propagate, root_set, outcomes_behind, outcomes_after}
use Rattle.operations.specs.Recomputation.{outcome_at}
use Rattle.operations.proofs.PropagateLaws.{propagate-beside, propagate-last, propagate-onward}
use Rattle.operations.proofs.OutcomeLaws.{root-read}

module _ (a table : List ℕ) where
  abbrev on : ℕ → List StateSet → StateSet
  on = value_on a (node_set table)

  -- a recomputed set is this one
  abbrev Is : Outcome → StateSet → Type 0
  Is (kept r) v = Unit {0}
  Is (recomputed r) v = r ≡ v

  -- the outcomes of the words over a stack: each recomputed set is the one that the word and the stack give, and each set
  -- is put on the stack
  abbrev pub Follows : List ℕ → List StateSet → List Outcome → Type 0
  Follows [] s [] = Unit {0}
  Follows [] s (o ∷ os) = ⊥
  Follows (w ∷ ws) s [] = ⊥
  Follows (w ∷ ws) s (o ∷ os) = Is o (on w s) × Follows ws (set_in o ∷ drop (arity a w) s) os

  -- the stack behind them
  abbrev stack_of : List ℕ → List Outcome → List StateSet → List StateSet
  stack_of [] os s = s
  stack_of (w ∷ ws) [] s = s
  stack_of (w ∷ ws) (o ∷ os) s = stack_of ws os (set_in o ∷ drop (arity a w) s)

  pub follows-length : (ws : List ℕ) (s : List StateSet) (os : List Outcome) → Follows ws s os → length os ≡ length ws
  follows-length [] s [] h = refl
  follows-length [] s (o ∷ os) h = absurd h
  follows-length (w ∷ ws) s [] h = absurd h
  follows-length (w ∷ ws) s (o ∷ os) h = ap suc (follows-length ws (set_in o ∷ drop (arity a w) s) os h.1)

  follows-append : (ws vs : List ℕ) (s : List StateSet) (os qs : List Outcome) → Follows ws s os → Follows vs (stack_of ws os s) qs
      → Follows (ws ++ vs) s (os ++ qs)
  follows-append [] vs s [] qs h g = g
  follows-append [] vs s (o ∷ os) qs h g = absurd h
  follows-append (w ∷ ws) vs s [] qs h g = absurd h
  follows-append (w ∷ ws) vs s (o ∷ os) qs h g = (h.0, follows-append ws vs (set_in o ∷ drop (arity a w) s) os qs h.1 g)

  -- ---- the three parts of the new tree

  module _ (stored : ℕ → StateSet) where
    follows-kept : (ws : List ℕ) (j : ℕ) (s : List StateSet) → Follows ws s (kept_from stored j (length ws))
    follows-kept [] j s = tt
    follows-kept (w ∷ ws) j s = (tt, follows-kept ws (suc j) (stored j ∷ drop (arity a w) s))

    stack-kept : (ws : List ℕ) (j : ℕ) (s : List StateSet) → stack_of ws (kept_from stored j (length ws)) s ≡ stack_given a stored j ws s
    unfolding stack_given_by
    stack-kept [] j s = refl
    stack-kept (w ∷ ws) j s = stack-kept ws (suc j) (stored j ∷ drop (arity a w) s)

    follows-propagate : (above : ℕ → Bool) (ws : List ℕ) (j : ℕ) (s : List StateSet) → Follows ws s (propagate a table stored above j ws s)
    unfolding propagate
    follows-propagate above [] j s = tt
    follows-propagate above (w ∷ ws) j s =
        go (tested (above j)) (tested (same_words new (stored j))) (follows-propagate above ws (suc j) (stored j ∷ rest))
        (follows-propagate above ws (suc j) (new ∷ rest))
      where
        new : StateSet
        new = on w s

        rest : List StateSet
        rest = drop (arity a w) s

        go : Tested (above j) → Tested (same_words new (stored j))
            → Follows ws (stored j ∷ rest) (propagate a table stored above (suc j) ws (stored j ∷ rest))
            → Follows ws (new ∷ rest) (propagate a table stored above (suc j) ws (new ∷ rest))
            → Follows (w ∷ ws) s (propagate a table stored above j (w ∷ ws) s)
        go (fails x) y l m = subst (Follows (w ∷ ws) s) (sym (propagate-beside a table stored above j w ws s x)) (tt, l)
        go (holds x) (holds y) l m =
            subst (Follows (w ∷ ws) s) (sym (propagate-last a table stored above j w ws s x y)) (refl, follows-kept ws (suc j) (new ∷ rest))
        go (holds x) (fails y) l m = subst (Follows (w ∷ ws) s) (sym (propagate-onward a table stored above j w ws s x y)) (refl, m)

  follows_values : (ws : List ℕ) (s : List StateSet) → Follows ws s (map recomputed (values a (node_set table) ws s))
  unfolding values_by
  follows_values [] s = tt
  follows_values (w ∷ ws) s = (refl, follows_values ws (on w s ∷ drop (arity a w) s))

  stack-values : (ws : List ℕ) (s : List StateSet)
      → stack_of ws (map recomputed (values a (node_set table) ws s)) s ≡ stack_after a (node_set table) ws s
  unfolding values_by stack_after_by
  stack-values [] s = refl
  stack-values (w ∷ ws) s = stack-values ws (on w s ∷ drop (arity a w) s)

  module _ (stored : ℕ → StateSet) (used : List ℕ) (element : ℕ) (xs : List ℕ) (he : element < length used) (hx : one_tree a xs ≡ true) where
    σ : List StateSet
    σ = stack_given a stored 0 (take (span_of a used element).start used) []

    follows-replaced : Follows xs σ (map recomputed (node_sets a table xs))
    unfolding node_sets
    follows-replaced =
        subst (λ (l : List StateSet). Follows xs σ (map recomputed l)) ((read (arity a) (node_set table) xs hx).values-on σ)
        (follows_values xs σ)

    stack-replaced : stack_of xs (map recomputed (node_sets a table xs)) σ ≡ root_set a table xs ∷ σ
    unfolding node_sets
    stack-replaced =
        ap (λ (l : List StateSet). stack_of xs (map recomputed l) σ) (sym ((read (arity a) (node_set table) xs hx).values-on σ))
        ∙ stack-values xs σ ∙ (read (arity a) (node_set table) xs hx).stack-on σ
        ∙ ap (λ (r : StateSet). r ∷ σ) (sym (root-read a table xs hx))

    follows-behind : Follows (drop (element + 1) used) (root_set a table xs ∷ σ) (outcomes_behind a table stored used element xs)
    unfolding outcomes_behind σ
    follows-behind = go (tested (same_words (root_set a table xs) (stored element)))
      where
        go : Tested (same_words (root_set a table xs) (stored element))
            → Follows (drop (element + 1) used) (root_set a table xs ∷ σ) (outcomes_behind a table stored used element xs)
        go (holds b) = rw b (follows-kept stored (drop (element + 1) used) (element + 1) (root_set a table xs ∷ σ))
        go (fails b) =
            rw b (follows-propagate stored (is_ancestor a used element) (drop (element + 1) used) (element + 1) (root_set a table xs ∷ σ))

    pub length-behind : length (outcomes_behind a table stored used element xs) ≡ length (drop (element + 1) used)
    length-behind =
        follows-length (drop (element + 1) used) (root_set a table xs ∷ σ) (outcomes_behind a table stored used element xs) follows-behind

    pub follows-outcomes : Follows (splice a used element xs) [] (outcomes_after a table stored used element xs)
    unfolding splice_by outcomes_after σ
    follows-outcomes =
        follows-append front (xs ++ drop (element + 1) used) [] (kept_from stored 0 (span_of a used element).start) _
        (subst (λ (i : ℕ). Follows front [] (kept_from stored 0 i)) many (follows-kept stored front 0 []))
        (subst (λ (s : List StateSet). Follows (xs ++ drop (element + 1) used) s
        (map recomputed (node_sets a table xs) ++ outcomes_behind a table stored used element xs)) (sym stack-front)
        (follows-append xs (drop (element + 1) used) σ (map recomputed (node_sets a table xs))
        (outcomes_behind a table stored used element xs) follows-replaced
        (subst (λ (s : List StateSet). Follows (drop (element + 1) used) s (outcomes_behind a table stored used element xs))
        (sym stack-replaced) follows-behind)))
      where
        front : List ℕ
        front = take (span_of a used element).start used

        many : length front ≡ (span_of a used element).start
        many = let le = start-le (arity a) used element in length-take-le (span_of a used element).start used (omega arith)

        stack-front : stack_of front (kept_from stored 0 (span_of a used element).start) [] ≡ σ
        stack-front = ap (λ (i : ℕ). stack_of front (kept_from stored 0 i) []) (sym many) ∙ stack-kept stored front 0 []

  -- ---- by node number

  module _ (ws : List ℕ) (os : List Outcome) (h : Follows ws [] os) where
    abbrev node_set_at : ℕ → StateSet
    node_set_at i = set_in (outcome_at os i)

    opened : (j : ℕ) (s : List StateSet) → j < length ws → Follows (drop j ws) s (drop j os)
        → Follows (get_or ws j 0 ∷ drop (suc j) ws) s (outcome_at os j ∷ drop (suc j) os)
    opened j s l g =
        subst (λ (t : List ℕ). Follows t s (outcome_at os j ∷ drop (suc j) os)) (drop-cons ws j 0 l)
        (subst (Follows (drop j ws) s) (drop-cons os j (kept []) (omega (arith, follows-length ws [] os h))) g)

    -- the words from j on, over the sets of the roots of the first j
    follows-from : (j : ℕ) → j ≤ length ws → Follows (drop j ws) (map node_set_at (roots_of a ws j)) (drop j os)
    unfolding stack_given_by
    follows-from zero l = h
    follows-from (suc j) l =
        subst (λ (s : List StateSet). Follows (drop (suc j) ws) s (drop (suc j) os)) (sym stack)
        (opened j (map node_set_at (roots_of a ws j)) l (follows-from j (omega arith))).1
      where
        stack : map node_set_at (roots_of a ws (suc j)) ≡ node_set_at j ∷ drop (arity a (get_or ws j 0)) (map node_set_at (roots_of a ws j))
        stack =
            ap (map node_set_at) (roots-more (arity a) ws j l)
            ∙ ap (λ (t : List StateSet). node_set_at j ∷ t) (map-drop node_set_at (arity a (get_or ws j 0)) (roots_of a ws j))

    pub from-children : (j : ℕ) (r : StateSet) → j < length ws → outcome_at os j ≡ recomputed r
        → r ≡ node_set table (get_or ws j 0) (map (λ i. set_in (outcome_at os i)) (children_of a ws j))
    from-children j r l e =
        subst (λ (o : Outcome). Is o (on (get_or ws j 0) (map node_set_at (roots_of a ws j)))) e
        (opened j (map node_set_at (roots_of a ws j)) l (follows-from j (omega arith))).0
        ∙ sym (children-value (arity a) ws (node_set table) node_set_at j (map node_set_at (roots_of a ws j)) refl)
