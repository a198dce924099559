-- The outcomes of an exchange by node number, whatever the stored state sets are: those before the replaced subtree, those of
-- the replacement, those behind; and how many are recomputed.
use mathlib.Core.Path.{◌≡◌, refl, ap, ap₂, ◌∙◌, sym, subst}
use mathlib.Core.Bool.{Bool, true, not, cond}
use mathlib.Core.List.{List, [], ◌∷◌, ◌++◌, map}
use Prim.Native.Nat.{ℕ, zero, suc, ◌+◌, ◌-◌, ◌<◌, ◌≤◌}
use native.Mathlib.Omega.{arith}
use native.Mathlib.Nat.{zero-add, add-zero, add_assoc}
use lib.ListN.{length, get_or, take, length-drop, length-map, get_or-append}
use lib.Seq.{get_or-append-add, take-suc, take-length, length-take-le}
use Rattle.words.specs.Lists.{count, list_from}
use Rattle.words.specs.Shape.{depth_of_by}
use Rattle.words.specs.Postfix.{arity, one_tree, span_of, is_ancestor, depth_of, values, stack_after}
use Rattle.words.proofs.TestLaws.{and-true}
use Rattle.words.proofs.ListLaws.{length-list_from, list_from-add, get_or-list_from, list_from-get_or}
use Rattle.words.proofs.ListLaws.{list_from-offset, map-list_from, count-append, count_map}
use Rattle.words.proofs.CountLaws.{count-wider}
use Rattle.words.proofs.StackLaws.{length-values, read, Right, list_right, right-last}
use Rattle.automaton.specs.StateSet.{StateSet}
use Rattle.operations.specs.Marks.{node_set, node_sets, same_words}
use Rattle.operations.specs.Exchange.{Outcome, kept, recomputed, is_recomputed, recomputed_in}
use Rattle.operations.specs.Exchange.{kept_from, root_set, outcomes_behind, outcomes_after, used, stored_in, outcomes}
use Rattle.operations.specs.ExchangeCall.{ExchangeCall}
use Rattle.operations.specs.Recomputation.{outcome_at, outcome_of, set_after, behind_in, old_number}
use Rattle.operations.specs.Recomputation.{new_number, ancestor, continues, recomputes}
use Rattle.operations.proofs.MarksLaws.{length-node_sets}
use Rattle.operations.proofs.PropagateLaws.{count_kept}
use Rattle.operations.proofs.OutcomeLaws.{root-read}
use Rattle.operations.proofs.BehindLaws.{chosen_at, chosen-behind, recomputed-count, is-chosen}
use Rattle.operations.proofs.FromChildren.{length-behind}

-- the last state set of a tree is its root's
pub root-last : (a table xs : List ℕ) → one_tree a xs ≡ true → 0 < length xs
    → get_or (node_sets a table xs) (length xs - 1) [] ≡ root_set a table xs
unfolding node_sets
root-last a table xs h l =
    ap f (sym place)
    ∙ right-last (arity a) (node_set table) f (take m xs) (get_or xs m 0) 0 [] [] (read (arity a) (node_set table) xs h).root
    (subst (λ (t : List ℕ). Right (arity a) (node_set table) f 0 t []) parts right)
    (ap (λ (t : List ℕ). stack_after a (node_set table) t []) (sym parts) ∙ (read (arity a) (node_set table) xs h).alone)
    ∙ sym (root-read a table xs h)
  where
    vs : List StateSet
    vs = values a (node_set table) xs []

    f : ℕ → StateSet
    f i = get_or vs i []

    m : ℕ
    m = length xs - 1

    parts : xs ≡ take m xs ++ get_or xs m 0 ∷ []
    parts =
        let n : length xs ≡ suc m = omega arith in
        sym (take-length xs) ∙ ap (λ (i : ℕ). take i xs) n ∙ take-suc xs m 0 (omega arith)

    place : 0 + length (take m xs) ≡ m
    place = zero-add _ ∙ length-take-le m xs (omega arith)

    right : Right (arity a) (node_set table) f 0 xs []
    right =
        list_right (arity a) (node_set table) f xs 0 []
        (ap (list_from f 0) (sym (length-values (arity a) (node_set table) xs [])) ∙ list_from-get_or [] vs)

module _ (a table : List ℕ) (stored : ℕ → StateSet) (used : List ℕ) (element : ℕ) (xs : List ℕ) where
  abbrev start : ℕ
  start = (span_of a used element).start

  abbrev front : List Outcome
  front = kept_from stored 0 start

  abbrev replaced : List Outcome
  replaced = map recomputed (node_sets a table xs)

  abbrev rest : List Outcome
  rest = outcomes_behind a table stored used element xs

  abbrev os : List Outcome
  os = outcomes_after a table stored used element xs

  length_front : length front ≡ start
  length_front = length-list_from (λ i. kept (stored i)) start 0

  length-replaced : length replaced ≡ length xs
  length-replaced = length-map (node_sets a table xs) recomputed ∙ length-node_sets a table xs

  -- ---- by node number

  pub outcome-before : (j : ℕ) → j < start → outcome_at os j ≡ kept (stored j)
  unfolding outcomes_after
  outcome-before j l =
      get_or-append front (replaced ++ rest) (kept []) j (rw length_front l)
      ∙ get_or-list_from (λ i. kept (stored i)) (kept []) start 0 j l ∙ ap (λ (i : ℕ). kept (stored i)) (zero-add j)

  pub outcome-replaced : (k : ℕ) → k < length xs → outcome_at os (start + k) ≡ recomputed (get_or (node_sets a table xs) k [])
  unfolding outcomes_after
  outcome-replaced k l =
      ap (λ (i : ℕ). outcome_at os (i + k)) (sym length_front)
      ∙ get_or-append-add front (replaced ++ rest) k (kept [])
      ∙ get_or-append replaced rest (kept []) k (rw length-replaced l)
      ∙ get_or-replaced (node_sets a table xs) k (rw (length-node_sets a table xs) l)
    where
      get_or-replaced : (rs : List StateSet) (k : ℕ) → k < length rs → get_or (map recomputed rs) k (kept []) ≡ recomputed (get_or rs k [])
      get_or-replaced [] k l = absurd (omega arith)
      get_or-replaced (r ∷ rs) zero l = refl
      get_or-replaced (r ∷ rs) (suc k) l = get_or-replaced rs k (omega arith)

  outcome-behind : (k : ℕ) → outcome_at os (start + length xs + k) ≡ outcome_at rest k
  unfolding outcomes_after
  outcome-behind k =
      ap (outcome_at os) (add_assoc start (length xs) k)
      ∙ ap₂ (λ (i j : ℕ). outcome_at os (i + (j + k))) (sym length_front) (sym length-replaced)
      ∙ get_or-append-add front (replaced ++ rest) (length replaced + k) (kept [])
      ∙ get_or-append-add replaced rest k (kept [])

  -- ---- how many are recomputed

  recomputed-append : (l k : List Outcome) → recomputed_in (l ++ k) ≡ recomputed_in l + recomputed_in k
  unfolding recomputed_in
  recomputed-append [] k = sym (zero-add (recomputed_in k))
  recomputed-append (o ∷ l) k =
      ap (λ (i : ℕ). is_recomputed o + i) (recomputed-append l k) ∙ sym (add_assoc (is_recomputed o) (recomputed_in l) (recomputed_in k))

  all-recomputed : (rs : List StateSet) → recomputed_in (map recomputed rs) ≡ length rs
  unfolding recomputed_in
  all-recomputed [] = refl
  all-recomputed (r ∷ rs) = let ih = all-recomputed rs in omega arith

  pub recomputed-parts : recomputed_in os ≡ length xs + recomputed_in rest
  unfolding outcomes_after
  recomputed-parts =
      recomputed-append front (replaced ++ rest)
      ∙ ap₂ (λ (x y : ℕ). x + y) (count_kept stored start 0) (recomputed-append replaced rest)
      ∙ zero-add (recomputed_in replaced + recomputed_in rest)
      ∙ ap (λ (i : ℕ). i + recomputed_in rest) (all-recomputed (node_sets a table xs) ∙ length-node_sets a table xs)

-- ---- the nodes behind

abbrev pub behind_of : ExchangeCall → List Outcome
behind_of c = outcomes_behind c.alphabet c.table (stored_in c) (used c) c.element c.replacement

module _ (c : ExchangeCall) (he : c.element < length (used c)) (hx : one_tree c.alphabet c.replacement ≡ true) where
  abbrev behind : List Outcome
  behind = behind_of c

  many : length behind ≡ behind_in c
  many = length-behind c.alphabet c.table (stored_in c) (used c) c.element c.replacement he hx

  at-behind : (k : ℕ) → outcome_of c (new_number c k) ≡ outcome_at behind k
  unfolding outcomes
  at-behind k = outcome-behind c.alphabet c.table (stored_in c) (used c) c.element c.replacement k

  pub outcome-rest : (k : ℕ) → k < behind_in c
      → outcome_of c (new_number c k) ≡ cond (recomputes c k) (recomputed (set_after c (new_number c k))) (kept (stored_in c (old_number c k)))
  outcome-rest k l =
      simp at-behind
      (chosen_at (stored_in c) (is_ancestor c.alphabet (used c) c.element) behind (c.element + 1)
      (not (same_words (root_set c.alphabet c.table c.replacement) (stored_in c c.element))) k
      (chosen-behind c.alphabet c.table (stored_in c) (used c) c.element c.replacement) (rw many l))

  pub count-rest : recomputed_in behind ≡ count (recomputes c) (list_from (λ i. i) 0 (behind_in c))
  count-rest =
      recomputed-count behind (recomputes c)
      (λ k l. is-chosen (outcome_at behind k) (recomputes c k) (set_after c (new_number c k)) (stored_in c (old_number c k))
      (sym (at-behind k) ∙ outcome-rest k (rw (← many) l)))
      ∙ ap (λ (n : ℕ). count (recomputes c) (list_from (λ i. i) 0 n)) many

  -- "it is at most the replacement's elements plus the depth of the place"
  pub recomputed-most : recomputed_in behind ≤ depth_of c.alphabet (used c) c.element
  unfolding depth_of_by
  recomputed-most =
      let w = count-wider (recomputes c) (ancestor c) (λ k h. (and-true (continues c k) (ancestor c k) h).1) (list_from (λ i. i) 0 m) in
      omega (arith, count-rest, shifted, parts)
    where
      above : ℕ → Bool
      above = is_ancestor c.alphabet (used c) c.element

      m : ℕ
      m = behind_in c

      shifted : count above (list_from (λ i. i) (c.element + 1) m) ≡ count (ancestor c) (list_from (λ i. i) 0 m)
      shifted =
          ap (λ (j : ℕ). count above (list_from (λ i. i) j m)) (sym (add-zero (c.element + 1)))
          ∙ ap (count above) (sym (map-list_from (λ i. i) (old_number c) m 0 ∙ list_from-offset (λ i. i) (c.element + 1) m 0))
          ∙ count_map above (old_number c) (list_from (λ i. i) 0 m)

      parts : count above (list_from (λ i. i) 0 (length (used c)))
          ≡ count above (list_from (λ i. i) 0 (c.element + 1)) + count above (list_from (λ i. i) (c.element + 1) m)
      parts =
          let n : length (used c) ≡ c.element + 1 + m = rw (length-drop (c.element + 1) (used c)) (omega arith) in
          ap (λ (i : ℕ). count above (list_from (λ k. k) 0 i)) n
          ∙ ap (count above)
          (list_from-add (λ i. i) (c.element + 1) m 0
          ∙ ap (λ (j : ℕ). list_from (λ i. i) 0 (c.element + 1) ++ list_from (λ i. i) j m) (zero-add (c.element + 1)))
          ∙ count-append above (list_from (λ i. i) 0 (c.element + 1)) (list_from (λ i. i) (c.element + 1) m)
