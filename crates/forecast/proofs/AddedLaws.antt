-- The totals that the steps count are those at the place behind the exchange: the replacement's nodes have the sets that it alone
-- gives, and its ancestors those of their outcomes.
use mathlib.Core.Path.{◌≡◌, refl, ap, ap₂, ◌∙◌, sym}
use mathlib.Core.Bool.{Bool, true, false, not, cond}
use mathlib.Core.List.{List, [], ◌∷◌, ◌++◌, map}
use Prim.Native.Nat.{ℕ, zero, suc, ◌+◌, ◌-◌, ◌<◌}
use native.Mathlib.Omega.{arith}
use native.Mathlib.Nat.{add-zero, add-suc, suc-add}
use lib.ListN.{length, get_or, take, drop, length-map}
use lib.Seq.{get_or-append-add}
use Rattle.words.specs.Lists.{list_from}
use Rattle.words.specs.Postfix.{is_ancestor, stack_given}
use Rattle.words.proofs.ListLaws.{length-list_from, list_from-offset, list_from-get_or}
use Rattle.automaton.specs.StateSet.{StateSet}
use Rattle.operations.specs.Marks.{node_sets, same_words}
use Rattle.operations.specs.Totals.{Totals, totals_of}
use Rattle.operations.specs.ExchangeCall.{ExchangeCall}
use Rattle.operations.specs.Exchange.{Outcome, kept, recomputed, set_in, kept_from, root_set, outcomes_behind, outcomes_after}
use Rattle.operations.specs.Exchange.{used, new_tree, stored_in, outcomes, words_fault}
use Rattle.operations.specs.Recomputation.{outcome_at, outcome_of, set_after, start_in, behind_in, new_number}
use Rattle.operations.proofs.MarksLaws.{length-node_sets}
use Rattle.operations.proofs.FromChildren.{length-behind}
use Rattle.operations.proofs.OutcomeParts.{behind_of}
use Rattle.operations.proofs.Recomputed.{shape, there, replaced}
use Rattle.totals.specs.Place.{numbers_where, ancestors_of, place_sets, root_in, added_totals}
use Rattle.totals.proofs.SameAncestors.{length-new, behind-root, ancestors-same}
use Rattle.forecast.specs.Sum.{with_sets}
use Rattle.forecast.specs.Behind.{sets_where, outcomes_from, with_ancestors}
use Rattle.forecast.proofs.SumLaws.{with_sets-append, with_sets-none}

-- ---- lists by their index

list_from-below : {A : Type 0} (f g : ℕ → A) (n j : ℕ) → ((k : ℕ) → k < j + n → f k ≡ g k) → list_from f j n ≡ list_from g j n
list_from-below f g zero j h = refl
list_from-below {A} f g (suc n) j h =
    ap₂ (λ (x : A) (l : List A). x ∷ l) (h j (omega arith)) (list_from-below f g n (suc j) (λ k l. h k (omega arith)))

-- the sets of the nodes that a test tells, by two numberings
where-same : (f above : ℕ → Bool) (g : ℕ → StateSet) (os : List Outcome) (j i : ℕ)
    → ((k : ℕ) → f (j + k) ≡ above (i + k)) → ((k : ℕ) → k < length os → g (j + k) ≡ set_in (outcome_at os k))
    → map g (numbers_where f j (length os)) ≡ sets_where above i os
unfolding sets_where
where-same f above g [] j i t e = refl
where-same f above g (o ∷ os) j i t e =
    go (f j) (ap f (sym (add-zero j)) ∙ t 0 ∙ ap above (add-zero i))
    (where-same f above g os (suc j) (suc i)
    (λ k. ap f (suc-add j k ∙ sym (add-suc j k)) ∙ t (suc k) ∙ ap above (add-suc i k ∙ sym (suc-add i k)))
    (λ k l. ap g (suc-add j k ∙ sym (add-suc j k)) ∙ e (suc k) (omega arith)))
  where
    here : g j ≡ set_in o
    here = ap g (sym (add-zero j)) ∙ e 0 (omega arith)

    go : (b : Bool) → b ≡ above i → map g (numbers_where f (suc j) (length os)) ≡ sets_where above (suc i) os
        → map g (cond b (j ∷ numbers_where f (suc j) (length os)) (numbers_where f (suc j) (length os)))
        ≡ cond (above i) (set_in o ∷ sets_where above (suc i) os) (sets_where above (suc i) os)
    go true h rest = rw (← h) (ap₂ (λ (x : StateSet) (l : List StateSet). x ∷ l) here rest)
    go false h rest = rw (← h) rest

cond-not : {A : Type 0} (b : Bool) (x y : A) → cond (not b) x y ≡ cond b y x
cond-not true x y = refl
cond-not false x y = refl

module _ (c : ExchangeCall) (fine : words_fault c ≡ 0) where
  abbrev a : List ℕ
  a = c.alphabet

  abbrev table : List ℕ
  table = c.table

  abbrev xs : List ℕ
  xs = c.replacement

  abbrev above : ℕ → Bool
  above = is_ancestor c.alphabet (used c) c.element

  -- ---- the replacement's nodes

  new-sets : list_from (set_after c) (start_in c) (root_in c + 1 - start_in c) ≡ node_sets c.alphabet c.table c.replacement
  new-sets =
      let rs = node_sets a table xs in
      let n : root_in c + 1 - start_in c ≡ length rs = let m = length-node_sets a table xs in omega (arith, behind-root c fine) in
      ap (list_from (set_after c) (start_in c)) n
      ∙ ap (λ (j : ℕ). list_from (set_after c) j (length rs)) (sym (add-zero (start_in c)))
      ∙ sym (list_from-offset (set_after c) (start_in c) (length rs) 0)
      ∙ list_from-below (λ k. set_after c (start_in c + k)) (λ k. get_or rs k []) (length rs) 0
      (λ k l. ap set_in (replaced c fine k (omega (arith, length-node_sets a table xs))))
      ∙ list_from-get_or [] rs

  -- ---- the ancestors

  many : length (behind_of c) ≡ behind_in c
  many = length-behind a table (stored_in c) (used c) c.element xs (there c fine) (shape c fine)

  behind-set : (k : ℕ) → outcome_of c (new_number c k) ≡ outcome_at (behind_of c) k
  unfolding outcomes outcomes_after
  behind-set k =
      let front = kept_from (stored_in c) 0 (start_in c) in
      let new : List Outcome = map recomputed (node_sets a table xs) in
      let p : length front ≡ start_in c = length-list_from (λ i. kept (stored_in c i)) (start_in c) 0 in
      let q : length new ≡ length xs = length-map (node_sets a table xs) recomputed ∙ length-node_sets a table xs in
      let place : new_number c k ≡ length front + (length new + k) = omega (arith, p, q) in
      ap (λ (i : ℕ). outcome_at (front ++ (new ++ behind_of c)) i) place
      ∙ get_or-append-add front (new ++ behind_of c) (length new + k) (kept [])
      ∙ get_or-append-add new (behind_of c) k (kept [])

  ancestor-sets : map (set_after c) (ancestors_of c.alphabet (new_tree c) (root_in c)) ≡ sets_where above (c.element + 1) (behind_of c)
  unfolding ancestors_of
  ancestor-sets =
      let b = behind-root c fine in
      let n : length (new_tree c) - (root_in c + 1) ≡ length (behind_of c) = omega (arith, length-new c fine, many, b) in
      let at : (k : ℕ) → root_in c + 1 + k ≡ new_number c k = λ k. omega (arith, b) in
      ap (λ (m : ℕ). map (set_after c) (numbers_where (is_ancestor a (new_tree c) (root_in c)) (root_in c + 1) m)) n
      ∙ where-same (is_ancestor a (new_tree c) (root_in c)) above (set_after c) (behind_of c) (root_in c + 1) (c.element + 1)
      (λ k. ap (is_ancestor a (new_tree c) (root_in c)) (at k) ∙ ancestors-same c fine k)
      (λ k l. ap (set_after c) (at k) ∙ ap set_in (behind-set k))

  -- ---- both

  added : added_totals c ≡ totals_of table (node_sets a table xs ++ sets_where above (c.element + 1) (behind_of c))
  unfolding added_totals place_sets
  added = ap₂ (λ (l k : List StateSet). totals_of table (l ++ k)) new-sets ancestor-sets

  behind-outcomes : outcomes_from a table (stored_in c) above (not (same_words (root_set a table xs) (stored_in c c.element)))
      (c.element + 1) (drop (c.element + 1) (used c))
      (root_set a table xs ∷ stack_given a (stored_in c) 0 (take (start_in c) (used c)) [])
      ≡ behind_of c
  unfolding outcomes_from outcomes_behind
  behind-outcomes = cond-not (same_words (root_set a table xs) (stored_in c c.element)) _ _

  with_none : (rs qs : List StateSet) → with_sets table (totals_of table rs) qs ≡ totals_of table (rs ++ qs)
  with_none rs qs =
      ap (λ (t : Totals). with_sets table t qs) (sym (with_sets-none table rs)) ∙ sym (with_sets-append table _ rs qs)
      ∙ with_sets-none table (rs ++ qs)

  -- what the steps count
  pub forecast-is : (root : StateSet) → root ≡ root_set c.alphabet c.table c.replacement → (start : ℕ) → start ≡ start_in c
      → (t : Totals) → t ≡ totals_of c.table (node_sets c.alphabet c.table c.replacement) → (r : Totals)
      → r ≡ with_ancestors c.alphabet c.table (used c) c.element c.marks (c.element + 1)
      (root ∷ stack_given c.alphabet (stored_in c) 0 (take start (used c)) [])
      (not (same_words root (stored_in c c.element))) t
      → r ≡ added_totals c
  unfolding with_ancestors
  forecast-is root p start q t s r e =
      e
      ∙ ap₂ (λ (x : StateSet) (i : ℕ). with_ancestors a table (used c) c.element c.marks (c.element + 1)
      (x ∷ stack_given a (stored_in c) 0 (take i (used c)) []) (not (same_words x (stored_in c c.element))) t) p q
      ∙ ap₂ (λ (x : Totals) (os : List Outcome). with_sets table x (sets_where above (c.element + 1) os)) s behind-outcomes
      ∙ with_none (node_sets a table xs) (sets_where above (c.element + 1) (behind_of c)) ∙ sym added
