-- What Exchange's loop over the nodes behind the replaced subtree does, over a list of state sets, and that it is what the
-- definition `propagate` says.
use mathlib.Core.Path.{◌≡◌, ap, ap₂, ◌∙◌, sym}
use mathlib.Core.Bool.{Bool, true, false, cond}
use mathlib.Core.List.{List, [], ◌∷◌, ◌++◌, map, append_assoc}
use Prim.Native.Nat.{ℕ, zero, suc, ◌+◌, ◌<◌, ◌≤◌}
use native.Mathlib.Omega.{arith}
use native.Mathlib.Nat.{zero-add, add-zero, add-suc, suc-add, add_assoc}
use native.Mathlib.Numerals.{add-one}
use lib.ListN.{length, get_or, take, drop, set, length-drop, take-append-drop}
use lib.Seq.{take-suc, get_or-drop, drop-drop, drop-set-lt, take-suc-set, lt-length-set}
use Rattle.words.specs.Lists.{list_from}
use Rattle.words.specs.Postfix.{arity, value_on, roots_of}
use Rattle.words.proofs.TestLaws.{Tested, holds, fails, tested}
use Rattle.automaton.specs.StateSet.{StateSet}
use Rattle.operations.specs.Marks.{node_set, same_words}
use Rattle.operations.specs.Exchange.{Outcome, kept, recomputed, set_in, recomputed_in, propagate}
use Rattle.operations.proofs.MarksLaws.{same-words}
use Rattle.operations.proofs.PropagateLaws.{propagate-beside, propagate-last, propagate-onward, sets-kept, count_kept}
use Rattle.nodes.proofs.LoopLaws.{node_set_at, set_from_sets, set-of, stack_push, stack-pass}

module _ (a table ch : List ℕ) where
  -- ---- the nodes behind: n nodes from i on, where `count` nodes are recomputed so far

  unfoldable pub propagate_sets : (ℕ → Bool) → ℕ → ℕ → List StateSet → ℕ → List StateSet × ℕ
  propagate_sets above i zero sets count = (sets, count)
  propagate_sets above i (suc n) sets count =
      let beside = propagate_sets above (suc i) n sets count in
      let onward = propagate_sets above (suc i) n (set sets i (set_from_sets a table ch i sets)) (count + 1) in
      let ancestor = cond (same_words (set_from_sets a table ch i sets) (node_set_at sets i)) (sets, count + 1) onward in
      cond (above i) ancestor beside

  module _ (above : ℕ → Bool) (i n : ℕ) (sets : List StateSet) (count : ℕ) where
    pub propagate_sets-beside : above i ≡ false → propagate_sets above i (suc n) sets count ≡ propagate_sets above (suc i) n sets count
    unfolding propagate_sets
    propagate_sets-beside b = rw b

    pub propagate_sets-last : above i ≡ true → same_words (set_from_sets a table ch i sets) (node_set_at sets i) ≡ true
        → propagate_sets above i (suc n) sets count ≡ (sets, count + 1)
    unfolding propagate_sets
    propagate_sets-last b c = rw (b, c)

    pub propagate_sets-onward : above i ≡ true → same_words (set_from_sets a table ch i sets) (node_set_at sets i) ≡ false
        → propagate_sets above i (suc n) sets count ≡ propagate_sets above (suc i) n (set sets i (set_from_sets a table ch i sets)) (count + 1)
    unfolding propagate_sets
    propagate_sets-onward b c = rw (b, c)

  -- the sets from i on with these outcomes, and the count with theirs
  abbrev ended : ℕ → List StateSet → ℕ → List Outcome → List StateSet × ℕ
  ended i sets count os = (take i sets ++ map set_in os, count + recomputed_in os)

  -- the sets from i on are those stored from node j of the old tree on
  pub propagate_sets-is : (stored : ℕ → StateSet) (above above' : ℕ → Bool) (ws : List ℕ) (i j : ℕ) (sets : List StateSet) (count : ℕ)
      (stack : List StateSet)
      → drop i ch ≡ ws → ((t : ℕ) → above (i + t) ≡ above' (j + t)) → i ≤ length sets → drop i sets ≡ list_from stored j (length ws)
      → map (node_set_at sets) (roots_of a ch i) ≡ stack
      → propagate_sets above i (length ws) sets count ≡ ended i sets count (propagate a table stored above' j ws stack)
  unfolding propagate_sets propagate recomputed_in
  propagate_sets-is stored above above' [] i j sets count stack q same l r e =
      ap₂ (λ (x : List StateSet) (y : ℕ). (x, y))
      (sym (ap (λ (t : List StateSet). take i sets ++ t) (sym r) ∙ take-append-drop i sets)) (sym (add-zero count))
  propagate_sets-is stored above above' (w ∷ ws) i j sets count stack q same l r e =
      go (tested (above' j)) (tested (same_words new (stored j)))
      (propagate_sets-is stored above above' ws (suc i) (suc j) sets count (stored j ∷ rest))
      (propagate_sets-is stored above above' ws (suc i) (suc j) (set sets i new) (count + 1) (new ∷ rest))
    where
      rest : List StateSet
      rest = drop (arity a w) stack

      new : StateSet
      new = value_on a (node_set table) w stack

      word : get_or ch i 0 ≡ w
      word = ap (λ (k : ℕ). get_or ch k 0) (sym (add-zero i)) ∙ sym (get_or-drop i ch 0 0) ∙ ap (λ (t : List ℕ). get_or t 0 0) q

      words : drop (suc i) ch ≡ ws
      words = ap (λ (k : ℕ). drop k ch) (sym (add-one i)) ∙ sym (drop-drop 1 i ch) ∙ ap (drop 1) q

      inside : i < length ch
      inside = let n = ap length q in omega (arith, sym (length-drop i ch) ∙ n)

      inside_sets : i < length sets
      inside_sets = let n = ap length r in omega (arith, sym (length-drop i sets) ∙ n)

      here : node_set_at sets i ≡ stored j
      here = ap (λ (k : ℕ). get_or sets k []) (sym (add-zero i)) ∙ sym (get_or-drop i sets 0 []) ∙ ap (λ (t : List StateSet). get_or t 0 []) r

      later : drop (suc i) sets ≡ list_from stored (suc j) (length ws)
      later = ap (λ (k : ℕ). drop k sets) (sym (add-one i)) ∙ sym (drop-drop 1 i sets) ∙ ap (drop 1) r

      recomputes : set_from_sets a table ch i sets ≡ new
      recomputes = set-of a table ch i sets stack e ∙ ap (λ (x : ℕ). value_on a (node_set table) x stack) word

      above-here : above i ≡ above' j
      above-here = ap above (sym (add-zero i)) ∙ same 0 ∙ ap above' (add-zero j)

      above-later : (t : ℕ) → above (suc i + t) ≡ above' (suc j + t)
      above-later t = rw (suc-add i t, ← add-suc i t, suc-add j t, ← add-suc j t) (same (suc t))

      Ih : List StateSet → ℕ → List StateSet → Type 0
      Ih sets' count' stack' =
          drop (suc i) ch ≡ ws → ((t : ℕ) → above (suc i + t) ≡ above' (suc j + t)) → suc i ≤ length sets'
          → drop (suc i) sets' ≡ list_from stored (suc j) (length ws) → map (node_set_at sets') (roots_of a ch (suc i)) ≡ stack'
          → propagate_sets above (suc i) (length ws) sets' count'
          ≡ ended (suc i) sets' count' (propagate a table stored above' (suc j) ws stack')

      -- one outcome more
      kept_more : (os : List Outcome) → ended (suc i) sets count os ≡ ended i sets count (kept (stored j) ∷ os)
      kept_more os =
          ap₂ (λ (x : List StateSet) (y : ℕ). (x, y))
          (ap (λ (t : List StateSet). t ++ map set_in os) (take-suc sets i [] inside_sets)
          ∙ append_assoc (take i sets) (node_set_at sets i ∷ []) (map set_in os)
          ∙ ap (λ (x : StateSet). take i sets ++ x ∷ map set_in os) here)
          (ap (λ (x : ℕ). count + x) (sym (zero-add (recomputed_in os))))

      recomputed-more : (os : List Outcome) → ended (suc i) (set sets i new) (count + 1) os ≡ ended i sets count (recomputed new ∷ os)
      recomputed-more os =
          ap₂ (λ (x : List StateSet) (y : ℕ). (x, y))
          (ap (λ (t : List StateSet). t ++ map set_in os) (take-suc-set sets i new inside_sets)
          ∙ append_assoc (take i sets) (new ∷ []) (map set_in os))
          (add_assoc count 1 (recomputed_in os))

      go : Tested (above' j) → Tested (same_words new (stored j)) → Ih sets count (stored j ∷ rest)
          → Ih (set sets i new) (count + 1) (new ∷ rest)
          → propagate_sets above i (suc (length ws)) sets count ≡ ended i sets count (propagate a table stored above' j (w ∷ ws) stack)
      go (fails b) c ih₁ ih₂ =
          propagate_sets-beside above i (length ws) sets count (above-here ∙ b)
          ∙ ih₁ words above-later inside_sets later
          (stack-pass a table ch i sets stack inside e ∙ ap₂ (λ (x : StateSet) (v : ℕ). x ∷ drop (arity a v) stack) here word)
          ∙ kept_more (propagate a table stored above' (suc j) ws (stored j ∷ rest))
          ∙ ap (ended i sets count) (sym (propagate-beside a table stored above' j w ws stack b))
      go (holds b) (holds c) ih₁ ih₂ =
          propagate_sets-last above i (length ws) sets count (above-here ∙ b) (ap₂ same_words recomputes here ∙ c)
          ∙ ap₂ (λ (x : List StateSet) (y : ℕ). (x, count + y))
          (sym (take-append-drop i sets)
          ∙ ap (λ (t : List StateSet). take i sets ++ t)
          (r ∙ ap₂ (λ (x : StateSet) (t : List StateSet). x ∷ t) (sym (same-words new (stored j) c))
          (sym (sets-kept stored (length ws) (suc j)))))
          (sym (ap (λ (x : ℕ). 1 + x) (count_kept stored (length ws) (suc j))))
          ∙ ap (ended i sets count) (sym (propagate-last a table stored above' j w ws stack b c))
      go (holds b) (fails c) ih₁ ih₂ =
          propagate_sets-onward above i (length ws) sets count (above-here ∙ b) (ap₂ same_words recomputes here ∙ c)
          ∙ ap (λ (x : StateSet). propagate_sets above (suc i) (length ws) (set sets i x) (count + 1)) recomputes
          ∙ ih₂ words above-later (lt-length-set sets i new inside_sets) (drop-set-lt (suc i) sets i new (omega arith) ∙ later)
          (stack_push a table ch i sets stack new inside inside_sets e ∙ ap (λ (v : ℕ). new ∷ drop (arity a v) stack) word)
          ∙ recomputed-more (propagate a table stored above' (suc j) ws (new ∷ rest))
          ∙ ap (ended i sets count) (sym (propagate-onward a table stored above' j w ws stack b c))
