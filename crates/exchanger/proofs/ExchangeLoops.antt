-- What the loops of Exchange do, over the list of state sets: the sets move, those of the replacement are recomputed node by
-- node, its root is compared with the old element's set as it was stored, and the loop behind leads upwards. The sets are then those of
-- the outcomes, and the count is theirs, whatever the stored sets are.
use mathlib.Core.Path.{◌≡◌, refl, ap, ap₂, ◌∙◌, sym}
use mathlib.Core.Bool.{true, cond}
use mathlib.Core.List.{List, [], ◌∷◌, ◌++◌, map, append_assoc, head-eq_of_cons-eq}
use Prim.Native.Nat.{ℕ, suc, ◌+◌, ◌-◌, ◌<◌, ◌≤◌}
use native.Mathlib.Omega.{arith}
use native.Mathlib.Nat.{zero-add, add-zero}
use lib.ListN.{length, take, drop, length-append, get_or-append}
use lib.Seq.{slice, length-take-le, take_at, drop_at, drop-append-add, take-append-add}
use Rattle.words.specs.Lists.{list_from}
use Rattle.words.specs.Shape.{splice_by}
use Rattle.words.specs.Postfix.{arity, one_tree, span_of, is_ancestor, splice, values, stack_after, stack_given, roots_of}
use Rattle.words.proofs.TestLaws.{Tested, holds, fails, tested}
use Rattle.words.proofs.ListLaws.{map-append, length-list_from, get_or-list_from}
use Rattle.words.proofs.PostfixLaws.{start-le, length-splice}
use Rattle.words.proofs.StackLaws.{read, Read, length-values}
use Rattle.words.proofs.ChildLaws.{roots-more, roots-below, stack-numbers}
use Rattle.words.proofs.AllLaws.{map_below}
use Rattle.automaton.specs.StateSet.{StateSet}
use Rattle.operations.specs.Marks.{node_set, node_sets, same_words}
use Rattle.operations.specs.Exchange.{Outcome, recomputed, set_in, recomputed_in, kept_from, propagate, root_set, outcomes_behind, outcomes_after}
use Rattle.operations.proofs.PropagateLaws.{sets-kept, count_kept}
use Rattle.operations.proofs.OutcomeLaws.{sets-recomputed, root-read}
use Rattle.operations.proofs.OutcomeParts.{recomputed-parts}
use Rattle.nodes.proofs.LoopLaws.{node_set_at, Recomputing}
use Rattle.nodes.proofs.MarkedSets.{marked_sets, length-marked_sets, marked_sets-recomputing}
use Rattle.exchanger.proofs.PropagateSets.{propagate_sets, propagate_sets-is}

module _ (a table : List ℕ) (stored : ℕ → StateSet) (ch : List ℕ) (element : ℕ) (x : List ℕ) (gap : List StateSet) where
  abbrev s : ℕ
  s = (span_of a ch element).start

  abbrev behind : List ℕ
  behind = drop (element + 1) ch

  abbrev tree : List ℕ
  tree = splice a ch element x

  -- the sets behind the moves: the replacement's are whatever stood there
  abbrev pub moved_sets : List StateSet
  moved_sets = list_from stored 0 s ++ (gap ++ list_from stored (element + 1) (length behind))

  -- the replacement's nodes, one after the other
  abbrev pub replaced_sets : ℕ → List StateSet
  replaced_sets k = marked_sets a table tree s k moved_sets

  -- all sets, and how many are recomputed; the old element's set is the one stored before the moves
  unfoldable pub updated_sets : List StateSet × ℕ
  updated_sets =
      cond (same_words (node_set_at (replaced_sets (length x)) (s + length x - 1)) (stored element))
      (replaced_sets (length x), length x)
      (propagate_sets a table tree (λ i. is_ancestor a ch element (i - (s + length x) + (element + 1))) (s + length x) (length behind)
      (replaced_sets (length x)) (length x))

  module _ (he : element < length ch) (hx : one_tree a x ≡ true) (some : 0 < length x) (hg : length gap ≡ length x) where
    abbrev step : ℕ → List StateSet → StateSet
    step = node_set table

    σ : List StateSet
    σ = stack_given a stored 0 (take s ch) []

    low : s ≤ element
    low = start-le (arity a) ch element

    length_front : length (take s ch) ≡ s
    length_front = length-take-le s ch (let l = low in omega arith)

    length-tree : length tree ≡ s + (length x + length behind)
    length-tree = length-splice (arity a) ch element x he

    pub length-moved_sets : length moved_sets ≡ s + (length x + length behind)
    length-moved_sets =
        length-append (list_from stored 0 s) (gap ++ list_from stored (element + 1) (length behind))
        ∙ ap₂ (λ (i j : ℕ). i + j) (length-list_from stored s 0)
        (length-append gap (list_from stored (element + 1) (length behind))
        ∙ ap₂ (λ (i j : ℕ). i + j) hg (length-list_from stored (length behind) (element + 1)))

    take-front : take s tree ≡ take s ch
    unfolding splice_by
    take-front = take_at (take s ch) (x ++ behind) s length_front

    replacement : slice s (s + length x) tree ≡ x
    unfolding splice_by
    replacement =
        let n : s + length x ≡ length (take s ch) + length x = ap (λ (i : ℕ). i + length x) (sym length_front) in
        ap (λ (t : List ℕ). drop s t)
        (ap (λ (i : ℕ). take i tree) n ∙ take-append-add (take s ch) (x ++ behind) (length x)
        ∙ ap (λ (t : List ℕ). take s ch ++ t) (take_at x behind (length x) refl))
        ∙ drop_at (take s ch) x s length_front

    pub words-behind : drop (s + length x) tree ≡ behind
    unfolding splice_by
    words-behind =
        ap (λ (i : ℕ). drop (i + length x) tree) (sym length_front) ∙ drop-append-add (take s ch) (x ++ behind) (length x)
        ∙ drop_at x behind (length x) refl

    stack-front : map (node_set_at moved_sets) (roots_of a tree s) ≡ σ
    unfolding σ
    stack-front =
        ap (λ (l : List ℕ). map (node_set_at moved_sets) (stack_given a (λ k. k) 0 l [])) take-front
        ∙ map_below (node_set_at moved_sets) stored s (roots_of a ch s) (roots-below (arity a) ch s (omega (arith, low)))
        (λ k h. get_or-append (list_from stored 0 s) _ [] k (rw (length-list_from stored s 0) h) ∙ get_or-list_from stored [] s 0 k h
        ∙ ap stored (zero-add k))
        ∙ sym (stack-numbers (arity a) stored (take s ch) 0 [])

    all_recomputed : Recomputing a table tree moved_sets s σ (length x) (replaced_sets (length x))
    all_recomputed =
        marked_sets-recomputing a table tree moved_sets s σ (length x) (omega (arith, length-tree)) (omega (arith, length-moved_sets))
        stack-front

    new : Read (arity a) step x
    new = read (arity a) step x hx

    root : root_set a table x ≡ new.root
    unfolding new
    root = root-read a table x hx

    replaced_sets-are : replaced_sets (length x) ≡ list_from stored 0 s ++ values a step x [] ++ list_from stored (element + 1) (length behind)
    replaced_sets-are =
        let m : s + length x ≡ length (list_from stored 0 s) + length x = ap (λ (i : ℕ). i + length x) (sym (length-list_from stored s 0)) in
        let back : drop (s + length x) moved_sets ≡ list_from stored (element + 1) (length behind) =
        ap (λ (i : ℕ). drop i moved_sets) m
        ∙ drop-append-add (list_from stored 0 s) (gap ++ list_from stored (element + 1) (length behind)) (length x)
        ∙ drop_at gap (list_from stored (element + 1) (length behind)) (length x) hg in
        let fore : take s moved_sets ≡ list_from stored 0 s = take_at (list_from stored 0 s) _ s (length-list_from stored s 0) in
        all_recomputed.sets-are
        ∙ ap₂ (λ (l k : List StateSet). l ++ values a step (slice s (s + length x) tree) σ ++ k) fore back
        ∙ ap (λ (l : List StateSet). list_from stored 0 s ++ l ++ list_from stored (element + 1) (length behind))
        (ap (λ (l : List ℕ). values a step l σ) replacement ∙ new.values-on σ)

    stack-replaced : map (node_set_at (replaced_sets (length x))) (roots_of a tree (s + length x)) ≡ root_set a table x ∷ σ
    stack-replaced =
        all_recomputed.stack_is ∙ ap (λ (l : List ℕ). stack_after a step l σ) replacement ∙ new.stack-on σ
        ∙ ap (λ (r : StateSet). r ∷ σ) (sym root)

    root-replaced : node_set_at (replaced_sets (length x)) (s + length x - 1) ≡ root_set a table x
    root-replaced =
        let q = s + length x - 1 in
        let n : s + length x ≡ suc q = omega arith in
        head-eq_of_cons-eq
        (sym (ap (λ (l : List ℕ). map (node_set_at (replaced_sets (length x))) l)
        (ap (roots_of a tree) n ∙ roots-more (arity a) tree q (omega (arith, length-tree)))) ∙ stack-replaced)

    head : List StateSet
    head = list_from stored 0 s ++ values a step x []

    length-head : length head ≡ s + length x
    unfolding head
    length-head =
        length-append (list_from stored 0 s) (values a step x [])
        ∙ ap₂ (λ (i j : ℕ). i + j) (length-list_from stored s 0) (length-values (arity a) step x [])

    -- the sets of the outcomes in their three parts
    outcomes-parts : head ++ map set_in (outcomes_behind a table stored ch element x) ≡ map set_in (outcomes_after a table stored ch element x)
    unfolding outcomes_after head node_sets
    outcomes-parts =
        sym
        (map-append set_in (kept_from stored 0 s) (map recomputed (values a step x []) ++ outcomes_behind a table stored ch element x)
        ∙ ap₂ (λ (l k : List StateSet). l ++ k) (sets-kept stored s 0)
        (map-append set_in (map recomputed (values a step x [])) (outcomes_behind a table stored ch element x)
        ∙ ap (λ (l : List StateSet). l ++ map set_in (outcomes_behind a table stored ch element x)) (sets-recomputed (values a step x [])))
        ∙ sym (append_assoc (list_from stored 0 s) (values a step x []) (map set_in (outcomes_behind a table stored ch element x))))

    pub updated_sets-outcomes : updated_sets
        ≡ (map set_in (outcomes_after a table stored ch element x), recomputed_in (outcomes_after a table stored ch element x))
    unfolding updated_sets outcomes_behind head σ
    updated_sets-outcomes =
        go (tested (same_words (root_set a table x) (stored element)))
        ∙ ap₂ (λ (l : List StateSet) (i : ℕ). (l, i)) outcomes-parts (sym (recomputed-parts a table stored ch element x))
      where
        go : Tested (same_words (root_set a table x) (stored element)) → updated_sets
            ≡ (
              head ++ map set_in (outcomes_behind a table stored ch element x),
              length x + recomputed_in (outcomes_behind a table stored ch element x),
            )
        go (holds b) =
            rw (root-replaced, b)
            (ap₂ (λ (l : List StateSet) (i : ℕ). (l, i))
            (replaced_sets-are ∙ ap (λ (l : List StateSet). head ++ l) (sym (sets-kept stored (length behind) (element + 1))))
            (sym (add-zero (length x)) ∙ ap (λ (i : ℕ). length x + i) (sym (count_kept stored (length behind) (element + 1)))))
        go (fails b) =
            rw (root-replaced, b)
            (propagate_sets-is a table tree stored (λ i. is_ancestor a ch element (i - (s + length x) + (element + 1)))
            (is_ancestor a ch element) behind (s + length x) (element + 1)
            (replaced_sets (length x)) (length x) (root_set a table x ∷ σ) words-behind
            (λ t. ap (is_ancestor a ch element) (omega arith))
            (omega (arith, length-marked_sets a table tree s (length x) moved_sets, length-moved_sets))
            (ap (drop (s + length x)) replaced_sets-are
            ∙ drop_at head (list_from stored (element + 1) (length behind)) (s + length x) length-head)
            stack-replaced
            ∙ ap (λ (l : List StateSet). (l ++ map set_in onward, length x + recomputed_in onward))
            (ap (take (s + length x)) replaced_sets-are
            ∙ take_at head (list_from stored (element + 1) (length behind)) (s + length x) length-head))
          where
            onward : List Outcome
            onward = propagate a table stored (is_ancestor a ch element) (element + 1) behind (root_set a table x ∷ σ)
