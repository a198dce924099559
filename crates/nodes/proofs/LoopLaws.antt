-- What the loops of Run and Exchange do, over a list of state sets and the stack of node numbers, and that it is what the
-- definitions say. `Recomputing` is the invariant of Run's loop (from node 0) and of Exchange's over the replacement.
use mathlib.Core.Path.{◌≡◌, ap, ap₂, ◌∙◌, sym}
use mathlib.Core.List.{List, [], ◌∷◌, ◌++◌, map, append_assoc, append-nil}
use Prim.Native.Nat.{ℕ, suc, ◌+◌, ◌<◌}
use native.Mathlib.Omega.{arith}
use native.Mathlib.Nat.{add-zero, add-suc}
use lib.ListN.{length, get_or, take, drop, set, length-append, take-append-drop}
use lib.Seq.{slice, slice_empty, length-slice, take-suc, drop-cons, drop-append-le, length-take-le, set_at, get_or-set_same}
use Rattle.words.specs.Shape.{values_by, stack_after_by}
use Rattle.words.specs.Postfix.{arity, value_on, values, stack_after, children_of, roots_of}
use Rattle.words.proofs.ListLaws.{map-drop}
use Rattle.words.proofs.StackLaws.{values-append, stack-append, length-values}
use Rattle.words.proofs.ChildLaws.{roots-more, roots-below, children-value}
use Rattle.words.proofs.AllLaws.{map-set-below}
use Rattle.automaton.specs.StateSet.{StateSet}
use Rattle.operations.specs.Marks.{node_set}

-- the state set of a node by its number
abbrev pub node_set_at : List StateSet → ℕ → StateSet
node_set_at sets k = get_or sets k []

module _ (a table ch : List ℕ) where
  -- one node, from the sets as they now stand
  unfoldable pub set_from_sets : ℕ → List StateSet → StateSet
  set_from_sets i sets = node_set table (get_or ch i 0) (map (node_set_at sets) (children_of a ch i))

  abbrev step : ℕ → List StateSet → StateSet
  step = node_set table

  -- the sets that the stack names are the stack of sets
  pub set-of : (i : ℕ) (sets stack : List StateSet) → map (node_set_at sets) (roots_of a ch i) ≡ stack
      → set_from_sets i sets ≡ value_on a step (get_or ch i 0) stack
  unfolding set_from_sets
  set-of i sets stack e = children-value (arity a) ch step (node_set_at sets) i stack e

  -- one node more on the stack, its set just written
  pub stack_push : (i : ℕ) (sets stack : List StateSet) (v : StateSet) → i < length ch → i < length sets
      → map (node_set_at sets) (roots_of a ch i) ≡ stack
      → map (node_set_at (set sets i v)) (roots_of a ch (suc i)) ≡ v ∷ drop (arity a (get_or ch i 0)) stack
  stack_push i sets stack v h l e =
      let k = arity a (get_or ch i 0) in
      ap (map (node_set_at (set sets i v))) (roots-more (arity a) ch i h)
      ∙ ap₂ (λ (x : StateSet) (y : List StateSet). x ∷ y) (get_or-set_same sets i v [] l)
      (map-drop (node_set_at (set sets i v)) k (roots_of a ch i)
      ∙ ap (drop k) (map-set-below sets i v [] (roots_of a ch i) (roots-below (arity a) ch i (omega arith)) ∙ e))

  -- one node more on the stack, its set as it stands
  pub stack-pass : (i : ℕ) (sets stack : List StateSet) → i < length ch → map (node_set_at sets) (roots_of a ch i) ≡ stack
      → map (node_set_at sets) (roots_of a ch (suc i)) ≡ node_set_at sets i ∷ drop (arity a (get_or ch i 0)) stack
  stack-pass i sets stack h e =
      let k = arity a (get_or ch i 0) in
      ap (map (node_set_at sets)) (roots-more (arity a) ch i h)
      ∙ ap (λ (y : List StateSet). node_set_at sets i ∷ y) (map-drop (node_set_at sets) k (roots_of a ch i) ∙ ap (drop k) e)

  -- ---- nodes from i on, one after the other

  -- after k nodes from i on, over the sets `old` and the stack σ
  pub record Recomputing (old : List StateSet) (i : ℕ) (σ : List StateSet) (k : ℕ) (sets : List StateSet) : Type 0 where
    pub sets-are : sets ≡ take i old ++ values a step (slice i (i + k) ch) σ ++ drop (i + k) old
    pub stack_is : map (node_set_at sets) (roots_of a ch (i + k)) ≡ stack_after a step (slice i (i + k) ch) σ

  module _ (old : List StateSet) (i : ℕ) (σ : List StateSet) where
    pub recomputing-none : map (node_set_at old) (roots_of a ch i) ≡ σ → Recomputing old i σ 0 old
    unfolding values_by stack_after_by
    recomputing-none e =
        let z : slice i (i + 0) ch ≡ [] = ap (λ (j : ℕ). slice i j ch) (add-zero i) ∙ slice_empty i ch in
        record {
          sets-are = rw (z, add-zero i, append-nil (take i old)) (sym (take-append-drop i old));
          stack_is =
              ap (λ (j : ℕ). map (node_set_at old) (roots_of a ch j)) (add-zero i) ∙ e
              ∙ ap (λ (l : List ℕ). stack_after a step l σ) (sym z);
        }

    pub recomputing-more : (k : ℕ) (sets : List StateSet) → i + k < length ch → i + k < length old → length sets ≡ length old
        → Recomputing old i σ k sets
        → Recomputing old i σ (suc k) (set sets (i + k) (set_from_sets (i + k) sets))
    unfolding values_by stack_after_by
    recomputing-more k sets h l n g =
        let w = get_or ch (i + k) 0 in
        let run = slice i (i + k) ch in
        let st = stack_after a step run σ in
        let v = set_from_sets (i + k) sets in
        let e : v ≡ value_on a step w st = set-of (i + k) sets st g.stack_is in
        let one : slice i (i + suc k) ch ≡ run ++ w ∷ [] =
        ap (λ (j : ℕ). slice i j ch) (add-suc i k) ∙ ap (drop i) (take-suc ch (i + k) 0 h)
        ∙ drop-append-le i (take (i + k) ch) (w ∷ []) (rw (length-take-le (i + k) ch (omega arith)) (omega arith)) in
        let head = take i old ++ values a step run σ in
        let m : length head ≡ i + k =
        length-append (take i old) (values a step run σ)
        ∙ ap₂ (λ (x y : ℕ). x + y) (length-take-le i old (omega arith))
        (length-values (arity a) step run σ ∙ length-slice i (i + k) ch (omega arith)) ∙ omega arith in
        record {
          sets-are =
              ap (λ (r : List StateSet). set r (i + k) v) (g.sets-are ∙ ap (λ (r : List StateSet). head ++ r) (drop-cons old (i + k) [] l))
              ∙ set_at head (get_or old (i + k) []) (drop (suc (i + k)) old) v (i + k) m
              ∙ ap₂ (λ (x : StateSet) (j : ℕ). head ++ x ∷ drop j old) e (sym (add-suc i k))
              ∙ sym
              (ap (λ (r : List ℕ). take i old ++ values a step r σ ++ drop (i + suc k) old) one
              ∙ ap (λ (r : List StateSet). take i old ++ r ++ drop (i + suc k) old) (values-append (arity a) step run (w ∷ []) σ)
              ∙ simp append_assoc);
          stack_is =
              ap (λ (j : ℕ). map (node_set_at (set sets (i + k) v)) (roots_of a ch j)) (add-suc i k)
              ∙ stack_push (i + k) sets st v h (omega arith) g.stack_is
              ∙ ap (λ (x : StateSet). x ∷ drop (arity a w) st) e
              ∙ sym (ap (λ (r : List ℕ). stack_after a step r σ) one ∙ stack-append (arity a) step run (w ∷ []) σ);
        }
