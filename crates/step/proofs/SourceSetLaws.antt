-- The part states behind a symbol transition, against the children's state sets from left to right.
use mathlib.Core.Path.{◌≡◌, ap, ap₂, ◌∙◌, sym}
use mathlib.Core.Bool.{Bool, true, false, cond, ◌&&◌}
use mathlib.Core.List.{List, [], ◌∷◌}
use Prim.Native.Nat.{ℕ, ◌+◌, ◌-◌, ◌*◌, ◌<◌, ◌≤◌}
use native.Mathlib.Omega.{arith}
use native.Mathlib.Decide.{dec_lt}
use lib.ListN.{length, get_or, take, drop, drop_of_length-le}
use Rattle.words.specs.Word.{source_kind, has_kind, state_below}
use Rattle.words.proofs.ListLaws.{length_none}
use Rattle.words.proofs.TestLaws.{Tested, holds, fails, tested}
use Rattle.words.proofs.ScanLaws.{drop-step}
use Rattle.automaton.specs.Transition.{sources_at}
use Rattle.automaton.specs.StateSet.{contains, all_contained}
use Rattle.operations.specs.Marks.{stored_set}
use Rattle.step.specs.NodeSteppable.{child_sets}
use Rattle.step.specs.Node.{SourcesReadable}

-- ---- the first of some part states

module _ (table : List ℕ) (j : ℕ) (some : 0 < length (sources_at (drop j table))) where
  sources-inside : j < length table
  sources-inside = go (dec_lt j (length table))
    where
      go : Dec (j < length table) → j < length table
      go (yes l) = l
      go (no l) =
          let e = ap (λ (x : List ℕ). length (sources_at x)) (drop_of_length-le table {i = j} (omega arith)) in
          absurd (omega arith)

  sources-step : sources_at (drop j table) ≡ state_below (get_or table j 0) ∷ sources_at (drop (j + 1) table)
  sources-step = ap sources_at (drop-step table j sources-inside) ∙ go (tested (has_kind source_kind (get_or table j 0)))
    where
      go : Tested (has_kind source_kind (get_or table j 0))
          → cond (has_kind source_kind (get_or table j 0)) (state_below (get_or table j 0) ∷ sources_at (drop (j + 1) table)) []
          ≡ state_below (get_or table j 0) ∷ sources_at (drop (j + 1) table)
      go (holds e) = rw e
      go (fails e) =
          let none : sources_at (drop j table) ≡ [] = ap sources_at (drop-step table j sources-inside) ∙ rw e in
          absurd (omega (arith, ap length none))

-- ---- the first k part states are in the first k children's sets

pub record SourcesHeld (table : List ℕ) (at size : ℕ) (marks children : List ℕ) (k : ℕ) : Type 0 where
  pub few : k ≤ length children
  pub left : length (sources_at (drop (at + k) table)) ≡ length children - k
  pub rest : all_contained (sources_at (drop at table)) (child_sets size marks children)
      ≡ all_contained (sources_at (drop (at + k) table)) (child_sets size marks (drop k children))

pub sources-held-none : {table : List ℕ} {at size : ℕ} {marks children : List ℕ} → SourcesReadable table at size marks children
    → SourcesHeld table at size marks children 0
sources-held-none {table} {at} {size} {marks} {children} s =
    let e : at + 0 ≡ at = omega arith in
    record {
      few = omega arith;
      left = rw e (omega (arith, s.count));
      rest = ap (λ (j : ℕ). all_contained (sources_at (drop j table)) (child_sets size marks children)) (sym e);
    }

module _ {table : List ℕ} {at size : ℕ} {marks children : List ℕ} {k : ℕ} (s : SourcesHeld table at size marks children k) where
  pub sources-held-end : length children ≤ k → true ≡ all_contained (sources_at (drop at table)) (child_sets size marks children)
  unfolding all_contained
  sources-held-end h =
      let few = s.few in
      sym (s.rest
      ∙ ap₂ all_contained (length_none (sources_at (drop (at + k) table)) (omega (arith, s.left)))
      (ap (child_sets size marks) (drop_of_length-le children h)))

  module _ (h : k < length children) where
    some : 0 < length (sources_at (drop (at + k) table))
    some = omega (arith, s.left)

    next : all_contained (sources_at (drop (at + k) table)) (child_sets size marks (drop k children))
        ≡ contains (stored_set size marks (get_or children k 0)) (state_below (get_or table (at + k) 0))
        && all_contained (sources_at (drop (at + k + 1) table)) (child_sets size marks (drop (k + 1) children))
    unfolding all_contained
    next = ap₂ all_contained (sources-step table (at + k) some) (ap (child_sets size marks) (drop-step children k h))

    module _ (b : Bool) (eb : b ≡ contains (stored_set size marks (get_or children k 0)) (state_below (get_or table (at + k) 0))) where
      pub sources-held-fails : b ≡ false → false ≡ all_contained (sources_at (drop at table)) (child_sets size marks children)
      sources-held-fails n = sym (s.rest ∙ next ∙ rw (← eb, n))

      pub sources-held-more : b ≡ true → SourcesHeld table at size marks children (k + 1)
      sources-held-more y =
          let e : at + (k + 1) ≡ at + k + 1 = omega arith in
          record {
            few = omega arith;
            left = rw e (omega (arith, s.left, ap length (sources-step table (at + k) some)));
            rest = s.rest ∙ next ∙ rw (← eb, y, e);
          }

-- a child's set is read as a part of the marks
pub row-contains : (size : ℕ) (marks : List ℕ) (child q : ℕ) (b : Bool)
    → b ≡ contains (take (child * size + size - child * size) (drop (child * size) marks)) q
    → b ≡ contains (stored_set size marks child) q
unfolding stored_set
row-contains size marks child q b e =
    let n : child * size + size - child * size ≡ size = omega arith in
    e ∙ ap (λ (k : ℕ). contains (take k (drop (child * size) marks)) q) n
