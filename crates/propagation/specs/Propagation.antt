-- What the loop over the replacement's root and the nodes behind it does, node by node. These definitions serve inner
-- functions.
use Rattle.std.specs.Prelude.{ℕ, zero, suc, ◌+◌, ◌-◌, ◌*◌, ◌≤◌, Bool, not, cond, List, length, get_or, ltb}
use Rattle.std.specs.declared.ops.ControlFlow.{ControlFlow}
use Rattle.std.specs.declared.ops.ControlFlow.TheVariants.{Continue, Break}
use Rattle.words.specs.Limits.{nodes_most}
use Rattle.words.specs.Postfix.{arity}
use Rattle.operations.specs.Marks.{size_of, stored_set, same_words}
use Rattle.nodes.specs.declared.marking.Marking.{Marking}
use Rattle.nodes.specs.Nodes.{set_from, marked_at}
use Rattle.nodes.specs.Marking.{NodeMarkable, NodesMarkable}
use Rattle.propagation.specs.declared.Progress.{Progress}

-- Node i is recomputed: its words are written, and whether they differ from those that stood there.
unfoldable pub recompute_at : List ℕ → List ℕ → List ℕ → ℕ → List ℕ → List ℕ × Bool
recompute_at a table ch i marks =
    (marked_at a table ch i marks, not (same_words (set_from a table ch marks i) (stored_set (size_of table) marks i)))

-- Of the trees that the nodes before i make, the last `reach` are the one that holds the replacement and those above it. A
-- node that takes fewer is no ancestor, and nothing is done. Any other is an ancestor, or the replacement's root, before which
-- `reach` is 0: it is recomputed, and work continues if its words have changed.
unfoldable pub propagate_step : List ℕ → List ℕ → List ℕ → ℕ → List ℕ → Progress → List ℕ × ControlFlow ℕ Progress
propagate_step a table ch i marks t =
    let r = arity a (get_or ch i 0) in
    let beside : List ℕ × ControlFlow ℕ Progress = (marks, Continue (record { reach = t.reach - r + 1; recomputed = t.recomputed })) in
    let p = recompute_at a table ch i marks in
    let count = t.recomputed + 1 in
    let ancestor : List ℕ × ControlFlow ℕ Progress = (p.0, cond p.1 (Continue (record { reach = 1; recomputed = count })) (Break count)) in
    cond (ltb r t.reach) beside ancestor

-- what follows a step that left these marks: what is still to be done, or nothing
abbrev pub behind_step : List ℕ → (Progress → List ℕ × ℕ) → ControlFlow ℕ Progress → List ℕ × ℕ
behind_step marks onward (Continue t) = onward t
behind_step marks onward (Break count) = (marks, count)

-- the marks behind n nodes from node i on, and how many nodes were recomputed
unfoldable pub propagate_from : List ℕ → List ℕ → List ℕ → ℕ → ℕ → List ℕ → Progress → List ℕ × ℕ
propagate_from a table ch i zero marks t = (marks, t.recomputed)
propagate_from a table ch i (suc n) marks t =
    let next = propagate_step a table ch i marks t in
    behind_step next.0 (λ t'. propagate_from a table ch (suc i) n next.0 t') next.1

-- where the loop begins, with so many nodes recomputed before
abbrev pub initial : ℕ → Progress
initial count = record { reach = 0; recomputed = count }

-- what passing node i asks: the counts stay small
pub record Propagable (a table index ch : List ℕ) (i : ℕ) (marks : List ℕ) (marking : Marking) (t : Progress) : Type 0 where
  pub at : NodeMarkable a table index ch i marks marking
  pub few-reached : t.reach ≤ nodes_most
  pub few-recomputed : t.recomputed ≤ 2 * nodes_most

-- what the whole loop asks, with `count` nodes recomputed before
pub record PropagationStartable (a table index ch : List ℕ) (root : ℕ) (marks : List ℕ) (marking : Marking) (count : ℕ) : Type 0 where
  pub nodes : NodesMarkable a table index ch root (length ch) marks marking
  pub few : count ≤ nodes_most
