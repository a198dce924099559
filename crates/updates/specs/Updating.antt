-- What the loops of Run and Exchange do in the marks, and what they ask. These definitions serve inner functions.
use Rattle.std.specs.Prelude.{ℕ, ◌-◌, ◌≤◌, List, length}
use Rattle.nodes.specs.Nodes.{marked_from, Workable}
use Rattle.propagation.specs.Propagation.{propagate_from, initial}

-- The nodes from `start` up to `root` are worked out. Then node `root` is, if there is one: if its words are those that stand at
-- its place, that is all; otherwise its ancestors follow. The count is that of the nodes worked out.
unfoldable pub updated_from : List ℕ → List ℕ → List ℕ → ℕ → ℕ → List ℕ → List ℕ × ℕ
updated_from a table ch start root marks =
    propagate_from a table ch root (length ch - root) (marked_from a table ch start (root - start) marks) (initial (root - start))

pub record Updatable (a table ch : List ℕ) (start root : ℕ) (marks : List ℕ) : Type 0 where
  pub workable : Workable a table ch (length marks)
  pub order : start ≤ root
  pub inside : root ≤ length ch
