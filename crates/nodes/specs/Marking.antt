-- Marking nodes by a memo, with a stack of representatives: what it asks and leaves. These definitions serve inner functions.
use Rattle.std.specs.Prelude.{ℕ, ◌<◌, ◌≤◌, ◌≡◌, List, reverse, map, length, replicate, ◌*◌}
use Rattle.words.specs.Limits.{states_most}
use Rattle.words.specs.Lists.{AllBelow}
use Rattle.words.specs.Postfix.{roots_of}
use Rattle.operations.specs.Marks.{size_of, stored_set}
use Rattle.sets.specs.Size.{set_most}
use Rattle.index.specs.Index.{index_of}
use Rattle.closures.specs.Closure.{rows_most}
use Rattle.memo.specs.declared.Memo.{Memo}
use Rattle.memo.specs.Memo.{Remembered, places_most, slots_most}
use Rattle.nodes.specs.declared.stack.Roots.{Roots}
use Rattle.nodes.specs.declared.marking.Marking.{Marking}
use Rattle.nodes.specs.Nodes.{Held, Workable}

-- the stack holds nodes before i, which have the state sets of the roots of the first i nodes, the last root on top
pub record Represented (a table ch : List ℕ) (i : ℕ) (marks : List ℕ) (roots : Roots) : Type 0 where
  pub nodes : List ℕ
  pub held : Held roots.nodes roots.height nodes
  pub count : length nodes ≡ length (roots_of a ch i)
  pub below : AllBelow i nodes
  pub same : map (stored_set (size_of table) marks) nodes ≡ map (stored_set (size_of table) marks) (reverse (roots_of a ch i))

-- before node i is marked: the stack, and what is kept from node to node
pub record Maintained (a table ch : List ℕ) (i : ℕ) (marks : List ℕ) (marking : Marking) : Type 0 where
  pub represented : Represented a table ch i marks marking.roots
  pub remembered : Remembered table marks i marking.memo

-- what marking node i asks; the index is the table's
pub record NodeMarkable (a table index ch : List ℕ) (i : ℕ) (marks : List ℕ) (marking : Marking) : Type 0 where
  pub workable : Workable a table ch (length marks)
  pub indexed : index ≡ index_of table
  pub inside : i < length ch
  pub maintained : Maintained a table ch i marks marking

-- what marking the nodes from `from` up to `to` asks
pub record NodesMarkable (a table index ch : List ℕ) (from to : ℕ) (marks : List ℕ) (marking : Marking) : Type 0 where
  pub workable : Workable a table ch (length marks)
  pub indexed : index ≡ index_of table
  pub order : from ≤ to
  pub inside : to ≤ length ch
  pub maintained : Maintained a table ch from marks marking

-- a memo that remembers nothing
abbrev pub empty_memo : Memo
empty_memo = record {
  keys = replicate slots_most 0;
  known = replicate slots_most 0;
  places = replicate places_most 0;
  closures = record { owners = replicate rows_most 0; rows = replicate (rows_most * set_most) 0 };
  pending = replicate states_most 0;
}
