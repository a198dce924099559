-- How many words state sets have at most.
use mathlib.Core.Path.{◌≡◌, refl}
use mathlib.Core.Bool.{true}
use mathlib.Core.List.{List}
use Prim.Native.Nat.{ℕ, ◌*◌, ◌≤◌}
use native.Mathlib.Omega.{arith}
use native.Mathlib.Nat.{le_trans, mul-le-mul_left, mul-le-mul_right}
use Rattle.words.specs.Limits.{states_most, nodes_most}
use Rattle.automaton.specs.StateSet.{size_for}
use Rattle.automaton.specs.Table.{is_table}
use Rattle.automaton.proofs.TableLaws.{is_table-states}
use Rattle.operations.specs.Marks.{size_of}
use Rattle.sets.specs.Size.{set_most, marks_most}

-- document 01's S for the most states
pub most-states : size_for states_most ≡ set_most
unfolding size_for
most-states = refl

-- the set of one node
pub set-small : (a table : List ℕ) → is_table a table ≡ true → size_of table ≤ set_most
unfolding size_of size_for
set-small a table h = omega (arith, is_table-states a table h)

-- the sets of n nodes
pub words-few : (n size : ℕ) → n ≤ nodes_most → size ≤ set_most → n * size ≤ marks_most
words-few n size h l = le_trans (mul-le-mul_right size h) (mul-le-mul_left nodes_most l)
