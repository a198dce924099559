-- `syntax::postfix::one_tree` meets its contract: before each turn the words that are left, after the trees so far, make one tree
-- exactly if all words do.
use mathlib.Core.Path.{◌≡◌}
use Prim.Native.Nat.{◌≤◌}
use lib.ListN.{drop}
use Rattle.words.specs.Postfix.{trees}
use Rattle.syntax.proofs.postfix.one_tree.Given as goal

abbrev pub invariant-loop-w : goal.invariant-loop-w
invariant-loop-w l = record {
  below : l.made ≤ l.w-index;
  same : trees l.alphabet 0 l.words 1 ≡ trees l.alphabet l.made (drop l.w-index l.words) 1;
}
