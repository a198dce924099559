-- The ones in a list of words: of a list behind a list, and how many there are at most.
use mathlib.Core.Path.{◌≡◌, ap, ◌∙◌, sym}
use mathlib.Core.List.{List, [], ◌∷◌, ◌++◌, flatten}
use Prim.Native.Nat.{ℕ, ◌+◌, ◌*◌, ◌<◌, ◌≤◌}
use native.Mathlib.Omega.{arith}
use native.Mathlib.Nat.{zero-add, add_assoc}
use lib.ListN.{length}
use lib.Count.{ones, ones-le}
use Rattle.words.specs.Word.{word_range}
use Rattle.words.specs.Lists.{All, AllBelow}
use Rattle.words.proofs.AllLaws.{each-flatten}
use Rattle.automaton.specs.StateSet.{StateSet}
use Rattle.automaton.specs.Transition.{automaton_of}
use Rattle.automaton.proofs.ClosureLaws.{words-state_set}
use Rattle.operations.specs.Marks.{size_of, node_set, node_sets}
use Rattle.operations.specs.Run.{cells_in}
use Rattle.operations.proofs.MarksLaws.{Sized, each-node_sets, sized-node_sets, length-node_sets, length-flatten}

pub cells-append : (l k : List ℕ) → cells_in (l ++ k) ≡ cells_in l + cells_in k
unfolding cells_in
cells-append [] k = sym (zero-add (cells_in k))
cells-append (w ∷ l) k = ap (λ (i : ℕ). ones w + i) (cells-append l k) ∙ sym (add_assoc (ones w) (cells_in l) (cells_in k))

-- a word has at most 32 ones
cells-most : (ws : List ℕ) → AllBelow word_range ws → cells_in ws ≤ 32 * length ws
unfolding cells_in
cells-most [] h = omega arith
cells-most (w ∷ ws) h =
    let few = ones-le 32 w h.0 in
    let rest = cells-most ws h.1 in
    omega arith

-- state sets of one size
pub cells-sets : (size : ℕ) (rs : List StateSet) → Sized size rs → All (AllBelow word_range) rs
    → cells_in (flatten rs) ≤ 32 * (length rs * size)
cells-sets size rs h g =
    let few = cells-most (flatten rs) (each-flatten (λ w. w < word_range) rs g) in
    omega (arith, length-flatten size rs h)

pub words-node_set : (table : List ℕ) (w : ℕ) (rs : List StateSet) → AllBelow word_range (node_set table w rs)
unfolding node_set
words-node_set table w rs = words-state_set (automaton_of table) _ rs

module _ (a table : List ℕ) where
  pub cells-node_sets : (ch : List ℕ) → cells_in (flatten (node_sets a table ch)) ≤ 32 * (length ch * size_of table)
  cells-node_sets ch =
      let few =
      cells-sets (size_of table) (node_sets a table ch) (sized-node_sets a table ch)
      (each-node_sets a table (AllBelow word_range) (words-node_set table) ch) in
      rw (← length-node_sets a table ch) few
