-- The nodes behind the place of an exchange: what passing them does and asks. These definitions serve inner functions.
use Rattle.std.specs.Prelude.{ℕ, suc, ◌+◌, ◌-◌, ◌*◌, ◌<◌, ◌≤◌, ◌≡◌, Bool, not, cond, ◌&&◌, List, [], ◌∷◌, length, take, drop}
use Rattle.words.specs.Limits.{nodes_most}
use Rattle.words.specs.Postfix.{arity, is_ancestor, span_of, roots_of, stack_given, value_on}
use Rattle.automaton.specs.StateSet.{StateSet}
use Rattle.operations.specs.Marks.{size_of, node_set, stored_set, same_words}
use Rattle.operations.specs.Run.{run_fault}
use Rattle.operations.specs.Totals.{Totals}
use Rattle.operations.specs.Exchange.{Outcome, set_in, kept_from, propagate}
use Rattle.totals.specs.declared.Totals.{Totals as Record}
use Rattle.totals.specs.TotalsIn.{totals_in}
use Rattle.forecast.specs.declared.behind.Place.{Place}
use Rattle.forecast.specs.declared.behind.Passing.{Passing}
use Rattle.forecast.specs.declared.pile.Pile.{Pile}
use Rattle.forecast.specs.declared.pile.Work.{Work}
use Rattle.forecast.specs.Pile.{stack_of, Kept, Steppable}
use Rattle.forecast.specs.Sum.{with_set, with_sets, Plausible}

-- the sets of those nodes, from j on, that `above` tells, where these are the outcomes
unfoldable pub sets_where : (ℕ → Bool) → ℕ → List Outcome → List StateSet
sets_where above j [] = []
sets_where above j (o ∷ os) = let rest = sets_where above (suc j) os in cond (above j) (set_in o ∷ rest) rest

-- the outcomes of the nodes from j on: none is recomputed where work has ended
unfoldable pub outcomes_from : List ℕ → List ℕ → (ℕ → StateSet) → (ℕ → Bool) → Bool → ℕ → List ℕ → List StateSet → List Outcome
outcomes_from a table stored above active j ws stack =
    cond active (propagate a table stored above j ws stack) (kept_from stored j (length ws))

-- the totals with those of node i's ancestors among the nodes from j on
unfoldable pub with_ancestors : List ℕ → List ℕ → List ℕ → ℕ → List ℕ → ℕ → List StateSet → Bool → Totals → Totals
with_ancestors a table ch i marks j stack active t =
    with_sets table t
    (sets_where (is_ancestor a ch i) j
    (outcomes_from a table (stored_set (size_of table) marks) (is_ancestor a ch i) active j (drop j ch) stack))

-- those of a place, where this stack stands behind it
abbrev pub place_totals : Place → List StateSet → Bool → Totals → Totals
place_totals p = with_ancestors p.alphabet.now p.indexed.table.now p.nodes.now p.element p.marks.now (p.element + 1)

-- the stored sets of the roots of the trees that the first `count` nodes make
abbrev pub stored_before : Place → ℕ → List StateSet
stored_before p count =
    stack_given p.alphabet.now (stored_set (size_of p.indexed.table.now) p.marks.now) 0 (take count p.nodes.now) []

-- a tree with marks that Run accepts
pub record Marked (a table ch marks : List ℕ) : Type 0 where
  pub accepted : run_fault a table ch (length marks) ≡ 0

-- such a tree's place
abbrev pub MarkedPlace : Place → Type 0
MarkedPlace p = Marked p.alphabet.now p.indexed.table.now p.nodes.now p.marks.now

-- what is kept from node to node
abbrev pub KeptAt : Place → Work → Type 0
KeptAt p = Kept p.alphabet.now p.indexed.table.now p.indexed.index.now

-- ---- the sets before the place

pub record Stackable (p : Place) (count : ℕ) : Type 0 where
  pub marked : MarkedPlace p
  pub within : count ≤ length p.nodes.now

-- ---- one node

pub record Passable (p : Place) (w : ℕ) (stored : List ℕ) (pile : Pile) (t : Passing) (work : Work) : Type 0 where
  pub step : Steppable p.alphabet.now p.indexed.table.now p.indexed.index.now w pile work
  pub size : length stored ≡ size_of p.indexed.table.now
  pub reached : t.reach ≤ nodes_most
  pub plausible : Plausible t.totals
  pub counted : t.totals.elements < 2 * nodes_most

-- The set of a node with word w over this stack is the stored one, but if it is above the place and work continues.
unfoldable pub passed_set : List ℕ → List ℕ → ℕ → StateSet → List StateSet → Bool → Bool → StateSet
passed_set a table w stored stack active above = cond (above && active) (value_on a (node_set table) w stack) stored

-- how far the nodes are passed behind it
pub record Passed (a table : List ℕ) (w : ℕ) (stored : StateSet) (pile : Pile) (t : Passing) (above : Bool) (pile' : Pile)
    (r : Passing) : Type 0 where
  pub stack_is : stack_of (size_of table) pile'
      ≡ passed_set a table w stored (stack_of (size_of table) pile) t.active above ∷ drop (arity a w) (stack_of (size_of table) pile)
  pub height-is : pile'.height ≡ pile.height - arity a w + 1
  pub reach-is : r.reach ≡ cond above 1 (t.reach - arity a w + 1)
  pub active-is : r.active
      ≡ cond above (t.active && not (same_words (passed_set a table w stored (stack_of (size_of table) pile) t.active above) stored)) t.active
  pub totals-are : totals_in r.totals
      ≡ cond above (with_set table (totals_in t.totals) (passed_set a table w stored (stack_of (size_of table) pile) t.active above)) (totals_in t.totals)
  pub plausible : Plausible r.totals

-- ---- all nodes behind

-- over the sets of the roots so far
pub record NodesPassable (p : Place) (pile : Pile) (t : Passing) (work : Work) : Type 0 where
  pub marked : MarkedPlace p
  pub kept : KeptAt p work
  pub inside : p.element < length p.nodes.now
  pub height-is : pile.height ≡ length (roots_of p.alphabet.now p.nodes.now (p.element + 1))
  pub reach-is : t.reach ≡ 1
  pub plausible : Plausible t.totals
  pub counted : t.totals.elements ≤ nodes_most

-- instead of the place's subtree stands a tree whose root has this set
pub record BehindCountable (p : Place) (start : ℕ) (root : List ℕ) (t : Record) (pile : Pile) (work : Work) : Type 0 where
  pub marked : MarkedPlace p
  pub kept : KeptAt p work
  pub inside : p.element < length p.nodes.now
  pub begins : start ≡ (span_of p.alphabet.now p.nodes.now p.element).start
  pub size : length root ≡ size_of p.indexed.table.now
  pub plausible : Plausible t
  pub counted : t.elements ≤ nodes_most
