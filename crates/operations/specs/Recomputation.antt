-- Which ancestors an accepted Exchange recomputes (document 01, "Marks"), said of the state sets as they come out, for the
-- claim of demand 3's second half. The definition that works them out is `propagate` in Exchange.
use Rattle.std.specs.Prelude.{ℕ, ◌+◌, List, [], Bool, not, ◌&&◌, length, get_or, drop}
use Rattle.words.specs.Lists.{all, list_from}
use Rattle.words.specs.Postfix.{span_of, is_ancestor}
use Rattle.automaton.specs.StateSet.{StateSet}
use Rattle.operations.specs.Marks.{same_words}
use Rattle.operations.specs.ExchangeCall.{ExchangeCall}
use Rattle.operations.specs.Exchange.{Outcome, kept, set_in, root_set, used, stored_in, outcomes}

-- the outcome of a node by its number
abbrev pub outcome_at : List Outcome → ℕ → Outcome
outcome_at os j = get_or os j (kept [])

module _ (c : ExchangeCall) where
  -- node j of the new tree: its outcome, and its state set at exit
  abbrev pub outcome_of : ℕ → Outcome
  outcome_of j = outcome_at (outcomes c) j

  abbrev pub set_after : ℕ → StateSet
  set_after j = set_in (outcome_of j)

  -- the number of the first node of the replaced subtree, and of the replacement
  abbrev pub start_in : ℕ
  start_in = (span_of c.alphabet (used c) c.element).start

  -- how many nodes stand behind the replaced subtree; node k of these by its number in the old tree and in the new one
  abbrev pub behind_in : ℕ
  behind_in = length (drop (c.element + 1) (used c))

  abbrev pub old_number : ℕ → ℕ
  old_number k = c.element + 1 + k

  abbrev pub new_number : ℕ → ℕ
  new_number k = start_in + length c.replacement + k

  -- it is an ancestor of the replaced element
  abbrev pub ancestor : ℕ → Bool
  ancestor k = is_ancestor c.alphabet (used c) c.element (old_number k)

  -- it is an ancestor "whose marks are unchanged": work ends there
  abbrev pub unchanged : ℕ → Bool
  unchanged k = ancestor k && same_words (set_after (new_number k)) (stored_in c (old_number k))

  -- work continues up to it: the replacement root's words are not those stored for the old element, and no nearer ancestor is
  -- unchanged
  abbrev pub continues : ℕ → Bool
  continues k =
      not (same_words (root_set c.alphabet c.table c.replacement) (stored_in c c.element))
      && all (λ i. not (unchanged i)) (list_from (λ i. i) 0 k)

  -- it is an ancestor that is recomputed
  abbrev pub recomputes : ℕ → Bool
  recomputes k = continues k && ancestor k
