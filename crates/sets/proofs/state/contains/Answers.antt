-- `sets::state::contains` meets its contract: beyond the set's words there is no word, and the bit of one that is there is the
-- state's.
use Rattle.std.proofs.Common.{◌≡◌, ℕ, ◌/◌, ◌%◌, ◌^◌, Bool, false, List}
use lib.ListN.{get_or-eq_default}
use native.Mathlib.Nat.{zero-div}
use borrow.Author.Rules.{rules}
use borrow.Author.Tests.{tests}
use Rattle.std.specs.Option.{MatchOption}
use Rattle.std.specs.declared.option.Option.{Option}
use Rattle.std.specs.declared.option.Option.TheVariants.{None, Some}
use Rattle.std.specs.Slice.{IsItemAt}
use denote.Ref.{Bor}
use lib.Dec.{eqb}
use Rattle.automaton.specs.StateSet.{contains}
use Rattle.sets.proofs.state.contains.Goals as goal

told : (set : List ℕ) (s : ℕ) (o : Option (Bor ℕ)) (r : Bool) (Q : Bor ℕ → Type 0) → IsItemAt set (s / 32) o
    → MatchOption o (r ≡ false) Q → ((x : Bor ℕ) → Q x → r ≡ eqb (x.now / 2 ^ (s % 32) % 2) 1) → r ≡ contains set s
unfolding contains
told set s None r Q h g f = rw (get_or-eq_default set 0 h.3, zero-div) g
told set s (Some x) r Q h g f = rw (← h.3.1 0) (f x g)

pub returns : goal.returns
returns c =
    told _ _ _ _ _ c.get.ensures.lookup c.is_some_and.ensures (λ x k. search (rules, tests))
