-- The chain of a state's epsilon transitions, followed from its first word to its end, and the states on the stack, taken
-- one after another until none is left.
use mathlib.Core.Path.{◌≡◌, refl, ap, sym, ◌∙◌}
use mathlib.Core.Bool.{true}
use mathlib.Core.List.{List}
use Prim.Native.Nat.{ℕ, ◌+◌, ◌<◌, ◌≤◌}
use native.Mathlib.Omega.{arith}
use lib.ListN.{length, get_or}
use Rattle.words.specs.Word.{state_below}
use Rattle.automaton.specs.Transition.{automaton_of}
use Rattle.automaton.specs.StateSet.{StateSet, contains}
use Rattle.std.proofs.Common.{Option, Some, None}
use Rattle.index.specs.Index.{IndexedTable, key_count, state_key, chain_word}
use Rattle.index.proofs.ChainLaws.{FirstWith, EpsilonWord, next_with, next-some, next-none, keyed-epsilon, chain-none, chain-some}
use Rattle.closures.specs.Closure.{Closed, PendingStack, Search, Puttable, Put, FollowableAt, Followed, work}
use Rattle.closures.proofs.KeyedWordLaws.{closed-epsilon, epsilon-below, epsilon-reached}
use Rattle.closures.proofs.PendingStackLaws.{stack-puttable, stack-put, put-less, put-present, put_keeps}
use Rattle.closures.proofs.SearchLaws.{search-put, search-word, search-end, search-pop}
use Rattle.index.proofs.IndexLaws.{keyed}
use Rattle.closures.proofs.FollowLaws.{left, states-most, chain_first, chain_next, left_less}

-- ---- the chain of a state

-- At a word of state p's chain, or at its end: the words before are followed. Before the first word there were
-- the set, the stack and its height with the sign ₀.
pub record EpsilonsAt (table index : List ℕ) (p : ℕ) (r₀ : StateSet) (pending₀ : List ℕ) (top₀ : ℕ) (word : Option ℕ) (r : StateSet) (pending : List ℕ)
    (top : ℕ) : Type 0 where
  pub checked : IndexedTable table index
  pub from : ℕ
  pub at : word ≡ chain_word (next_with table (state_key p) from)
  pub stack : PendingStack table r pending top
  pub less : work table r top ≤ work table r₀ top₀
  pub present : contains r p ≡ true
  pub search : (base : StateSet) (o : ℕ) → Closed table base → Search table base o (state_key p) 0 r₀ pending₀ top₀
      → Search table base o (state_key p) from r pending top

-- a state of the set has a chain
pub key-inside : {table index : List ℕ} {p : ℕ} {r : StateSet} {pending : List ℕ} {top : ℕ} → FollowableAt table index p r pending top
    → state_key p < key_count
key-inside {p = p} g = let b = g.followable.stack.below p g.present in omega (arith, states-most g.followable.checked)

pub epsilons-first : {table index : List ℕ} {p : ℕ} {r : StateSet} {pending : List ℕ} {top : ℕ} → FollowableAt table index p r pending top
    → EpsilonsAt table index p r pending top (chain_word (get_or index (state_key p) 0)) r pending top
epsilons-first {p = p} g =
    record {
      checked = g.followable.checked;
      from = 0;
      at = ap chain_word (chain_first g.followable.checked (state_key p) (key-inside g));
      stack = g.followable.stack;
      less = omega arith;
      present = g.present;
      search = λ base o k h. h;
    }

module _ {table index : List ℕ} {p : ℕ} {r₀ : StateSet} {pending₀ : List ℕ} {top₀ : ℕ} {word : Option ℕ} {r : StateSet} {pending : List ℕ}
    {top : ℕ} (s : EpsilonsAt table index p r₀ pending₀ top₀ word r pending top) where
  key-small : state_key p < key_count
  key-small = key-inside (record { followable = record { checked = s.checked; stack = s.stack }; present = s.present })

  pub epsilons-end : word ≡ None → Followed table (state_key p) 0 r₀ pending₀ top₀ r pending top
  epsilons-end h =
      record {
        stack = s.stack;
        less = s.less;
        settled = λ base o k g. search-end (s.search base o k g) (next-none refl (keyed s.checked) key-small (chain-none _ (sym s.at ∙ h)));
      }

  module _ {i : ℕ} (h : word ≡ Some i) where
    epsilons-next : FirstWith table (state_key p) s.from i
    epsilons-next = let e = chain-some _ (sym s.at ∙ h) in next-some (sym e.0) e.1

    pub epsilons-inside : i < length table
    epsilons-inside = epsilons-next.inside

    epsilons-at : EpsilonWord (get_or table i 0) p
    epsilons-at = let l = key-small in keyed-epsilon (get_or table i 0) epsilons-next.keyed (omega arith)

    reaches-below : state_below (get_or table i 0) < (automaton_of table).states
    reaches-below = epsilon-below s.checked i epsilons-next.inside epsilons-at

    pub epsilons-puttable : Puttable r pending top (state_below (get_or table i 0))
    epsilons-puttable = stack-puttable (states-most s.checked) s.stack reaches-below

    pub epsilons-less : left table (chain_word (get_or index (key_count + i) 0)) < left table (Some i)
    epsilons-less = left_less s.checked epsilons-next key-small

    pub epsilons-more : {t : StateSet} {pushed : List ℕ} {height : ℕ} → Put r pending top (state_below (get_or table i 0)) t pushed height
        → EpsilonsAt table index p r₀ pending₀ top₀ (chain_word (get_or index (key_count + i) 0)) t pushed height
    epsilons-more {t} {pushed} {height} q =
        let most = states-most s.checked in
        record {
          checked = s.checked;
          from = i + 1;
          at = ap chain_word (chain_next s.checked epsilons-next key-small);
          stack = stack-put most s.stack reaches-below q;
          less = let u = put-less most s.stack reaches-below q in let v = s.less in omega arith;
          present = put_keeps most s.stack reaches-below q p s.present;
          search = λ base o k g. search base o k (s.search base o k g);
        }
      where
        search : (base : StateSet) (o : ℕ) → Closed table base → Search table base o (state_key p) s.from r pending top
            → Search table base o (state_key p) (i + 1) t pushed height
        search base o k g =
            let most = states-most s.checked in
            let reached = epsilon-reached s.checked i epsilons-next.inside epsilons-at base o k (g.reached p s.present) in
            search-word (search-put g most s.stack reaches-below reached q) epsilons-next
            (closed-epsilon table i t epsilons-at (put-present most s.stack reaches-below q))

-- ---- the states on the stack, until none is left

module _ {table : List ℕ} {r₀ : StateSet} {pending₀ : List ℕ} {top₀ : ℕ} where
  pub pending-none : PendingStack table r₀ pending₀ top₀ → Followed table 0 (length table) r₀ pending₀ top₀ r₀ pending₀ top₀
  pending-none stack = record { stack = stack; less = omega arith; settled = λ base o k g. g }

  module _ {r : StateSet} {pending : List ℕ} {top : ℕ} (s : Followed table 0 (length table) r₀ pending₀ top₀ r pending top) (below : ℕ)
      (e : below + 1 ≡ top) where
    -- without the top state
    pub pending-stack : PendingStack table r pending below
    pending-stack =
        let h = s.stack in
        record { size = h.size; below = h.below; fits = h.fits; few = omega (arith, h.few); inside = λ k l. h.inside k (omega arith) }

    pub pending-present : contains r (get_or pending below 0) ≡ true
    pending-present = s.stack.inside below (omega arith)

    module _ {t : StateSet} {pushed : List ℕ} {height : ℕ}
        (g : Followed table (state_key (get_or pending below 0)) 0 r pending below t pushed height) where
      pub pending-more : Followed table 0 (length table) r₀ pending₀ top₀ t pushed height
      pending-more =
          record {
            stack = g.stack;
            less = let u = s.less in let v = g.less in omega arith;
            settled = λ base o k h. g.settled base o k (search-pop (s.settled base o k h) below e);
          }

      pub pending-less : work table t height < work table r top
      pending-less = let v = g.less in omega arith

  module _ {r : StateSet} {pending : List ℕ} {top : ℕ} (s : Followed table 0 (length table) r₀ pending₀ top₀ r pending top) where
    -- the stack stands in its array
    pub pending-few : top ≤ length pending
    pending-few = omega (arith, s.stack.few, s.stack.fits)

    pub pending-end : top ≤ 0 → Followed table 0 (length table) r₀ pending₀ top₀ r pending 0
    pending-end h = let e : top ≡ 0 = omega arith in rw e at s
