-- The chain of a node's symbol, followed from its first word to its end: the set holds what the transitions on the symbol
-- lead to, and stays closed.
use mathlib.Core.Path.{◌≡◌, refl, ap, ◌∙◌, sym, subst}
use mathlib.Core.Logic.{⊎_elim}
use mathlib.Core.Bool.{true}
use mathlib.Core.List.{List}
use Prim.Native.Nat.{ℕ, ◌+◌, ◌<◌}
use native.Mathlib.Omega.{arith}
use native.Mathlib.Decide.{ℕ_discrete, dec_lt}
use lib.ListN.{length, get_or, drop}
use Rattle.std.proofs.Common.{Option, Some, None}
use Rattle.words.specs.Word.{state_below}
use Rattle.automaton.specs.Transition.{Transition, automaton_of, sources_at}
use Rattle.automaton.specs.StateSet.{StateSet, all_contained}
use Rattle.automaton.specs.Reached.{Reached, by_epsilon}
use Rattle.automaton.proofs.ClosureLaws.{targets-below, reached-below}
use Rattle.automaton.proofs.TableLaws.{is_table-automaton}
use Rattle.index.specs.Index.{key_of, key_count, chain_word, IndexedTable}
use Rattle.index.proofs.ChainLaws.{FirstWith, SymbolWord, next_with, next-some, next-none, keyed-symbol, chain-none, chain-some}
use Rattle.index.proofs.IndexLaws.{keyed}
use Rattle.closures.specs.Closure.{ReachedFrom, itself, onward, Joinable, JoinedClosure}
use Rattle.closures.specs.declared.KeptClosures.{KeptClosures}
use Rattle.closures.proofs.KeyedWordLaws.{symbol-below, symbol-reached, symbol-sources}
use Rattle.closures.proofs.FollowLaws.{left, chain_first, chain_next, left_less}
use Rattle.step.specs.NodeSteppable.{RowsInside, child_sets}
use Rattle.step.specs.Node.{SourcesReadable, Growing, Satisfied}
use Rattle.step.specs.Node.{SymbolFollowable, SymbolFollowed, TransitionFollowable, TransitionFollowed}

-- what is reached from a reached state is reached
reached-on : {ts : List Transition} {f : ℕ} {rs : List StateSet} {s q : ℕ} → ReachedFrom ts s q → Reached ts f rs s → Reached ts f rs q
reached-on itself h = h
reached-on (onward m d) h = by_epsilon m (reached-on d h)

-- ---- one transition

module _ {table index : List ℕ} {size : ℕ} {marks children : List ℕ} {kept : KeptClosures} {pending : List ℕ} {r : StateSet} {i : ℕ}
    (g : TransitionFollowable table index size marks children kept pending r i) where
  f : ℕ
  f = key_of (get_or table i 0)

  rs : List StateSet
  rs = child_sets size marks children

  checked : IndexedTable table index
  checked = g.followable.steppable.node.indexed

  symbol : SymbolWord (get_or table i 0) (key_of (get_or table i 0))
  symbol = keyed-symbol (get_or table i 0) refl g.followable.steppable.node.symbol-below

  target_below : state_below (get_or table i 0) < (automaton_of table).states
  target_below = symbol-below checked i g.inside symbol

  -- a transition on the node's symbol has as many part states as the node has children
  pub transition-sources : SourcesReadable table (i + 1) size marks children
  unfolding checked
  transition-sources =
      record {
        count = sym (symbol-sources checked i g.inside symbol) ∙ g.followable.steppable.node.rank;
        rows = subst (λ k. RowsInside k marks children) (sym g.followable.size_is) g.followable.steppable.node.rows;
      }

  pub transition-joinable : Joinable table index (state_below (get_or table i 0)) kept pending r
  unfolding checked
  transition-joinable =
      let k = g.followable.growing in
      let short = checked.short in
      let over = targets-below (is_table-automaton checked.alphabet (omega arith) table checked.checked) in
      record {
        keepable = record {
          closable = record { checked = checked; state = target_below; fits = g.followable.steppable.fits };
          closures = g.followable.steppable.closures;
        };
        set = k.set;
        below = λ q e. reached-below (automaton_of table) (key_of (get_or table i 0)) (child_sets size marks children) over (k.reached q e);
      }

  -- the set stays: it has the target, or the part states are not in the children's sets
  pub transition-still : Satisfied table (child_sets size marks children) r i
      → TransitionFollowed table (key_of (get_or table i 0)) (child_sets size marks children) i r r kept
  transition-still h =
      record { closures = g.followable.steppable.closures; growing = g.followable.growing; grown = λ q e. e; satisfied = h }

  pub transition-more : all_contained (sources_at (drop (i + 1) table)) (child_sets size marks children) ≡ true
      → {t : StateSet} {kept' : KeptClosures}
      → JoinedClosure table (state_below (get_or table i 0)) r t kept'
      → TransitionFollowed table (key_of (get_or table i 0)) (child_sets size marks children) i r t kept'
  transition-more h {t} j =
      let a = j.added in
      let target = symbol-reached checked i g.inside symbol (child_sets size marks children) h in
      record {
        closures = j.closures;
        growing = record {
          set = a.set;
          reached = λ q e. ⊎_elim (g.followable.growing.reached q) (λ d. reached-on d target) (a.within q e);
        };
        grown = a.grown;
        satisfied = λ _. a.holds;
      }

-- ---- all of them

-- at a word of the chain, or at its end: the words before are followed
pub record SymbolAt (table index : List ℕ) (f size : ℕ) (marks children : List ℕ) (kept : KeptClosures) (pending : List ℕ) (r : StateSet)
    (pending_length : ℕ) (word : Option ℕ) : Type 0 where
  pub followable : SymbolFollowable table index f size marks children kept pending r
  pub from : ℕ
  pub at : word ≡ chain_word (next_with table f from)
  pub pending-long : length pending ≡ pending_length
  pub followed : (j : ℕ) → j < from → j < length table → key_of (get_or table j 0) ≡ f → Satisfied table (child_sets size marks children) r j

module _ {table index : List ℕ} {f size : ℕ} {marks children : List ℕ} {kept : KeptClosures} {pending : List ℕ} {r : StateSet} where
  pub symbol-first : SymbolFollowable table index f size marks children kept pending r
      → SymbolAt table index f size marks children kept pending r (length pending) (chain_word (get_or index f 0))
  symbol-first g =
      let c = g.steppable.node.indexed in
      let small = g.steppable.node.symbol-below in
      record {
        followable = g;
        from = 0;
        at = ap chain_word (chain_first c f (omega arith));
        pending-long = refl;
        followed = λ j h l e. absurd (omega arith);
      }

  module _ {pending_length : ℕ} {word : Option ℕ} (s : SymbolAt table index f size marks children kept pending r pending_length word) where
    pub symbol-checked : IndexedTable table index
    symbol-checked = s.followable.steppable.node.indexed

    key_below : f < key_count
    key_below = let small = s.followable.steppable.node.symbol-below in omega arith

    pub symbol_end : word ≡ None → SymbolFollowed table f (child_sets size marks children) r kept
    symbol_end h =
        record {
          closures = s.followable.steppable.closures;
          growing = s.followable.growing;
          satisfied = λ j l e. go j l e (dec_lt j s.from);
        }
      where
        go : (j : ℕ) → j < length table → key_of (get_or table j 0) ≡ f → Dec (j < s.from)
            → Satisfied table (child_sets size marks children) r j
        go j l e (yes b) = s.followed j b l e
        go j l e (no b) = absurd (next-none refl (keyed symbol-checked) key_below (chain-none _ (sym s.at ∙ h)) j (omega arith) l e)

    module _ {i : ℕ} (h : word ≡ Some i) where
      symbol-next : FirstWith table f s.from i
      symbol-next = let e = chain-some _ (sym s.at ∙ h) in next-some (sym e.0) e.1

      pub symbol-inside : i < length table
      symbol-inside = symbol-next.inside

      pub symbol-at : TransitionFollowable table index size marks children kept pending r i
      symbol-at =
          record {
            followable =
                subst (λ k. SymbolFollowable table index k size marks children kept pending r) (sym symbol-next.keyed)
                s.followable;
            inside = symbol-next.inside;
          }

      pub symbol-less : left table (chain_word (get_or index (key_count + i) 0)) < left table (Some i)
      symbol-less = left_less symbol-checked symbol-next key_below

      pub symbol-more : {t : StateSet} {kept' : KeptClosures} {pending' : List ℕ} → length pending' ≡ length pending
          → TransitionFollowed table (key_of (get_or table i 0)) (child_sets size marks children) i r t kept'
          → SymbolAt table index f size marks children kept' pending' t pending_length (chain_word (get_or index (key_count + i) 0))
      symbol-more {t} {kept'} {pending'} e j =
          record {
            followable = record {
              steppable = record {
                node = s.followable.steppable.node;
                closures = j.closures;
                fits = rw e s.followable.steppable.fits;
              };
              size_is = s.followable.size_is;
              growing = subst (λ k. Growing table k (child_sets size marks children) t) symbol-next.keyed j.growing;
            };
            from = i + 1;
            at = ap chain_word (chain_next symbol-checked symbol-next key_below);
            pending-long = e ∙ s.pending-long;
            followed = λ k b l q. go k b l q (ℕ_discrete k i) (dec_lt k s.from);
          }
        where
          go : (k : ℕ) → k < i + 1 → k < length table → key_of (get_or table k 0) ≡ f → Dec (k ≡ i) → Dec (k < s.from)
              → Satisfied table (child_sets size marks children) t k
          go k b l q (yes x) d = rw x j.satisfied
          go k b l q (no x) (yes d) = λ c. j.grown _ (s.followed k d l q c)
          go k b l q (no x) (no d) = absurd (symbol-next.skipped k (omega arith) (omega arith) q)
