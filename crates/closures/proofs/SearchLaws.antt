-- The words of a table that are settled while the closure of a state is worked out: by a state that is reached, by a word that
-- is followed, at the end of a chain of words and by a state that is taken from the stack.
use mathlib.Core.Path.{◌≡◌, ap, ◌∙◌, sym}
use mathlib.Core.Bool.{true, false}
use mathlib.Core.Logic.{◌⊎◌, inl, inr}
use mathlib.Core.List.{List}
use Prim.Native.Nat.{ℕ, ◌+◌, ◌<◌, ◌≤◌}
use native.Mathlib.Omega.{arith}
use native.Mathlib.Decide.{ℕ_discrete, dec_lt}
use lib.ListN.{length, get_or, set}
use lib.Seq.{get_or-set_same, get_or-set_other}
use Rattle.words.specs.Limits.{states_most}
use Rattle.automaton.specs.Transition.{automaton_of}
use Rattle.automaton.specs.StateSet.{StateSet, contains, insert}
use Rattle.automaton.proofs.BitLaws.{words-insert, insert-same, insert-other, insert-keeps}
use Rattle.index.specs.Index.{key_of, state_key}
use Rattle.index.proofs.ChainLaws.{FirstWith}
use Rattle.closures.specs.Closure.{ReachedFrom, itself, ClosedAt, SettledAt, satisfied}
use Rattle.closures.specs.Closure.{waiting, PendingStack, Search, Settled, Put, ClosedSet}
use Rattle.closures.proofs.KeyedWordLaws.{starts-epsilon}
use Rattle.closures.proofs.PendingStackLaws.{put-cases, stack-puttable}

-- ---- one state more

-- the epsilon transitions from the new state wait, and every other word stays settled
module _ (table : List ℕ) (r : StateSet) (pending : List ℕ) (top s : ℕ) (fits : top < length pending) (i : ℕ) where
  stays_closed : (key_of (get_or table i 0) ≡ state_key s → ⊥) → ClosedAt table r i → ClosedAt table (insert r s) i
  stays_closed n h p q m e =
      insert-keeps r s q (h p q m (sym (insert-other r s p (λ x. n (starts-epsilon table i m ∙ ap state_key x))) ∙ e))

  settled-insert : SettledAt table r pending top i → SettledAt table (insert r s) (set pending top s) (top + 1) i
  settled-insert (waiting k l e) =
      waiting k (omega arith) (e ∙ sym (ap state_key (get_or-set_other pending top k s 0 (λ x. omega arith))))
  settled-insert (satisfied h) = go (ℕ_discrete (key_of (get_or table i 0)) (state_key s))
    where
      go : Dec (key_of (get_or table i 0) ≡ state_key s) → SettledAt table (insert r s) (set pending top s) (top + 1) i
      go (yes e) = waiting top (omega arith) (e ∙ sym (ap state_key (get_or-set_same pending top s 0 fits)))
      go (no n) = satisfied (stays_closed n h)

module _ {table : List ℕ} {base : StateSet} {o : ℕ} where
  module _ {key from : ℕ} {r : StateSet} {pending : List ℕ} {top : ℕ} (g : Search table base o key from r pending top) where
    pub search-put : (automaton_of table).states ≤ states_most → PendingStack table r pending top → {s : ℕ} → s < (automaton_of table).states
        → (contains base s ≡ true) ⊎ ReachedFrom (automaton_of table).transitions o s → {t : StateSet} {pushed : List ℕ} {height : ℕ}
        → Put r pending top s t pushed height
        → Search table base o key from t pushed height
    search-put most stack {s} below reaches p = put-cases (λ t k n. Search table base o key from t k n) p (λ e. g) new
      where
        reached : (q : ℕ) → contains (insert r s) q ≡ true → Dec (q ≡ s)
            → (contains base q ≡ true) ⊎ ReachedFrom (automaton_of table).transitions o q
        reached q e (yes i) = rw i reaches
        reached q e (no i) = g.reached q (sym (insert-other r s q i) ∙ e)

        new : contains r s ≡ false → Search table base o key from (insert r s) (set pending top s) (top + 1)
        new absent =
            record {
              words = words-insert r s g.words;
              grown = λ q e. insert-keeps r s q (g.grown q e);
              holds = insert-keeps r s o g.holds;
              reached = λ q e. reached q e (ℕ_discrete q s);
              settled = λ i l h. settled-insert table r pending top s ((stack-puttable most stack below).fits absent) i (g.settled i l h);
            }

    -- ---- the first word of the chain is followed, or there is none

    pub search-word : {i : ℕ} → FirstWith table key from i → ClosedAt table r i → Search table base o key (i + 1) r pending top
    search-word {i} n done =
        record {
          words = g.words;
          grown = g.grown;
          holds = g.holds;
          reached = g.reached;
          settled = λ j l h. go j l h (ℕ_discrete j i)
              (dec_lt j from);
        }
      where
        go : (j : ℕ) → j < length table → (key_of (get_or table j 0) ≡ key → j < i + 1) → Dec (j ≡ i) → Dec (j < from)
            → SettledAt table r pending top j
        go j l h (yes e) d = rw e (satisfied done)
        go j l h (no e) (yes d) = g.settled j l (λ k. d)
        go j l h (no e) (no d) = g.settled j l (λ k. let u = h k in absurd (n.skipped j (omega arith) (omega arith) k))

    pub search-end : ((j : ℕ) → from ≤ j → j < length table → key_of (get_or table j 0) ≡ key → ⊥) → Settled table base o r pending top
    search-end none = record {
      words = g.words;
      grown = g.grown;
      holds = g.holds;
      reached = g.reached;
      settled = λ j l h. g.settled j l (λ k. go j l k (dec_lt j from));
    }
      where
        go : (j : ℕ) → j < length table → key_of (get_or table j 0) ≡ key → Dec (j < from) → j < from
        go j l k (yes d) = d
        go j l k (no d) = absurd (none j (omega arith) l k)

  -- ---- the top of the stack is taken

  pub search-pop : {r : StateSet} {pending : List ℕ} {top : ℕ} → Settled table base o r pending top → (below : ℕ) → below + 1 ≡ top
      → Search table base o (state_key (get_or pending below 0)) 0 r pending below
  search-pop {r} {pending} {top} g below e =
      record {
        words = g.words;
        grown = g.grown;
        holds = g.holds;
        reached = g.reached;
        settled = λ i l h. go i h
            (g.settled i l (λ k. l));
      }
    where
      go : (i : ℕ) → (key_of (get_or table i 0) ≡ state_key (get_or pending below 0) → i < 0) → SettledAt table r pending top i
          → SettledAt table r pending below i
      go i h (satisfied d) = satisfied d
      go i h (waiting k l q) = at (ℕ_discrete k below)
        where
          at : Dec (k ≡ below) → SettledAt table r pending below i
          at (yes x) = absurd (let u = h (q ∙ ap (λ (y : ℕ). state_key (get_or pending y 0)) x) in omega arith)
          at (no x) = waiting k (omega arith) q

  -- with nothing on the stack, no epsilon transition adds anything
  pub settled-all : {r : StateSet} {pending : List ℕ} → Settled table base o r pending 0 → (i : ℕ) → i < length table → ClosedAt table r i
  settled-all {r} {pending} g i l = go (g.settled i l (λ k. l))
    where
      go : SettledAt table r pending 0 i → ClosedAt table r i
      go (satisfied d) = d
      go (waiting k h q) = absurd (omega arith)

-- ---- the state itself, put into a closed set

module _ (table : List ℕ) (base : StateSet) (pending : List ℕ) (s : ℕ) (set_is : ClosedSet table base)
    (closed : (i : ℕ) → i < length table → ClosedAt table base i) where
  pub search-here : contains base s ≡ true → Settled table base s base pending 0
  search-here h =
      record {
        words = set_is.words;
        grown = λ q e. e;
        holds = h;
        reached = λ q e. inl e;
        settled = λ i l k. satisfied (closed i l);
      }

  pub search-first : s < states_most → 0 < length pending → Settled table base s (insert base s) (set pending 0 s) 1
  search-first few fits =
      record {
        words = words-insert base s set_is.words;
        grown = insert-keeps base s;
        holds = insert-same base s (omega (arith, set_is.size));
        reached = λ q e. reached q e (ℕ_discrete q s);
        settled = λ i l h. settled-insert table base pending 0 s fits i (satisfied (closed i l));
      }
    where
      reached : (q : ℕ) → contains (insert base s) q ≡ true → Dec (q ≡ s)
          → (contains base q ≡ true) ⊎ ReachedFrom (automaton_of table).transitions s q
      reached q e (yes i) = inr (rw i itself)
      reached q e (no i) = inl (sym (insert-other base s q i) ∙ e)
