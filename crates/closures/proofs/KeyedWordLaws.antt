-- The transition that begins at a word of a table: its key tells it, what it leads to is reached, and when it adds nothing.
use mathlib.Core.Path.{◌≡◌, refl, subst}
use mathlib.Core.Logic.{◌⊎◌, inl, inr, ⊎_elim}
use mathlib.Core.Bool.{true}
use mathlib.Core.List.Memᴰ
use mathlib.Core.List.{List, Memᴰ}
use Prim.Native.Nat.{ℕ, ◌+◌, ◌<◌}
use native.Mathlib.Omega.{arith}
use lib.ListN.{length, get_or, drop}
use borrow.Author.Tests.{eqb-true, eq-eqb, ne_eqb}
use Rattle.words.specs.Word.{transition_kind, epsilon_kind, kind_number, has_kind, number_of, symbol_above, state_above, state_below}
use Rattle.words.specs.Alphabet.{rank_of}
use Rattle.words.proofs.TestLaws.{Tested, holds, fails, tested}
use Rattle.words.proofs.AllLaws.{each_at}
use Rattle.automaton.specs.Transition.{Transition, on_symbol, epsilon, sources_at, automaton_of}
use Rattle.automaton.specs.StateSet.{StateSet, contains, all_contained}
use Rattle.automaton.specs.Reached.{Reached, by_symbol}
use Rattle.automaton.specs.Table.{AutomatonOver, TransitionOver}
use Rattle.automaton.proofs.PassLaws.{closed-test}
use Rattle.automaton.proofs.ClosureLaws.{targets-below}
use Rattle.automaton.proofs.TableLaws.{is_table-automaton}
use Rattle.index.specs.Index.{key_of, state_key, IndexedTable}
use Rattle.index.proofs.ChainLaws.{SymbolWord, EpsilonWord, key-symbol, key-epsilon}
use Rattle.closures.specs.Closure.{ReachedFrom, onward, Closed, ClosedAt, starts_at}
use Rattle.closures.proofs.TransitionStartLaws.{starts-member, table-transitions}

-- ---- its kind and its key

module _ (table : List ℕ) (i : ℕ) where
  starts-on : number_of (get_or table i 0) ≡ kind_number transition_kind → {t : Transition} → Memᴰ t (starts_at table i)
      → t ≡ on_symbol (symbol_above (get_or table i 0)) (sources_at (drop (i + 1) table)) (state_below (get_or table i 0))
  starts-on e m = Memᴰ.eq_of_singleton (rw (eq-eqb (number_of (get_or table i 0)) (kind_number transition_kind) e) at m)

  starts_from : number_of (get_or table i 0) ≡ kind_number epsilon_kind → {t : Transition} → Memᴰ t (starts_at table i)
      → t ≡ epsilon (state_above (get_or table i 0)) (state_below (get_or table i 0))
  starts_from e m =
      Memᴰ.eq_of_singleton
      (rw (
        ne_eqb (number_of (get_or table i 0)) (kind_number transition_kind) (λ k. omega arith),
        eq-eqb (number_of (get_or table i 0)) (kind_number epsilon_kind) e,
      ) at m)

  starts-kind : {t : Transition} → Memᴰ t (starts_at table i)
      → (number_of (get_or table i 0) ≡ kind_number transition_kind) ⊎ (number_of (get_or table i 0) ≡ kind_number epsilon_kind)
  starts-kind m = go (tested (has_kind transition_kind (get_or table i 0))) (tested (has_kind epsilon_kind (get_or table i 0)))
    where
      go : Tested (has_kind transition_kind (get_or table i 0)) → Tested (has_kind epsilon_kind (get_or table i 0))
          → (number_of (get_or table i 0) ≡ kind_number transition_kind) ⊎ (number_of (get_or table i 0) ≡ kind_number epsilon_kind)
      go (holds y) t = inl (eqb-true (number_of (get_or table i 0)) (kind_number transition_kind) y)
      go (fails n) (holds y) = inr (eqb-true (number_of (get_or table i 0)) (kind_number epsilon_kind) y)
      go (fails n) (fails k) = absurd (Memᴰ.not-nil (rw (n, k) at m))

  pub starts-symbol : {g : ℕ} {ps : List ℕ} {q : ℕ} → Memᴰ (on_symbol g ps q) (starts_at table i) → key_of (get_or table i 0) ≡ g
  starts-symbol m = ⊎_elim (λ e. key-symbol (get_or table i 0) e (let h = starts-on e m in cc))
      (λ e. let h = starts_from e m in let z : ◌≡◌ {A = ℕ} 0 1 = cc in absurd (omega arith)) (starts-kind m)

  pub starts-epsilon : {p q : ℕ} → Memᴰ (epsilon p q) (starts_at table i) → key_of (get_or table i 0) ≡ state_key p
  starts-epsilon m = ⊎_elim (λ e. let h = starts-on e m in let z : ◌≡◌ {A = ℕ} 0 1 = cc in absurd (omega arith))
      (λ e. key-epsilon (get_or table i 0) e (let h = starts_from e m in cc)) (starts-kind m)

  -- ---- when it adds nothing

  pub closed-epsilon : {p : ℕ} (r : StateSet) → EpsilonWord (get_or table i 0) p → contains r (state_below (get_or table i 0)) ≡ true
      → ClosedAt table r i
  closed-epsilon r s h p q m e = let t = starts_from s.kind m in let k : q ≡ state_below (get_or table i 0) = cc in rw k h

  -- a symbol transition that begins there leads to the word's target
  pub starts-target : {g : ℕ} {ps : List ℕ} {q : ℕ} → Memᴰ (on_symbol g ps q) (starts_at table i)
      → (ps ≡ sources_at (drop (i + 1) table)) × (q ≡ state_below (get_or table i 0))
  starts-target m = ⊎_elim (λ e. let h = starts-on e m in (cc, cc))
      (λ e. let h = starts_from e m in let z : ◌≡◌ {A = ℕ} 0 1 = cc in absurd (omega arith)) (starts-kind m)

-- ---- what it leads to

module _ {table index : List ℕ} (c : IndexedTable table index) (i : ℕ) (inside : i < length table) where
  over : AutomatonOver c.alphabet (automaton_of table)
  over = let short = c.short in is_table-automaton c.alphabet (omega arith) table c.checked

  member : (t : Transition) → Memᴰ t (starts_at table i) → Memᴰ t (automaton_of table).transitions
  member t m = subst (Memᴰ t) (table-transitions c.alphabet table c.checked) (starts-member table i t inside m)

  module _ {f : ℕ} (s : SymbolWord (get_or table i 0) f) where
    symbol-member : Memᴰ (on_symbol f (sources_at (drop (i + 1) table)) (state_below (get_or table i 0))) (automaton_of table).transitions
    symbol-member =
        rw (← s.symbol)
        (member _ (rw (eq-eqb (number_of (get_or table i 0)) (kind_number transition_kind) s.kind) (Memᴰ.head refl)))

    pub symbol-below : state_below (get_or table i 0) < (automaton_of table).states
    symbol-below = targets-below over _ symbol-member

    pub symbol-reached : (rs : List StateSet) → all_contained (sources_at (drop (i + 1) table)) rs ≡ true
        → Reached (automaton_of table).transitions f rs (state_below (get_or table i 0))
    symbol-reached rs h = by_symbol symbol-member h

    -- as many part states as the symbol's rank
    pub symbol-sources : rank_of c.alphabet f ≡ length (sources_at (drop (i + 1) table))
    symbol-sources =
        (each_at (TransitionOver c.alphabet (automaton_of table).states) (automaton_of table).transitions over.transitions
        symbol-member).1

  module _ {p : ℕ} (s : EpsilonWord (get_or table i 0) p) where
    epsilon-member : Memᴰ (epsilon p (state_below (get_or table i 0))) (automaton_of table).transitions
    epsilon-member =
        rw (← s.from)
        (member _
        (rw (
          ne_eqb (number_of (get_or table i 0)) (kind_number transition_kind) (λ n. let k = s.kind in omega arith),
          eq-eqb (number_of (get_or table i 0)) (kind_number epsilon_kind) s.kind,
        )
        (Memᴰ.head refl)))

    pub epsilon-below : state_below (get_or table i 0) < (automaton_of table).states
    epsilon-below = targets-below over _ epsilon-member

    pub epsilon-reached : (base : StateSet) (o : ℕ) → Closed table base
        → (contains base p ≡ true) ⊎ ReachedFrom (automaton_of table).transitions o p
        → (contains base (state_below (get_or table i 0)) ≡ true)
        ⊎ ReachedFrom (automaton_of table).transitions o (state_below (get_or table i 0))
    epsilon-reached base o k h =
        ⊎_elim (λ d. inl (closed-test _ base k p (state_below (get_or table i 0)) epsilon-member d)) (λ d. inr (onward epsilon-member d)) h

-- a set that is closed is closed at each word
pub closed_at : {table index : List ℕ} → IndexedTable table index → (r : StateSet) → Closed table r → (i : ℕ) → i < length table
    → ClosedAt table r i
closed_at c r k i l p q m e = closed-test _ r k p q (member c i l (epsilon p q) m) e
