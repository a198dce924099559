-- Where every transition on the symbol is followed, the set is the node's state set: it holds the targets, is closed under the
-- epsilon transitions and holds reached states only.
use mathlib.Core.Path.{◌≡◌, refl, ap, ◌∙◌, sym, subst}
use mathlib.Core.Bool.{true, true≢false}
use mathlib.Core.List.{List, [], ◌∷◌, ◌++◌, Memᴰ}
use Prim.Native.Nat.{ℕ, zero, suc, ◌-◌, ◌<◌, ◌/◌}
use native.Mathlib.Omega.{arith}
use lib.ListN.{length, get_or, replicate, length-append, length-replicate}
use Rattle.words.specs.Word.{word_range}
use Rattle.words.proofs.TestLaws.{same_truth}
use Rattle.words.proofs.AllLaws.{each_append}
use Rattle.automaton.specs.Transition.{Automaton, on_symbol, automaton_of}
use Rattle.automaton.specs.StateSet.{StateSet, size_for, contains, all_contained, state_set}
use Rattle.automaton.specs.Reached.{Reached}
use Rattle.automaton.proofs.PassLaws.{closed-test}
use Rattle.automaton.proofs.BitLaws.{words-replicate, contains-replicate, contains-determines}
use Rattle.automaton.proofs.ClosureLaws.{targets-below, targets-closed-all, words-state_set, state_set-reached}
use Rattle.automaton.proofs.SetLength.{length-state_set}
use Rattle.automaton.proofs.TableLaws.{is_table-automaton}
use Rattle.operations.specs.Marks.{size_of}
use Rattle.sets.specs.Size.{set_most}
use Rattle.sets.proofs.SizeLaws.{set-small}
use Rattle.index.specs.Index.{IndexedTable}
use Rattle.closures.specs.declared.KeptClosures.{KeptClosures}
use Rattle.closures.proofs.TransitionStartLaws.{member-starts, table-transitions}
use Rattle.closures.proofs.KeyedWordLaws.{starts-symbol, starts-target}
use Rattle.closures.proofs.KeptClosureLaws.{empty-closed}
use Rattle.step.specs.NodeSteppable.{NodeSteppable, child_sets}
use Rattle.step.specs.Node.{Steppable, SymbolFollowable, SymbolFollowed}

-- ---- before the first transition

pub node-followable : {table index : List ℕ} {f size : ℕ} {marks children : List ℕ} {kept : KeptClosures} {pending : List ℕ}
    → Steppable table index f marks children kept pending
    → size ≡ size_of table → SymbolFollowable table index f size marks children kept pending (replicate set_most 0)
node-followable {table} g e =
    record {
      steppable = g;
      size_is = e;
      growing = record {
        set = empty-closed table;
        reached = λ q h. absurd (true≢false (sym h ∙ contains-replicate set_most q));
      };
    }

-- ---- zeros behind a set add no state

zeros-read : (n i : ℕ) → get_or {A = ℕ} (replicate n 0) i 0 ≡ 0
zeros-read zero i = refl
zeros-read (suc n) zero = refl
zeros-read (suc n) (suc i) = zeros-read n i

zeros-at : (x : StateSet) (n i : ℕ) → get_or (x ++ replicate n 0) i 0 ≡ get_or x i 0
zeros-at [] n i = zeros-read n i
zeros-at (w ∷ x) n zero = refl
zeros-at (w ∷ x) n (suc i) = zeros-at x n i

contains-zeros : (x : StateSet) (n q : ℕ) → contains (x ++ replicate n 0) q ≡ contains x q
unfolding contains
contains-zeros x n q = rw (zeros-at x n (q / 32))

-- ---- the node's state set

module _ {table index : List ℕ} {f : ℕ} (indexed : IndexedTable table index) (rs : List StateSet) (r : StateSet)
    (kept : KeptClosures) (g : SymbolFollowed table f rs r kept) where
  A : Automaton
  A = automaton_of table

  has-targets : (ps : List ℕ) (q : ℕ) → Memᴰ (on_symbol f ps q) A.transitions → all_contained ps rs ≡ true → contains r q ≡ true
  unfolding A
  has-targets ps q m e =
      let s =
      member-starts table (on_symbol f ps q)
      (subst (Memᴰ (on_symbol f ps q)) (sym (table-transitions indexed.alphabet table indexed.checked)) m) in
      let t = starts-target table s.index s.member in
      rw t.1 (g.satisfied s.index s.inside (starts-symbol table s.index s.member) (rw t.0 at e))

  has-reached : {q : ℕ} → Reached A.transitions f rs q → contains r q ≡ true
  unfolding A
  has-reached =
      targets-closed-all A.transitions f rs (λ q. contains r q ≡ true) has-targets
      (closed-test A.transitions r g.growing.set.closed)

  whole : r ≡ state_set (automaton_of table) f rs ++ replicate (set_most - size_of table) 0
  unfolding A size_of
  whole =
      let x = state_set A f rs in
      let most = set-small indexed.alphabet table indexed.checked in
      let short = indexed.short in
      let below = targets-below (is_table-automaton indexed.alphabet (omega arith) table indexed.checked) in
      let long : length (x ++ replicate (set_most - size_for A.states) 0) ≡ set_most =
      rw (length-append, length-state_set A f rs, length-replicate {A = ℕ}) (omega arith) in
      contains-determines r (x ++ replicate (set_most - size_for A.states) 0) (g.growing.set.size ∙ sym long) g.growing.set.words
      (each_append (λ w. w < word_range) x (replicate (set_most - size_for A.states) 0) (words-state_set A f rs)
      (words-replicate (set_most - size_for A.states)))
      (λ q.
      same_truth (contains r q) (contains (x ++ replicate (set_most - size_for A.states) 0) q)
      (λ e. contains-zeros x (set_most - size_for A.states) q ∙ (state_set-reached A f rs below q).1 (g.growing.reached q e))
      (λ e. has-reached ((state_set-reached A f rs below q).0 (sym (contains-zeros x (set_most - size_for A.states) q) ∙ e))))

pub node_end : {table index : List ℕ} {f size : ℕ} {marks children : List ℕ} {kept : KeptClosures} → NodeSteppable table index f marks children
    → size ≡ size_of table
    → {r : StateSet} → SymbolFollowed table f (child_sets size marks children) r kept
    → r ≡ state_set (automaton_of table) f (child_sets (size_of table) marks children) ++ replicate (set_most - size_of table) 0
node_end {table} {index} {f} {size} {marks} {children} {kept} p e {r} g =
    whole p.indexed (child_sets size marks children) r kept g
    ∙ ap (λ (k : ℕ). state_set (automaton_of table) f (child_sets k marks children) ++ replicate (set_most - size_of table) 0) e
