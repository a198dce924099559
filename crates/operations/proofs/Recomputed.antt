-- The second half of demand 3 holds of every accepted Exchange: the laws of the outcomes by node number, of the nodes behind
-- and of the rule, put together.
use mathlib.Core.Path.{◌≡◌, ap, ◌∙◌, sym, subst}
use mathlib.Core.Bool.{true}
use mathlib.Core.List.{List, [], ◌∷◌, map}
use Prim.Native.Nat.{ℕ, ◌+◌, ◌-◌, ◌<◌}
use native.Mathlib.Omega.{arith}
use lib.ListN.{length, get_or, length-map, get_or-map}
use lib.Seq.{length-take-le}
use Rattle.words.specs.Chapter.{symbol_of}
use Rattle.words.specs.Postfix.{children_of, one_tree}
use Rattle.words.proofs.AcceptedAlphabet.{alphabet-accepted}
use Rattle.words.proofs.AnswerLaws.{accepted-values}
use Rattle.automaton.specs.StateSet.{StateSet}
use Rattle.operations.specs.Marks.{size_of, node_set, ReachedSet, node_sets, stored_set, refit}
use Rattle.operations.specs.ExchangeCall.{ExchangeCall}
use Rattle.operations.specs.Exchange.{kept, recomputed, set_in, recomputed_in, used, new_tree, stored_in, outcomes}
use Rattle.operations.specs.Exchange.{words_fault, new_marks, exchange_values, fault, exchange_answer, exchange_marks}
use Rattle.operations.specs.Recomputation.{outcome_of, set_after, start_in}
use Rattle.operations.specs.Demands.{Demand3Recomputation}
use Rattle.operations.proofs.MarksLaws.{stored_set-flatten}
use Rattle.operations.proofs.LengthLaws.{sized-outcomes}
use Rattle.operations.proofs.AcceptedLaws.{CallAccepted, words-accepted, call-words}
use Rattle.operations.proofs.AnyTable.{node_set-reached}
use Rattle.operations.proofs.FromChildren.{Follows, follows-length, follows-outcomes, from-children}
use Rattle.operations.proofs.OutcomeParts.{root-last, outcome-before, outcome-replaced, recomputed-parts}
use Rattle.operations.proofs.OutcomeParts.{behind_of, outcome-rest, count-rest, recomputed-most}

-- ---- the outcomes of a call that is not refused but perhaps by 27

module _ (c : ExchangeCall) (fine : words_fault c ≡ 0) where
  abbrev a : List ℕ
  a = c.alphabet

  abbrev size : ℕ
  size = size_of c.table

  abbrev xs : List ℕ
  xs = c.replacement

  call : CallAccepted c
  call = words-accepted c fine

  pub shape : one_tree c.alphabet c.replacement ≡ true
  shape = call.change.replacement.tree.shape

  pub some : 0 < length c.replacement
  some = call.change.replacement.counted.some

  pub there : c.element < length (used c)
  there = rw (length-take-le c.count c.chapter call.count.within) call.change.element

  follows : Follows a c.table (new_tree c) [] (outcomes c)
  unfolding new_tree outcomes
  follows = follows-outcomes a c.table (stored_in c) (used c) c.element xs there shape

  pub nodes : length (outcomes c) ≡ length (new_tree c)
  nodes = follows-length a c.table (new_tree c) [] (outcomes c) follows

  -- an accepted call leaves these marks
  pub written : (j : ℕ) → j < length (new_tree c) → stored_set (size_of c.table) (new_marks c) j ≡ set_after c j
  unfolding outcomes refit new_marks
  written j l =
      stored_set-flatten size (map set_in (outcomes c)) _ j
      (sized-outcomes c call) (rw (length-map (outcomes c) set_in, nodes) l)
      ∙ get_or-map set_in (outcomes c) j (kept [])

  pub before : (j : ℕ) → j < start_in c → outcome_of c j ≡ kept (stored_in c j)
  unfolding outcomes
  before = outcome-before a c.table (stored_in c) (used c) c.element xs

  pub replaced : (k : ℕ) → k < length c.replacement
      → outcome_of c (start_in c + k) ≡ recomputed (get_or (node_sets c.alphabet c.table c.replacement) k [])
  unfolding outcomes
  replaced = outcome-replaced a c.table (stored_in c) (used c) c.element xs

  pub recomputed-from : (j : ℕ) (r : StateSet) → j < length (new_tree c) → outcome_of c j ≡ recomputed r
      → r ≡ node_set c.table (get_or (new_tree c) j 0) (map (set_after c) (children_of c.alphabet (new_tree c) j))
  recomputed-from = from-children a c.table (new_tree c) (outcomes c) follows

  reached : (j : ℕ) (r : StateSet) → j < length (new_tree c) → outcome_of c j ≡ recomputed r
      → ReachedSet c.table (symbol_of (get_or (new_tree c) j 0)) (map (set_after c) (children_of a (new_tree c) j)) r
  reached j r l e =
      let rs = map (set_after c) (children_of a (new_tree c) j) in
      subst (ReachedSet c.table (symbol_of (get_or (new_tree c) j 0)) rs) (sym (recomputed-from j r l e))
      (node_set-reached a c.table (alphabet-accepted a call.checked.alphabet).counted.few call.checked.automaton
      (get_or (new_tree c) j 0) rs)

  parts : recomputed_in (outcomes c) ≡ length xs + recomputed_in (behind_of c)
  unfolding outcomes
  parts = recomputed-parts a c.table (stored_in c) (used c) c.element xs

-- ---- every accepted call

pub recomputation : Demand3Recomputation
unfolding exchange_answer exchange_marks
recomputation c t elements worked_out h =
    let answered : (fault c t ≡ 0) × (exchange_values c ≡ elements ∷ worked_out ∷ []) = accepted-values (fault c t) _ _ h in
    let e = answered.1 in
    let fine = call-words c t answered.0 in
    let xs = c.replacement in
    let counted : worked_out ≡ recomputed_in (outcomes c) = cc in
    let last = replaced c fine (length xs - 1) (omega (arith, some c fine)) in
    record {
      new_count = cc;
      counted = counted;
      nodes = nodes c fine;
      written = λ j l. rw answered.0 (written c fine j l);
      before = before c fine;
      replacement = replaced c fine;
      root = ap set_in last ∙ root-last c.alphabet c.table xs (shape c fine) (some c fine);
      rest = outcome-rest c (there c fine) (shape c fine);
      from_children = recomputed-from c fine;
      reached = reached c fine;
      exact = counted ∙ parts c fine ∙ ap (λ (i : ℕ). length xs + i) (count-rest c (there c fine) (shape c fine));
      most = rw (counted, parts c fine) (omega (arith, recomputed-most c (there c fine) (shape c fine)));
    }
