-- Demand 2 holds: List writes the nodes whose state sets hold the final state, a node's set holds the states that its subtree's
-- tree reaches, and by Thompson's theorem the final one is reached by the members of the rule's language. The
-- trees of an accepted chapter are hole-free.
use Prim.Native.Nat.{ℕ, ◌<◌, ◌≤◌}
use mathlib.Core.Path.{◌≡◌, sym, ◌∙◌, ap, ap₂, subst}
use mathlib.Core.Logic.{◌↔◌}
use mathlib.Core.Bool.{true, false}
use mathlib.Core.List.{List, [], ◌∷◌, flatten, head-eq_of_cons-eq, Memᴰ}
use native.Mathlib.Omega.{arith}
use native.Mathlib.Nat.{zero-add}
use lib.ListN.{length, get_or, take}
use Rattle.words.specs.Limits.{alphabet_most}
use Rattle.words.specs.Alphabet.{has_holes}
use Rattle.words.specs.Tree.{Tree}
use Rattle.words.specs.Postfix.{subtree_of}
use Rattle.words.specs.ExactlyOne.{ExactlyOne}
use Rattle.words.specs.Answer.{accepted}
use Rattle.words.proofs.AcceptedTree.{tree-accepted}
use Rattle.words.proofs.HoleLaws.{subtree-holes}
use Rattle.words.proofs.ListLaws.{take-over}
use Rattle.words.proofs.AnswerLaws.{accepted-values}
use Rattle.language.specs.Expression.{Expression, HoleFree, ExpressionOf, SubjectOf}
use Rattle.language.specs.Membership.{Member, HoleFreeMember}
use Rattle.language.proofs.ExpressionLaws.{expression-of}
use Rattle.language.proofs.SubjectSubtreeLaws.{exactly-one-subtree}
use Rattle.language.proofs.HoleFreeLaws.{subject-hole_free, hole_free-without}
use Rattle.automaton.specs.Transition.{automaton_of}
use Rattle.automaton.specs.Numbering.{compiled}
use Rattle.automaton.specs.StateSet.{contains}
use Rattle.automaton.specs.Reached.{Reaches}
use Rattle.automaton.proofs.ClosureLaws.{TargetsBelow, targets-below}
use Rattle.automaton.proofs.TreeSets.{tree_set, tree_set-reaches}
use Rattle.automaton.proofs.Thompson.{thompson}
use Rattle.operations.specs.Compile.{compiled_table}
use Rattle.operations.specs.Marks.{final_of, node_sets}
use Rattle.operations.specs.Run.{run_fault, run_marks, run_answer, run_exit, cells_in}
use Rattle.operations.specs.Listing.{list_fault, matches_in, matches_of, list_answer, list_exit}
use Rattle.operations.specs.Demands.{ThreeCalls, names_of, AllAccepted, Named, Demand2}
use Rattle.operations.proofs.AcceptedLaws.{RunAccepted, run-accepted}
use Rattle.operations.proofs.CompileLaws.{CompileResult, compile-result}
use Rattle.operations.proofs.MarksLaws.{length-node_sets}
use Rattle.operations.proofs.MatchLaws.{Holding, holding-named, named-holding}
use Rattle.operations.proofs.RunLaws.{run-writes, run-exit, matches-node_sets, node-tree}

-- ---- a compiled table

module _ (a e ch : List ℕ) (few : length a ≤ alphabet_most) (auto : automaton_of (compiled_table a e) ≡ compiled a e)
    (below : TargetsBelow (compiled a e).states (compiled a e).transitions) where
  abbrev table : List ℕ
  table = compiled_table a e

  -- a node's state set holds the final state exactly if its subtree's tree belongs to the language
  holds-member : (E : Expression) (i : ℕ) (t : Tree) → ExpressionOf a e E → i < length ch → SubjectOf a (subtree_of a ch i) t
      → (contains (get_or (node_sets a table ch) i []) (final_of table) ≡ true) ↔ Member a E t
  unfolding final_of
  holds-member E i t x l k =
      let q : contains (get_or (node_sets a table ch) i []) (automaton_of table).final
      ≡ contains (tree_set (compiled a e) t) (compiled a e).final =
      ap₂ contains (node-tree a table ch few i t l k ∙ ap (λ A. tree_set A t) auto) (ap (λ A. A.final) auto) in
      let r = tree_set-reaches (compiled a e) below t (compiled a e).final in
      let m : Reaches (compiled a e).transitions (compiled a e).final t ↔ Member a E t =
      subst (λ w. Reaches (compiled a w).transitions (compiled a w).final t ↔ Member a E t) x.words (thompson a E few x.over t) in
      (λ h. m.0 (r.0 (sym q ∙ h)), λ h. q ∙ r.1 (m.1 h))

-- ---- what Run and List leave, with any table

module _ (a table ch marks slice : List ℕ) (n cells hits : ℕ)
    (runs : run_answer a table ch marks ≡ accepted (n ∷ cells ∷ []))
    (lists : list_answer a table n (run_exit a table ch marks) slice ≡ accepted (hits ∷ [])) where
  run-told : (run_fault a table ch (length marks) ≡ 0) × (n ≡ length ch)
  unfolding run_answer
  run-told =
      let v =
      accepted-values (run_fault a table ch (length marks)) (length ch ∷ cells_in (flatten (node_sets a table ch)) ∷ [])
      (n ∷ cells ∷ []) runs in
      (v.0, cc)

  run_is : RunAccepted a table ch (length marks)
  run_is = run-accepted a table ch (length marks) run-told.0

  -- List writes the numbers of the nodes whose state sets hold the final state
  names-are : take hits (list_exit a table n (run_exit a table ch marks) slice) ≡ matches_in (final_of table) 0 (node_sets a table ch)
  unfolding list_answer list_exit
  names-are =
      let left = run_exit a table ch marks in
      let m = matches_of table n left in
      let v = accepted-values (list_fault a table n (length left) (length slice)) (length m ∷ []) (hits ∷ []) lists in
      let k : length m ≡ hits = head-eq_of_cons-eq v.1 in
      let e : left ≡ run_marks a table ch marks = run-exit a table ch marks run-told.0 in
      rw v.0 (take-over m slice hits k)
      ∙ ap (λ (i : ℕ). matches_of table i left) run-told.1
      ∙ ap (matches_of table (length ch)) e
      ∙ matches-node_sets a table ch (run_marks a table ch marks) (run-writes a table ch marks)

  -- a number is written exactly if it is that of such a node
  named : (i : ℕ)
      → Memᴰ i (take hits (list_exit a table n (run_exit a table ch marks) slice)) ↔ Holding (final_of table) (node_sets a table ch) i
  named i = (to, from)
    where
      to : Memᴰ i (take hits (list_exit a table n (run_exit a table ch marks) slice)) → Holding (final_of table) (node_sets a table ch) i
      to x =
          let y = named-holding (final_of table) (node_sets a table ch) 0 i (subst (Memᴰ i) names-are x) in
          subst (Holding (final_of table) (node_sets a table ch)) (sym (y.1 ∙ zero-add y.0)) y.2

      from : Holding (final_of table) (node_sets a table ch) i → Memᴰ i (take hits (list_exit a table n (run_exit a table ch marks) slice))
      from x =
          subst (Memᴰ i) (sym names-are)
          (subst (λ (k : ℕ). Memᴰ k (matches_in (final_of table) 0 (node_sets a table ch))) (zero-add i)
          (holding-named (final_of table) (node_sets a table ch) 0 i x))

-- ---- the three calls

module _ (c : ThreeCalls) (h : AllAccepted c) where
  abbrev a : List ℕ
  a = c.alphabet

  abbrev T : List ℕ
  T = compiled_table c.alphabet c.rule

  compiles : CompileResult a c.rule c.table_slice c.words
  compiles = compile-result a c.rule c.table_slice c.words h.compiles

  runs : run_answer a T c.chapter c.marks_slice ≡ accepted (c.elements ∷ c.cells ∷ [])
  runs = rw compiles.table at h.runs

  lists : list_answer a T c.elements (run_exit a T c.chapter c.marks_slice) c.list_slice ≡ accepted (c.hits ∷ [])
  lists = rw compiles.table at h.lists

  run : RunAccepted a T c.chapter (length c.marks_slice)
  run = run_is a T c.chapter c.marks_slice c.list_slice c.elements c.cells c.hits runs lists

  names-holding : (i : ℕ) → Memᴰ i (names_of c) ↔ Holding (final_of T) (node_sets a T c.chapter) i
  names-holding i =
      rw compiles.table (named a T c.chapter c.marks_slice c.list_slice c.elements c.cells c.hits runs lists i)

  subtree : (i : ℕ) → i < length c.chapter → ExactlyOne (SubjectOf a (subtree_of a c.chapter i))
  subtree i l =
      let tree = tree-accepted a c.chapter run.marked.tree in
      exactly-one-subtree a compiles.few c.chapter i tree.nodes tree.shape l

  subtree-free : (i : ℕ) (l : i < length c.chapter) → HoleFree a (subtree i l).the
  subtree-free i l =
      (subject-hole_free a compiles.few (subtree_of a c.chapter i) (subtree i l).the (subtree i l).has).0
      (subtree-holes a c.chapter i run.marked.free)

  holding-member : (i : ℕ) (l : i < length c.chapter)
      → (contains (get_or (node_sets a T c.chapter) i []) (final_of T) ≡ true) ↔ Member a compiles.expression.the (subtree i l).the
  holding-member i l =
      holds-member a c.rule c.chapter compiles.few compiles.automaton (targets-below compiles.over)
      compiles.expression.the i (subtree i l).the compiles.expression.has l (subtree i l).has

  named-members : Named c
  named-members = record {
    automaton = compiles.table;
    expression = compiles.expression;
    read = expression-of a compiles.few c.rule compiles.expression.the compiles.expression.has;
    subtrees = subtree;
    within = λ i x. omega (arith, length-node_sets a T c.chapter, ((names-holding i).0 x).0);
    names = λ i l. (
      (λ x. (subtree-free i l, (holding-member i l).0 ((names-holding i).0 x).1)),
      (λ x. (names-holding i).1 (omega (arith, length-node_sets a T c.chapter), (holding-member i l).1 x.1)),
    );
  }

  -- an element is named if its subtree's tree is a member; that it is hole-free is known
  pub member-named : (E : Expression) → ExpressionOf a c.rule E → (i : ℕ) → i < length c.chapter
      → ((t : Tree) → SubjectOf a (subtree_of a c.chapter i) t → Member a E t) → Memᴰ i (names_of c)
  member-named E x i l m =
      let t = (subtree i l).the in
      let member = subst (λ (F : Expression). Member a F t) (compiles.expression.only E x) (m t (subtree i l).has) in
      (names-holding i).1 (omega (arith, length-node_sets a T c.chapter), (holding-member i l).1 member)

pub demand2 : Demand2
demand2 c h = named-members c h

-- the same of any expression whose words the rule is
pub demand2-of : (c : ThreeCalls) (h : AllAccepted c) (E : Expression) → ExpressionOf c.alphabet c.rule E
    → (i : ℕ) (l : i < length c.chapter)
    → Memᴰ i (names_of c) ↔ HoleFreeMember c.alphabet E ((demand2 c h).subtrees i l).the
demand2-of c h E x i l =
    subst (λ (F : Expression). Memᴰ i (names_of c) ↔ HoleFreeMember c.alphabet F ((demand2 c h).subtrees i l).the)
    (sym ((demand2 c h).expression.only E x))
    ((demand2 c h).names i l)

-- and over an alphabet without holes its members, none left out
pub demand2-without : (c : ThreeCalls) (h : AllAccepted c) (E : Expression) → ExpressionOf c.alphabet c.rule E
    → has_holes c.alphabet ≡ false
    → (i : ℕ) (l : i < length c.chapter)
    → Memᴰ i (names_of c) ↔ Member c.alphabet E ((demand2 c h).subtrees i l).the
demand2-without c h E x e i l =
    let m = demand2-of c h E x i l in
    ((λ n. (m.0 n).1), (λ n. m.1 (hole_free-without c.alphabet e ((demand2 c h).subtrees i l).the, n)))
