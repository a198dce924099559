-- The automaton that `compiled` numbers word by word is the one numbered as a tree, for every expression over an alphabet.
use Prim.Native.Nat.{ℕ, suc, ◌+◌, ◌-◌, ◌≤◌}
use mathlib.Core.Path.{◌≡◌, refl, sym, ◌∙◌, ap, ap₂}
use mathlib.Core.List.{List, [], ◌∷◌, ◌++◌, reverse_aux, append_assoc, append-nil}
use native.Mathlib.Omega.{arith}
use lib.ListN.{length, length-append}
use lib.Seq.{get_or-append-add}
use Rattle.words.specs.Tree.{postfix_all}
use Rattle.words.specs.Postfix.{arity}
use Rattle.words.specs.Limits.{alphabet_most}
use Rattle.words.proofs.ReadingLaws.{take-pushed, drop-pushed}
use Rattle.language.specs.Expression.{Expression, Expressions, symbol, empty, union, product, closure, anything, noneᵉ, moreᵉ}
use Rattle.language.specs.Expression.{syntax_trees, expression_words, numberᵉ, ExpressionOver, ExpressionsOver}
use Rattle.automaton.specs.Transition.{Transition, Automaton}
use Rattle.automaton.specs.Numbering.{Port, states_of, port_of, child_port, own_transitions, ports_from}
use Rattle.automaton.specs.Numbering.{states_after, transitions_from, constant_transitions, last_port, compiled}
use Rattle.automaton.proofs.TreeNumbering.{next, next_all, exit_state, port, ports, own}
use Rattle.automaton.proofs.TreeNumbering.{transitions_of, transitions_of_all, tree_transitions}
use Rattle.automaton.proofs.LastWord.{last_word, parts, LastWord, last-word}

module _ (a : List ℕ) where
  length-ports : (es : Expressions) (n : ℕ) → length (ports a es n) ≡ numberᵉ es
  length-ports noneᵉ n = refl
  length-ports (moreᵉ e es) n = ap suc (length-ports es (next a e n))

  -- ---- the last word takes its parts' states from the stack

  module _ (E : Expression) (n : ℕ) (L : LastWord a E n) where
    abbrev w : ℕ
    w = last_word E

    transitions-last : (rest : List ℕ) (stack : List Port)
        → transitions_from a (exit_state a E n) (w ∷ rest) (reverse_aux (ports a (parts E) n) stack)
        ≡ own a E n ++ transitions_from a (next a E n) rest (port a E n ∷ stack)
    unfolding transitions_from
    transitions-last rest stack =
        let m = L.arity-is ∙ sym (length-ports (parts E) n) in
        let taken = take-pushed (ports a (parts E) n) stack (arity a w) m in
        let left = drop-pushed (ports a (parts E) n) stack (arity a w) m in
        ap₂ (λ (ts us : List Transition). ts ++ us)
        (ap₂ (λ (P : Port) (Ps : List Port). own_transitions a w P Ps) L.port-is taken ∙ L.own-are)
        (ap₂ (λ (k : ℕ) (s : List Port). transitions_from a k rest s) L.states-are
        (ap₂ (λ (P : Port) (s : List Port). P ∷ s) L.port-is left))

    states-last : (rest : List ℕ) → states_after a (exit_state a E n) (w ∷ rest) ≡ states_after a (next a E n) rest
    unfolding states_after
    states-last rest = ap (λ k. states_after a k rest) L.states-are

  -- ---- reading all words of an expression, or of a row of expressions

  record Reads (E : Expression) (n : ℕ) : Type 0 where
    transitions : (rest : List ℕ) (stack : List Port)
        → transitions_from a n (expression_words E ++ rest) stack
        ≡ transitions_of a E n ++ transitions_from a (next a E n) rest (port a E n ∷ stack)
    states : (rest : List ℕ) → states_after a n (expression_words E ++ rest) ≡ states_after a (next a E n) rest

  record ReadsAll (es : Expressions) (n : ℕ) : Type 0 where
    transitions : (rest : List ℕ) (stack : List Port)
        → transitions_from a n (postfix_all (syntax_trees es) ++ rest) stack
        ≡ transitions_of_all a es n ++ transitions_from a (next_all a es n) rest (reverse_aux (ports a es n) stack)
    states : (rest : List ℕ) → states_after a n (postfix_all (syntax_trees es) ++ rest) ≡ states_after a (next_all a es n) rest

  reads_none : (n : ℕ) → ReadsAll noneᵉ n
  reads_none n = record { transitions = λ rest stack. refl; states = λ rest. refl }

  reads_more : (e : Expression) (es : Expressions) (n : ℕ) → Reads e n → ReadsAll es (next a e n) → ReadsAll (moreᵉ e es) n
  reads_more e es n r rs = record {
    transitions = λ rest stack.
        ap (λ (l : List ℕ). transitions_from a n l stack) (append_assoc (expression_words e) (postfix_all (syntax_trees es)) rest)
        ∙ r.transitions (postfix_all (syntax_trees es) ++ rest) stack
        ∙ ap (λ (ts : List Transition). transitions_of a e n ++ ts) (rs.transitions rest (port a e n ∷ stack))
        ∙ sym (append_assoc (transitions_of a e n) (transitions_of_all a es (next a e n))
        (transitions_from a (next_all a (moreᵉ e es) n) rest (reverse_aux (ports a (moreᵉ e es) n) stack)));
    states = λ rest.
        ap (states_after a n) (append_assoc (expression_words e) (postfix_all (syntax_trees es)) rest)
        ∙ r.states (postfix_all (syntax_trees es) ++ rest)
        ∙ rs.states rest;
  }

  -- an expression is its parts and then its last word
  words-split : (E : Expression) → expression_words E ≡ postfix_all (syntax_trees (parts E)) ++ (last_word E ∷ [])
  words-split (symbol f es) = refl
  words-split empty = refl
  words-split (union F G) = refl
  words-split (product c F G) = refl
  words-split (closure c F) = refl
  words-split anything = refl

  exit-split : (E : Expression) (n : ℕ) → next_all a (parts E) n ≡ exit_state a E n
  exit-split (symbol f es) n = refl
  exit-split empty n = refl
  exit-split (union F G) n = refl
  exit-split (product c F G) n = refl
  exit-split (closure c F) n = refl
  exit-split anything n = refl

  transitions-split : (E : Expression) (n : ℕ) → transitions_of_all a (parts E) n ++ own a E n ≡ transitions_of a E n
  transitions-split (symbol f es) n = refl
  transitions-split empty n = refl
  transitions-split (union F G) n = simp append_assoc
  transitions-split (product c F G) n = simp append_assoc
  transitions-split (closure c F) n = simp append_assoc
  transitions-split anything n = refl

  reads_word : (E : Expression) (n : ℕ) → LastWord a E n → ReadsAll (parts E) n → Reads E n
  reads_word E n L rs = record {
    transitions = λ rest stack.
        ap (λ (l : List ℕ). transitions_from a n l stack) (split rest)
        ∙ rs.transitions (last_word E ∷ rest) stack
        ∙ ap (λ (ts : List Transition). transitions_of_all a (parts E) n ++ ts)
        (ap (λ k. transitions_from a k (last_word E ∷ rest) (reverse_aux (ports a (parts E) n) stack)) (exit-split E n)
        ∙ transitions-last E n L rest stack)
        ∙ sym (append_assoc (transitions_of_all a (parts E) n) (own a E n) (transitions_from a (next a E n) rest (port a E n ∷ stack)))
        ∙ ap (λ (ts : List Transition). ts ++ transitions_from a (next a E n) rest (port a E n ∷ stack)) (transitions-split E n);
    states = λ rest.
        ap (states_after a n) (split rest)
        ∙ rs.states (last_word E ∷ rest)
        ∙ ap (λ k. states_after a k (last_word E ∷ rest)) (exit-split E n)
        ∙ states-last E n L rest;
  }
    where
      split : (rest : List ℕ) → expression_words E ++ rest ≡ postfix_all (syntax_trees (parts E)) ++ (last_word E ∷ rest)
      split rest = ap (λ (l : List ℕ). l ++ rest) (words-split E) ∙ append_assoc (postfix_all (syntax_trees (parts E))) (last_word E ∷ []) rest

  module _ (l : length a ≤ alphabet_most) where
    reads_two : (F G : Expression) (n : ℕ) → ExpressionOver a F → ExpressionOver a G → ReadsAll (parts F) n
        → ReadsAll (parts G) (next a F n) → ReadsAll (moreᵉ F (moreᵉ G noneᵉ)) n
    reads_two F G n o_f o_g r_f r_g =
        let g = next a F n in
        reads_more F (moreᵉ G noneᵉ) n (reads_word F n (last-word a l F n o_f) r_f)
        (reads_more G noneᵉ g (reads_word G g (last-word a l G g o_g) r_g) (reads_none (next a G g)))

    mutual
      reads-parts : (E : Expression) (n : ℕ) → ExpressionOver a E → ReadsAll (parts E) n
      reads-parts (symbol f es) n o = reads_all es n o.2
      reads-parts empty n o = reads_none n
      reads-parts (union F G) n o = reads_two F G n o.0 o.1 (reads-parts F n o.0) (reads-parts G (next a F n) o.1)
      reads-parts (product c F G) n o = reads_two F G n o.1 o.2 (reads-parts F n o.1) (reads-parts G (next a F n) o.2)
      reads-parts (closure c F) n o =
          reads_more F noneᵉ n (reads_word F n (last-word a l F n o.1) (reads-parts F n o.1)) (reads_none (next a F n))
      reads-parts anything n o = reads_none n

      reads_all : (es : Expressions) (n : ℕ) → ExpressionsOver a es → ReadsAll es n
      reads_all noneᵉ n o = reads_none n
      reads_all (moreᵉ e es) n o =
          reads_more e es n (reads_word e n (last-word a l e n o.0) (reads-parts e n o.0)) (reads_all es (next a e n) o.1)

    reads : (E : Expression) (n : ℕ) → ExpressionOver a E → Reads E n
    reads E n o = reads_word E n (last-word a l E n o) (reads-parts E n o)

  -- ---- the last word's states

  ports-append : (k m : List ℕ) (n : ℕ) → ports_from a n (k ++ m) ≡ ports_from a n k ++ ports_from a (states_after a n k) m
  unfolding ports_from states_after
  ports-append [] m n = refl
  ports-append (v ∷ k) m n = ap (λ (Ps : List Port). port_of a n v ∷ Ps) (ports-append k m (n + states_of a v))

  length-ports_from : (k : List ℕ) (n : ℕ) → length (ports_from a n k) ≡ length k
  unfolding ports_from
  length-ports_from [] n = refl
  length-ports_from (v ∷ k) n = ap suc (length-ports_from k (n + states_of a v))

  pub last_port-snoc : (k : List ℕ) (v : ℕ) → last_port a (k ++ (v ∷ [])) ≡ port_of a (states_after a 0 k) v
  unfolding ports_from
  last_port-snoc k v =
      let P = port_of a (states_after a 0 k) v in
      let e : length (k ++ (v ∷ [])) - 1 ≡ length (ports_from a 0 k) + 0 = simp (length-append, length-ports_from) (omega arith) in
      ap₂ (λ (Ps : List Port) (i : ℕ). child_port Ps i) (ports-append k (v ∷ []) 0) e
      ∙ get_or-append-add (ports_from a 0 k) (P ∷ []) 0 (record { exit = 0; entries = [] })

  -- ---- the whole automaton

  -- from the number of states, the last word's states and the words' transitions
  abbrev assemble : ℕ → Port → List Transition → Automaton
  assemble n P ts = record { states = n; final = P.exit; transitions = constant_transitions P.entries ++ ts }

  abbrev tree_automaton : Expression → Automaton
  tree_automaton E = record { states = next a E 0; final = exit_state a E 0; transitions = tree_transitions a E }

  module _ (l : length a ≤ alphabet_most) (E : Expression) (o : ExpressionOver a E) where
    compiled-states : states_after a 0 (expression_words E) ≡ next a E 0
    unfolding states_after
    compiled-states = ap (states_after a 0) (sym (append-nil (expression_words E))) ∙ (reads l E 0 o).states []

    compiled-port : last_port a (expression_words E) ≡ port a E 0
    unfolding states_after
    compiled-port =
        let before = postfix_all (syntax_trees (parts E)) in
        ap (last_port a) (words-split E)
        ∙ last_port-snoc before (last_word E)
        ∙ ap (λ n. port_of a n (last_word E))
        (ap (states_after a 0) (sym (append-nil before)) ∙ (reads-parts l E 0 o).states [] ∙ exit-split E 0)
        ∙ (last-word a l E 0 o).port-is

    compiled-transitions : transitions_from a 0 (expression_words E) [] ≡ transitions_of a E 0
    unfolding transitions_from
    compiled-transitions =
        ap (λ (k : List ℕ). transitions_from a 0 k []) (sym (append-nil (expression_words E)))
        ∙ (reads l E 0 o).transitions [] []
        ∙ append-nil (transitions_of a E 0)

    pub compiled-tree : compiled a (expression_words E) ≡ tree_automaton E
    unfolding compiled
    compiled-tree =
        ap₂ (λ (n : ℕ) (b : Port × List Transition). assemble n b.0 b.1) compiled-states
        (ap₂ (λ (P : Port) (ts : List Transition). (P, ts)) compiled-port compiled-transitions)
