-- How long a compiled table is. A word's own transitions take at most two table words more than its children have entries
-- and exits, and a word is the child of one other; so the table has few words more than states, but for those of anything, which are
-- counted apart.
use Prim.Native.Nat.{ℕ, zero, suc, ◌+◌, ◌<◌, ◌≤◌}
use mathlib.Core.Path.{◌≡◌, refl, ap, sym, ◌∙◌}
use mathlib.Core.Bool.{Bool, true, false, cond}
use mathlib.Core.List.{List, [], ◌∷◌, ◌++◌, map, reverse_aux}
use native.Mathlib.Omega.{arith}
use lib.ListN.{length, take, drop, replicate, length-append, length-map, length-replicate}
use lib.Dec.{leb, eqb}
use borrow.Author.Tests.{ne_eqb, le-leb}
use Rattle.words.specs.Word.{source_kind, anything_kind, kind_number, has_kind, word_of, low_byte}
use Rattle.words.specs.Alphabet.{entry_rank, constants_of}
use Rattle.words.specs.Lists.{count}
use Rattle.words.specs.Postfix.{arity}
use Rattle.words.specs.ExpressionWords.{is_expression_word, has_anything, expression_fault}
use Rattle.words.proofs.TestLaws.{or-false}
use Rattle.words.proofs.KindLaws.{kind_of-has_kind}
use Rattle.words.proofs.AcceptedExpression.{expression-accepted}
use Rattle.automaton.specs.Transition.{Transition, on_symbol, transition_words, transitions_words, table_words}
use Rattle.automaton.specs.Numbering.{Port, has_entries, states_of, port_of, entry_for, epsilons, entry_epsilons, every_symbol}
use Rattle.automaton.specs.Numbering.{states_after, own_transitions, transitions_from, constant_transitions, last_port}
use Rattle.automaton.specs.Numbering.{compiled, symbol_targets, union_targets, product_targets, closure_targets, anything_targets}
use Rattle.automaton.proofs.EntryStates.{entries-arity}
use Rattle.automaton.proofs.PortStates.{constants_in, PortIn, Children, child}
use Rattle.automaton.proofs.OwnTransitions.{Own, leaf, of_symbol, of_union, of_product, of_closure, of_anything}
use Rattle.automaton.proofs.PortReading.{WordRead, AllRead, word, children_on, expression-reading}
use Rattle.automaton.proofs.TargetCount.{total, weight, lookup-once, total-symbol, total-union, total-product, total-closure}
use Rattle.automaton.proofs.StateCount.{inner_words}
use Rattle.automaton.proofs.LastPort.{last_from, last_port-from}

-- ---- the table words of transitions

abbrev word_count : List Transition → ℕ
word_count ts = length (transitions_words ts)

word_count-append : (xs ys : List Transition) → word_count (xs ++ ys) ≡ word_count xs + word_count ys
word_count-append [] ys = omega arith
word_count-append (t ∷ xs) ys =
    omega (
      arith,
      length-append (transition_words t) (transitions_words (xs ++ ys)),
      length-append (transition_words t) (transitions_words xs),
      word_count-append xs ys,
    )

count-epsilons : (p : ℕ) (qs : List ℕ) → word_count (epsilons p qs) ≡ length qs
count-epsilons p [] = refl
count-epsilons p (q ∷ qs) = ap suc (count-epsilons p qs)

count-entry_epsilons : (targets : ℕ → List ℕ) (es : List (ℕ × ℕ)) → word_count (entry_epsilons es targets) ≡ total targets (constants_in es)
count-entry_epsilons targets [] = refl
count-entry_epsilons targets (e ∷ es) =
    omega (
      arith,
      word_count-append (epsilons e.1 (targets e.0)) (entry_epsilons es targets),
      count-epsilons e.1 (targets e.0),
      count-entry_epsilons targets es,
    )

count-symbol : (f q : ℕ) (ps : List ℕ) (ts : List Transition) → word_count (on_symbol f ps q ∷ ts) ≡ suc (length ps + word_count ts)
count-symbol f q ps ts =
    omega (arith, length-append (map (λ p. word_of source_kind p) ps) (transitions_words ts), length-map ps (λ p. word_of source_kind p))

count-constants : (es : List (ℕ × ℕ)) → word_count (constant_transitions es) ≡ length es
count-constants [] = refl
count-constants (e ∷ es) = ap suc (count-constants es)

-- those of anything's symbol transitions
abbrev pub every_symbol_words : List ℕ → ℕ
every_symbol_words [] = 0
every_symbol_words (w ∷ ws) = cond (eqb (entry_rank w) 0) 0 (suc (entry_rank w)) + every_symbol_words ws

count-every_symbol : (x : ℕ) (ws : List ℕ) (s : ℕ) → word_count (every_symbol x s ws) ≡ every_symbol_words ws
unfolding every_symbol
count-every_symbol x [] s = refl
count-every_symbol x (w ∷ ws) s = go (eqb (entry_rank w) 0) (count-every_symbol x ws (suc s))
  where
    rest : List Transition
    rest = every_symbol x (suc s) ws

    ps : List ℕ
    ps = replicate (entry_rank w) x

    go : (b : Bool) → word_count rest ≡ every_symbol_words ws
        → word_count (cond b rest (on_symbol s ps x ∷ rest)) ≡ cond b 0 (suc (entry_rank w)) + every_symbol_words ws
    go true e = omega arith
    go false e = omega (arith, count-symbol s x ps rest, length-replicate {A = ℕ} (entry_rank w) x)

total-exit : (x : ℕ) (cs : List ℕ) → total (anything_targets x) cs ≡ length cs
total-exit x [] = refl
total-exit x (c ∷ cs) = omega (arith, total-exit x cs)

-- what a word adds if it is anything: its symbol transitions, and one from each entry
abbrev anything_words : List ℕ → ℕ → ℕ
anything_words a w = cond (has_kind anything_kind w) (every_symbol_words a + length (constants_of a)) 0

abbrev all_anything_words : List ℕ → List ℕ → ℕ
all_anything_words a [] = 0
all_anything_words a (w ∷ ws) = anything_words a w + all_anything_words a ws

-- ---- the own transitions of a word

-- 1 for a word with children, and 1 for a word with two children or more
abbrev inner : List Port → ℕ
inner [] = 0
inner (P ∷ Ps) = 1

abbrev branch : List Port → ℕ
branch [] = 0
branch (P ∷ []) = 0
branch (P ∷ Q ∷ Ps) = 1

own-length : {a : List ℕ} {hi w lo n : ℕ} {E : Port} {Ps : List Port} {ts : List Transition} → PortIn a n hi E → Children a lo n Ps
    → Own a hi w E Ps ts → word_count ts + branch Ps + suc (length E.entries) + n ≤ weight Ps + hi + suc (inner Ps) + anything_words a w
own-length x c (leaf l) = omega (arith, x.from, l.states, l.entries)
own-length {w} {E} x c (of_symbol {P} {Ps} i f r) =
    let e = count-symbol (low_byte w) E.exit (map (λ Q. Q.exit) (P ∷ Ps)) (entry_epsilons E.entries (symbol_targets (P ∷ Ps))) in
    omega (
      arith,
      e,
      length-map (P ∷ Ps) (λ Q. Q.exit),
      go Ps,
      x.from,
      i.last,
      count-entry_epsilons (symbol_targets (P ∷ Ps)) E.entries,
      total-symbol x.constants (P ∷ Ps),
    )
  where
    go : (Ps : List Port) → branch (P ∷ Ps) ≤ 1
    go [] = omega arith
    go (Q ∷ Ps) = omega arith
own-length {E} x c (of_union {F} {G} i) =
    omega (arith, x.from, i.last, count-entry_epsilons (union_targets F G) E.entries, total-union x.constants F G)
own-length {w} {E} x (child p q) (of_product {F} {G} i) =
    let c = low_byte w in
    let e = word_count-append (epsilons G.exit (entry_for F c)) (entry_epsilons E.entries (product_targets c F G)) in
    let o = lookup-once F.entries c p.constants in
    omega (
      arith,
      e,
      count-epsilons G.exit (entry_for F c),
      x.from,
      i.last,
      count-entry_epsilons (product_targets c F G) E.entries,
      total-product x.constants c F G,
    )
own-length {w} {E} x (child p q) (of_closure {F} i) =
    let c = low_byte w in
    let e =
    word_count-append (epsilons F.exit (entry_for F c ++ (E.exit ∷ []))) (entry_epsilons E.entries (closure_targets c E.exit F)) in
    let o = lookup-once F.entries c p.constants in
    omega (
      arith,
      e,
      count-epsilons F.exit (entry_for F c ++ (E.exit ∷ [])),
      length-append (entry_for F c) (E.exit ∷ []),
      x.from,
      i.last,
      count-entry_epsilons (closure_targets c E.exit F) E.entries,
      total-closure x.constants c E.exit F,
    )
own-length {a} {w} {E} x c (of_anything i e) =
    let y = E.exit in
    let k = kind_of-has_kind anything_kind w (λ z. absurd (let q = ap kind_number z in omega arith)) e in
    let l : length E.entries ≡ length (constants_of a) =
    sym (length-map E.entries (λ (p : ℕ × ℕ). p.0)) ∙ ap (λ (l : List ℕ). length l) i.constants in
    rw k
    (omega (
      arith,
      word_count-append (every_symbol y 0 a) (entry_epsilons E.entries (anything_targets y)),
      count-every_symbol y a 0,
      count-entry_epsilons (anything_targets y) E.entries,
      total-exit y (constants_in E.entries),
      length-map E.entries (λ (p : ℕ × ℕ). p.0),
      l,
      x.from,
      i.last,
    ))

-- ---- every word

weight-taken : (r : ℕ) (stack right : List Port)
    → weight (reverse_aux (take r stack) right) + weight (drop r stack) ≡ weight stack + weight right
weight-taken zero stack right = omega arith
weight-taken (suc r) [] right = omega arith
weight-taken (suc r) (P ∷ stack) right = omega (arith, weight-taken r stack (P ∷ right))

-- the words with two children or more
abbrev pub branching_words : List ℕ → List ℕ → ℕ
branching_words a ws = count (λ w. leb 2 (arity a w)) ws

module _ (a : List ℕ) where
  inner-number : (w : ℕ) (Ps : List Port) → is_expression_word a w ≡ true → length Ps ≡ arity a w → inner Ps ≤ cond (has_entries a w) 1 0
  inner-number w [] h e = omega arith
  inner-number w (P ∷ Ps) h e =
      let some : has_entries a w ≡ true = entries-arity a w h ∙ rw (ne_eqb (arity a w) 0 (omega arith)) in
      rw some (omega arith)

  branch-number : (w : ℕ) (Ps : List Port) → length Ps ≡ arity a w → cond (leb 2 (arity a w)) 1 0 ≡ branch Ps
  branch-number w [] e = rw (sym e)
  branch-number w (P ∷ []) e = rw (sym e)
  branch-number w (P ∷ Q ∷ Ps) e = rw (le-leb 2 (arity a w) (omega arith))

  -- a word takes its children from the stack and puts its own port on it
  word-length : {n w : ℕ} {stack : List Port} → WordRead a n w stack
      → word_count (own_transitions a w (port_of a n w) (children_on a w stack)) + cond (leb 2 (arity a w)) 1 0 + weight
      (port_of a n w ∷ drop (arity a w) stack) + n
      ≤ weight stack + (n + states_of a w) + suc (cond (has_entries a w) 1 0) + anything_words a w
  word-length {w} {stack} d =
      let i = inner-number w (children_on a w stack) d.rule_word d.number in
      let b = branch-number w (children_on a w stack) d.number in
      omega (arith, weight-taken (arity a w) stack [], own-length d.port d.children d.own)

  reading-length : (ws : List ℕ) {n w : ℕ} {stack : List Port} → AllRead a n (w ∷ ws) stack
      → word_count (transitions_from a n (w ∷ ws) stack) + branching_words a (w ∷ ws) + suc (length (last_from a n w ws).entries) + n
      ≤ weight stack + states_after a n (w ∷ ws) + (length (w ∷ ws) + inner_words a (w ∷ ws)) + all_anything_words a (w ∷ ws)
  unfolding transitions_from states_after
  reading-length [] (word {n} {w} {stack} d r) =
      omega (arith, word_count-append (own_transitions a w (port_of a n w) (children_on a w stack)) [], word-length d)
  reading-length (v ∷ ws) (word {n} {w} {stack} d r) =
      let ts = transitions_from a (n + states_of a w) (v ∷ ws) (port_of a n w ∷ drop (arity a w) stack) in
      omega (arith, word_count-append (own_transitions a w (port_of a n w) (children_on a w stack)) ts, word-length d, reading-length ws r)

  none-anything : (e : List ℕ) → has_anything e ≡ false → all_anything_words a e ≡ 0
  none-anything [] h = refl
  none-anything (w ∷ ws) h =
      let p = or-false (has_kind anything_kind w) (has_anything ws) h in
      rw p.0 (omega (arith, none-anything ws p.1))

  -- the words of the whole table, where the rule has no anything: its states, less than two for each word, and the length word
  pub table-length : (e : List ℕ) → expression_fault a e ≡ 0 → has_anything e ≡ false
      → length (table_words (compiled a e)) + branching_words a e ≤ (compiled a e).states + (length e + inner_words a e) + 1
  unfolding compiled
  table-length e f h = go e (expression-accepted a e f).counted.some (none-anything e h) (expression-reading a e f)
    where
      go : (e : List ℕ) → 0 < length e → all_anything_words a e ≡ 0 → AllRead a 0 e []
          → length (table_words (compiled a e)) + branching_words a e ≤ states_after a 0 e + (length e + inner_words a e) + 1
      go [] l z r = absurd (omega arith)
      go (w ∷ ws) l z r =
          let P = last_port a (w ∷ ws) in
          let p = ap (λ Q. length Q.entries) (last_port-from a w ws) in
          omega (
            arith,
            p,
            word_count-append (constant_transitions P.entries) (transitions_from a 0 (w ∷ ws) []),
            count-constants P.entries,
            reading-length ws r,
          )
