-- Order in the table: behind its symbol transitions, if it has any, in symbol order, the epsilon transitions of every word stand
-- "ordered by from and then by to".
use Prim.Native.Nat.{ℕ, suc, ◌+◌, ◌<◌, ◌≤◌, zero-le}
use mathlib.Core.Path.{◌≡◌, subst}
use mathlib.Core.Bool.{Bool, true, false, cond}
use mathlib.Core.List.{List, [], ◌∷◌, ◌++◌}
use native.Mathlib.Omega.{arith}
use native.Mathlib.Nat.{le_refl, le_trans, lt_trans, lt_of_le_of_lt}
use native.Mathlib.Decide.{dec_le}
use lib.ListN.{drop, replicate}
use lib.Dec.{eqb}
use Rattle.words.specs.Word.{low_byte}
use Rattle.words.specs.Alphabet.{entry_rank}
use Rattle.words.specs.Postfix.{arity}
use Rattle.words.specs.ExpressionWords.{expression_fault}
use Rattle.words.proofs.Ascending.{Ascending, end, next, ascending-append, ascending-one}
use Rattle.automaton.specs.Transition.{Transition, on_symbol, epsilon}
use Rattle.automaton.specs.Numbering.{Port, states_of, port_of, epsilons, entry_epsilons, every_symbol, own_transitions}
use Rattle.automaton.specs.Numbering.{symbol_targets, union_targets, product_targets, closure_targets, anything_targets}
use Rattle.automaton.proofs.PortStates.{states_in, Children, no_child, child}
use Rattle.automaton.proofs.OwnTransitions.{Own, leaf, of_symbol, of_union, of_product, of_closure, of_anything}
use Rattle.automaton.proofs.PortReading.{AllRead, ended, word, children_on, expression-reading}
use Rattle.automaton.proofs.TargetLaws.{entry_for-ascending, symbol-ascending, union-ascending, product-ascending, closure-ascending}

-- epsilon transitions strictly ordered by from and then by to, none before the one from p to q
pub data OrderedFrom : ℕ → ℕ → List Transition → Type 0 where
  none : {p q : ℕ} → OrderedFrom p q []
  from_later : {p q p' q' : ℕ} {ts : List Transition} → p < p' → OrderedFrom p' (suc q') ts → OrderedFrom p q (epsilon p' q' ∷ ts)
  to_later : {p q q' : ℕ} {ts : List Transition} → q ≤ q' → OrderedFrom p (suc q') ts → OrderedFrom p q (epsilon p q' ∷ ts)

abbrev Ordered : List Transition → Type 0
Ordered ts = OrderedFrom 0 0 ts

-- the own transitions of a word: "its symbol move, if its rank is above 0 .. and its empty moves, ordered by from and then by to"; of
-- anything those "for each symbol of rank above 0 in order": symbols that ascend strictly, none below s. That a word of another kind
-- has at most one is in its definition.
pub data InOrderFrom : ℕ → List Transition → Type 0 where
  with_symbol : {s f q : ℕ} {ps : List ℕ} {ts : List Transition} → s ≤ f → InOrderFrom (suc f) ts → InOrderFrom s (on_symbol f ps q ∷ ts)
  without_symbol : {s : ℕ} {ts : List Transition} → Ordered ts → InOrderFrom s ts

abbrev pub InOrder : List Transition → Type 0
InOrder ts = InOrderFrom 0 ts

-- ---- laws of the order

from-earlier : {p q p' q' : ℕ} {ts : List Transition} → p < p' → OrderedFrom p' q' ts → OrderedFrom p q ts
from-earlier l none = none
from-earlier l (from_later h o) = from_later (lt_trans l h) o
from-earlier l (to_later h o) = from_later l o

from_first : {p q : ℕ} {ts : List Transition} (lo : ℕ) → lo ≤ p → OrderedFrom p q ts → OrderedFrom lo 0 ts
from_first lo l none = none
from_first lo l (from_later h o) = from_later (lt_of_le_of_lt l h) o
from_first lo l (to_later {p} {q' = r} {ts} h o) = go (dec_le p lo)
  where
    go : Dec (p ≤ lo) → OrderedFrom lo 0 (epsilon p r ∷ ts)
    go (yes k) = let e : p ≡ lo = omega arith in subst (λ x. OrderedFrom x 0 (epsilon p r ∷ ts)) e (to_later zero-le o)
    go (no k) = let h : lo < p = omega arith in from_later h o

epsilons-ordered : {p lo hi : ℕ} {qs : List ℕ} {ts : List Transition} → Ascending lo hi qs → OrderedFrom (suc p) 0 ts
    → OrderedFrom p lo (epsilons p qs ++ ts)
epsilons-ordered (end h) o = from-earlier (omega arith) o
epsilons-ordered (next h a) o = to_later h (epsilons-ordered a o)

entry_epsilons-ordered : {lo hi l h : ℕ} (targets : ℕ → List ℕ) (es : List (ℕ × ℕ)) → Ascending lo hi (states_in es)
    → ((c : ℕ) → Ascending l h (targets c)) → OrderedFrom lo 0 (entry_epsilons es targets)
entry_epsilons-ordered targets [] s t = none
entry_epsilons-ordered {lo} targets (e ∷ es) (next k s) t =
    from_first lo k (epsilons-ordered (t e.0) (entry_epsilons-ordered targets es s t))

in-order-from : {s r : ℕ} {ts : List Transition} → s ≤ r → InOrderFrom r ts → InOrderFrom s ts
in-order-from l (with_symbol h o) = with_symbol (le_trans l h) o
in-order-from l (without_symbol o) = without_symbol o

every_symbol-ordered : (x : ℕ) (ws : List ℕ) (s : ℕ) {ts : List Transition} → Ordered ts → InOrderFrom s (every_symbol x s ws ++ ts)
unfolding every_symbol
every_symbol-ordered x [] s o = without_symbol o
every_symbol-ordered x (w ∷ ws) s {ts} o = go (eqb (entry_rank w) 0) (every_symbol-ordered x ws (suc s) o)
  where
    rest : List Transition
    rest = every_symbol x (suc s) ws

    go : (b : Bool) → InOrderFrom (suc s) (rest ++ ts)
        → InOrderFrom s (cond b rest (on_symbol s (replicate (entry_rank w) x) x ∷ rest) ++ ts)
    go true r = in-order-from (omega arith) r
    go false r = with_symbol (le_refl s) r

-- ---- the own transitions of a word

pub own-ordered : {a : List ℕ} {hi w lo n : ℕ} {E : Port} {Ps : List Port} {ts : List Transition} → n ≤ E.exit
    → Children a lo n Ps → Own a hi w E Ps ts → InOrder ts
own-ordered x c (leaf l) = without_symbol none
own-ordered {E} x c (of_symbol {P} {Ps} i f r) =
    with_symbol zero-le
    (without_symbol (from_first 0 zero-le (entry_epsilons-ordered (symbol_targets (P ∷ Ps)) E.entries i.states (symbol-ascending c))))
own-ordered {E} x (child p (child q (no_child l))) (of_union {F} {G} i) =
    let f : F.exit < G.exit = omega arith in
    let g : G.exit < suc E.exit = omega arith in
    let ts = entry_epsilons-ordered (union_targets F G) E.entries i.states (union-ascending p q) in
    without_symbol (from_first 0 zero-le (to_later (le_refl E.exit) (from_later f (from-earlier g ts))))
own-ordered {w} {E} x (child p (child q (no_child l))) (of_product {F} {G} i) =
    let c = low_byte w in
    let f : F.exit < G.exit = omega arith in
    let g : suc G.exit ≤ suc E.exit = omega arith in
    let ts = entry_epsilons-ordered (product_targets c F G) E.entries i.states (product-ascending c p q) in
    let us = epsilons-ordered (entry_for-ascending c F p) (from_first (suc G.exit) g ts) in
    without_symbol (from_first 0 zero-le (to_later (le_refl E.exit) (from-earlier f us)))
own-ordered {w} {E} x (child p (no_child l)) (of_closure {F} i) =
    let c = low_byte w in
    let g : suc F.exit ≤ suc E.exit = omega arith in
    let ts = entry_epsilons-ordered (closure_targets c E.exit F) E.entries i.states (closure-ascending c p (le_trans l x)) in
    let qs = ascending-append (entry_for-ascending c F p) (ascending-one (le_trans l x) (le_refl (suc E.exit))) in
    without_symbol (from_first 0 zero-le (epsilons-ordered qs (from_first (suc F.exit) g ts)))
own-ordered {a} {E} x c (of_anything i e) =
    let y = E.exit in
    every_symbol-ordered y a 0
    (from_first 0 zero-le
    (entry_epsilons-ordered (anything_targets y) E.entries i.states (λ b. ascending-one (le_refl y) (le_refl (suc y)))))

-- ---- every word

-- the own transitions of each of the words, from state n on, stand in order
abbrev AllInOrder : List ℕ → ℕ → List ℕ → List Port → Type 0
AllInOrder a n [] stack = Unit {0}
AllInOrder a n (w ∷ ws) stack =
    InOrder (own_transitions a w (port_of a n w) (children_on a w stack))
    × AllInOrder a (n + states_of a w) ws (port_of a n w ∷ drop (arity a w) stack)

reading-ordered : {a : List ℕ} {n : ℕ} {ws : List ℕ} {stack : List Port} → AllRead a n ws stack → AllInOrder a n ws stack
reading-ordered ended = tt
reading-ordered (word d r) = (own-ordered d.port.from d.children d.own, reading-ordered r)

pub transitions-ordered : (a e : List ℕ) → expression_fault a e ≡ 0 → AllInOrder a 0 e []
transitions-ordered a e h = reading-ordered (expression-reading a e h)
