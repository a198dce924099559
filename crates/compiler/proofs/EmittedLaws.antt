-- Laws of the loop that writes the own transitions of a rule's words: a stack of ports in an array, one word more, and the
-- whole rule.
use mathlib.Core.Path.{◌≡◌, refl, ap, ap₂, ◌∙◌, sym, subst}
use mathlib.Core.Bool.{true, not}
use mathlib.Core.List.{List, [], ◌∷◌, ◌++◌, reverse, reverse_aux, reverse_aux-append, append_assoc, append-nil}
use Prim.Native.Nat.{ℕ, ◌+◌, ◌*◌, ◌-◌, ◌<◌, ◌≤◌}
use native.Mathlib.Omega.{arith}
use native.Mathlib.Numerals.{add-one}
use lib.ListN.{length, get_or, take, drop, set, length-drop, length-set, length-map}
use lib.Seq.{take-add, take-suc-set, length-take-le}
use lib.Dec.{leb, eqb-suc-zero}
use borrow.Author.Tests.{leb-true}
use Rattle.words.specs.Limits.{expression_most, rank_most}
use Rattle.words.specs.Lists.{all}
use Rattle.words.specs.Word.{Kind, symbol_kind, empty_kind, union_kind, product_kind, closure_kind, anything_kind, kind_of, low_byte}
use Rattle.words.specs.Alphabet.{rank_of, constants_of}
use Rattle.words.specs.Shape.{trees_by}
use Rattle.words.specs.Postfix.{arity, trees}
use Rattle.words.specs.ExpressionWords.{is_expression_word}
use Rattle.words.proofs.TestLaws.{and-true, picked}
use Rattle.words.proofs.ListLaws.{map-append}
use Rattle.words.proofs.ReadingLaws.{take-pushed, drop-pushed}
use Rattle.words.proofs.ScanLaws.{drop-step, drop-end}
use Rattle.words.proofs.AcceptedAlphabet.{AcceptedAlphabet, arity-most}
use Rattle.words.proofs.ExpressionWordLaws.{ExpressionWord, symbol_word, empty_word, union_word, product_word, closure_word, anything_word}
use Rattle.words.proofs.ExpressionWordLaws.{expression_word}
use Rattle.automaton.specs.Transition.{Transition, transitions_words}
use Rattle.automaton.specs.Numbering.{Port as States, entries_at, states_of, port_of, own_transitions, transitions_from, full_port}
use Rattle.automaton.proofs.TransitionLaws.{transitions_words-append}
use Rattle.automaton.proofs.EntryStates.{entries-kind, port-full, own-kind}
use Rattle.ports.specs.declared.states.Port.{Port}
use Rattle.ports.specs.Ports.{port_in, ports_in}
use Rattle.emitter.specs.Writing.{WordsWritten, last_index}
use Rattle.emitter.specs.Emission.{own_words_most, OwnEmittable}
use Rattle.emitter.proofs.WritingLaws.{words-written-none, words-written-more, words-written-same, words-written-next}
use Rattle.compiler.specs.Compiling.{word_states_most, all_own_words_most}
use Rattle.compiler.proofs.KnownConstants.{word-emittable}

-- ---- a stack of ports in an array

module _ (cs : List ℕ) where
  -- the ports of the numbers, the last on top
  abbrev pub stack_in : List Port → List States
  stack_in ps = reverse (ports_in cs ps)

  stack-pushed : (f k : List Port) → stack_in (f ++ k) ≡ reverse_aux (ports_in cs k) (stack_in f)
  stack-pushed f k = ap reverse (map-append (port_in cs) f k) ∙ reverse_aux-append (ports_in cs f) (ports_in cs k) []

-- the first h members are those below index b and the r members from there
first-parts : {A : Type 0} (l : List A) (b r h : ℕ) → b + r ≡ h → take h l ≡ take b l ++ take r (drop b l)
first-parts l b r h e = ap (λ (n : ℕ). take n l) (sym e) ∙ take-add b r l

length_part : {A : Type 0} (l : List A) (b r : ℕ) → b + r ≤ length l → length (take r (drop b l)) ≡ r
length_part l b r few = length-take-le r (drop b l) (rw (length-drop b l) (omega arith))

-- ---- one word more

module _ (a cs : List ℕ) (known : cs ≡ constants_of a) where
  -- the own transitions of a word are those of one with an entry for each constant, or there are none
  own-full : (n w : ℕ) (ps : List Port) → is_expression_word a w ≡ true → length ps ≡ arity a w
      → own_transitions a w (port_of a n w) (ports_in cs ps) ≡ own_transitions a w (full_port cs n) (ports_in cs ps)
  own-full n w ps h r = go ps r (expression_word a w h)
    where
      full : (k : Kind) → kind_of w ≡ k → entries_at (rank_of a (low_byte w)) k ≡ true → port_of a n w ≡ full_port cs n
      full k e f = port-full a w n (entries-kind a w k e ∙ f) ∙ ap (λ (ds : List ℕ). full_port ds n) (sym known)

      alike : (ps : List Port) → port_of a n w ≡ full_port cs n
          → own_transitions a w (port_of a n w) (ports_in cs ps) ≡ own_transitions a w (full_port cs n) (ports_in cs ps)
      alike ps e = ap (λ (E : States). own_transitions a w E (ports_in cs ps)) e

      go : (ps : List Port) → length ps ≡ arity a w → ExpressionWord a w
          → own_transitions a w (port_of a n w) (ports_in cs ps) ≡ own_transitions a w (full_port cs n) (ports_in cs ps)
      go [] r (symbol_word e l q) = own-kind a w symbol_kind (port_of a n w) [] e ∙ sym (own-kind a w symbol_kind (full_port cs n) [] e)
      go (p ∷ ps) r (symbol_word e l q) = alike (p ∷ ps) (full symbol_kind e (rw (sym q ∙ sym r) (ap not (eqb-suc-zero (length ps)))))
      go ps r (empty_word e q) =
          own-kind a w empty_kind (port_of a n w) (ports_in cs ps) e ∙ sym (own-kind a w empty_kind (full_port cs n) (ports_in cs ps) e)
      go ps r (union_word e q) = alike ps (full union_kind e refl)
      go ps r (product_word e c q) = alike ps (full product_kind e refl)
      go ps r (closure_word e c q) = alike ps (full closure_kind e refl)
      go ps r (anything_word e q) = alike ps (full anything_kind e refl)

  transitions-more : (n w : ℕ) (ws : List ℕ) (f k : List Port) (p : Port) → is_expression_word a w ≡ true → length k ≡ arity a w → port_in cs p ≡ port_of a n w
      → transitions_from a n (w ∷ ws) (stack_in cs (f ++ k))
      ≡ own_transitions a w (full_port cs n) (ports_in cs k) ++ transitions_from a (n + states_of a w) ws (stack_in cs (f ++ p ∷ []))
  unfolding transitions_from
  transitions-more n w ws f k p h r e =
      let m : arity a w ≡ length (ports_in cs k) = sym (length-map k (port_in cs) ∙ r) in
      let s = stack-pushed cs f k in
      let c : reverse (take (arity a w) (stack_in cs (f ++ k))) ≡ ports_in cs k =
      ap (λ (l : List States). reverse (take (arity a w) l)) s ∙ take-pushed (ports_in cs k) (stack_in cs f) (arity a w) m in
      let d : port_of a n w ∷ drop (arity a w) (stack_in cs (f ++ k)) ≡ stack_in cs (f ++ p ∷ []) =
      ap₂ (λ (P : States) (l : List States). P ∷ l) (sym e)
      (ap (drop (arity a w)) s ∙ drop-pushed (ports_in cs k) (stack_in cs f) (arity a w) m)
      ∙ sym (stack-pushed cs f (p ∷ [])) in
      ap₂ (λ (x y : List Transition). x ++ y) (ap (own_transitions a w (port_of a n w)) c ∙ own-full n w k h r)
      (ap (transitions_from a (n + states_of a w) ws) d)

-- ---- the loop after i words

pub record Emitted (a cs e : List ℕ) (at : ℕ) (out out' : List ℕ) (stack : List Port) (height state next i : ℕ) : Type 0 where
  pub within : i ≤ length e
  pub words : all (is_expression_word a) (drop i e) ≡ true
  pub shape : trees a height (drop i e) 1 ≡ true
  pub below : height ≤ i
  pub stack-long : length stack ≡ expression_most
  pub low : state ≤ word_states_most * i
  pub done : List Transition
  pub written : WordsWritten (own_words_most * i) at (transitions_words done) out out' next
  pub left : transitions_from a 0 e [] ≡ done ++ transitions_from a state (drop i e) (stack_in cs (take height stack))

pub emitted-none : (a cs e : List ℕ) (at : ℕ) (out : List ℕ) (stack : List Port) → all (is_expression_word a) e ≡ true → trees a 0 e 1 ≡ true
    → length stack ≡ expression_most
    → Emitted a cs e at out out stack 0 0 at 0
emitted-none a cs e at out stack h t l =
    record {
      within = omega arith;
      words = h;
      shape = t;
      below = omega arith;
      stack-long = l;
      low = omega arith;
      done = [];
      written = words-written-none at out;
      left = refl;
    }

module _ {a cs e : List ℕ} {at : ℕ} {out out' : List ℕ} {stack : List Port} {height state next i : ℕ}
    (m : Emitted a cs e at out out' stack height state next i) where
  -- word i is a rule word whose children are on the stack
  pub emitted-word : i < length e → is_expression_word a (get_or e i 0) ≡ true
  emitted-word h =
      let p = and-true (is_expression_word a (get_or e i 0)) (all (is_expression_word a) (drop (i + 1) e)) in
      (p (subst (λ (l : List ℕ). all (is_expression_word a) l ≡ true) (drop-step e i h) m.words)).0

  step : i < length e → (leb (arity a (get_or e i 0)) height ≡ true) × (trees a (height - arity a (get_or e i 0) + 1) (drop (i + 1) e) 1 ≡ true)
  unfolding trees_by
  step h =
      let r = arity a (get_or e i 0) in
      picked (leb r height) (trees a (height - r + 1) (drop (i + 1) e) 1) (subst (λ (l : List ℕ). trees a height l 1 ≡ true)
      (drop-step e i h) m.shape)

  pub emitted-children : (r : ℕ) → i < length e → r ≡ arity a (get_or e i 0) → r ≤ height
  emitted-children r h q = rw q (leb-true (arity a (get_or e i 0)) height (step h).0)

  pub emitted-height : i < length e → length e ≤ expression_most → height < expression_most
  emitted-height h few = let b = m.below in omega arith

  -- the children's ports of word i
  abbrev pub part : ℕ → List Port
  part r = take r (drop (height - r) stack)

  part-long : (r : ℕ) → i < length e → length e ≤ expression_most → r ≡ arity a (get_or e i 0) → length (part r) ≡ r
  part-long r h le q =
      let few = m.below in
      let stack-long = m.stack-long in
      let c = emitted-children r h q in
      length_part stack (height - r) r (omega arith)

  -- what the emitter asks at word i
  pub emitted-room : i < length e → length e ≤ expression_most → at + all_own_words_most ≤ last_index → next + own_words_most ≤ last_index
  emitted-room h le fits = let n = words-written-next _ _ _ _ _ _ m.written in omega arith

  pub emitted-few : (r : ℕ) → AcceptedAlphabet a → i < length e → length e ≤ expression_most → r ≡ arity a (get_or e i 0)
      → length (part r) ≤ rank_most
  emitted-few r known h le q = let most = arity-most known (get_or e i 0) in rw (part-long r h le q) (omega arith)

  pub emitted-own-emittable : (r : ℕ) → cs ≡ constants_of a → i < length e → length e ≤ expression_most → r ≡ arity a (get_or e i 0)
      → OwnEmittable cs (part r) (get_or e i 0)
  emitted-own-emittable r known h le q =
      word-emittable a cs known (part r) (get_or e i 0) (emitted-word h) (part-long r h le q ∙ q)

  pub emitted-more : (r : ℕ) (p : Port) (s n : ℕ) (out'' : List ℕ) → cs ≡ constants_of a → i < length e → length e ≤ expression_most
      → r ≡ arity a (get_or e i 0)
      → WordsWritten own_words_most next
      (transitions_words (own_transitions a (get_or e i 0) (full_port cs state) (ports_in cs (part r))))
      out' out'' n
      → port_in cs p ≡ port_of a state (get_or e i 0) → s ≡ states_of a (get_or e i 0) → s ≤ word_states_most
      → Emitted a cs e at out out'' (set stack (height - r) p) (height - r + 1) (state + s) n (i + 1)
  emitted-more r p s n out'' known h le q w ep es s≤ =
      let word = get_or e i 0 in
      let base = height - r in
      let few = m.below in
      let stack-long = m.stack-long in
      let low = m.low in
      let c = emitted-children r h q in
      let own = own_transitions a word (full_port cs state) (ports_in cs (part r)) in
      let len : length (part r) ≡ arity a word = part-long r h le q ∙ q in
      let new : take (base + 1) (set stack base p) ≡ take base stack ++ p ∷ [] = ap (λ (k : ℕ). take k (set stack base p))
      (add-one base) ∙ take-suc-set stack base p (omega arith) in
      record {
        within = omega arith;
        words = (and-true (is_expression_word a word) (all (is_expression_word a) (drop (i + 1) e))
            (subst (λ (x : List ℕ). all (is_expression_word a) x ≡ true) (drop-step e i h) m.words)).1;
        shape = rw q (step h).1;
        below = omega arith;
        stack-long = length-set stack base p ∙ stack-long;
        low = omega arith;
        done = m.done ++ own;
        written =
            words-written-same (own_words_most * i + own_words_most) (own_words_most * (i + 1)) at n _ _ out out''
            (words-written-more (own_words_most * i) own_words_most at next n _ _ out out' out'' m.written w)
            (omega arith)
            (sym (transitions_words-append m.done own));
        left =
            m.left
            ∙ ap₂ (λ (x : List ℕ) (y : List Port). m.done ++ transitions_from a state x (stack_in cs y)) (drop-step e i h)
            (first-parts stack base r height (omega arith))
            ∙ ap (λ (x : List Transition). m.done ++ x) (transitions-more a cs known state word (drop (i + 1) e)
            (take base stack) (part r) p (emitted-word h) len ep)
            ∙ sym (append_assoc m.done own (transitions_from a (state + states_of a word) (drop (i + 1) e) (stack_in cs
            (take base stack ++ p ∷ []))))
            ∙ ap₂ (λ (k : ℕ) (x : List Port). (m.done ++ own) ++ transitions_from a (state + k) (drop (i + 1) e) (stack_in cs x)) (sym es)
            (sym new);
      }

  pub emitted-end : length e ≤ i → length e ≤ expression_most
      → WordsWritten all_own_words_most at (transitions_words (transitions_from a 0 e [])) out out' next
  unfolding transitions_from
  emitted-end h few =
      let k = m.within in
      words-written-same (own_words_most * i) all_own_words_most at next _ _ out out' m.written (omega arith)
      (ap transitions_words
      (sym (m.left ∙ ap (λ (l : List ℕ). m.done ++ transitions_from a state l (stack_in cs (take height stack)))
      (drop-end e i h) ∙ append-nil m.done)))
