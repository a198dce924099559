-- The own transitions of an expression word, by its kind, with what holds of its states: a view to branch on.
use Prim.Native.Nat.{ℕ, suc, ◌+◌, ◌<◌, ◌≤◌}
use mathlib.Core.Path.{◌≡◌, refl, ap, ◌∙◌, sym}
use mathlib.Core.Bool.{Bool, true, false, not, cond}
use mathlib.Core.List.{List, [], ◌∷◌}
use native.Mathlib.Omega.{arith}
use native.Mathlib.Nat.{suc-add, add-suc}
use native.Mathlib.Numerals.{add-one}
use lib.ListN.{length}
use lib.Dec.{eqb-suc-zero}
use Rattle.words.specs.Word.{Kind, symbol_kind, empty_kind, union_kind, product_kind, closure_kind, anything_kind, kind_of, has_kind, low_byte}
use Rattle.words.specs.Alphabet.{constants_of, rank_of}
use Rattle.words.specs.Postfix.{arity}
use Rattle.words.specs.ExpressionWords.{is_expression_word}
use Rattle.words.proofs.Ascending.{Ascending}
use Rattle.words.proofs.ExpressionWordLaws.{ExpressionWord, symbol_word, empty_word, union_word, product_word, closure_word, anything_word}
use Rattle.words.proofs.ExpressionWordLaws.{expression_word}
use Rattle.automaton.specs.Transition.{Transition}
use Rattle.automaton.specs.Numbering.{Port, entries_at, has_entries, states_of, exit_entry, port_of, symbol_transitions, union_transitions}
use Rattle.automaton.specs.Numbering.{product_transitions, closure_transitions, anything_transitions, own_transitions}
use Rattle.automaton.proofs.EntryStates.{entries-kind, port-full, port-leaf, states-full, states-leaf, own-kind}
use Rattle.automaton.proofs.PortStates.{constants_in, states_in, numbered-constants, numbered-states, length-numbered}

-- a constant or the empty language, with all its states below hi
pub record Leaf (hi : ℕ) (E : Port) : Type 0 where
  pub states : hi ≡ suc E.exit
  pub entries : length E.entries ≤ 1

-- a word with children, or anything: behind its exit an entry for each constant, in order, up to hi
pub record Inner (a : List ℕ) (hi : ℕ) (E : Port) : Type 0 where
  pub constants : constants_in E.entries ≡ constants_of a
  pub states : Ascending (suc E.exit) hi (states_in E.entries)
  pub last : hi ≡ suc (E.exit + length E.entries)

-- the own transitions of word w with states E over its children, by its kind
pub data Own (a : List ℕ) (hi w : ℕ) (E : Port) : List Port → List Transition → Type 0 where
  leaf : Leaf hi E → Own a hi w E [] []
  of_symbol : {P : Port} {Ps : List Port} → Inner a hi E → low_byte w < length a → rank_of a (low_byte w) ≡ suc (length Ps)
      → Own a hi w E (P ∷ Ps) (symbol_transitions (low_byte w) E (P ∷ Ps))
  of_union : {F G : Port} → Inner a hi E → Own a hi w E (F ∷ G ∷ []) (union_transitions E F G)
  of_product : {F G : Port} → Inner a hi E → Own a hi w E (F ∷ G ∷ []) (product_transitions (low_byte w) E F G)
  of_closure : {F : Port} → Inner a hi E → Own a hi w E (F ∷ []) (closure_transitions (low_byte w) E F)
  of_anything : Inner a hi E → kind_of w ≡ anything_kind → Own a hi w E [] (anything_transitions a E)

module _ (a : List ℕ) (n w : ℕ) where
  abbrev hi : ℕ
  hi = n + states_of a w

  abbrev E : Port
  E = port_of a n w

  leaf-of : has_entries a w ≡ false → Leaf hi E
  leaf-of h = rw (port-leaf a w n h, states-leaf a w h) (record { states = add-one n; entries = one (has_kind symbol_kind w) })
    where
      one : (b : Bool) → length (cond b (exit_entry (low_byte w) n) []) ≤ 1
      one true = omega arith
      one false = omega arith

  inner : has_entries a w ≡ true → Inner a hi E
  inner h =
      rw (port-full a w n h, states-full a w h)
      (record {
        constants = numbered-constants (constants_of a) (suc n);
        states = rw (suc-add, ← add-suc) at (numbered-states (constants_of a) (suc n));
        last = rw (length-numbered (constants_of a) (suc n)) (add-suc n (length (constants_of a)));
      })

  pub own-transitions : (Ps : List Port) → is_expression_word a w ≡ true → length Ps ≡ arity a w → Own a hi w E Ps (own_transitions a w E Ps)
  own-transitions Ps h r = go Ps r (expression_word a w h)
    where
      full : (k : Kind) → kind_of w ≡ k → entries_at (rank_of a (low_byte w)) k ≡ true → Inner a hi E
      full k e f = inner (entries-kind a w k e ∙ f)

      go : (Ps : List Port) → length Ps ≡ arity a w → ExpressionWord a w → Own a hi w E Ps (own_transitions a w E Ps)
      go [] r (symbol_word e l q) =
          rw (own-kind a w symbol_kind E [] e) (leaf (leaf-of (entries-kind a w symbol_kind e ∙ rw (sym q ∙ sym r))))
      go (P ∷ Ps) r (symbol_word e l q) =
          let n = sym q ∙ sym r in
          rw (own-kind a w symbol_kind E (P ∷ Ps) e) (of_symbol (full symbol_kind e (rw n (ap not (eqb-suc-zero (length Ps))))) l n)
      go [] r (empty_word e q) = rw (own-kind a w empty_kind E [] e) (leaf (leaf-of (entries-kind a w empty_kind e)))
      go (P ∷ Ps) r (empty_word e q) = absurd (omega arith)
      go [] r (union_word e q) = absurd (omega arith)
      go (F ∷ []) r (union_word e q) = absurd (omega arith)
      go (F ∷ G ∷ []) r (union_word e q) = rw (own-kind a w union_kind E (F ∷ G ∷ []) e) (of_union (full union_kind e refl))
      go (F ∷ G ∷ Q ∷ Ps) r (union_word e q) = absurd (omega arith)
      go [] r (product_word e c q) = absurd (omega arith)
      go (F ∷ []) r (product_word e c q) = absurd (omega arith)
      go (F ∷ G ∷ []) r (product_word e c q) = rw (own-kind a w product_kind E (F ∷ G ∷ []) e) (of_product (full product_kind e refl))
      go (F ∷ G ∷ Q ∷ Ps) r (product_word e c q) = absurd (omega arith)
      go [] r (closure_word e c q) = absurd (omega arith)
      go (F ∷ []) r (closure_word e c q) = rw (own-kind a w closure_kind E (F ∷ []) e) (of_closure (full closure_kind e refl))
      go (F ∷ Q ∷ Ps) r (closure_word e c q) = absurd (omega arith)
      go [] r (anything_word e q) = rw (own-kind a w anything_kind E [] e) (of_anything (full anything_kind e refl) e)
      go (P ∷ Ps) r (anything_word e q) = absurd (omega arith)
