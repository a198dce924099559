-- Which own transitions a word has, told by its kind.
use mathlib.Core.Path.{◌≡◌, refl, ap, ◌∙◌, sym}
use mathlib.Core.List.{List, [], ◌∷◌}
use Prim.Native.Nat.{ℕ}
use native.Mathlib.Omega.{arith}
use lib.ListN.{length}
use lib.Dec.{eqb}
use borrow.Author.Tests.{eqb-true}
use Rattle.words.specs.Word.{Kind, kind_of, low_byte, closure_kind, product_kind, symbol_kind, union_kind, anything_kind}
use Rattle.words.specs.Decoded.{kind_in}
use Rattle.words.specs.declared.word.Kind.{Kind as Case}
use Rattle.words.specs.declared.word.Kind.TheVariants.{Symbol, Union, Product, Closure, Anything}
use Rattle.words.proofs.ListLaws.{length_none}
use Rattle.words.proofs.DecodedLaws.{Left, left-all}
use Rattle.automaton.specs.Transition.{Transition, transitions_words}
use Rattle.automaton.specs.Numbering.{Port as States, symbol_transitions, union_transitions, product_transitions, closure_transitions}
use Rattle.automaton.specs.Numbering.{anything_transitions, own_at, own_transitions}
use Rattle.automaton.proofs.EntryStates.{own-kind}
use Rattle.ports.specs.declared.states.Port.{Port}
use Rattle.ports.specs.Ports.{ports_in, child_in}
use Rattle.emitter.specs.Writing.{WordsWritten}
use Rattle.emitter.proofs.WritingLaws.{words-written-none, words-written-same}
use Rattle.emitter.proofs.ChildTargetLaws.{both, single}

module _ (a : List ℕ) (w : ℕ) (E : States) (cs : List ℕ) where
  abbrev own : List Port → List Transition
  own ps = own_transitions a w E (ports_in cs ps)

  pub own-symbol : (ps : List Port) → kind_of w ≡ symbol_kind → own ps ≡ symbol_transitions (low_byte w) E (ports_in cs ps)
  own-symbol ps e = own-kind a w symbol_kind E (ports_in cs ps) e

  pub own-union : (ps : List Port) → length ps ≡ 2 → kind_of w ≡ union_kind → own ps ≡ union_transitions E (child_in cs ps 0) (child_in cs ps 1)
  own-union ps h e = ap (own_transitions a w E) (both cs ps h) ∙ own-kind a w union_kind E (child_in cs ps 0 ∷ child_in cs ps 1 ∷ []) e

  pub own-product : (ps : List Port) → length ps ≡ 2 → kind_of w ≡ product_kind
      → own ps ≡ product_transitions (low_byte w) E (child_in cs ps 0) (child_in cs ps 1)
  own-product ps h e = ap (own_transitions a w E) (both cs ps h) ∙ own-kind a w product_kind E (child_in cs ps 0 ∷ child_in cs ps 1 ∷ []) e

  pub own-closure : (ps : List Port) → length ps ≡ 1 → kind_of w ≡ closure_kind → own ps ≡ closure_transitions (low_byte w) E (child_in cs ps 0)
  own-closure ps h e = ap (own_transitions a w E) (single cs ps h) ∙ own-kind a w closure_kind E (child_in cs ps 0 ∷ []) e

  pub own-anything : (ps : List Port) → kind_of w ≡ anything_kind → own ps ≡ anything_transitions a E
  own-anything ps e = own-kind a w anything_kind E (ports_in cs ps) e

  -- a word of any other kind has none
  pub own-other : (ps : List Port) (k : Case) → kind_in k ≡ kind_of w → Left (Symbol ∷ Union ∷ Product ∷ Closure ∷ Anything ∷ []) k → own ps ≡ []
  own-other ps k decoded left =
      let Ps = ports_in cs ps in
      own-kind a w (kind_in k) E Ps (sym decoded)
      ∙ length_none (own_at a (kind_in k) (low_byte w) E Ps)
      (eqb-true (length (own_at a (kind_in k) (low_byte w) E Ps)) 0
      (left-all (Symbol ∷ Union ∷ Product ∷ Closure ∷ Anything ∷ []) k left
      (λ (j : Kind). eqb (length (own_at a j (low_byte w) E Ps)) 0) refl))

-- the words of transitions that are written, said otherwise
pub transitions-written : (m at r : ℕ) (ts us : List Transition) (out out' : List ℕ) → us ≡ ts
    → WordsWritten m at (transitions_words ts) out out' r
    → WordsWritten m at (transitions_words us) out out' r
transitions-written m at r ts us out out' e w = rw e w

-- no transitions
pub no-transitions-written : (m at : ℕ) (us : List Transition) (out : List ℕ) → us ≡ [] → WordsWritten m at (transitions_words us) out out at
no-transitions-written m at us out e = rw e (words-written-same 0 m at at [] [] out out (words-written-none at out) (omega arith) refl)
