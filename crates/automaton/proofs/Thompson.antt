-- Thompson's theorem for tree automata: the automaton of an expression reaches its final state exactly by the members of the
-- expression's language.
use Prim.Native.Nat.{ℕ, ◌<◌, ◌≤◌}
use mathlib.Core.Path.{◌≡◌, sym, subst}
use mathlib.Core.Logic.{◌↔◌}
use mathlib.Core.List.{List, []}
use lib.ListN.{length}
use Rattle.words.specs.Alphabet.{rank_of}
use Rattle.words.specs.Tree.{Tree}
use Rattle.words.specs.Limits.{alphabet_most}
use Rattle.words.proofs.AlphabetLaws.{zero-is_constant, constants_of-is_constant}
use Rattle.words.proofs.HoleLaws.{may_name-listed}
use Rattle.words.proofs.AllLaws.{each-self, each_left, each_right, each_map}
use Rattle.language.specs.Expression.{Expression, Expressions, symbol, empty, union, product, closure, anything, noneᵉ}
use Rattle.language.specs.Expression.{moreᵉ, numberᵉ, expression_words, ExpressionOver, ExpressionsOver}
use Rattle.language.specs.Membership.{Member}
use Rattle.language.proofs.SubstitutionLaws.{itself, substitution-same, substitution-itself}
use Rattle.automaton.specs.Transition.{Transition, Automaton, on_symbol}
use Rattle.automaton.specs.Numbering.{constant_transitions, compiled}
use Rattle.automaton.specs.Reached.{Reaches, on_node, on_none}
use Rattle.automaton.proofs.EveryEntryLaws.{of-constants}
use Rattle.automaton.proofs.TreeNumbering.{exit_state, entry_states, transitions_of, tree_transitions}
use Rattle.automaton.proofs.TreeNumbering.{SymbolListed, ConstantsListed, ConstantsListedAll}
use Rattle.automaton.proofs.ReachedBy.{Present, ReachedBy}
use Rattle.automaton.proofs.Completeness.{complete-expression}
use Rattle.automaton.proofs.Soundness.{sound}
use Rattle.automaton.proofs.WordNumbering.{compiled-tree}

-- ---- numbered as a tree

module _ (a : List ℕ) (E : Expression) where
  abbrev ts : List Transition
  ts = tree_transitions a E

  reaches-member : (t : Tree) → Reaches ts (exit_state a E 0) t → Member a E t
  reaches-member t r = let d = sound a E t r in subst (Member a E) (substitution-itself d.2) d.1

  member-reaches : ConstantsListed a E → (t : Tree) → Member a E t → Reaches ts (exit_state a E 0) t
  member-reaches k t m =
      complete-expression a ts E 0 k
      (each_right (Present ts) (constant_transitions (entry_states a E 0)) (transitions_of a E 0) (each-self ts)) itself
      (each_map (λ e. Present ts (on_symbol e.0 [] e.1)) (λ e. ReachedBy ts (itself e.0) e.1)
      (λ e l s p. subst (λ z. Reaches ts e.1 z) (sym p) (on_node l on_none)) (entry_states a E 0)
      (of-constants (Present ts) (entry_states a E 0)
      (each_left (Present ts) (constant_transitions (entry_states a E 0)) (transitions_of a E 0) (each-self ts))))
      t (t, m, substitution-same t)

  thompson-tree : ConstantsListed a E → (t : Tree) → Reaches ts (exit_state a E 0) t ↔ Member a E t
  thompson-tree k t = (reaches-member t, member-reaches k t)

-- ---- numbered word by word

-- the constants of an expression over an alphabet are among the alphabet's
module _ (a : List ℕ) where
  symbol-listed : (f : ℕ) (es : Expressions) → f < length a → rank_of a f ≡ numberᵉ es → SymbolListed a f es
  symbol-listed c noneᵉ h e = (constants_of-is_constant a c).1 (zero-is_constant a c h e)
  symbol-listed f (moreᵉ e es) h r = tt

  mutual
    constants-listed : (E : Expression) → ExpressionOver a E → ConstantsListed a E
    constants-listed (symbol f es) o = (symbol-listed f es o.0 o.1, constants-listed-all es o.2)
    constants-listed empty o = tt
    constants-listed (union F G) o = (constants-listed F o.0, constants-listed G o.1)
    constants-listed (product c F G) o = (may_name-listed a c o.0, constants-listed F o.1, constants-listed G o.2)
    constants-listed (closure c F) o = (may_name-listed a c o.0, constants-listed F o.1)
    constants-listed anything o = tt

    constants-listed-all : (es : Expressions) → ExpressionsOver a es → ConstantsListedAll a es
    constants-listed-all noneᵉ o = tt
    constants-listed-all (moreᵉ e es) o = (constants-listed e o.0, constants-listed-all es o.1)

-- the trees that the automaton accepts
abbrev Accepts : Automaton → Tree → Type 0
Accepts A t = Reaches A.transitions A.final t

-- the theorem, of the very automaton that the table of a rule encodes
pub thompson : (a : List ℕ) (E : Expression) → length a ≤ alphabet_most → ExpressionOver a E → (t : Tree)
    → Accepts (compiled a (expression_words E)) t ↔ Member a E t
thompson a E l o t =
    subst (λ A. Accepts A t ↔ Member a E t) (sym (compiled-tree a l E o)) (thompson-tree a E (constants-listed a E o) t)
