-- Laws of the own transitions of a word by its kind: they are what the writers leave one after the other.
use mathlib.Core.Path.{◌≡◌, refl, ap, ◌∙◌, sym}
use mathlib.Core.List.{List, [], ◌∷◌, ◌++◌, map, append_assoc}
use Prim.Native.Nat.{ℕ, ◌+◌, ◌<◌, ◌≤◌}
use native.Mathlib.Omega.{arith}
use lib.ListN.{length, get_or}
use Rattle.words.specs.Limits.{rank_most}
use Rattle.automaton.specs.Transition.{Transition, on_symbol, epsilon, source_words, transition_words, transitions_words}
use Rattle.automaton.specs.Numbering.{Port as States, full_entries, symbol_targets, union_targets}
use Rattle.automaton.specs.Numbering.{symbol_transitions, union_transitions, full_port}
use Rattle.automaton.proofs.TransitionLaws.{entry_epsilons-same}
use Rattle.ports.specs.declared.states.Port.{Port}
use Rattle.ports.specs.Ports.{exit_in, exits_in, ports_in, child_in}
use Rattle.ports.proofs.PortLaws.{child-at}
use Rattle.emitter.specs.Writing.{WordsWritten}
use Rattle.emitter.specs.Emission.{entries_words_most, own_words_most}
use Rattle.emitter.proofs.WritingLaws.{words-written-more, words-written-same}
use Rattle.emitter.proofs.ChildTargetLaws.{targets-both}
use Rattle.emitter.proofs.EntryEpsilonLaws.{entry_epsilon_words}
use Rattle.emitter.proofs.SourceLaws.{sources-exits}

-- the exit of the child with index i
pub child-exit : (cs : List ℕ) (ps : List Port) (i : ℕ) (p : Port) {x : ℕ} → i < length ps → x ≡ exit_in (get_or ps i p)
    → x ≡ (child_in cs ps i).exit
child-exit cs ps i p h e = e ∙ ap (λ (P : States). P.exit) (sym (child-at cs ps i p h))

-- ---- what the writers leave, kind by kind

module _ (cs : List ℕ) (ps : List Port) (x at : ℕ) where
  abbrev E : States
  E = full_port cs x

  abbrev F : States
  F = child_in cs ps 0

  abbrev G : States
  G = child_in cs ps 1

  pub union-own : (out o₁ o₂ : List ℕ) (n r y z : ℕ) → length ps ≡ 2 → y ≡ F.exit → z ≡ G.exit
      → WordsWritten 2 at (transitions_words (epsilon y x ∷ epsilon z x ∷ [])) out o₁ n
      → WordsWritten entries_words_most n (entry_epsilon_words x cs (symbol_targets (ports_in cs ps))) o₁ o₂ r
      → WordsWritten own_words_most at (transitions_words (union_transitions E F G)) out o₂ r
  union-own out o₁ o₂ n r y z h e d p s =
      words-written-same (2 + entries_words_most) own_words_most at r _ _ out o₂
      (words-written-more 2 entries_words_most at n r _ _ out o₁ o₂ p s) (omega arith)
      (rw (e, d)
      (ap (λ (l : List Transition). transitions_words (epsilon F.exit x ∷ epsilon G.exit x ∷ l))
      (entry_epsilons-same (symbol_targets (ports_in cs ps)) (union_targets F G) (full_entries cs x) (λ b. targets-both cs ps b h))))

  module _ (out o₁ o₂ o₃ : List ℕ) (n₁ n₂ r : ℕ) where
    -- three writers one after the other
    three : (i j k : ℕ) (us vs ws all : List ℕ) → WordsWritten i at us out o₁ n₁
        → WordsWritten j n₁ vs o₁ o₂ n₂ → WordsWritten k n₂ ws o₂ o₃ r
        → i + j + k ≤ own_words_most → us ++ (vs ++ ws) ≡ all → WordsWritten own_words_most at all out o₃ r
    three i j k us vs ws all p q s le e =
        words-written-same (i + j + k) own_words_most at r ((us ++ vs) ++ ws) all out o₃
        (words-written-more (i + j) k at n₂ r (us ++ vs) ws out o₂ o₃ (words-written-more i j at n₁ n₂ us vs out o₁ o₂ p q) s) le
        (append_assoc us vs ws ∙ e)

    pub symbol-own : (f : ℕ) → (length ps ≡ 0 → ⊥) → WordsWritten 1 at (transition_words (on_symbol f [] x)) out o₁ n₁
        → WordsWritten rank_most n₁ (source_words (exits_in ps)) o₁ o₂ n₂
        → WordsWritten entries_words_most n₂ (entry_epsilon_words x cs (symbol_targets (ports_in cs ps))) o₂ o₃ r
        → WordsWritten own_words_most at (transitions_words (symbol_transitions f E (ports_in cs ps))) out o₃ r
    symbol-own f h p q s =
        three 1 rank_most entries_words_most _ _ _ _ p q s (omega arith)
        (ap (λ (l : List ℕ). transition_words (on_symbol f [] x) ++ (l ++ entry_epsilon_words x cs (symbol_targets (ports_in cs ps))))
        (sources-exits cs ps)
        ∙ some ps h)
      where
        some : (ps : List Port) → (length ps ≡ 0 → ⊥)
            → transition_words (on_symbol f [] x)
            ++ (source_words (map (λ P. P.exit) (ports_in cs ps)) ++ entry_epsilon_words x cs (symbol_targets (ports_in cs ps)))
            ≡ transitions_words (symbol_transitions f E (ports_in cs ps))
        some [] h = absurd (h refl)
        some (p ∷ ps) h = refl
