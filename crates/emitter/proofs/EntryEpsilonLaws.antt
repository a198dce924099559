-- Laws of the loop over the constants that writes the epsilon transitions from a word's entries.
use mathlib.Core.Path.{◌≡◌, ap, ◌∙◌}
use mathlib.Core.List.{List, [], ◌∷◌, ◌++◌, append-nil}
use Prim.Native.Nat.{ℕ, ◌+◌, ◌<◌}
use lib.ListN.{length, get_or, take}
use Rattle.automaton.specs.Transition.{Transition, transitions_words}
use Rattle.automaton.specs.Numbering.{full_entries, epsilons, entry_epsilons}
use Rattle.automaton.proofs.TransitionLaws.{transitions_words-append, entry_epsilons-append}
use Rattle.ports.specs.Ports.{entry_state}
use Rattle.ports.proofs.PortLaws.{entries-more}
use Rattle.emitter.specs.Writing.{WordsWritten}
use Rattle.emitter.specs.Emission.{entry_words_most}
use Rattle.emitter.proofs.WritingLaws.{EachWritten, each-written-more}

-- the words of the transitions from the entries for the constants, where x is the word's exit
abbrev pub entry_epsilon_words : ℕ → List ℕ → (ℕ → List ℕ) → List ℕ
entry_epsilon_words x cs targets = transitions_words (entry_epsilons (full_entries cs x) targets)

-- one constant more
entry_epsilon_words-more : (x : ℕ) (cs : List ℕ) (targets : ℕ → List ℕ) (k : ℕ) → k < length cs
    → entry_epsilon_words x (take (k + 1) cs) targets
    ≡ entry_epsilon_words x (take k cs) targets ++ transitions_words (epsilons (entry_state x k) (targets (get_or cs k 0)))
entry_epsilon_words-more x cs targets k h =
    let c = get_or cs k 0 in
    let s = entry_state x k in
    let es = full_entries (take k cs) x in
    ap (λ (l : List (ℕ × ℕ)). transitions_words (entry_epsilons l targets)) (entries-more cs x k h)
    ∙ ap transitions_words
    (entry_epsilons-append targets es ((c, s) ∷ [])
    ∙ ap (λ (l : List Transition). entry_epsilons es targets ++ l) (append-nil (epsilons s (targets c))))
    ∙ transitions_words-append (entry_epsilons es targets) (epsilons s (targets c))

-- the loop after k constants
abbrev pub EntriesWritten : List ℕ → (ℕ → List ℕ) → ℕ → ℕ → List ℕ → List ℕ → ℕ → ℕ → Type 0
EntriesWritten cs targets x = EachWritten (λ l. entry_epsilon_words x l targets) entry_words_most cs

module _ {cs : List ℕ} {targets : ℕ → List ℕ} {x at : ℕ} {out out' : List ℕ} {next k : ℕ}
    (w : EntriesWritten cs targets x at out out' next k) where
  pub entries_written-more : (out'' : List ℕ) (r : ℕ) → k < length cs
      → WordsWritten entry_words_most next (transitions_words (epsilons (entry_state x k) (targets (get_or cs k 0)))) out' out'' r
      → EntriesWritten cs targets x at out out'' r (k + 1)
  entries_written-more out'' r h q = each-written-more w out'' r _ h (entry_epsilon_words-more x cs targets k h) q
