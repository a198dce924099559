-- Laws of the constants' symbol moves into entries, and of the loop that writes them.
use mathlib.Core.Path.{◌≡◌, ap, ◌∙◌}
use mathlib.Core.List.{List, [], ◌∷◌, ◌++◌}
use Prim.Native.Nat.{ℕ, ◌+◌, ◌<◌}
use lib.ListN.{length, get_or, take}
use Rattle.words.proofs.ListLaws.{map-append}
use Rattle.automaton.specs.Transition.{on_symbol, transition_words, transitions_words}
use Rattle.automaton.specs.Numbering.{full_entries, constant_transitions}
use Rattle.automaton.proofs.TransitionLaws.{transitions_words-append}
use Rattle.ports.specs.Ports.{entry_state}
use Rattle.ports.proofs.PortLaws.{entries-more}
use Rattle.emitter.specs.Writing.{WordsWritten}
use Rattle.emitter.proofs.WritingLaws.{EachWritten, each-written-more}

-- the words of the moves into the entries for the constants, where x is the word's exit
abbrev every_words : ℕ → List ℕ → List ℕ
every_words x cs = transitions_words (constant_transitions (full_entries cs x))

-- one constant more
every_words-more : (x : ℕ) (cs : List ℕ) (k : ℕ) → k < length cs
    → every_words x (take (k + 1) cs) ≡ every_words x (take k cs) ++ transition_words (on_symbol (get_or cs k 0) [] (entry_state x k))
every_words-more x cs k h =
    let c = get_or cs k 0 in
    let s = entry_state x k in
    let es = full_entries (take k cs) x in
    ap (λ (l : List (ℕ × ℕ)). transitions_words (constant_transitions l)) (entries-more cs x k h)
    ∙ ap transitions_words (map-append (λ e. on_symbol e.0 [] e.1) es ((c, s) ∷ []))
    ∙ transitions_words-append (constant_transitions es) (on_symbol c [] s ∷ [])

-- the loop after k constants
abbrev pub EveryPushed : List ℕ → ℕ → ℕ → List ℕ → List ℕ → ℕ → ℕ → Type 0
EveryPushed cs x = EachWritten (every_words x) 1 cs

pub every-pushed-more : {cs : List ℕ} {x at : ℕ} {out out' : List ℕ} {next k : ℕ} → EveryPushed cs x at out out' next k
    → (out'' : List ℕ) (r s : ℕ) → s ≡ entry_state x k → k < length cs
    → WordsWritten 1 next (transition_words (on_symbol (get_or cs k 0) [] s)) out' out'' r → EveryPushed cs x at out out'' r (k + 1)
every-pushed-more {cs} {x} {k = k} w out'' r s e h q = each-written-more w out'' r _ h (every_words-more x cs k h) (rw e at q)
