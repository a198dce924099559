-- Laws of the part states of a symbol move, and of the loop that writes them.
use mathlib.Core.Path.{◌≡◌, refl, ap}
use mathlib.Core.List.{List, [], ◌∷◌, map}
use Prim.Native.Nat.{ℕ}
use Rattle.words.specs.Word.{source_kind, word_of}
use Rattle.automaton.specs.Transition.{source_words}
use Rattle.ports.specs.declared.states.Port.{Port}
use Rattle.ports.specs.Ports.{exit_in, exits_in, ports_in}
use Rattle.emitter.proofs.WritingLaws.{EachWritten}

pub sources-exits : (cs : List ℕ) (ps : List Port) → source_words (exits_in ps) ≡ source_words (map (λ P. P.exit) (ports_in cs ps))
sources-exits cs [] = refl
sources-exits cs (p ∷ ps) = ap (λ (l : List ℕ). word_of source_kind (exit_in p) ∷ l) (sources-exits cs ps)

-- the loop after i children
abbrev pub Sourced : List Port → ℕ → List ℕ → List ℕ → ℕ → ℕ → Type 0
Sourced = EachWritten (λ l. source_words (exits_in l)) 1
