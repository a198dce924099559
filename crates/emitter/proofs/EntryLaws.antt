-- Laws of epsilon transitions to the entries of a word's children: one entry more, and the loop over the children.
use mathlib.Core.Path.{◌≡◌, refl, ap, ◌∙◌, sym}
use mathlib.Core.List.{List, [], ◌∷◌, ◌++◌, map, flat_map, append_assoc, append-nil}
use Rattle.std.specs.Prelude.{Option}
use Prim.Native.Nat.{ℕ, suc, ◌+◌, ◌<◌}
use native.Mathlib.Numerals.{add-one}
use lib.ListN.{length, get_or, take}
use lib.Seq.{take-suc}
use Rattle.words.proofs.ListLaws.{map-append}
use Rattle.automaton.specs.Transition.{epsilon, transitions_words}
use Rattle.automaton.specs.Numbering.{entry_for, epsilons, symbol_targets}
use Rattle.automaton.proofs.TransitionLaws.{transitions_words-append}
use Rattle.ports.specs.declared.states.Port.{Port}
use Rattle.ports.specs.Ports.{port_in, ports_in, states_of_entry, EntryRead}
use Rattle.emitter.specs.Writing.{WordsWritten}
use Rattle.emitter.proofs.WritingLaws.{EachWritten, each-written-none, each-written-more}

-- the words of the epsilon transitions from a state to states
abbrev pub epsilon_words : ℕ → List ℕ → List ℕ
epsilon_words from qs = transitions_words (epsilons from qs)

pub epsilon_words-append : (from : ℕ) (qs rs : List ℕ) → epsilon_words from (qs ++ rs) ≡ epsilon_words from qs ++ epsilon_words from rs
epsilon_words-append from qs rs =
    ap transitions_words (map-append (λ q. epsilon from q) qs rs) ∙ transitions_words-append (epsilons from qs) (epsilons from rs)

-- ---- to the children's entries

flat_map-append : {A : Type 0} (f : A → List ℕ) (l k : List A) → flat_map f (l ++ k) ≡ flat_map f l ++ flat_map f k
unfolding flat_map
flat_map-append f [] k = refl
flat_map-append f (x ∷ l) k = ap (λ (t : List ℕ). f x ++ t) (flat_map-append f l k) ∙ sym (append_assoc (f x) (flat_map f l) (flat_map f k))

children-entries : (cs : List ℕ) (ps : List Port) (b i : ℕ) (p : Port) → i < length ps → p ≡ get_or ps i p
    → symbol_targets (ports_in cs (take (suc i) ps)) b ≡ symbol_targets (ports_in cs (take i ps)) b ++ entry_for (port_in cs p) b
unfolding flat_map
children-entries cs ps b i p h d =
    ap (λ (l : List Port). symbol_targets (ports_in cs l) b) (take-suc ps i p h)
    ∙ ap (λ (q : Port). symbol_targets (ports_in cs (take i ps ++ q ∷ [])) b) (sym d)
    ∙ ap (flat_map (λ P. entry_for P b)) (map-append (port_in cs) (take i ps) (p ∷ []))
    ∙ flat_map-append (λ P. entry_for P b) (map (port_in cs) (take i ps)) (port_in cs p ∷ [])
    ∙ ap (λ (l : List ℕ). symbol_targets (ports_in cs (take i ps)) b ++ l) (append-nil (entry_for (port_in cs p) b))

-- the loop after i children
abbrev pub ToChildren : List ℕ → List Port → ℕ → ℕ → ℕ → List ℕ → List ℕ → ℕ → ℕ → Type 0
ToChildren cs ps from b = EachWritten (λ l. epsilon_words from (symbol_targets (ports_in cs l) b)) 1 ps

pub children-none : (cs : List ℕ) (ps : List Port) (from b at : ℕ) (out : List ℕ) → ToChildren cs ps from b at out out at 0
unfolding flat_map
children-none cs ps from b at out = each-written-none _ 1 ps at out refl

pub children-more : (cs : List ℕ) (ps : List Port) (from b : ℕ) {at : ℕ} {out out' : List ℕ} {next i : ℕ}
    → ToChildren cs ps from b at out out' next i
    → (p : Port) (to : Option ℕ) (out'' : List ℕ) (r : ℕ) → i < length ps → p ≡ get_or ps i p → EntryRead cs p b to
    → WordsWritten 1 next (epsilon_words from (states_of_entry to)) out' out'' r → ToChildren cs ps from b at out out'' r (i + 1)
children-more cs ps from b {i = i} w p to out'' r h d e q =
    each-written-more w out'' r _ h
    (rw (add-one i, children-entries cs ps b i p h d, ← e.states)
    (epsilon_words-append from (symbol_targets (ports_in cs (take i ps)) b) (states_of_entry to))) q
