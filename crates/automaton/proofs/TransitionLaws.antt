-- Laws of transitions in parts: their words, numbered constants, epsilon transitions from each entry, and anything's on each symbol.
use mathlib.Core.Path.{◌≡◌, refl, ap, ap₂, ◌∙◌, sym}
use mathlib.Core.Bool.{Bool, true, false, cond}
use mathlib.Core.List.{List, [], ◌∷◌, ◌++◌, append_assoc}
use Prim.Native.Nat.{ℕ, suc, ◌+◌}
use native.Mathlib.Nat.{add-zero, add-suc, suc-add}
use lib.ListN.{length, replicate}
use lib.Dec.{eqb}
use Rattle.words.specs.Alphabet.{entry_rank}
use Rattle.automaton.specs.Transition.{Transition, on_symbol, transition_words, transitions_words}
use Rattle.automaton.specs.Numbering.{numbered, epsilons, entry_epsilons, every_symbol}

pub transitions_words-append : (ts us : List Transition) → transitions_words (ts ++ us) ≡ transitions_words ts ++ transitions_words us
transitions_words-append [] us = refl
transitions_words-append (t ∷ ts) us =
    ap (λ (l : List ℕ). transition_words t ++ l) (transitions_words-append ts us)
    ∙ sym (append_assoc (transition_words t) (transitions_words ts) (transitions_words us))

pub numbered-append : (n : ℕ) (cs ds : List ℕ) → numbered n (cs ++ ds) ≡ numbered n cs ++ numbered (n + length cs) ds
numbered-append n [] ds = rw (add-zero n)
numbered-append n (c ∷ cs) ds =
    rw (add-suc, ← suc-add) (ap (λ (l : List (ℕ × ℕ)). (c, n) ∷ l) (numbered-append (suc n) cs ds))

pub entry_epsilons-append : (targets : ℕ → List ℕ) (es fs : List (ℕ × ℕ))
    → entry_epsilons (es ++ fs) targets ≡ entry_epsilons es targets ++ entry_epsilons fs targets
entry_epsilons-append targets [] fs = refl
entry_epsilons-append targets (e ∷ es) fs =
    ap (λ (l : List Transition). epsilons e.1 (targets e.0) ++ l) (entry_epsilons-append targets es fs)
    ∙ sym (append_assoc (epsilons e.1 (targets e.0)) (entry_epsilons es targets) (entry_epsilons fs targets))

-- targets that agree give the same transitions
pub entry_epsilons-same : (f g : ℕ → List ℕ) (es : List (ℕ × ℕ)) → ((c : ℕ) → f c ≡ g c) → entry_epsilons es f ≡ entry_epsilons es g
entry_epsilons-same f g [] h = refl
entry_epsilons-same f g (e ∷ es) h =
    ap₂ (λ (x : List ℕ) (y : List Transition). epsilons e.1 x ++ y) (h e.0) (entry_epsilons-same f g es h)

pub every_symbol-append : (x s : ℕ) (us ws : List ℕ) → every_symbol x s (us ++ ws) ≡ every_symbol x s us ++ every_symbol x (s + length us) ws
unfolding every_symbol
every_symbol-append x s [] ws = rw (add-zero s)
every_symbol-append x s (u ∷ us) ws = rw (add-suc, ← suc-add) (go (eqb (entry_rank u) 0) (every_symbol-append x (suc s) us ws))
  where
    first : Transition
    first = on_symbol s (replicate (entry_rank u) x) x

    here : List Transition
    here = every_symbol x (suc s) us

    behind : List Transition
    behind = every_symbol x (suc s + length us) ws

    go : (b : Bool) → every_symbol x (suc s) (us ++ ws) ≡ here ++ behind
        → cond b (every_symbol x (suc s) (us ++ ws)) (first ∷ every_symbol x (suc s) (us ++ ws)) ≡ cond b here (first ∷ here) ++ behind
    go true e = e
    go false e = ap (λ (l : List Transition). first ∷ l) e
