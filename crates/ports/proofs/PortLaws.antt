-- Laws of entries for all constants, and of a word's children.
use mathlib.Core.Path.{◌≡◌, refl, ap, ◌∙◌}
use mathlib.Core.List.{List, [], ◌∷◌, ◌++◌}
use Prim.Native.Nat.{ℕ, zero, suc, ◌+◌, ◌<◌}
use native.Mathlib.Omega.{arith}
use native.Mathlib.Numerals.{add-one}
use lib.ListN.{length, get_or, take}
use lib.Seq.{take-suc, length-take-le}
use Rattle.automaton.specs.Numbering.{full_entries}
use Rattle.automaton.proofs.TransitionLaws.{numbered-append}
use Rattle.ports.specs.declared.states.Port.{Port}
use Rattle.ports.specs.Ports.{port_in, child_in, entry_state}

-- the entries for one constant more
pub entries-more : (cs : List ℕ) (x k : ℕ) → k < length cs
    → full_entries (take (k + 1) cs) x ≡ full_entries (take k cs) x ++ (get_or cs k 0, entry_state x k) ∷ []
entries-more cs x k h =
    let c = get_or cs k 0 in
    let n : suc x + length (take k cs) ≡ entry_state x k = rw (length-take-le k cs (omega arith)) (omega arith) in
    ap (λ (l : List ℕ). full_entries l x) (ap (λ (i : ℕ). take i cs) (add-one k) ∙ take-suc cs k 0 h)
    ∙ numbered-append (suc x) (take k cs) (c ∷ []) ∙ ap (λ (i : ℕ). full_entries (take k cs) x ++ (c, i) ∷ []) n

-- the child with index i, where there is one
pub child-at : (cs : List ℕ) (ps : List Port) (i : ℕ) (p : Port) → i < length ps → child_in cs ps i ≡ port_in cs (get_or ps i p)
child-at cs [] i p h = absurd (omega arith)
child-at cs (q ∷ ps) zero p h = refl
child-at cs (q ∷ ps) (suc i) p h = child-at cs ps i p (omega arith)
