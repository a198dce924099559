-- Transitions that stand in order are distinct.
use Prim.Native.Nat.{ℕ, ◌≤◌}
use mathlib.Core.Path.{◌≡◌}
use mathlib.Core.List.{List, Memᴰ}
use native.Mathlib.Omega.{arith}
use native.Mathlib.Nat.{le_refl}
use Rattle.words.proofs.DistinctLaws.{Distinct}
use Rattle.automaton.specs.Transition.{Transition, on_symbol, epsilon}
use Rattle.automaton.proofs.TransitionOrder.{OrderedFrom, none, from_later, to_later, InOrderFrom, InOrder, with_symbol, without_symbol}

ordered-behind : {p q p' q' : ℕ} {ts : List Transition} → OrderedFrom p q ts → Memᴰ (epsilon p' q') ts → (p ≤ p') × (p' ≤ p → q ≤ q')
ordered-behind none m = elim m [ ]
ordered-behind {p'} (from_later {p' = r} h o) (Memᴰ.head e) = let f : p' ≡ r = cc in (omega arith, λ k. absurd (omega arith))
ordered-behind (from_later h o) (Memᴰ.tail m) = let b = ordered-behind o m in (omega (arith, b.0), λ k. absurd (omega (arith, b.0)))
ordered-behind {p'} {q'} (to_later {p} {q' = s} h o) (Memᴰ.head e) =
    let f : p' ≡ p = cc in
    let g : q' ≡ s = cc in
    (omega arith, λ k. omega arith)
ordered-behind (to_later h o) (Memᴰ.tail m) = let b = ordered-behind o m in (b.0, λ k. omega (arith, b.1 k))

ordered-symbol : {p q f r : ℕ} {ps : List ℕ} {ts : List Transition} → OrderedFrom p q ts → Memᴰ (on_symbol f ps r) ts → ⊥
ordered-symbol none m = elim m [ ]
ordered-symbol (from_later h o) (Memᴰ.head e) = let z : ◌≡◌ {A = ℕ} 0 1 = cc in omega arith
ordered-symbol (from_later h o) (Memᴰ.tail m) = ordered-symbol o m
ordered-symbol (to_later h o) (Memᴰ.head e) = let z : ◌≡◌ {A = ℕ} 0 1 = cc in omega arith
ordered-symbol (to_later h o) (Memᴰ.tail m) = ordered-symbol o m

ordered-distinct : {p q : ℕ} {ts : List Transition} → OrderedFrom p q ts → Distinct ts
ordered-distinct none = tt
ordered-distinct (from_later {p' = r} h o) = (λ m. omega (arith, (ordered-behind o m).1 (le_refl r)), ordered-distinct o)
ordered-distinct (to_later {p} h o) = (λ m. omega (arith, (ordered-behind o m).1 (le_refl p)), ordered-distinct o)

-- a symbol transition behind has no lower symbol
symbol-behind : {s f r : ℕ} {ps : List ℕ} {ts : List Transition} → InOrderFrom s ts → Memᴰ (on_symbol f ps r) ts → s ≤ f
symbol-behind {f} (with_symbol {f = g} h o) (Memᴰ.head e) = let k : f ≡ g = cc in omega arith
symbol-behind (with_symbol h o) (Memᴰ.tail m) = let k = symbol-behind o m in omega arith
symbol-behind (without_symbol o) m = absurd (ordered-symbol o m)

from-distinct : {s : ℕ} {ts : List Transition} → InOrderFrom s ts → Distinct ts
from-distinct (with_symbol h o) = (λ m. omega (arith, symbol-behind o m), from-distinct o)
from-distinct (without_symbol o) = ordered-distinct o

pub in_order-distinct : {ts : List Transition} → InOrder ts → Distinct ts
in_order-distinct o = from-distinct o
