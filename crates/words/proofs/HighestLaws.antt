-- Laws of the highest number of a list: of its parts and members.
use mathlib.Core.Path.{◌≡◌, ap, ◌∙◌, sym}
use mathlib.Core.List.{List, [], ◌∷◌, ◌++◌, reverse, reverse_aux}
use Prim.Native.Nat.{ℕ, zero, suc, ◌≤◌, max}
use native.Mathlib.Omega.{arith}
use native.Mathlib.Nat.{zero-max, max-zero}
use lib.ListN.{get_or, take, drop, set, replicate, take-append-drop}
use Rattle.words.specs.Lists.{highest}

-- ---- parts

pub highest-append : (l k : List ℕ) → highest (l ++ k) ≡ max (highest l) (highest k)
unfolding highest
highest-append [] k = sym (zero-max (highest k))
highest-append (x ∷ l) k = let h = highest-append l k in omega arith

pub highest-parts : (n : ℕ) (l : List ℕ) → highest l ≡ max (highest (take n l)) (highest (drop n l))
highest-parts n l = ap highest (sym (take-append-drop n l)) ∙ highest-append (take n l) (drop n l)

highest-reverse_aux : (l r : List ℕ) → highest (reverse_aux l r) ≡ max (highest l) (highest r)
unfolding highest
highest-reverse_aux [] r = sym (zero-max (highest r))
highest-reverse_aux (x ∷ l) r = let h = highest-reverse_aux l (x ∷ r) in omega arith

pub highest-reverse : (l : List ℕ) → highest (reverse l) ≡ highest l
unfolding highest
highest-reverse l = highest-reverse_aux l [] ∙ max-zero (highest l)

pub highest-take : (n : ℕ) (l : List ℕ) → highest (take n l) ≤ highest l
highest-take n l = let h = highest-parts n l in omega arith

pub highest-drop : (n : ℕ) (l : List ℕ) → highest (drop n l) ≤ highest l
highest-drop n l = let h = highest-parts n l in omega arith

pub at-most-highest : (l : List ℕ) (n : ℕ) → get_or l n 0 ≤ highest l
unfolding highest
at-most-highest [] n = omega arith
at-most-highest (x ∷ l) zero = omega arith
at-most-highest (x ∷ l) (suc n) = let h = at-most-highest l n in omega arith

pub highest-set : (l : List ℕ) (n x : ℕ) → highest (set l n x) ≤ max x (highest l)
unfolding highest
highest-set [] n x = omega arith
highest-set (y ∷ l) zero x = omega arith
highest-set (y ∷ l) (suc n) x = let h = highest-set l n x in omega arith

pub highest-zeros : (n : ℕ) → highest (replicate n 0) ≤ 0
unfolding highest
highest-zeros zero = omega arith
highest-zeros (suc n) = let h = highest-zeros n in omega arith
