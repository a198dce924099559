-- Laws of the alphabet: the list of constants holds exactly the symbols of rank 0.
use Prim.Native.Nat.{ℕ, zero, suc, ◌+◌, ◌<◌}
use mathlib.Core.Path.{◌≡◌, refl}
use mathlib.Core.Logic.{◌↔◌}
use mathlib.Core.Bool.{Bool, true, false, cond, and-eq-true_iff}
use mathlib.Core.List.{List, [], ◌∷◌, Memᴰ}
use native.Mathlib.Omega.{arith}
use native.Mathlib.Nat.{add-zero}
use lib.ListN.{length, get_or}
use lib.Dec.{eqb}
use borrow.Author.Tests.{eq-eqb, eqb-true, lt-ltb, ltb-true}
use Rattle.words.specs.Alphabet.{entry_rank, rank_of, is_symbol, is_constant, constants_from, constants_of}

-- the i-th of the entries has rank 0
abbrev Zero : List ℕ → ℕ → Type 0
Zero a i = (i < length a) × (entry_rank (get_or a i 0) ≡ 0)

from_zero : (a : List ℕ) (s i : ℕ) → Zero a i → Memᴰ (s + i) (constants_from s a)
unfolding constants_from
from_zero [] s i h = absurd (omega (arith, h.0))
from_zero (w ∷ ws) s zero h = rw (eq-eqb (entry_rank w) 0 h.1) (Memᴰ.head (add-zero s))
from_zero (w ∷ ws) s (suc i) h = go (eqb (entry_rank w) 0) (from_zero ws (suc s) i (omega (arith, h.0), h.1))
  where
    e : s + suc i ≡ suc s + i
    e = omega arith

    go : (b : Bool) → Memᴰ (suc s + i) (constants_from (suc s) ws)
        → Memᴰ (s + suc i) (cond b (s ∷ constants_from (suc s) ws) (constants_from (suc s) ws))
    go true m = rw e (Memᴰ.tail m)
    go false m = rw e m

-- c is the number of an entry of rank 0, where the first entry has number s
abbrev Numbered : List ℕ → ℕ → ℕ → Type 0
Numbered a s c = (i : ℕ) × (c ≡ s + i) × Zero a i

numbered-later : (w : ℕ) (ws : List ℕ) (s c : ℕ) → Numbered ws (suc s) c → Numbered (w ∷ ws) s c
numbered-later w ws s c (i, e, h) = (suc i, omega arith, (omega (arith, h.0), h.1))

zero-from : (a : List ℕ) (s c : ℕ) → Memᴰ c (constants_from s a) → Numbered a s c
unfolding constants_from
zero-from [] s c m = elim m [ ]
zero-from (w ∷ ws) s c m = go (eqb (entry_rank w) 0) refl (λ k. zero-from ws (suc s) c k) m
  where
    rest : List ℕ
    rest = constants_from (suc s) ws

    first : entry_rank w ≡ 0 → (Memᴰ c rest → Numbered ws (suc s) c) → Memᴰ c (s ∷ rest) → Numbered (w ∷ ws) s c
    first z f (Memᴰ.head e) = (0, omega arith, (omega arith, z))
    first z f (Memᴰ.tail m) = numbered-later w ws s c (f m)

    go : (b : Bool) → eqb (entry_rank w) 0 ≡ b → (Memᴰ c rest → Numbered ws (suc s) c) → Memᴰ c (cond b (s ∷ rest) rest)
        → Numbered (w ∷ ws) s c
    go true e f m = first (eqb-true (entry_rank w) 0 e) f m
    go false e f m = numbered-later w ws s c (f m)

pub is_constant-zero : (a : List ℕ) (c : ℕ) → is_constant a c ≡ true → (c < length a) × (rank_of a c ≡ 0)
unfolding is_constant
is_constant-zero a c h =
    let p = (and-eq-true_iff (is_symbol a c) (eqb (rank_of a c) 0)).0 h in (ltb-true c (length a) p.0, eqb-true (rank_of a c) 0 p.1)

pub zero-is_constant : (a : List ℕ) (c : ℕ) → c < length a → rank_of a c ≡ 0 → is_constant a c ≡ true
unfolding is_constant
zero-is_constant a c h z = rw (lt-ltb c (length a) h, eq-eqb (rank_of a c) 0 z)

-- "A symbol of rank 0 is a constant", and the list of constants holds no other
pub constants_of-is_constant : (a : List ℕ) (c : ℕ) → Memᴰ c (constants_of a) ↔ (is_constant a c ≡ true)
unfolding constants_of rank_of
constants_of-is_constant a c = (to, from)
  where
    to : Memᴰ c (constants_from 0 a) → is_constant a c ≡ true
    to m =
        let (i, e, h) = zero-from a 0 c m in
        let e : c ≡ i = omega arith in
        rw e (zero-is_constant a i h.0 h.1)

    from : is_constant a c ≡ true → Memᴰ c (constants_from 0 a)
    from h =
        let e : 0 + c ≡ c = omega arith in
        rw e at (from_zero a 0 c (is_constant-zero a c h))
