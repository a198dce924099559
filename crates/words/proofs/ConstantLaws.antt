-- The list of an alphabet's constants stands in symbol order, each constant once.
use Prim.Native.Nat.{ℕ, suc, ◌+◌, ◌≤◌}
use mathlib.Core.Bool.{Bool, true, false, cond}
use mathlib.Core.List.{List, [], ◌∷◌}
use native.Mathlib.Omega.{arith}
use native.Mathlib.Nat.{zero-add, suc-add, add-suc, le_refl}
use lib.ListN.{length}
use lib.Dec.{eqb}
use Rattle.words.specs.Alphabet.{entry_rank, constants_from, constants_of}
use Rattle.words.proofs.Ascending.{Ascending, end, next, ascending-from}

constants-from : (ws : List ℕ) (s : ℕ) → Ascending s (s + length ws) (constants_from s ws)
unfolding constants_from
constants-from [] s = let h : s ≤ s + 0 = omega arith in end h
constants-from (w ∷ ws) s = go (eqb (entry_rank w) 0) (rw (suc-add, ← add-suc) at (constants-from ws (suc s)))
  where
    rest : List ℕ
    rest = constants_from (suc s) ws

    go : (b : Bool) → Ascending (suc s) (s + suc (length ws)) rest → Ascending s (s + suc (length ws)) (cond b (s ∷ rest) rest)
    go true a = next (le_refl s) a
    go false a = ascending-from (omega arith) a

-- "for each constant in symbol order"
pub constants-ascending : (a : List ℕ) → Ascending 0 (length a) (constants_of a)
unfolding constants_of
constants-ascending a = rw (zero-add (length a)) at (constants-from a 0)
