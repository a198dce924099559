-- `alphabet::count_constants` meets its contract: the chain counts the entries of rank 0.
use mathlib.Core.Path.{◌≡◌, refl, ap, sym, ◌∙◌}
use mathlib.Core.Bool.{Bool, true, false, cond}
use mathlib.Core.List.{List, [], ◌∷◌}
use Prim.Native.Nat.{ℕ, suc}
use lib.ListN.{length}
use lib.Dec.{eqb}
use borrow.Author.Rules.{rules}
use Rattle.std.specs.List.{count_by, filter}
use Rattle.std.proofs.lemmas.List.Sums.{length-filter}
use Rattle.words.specs.Alphabet.{entry_rank, constants_from, constants_of}
use Rattle.alphabet.proofs.count_constants.Goals as goal

abbrev of_rank_0 : ℕ → Bool
of_rank_0 w = eqb (entry_rank w) 0

-- the entries of rank 0 are as many as the constants
as_many : (s : ℕ) (a : List ℕ) → length (filter of_rank_0 a) ≡ length (constants_from s a)
unfolding constants_from
as_many s [] = refl
as_many s (w ∷ a) = go (of_rank_0 w) _ _ (as_many (suc s) a)
  where
    go : (b : Bool) (k l : List ℕ) → length k ≡ length l → length (cond b (w ∷ k) k) ≡ length (cond b (s ∷ l) l)
    go true k l e = ap suc e
    go false k l e = e

pub returns : goal.returns
unfolding constants_of
returns c =
    let ws = c.args.alphabet.now in
    let n : c.count.result ≡ count_by of_rank_0 ws = search rules in
    n ∙ sym (length-filter of_rank_0 ws) ∙ as_many 0 ws
