-- Two state sets joined word by word, as code does it. It serves inner functions.
use Rattle.std.specs.Prelude.{ℕ, zero, suc, length, get_or, set}
use Rattle.std.specs.Int.Bits.{bit_or}
use Rattle.automaton.specs.StateSet.{StateSet}

-- the states of both sets: the first k words are joined
unfoldable pub joined_to : ℕ → StateSet → StateSet → StateSet
joined_to zero r t = r
joined_to (suc k) r t = set (joined_to k r t) k (bit_or (get_or (joined_to k r t) k 0) (get_or t k 0))

abbrev pub joined : StateSet → StateSet → StateSet
joined r t = joined_to (length t) r t
