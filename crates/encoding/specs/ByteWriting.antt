-- Bytes written one after the other into a slice that has room for them. It serves the inner functions.
use Rattle.std.specs.Prelude.{ℕ, ◌+◌, ◌≤◌, ◌≡◌, List, length}
use Rattle.std.proofs.lemmas.List.Edits.{sets}

-- What a writer leaves and answers where the slice has room: the bytes bs stand from index `at` on, and the answer is the
-- next index.
pub record BytesWritten (at : ℕ) (bs out out' : List ℕ) (r : ℕ) : Type 0 where
  pub bytes : at + length bs ≤ length out → out' ≡ sets out at bs
  pub next : at + length bs ≤ length out → r ≡ at + length bs
