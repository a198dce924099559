-- What the loop of List asks of a call that is not refused.
use mathlib.Core.Path.{◌≡◌}
use mathlib.Core.List.{List}
use Prim.Native.Nat.{ℕ, ◌+◌, ◌*◌, ◌<◌, ◌≤◌}
use Rattle.operations.specs.Marks.{size_of}
use Rattle.operations.specs.Listing.{list_fault}
use Rattle.operations.proofs.AcceptedLaws.{list-accepted}
use Rattle.sets.proofs.StoredLaws.{row_inside}

-- node i's words lie inside the marks
pub list-row : (a table : List ℕ) (n marks_length list_length : ℕ) → list_fault a table n marks_length list_length ≡ 0 → (size : ℕ)
    → size ≡ size_of table
    → (i : ℕ) → i < n → i * size + size ≤ marks_length
list-row a table n marks_length list_length h size s i l =
    row_inside i n size marks_length l (rw s (list-accepted a table n marks_length list_length h).marks)
