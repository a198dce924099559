-- Laws of bytes written one after the other.
use mathlib.Core.Path.{◌≡◌, refl, ap, ◌∙◌, sym}
use mathlib.Core.List.{List, [], ◌∷◌, ◌++◌}
use Prim.Native.Nat.{ℕ, ◌+◌, ◌<◌, ◌≤◌}
use native.Mathlib.Omega.{arith}
use native.Mathlib.Nat.{add-zero, add_assoc}
use native.Mathlib.Numerals.{add-one}
use lib.ListN.{length, get_or, take, length-append}
use lib.Seq.{sets, length-sets, take-suc, take_all}
use Rattle.words.specs.Lists.{written_over}
use Rattle.words.proofs.ListLaws.{sets-append, sets-whole}
use Rattle.encoding.specs.ByteWriting.{BytesWritten}

pub bytes-written-none : (at : ℕ) (out : List ℕ) → BytesWritten at [] out out at
bytes-written-none at out = record { bytes = λ fits. refl; next = λ fits. sym (add-zero at) }

-- bytes after bytes
pub bytes-written-more : {at next r : ℕ} {bs cs out out' out'' : List ℕ}
    → BytesWritten at bs out out' next → BytesWritten next cs out' out'' r → BytesWritten at (bs ++ cs) out out'' r
bytes-written-more {at} {next} {r} {bs} {cs} {out} {out'} {out''} p q =
    record { bytes = λ fits. bytes (fits-first fits) (fits-then fits) fits; next = λ fits. end (fits-first fits) (fits-then fits) }
  where
    fits-first : at + length (bs ++ cs) ≤ length out → at + length bs ≤ length out
    fits-first fits = let e = length-append bs cs in omega arith

    fits-then : at + length (bs ++ cs) ≤ length out → next + length cs ≤ length out'
    fits-then fits =
        let e = length-append bs cs in
        let n = p.next (fits-first fits) in
        let l : length out' ≡ length out = ap length (p.bytes (fits-first fits)) ∙ length-sets out at bs in
        omega arith

    bytes : at + length bs ≤ length out → next + length cs ≤ length out' → at + length (bs ++ cs) ≤ length out
        → out'' ≡ sets out at (bs ++ cs)
    bytes f t fits = q.bytes t ∙ rw (p.next f, p.bytes f) (sym (sets-append bs cs out at))

    end : at + length bs ≤ length out → next + length cs ≤ length out' → r ≡ at + length (bs ++ cs)
    end f t = q.next t ∙ rw (p.next f, length-append) (add_assoc at (length bs) (length cs))

-- the same bytes, said otherwise
pub bytes-written-same : {at r : ℕ} {bs cs out out' : List ℕ} → BytesWritten at bs out out' r → bs ≡ cs → BytesWritten at cs out out' r
bytes-written-same p e = rw (← e) p

-- a writer that begins at a place of a slice, and what it leaves there
pub bytes-written-left : {at at' r : ℕ} {bs out out₀ out' left : List ℕ} → BytesWritten at bs out out' r → at ≡ at' → out ≡ out₀
    → left ≡ out' → BytesWritten at' bs out₀ left r
bytes-written-left p e f g = rw (g, ← e, ← f) p

-- all bytes from the first place on
pub bytes-written-whole : (bs out out' : List ℕ) (r : ℕ) → BytesWritten 0 bs out out' r → length bs ≤ length out
    → (r ≡ length bs) × (out' ≡ written_over bs out)
bytes-written-whole bs out out' r p h =
    let z : 0 + length bs ≡ length bs = omega arith in
    (p.next (omega arith) ∙ z, p.bytes (omega arith) ∙ sets-whole bs out h)

-- ---- a loop that writes the bytes of one member of a list after the other, after i of them

pub record MembersWritten (bytes_of : List ℕ → List ℕ) (members : List ℕ) (at : ℕ) (out₀ out : List ℕ) (next i : ℕ) : Type 0 where
  pub few : i ≤ length members
  pub long : length out ≡ length out₀
  pub written : BytesWritten at (bytes_of (take i members)) out₀ out next

pub members-written-none : (bytes_of : List ℕ → List ℕ) (members : List ℕ) (at : ℕ) (out₀ : List ℕ) → bytes_of [] ≡ []
    → MembersWritten bytes_of members at out₀ out₀ at 0
members-written-none bytes_of members at out₀ e =
    record { few = omega arith; long = refl; written = bytes-written-same (bytes-written-none at out₀) (sym e) }

module _ {bytes_of : List ℕ → List ℕ} {members : List ℕ} {at : ℕ} {out₀ out : List ℕ} {next i : ℕ}
    (t : MembersWritten bytes_of members at out₀ out next i) where
  -- bs are the next member's bytes
  pub members-written-more : i < length members → (bs : List ℕ)
      → bytes_of (take i members ++ get_or members i 0 ∷ []) ≡ bytes_of (take i members) ++ bs
      → (out' : List ℕ) (r : ℕ) → length out' ≡ length out → BytesWritten next bs out out' r
      → MembersWritten bytes_of members at out₀ out' r (i + 1)
  members-written-more h bs e out' r l w =
      record {
        few = omega arith;
        long = l ∙ t.long;
        written =
            bytes-written-same (bytes-written-more t.written w)
            (sym (ap (λ (k : ℕ). bytes_of (take k members)) (add-one i) ∙ ap bytes_of (take-suc members i 0 h) ∙ e));
      }

  pub members-written-end : length members ≤ i → BytesWritten at (bytes_of members) out₀ out next
  members-written-end h = bytes-written-same t.written (ap bytes_of (take_all i members h))

-- the bytes of a text
abbrev pub TextWritten : List ℕ → ℕ → List ℕ → List ℕ → ℕ → ℕ → Type 0
TextWritten = MembersWritten (λ bs. bs)
