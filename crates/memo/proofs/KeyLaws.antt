-- Laws of keys: they fit into 64 bits, they are not 0, and different steps have different keys.
use mathlib.Core.Path.{◌≡◌, refl, ap, ap₂}
use mathlib.Core.List.{List, [], ◌∷◌}
use Prim.Native.Nat.{ℕ, zero, suc, ◌+◌, ◌-◌, ◌*◌, ◌/◌, ◌^◌, ◌<◌, ◌≤◌}
use native.Mathlib.Omega.{arith}
use lib.ListN.{length, get_or, drop, length-drop}
use Rattle.words.specs.Lists.{AllBelow}
use Rattle.words.specs.Limits.{nodes_most, rank_most}
use Rattle.words.specs.Word.{symbol_range}
use Rattle.words.proofs.AllLaws.{each-drop}
use Rattle.memo.specs.Key.{packed, step_key, Packable, Keyable, digit_range, last_digit_range}

-- a digit has so many bits
abbrev digit_bits : ℕ
digit_bits = 13

-- four digits
packed-few : (cs : List ℕ) → length cs ≤ rank_most → AllBelow nodes_most cs → packed cs < digit_range ^ rank_most
packed-few [] l h = omega arith
packed-few (a ∷ []) l h = let x = h.0 in omega arith
packed-few (a ∷ b ∷ []) l h =
    let x = h.0 in
    let y = h.1.0 in
    omega arith
packed-few (a ∷ b ∷ c ∷ []) l h =
    let x = h.0 in
    let y = h.1.0 in
    let z = h.1.1.0 in
    omega arith
packed-few (a ∷ b ∷ c ∷ d ∷ []) l h =
    let x = h.0 in
    let y = h.1.0 in
    let z = h.1.1.0 in
    let u = h.1.1.1.0 in
    omega arith
packed-few (a ∷ b ∷ c ∷ d ∷ e ∷ cs) l h = absurd (omega arith)

-- ---- different lists have different numbers

pub packed-same : (n : ℕ) → n ≤ nodes_most → (cs ds : List ℕ) → AllBelow n cs → AllBelow n ds → packed cs ≡ packed ds → cs ≡ ds
packed-same n m [] [] h g e = refl
packed-same n m [] (d ∷ ds) h g e = absurd (omega arith)
packed-same n m (c ∷ cs) [] h g e = absurd (omega arith)
packed-same n m (c ∷ cs) (d ∷ ds) h g e =
    let x = h.0 in
    let y = g.0 in
    let head : c ≡ d = omega arith in
    let tail : packed cs ≡ packed ds = omega arith in
    ap₂ (λ (x : ℕ) (xs : List ℕ). x ∷ xs) head (packed-same n m cs ds h.1 g.1 tail)

module _ (f g : ℕ) (cs ds : List ℕ) (hf : f < symbol_range) (hg : g < symbol_range) (e : step_key f cs ≡ step_key g ds) where
  pub step_key-symbol : f ≡ g
  unfolding step_key
  step_key-symbol = omega arith

  pub key-nodes : packed cs ≡ packed ds
  unfolding step_key
  key-nodes = omega arith

pub key-some : (f : ℕ) (cs : List ℕ) → step_key f cs ≡ 0 → ⊥
unfolding step_key
key-some f cs e = omega arith

-- ---- the last of four nodes

pub record Digits (four : List ℕ) : Type 0 where
  pub first : get_or four 0 0 < nodes_most
  pub second : get_or four 1 0 < nodes_most
  pub third : get_or four 2 0 < nodes_most
  pub fourth : get_or four 3 0 < nodes_most

pub digits : {four : List ℕ} {rank : ℕ} → Packable four rank → Digits four
digits {four} g = go four g.length-is g.below
  where
    go : (l : List ℕ) → length l ≡ rank_most → AllBelow nodes_most l → Digits l
    go [] e h = absurd (omega arith)
    go (a ∷ []) e h = absurd (omega arith)
    go (a ∷ b ∷ []) e h = absurd (omega arith)
    go (a ∷ b ∷ c ∷ []) e h = absurd (omega arith)
    go (a ∷ b ∷ c ∷ d ∷ l) e h = record { first = h.0; second = h.1.0; third = h.1.1.0; fourth = h.1.1.1.0 }

-- the digits of four nodes as code puts them together
abbrev four_digits : ℕ → ℕ → ℕ → ℕ → ℕ
four_digits a b c d = (((d + 1) * digit_range + (c + 1)) * digit_range + (b + 1)) * digit_range + (a + 1)

-- the digits of the others are shifted out
shifted : (a b c d : ℕ) → a < nodes_most → b < nodes_most → c < nodes_most → d < nodes_most → (k : ℕ) → k ≤ rank_most
    → four_digits a b c d / 2 ^ (k * digit_bits) ≡ packed (drop k (a ∷ b ∷ c ∷ d ∷ []))
shifted a b c d x y z u zero h = omega arith
shifted a b c d x y z u (suc zero) h = omega arith
shifted a b c d x y z u (suc (suc zero)) h = omega arith
shifted a b c d x y z u (suc (suc (suc zero))) h = omega arith
shifted a b c d x y z u (suc (suc (suc (suc zero)))) h = omega arith
shifted a b c d x y z u (suc (suc (suc (suc (suc k))))) h = absurd (omega arith)

pub pack-is : {four : List ℕ} {rank : ℕ} → Packable four rank → {m n o p : ℕ} → m ≡ get_or four 0 0 → n ≡ get_or four 1 0
    → o ≡ get_or four 2 0 → p ≡ get_or four 3 0
    → four_digits m n o p / 2 ^ ((rank_most - rank) * digit_bits) ≡ packed (drop (rank_most - rank) four)
pack-is {four} {rank} g i j k l = rw (i, j, k, l) (go four g.length-is g.below)
  where
    go : (l : List ℕ) → length l ≡ rank_most → AllBelow nodes_most l
        → four_digits (get_or l 0 0) (get_or l 1 0) (get_or l 2 0) (get_or l 3 0) / 2 ^ ((rank_most - rank) * digit_bits)
        ≡ packed (drop (rank_most - rank) l)
    go [] e h = absurd (omega arith)
    go (a ∷ []) e h = absurd (omega arith)
    go (a ∷ b ∷ []) e h = absurd (omega arith)
    go (a ∷ b ∷ c ∷ []) e h = absurd (omega arith)
    go (a ∷ b ∷ c ∷ d ∷ []) e h = shifted a b c d h.0 h.1.0 h.1.1.0 h.1.1.1.0 (rank_most - rank) (omega arith)
    go (a ∷ b ∷ c ∷ d ∷ x ∷ l) e h = absurd (omega arith)

-- a key fits
pub key-few : {f : ℕ} {four : List ℕ} {rank : ℕ} → Keyable f four rank
    → packed (drop (rank_most - rank) four) * last_digit_range + f + 1 < 18446744073709551616
key-few {f} {four} {rank} g =
    let s = g.symbol in
    let e = g.nodes.length-is in
    let n =
    packed-few (drop (rank_most - rank) four) (rw (length-drop (rank_most - rank) four) (omega arith))
    (each-drop (λ c. c < nodes_most) (rank_most - rank) four g.nodes.below) in
    omega arith

pub key-is : (f : ℕ) (cs : List ℕ) (number : ℕ) → number ≡ packed cs → number * last_digit_range + f + 1 ≡ step_key f cs
unfolding step_key
key-is f cs number e = ap (λ (n : ℕ). n * last_digit_range + f + 1) e
