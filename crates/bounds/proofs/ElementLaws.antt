-- Counting the words that pass a test: the loop, and what it says where all are counted.
use Rattle.std.proofs.Common.{◌≡◌, ℕ, zero, suc, ◌+◌, ◌<◌, ◌≤◌, Bool, true, false, cond, List, [], ◌∷◌, length, get_or, drop, refl, ap, ◌∙◌, arith}
use Rattle.words.specs.Lists.{count}
use Rattle.words.specs.Word.{node_kind, is_of}
use Rattle.words.proofs.ScanLaws.{drop-step, drop-end}
use Rattle.words.proofs.CountLaws.{count_most}
use Rattle.std.specs.Int.{from_bool}

-- where as many are counted as there are, each passes
pub counted-at : (f : ℕ → Bool) (l : List ℕ) (i : ℕ) → length l ≤ count f l → i < length l → f (get_or l i 0) ≡ true
counted-at f [] i h b = absurd (omega arith)
counted-at f (x ∷ l) zero h b = go (f x) h (count_most f l)
  where
    go : (b : Bool) → suc (length l) ≤ cond b 1 0 + count f l → count f l ≤ length l → b ≡ true
    go true h k = refl
    go false h k = absurd (omega arith)
counted-at f (x ∷ l) (suc i) h b = counted-at f l i (go (f x) h) (omega arith)
  where
    go : (b : Bool) → suc (length l) ≤ cond b 1 0 + count f l → length l ≤ count f l
    go true h = omega arith
    go false h = omega arith

-- ---- the loop: n of the first i words are elements

pub record ElementsSoFar (l : List ℕ) (n i : ℕ) : Type 0 where
  pub within : i ≤ length l
  pub most : n ≤ i
  pub same : n + count (is_of node_kind) (drop i l) ≡ count (is_of node_kind) l

pub elements-none : (l : List ℕ) → ElementsSoFar l 0 0
elements-none l = record { within = omega arith; most = omega arith; same = omega arith }

module _ {l : List ℕ} {n i : ℕ} (g : ElementsSoFar l n i) where
  pub elements-more : i < length l → (b : Bool) → b ≡ is_of node_kind (get_or l i 0) → (one : ℕ) → one ≡ from_bool b
      → ElementsSoFar l (n + one) (i + 1)
  elements-more h b t one e =
      let m = g.most in
      let s = g.same in
      let o : one ≡ cond (is_of node_kind (get_or l i 0)) 1 0 = e ∙ counted b ∙ ap (λ (b : Bool). cond b 1 0) t in
      let f : cond (is_of node_kind (get_or l i 0)) 1 0 ≤ 1 = once (is_of node_kind (get_or l i 0)) in
      let d : count (is_of node_kind) (drop i l) ≡ cond (is_of node_kind (get_or l i 0)) 1 0 + count (is_of node_kind) (drop (i + 1) l) =
      ap (count (is_of node_kind)) (drop-step l i h) in
      record { within = omega arith; most = omega arith; same = omega arith }
    where
      counted : (b : Bool) → from_bool b ≡ cond b 1 0
      counted true = refl
      counted false = refl

      once : (b : Bool) → cond b 1 0 ≤ 1
      once true = omega arith
      once false = omega arith

  pub elements-end : length l ≤ i → n ≡ count (is_of node_kind) l
  elements-end h =
      let s = g.same in
      let d : count (is_of node_kind) (drop i l) ≡ 0 = ap (count (is_of node_kind)) (drop-end l i h) in
      omega arith
