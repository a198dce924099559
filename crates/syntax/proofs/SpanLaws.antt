-- Laws of the backward loop that finds where a subtree begins: which arities there are, where the words do not suffice, and
-- the loop's invariant; and of the span that it leads to.
use mathlib.Core.Path.{◌≡◌, refl, ap, ap₂, ◌∙◌, sym}
use mathlib.Core.List.{List, []}
use Prim.Native.Nat.{ℕ, suc, ◌+◌, ◌-◌, ◌*◌, ◌<◌, ◌≤◌}
use native.Mathlib.Omega.{arith}
use lib.ListN.{length, get_or, take, drop, get_or-eq_default, drop_of_length-le}
use lib.Seq.{slice, take_all}
use Rattle.words.specs.Word.{kind_of, kind_at, low_byte, symbol_range}
use Rattle.words.specs.Alphabet.{rank_of}
use Rattle.words.specs.Postfix.{arity, height_of, span_of, subtree_of}
use Rattle.words.specs.Shape.{Span}
use Rattle.words.specs.Shape.{start_from_by, span_of_by, height_of_by, stack_after_by}
use Rattle.words.proofs.WordLaws.{arity_at-most}
use Rattle.words.proofs.PostfixLaws.{start_from-none, start_from-more, start-parts, start-le}
use Rattle.words.proofs.ScanLaws.{take-drop}

-- ---- arities

-- a rank is a byte
pub arity-byte : (a : List ℕ) (w r : ℕ) → r ≡ arity a w → r < symbol_range
unfolding arity rank_of
arity-byte a w r e =
    let l = arity_at-most (symbol_range - 1) (rank_of a (low_byte w)) (kind_of w) (omega arith) (omega arith) in
    rw e (omega arith)

-- a missing word takes no children
pub arity-missing : (a : List ℕ) → arity a 0 ≡ 0
unfolding arity kind_at
arity-missing a = refl

-- ---- where subtrees begin

-- behind the words, a missing one that takes no children is a subtree of its own
start-missing : (arity : ℕ → ℕ) (ws : List ℕ) (i : ℕ) → arity 0 ≡ 0 → length ws ≤ i → (span_of_by arity ws i).start ≡ i
start-missing arity ws i z h =
    start-parts arity ws i
    ∙ ap (start_from_by arity ws i) (ap arity (get_or-eq_default ws 0 h) ∙ z)
    ∙ start_from-none arity ws i

-- ---- backward from behind a node: `needed` trees still end before `start`

pub record Backward (arity : ℕ → ℕ) (ws : List ℕ) (node start needed : ℕ) : Type 0 where
  pub within : start ≤ node + 1
  pub some : 0 < needed
  pub few : needed ≤ 1 + symbol_range * (node + 1 - start)
  pub same : (span_of_by arity ws node).start ≡ start_from_by arity ws start needed

pub backward-first : (arity : ℕ → ℕ) (ws : List ℕ) (node : ℕ) → Backward arity ws node (node + 1) 1
backward-first arity ws node = record { within = omega arith; some = omega arith; few = omega arith; same = refl }

module _ {arity : ℕ → ℕ} {ws : List ℕ} {node start needed : ℕ} (b : Backward arity ws node start needed) where
  -- no words are left
  pub backward-all : start ≤ 0 → 0 ≡ (span_of_by arity ws node).start
  unfolding start_from_by
  backward-all h = let z : start ≡ 0 = omega arith in sym (b.same ∙ ap (λ (j : ℕ). start_from_by arity ws j needed) z)

  -- the word before `start` is passed, which takes r trees
  module _ (h : 0 < start) (r : ℕ) (e : r ≡ arity (get_or ws (start - 1) 0)) where
    passed : (span_of_by arity ws node).start ≡ start_from_by arity ws (start - 1) (needed - 1 + r)
    passed =
        let some = b.some in
        let p : start ≡ suc (start - 1) = omega arith in
        let q : needed ≡ suc (needed - 1) = omega arith in
        b.same
        ∙ ap₂ (start_from_by arity ws) p q
        ∙ start_from-more arity ws (start - 1) (needed - 1)
        ∙ ap (λ (n : ℕ). start_from_by arity ws (start - 1) (needed - 1 + n)) (sym e)

    pub backward-more : r < symbol_range → (needed - 1 + r ≡ 0 → ⊥) → Backward arity ws node (start - 1) (needed - 1 + r)
    backward-more l n =
        let within = b.within in
        let few = b.few in
        record { within = omega arith; some = omega arith; few = omega arith; same = passed }

    pub backward-end : needed - 1 + r ≡ 0 → start - 1 ≡ (span_of_by arity ws node).start
    backward-end z = sym (passed ∙ ap (start_from_by arity ws (start - 1)) z ∙ start_from-none arity ws (start - 1))

-- ---- the span that is answered

abbrev made : ℕ → ℕ → Span
made s h = record { start = s; height = h }

-- a missing node's
pub span-missing : (a ws : List ℕ) (i : ℕ) → length ws ≤ i → made i 0 ≡ span_of a ws i
unfolding height_of_by stack_after_by
span-missing a ws i h =
    let s : (span_of a ws i).start ≡ i = start-missing (arity a) ws i (arity-missing a) h in
    let t : take (i + 1) ws ≡ ws = take_all (i + 1) ws (omega arith) in
    let n : subtree_of a ws i ≡ [] = ap₂ drop s t ∙ drop_of_length-le ws {i = i} h in
    ap₂ made (sym s) (ap (height_of a) (sym n))

-- `start` is where it begins, and `high` the height of the part `&ws[start..i + 1]`
module _ (a ws : List ℕ) (i start : ℕ) (e : start ≡ (span_of a ws i).start) where
  pub span-order : start ≤ i
  span-order = rw e (start-le (arity a) ws i)

  pub span-is : (high : ℕ) → high ≡ height_of a (take (i + 1 - start) (drop start ws)) → made start high ≡ span_of a ws i
  span-is high k =
      let h = span-order in
      ap₂ made e (k ∙ ap (height_of a) (take-drop start (i + 1) ws (omega arith) ∙ ap (λ (s : ℕ). slice s (i + 1) ws) e))
