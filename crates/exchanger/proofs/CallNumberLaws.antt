-- What is known of the numbers of an accepted call: where the element's subtree begins, the result's length, and that everything
-- lies inside the two slices.
use mathlib.Core.Path.{◌≡◌, ap, ◌∙◌, sym}
use mathlib.Core.List.{List, ◌++◌}
use Prim.Native.Nat.{ℕ, ◌+◌, ◌-◌, ◌*◌, ◌<◌, ◌≤◌}
use native.Mathlib.Omega.{arith}
use native.Mathlib.Nat.{add-mul, one-mul}
use lib.ListN.{length, take}
use lib.Seq.{slice, length-take-le}
use Rattle.words.specs.Postfix.{arity, span_of}
use Rattle.words.proofs.PostfixLaws.{start-le, splice-count}
use Rattle.operations.specs.Marks.{size_of, refit}
use Rattle.operations.specs.ExchangeCall.{ExchangeCall}
use Rattle.operations.specs.Exchange.{used, words_fault, new_tree}
use Rattle.operations.proofs.AcceptedLaws.{CallAccepted, accepted-run, words-accepted}
use Rattle.operations.proofs.ResultLaws.{result-accepted}
use Rattle.nodes.specs.Nodes.{Workable}
use Rattle.nodes.proofs.WorkableLaws.{workable-long}
use Rattle.exchanger.specs.Tail.{TailMovable}

split-words : (i k size : ℕ) → (i + 1 + k) * size ≡ i * size + size + k * size
split-words i k size =
    add-mul (i + 1) k size ∙ ap (λ (j : ℕ). j + k * size) (add-mul i 1 size ∙ ap (λ (j : ℕ). i * size + j) (one-mul size))

-- how many nodes stand behind the element, as code works it out
abbrev pub rest_count : ExchangeCall → ℕ
rest_count c = c.count - c.element - 1

-- Where s is where the element's subtree begins and a state set has `size` words: where the replacement's root comes, the result's
-- length, and both slices when their tails have moved.
module _ (c : ExchangeCall) (s : ℕ) where
  abbrev pub root_at : ℕ
  root_at = s + length c.replacement - 1

  abbrev pub total_count : ℕ
  total_count = s + length c.replacement + rest_count c

  abbrev pub moved_chapter : List ℕ
  moved_chapter =
      refit c.count (take (s + length c.replacement) c.chapter ++ slice (c.element + 1) c.count c.chapter) c.chapter

  abbrev pub moved_marks : ℕ → List ℕ
  moved_marks size =
      refit (c.count * size) (take (root_at * size) c.marks ++ slice (c.element * size) (c.count * size) c.marks) c.marks

pub record CallNumbers (c : ExchangeCall) (s size : ℕ) : Type 0 where
  pub low : s ≤ c.element
  pub inside : c.element < c.count
  pub within : c.count ≤ length c.chapter
  pub some : 0 < length c.replacement
  -- the result's length
  pub total : total_count c s ≡ length (new_tree c)
  pub total-within : total_count c s ≤ length c.chapter
  -- the words of the marks: those up to the element's, the element's or its replacement's root's, and those behind
  pub old-words : c.count * size ≡ c.element * size + size + rest_count c * size
  pub new-words : total_count c s * size ≡ root_at c s * size + size + rest_count c * size
  pub old-fits : c.count * size ≤ length c.marks
  pub new-fits : total_count c s * size ≤ length c.marks

module _ (c : ExchangeCall) (ok : words_fault c ≡ 0) where
  abbrev g : CallAccepted c
  g = words-accepted c ok

  pub length-used : length (used c) ≡ c.count
  length-used = length-take-le c.count c.chapter g.count.within

  module _ (s : ℕ) (qs : s ≡ (span_of c.alphabet (used c) c.element).start) (size : ℕ) (qz : size ≡ size_of c.table) where
    pub call-numbers : CallNumbers c s size
    unfolding size_of new_tree
    call-numbers =
        let inside = g.change.element in
        let low : s ≤ c.element = rw qs (start-le (arity c.alphabet) (used c) c.element) in
        let m = length c.replacement in
        let k = rest_count c in
        let total : s + m + k ≡ length (new_tree c) =
        ap (λ (i : ℕ). s + m + (i - c.element - 1)) (sym length-used)
        ∙ splice-count (arity c.alphabet) (used c) c.element s c.replacement (rw length-used inside) qs in
        let some = g.change.replacement.counted.some in
        let split : c.count ≡ c.element + 1 + k = omega arith in
        let split-new : s + m + k ≡ s + m - 1 + 1 + k = omega arith in
        record {
          low = low;
          inside = inside;
          within = g.count.within;
          some = some;
          total = total;
          total-within = rw total g.change.fits.elements;
          old-words = ap (λ (i : ℕ). i * size) split ∙ split-words c.element k size;
          new-words = ap (λ (i : ℕ). i * size) split-new ∙ split-words (s + m - 1) k size;
          old-fits = rw qz g.marked.marks;
          new-fits = rw (total, qz) g.change.fits.marks;
        }

    -- the tails of both slices may move
    pub chapter-movable : TailMovable c.chapter c.count (c.element + 1) (s + length c.replacement)
    chapter-movable =
        let inside = call-numbers.inside in
        let fits = call-numbers.total-within in
        record { some = omega arith; inside = call-numbers.within; fits = omega arith }

    pub marks-movable : TailMovable c.marks (c.count * size) (c.element * size) (root_at c s * size)
    marks-movable =
        let old = call-numbers.old-words in
        let new = call-numbers.new-words in
        let fits = call-numbers.new-fits in
        record { some = omega arith; inside = call-numbers.old-fits; fits = omega arith }

  -- the result is a tree over the alphabet, with room for its state sets
  pub result-workable : (marks : List ℕ) → length marks ≡ length c.marks → Workable c.alphabet c.table (new_tree c) (length marks)
  unfolding new_tree
  result-workable marks l =
      workable-long l
      (record {
        accepted =
            accepted-run c.alphabet c.table _ (length c.marks)
            (result-accepted c.alphabet c.table (used c) (length c.chapter) (length c.marks) c.element c.replacement
            (rw length-used g));
      })
