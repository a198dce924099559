-- The steps of an accepted Exchange, with the numbers that the code works out: what each step asks, and what both slices and the
-- answer are in the end.
use mathlib.Core.Path.{◌≡◌, ap, ap₂, ◌∙◌, sym}
use mathlib.Core.List.{List}
use Prim.Native.Nat.{ℕ}
use native.Mathlib.Omega.{arith}
use lib.ListN.{length, take}
use lib.Seq.{paste}
use Rattle.operations.specs.Marks.{size_of}
use Rattle.operations.specs.ExchangeCall.{ExchangeCall}
use Rattle.operations.specs.Exchange.{words_fault, new_tree, new_chapter}
use Rattle.operations.specs.Recomputation.{start_in}
use Rattle.updates.specs.Updating.{updated_from, Updatable}
use Rattle.exchanger.proofs.CallNumberLaws.{root_at, total_count, moved_chapter, moved_marks, CallNumbers, call-numbers, result-workable}
use Rattle.exchanger.proofs.MovedLaws.{moved_holds}
use Rattle.exchanger.proofs.ExchangeLaws.{ExchangeLeft, left-outcomes, chapter-left, nodes-left}

module _ (c : ExchangeCall) (ok : words_fault c ≡ 0) (s : ℕ) (qs : s ≡ start_in c) (size : ℕ) (qz : size ≡ size_of c.table) where
  facts : CallNumbers c s size
  facts = call-numbers c ok s qs size qz

  -- ---- the chapter

  module _ (moved filled : List ℕ) (p : moved ≡ moved_chapter c s)
      (q : filled ≡ paste moved s c.replacement (length c.replacement)) where
    pub chapter-exit : filled ≡ new_chapter c
    chapter-exit =
        chapter-left c ok moved filled (p ∙ ap (moved_chapter c) qs)
        (q ∙ ap (λ (i : ℕ). paste moved i c.replacement (length c.replacement)) qs)

    chapter-nodes : take (total_count c s) filled ≡ new_tree c
    chapter-nodes = ap (λ (i : ℕ). take (total_count c i) filled) qs ∙ nodes-left c ok filled chapter-exit

    pub chapter-count : total_count c s ≡ length (take (total_count c s) filled)
    chapter-count = facts.total ∙ sym (ap length chapter-nodes)

    -- ---- the marks

    module _ (work : List ℕ) (m : work ≡ moved_marks c s size) (long : length work ≡ length c.marks) where
      pub call-updatable : Updatable c.alphabet c.table (take (total_count c s) filled) s (root_at c s) work
      call-updatable =
          let some = facts.some in
          let t = facts.total in
          rw chapter-nodes (record { workable = result-workable c ok work long; order = omega arith; inside = omega arith })

      pub marks-exit : (marks : List ℕ) (count : ℕ)
          → (marks, count) ≡ updated_from c.alphabet c.table (take (total_count c s) filled) s (root_at c s) work
          → ExchangeLeft c marks count
      unfolding new_tree
      marks-exit marks count r =
          left-outcomes c ok work (moved_holds c ok work (m ∙ ap₂ (moved_marks c) qs qz)) marks count
          (r ∙ ap₂ (λ (l : List ℕ) (i : ℕ). updated_from c.alphabet c.table l i (root_at c i) work) chapter-nodes qs)
