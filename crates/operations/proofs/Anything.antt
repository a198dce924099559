-- Document 02's U7 holds: anything alone names every element, no accepted table has over 2,048 words, and rules without it are judged
-- as before.
use Prim.Native.Nat.{ℕ, zero, suc}
use mathlib.Core.Path.{◌≡◌, refl, sym, ◌∙◌}
use mathlib.Core.Bool.{true, false, true≢false}
use mathlib.Core.List.{List, [], ◌∷◌}
use native.Mathlib.Omega.{arith}
use lib.ListN.{length}
use borrow.Author.Tests.{le-ltb}
use Rattle.words.specs.Limits.{table_most}
use Rattle.words.specs.Refusal.{refusal, without}
use Rattle.words.specs.Word.{anything_kind, kind_of, word_of}
use Rattle.words.specs.ExpressionWords.{has_anything}
use Rattle.words.proofs.TestLaws.{Tested, holds, fails, tested}
use Rattle.words.proofs.KindLaws.{kind_of-word_of}
use Rattle.words.proofs.RefusalLaws.{found-refusal, refuses}
use Rattle.language.specs.Expression.{anything}
use Rattle.automaton.proofs.CompiledTable.{table-most}
use Rattle.automaton.proofs.EntryStates.{entries-kind, port-full, own-kind}
use Rattle.operations.specs.Compile.{compiled_table, too_many_words, table_too_long, rule_refusals, compile_refusals, compile_fault}
use Rattle.operations.specs.Demands.{Anything}
use Rattle.operations.proofs.AcceptedLaws.{rule-accepted}
use Rattle.operations.proofs.CompileLaws.{compile-result}
use Rattle.operations.proofs.Demand2.{member-named}

module _ (a e : List ℕ) (none : has_anything e ≡ false) where
  few_words : refusal (rule_refusals a e) ≡ 0 → too_many_words a e ≡ false
  unfolding too_many_words
  few_words h =
      let f = rule-accepted a e h in
      le-ltb table_most (length (compiled_table a e)) (omega (arith, table-most a e f.alphabet f.expression f.states none))

  -- where 25's condition holds, a number before it applies
  judged-alike : (n : ℕ) → compile_fault a e n ≡ refusal (without 25 (compile_refusals a e n))
  judged-alike n = go (tested (too_many_words a e))
    where
      earlier : too_many_words a e ≡ true → (k : ℕ) → refusal (rule_refusals a e) ≡ k
          → compile_fault a e n ≡ refusal (without 25 (compile_refusals a e n))
      earlier t zero z = absurd (true≢false (sym t ∙ few_words z))
      earlier t (suc k) z =
          sym (found-refusal (compile_refusals a e n) (refuses (rule_refusals a e) _ refl (λ y. omega arith)))
          ∙ found-refusal (without 25 (compile_refusals a e n))
          (refuses (rule_refusals a e) ((7, table_too_long a e n) ∷ []) refl (λ y. omega arith))

      go : Tested (too_many_words a e) → compile_fault a e n ≡ refusal (without 25 (compile_refusals a e n))
      go (holds t) = earlier t (refusal (rule_refusals a e)) refl
      go (fails t) = rw t

decoded : kind_of (word_of anything_kind 0) ≡ anything_kind
decoded = kind_of-word_of anything_kind 0 (omega arith)

pub anything-holds : Anything
anything-holds = record {
  everywhere = λ c h e i l.
      member-named c h anything (record { over = tt; words = sym e }) i l (λ t k. k.over);
  port = λ a n. port-full a (word_of anything_kind 0) n (entries-kind a (word_of anything_kind 0) anything_kind decoded);
  moves = λ a E. own-kind a (word_of anything_kind 0) anything_kind E [] decoded;
  most = λ a e slice k h. let r = compile-result a e slice k h in omega (arith, r.count, r.most);
  without-it = λ a e n h. judged-alike a e h n;
}
