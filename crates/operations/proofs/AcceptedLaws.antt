-- What is known of a call that is not refused. A part that lists of refusals share has one record, and an operation's record is made
-- of those of its parts and of what is its own; what 1 and 2, 3 to 5, and 10 and 11 say is in words (AcceptedAlphabet,
-- AcceptedExpression, AcceptedTree).
use mathlib.Core.Path.{◌≡◌, refl, ap, ◌∙◌, sym}
use mathlib.Core.Bool.{true, false, not, ◌||◌}
use mathlib.Core.List.{List, [], ◌∷◌}
use Prim.Native.Nat.{ℕ, ◌*◌, ◌≤◌, ◌<◌}
use lib.ListN.{length}
use lib.Dec.{ltb}
use borrow.Author.Tests.{ltb-true, ltb-false, le-ltb, not-false}
use Rattle.words.specs.Limits.{states_most, table_most, nodes_most}
use Rattle.words.specs.Refusal.{refusal, some_holds}
use Rattle.words.specs.Alphabet.{alphabet_refusals, alphabet_fault}
use Rattle.words.specs.ExpressionWords.{expression_refusals, expression_fault}
use Rattle.words.specs.Chapter.{tree_refusals, tree_fault, too_high, holes_in}
use Rattle.words.specs.Postfix.{splice}
use Rattle.words.proofs.TestLaws.{or-false}
use Rattle.words.proofs.LimitLaws.{Within, not-outside, is_within}
use Rattle.words.proofs.RefusalLaws.{none, next, found-refusal, refusal-found, condition_of, none-applies, none-refusal}
use Rattle.words.proofs.RefusalLaws.{passes, part-passes, part-behind, refusal-none}
use Rattle.words.proofs.RefusalLaws.{refusal-before, refusal-behind, refusal-last}
use Rattle.words.proofs.AcceptedTree.{AcceptedTree, tree-accepted}
use Rattle.automaton.specs.Table.{is_table, no_table}
use Rattle.automaton.specs.Numbering.{compiled}
use Rattle.operations.specs.Compile.{compiled_table, too_many_states, too_many_words, table_too_long, rule_refusals, rule_table_refusals}
use Rattle.operations.specs.Compile.{compile_refusals, compile_fault}
use Rattle.operations.specs.Marks.{size_of}
use Rattle.operations.specs.Run.{wrong_count, marks_too_short, table_refusals, marked_refusals, run_refusals, run_fault}
use Rattle.operations.specs.Listing.{list_too_short, list_refusals, list_fault}
use Rattle.operations.specs.ExchangeCall.{ExchangeCall}
use Rattle.operations.specs.Exchange.{wrong_used_count, no_element, no_replacement, result_too_long, change_refusals}
use Rattle.operations.specs.Exchange.{exchange_refusals, exchange_fault, used, words_refusals, words_fault}
use Rattle.operations.specs.Exchange.{old_totals, new_totals, refusals_of, fault}
use Rattle.operations.specs.Totals.{Totals, wrong_totals}

-- ---- an alphabet and a rule

pub record RuleAccepted (a e : List ℕ) : Type 0 where
  -- 1 2
  pub alphabet : alphabet_fault a ≡ 0
  -- 3 4 5
  pub expression : expression_fault a e ≡ 0
  -- 6
  pub states : (compiled a e).states ≤ states_most

pub rule-accepted : (a e : List ℕ) → refusal (rule_refusals a e) ≡ 0 → RuleAccepted a e
unfolding too_many_states
rule-accepted a e h =
    let rs = rule_refusals a e in
    record {
      alphabet = part-passes rs refl h (alphabet_refusals a) refl;
      expression = part-behind rs refl h 2 (expression_refusals a e) refl;
      states = ltb-false states_most (compiled a e).states (none-applies rs refl h 6);
    }

-- and its table
pub record RuleTableAccepted (a e : List ℕ) : Type 0 where
  -- 1 to 6, of which RuleAccepted tells
  pub rule : refusal (rule_refusals a e) ≡ 0
  -- 25
  pub words : length (compiled_table a e) ≤ table_most

pub rule-table-accepted : (a e : List ℕ) → refusal (rule_table_refusals a e) ≡ 0 → RuleTableAccepted a e
unfolding too_many_words
rule-table-accepted a e h =
    let rs = rule_table_refusals a e in
    record {
      rule = part-passes rs refl h (rule_refusals a e) refl;
      words = ltb-false table_most (length (compiled_table a e)) (none-applies rs refl h 25);
    }

-- `table_length` is the length of the table slice
pub record CompileAccepted (a e : List ℕ) (table_length : ℕ) : Type 0 where
  -- 1 to 6 and 25
  pub rule_table : RuleTableAccepted a e
  -- 7
  pub fits : length (compiled_table a e) ≤ table_length

pub compile-accepted : (a e : List ℕ) (table_length : ℕ) → compile_fault a e table_length ≡ 0 → CompileAccepted a e table_length
unfolding table_too_long
compile-accepted a e table_length h =
    let rs = compile_refusals a e table_length in
    record {
      rule_table = rule-table-accepted a e (part-passes rs refl h (rule_table_refusals a e) refl);
      fits = ltb-false table_length (length (compiled_table a e)) (none-applies rs refl h 7);
    }

-- ---- an alphabet and a table

pub record TableAccepted (a table : List ℕ) : Type 0 where
  -- 1 2
  pub alphabet : alphabet_fault a ≡ 0
  -- 8
  pub automaton : is_table a table ≡ true

module _ (a table : List ℕ) where
  table-accepted : refusal (table_refusals a table) ≡ 0 → TableAccepted a table
  unfolding no_table
  table-accepted h =
      let rs = table_refusals a table in
      record {
        alphabet = part-passes rs refl h (alphabet_refusals a) refl;
        automaton = not-false (is_table a table) (none-applies rs refl h 8);
      }

  pub accepted-table : TableAccepted a table → refusal (table_refusals a table) ≡ 0
  unfolding no_table
  accepted-table g =
      sym
      (found-refusal (table_refusals a table)
      (passes (alphabet_refusals a) refl (sym g.alphabet) refl (next (ap not g.automaton) none)))

-- ---- how many elements there are

-- 9
pub count-right : (n : ℕ) → wrong_count n ≡ false → Within nodes_most n
unfolding wrong_count
count-right n h = not-outside nodes_most n h

pub right-count : (n : ℕ) → Within nodes_most n → wrong_count n ≡ false
unfolding wrong_count
right-count n g = is_within nodes_most n g

-- 9 of Exchange
pub record UsedCount (n chapter_length : ℕ) : Type 0 where
  pub counted : Within nodes_most n
  pub within : n ≤ chapter_length

pub used-count-right : (n chapter_length : ℕ) → wrong_used_count n chapter_length ≡ false → UsedCount n chapter_length
unfolding wrong_used_count
used-count-right n chapter_length h =
    let p = or-false (wrong_count n) (ltb chapter_length n) h in
    record { counted = count-right n p.0; within = ltb-false chapter_length n p.1 }

-- ---- a chapter and its marks

module _ (table : List ℕ) (n marks_length : ℕ) where
  marks-fit : marks_too_short table n marks_length ≡ false → n * size_of table ≤ marks_length
  unfolding marks_too_short
  marks-fit h = ltb-false marks_length (n * size_of table) h

  pub fit-marks : n * size_of table ≤ marks_length → marks_too_short table n marks_length ≡ false
  unfolding marks_too_short
  fit-marks h = le-ltb marks_length (n * size_of table) h

pub record MarkedAccepted (a table : List ℕ) (n : ℕ) (ch : List ℕ) (marks_length : ℕ) : Type 0 where
  -- 10 11
  pub tree : tree_fault a ch ≡ 0
  -- 24
  pub low : too_high a ch ≡ false
  -- 26
  pub free : holes_in a ch ≡ false
  -- 12
  pub marks : n * size_of table ≤ marks_length

module _ (a table : List ℕ) (n : ℕ) (ch : List ℕ) (marks_length : ℕ) where
  marked-accepted : refusal (marked_refusals a table n ch marks_length) ≡ 0 → MarkedAccepted a table n ch marks_length
  marked-accepted h =
      let rs = marked_refusals a table n ch marks_length in
      record {
        tree = part-passes rs refl h (tree_refusals a ch) refl;
        low = none-applies rs refl h 24;
        free = none-applies rs refl h 26;
        marks = marks-fit table n marks_length (none-applies rs refl h 12);
      }

  accepted-marked : MarkedAccepted a table n ch marks_length → refusal (marked_refusals a table n ch marks_length) ≡ 0
  accepted-marked g =
      sym
      (found-refusal (marked_refusals a table n ch marks_length)
      (passes (tree_refusals a ch) refl (sym g.tree) refl
      (next g.low (next g.free (next (fit-marks table n marks_length g.marks) none)))))

-- ---- a change

-- 15
pub record Replacement (a xs : List ℕ) : Type 0 where
  pub counted : Within nodes_most (length xs)
  pub tree : AcceptedTree a xs

pub replacement-right : (a xs : List ℕ) → no_replacement a xs ≡ false → Replacement a xs
unfolding no_replacement
replacement-right a xs h =
    let p = or-false (wrong_count (length xs)) (some_holds (tree_refusals a xs)) h in
    record { counted = count-right (length xs) p.0; tree = tree-accepted a xs (none-refusal (tree_refusals a xs) p.1) }

-- 16
pub record ResultFits (table : List ℕ) (n chapter_length marks_length : ℕ) : Type 0 where
  pub few : n ≤ nodes_most
  pub elements : n ≤ chapter_length
  pub marks : n * size_of table ≤ marks_length

pub result-right : (table : List ℕ) (n chapter_length marks_length : ℕ) → result_too_long table n chapter_length marks_length ≡ false
    → ResultFits table n chapter_length marks_length
unfolding result_too_long
result-right table n chapter_length marks_length h =
    let p = or-false (ltb nodes_most n || ltb chapter_length n) (marks_too_short table n marks_length) h in
    let q = or-false (ltb nodes_most n) (ltb chapter_length n) p.0 in
    record {
      few = ltb-false nodes_most n q.0;
      elements = ltb-false chapter_length n q.1;
      marks = marks-fit table n marks_length p.1;
    }

pub record ChangeAccepted (a table : List ℕ) (n : ℕ) (used : List ℕ) (chapter_length marks_length i : ℕ) (xs : List ℕ) : Type 0 where
  -- 14
  pub element : i < n
  -- 15
  pub replacement : Replacement a xs
  -- 26
  pub free : holes_in a xs ≡ false
  -- 16
  pub fits : ResultFits table (length (splice a used i xs)) chapter_length marks_length
  -- 24
  pub low : too_high a (splice a used i xs) ≡ false

change-accepted : (a table : List ℕ) (n : ℕ) (used : List ℕ) (chapter_length marks_length i : ℕ) (xs : List ℕ)
    → refusal (change_refusals a table n used chapter_length marks_length i xs) ≡ 0
    → ChangeAccepted a table n used chapter_length marks_length i xs
unfolding no_element
change-accepted a table n used chapter_length marks_length i xs h =
    let rs = change_refusals a table n used chapter_length marks_length i xs in
    let not_so : (k : ℕ) → condition_of k rs ≡ false = none-applies rs refl h in
    record {
      element = ltb-true i n (not-false (ltb i n) (not_so 14));
      replacement = replacement-right a xs (not_so 15);
      free = not_so 26;
      fits = result-right table (length (splice a used i xs)) chapter_length marks_length (not_so 16);
      low = not_so 24;
    }

-- ---- Run

pub record RunAccepted (a table p : List ℕ) (marks_length : ℕ) : Type 0 where
  -- 1 2 8
  pub checked : TableAccepted a table
  -- 9
  pub counted : Within nodes_most (length p)
  -- 10 11 24 26 12
  pub marked : MarkedAccepted a table (length p) p marks_length

module _ (a table p : List ℕ) (marks_length : ℕ) where
  pub run-accepted : run_fault a table p marks_length ≡ 0 → RunAccepted a table p marks_length
  run-accepted h =
      let rs = run_refusals a table p marks_length in
      record {
        checked = table-accepted a table (part-passes rs refl h (table_refusals a table) refl);
        counted = count-right (length p) (none-applies rs refl h 9);
        marked =
            marked-accepted a table (length p) p marks_length
            (part-behind rs refl h 9 (marked_refusals a table (length p) p marks_length) refl);
      }

  pub accepted-run : RunAccepted a table p marks_length → run_fault a table p marks_length ≡ 0
  accepted-run g =
      sym
      (found-refusal (run_refusals a table p marks_length)
      (passes (table_refusals a table) refl (sym (accepted-table a table g.checked)) refl
      (next (right-count (length p) g.counted)
      (refusal-found (marked_refusals a table (length p) p marks_length)
      (sym (accepted-marked a table (length p) p marks_length g.marked))))))

-- ---- List

pub record ListAccepted (a table : List ℕ) (n marks_length list_length : ℕ) : Type 0 where
  -- 1 2 8
  pub checked : TableAccepted a table
  -- 9
  pub counted : Within nodes_most n
  -- 12
  pub marks : n * size_of table ≤ marks_length
  -- 13
  pub list : n ≤ list_length

module _ (a table : List ℕ) (n marks_length list_length : ℕ) where
  pub list-accepted : list_fault a table n marks_length list_length ≡ 0 → ListAccepted a table n marks_length list_length
  unfolding list_too_short
  list-accepted h =
      let rs = list_refusals a table n marks_length list_length in
      let not_so : (k : ℕ) → condition_of k rs ≡ false = none-applies rs refl h in
      record {
        checked = table-accepted a table (part-passes rs refl h (table_refusals a table) refl);
        counted = count-right n (not_so 9);
        marks = marks-fit table n marks_length (not_so 12);
        list = ltb-false list_length n (not_so 13);
      }

  pub accepted-list : ListAccepted a table n marks_length list_length → list_fault a table n marks_length list_length ≡ 0
  unfolding list_too_short
  accepted-list g =
      sym
      (found-refusal (list_refusals a table n marks_length list_length)
      (passes (table_refusals a table) refl (sym (accepted-table a table g.checked)) refl
      (next (right-count n g.counted)
      (next (fit-marks table n marks_length g.marks) (next (le-ltb list_length n g.list) none)))))

-- ---- Exchange

pub record ExchangeAccepted (a table : List ℕ) (n : ℕ) (used : List ℕ) (chapter_length marks_length i : ℕ) (xs : List ℕ) : Type 0 where
  -- 1 2 8
  pub checked : TableAccepted a table
  -- 9
  pub count : UsedCount n chapter_length
  -- 10 11 24 26 12
  pub marked : MarkedAccepted a table n used marks_length
  -- 14 15 26 16 24
  pub change : ChangeAccepted a table n used chapter_length marks_length i xs

pub exchange-accepted : (a table : List ℕ) (n : ℕ) (used : List ℕ) (chapter_length marks_length i : ℕ) (xs : List ℕ)
    → exchange_fault a table n used chapter_length marks_length i xs ≡ 0
    → ExchangeAccepted a table n used chapter_length marks_length i xs
exchange-accepted a table n used chapter_length marks_length i xs h =
    let rs = exchange_refusals a table n used chapter_length marks_length i xs in
    let change = change_refusals a table n used chapter_length marks_length i xs in
    record {
      checked = table-accepted a table (part-passes rs refl h (table_refusals a table) refl);
      count = used-count-right n chapter_length (none-applies rs refl h 9);
      marked = marked-accepted a table n used marks_length (part-behind rs refl h 9 (marked_refusals a table n used marks_length) refl);
      change = change-accepted a table n used chapter_length marks_length i xs (part-behind rs refl h 12 change refl);
    }

-- the same of a call as one record
abbrev pub CallAccepted : ExchangeCall → Type 0
CallAccepted c =
    ExchangeAccepted c.alphabet c.table c.count (used c) (length c.chapter) (length c.marks) c.element c.replacement

module _ (c : ExchangeCall) where
  pub words-accepted : words_fault c ≡ 0 → CallAccepted c
  unfolding words_fault
  words-accepted h =
      exchange-accepted c.alphabet c.table c.count (used c) (length c.chapter) (length c.marks) c.element
      c.replacement h

  -- with the record t that it is lent
  module _ (t : Totals) where
    pub call-words : fault c t ≡ 0 → words_fault c ≡ 0
    unfolding fault words_fault
    call-words h = part-passes (refusals_of c t) refl h (words_refusals c) refl

    -- 27
    pub call-totals : fault c t ≡ 0 → wrong_totals t (old_totals c) (new_totals c) ≡ false
    unfolding fault
    call-totals h = none-applies (refusals_of c t) refl h 27

    pub call-accepted : fault c t ≡ 0 → CallAccepted c
    call-accepted h = words-accepted (call-words h)

    -- where 27 does not apply, the words decide
    pub call-fault : wrong_totals t (old_totals c) (new_totals c) ≡ false → fault c t ≡ words_fault c
    unfolding fault words_fault
    call-fault h = refusal-last (words_refusals c) 27 (wrong_totals t (old_totals c) (new_totals c)) h

    -- and where they are refused
    pub words-first : (words_fault c ≡ 0 → ⊥) → fault c t ≡ words_fault c
    unfolding fault words_fault
    words-first h = refusal-before (words_refusals c) ((27, wrong_totals t (old_totals c) (new_totals c)) ∷ []) h

    -- otherwise 27 is left
    pub totals-last : words_fault c ≡ 0 → wrong_totals t (old_totals c) (new_totals c) ≡ true → fault c t ≡ 27
    unfolding fault words_fault
    totals-last h w =
        refusal-behind (words_refusals c) ((27, wrong_totals t (old_totals c) (new_totals c)) ∷ []) (refusal-none (words_refusals c) refl h)
        ∙ rw w
