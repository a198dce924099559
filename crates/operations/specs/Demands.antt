-- The claims: what the three demands, and document 02's U1, U6, U7, U8 and U10, say of the four operations, over the definitions that
-- their contracts cite. Each is proved in the file of proofs/ that is named with it.
use Rattle.std.specs.Prelude.{ℕ, ◌+◌, ◌-◌, ◌*◌, ◌<◌, ◌≤◌, ◌≡◌, ◌↔◌, Bool, true, false, not, cond, ◌&&◌, ◌||◌, length, get_or, take, drop, ltb, leb}
use mathlib.Core.List.{List, [], ◌∷◌, ◌++◌, map, flatten, Memᴰ}
use Rattle.words.specs.Lists.{all, count, list_from, All, AllBelow}
use Rattle.words.specs.Limits.{outside, alphabet_most, rank_most, table_most, compiled_most, height_most, cells_most}
use Rattle.words.specs.Word.{entry_kind, product_kind, closure_kind, length_kind, anything_kind, has_kind, body_of, symbol_range}
use Rattle.words.specs.Word.{spare_bits_clear, word_of, low_byte, word_range}
use Rattle.words.specs.Alphabet.{entry_rank, is_constant, is_hole, has_holes, may_name, constants_of, no_alphabet, alphabet_refusals}
use Rattle.words.specs.ExpressionWords.{is_expression_word, has_anything, wrong_length}
use Rattle.words.specs.Refusal.{Refusals, refusal, without, First, NoneHolds}
use Rattle.words.specs.ExactlyOne.{ExactlyOne}
use Rattle.words.specs.Tree.{Tree, height}
use Rattle.words.specs.Shape.{height_over}
use Rattle.words.specs.Postfix.{not_one_tree, height_of, span_of, subtree_of, splice, stack_after, children_of, depth_of}
use Rattle.words.specs.Chapter.{symbol_of, tree_fault, too_high, holes_in}
use Rattle.words.specs.Answer.{Answer, refused, accepted}
use Rattle.language.specs.Expression.{Expression, HoleFree, ExpressionOf, SubjectOf}
use Rattle.language.specs.Reading.{expression_of}
use Rattle.language.specs.Membership.{Member, HoleFreeMember}
use Rattle.automaton.specs.Transition.{transitions_words, head_word, length_word}
use Rattle.automaton.specs.Numbering.{Port, full_port, port_of, anything_transitions, own_transitions, compiled}
use Rattle.automaton.specs.Table.{is_length, table_word_count, table_in, no_table}
use Rattle.automaton.specs.StateSet.{StateSet}
use Rattle.operations.specs.Compile.{compiled_table, too_many_states, too_many_words, table_too_long, rule_refusals}
use Rattle.operations.specs.Compile.{compile_refusals, compile_fault, compile_answer, compile_exit}
use Rattle.operations.specs.Marks.{size_of, node_set, ReachedSet, node_sets, stored_set}
use Rattle.operations.specs.Run.{run_refusals, run_fault, run_answer, run_exit, cells_in}
use Rattle.operations.specs.Listing.{list_refusals, list_answer, list_exit, matches_of}
use Rattle.operations.specs.ExchangeCall.{ExchangeCall, exchange_call}
use Rattle.operations.specs.Totals.{Totals, totals_words, totals_of, run_totals}
use Rattle.operations.specs.Exchange.{kept, recomputed, recomputed_in, root_set, used, refusals_of, fault, new_tree, stored_in, outcomes}
use Rattle.operations.specs.Exchange.{exchange_values, old_totals, new_totals}
use Rattle.operations.specs.Exchange.{exchange_answer, exchange_chapter, exchange_marks, exchange_totals}
use Rattle.operations.specs.Recomputation.{outcome_of, set_after, start_in, behind_in, old_number, new_number, recomputes}
use Rattle.operations.specs.History.{Call, Memory, exchanges, NeverRefused, plains}

-- ---- Demand 1 (Demand1): "Every accepted call ends with the one result that the written rules give, inside the memory lent to
-- it. Every refused call returns the first applicable number of document 01 and changes no lent word."

-- of each lent slice that a call may write: as it was, and at exit
abbrev pub Unchanged : List (List ℕ × List ℕ) → Type 0
Unchanged [] = Unit {0}
Unchanged (s ∷ ss) = (s.1 ≡ s.0) × Unchanged ss

abbrev pub SameLength : List (List ℕ × List ℕ) → Type 0
SameLength [] = Unit {0}
SameLength (s ∷ ss) = (length s.1 ≡ length s.0) × SameLength ss

-- a call with these refusals, this answer, the values of an accepted call, and these slices
pub record Judged (rs : Refusals) (answer : Answer) (values : List ℕ) (slices : List (List ℕ × List ℕ)) : Type 0 where
  pub refuses : (n : ℕ) → (answer ≡ refused n) ↔ First n rs
  pub accepts : (answer ≡ accepted values) ↔ NoneHolds rs
  pub unchanged : (n : ℕ) → answer ≡ refused n → Unchanged slices
  pub lengths : SameLength slices

pub record Demand1 : Type 0 where
  pub compile : (alphabet rule slice : List ℕ)
      → Judged (compile_refusals alphabet rule (length slice)) (compile_answer alphabet rule slice)
      (length (compiled_table alphabet rule) ∷ []) ((slice, compile_exit alphabet rule slice) ∷ [])
  -- the record of totals (document 02, U10) is lent as its three words
  pub run : (alphabet table_slice chapter marks : List ℕ) (t : Totals)
      → Judged (run_refusals alphabet (table_in table_slice) chapter (length marks)) (run_answer alphabet (table_in table_slice) chapter marks)
      (length chapter ∷ cells_in (flatten (node_sets alphabet (table_in table_slice) chapter)) ∷ [])
      ((marks, run_exit alphabet (table_in table_slice) chapter marks)
      ∷ (totals_words t, totals_words (run_totals alphabet (table_in table_slice) chapter marks t)) ∷ [])
  pub list : (alphabet table_slice : List ℕ) (elements : ℕ) (marks slice : List ℕ)
      → Judged (list_refusals alphabet (table_in table_slice) elements (length marks) (length slice))
      (list_answer alphabet (table_in table_slice) elements marks slice) (length (matches_of (table_in table_slice) elements marks) ∷ [])
      ((slice, list_exit alphabet (table_in table_slice) elements marks slice) ∷ [])
  pub exchange : (c : ExchangeCall) (t : Totals)
      → Judged (refusals_of c t) (exchange_answer c t) (exchange_values c)
      ((c.chapter, exchange_chapter c t) ∷ (c.marks, exchange_marks c t) ∷ (totals_words t, totals_words (exchange_totals c t)) ∷ [])

-- ---- Demand 2 (Demand2): "A rule that Compile accepts becomes exactly the numbered Thompson tree automaton of the rules.
-- After an accepted Run with that table and its alphabet, an accepted List, given both, the element count and the marks Run
-- left, names an element if and only if its subtree belongs to the rule's language, defined by substitution and iterated
-- closure without automata."

-- the three calls, one after the other: what is lent, and what each accepted call answers
pub record ThreeCalls : Type 0 where
  pub alphabet : List ℕ
  pub rule : List ℕ
  pub table_slice : List ℕ
  pub chapter : List ℕ
  pub marks_slice : List ℕ
  pub list_slice : List ℕ
  -- Compile's word count; Run's element count and cells; List's number of hits
  pub words : ℕ
  pub elements : ℕ
  pub cells : ℕ
  pub hits : ℕ

-- the table in the slice that Compile wrote, which Run and List are lent as it is, with whatever stands behind the table; the marks
-- that Run left, the numbers that List wrote
abbrev pub table_of : ThreeCalls → List ℕ
table_of c = table_in (compile_exit c.alphabet c.rule c.table_slice)

abbrev pub marks_of : ThreeCalls → List ℕ
marks_of c = run_exit c.alphabet (table_of c) c.chapter c.marks_slice

abbrev pub names_of : ThreeCalls → List ℕ
names_of c = take c.hits (list_exit c.alphabet (table_of c) c.elements (marks_of c) c.list_slice)

pub record AllAccepted (c : ThreeCalls) : Type 0 where
  pub compiles : compile_answer c.alphabet c.rule c.table_slice ≡ accepted (c.words ∷ [])
  pub runs : run_answer c.alphabet (table_of c) c.chapter c.marks_slice ≡ accepted (c.elements ∷ c.cells ∷ [])
  pub lists : list_answer c.alphabet (table_of c) c.elements (marks_of c) c.list_slice ≡ accepted (c.hits ∷ [])

pub record Named (c : ThreeCalls) : Type 0 where
  -- "exactly the numbered Thompson tree automaton of the rules"
  pub automaton : table_of c ≡ compiled_table c.alphabet c.rule
  -- the rule is the words of exactly one expression, which is the one that they are read as
  pub expression : ExactlyOne (ExpressionOf c.alphabet c.rule)
  pub read : expression_of c.alphabet c.rule ≡ expression.the
  -- an element's subtree is the words of exactly one tree
  pub subtrees : (i : ℕ) → i < length c.chapter → ExactlyOne (SubjectOf c.alphabet (subtree_of c.alphabet c.chapter i))
  -- every number that List writes is an element's
  pub within : (i : ℕ) → Memᴰ i (names_of c) → i < length c.chapter
  -- "names an element if and only if its subtree belongs to the rule's language", of which document 02's U8 leaves "its hole-free
  -- members"
  pub names : (i : ℕ) (l : i < length c.chapter)
      → Memᴰ i (names_of c) ↔ HoleFreeMember c.alphabet expression.the (subtrees i l).the

abbrev pub Demand2 : Type 0
Demand2 = (c : ThreeCalls) → AllAccepted c → Named c

-- ---- Demand 3 (Demand3): "Take any accepted Run and any list of Exchange calls after it, accepted and refused, at whatever
-- elements and with whatever replacements."

-- "At the start the chapter slice begins with the elements that an accepted Run was given, and the marks slice is as that
-- Run left it"; the count is the one that Run answered, and the record is as Run left it (document 02, U10)
pub record Start (alphabet table chapter : List ℕ) (s : Memory) : Type 0 where
  pub before : List ℕ
  pub totals_before : Totals
  pub cells : ℕ
  pub answer : run_answer alphabet table chapter before ≡ accepted (s.count ∷ cells ∷ [])
  pub marks : s.marks ≡ run_exit alphabet table chapter before
  pub totals : s.totals ≡ run_totals alphabet table chapter before totals_before
  pub begins : take (length chapter) s.chapter ≡ chapter

-- a fresh Run on the plain chapter, on a marks slice of the same length
pub record Fresh (alphabet table plain : List ℕ) (s : Memory) (slice : List ℕ) : Type 0 where
  -- "A fresh Run on it .. is accepted"
  pub cells : ℕ
  pub answer : run_answer alphabet table plain slice ≡ accepted (s.count ∷ cells ∷ [])
  -- "the used marks (count × S words from the first) are those it writes"
  pub marks : take (s.count * size_of table) s.marks ≡ take (s.count * size_of table) (run_exit alphabet table plain slice)
  -- and so is the record, whatever stood in the one that is lent to that Run (document 02, U10)
  pub totals : (t : Totals) → s.totals ≡ run_totals alphabet table plain slice t
  -- "List .. answers and writes what it would with that Run's marks"
  pub answers : (l : List ℕ)
      → list_answer alphabet table s.count s.marks l ≡ list_answer alphabet table s.count (run_exit alphabet table plain slice) l
  pub lists : (l : List ℕ)
      → list_exit alphabet table s.count s.marks l ≡ list_exit alphabet table s.count (run_exit alphabet table plain slice) l

-- the memory and the plain chapter behind the list
pub record Faithful (alphabet table plain : List ℕ) (s : Memory) : Type 0 where
  -- "the last element count is its length and the used elements are its words"
  pub count : s.count ≡ length plain
  pub elements : take s.count s.chapter ≡ plain
  pub fresh : (slice : List ℕ) → length slice ≡ length s.marks → Fresh alphabet table plain s slice

-- "This is one claim about the whole list and not one for each call." Run and each call are lent the same table slice. "In demand 3 each
-- call also gets the record as Run or the call before left it, and so never 27" (document 02, U10).
abbrev pub Demand3 : Type 0
Demand3 =
    (alphabet table_slice chapter : List ℕ) (s : Memory) (calls : List Call) → Start alphabet (table_in table_slice) chapter s
    → Faithful alphabet (table_in table_slice)
    (plains alphabet (table_in table_slice) (length s.chapter) (length s.marks) calls chapter)
    (exchanges alphabet (table_in table_slice) calls s)
    × NeverRefused 27 alphabet (table_in table_slice) calls s

-- ---- Demand 3's second half (Recomputed): "Whatever marks it is lent, true or false, each accepted Exchange works out, by
-- document 01's rule from the parts' marks as they stand, only the new subtree and, unless its root gets the old one's marks,
-- the ancestors upwards to the first whose marks come out unchanged, or to the root; its reported count is exactly the new
-- subtree's elements plus those ancestors, and every other element's marks are carried over."

-- a call that answers these two numbers, with the record t
pub record RecomputesOnly (c : ExchangeCall) (t : Totals) (elements worked_out : ℕ) : Type 0 where
  -- "The answer is the new element count and the number worked out"
  pub new_count : elements ≡ length (new_tree c)
  pub counted : worked_out ≡ recomputed_in (outcomes c)
  -- each node of the new tree has one outcome, and its words at exit are the outcome's
  pub nodes : length (outcomes c) ≡ length (new_tree c)
  pub written : (j : ℕ) → j < length (new_tree c) → stored_set (size_of c.table) (exchange_marks c t) j ≡ set_after c j
  -- the nodes before the replaced subtree keep their stored sets
  pub before : (j : ℕ) → j < start_in c → outcome_of c j ≡ kept (stored_in c j)
  -- "Replacement elements are worked out"
  pub replacement : (k : ℕ) → k < length c.replacement
      → outcome_of c (start_in c + k) ≡ recomputed (get_or (node_sets c.alphabet c.table c.replacement) k [])
  pub root : set_after c (start_in c + (length c.replacement - 1)) ≡ root_set c.alphabet c.table c.replacement
  -- "If the replacement root's marks equal the old element's, no ancestor is worked out; otherwise work ends after the first
  -- ancestor whose marks are unchanged, or at the root": behind the replaced subtree the ancestors up to there are
  -- recomputed, and every other node keeps its stored set
  pub rest : (k : ℕ) → k < behind_in c
      → outcome_of c (new_number c k) ≡ cond (recomputes c k) (recomputed (set_after c (new_number c k))) (kept (stored_in c (old_number c k)))
  -- "each by the rule above from its parts' marks: those just worked out, otherwise those stored"
  pub from_children : (j : ℕ) (r : StateSet) → j < length (new_tree c) → outcome_of c j ≡ recomputed r
      → r ≡ node_set c.table (get_or (new_tree c) j 0) (map (set_after c) (children_of c.alphabet (new_tree c) j))
  -- which is: its states are exactly those that are reached
  pub reached : (j : ℕ) (r : StateSet) → j < length (new_tree c) → outcome_of c j ≡ recomputed r
      → ReachedSet c.table (symbol_of (get_or (new_tree c) j 0)) (map (set_after c) (children_of c.alphabet (new_tree c) j)) r
  -- "which is the replacement's elements plus the ancestors worked out, the unchanged one included"
  pub exact : worked_out ≡ length c.replacement + count (recomputes c) (list_from (λ k. k) 0 (behind_in c))
  -- "it is at most the replacement's elements plus the depth of the place"
  pub most : worked_out ≤ length c.replacement + depth_of c.alphabet (used c) c.element

abbrev pub Demand3Recomputation : Type 0
Demand3Recomputation =
    (c : ExchangeCall) (t : Totals) (elements worked_out : ℕ) → exchange_answer c t ≡ accepted (elements ∷ worked_out ∷ [])
    → RecomputesOnly c t elements worked_out

-- ---- Tables end to end (document 02, U1; TableSlices): a table carries its own length.

-- document 01's words of a rule's table: the head and the moves
abbrev pub plain_table : List ℕ → List ℕ → List ℕ
plain_table alphabet rule = head_word (compiled alphabet rule) ∷ transitions_words (compiled alphabet rule).transitions

-- what each of the three answers and leaves is the same with either table
pub record CalledAlike (alphabet table table' : List ℕ) : Type 0 where
  pub run : (chapter marks : List ℕ) (t : Totals)
      → (run_answer alphabet table chapter marks ≡ run_answer alphabet table' chapter marks)
      × (run_exit alphabet table chapter marks ≡ run_exit alphabet table' chapter marks)
      × (run_totals alphabet table chapter marks t ≡ run_totals alphabet table' chapter marks t)
  pub list : (elements : ℕ) (marks slice : List ℕ)
      → (list_answer alphabet table elements marks slice ≡ list_answer alphabet table' elements marks slice)
      × (list_exit alphabet table elements marks slice ≡ list_exit alphabet table' elements marks slice)
  pub exchange : (chapter marks : List ℕ) (count element : ℕ) (replacement : List ℕ) (t : Totals)
      → let c = exchange_call alphabet table chapter marks count element replacement in
      let c' = exchange_call alphabet table' chapter marks count element replacement in
      (exchange_answer c t ≡ exchange_answer c' t)
      × (exchange_chapter c t ≡ exchange_chapter c' t)
      × (exchange_marks c t ≡ exchange_marks c' t)
      × (exchange_totals c t ≡ exchange_totals c' t)

pub record TableSlices : Type 0 where
  -- "Compile is compared with document 01's words plus this one", which becomes the second word
  pub words : (alphabet rule : List ℕ)
      → compiled_table alphabet rule
      ≡ take 1 (plain_table alphabet rule) ++ (length_word (length (plain_table alphabet rule) + 1) ∷ drop 1 (plain_table alphabet rule))
  -- "the largest compiled table grows to 1,148 words": at most so many, which "now holds for rules without" anything (U7); law
  -- `limits-attained` has a rule with as many
  pub most : (alphabet rule : List ℕ) → refusal (rule_refusals alphabet rule) ≡ 0 → has_anything rule ≡ false
      → length (compiled_table alphabet rule) ≤ compiled_most
  -- the slice that Compile wrote may be lent as it is: the table in it is the rule's, and 8 does not apply
  pub compiles : (alphabet rule slice : List ℕ) (count : ℕ) → compile_answer alphabet rule slice ≡ accepted (count ∷ [])
      → (table_in (compile_exit alphabet rule slice) ≡ compiled_table alphabet rule)
      × (no_table alphabet (table_in (compile_exit alphabet rule slice)) ≡ false)
  -- "they answer 8 where the word is missing, or the count is under 2, over 2,048 or over the slice"
  pub missing : (alphabet slice : List ℕ) → is_length (length slice) (get_or slice 1 0) ≡ false → no_table alphabet (table_in slice) ≡ true
  -- the length word is the second word and no other
  pub once : (alphabet slice : List ℕ) (i : ℕ) → 2 ≤ i → i < table_word_count slice → has_kind length_kind (get_or slice i 0) ≡ true
      → no_table alphabet (table_in slice) ≡ true
  -- they "use that many words and ignore what follows": the same call with other words behind the table
  pub follows : (alphabet slice behind : List ℕ) → 0 < table_word_count slice
      → CalledAlike alphabet (table_in (table_in slice ++ behind)) (table_in slice)

-- ---- Heights (document 02, U6; Heights): "Finding where a subtree begins .. shall tell its height too, a lone element having 1".

pub record Heights : Type 0 where
  -- a span's height is the height of exactly the tree whose words it spans
  pub span : (alphabet chapter : List ℕ) (i : ℕ) (t : Tree) → length alphabet ≤ alphabet_most
      → SubjectOf alphabet (subtree_of alphabet chapter i) t → (span_of alphabet chapter i).height ≡ height t
  -- the root's span is the whole chapter
  pub root : (alphabet chapter : List ℕ) (i : ℕ) → tree_fault alphabet chapter ≡ 0 → i + 1 ≡ length chapter
      → span_of alphabet chapter i ≡ record { start = 0; height = height_of alphabet chapter }
  -- with a subtree put in place: the words before, the replacement and the words behind are read one after the other with one stack
  pub result : (alphabet chapter : List ℕ) (i : ℕ) (replacement : List ℕ)
      → height_of alphabet (splice alphabet chapter i replacement)
      ≡ get_or
      (stack_after alphabet height_over (drop (i + 1) chapter)
      (stack_after alphabet height_over replacement
      (stack_after alphabet height_over (take (span_of alphabet chapter i).start chapter) [])))
      0 0
  -- 24's condition: the tree whose words the chapter has is over 512 high
  pub judged : (alphabet chapter : List ℕ) (t : Tree) → length alphabet ≤ alphabet_most → SubjectOf alphabet chapter t
      → too_high alphabet chapter ≡ ltb height_most (height t)
  -- "chapters of height 512 are marked, 513 refused, in Exchange both the old and the resulting chapter": where a call is accepted
  pub run : (alphabet table chapter marks : List ℕ) (elements cells : ℕ)
      → run_answer alphabet table chapter marks ≡ accepted (elements ∷ cells ∷ []) → height_of alphabet chapter ≤ height_most
  pub exchange : (c : ExchangeCall) (t : Totals) (elements worked_out : ℕ) → exchange_answer c t ≡ accepted (elements ∷ worked_out ∷ [])
      → (height_of c.alphabet (used c) ≤ height_most) × (height_of c.alphabet (new_tree c) ≤ height_most)

-- ---- Holes (document 02, U8; Holes): "Bit 8 of a constant's alphabet word now marks a hole".

-- the tree whose words these are is hole-free; accepted words are those of exactly one tree
abbrev pub HoleFreeWords : List ℕ → List ℕ → Type 0
HoleFreeWords alphabet words = (t : Tree) → SubjectOf alphabet words t → HoleFree alphabet t

-- document 01's alphabet entries, in which no bit above the rank is named, and its 1
abbrev pub is_plain_entry : ℕ → Bool
is_plain_entry w = has_kind entry_kind w && ltb (body_of w) symbol_range && leb (entry_rank w) rank_most

abbrev pub no_plain_alphabet : List ℕ → Bool
no_plain_alphabet alphabet = outside alphabet_most (length alphabet) || not (all is_plain_entry alphabet)

-- document 01's rule words, beside U7's: the c of a product or a closure is any constant; and the list for Compile
abbrev pub is_plain_word : List ℕ → ℕ → Bool
is_plain_word alphabet w =
    cond (has_kind product_kind w || has_kind closure_kind w) (spare_bits_clear w && is_constant alphabet (low_byte w))
    (is_expression_word alphabet w)

abbrev pub plain_compile_refusals : List ℕ → List ℕ → ℕ → Refusals
plain_compile_refusals alphabet rule table_length =
    alphabet_refusals alphabet
    ++ ((3, wrong_length rule) ∷ (4, not (all (is_plain_word alphabet) rule)) ∷ (5, not_one_tree alphabet rule)
    ∷ (6, too_many_states alphabet rule) ∷ (25, too_many_words alphabet rule) ∷ (7, table_too_long alphabet rule table_length) ∷ [])

pub record Holes : Type 0 where
  -- "with rank above 0 it is refused as 1": otherwise a hole is a constant
  pub constant : (alphabet : List ℕ) (s : ℕ) → no_alphabet alphabet ≡ false → is_hole alphabet s ≡ true → is_constant alphabet s ≡ true
  -- "Once an alphabet has a hole, only holes may be named in a product or closure"
  pub named : (alphabet : List ℕ) (c : ℕ) → no_alphabet alphabet ≡ false → has_holes alphabet ≡ true → may_name alphabet c ≡ is_hole alphabet c
  -- 26's condition: the tree whose words the chapter has is not hole-free
  pub judged : (alphabet chapter : List ℕ) (t : Tree) → length alphabet ≤ alphabet_most → SubjectOf alphabet chapter t
      → (holes_in alphabet chapter ≡ false) ↔ HoleFree alphabet t
  -- "Chapters and replacements must then hold none": where a call is accepted
  pub run : (alphabet table chapter marks : List ℕ) (elements cells : ℕ)
      → run_answer alphabet table chapter marks ≡ accepted (elements ∷ cells ∷ []) → HoleFreeWords alphabet chapter
  pub exchange : (c : ExchangeCall) (t : Totals) (elements worked_out : ℕ) → exchange_answer c t ≡ accepted (elements ∷ worked_out ∷ [])
      → HoleFreeWords c.alphabet (used c) × HoleFreeWords c.alphabet c.replacement × HoleFreeWords c.alphabet (new_tree c)
  -- "Without holes all reads as before": document 01's alphabets are those without a hole that 1 lets pass
  pub alphabets : (alphabet : List ℕ) → no_plain_alphabet alphabet ≡ no_alphabet alphabet || has_holes alphabet
  -- over one of them Compile refuses what it refused, any constant may be named, every tree is hole-free, and of a rule's language no
  -- member is left out
  pub rules : (alphabet rule : List ℕ) (table_length : ℕ) → has_holes alphabet ≡ false
      → compile_fault alphabet rule table_length ≡ refusal (plain_compile_refusals alphabet rule table_length)
  pub constants : (alphabet : List ℕ) (c : ℕ) → has_holes alphabet ≡ false → may_name alphabet c ≡ is_constant alphabet c
  pub trees : (alphabet : List ℕ) (t : Tree) → has_holes alphabet ≡ false → HoleFree alphabet t
  pub members : (alphabet : List ℕ) (E : Expression) (t : Tree) → has_holes alphabet ≡ false
      → HoleFreeMember alphabet E t ↔ Member alphabet E t
  -- and 26, which the lists of Run and Exchange have beside document 01's numbers and U6's, refuses nothing: it can be left out
  pub runs : (alphabet table chapter : List ℕ) (marks_length : ℕ) → has_holes alphabet ≡ false
      → run_fault alphabet table chapter marks_length ≡ refusal (without 26 (run_refusals alphabet table chapter marks_length))
  pub exchanges : (c : ExchangeCall) (t : Totals) → has_holes c.alphabet ≡ false
      → fault c t ≡ refusal (without 26 (refusals_of c t))

-- ---- Anything (document 02, U7; Anything): "a rule word that holds for every tree over the alphabet". Its language is a clause of
-- `Member`, its moves are those of `anything_transitions`; demand 2 speaks of rules with it and without.

pub record Anything : Type 0 where
  -- the rule of this word alone: List names every element
  pub everywhere : (c : ThreeCalls) → AllAccepted c → c.rule ≡ word_of anything_kind 0 ∷ [] → (i : ℕ) → i < length c.chapter
      → Memᴰ i (names_of c)
  -- "It gets an exit and an entry for each constant"
  pub port : (alphabet : List ℕ) (n : ℕ) → port_of alphabet n (word_of anything_kind 0) ≡ full_port (constants_of alphabet) n
  -- "Its moves are, for each symbol of rank above 0 in order, a symbol move from its exit in every part to its exit, then each entry to
  -- its exit"
  pub moves : (alphabet : List ℕ) (E : Port) → own_transitions alphabet (word_of anything_kind 0) E [] ≡ anything_transitions alphabet E
  -- "25 table over 2,048 words": an accepted Compile answers at most as many
  pub most : (alphabet rule slice : List ℕ) (count : ℕ) → compile_answer alphabet rule slice ≡ accepted (count ∷ []) → count ≤ table_most
  -- a rule without it is judged as before: 25 refuses none, and can be left out
  pub without-it : (alphabet rule : List ℕ) (table_length : ℕ) → has_anything rule ≡ false
      → compile_fault alphabet rule table_length ≡ refusal (without 25 (compile_refusals alphabet rule table_length))

-- ---- Totals on hand (document 02, U10; TotalsOnHand): "the chapter's record of three totals is lent to Run, which sets it, and changed by
-- each exchange". Demand 3 speaks of the record too.

-- the record is right: it has the totals of the used elements and their stored marks
abbrev pub RightTotals : List ℕ → ℕ → List ℕ → Totals → Type 0
RightTotals table elements marks t = t ≡ totals_of table (list_from (stored_set (size_of table) marks) 0 elements)

-- a total before, that of the used elements before and behind the exchange, and the total behind it
pub record Difference (t old new after : ℕ) : Type 0 where
  pub moves : after + old ≡ t + new
  pub most : after ≤ cells_most

pub record TotalsOnHand : Type 0 where
  -- an accepted Run sets it: the element count and the cells are those that it answers, and it is right
  pub run : (alphabet table chapter marks : List ℕ) (t : Totals) (elements cells : ℕ)
      → run_answer alphabet table chapter marks ≡ accepted (elements ∷ cells ∷ [])
      → ((run_totals alphabet table chapter marks t).elements ≡ elements) × ((run_totals alphabet table chapter marks t).cells ≡ cells)
      × RightTotals table elements (run_exit alphabet table chapter marks) (run_totals alphabet table chapter marks t)
  -- the hits of a right record are as many as List answers
  pub list : (alphabet table : List ℕ) (elements : ℕ) (marks slice : List ℕ) (t : Totals) (found : ℕ)
      → list_answer alphabet table elements marks slice ≡ accepted (found ∷ []) → RightTotals table elements marks t → t.hits ≡ found
  -- an accepted Exchange changes "every total by the difference that the exchange makes in the used elements and their stored marks",
  -- whatever stands in the record
  pub exchange : (c : ExchangeCall) (t : Totals) (elements worked_out : ℕ) → exchange_answer c t ≡ accepted (elements ∷ worked_out ∷ [])
      → Difference t.elements (old_totals c).elements (new_totals c).elements (exchange_totals c t).elements
      × Difference t.hits (old_totals c).hits (new_totals c).hits (exchange_totals c t).hits
      × Difference t.cells (old_totals c).cells (new_totals c).cells (exchange_totals c t).cells
  -- and these are the totals of the used elements before the call and behind it
  pub used : (c : ExchangeCall) (t : Totals) (elements worked_out : ℕ) → exchange_answer c t ≡ accepted (elements ∷ worked_out ∷ [])
      → RightTotals c.table c.count c.marks (old_totals c) × RightTotals c.table elements (exchange_marks c t) (new_totals c)
  -- "If it was right before, it is right after", whether the stored marks are true or false
  pub right : (c : ExchangeCall) (t : Totals) (elements worked_out : ℕ) → exchange_answer c t ≡ accepted (elements ∷ worked_out ∷ [])
      → RightTotals c.table c.count c.marks t → RightTotals c.table elements (exchange_marks c t) (exchange_totals c t)
  -- and then never 27; the stored marks are words
  pub never : (c : ExchangeCall) (t : Totals) → All (AllBelow word_range) (list_from (stored_in c) 0 c.count)
      → RightTotals c.table c.count c.marks t → exchange_answer c t ≡ refused 27 → ⊥
