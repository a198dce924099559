-- The marked examples of document 01, with the source's own example and rows beside them that a wrong Exchange would fail:
-- one table of rows, one theorem.
use Prim.Native.Nat.{ℕ, ◌+◌, ◌-◌, ◌<◌}
use mathlib.Core.Path.{◌≡◌, refl, sym}
use mathlib.Core.Logic.{◌↔◌}
use mathlib.Core.Bool.{true, false}
use mathlib.Core.List.{List, [], ◌∷◌, ◌++◌, flatten, flat_map, map, Memᴰ}
use lib.ListN.{length, get_or, replicate, set}
use lib.Dec.{ltb}
use lib.Count.{ones, ones_in}
use Rattle.words.specs.Word.{kind_at, spare_bits_clear, is_of, word_range}
use Rattle.words.specs.Alphabet.{marks_hole, is_entry, rank_of, is_constant, is_hole, has_holes, may_name, constants_from, constants_of}
use Rattle.words.specs.Alphabet.{no_alphabet, wrong_constants}
use Rattle.words.specs.Lists.{all, highest}
use Rattle.words.specs.Shape.{trees_by, value_on_by, values_by, stack_after_by, height_over, height_of_by, start_from_by, is_ancestor_by, splice_by}
use Rattle.words.specs.Shape.{stack_given_by}
use Rattle.words.specs.Postfix.{arity, not_one_tree, span_of}
use Rattle.words.specs.ExpressionWords.{is_expression_word, wrong_length, not_expression_words}
use Rattle.words.specs.Chapter.{symbol_of, is_node, not_nodes, too_high, holes_in}
use Rattle.words.specs.Tree.{Tree}
use Rattle.words.specs.Answer.{Answer, refused, accepted, answer_of, exit_of, value_or}
use Rattle.language.specs.Expression.{Expression, empty, union, product, closure}
use Rattle.language.specs.Membership.{constant, Member}
use Rattle.language.proofs.MembershipExamples.{alphabet, con, fᵉ, f as fᵗ, closure-empty, by-empty, by-empty-none}
use Rattle.language.proofs.MembershipExamples.{separately, put-once, not-twice, closure-joined}
use Rattle.automaton.specs.Transition.{transitions_at, automaton_of, head_word}
use Rattle.automaton.specs.Numbering.{has_entries, states_of, port_of, own_transitions, ports_from, states_after, transitions_from, compiled}
use Rattle.automaton.specs.Table.{table_word_count, is_head, is_table_word, sources_left, are_transitions, is_table, no_table}
use Rattle.automaton.specs.StateSet.{size_for, contains, insert, all_contained, symbol_pass, epsilon_pass, epsilon_closure, state_set}
use Rattle.automaton.proofs.CompiledExample.{rule}
use Rattle.operations.specs.Compile.{compiled_table, compile_fault, too_many_states, too_many_words, table_too_long}
use Rattle.operations.specs.Marks.{size_of, final_of, node_set, node_sets, stored_set, same_words, refit}
use Rattle.operations.specs.Run.{wrong_count, marks_too_short, run_fault, run_marks, cells_in, run_answer, run_exit}
use Rattle.operations.specs.Listing.{matches_in, matches_of}
use Rattle.operations.specs.Demands.{ThreeCalls, AllAccepted, names_of}
use Rattle.operations.specs.ExchangeCall.{ExchangeCall, exchange_call}
use Rattle.operations.specs.Exchange.{wrong_used_count, no_element, no_replacement, result_too_long, recomputed_in}
use Rattle.operations.specs.Exchange.{propagate, root_set, outcomes_behind, outcomes_after, words_fault, new_tree, outcomes}
use Rattle.operations.specs.Exchange.{exchange_values, new_chapter, new_marks, old_totals, exchange_answer, exchange_chapter, exchange_marks}
use Rattle.operations.proofs.Demand2.{demand2, demand2-without}
use Rattle.operations.proofs.TotalsLaws.{right-fault, words-stored}

-- nodes
abbrev a : ℕ
a = 0x7000_0000

abbrev b : ℕ
b = 0x7000_0001

abbrev c : ℕ
c = 0x7000_0002

abbrev d : ℕ
d = 0x7000_0003

abbrev f : ℕ
f = 0x7000_0004

abbrev g : ℕ
g = 0x7000_0005

abbrev h : ℕ
h = 0x7000_0006

-- "Chapter a b f d g h f."
abbrev pub chapter : List ℕ
chapter = a ∷ b ∷ f ∷ d ∷ g ∷ h ∷ f ∷ []

-- the marks of its seven nodes with the rule's table, one word each, before three words that are not in use
abbrev marks : List ℕ
marks = 34636297 ∷ 69272594 ∷ 25966788 ∷ 293877952 ∷ 25983424 ∷ 0 ∷ 0 ∷ 7 ∷ 7 ∷ 7 ∷ []

-- what Compile, Run and List make of an alphabet, a rule and a chapter
pub record ListingRow (al e ch : List ℕ) (states words head : ℕ) (lines : List (ℕ × ℕ × ℕ)) : Type 0 where
  pub compiles : compile_fault al e words ≡ 0
  pub state_count : (compiled al e).states ≡ states
  pub word_count : length (compiled_table al e) ≡ words
  pub head_is : head_word (compiled al e) ≡ head
  pub runs : run_fault al (compiled_table al e) ch (length ch) ≡ 0
  -- each hit with its symbol and its subtree's element count
  pub hits :
      map (λ i. (i, symbol_of (get_or ch i 0), i + 1 - (span_of al ch i).start))
      (matches_of (compiled_table al e) (length ch) (run_marks al (compiled_table al e) ch (replicate (length ch) 0)))
      ≡ lines

abbrev pub with-table : List ℕ → List ℕ → List ℕ → ℕ → ℕ → List ℕ → ExchangeCall
with-table rl slice stored n i xs = exchange_call alphabet (compiled_table alphabet rl) slice stored n i xs

-- what an Exchange answers and leaves with the table of a rule, where these marks are stored and the record of totals is right; and what
-- List then names
pub record ExchangeRow (rl slice stored : List ℕ) (n i : ℕ) (xs : List ℕ) (answer : Answer) (left : List ℕ) (left_marks : List ℕ)
    (hits : List ℕ) : Type 0 where
  pub answers : exchange_answer (with-table rl slice stored n i xs) (old_totals (with-table rl slice stored n i xs)) ≡ answer
  pub chapter_left : exchange_chapter (with-table rl slice stored n i xs) (old_totals (with-table rl slice stored n i xs)) ≡ left
  pub marks_left : exchange_marks (with-table rl slice stored n i xs) (old_totals (with-table rl slice stored n i xs)) ≡ left_marks
  pub lists : matches_of (compiled_table alphabet rl) (value_or answer 0 n) left_marks ≡ hits

-- every call of Compile, Run and List with the alphabet and this rule, whatever the chapter: List names exactly the nodes
-- whose subtrees have the property
abbrev pub Names : List ℕ → (Tree → Type 0) → Type 0
Names e P =
    (q : ThreeCalls) → q.alphabet ≡ alphabet → q.rule ≡ e → (h : AllAccepted q)
    → (i : ℕ) (l : i < length q.chapter) → Memᴰ i (names_of q) ↔ P ((demand2 q h).subtrees i l).the

-- a row of the table
pub data Row : Type 0 where
  member : Expression → Tree → Row
  no_member : Expression → Tree → Row
  no_members : Expression → Row
  no_hits : (e : List ℕ) → Row
  hits_at : (e : List ℕ) (c : ℕ) → Row
  running : (al e ch : List ℕ) (answer : Answer) → Row
  listing : (al e ch : List ℕ) (states words head : ℕ) (lines : List (ℕ × ℕ × ℕ)) → Row
  marking : (al e ch slice left : List ℕ) → Row
  exchanging : (rl slice stored : List ℕ) (n i : ℕ) (xs : List ℕ) (answer : Answer) (left left_marks hits : List ℕ) → Row

abbrev pub Holds : Row → Type 0
Holds (member E t) = Member alphabet E t
Holds (no_member E t) = Member alphabet E t → ⊥
Holds (no_members E) = (t : Tree) → Member alphabet E t → ⊥
Holds (no_hits e) = Names e (λ t. ⊥)
Holds (hits_at e c) = Names e (λ t. t ≡ constant c)
Holds (listing al e ch states words head lines) = ListingRow al e ch states words head lines
Holds (running al e ch answer) = run_answer al (compiled_table al e) ch (replicate (length ch) 0) ≡ answer
Holds (marking al e ch slice left) = run_exit al (compiled_table al e) ch slice ≡ left
Holds (exchanging rl slice stored n i xs answer left left_marks hits) = ExchangeRow rl slice stored n i xs answer left left_marks hits

abbrev pub AllHold : List Row → Type 0
AllHold [] = Unit {0}
AllHold (r ∷ rs) = Holds r × AllHold rs

-- an exchange in the source's chapter, whose slice has three words more
abbrev slice : List ℕ
slice = chapter ++ (1 ∷ 2 ∷ 3 ∷ [])

abbrev in_source : List ℕ → ℕ → List ℕ → Answer → List ℕ → List ℕ → List ℕ → Row
in_source stored i xs answer left left_marks hits = exchanging rule slice stored 7 i xs answer left left_marks hits

abbrev pub rows : List Row
rows =
    -- the source's own example: "29 states, 36 table words, head 0x80007418" and the program's lines; with U1 it "takes 37"
    listing alphabet rule chapter 29 37 0x8000_7418 ((2, 4, 3) ∷ (3, 3, 1) ∷ (4, 5, 2) ∷ [])
    -- the marks that Run leaves, which the exchanges below find
    ∷ marking alphabet rule chapter (0 ∷ 0 ∷ 0 ∷ 0 ∷ 0 ∷ 0 ∷ 0 ∷ 7 ∷ 7 ∷ 7 ∷ []) marks
    -- "Rule d alone, chapter d: one hit, one cell."
    ∷ listing alphabet (0x2000_0003 ∷ []) (d ∷ []) 1 3 0x8000_0400 ((0, 3, 1) ∷ [])
    ∷ running alphabet (0x2000_0003 ∷ []) (d ∷ []) (accepted (1 ∷ 1 ∷ []))
    -- "Exchange element 4 for d: 6 elements, 2 worked out, hits 2 and 3."
    ∷ in_source marks 4 (d ∷ []) (accepted (6 ∷ 2 ∷ []))
    (a ∷ b ∷ f ∷ d ∷ h ∷ f ∷ 0 ∷ 1 ∷ 2 ∷ 3 ∷ [])
    (34636297 ∷ 69272594 ∷ 25966788 ∷ 293877952 ∷ 0 ∷ 0 ∷ 0 ∷ 7 ∷ 7 ∷ 7 ∷ [])
    (2 ∷ 3 ∷ [])
    -- "Instead for a b f g: 9 elements, 4 worked out, hits 2, 5, 6."
    ∷ in_source marks 4 (a ∷ b ∷ f ∷ g ∷ []) (accepted (9 ∷ 4 ∷ []))
    (a ∷ b ∷ f ∷ a ∷ b ∷ f ∷ g ∷ h ∷ f ∷ 3 ∷ [])
    (34636297 ∷ 69272594 ∷ 25966788 ∷ 34636297 ∷ 69272594 ∷ 25966788 ∷ 25983424 ∷ 0 ∷ 0 ∷ 7 ∷ [])
    (2 ∷ 5 ∷ 6 ∷ [])
    -- "Empty rule: no hit anywhere. Its closure over c: hits at c only."
    ∷ no_hits (0x3000_0000 ∷ [])
    ∷ listing alphabet (0x3000_0000 ∷ []) (d ∷ []) 1 2 0x8000_0400 []
    ∷ hits_at (0x3000_0000 ∷ 0x6000_0002 ∷ []) 2
    ∷ listing alphabet (0x3000_0000 ∷ 0x6000_0002 ∷ []) (c ∷ []) 6 8 0x8000_1801 ((0, 2, 1) ∷ [])
    ∷ running alphabet (0x3000_0000 ∷ 0x6000_0002 ∷ []) (c ∷ []) (accepted (1 ∷ 2 ∷ []))
    -- "f(a,b) by the empty rule over c keeps f(a,b); f(a,c) by it has no member."
    ∷ member (product 2 (fᵉ (con 0) (con 1)) empty) (fᵗ (constant 0) (constant 1))
    ∷ no_members (product 2 (fᵉ (con 0) (con 2)) empty)
    -- "f(c,c) by a + b over c has f(a,b)."
    ∷ member (product 2 (fᵉ (con 2) (con 2)) (union (con 0) (con 1))) (fᵗ (constant 0) (constant 1))
    -- "c by f(c,a) over c has f(c,a), and not f(f(c,a),a)."
    ∷ member (product 2 (con 2) (fᵉ (con 2) (con 0))) (fᵗ (constant 2) (constant 0))
    ∷ no_member (product 2 (con 2) (fᵉ (con 2) (con 0))) (fᵗ (fᵗ (constant 2) (constant 0)) (constant 0))
    -- "Closure over c of f(c,c) + a has f(c, f(c,c))."
    ∷ member (closure 2 (union (fᵉ (con 2) (con 2)) (con 0))) (fᵗ (constant 2) (fᵗ (constant 2) (constant 2)))
    -- the same for the same: the root's marks are unchanged, no ancestor is worked out
    ∷ in_source marks 3 (d ∷ []) (accepted (7 ∷ 1 ∷ [])) slice marks (2 ∷ 3 ∷ 4 ∷ [])
    -- a false mark at the element itself: one ancestor is worked out, and comes out unchanged
    ∷ in_source (set marks 3 0) 3 (d ∷ []) (accepted (7 ∷ 2 ∷ [])) slice marks (2 ∷ 3 ∷ 4 ∷ [])
    -- true marks, rule d g h and chapter d g h: at g the hit is the same and the marks are others, so work continues to h
    ∷ exchanging (0x2000_0003 ∷ 0x2000_0005 ∷ 0x2000_0006 ∷ []) (d ∷ g ∷ h ∷ []) (1057 ∷ 2 ∷ 64 ∷ []) 3 0 (a ∷ []) (accepted (3 ∷ 3 ∷ []))
    (a ∷ g ∷ h ∷ [])
    (132 ∷ 0 ∷ 0 ∷ [])
    []
    ∷ marking alphabet (0x2000_0003 ∷ 0x2000_0005 ∷ 0x2000_0006 ∷ []) (d ∷ g ∷ h ∷ []) (0 ∷ 0 ∷ 0 ∷ []) (1057 ∷ 2 ∷ 64 ∷ [])
    -- an ancestor with the same hit and other marks, a bit beyond the last state: work continues to the next
    ∷ in_source (set (set marks 3 0) 4 2173467072) 3 (d ∷ []) (accepted (7 ∷ 3 ∷ [])) slice marks (2 ∷ 3 ∷ 4 ∷ [])
    -- false marks of a node that is no ancestor count as they stand, and stay
    ∷ in_source (set marks 2 0) 3 (a ∷ []) (accepted (7 ∷ 3 ∷ []))
    (a ∷ b ∷ f ∷ a ∷ g ∷ h ∷ f ∷ 1 ∷ 2 ∷ 3 ∷ [])
    (34636297 ∷ 69272594 ∷ 0 ∷ 34636297 ∷ 0 ∷ 0 ∷ 0 ∷ 7 ∷ 7 ∷ 7 ∷ [])
    []
    -- a false mark behind the element, at one that is no ancestor, stays
    ∷ in_source (set marks 3 0) 0 (b ∷ []) (accepted (7 ∷ 3 ∷ []))
    (b ∷ b ∷ f ∷ d ∷ g ∷ h ∷ f ∷ 1 ∷ 2 ∷ 3 ∷ [])
    (69272594 ∷ 69272594 ∷ 0 ∷ 0 ∷ 25983424 ∷ 0 ∷ 0 ∷ 7 ∷ 7 ∷ 7 ∷ [])
    (4 ∷ [])
    -- false marks above the ancestor that comes out unchanged stay
    ∷ in_source (set marks 6 5) 4 (d ∷ []) (accepted (6 ∷ 2 ∷ []))
    (a ∷ b ∷ f ∷ d ∷ h ∷ f ∷ 0 ∷ 1 ∷ 2 ∷ 3 ∷ [])
    (34636297 ∷ 69272594 ∷ 25966788 ∷ 293877952 ∷ 0 ∷ 5 ∷ 0 ∷ 7 ∷ 7 ∷ 7 ∷ [])
    (2 ∷ 3 ∷ [])
    -- 15 comes before 16
    ∷ in_source marks 3 (d ∷ d ∷ d ∷ d ∷ d ∷ []) (refused 15) slice marks (2 ∷ 3 ∷ 4 ∷ [])
    ∷ in_source marks 3 (d ∷ g ∷ g ∷ g ∷ g ∷ []) (refused 16) slice marks (2 ∷ 3 ∷ 4 ∷ [])
    ∷ []

-- the source's alphabet has no hole, and c may be named
no-hole : has_holes alphabet ≡ false
unfolding marks_hole has_holes
no-hole = refl

is_c : may_name alphabet 2 ≡ true
unfolding rank_of is_constant marks_hole is_hole has_holes may_name
is_c = refl

-- the empty rule, and its closure over c, are the words of these expressions
names-empty : Names (0x3000_0000 ∷ []) (λ t. ⊥)
names-empty q ea ee h i l = demand2-without q h empty (record { over = tt; words = sym ee }) (rw ea no-hole) i l

names-closure : Names (0x3000_0000 ∷ 0x6000_0002 ∷ []) (λ t. t ≡ constant 2)
names-closure q ea ee h i l =
    let m = demand2-without q h (closure 2 empty) (record { over = (rw ea is_c, tt); words = sym ee }) (rw ea no-hole) i l in
    let k = closure-empty ((demand2 q h).subtrees i l).the in
    (λ x. k.0 (m.0 x), λ x. m.1 (k.1 x))

-- with a right record the words of a call decide
right-row : {rl slice stored : List ℕ} {n i : ℕ} {xs : List ℕ} {answer : Answer} {left left_marks hits : List ℕ}
    → all (λ w. ltb w word_range) stored ≡ true
    → answer_of (words_fault (with-table rl slice stored n i xs)) (exchange_values (with-table rl slice stored n i xs)) ≡ answer
    → exit_of (words_fault (with-table rl slice stored n i xs)) (new_chapter (with-table rl slice stored n i xs)) slice ≡ left
    → exit_of (words_fault (with-table rl slice stored n i xs)) (new_marks (with-table rl slice stored n i xs)) stored ≡ left_marks
    → matches_of (compiled_table alphabet rl) (value_or answer 0 n) left_marks ≡ hits
    → ExchangeRow rl slice stored n i xs answer left left_marks hits
unfolding exchange_answer exchange_chapter exchange_marks
right-row {rl} {slice} {stored} {n} {i} {xs} small a b c d =
    let call = with-table rl slice stored n i xs in
    let decide = right-fault call (words-stored call small) (old_totals call) refl in
    record { answers = rw decide a; chapter_left = rw decide b; marks_left = rw decide c; lists = d }

-- the count of ones is computed for a small number alone
one_cell : accepted (1 ∷ (ones 1 + 0) ∷ []) ≡ accepted (1 ∷ 1 ∷ [])
unfolding ones ones_in
one_cell = refl

two_cells : accepted (1 ∷ (ones 18 + 0) ∷ []) ≡ accepted (1 ∷ 2 ∷ [])
unfolding ones ones_in
two_cells = refl

pub examples : AllHold rows
unfolding kind_at spare_bits_clear is_of marks_hole is_entry rank_of is_constant is_hole has_holes may_name constants_from constants_of no_alphabet
    wrong_constants arity trees_by not_one_tree is_expression_word wrong_length not_expression_words has_entries states_of port_of own_transitions
    ports_from states_after
    transitions_from compiled
    too_many_states too_many_words table_too_long flat_map flatten is_node not_nodes table_word_count is_head is_table_word sources_left are_transitions
    is_table no_table wrong_count marks_too_short transitions_at
    automaton_of size_for contains insert all_contained symbol_pass epsilon_pass epsilon_closure state_set size_of final_of node_set node_sets values_by
    value_on_by run_marks cells_in run_answer run_exit stored_set start_from_by
    matches_in matches_of splice_by is_ancestor_by stack_after_by stack_given_by same_words refit wrong_used_count no_element no_replacement result_too_long
    recomputed_in propagate root_set highest height_over height_of_by too_high holes_in
    outcomes_behind outcomes_after words_fault new_tree outcomes new_chapter new_marks
examples = (
  record { compiles = refl; state_count = refl; word_count = refl; head_is = refl; runs = refl; hits = refl },
  (
    refl,
    (
      record { compiles = refl; state_count = refl; word_count = refl; head_is = refl; runs = refl; hits = refl },
      (
        one_cell,
        (
          right-row refl refl refl refl refl,
          (
            right-row refl refl refl refl refl,
            (
              names-empty,
              (
                record { compiles = refl; state_count = refl; word_count = refl; head_is = refl; runs = refl; hits = refl },
                (
                  names-closure,
                  (
                    record { compiles = refl; state_count = refl; word_count = refl; head_is = refl; runs = refl; hits = refl },
                    (
                      two_cells,
                      (
                        by-empty,
                        (
                          by-empty-none,
                          (
                            separately,
                            (
                              put-once,
                              (
                                not-twice,
                                (
                                  closure-joined,
                                  (
                                    right-row refl refl refl refl refl,
                                    (
                                      right-row refl refl refl refl refl,
                                      (
                                        right-row refl refl refl refl refl,
                                        (
                                          refl,
                                          (
                                            right-row refl refl refl refl refl,
                                            (
                                              right-row refl refl refl refl refl,
                                              (
                                                right-row refl refl refl refl refl,
                                                (
                                                  right-row refl refl refl refl refl,
                                                  (
                                                    right-row refl refl refl refl refl,
                                                    (right-row refl refl refl refl refl, tt),
                                                  ),
                                                ),
                                              ),
                                            ),
                                          ),
                                        ),
                                      ),
                                    ),
                                  ),
                                ),
                              ),
                            ),
                          ),
                        ),
                      ),
                    ),
                  ),
                ),
              ),
            ),
          ),
        ),
      ),
    ),
  ),
)
