-- The closure of a state, from a closed set to the end of the search, and the row that it is kept in.
use mathlib.Core.Path.{◌≡◌, ap, ◌∙◌, sym, subst}
use mathlib.Core.Bool.{Bool, true, false, true≢false}
use mathlib.Core.Logic.{inl, inr, ⊎_elim}
use mathlib.Core.List.{List, Memᴰ}
use Prim.Native.Nat.{ℕ, ◌+◌, ◌-◌, ◌*◌, ◌%◌, ◌<◌, ◌≤◌}
use native.Mathlib.Omega.{arith}
use native.Mathlib.Decide.{ℕ_discrete}
use lib.ListN.{length, get_or, set, take, drop, replicate, length-set, length-replicate}
use lib.Seq.{paste, length-paste, get_or-set_same, get_or-set_other}
use Rattle.automaton.specs.Transition.{epsilon, automaton_of}
use Rattle.automaton.specs.StateSet.{StateSet}
use Rattle.automaton.proofs.PassLaws.{closed-test, test-closed}
use Rattle.automaton.proofs.BitLaws.{contains-replicate, words-replicate}
use Rattle.operations.specs.Marks.{stored_set}
use Rattle.sets.specs.Joined.{joined}
use Rattle.sets.specs.Size.{set_most}
use Rattle.sets.proofs.StoredLaws.{stored-written, stored_other}
use Rattle.sets.proofs.JoinLaws.{joined_length, words-joined, joined-cases, joined-left, joined-right}
use Rattle.closures.specs.Closure.{PendingStack, Settled, Puttable, Put, Followed, Closable, ClosureOf, rows_most}
use Rattle.closures.specs.Closure.{ClosedSet, Addable, Added, Keepable, Kept, JoinedClosure}
use Rattle.closures.specs.declared.KeptClosures.{KeptClosures}
use Rattle.closures.proofs.TransitionStartLaws.{member-starts, table-transitions}
use Rattle.closures.proofs.KeyedWordLaws.{closed_at}
use Rattle.closures.proofs.PendingStackLaws.{missing-most, stack-puttable, stack-put, put-cases}
use Rattle.closures.proofs.SearchLaws.{search-here, search-first, settled-all}
use Rattle.closures.proofs.FollowLaws.{states-most}

-- ---- the search

module _ {table index : List ℕ} {s : ℕ} {pending : List ℕ} {r : StateSet} (g : Addable table index s pending r) where
  start : PendingStack table r pending 0
  start =
      record {
        size = g.set.size;
        below = g.below;
        fits = g.closable.fits;
        few = omega (arith, missing-most (automaton_of table).states r);
        inside = λ k l. absurd (omega arith);
      }

  pub add-puttable : Puttable r pending 0 s
  add-puttable = stack-puttable (states-most g.closable.checked) start g.closable.state

  module _ {t : StateSet} {pushed : List ℕ} {height : ℕ} (p : Put r pending 0 s t pushed height) where
    pub add-stack : PendingStack table t pushed height
    add-stack = stack-put (states-most g.closable.checked) start g.closable.state p

    add-search : Settled table r s t pushed height
    add-search =
        let at = closed_at g.closable.checked r g.set.closed in
        put-cases (λ t k n. Settled table r s t k n) p (search-here table r pending s g.set at)
        (λ e. search-first table r pending s g.set at (omega (arith, states-most g.closable.checked, g.closable.state))
        (omega (arith, g.closable.state, g.closable.fits)))

    pub add-end : {u : StateSet} {left : List ℕ} → Followed table 0 (length table) t pushed height u left 0 → Added table s r u
    add-end f =
        let done = f.settled r s g.set.closed add-search in
        let c = g.closable.checked in
        record {
          set = record {
            size = f.stack.size;
            words = done.words;
            closed = test-closed _ _
                (λ p q m e.
                let k =
                member-starts table (epsilon p q)
                (subst (Memᴰ (epsilon p q)) (sym (table-transitions c.alphabet table c.checked)) m) in
                settled-all done k.index k.inside p q k.member e);
          };
          grown = done.grown;
          holds = done.holds;
          within = done.reached;
        }

-- ---- a set of its own

pub empty-closed : (table : List ℕ) → ClosedSet table (replicate set_most 0)
empty-closed table = record {
  size = length-replicate {A = ℕ} set_most 0;
  words = words-replicate set_most;
  closed =
      test-closed (automaton_of table).transitions (replicate set_most 0)
      (λ p q m e. absurd (true≢false (sym e ∙ contains-replicate set_most p)));
}

pub close-empty : {table index : List ℕ} {s : ℕ} {pending : List ℕ} → Closable table index s pending
    → Addable table index s pending (replicate set_most 0)
close-empty {table} g =
    record {
      closable = g;
      set = empty-closed table;
      below = λ q e. absurd (true≢false (sym e ∙ contains-replicate set_most q));
    }

pub close-end : {table : List ℕ} {s : ℕ} {t : StateSet} → Added table s (replicate set_most 0) t → ClosureOf table s t
close-end a =
    record {
      set = a.set;
      holds = a.holds;
      within = λ q e. ⊎_elim (λ d. absurd (true≢false (sym d ∙ contains-replicate set_most q))) (λ d. d) (a.within q e);
    }

-- ---- the row

module _ {table index : List ℕ} {s : ℕ} {kept : KeptClosures} {pending : List ℕ} (g : Keepable table index s kept pending) where
  row_small : s % rows_most < rows_most
  row_small = omega arith

  owner-inside : s % rows_most < length kept.owners
  owner-inside = omega (arith, g.closures.owners-are)

  pub closure-fits : s % rows_most * set_most + set_most ≤ length kept.rows
  closure-fits = omega (arith, g.closures.rows_are)

  pub keep_known : get_or kept.owners (s % rows_most) 0 ≡ s + 1 → Kept table s true kept
  keep_known e = record { closures = g.closures; closure = λ _. g.closures.filled (s % rows_most) s row_small e }

  -- the row is another state's
  pub keep-other : Kept table s false kept
  keep-other = record { closures = g.closures; closure = λ e. absurd (true≢false (sym e)) }

  pub keep-new : {closure rows' : List ℕ} → ClosureOf table s closure → rows' ≡ paste kept.rows (s % rows_most * set_most) closure (length closure)
      → Kept table s true (record { owners = set kept.owners (s % rows_most) (s + 1); rows = rows' })
  keep-new {closure} {rows'} c e =
      record {
        closures = record {
          owners-are = length-set kept.owners (s % rows_most) (s + 1) ∙ g.closures.owners-are;
          rows_are =
              ap length written
              ∙ length-paste kept.rows (s % rows_most * set_most) closure set_most (omega (arith, closure-fits)) (omega (arith, c.set.size))
              ∙ g.closures.rows_are;
          filled = λ k t h o. filled k t h o (ℕ_discrete k (s % rows_most));
        };
        closure = λ _. here;
      }
    where
      written : rows' ≡ paste kept.rows (s % rows_most * set_most) closure set_most
      written = e ∙ ap (paste kept.rows (s % rows_most * set_most) closure) c.set.size

      here : ClosureOf table s (stored_set set_most rows' (s % rows_most))
      here =
          subst (ClosureOf table s)
          (sym (ap (λ (l : List ℕ). stored_set set_most l (s % rows_most)) written
          ∙ stored-written set_most kept.rows (s % rows_most) closure c.set.size closure-fits)) c

      filled : (k t : ℕ) → k < rows_most → get_or (set kept.owners (s % rows_most) (s + 1)) k 0 ≡ t + 1 → Dec (k ≡ s % rows_most)
          → ClosureOf table t (stored_set set_most rows' k)
      filled k t h o (yes i) =
          let same : s ≡ t =
          omega (
            arith,
            sym (get_or-set_same kept.owners (s % rows_most) (s + 1) 0 owner-inside)
                ∙ ap (λ (x : ℕ). get_or (set kept.owners (s % rows_most) (s + 1)) x 0) (sym i) ∙ o,
          ) in
          rw (i, ← same) here
      filled k t h o (no i) =
          let other =
          ap (λ (l : List ℕ). stored_set set_most l k) written
          ∙ stored_other set_most kept.rows (s % rows_most) closure c.set.size closure-fits k i in
          subst (ClosureOf table t) (sym other) (g.closures.filled k t h (sym (get_or-set_other kept.owners (s % rows_most) k (s + 1) 0 i) ∙ o))

-- ---- the closure in the set

-- both sets are closed
added-joined : {table : List ℕ} {s : ℕ} {r c : StateSet} → ClosedSet table r → ClosureOf table s c → Added table s r (joined r c)
added-joined {table} {r = r} {c = c} k d =
    let same : length c ≡ length r = d.set.size ∙ sym k.size in
    let ts = (automaton_of table).transitions in
    record {
      set = record {
        size = joined_length (length c) r c ∙ k.size;
        words = words-joined (length c) r c k.words d.set.words;
        closed = test-closed ts (joined r c)
            (λ p q m e. ⊎_elim (λ h. joined-left r c same q (closed-test ts r k.closed p q m h))
            (λ h. joined-right r c same q (closed-test ts c d.set.closed p q m h)) (joined-cases r c same p e));
      };
      grown = joined-left r c same;
      holds = joined-right r c same _ d.holds;
      within = λ q e. ⊎_elim inl (λ h. inr (d.within q h)) (joined-cases r c same q e);
    }

-- the row as a part of the rows
pub join-end : {table : List ℕ} {s : ℕ} {b : Bool} {kept : KeptClosures} → b ≡ true → Kept table s b kept → {r t : StateSet}
    → ClosedSet table r
    → t ≡ joined r (take (s % rows_most * set_most + set_most - s % rows_most * set_most) (drop (s % rows_most * set_most) kept.rows))
    → JoinedClosure table s r t kept
unfolding stored_set
join-end {table} {s} {kept = kept} y k {r} {t} c e =
    let n : s % rows_most * set_most + set_most - s % rows_most * set_most ≡ set_most = omega arith in
    let q : t ≡ joined r (stored_set set_most kept.rows (s % rows_most)) =
    e ∙ ap (λ (x : ℕ). joined r (take x (drop (s % rows_most * set_most) kept.rows))) n in
    record { closures = k.closures; added = subst (Added table s r) (sym q) (added-joined c (k.closure y)) }
