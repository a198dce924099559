-- The memo: an empty one, what a slot with the key says, and that it stays right when node i is marked.
use mathlib.Core.Path.{◌≡◌, ap, ap₂, ◌∙◌, sym}
use mathlib.Core.List.{List}
use Prim.Native.Nat.{ℕ, ◌+◌, ◌-◌, ◌*◌, ◌<◌, ◌≤◌}
use native.Mathlib.Omega.{arith}
use native.Mathlib.Decide.{ℕ_discrete}
use lib.ListN.{length, get_or, take, drop, set, replicate, length-set, length-drop, length-replicate, get_or-replicate}
use lib.Seq.{paste, take_all, get_or-set_same, get_or-set_other}
use Rattle.words.specs.Lists.{AllBelow}
use Rattle.words.specs.Limits.{rank_most, states_most}
use Rattle.words.proofs.AllLaws.{map_below, below_more}
use Rattle.automaton.specs.Transition.{automaton_of}
use Rattle.automaton.specs.StateSet.{StateSet, state_set}
use Rattle.operations.specs.Marks.{size_of, stored_set}
use Rattle.sets.specs.Copyable.{Copyable}
use Rattle.sets.specs.Size.{set_most}
use Rattle.sets.proofs.StoredLaws.{row_inside, stored-before}
use Rattle.closures.specs.Closure.{Closures, rows_most}
use Rattle.memo.specs.declared.Memo.{Memo as MemoWords}
use Rattle.memo.specs.Key.{step_key}
use Rattle.memo.specs.Memo.{set_over, Slot, empty, occupied, Remembered, NextMarkable, MarkedNew, MarkedNext, places_most}
use Rattle.memo.specs.Memo.{slots_most}
use Rattle.memo.proofs.KeyLaws.{packed-same, step_key-symbol, key-nodes, key-some}
use Rattle.memo.proofs.NodeWritingLaws.{length-set_over, size_few}

-- arrays of zeros: nothing is remembered
pub nothing-remembered : (table marks : List ℕ) (i : ℕ)
    → Remembered table marks i (record {
      keys = replicate slots_most 0;
      known = replicate slots_most 0;
      places = replicate places_most 0;
      closures = record { owners = replicate rows_most 0; rows = replicate (rows_most * set_most) 0 };
      pending = replicate states_most 0;
    })
nothing-remembered table marks i = record {
  memo = record {
    keys-are = length-replicate {A = ℕ} slots_most 0;
    known-are = length-replicate {A = ℕ} slots_most 0;
    slots = λ s l. empty (get_or-replicate {A = ℕ} slots_most s 0 0 l);
  };
  places-are = length-replicate {A = ℕ} places_most 0;
  closures = record {
    owners-are = length-replicate {A = ℕ} rows_most 0;
    rows_are = length-replicate {A = ℕ} (rows_most * set_most) 0;
    filled = λ k s l e. absurd (omega (arith, sym e ∙ get_or-replicate {A = ℕ} rows_most k 0 0 l));
  };
  pending-are = length-replicate {A = ℕ} states_most 0;
}

-- node i is passed and its words stay
pub remembered-later : {table marks : List ℕ} {i : ℕ} {words : MemoWords} → Remembered table marks i words
    → Remembered table marks (i + 1) words
remembered-later {table} {marks} {i} {words} g = record {
  memo = record {
    keys-are = g.memo.keys-are;
    known-are = g.memo.known-are;
    slots = λ s l. go (get_or words.keys s 0) (get_or words.known s 0) (g.memo.slots s l);
  };
  places-are = g.places-are;
  closures = g.closures;
  pending-are = g.pending-are;
}
  where
    go : (key node : ℕ) → Slot table marks i key node → Slot table marks (i + 1) key node
    go key node (empty h) = empty h
    go key node (occupied f cs hf b k l q) = occupied f cs hf (below_more i (i + 1) (omega arith) cs b) k (omega arith) q

-- ---- node i's words are written

module _ (table marks : List ℕ) (i : ℕ) (v : StateSet) (e : length v ≡ size_of table)
    (inside : i * size_of table + size_of table ≤ length marks)
    (marks' : List ℕ) (w : marks' ≡ paste marks (i * size_of table) v (size_of table)) where
  pub stored-kept : (j : ℕ) → j < i → stored_set (size_of table) marks' j ≡ stored_set (size_of table) marks j
  stored-kept j l =
      ap (λ (m : List ℕ). stored_set (size_of table) m j) w ∙ stored-before (size_of table) marks i v e inside j l

  -- the state set over earlier nodes stays
  set-kept : (f : ℕ) (cs : List ℕ) → AllBelow i cs → set_over table f marks' cs ≡ set_over table f marks cs
  unfolding set_over
  set-kept f cs b =
      ap (state_set (automaton_of table) f) (map_below (stored_set (size_of table) marks') (stored_set (size_of table) marks) i cs b stored-kept)

  slot_kept : (key node : ℕ) → Slot table marks i key node → Slot table marks' (i + 1) key node
  slot_kept key node (empty h) = empty h
  slot_kept key node (occupied f cs hf b k l q) =
      occupied f cs hf (below_more i (i + 1) (omega arith) cs b) k (omega arith) (stored-kept node l ∙ q ∙ sym (set-kept f cs b))

-- ---- marking node i

module _ {table index : List ℕ} {f : ℕ} {marks four : List ℕ} {rank i : ℕ} {words : MemoWords}
    (g : NextMarkable table index f marks four rank i words) where
  abbrev cs : List ℕ
  cs = drop (rank_most - rank) four

  abbrev v : StateSet
  v = set_over table f marks cs

  abbrev size : ℕ
  size = size_of table

  abbrev part : List ℕ
  part = take (rank_most - (rank_most - rank)) cs

  part-is : part ≡ cs
  part-is =
      take_all (rank_most - (rank_most - rank)) cs (rw (length-drop (rank_most - rank) four) (omega (arith, g.keyable.nodes.length-is)))

  module _ (key : ℕ) (k : key ≡ step_key f (drop (rank_most - rank) four)) (s : ℕ) (l : s < slots_most) where
    -- a slot with the key holds a node that has the state set
    module _ (h : get_or words.keys s 0 ≡ key) where
      abbrev node : ℕ
      node = get_or words.known s 0

      slot-found : (get_or words.known s 0 < i)
          × (stored_set (size_of table) marks (get_or words.known s 0) ≡ set_over table f marks (drop (rank_most - rank) four))
      slot-found = go (g.remembered.memo.slots s l)
        where
          go : Slot table marks i (get_or words.keys s 0) (get_or words.known s 0)
              → (get_or words.known s 0 < i) × (stored_set (size_of table) marks (get_or words.known s 0) ≡ set_over table f marks cs)
          go (empty z) = absurd (key-some f cs (sym k ∙ sym h ∙ z))
          go (occupied f' cs' hf b k' m q) =
              let e : step_key f' cs' ≡ step_key f cs = sym k' ∙ h ∙ k in
              let hg = g.keyable.symbol in
              let few = g.new.few in (
                m,
                q ∙ ap₂ (λ (x : ℕ) (xs : List ℕ). set_over table x marks xs) (step_key-symbol f' f cs' cs hf hg e)
                    (packed-same i (omega arith) cs' cs b g.below (key-nodes f' f cs' cs hf hg e)),
              )

      stored : take (size_of table) (drop (get_or words.known s 0 * size_of table) marks) ≡ set_over table f marks cs
      unfolding stored_set
      stored = slot-found.1

      module _ (n : ℕ) (sn : n ≡ size_of table) where
        pub found-copyable : Copyable marks (get_or words.known s 0 * n) (i * n) n
        found-copyable = rw sn (
            let row = g.new.row in
            record {
              small = size_few g.new;
              inside =
                  record {
                    source = row_inside (get_or words.known s 0) i (size_of table) (length marks) slot-found.0 (omega arith);
                    target = row;
                  };
            })

        pub found-next : (marks' : List ℕ) → marks' ≡ paste marks (i * n) (take n (drop (get_or words.known s 0 * n) marks)) n
            → MarkedNext table f marks (drop (rank_most - rank) four) i marks' (get_or words.known s 0) words
        found-next marks' q =
            let w : marks' ≡ paste marks (i * size) v size =
            q ∙ ap (λ (x : ℕ). paste marks (i * x) (take x (drop (node * x) marks)) x) sn
            ∙ ap (λ (x : List ℕ). paste marks (i * size) x size) stored in
            let row = g.new.row in
            let m = slot-found.0 in
            let len = length-set_over table f marks cs in
            record {
              new = record {
                words = w;
                low = omega arith;
                same = stored-kept table marks i v len row marks' w node m ∙ slot-found.1;
              };
              remembered = record {
                memo = record {
                  keys-are = g.remembered.memo.keys-are;
                  known-are = g.remembered.memo.known-are;
                  slots =
                      λ t h. slot_kept table marks i v len row marks' w (get_or words.keys t 0) (get_or words.known t 0) (g.remembered.memo.slots t h);
                };
                places-are = g.remembered.places-are;
                closures = g.remembered.closures;
                pending-are = g.remembered.pending-are;
              };
            }

    -- node i was worked out, and the step is remembered in this slot
    pub stored_next : (r : ℕ) (marks' : List ℕ)
        → MarkedNew table f marks (take (rank_most - (rank_most - rank)) (drop (rank_most - rank) four)) i marks' r
        → (left : MemoWords) → length left.places ≡ length words.places → Closures table left.closures
        → length left.pending ≡ length words.pending
        → MarkedNext table f marks (drop (rank_most - rank) four) i marks' r
        (record left { keys = set words.keys s key; known = set words.known s r })
    stored_next r marks' n₀ left p c q = record {
      new = n;
      remembered = record {
        memo = record {
          keys-are = length-set words.keys s key ∙ g.remembered.memo.keys-are;
          known-are = length-set words.known s r ∙ g.remembered.memo.known-are;
          slots = λ t h. go t h (ℕ_discrete t s);
        };
        places-are = p ∙ g.remembered.places-are;
        closures = c;
        pending-are = q ∙ g.remembered.pending-are;
      };
    }
      where
        n : MarkedNew table f marks cs i marks' r
        n = rw part-is at n₀

        len : length (set_over table f marks cs) ≡ size_of table
        len = length-set_over table f marks cs

        go : (t : ℕ) → t < slots_most → Dec (t ≡ s) → Slot table marks' (i + 1) (get_or (set words.keys s key) t 0) (get_or (set words.known s r) t 0)
        go t h (yes e) =
            let ke = g.remembered.memo.keys-are in
            let ne = g.remembered.memo.known-are in
            rw (e, get_or-set_same words.keys s key 0 (omega arith), get_or-set_same words.known s r 0 (omega arith))
            (occupied f cs g.keyable.symbol (below_more i (i + 1) (omega arith) cs g.below) k n.low
            (n.same ∙ sym (set-kept table marks i v len g.new.row marks' n.words f cs g.below)))
        go t h (no e) =
            rw (get_or-set_other words.keys s t key 0 e, get_or-set_other words.known s t r 0 e)
            (slot_kept table marks i v len g.new.row marks' n.words (get_or words.keys t 0) (get_or words.known t 0)
            (g.remembered.memo.slots t h))
