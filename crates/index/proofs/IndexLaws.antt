-- The index of a table is made word by word from the last one backwards, and its chains hold the words of each key in
-- ascending order.
use mathlib.Core.Path.{◌≡◌, refl, ap, ◌∙◌, sym}
use mathlib.Core.Bool.{Bool, true, false, cond}
use mathlib.Core.List.{List}
use Prim.Native.Nat.{ℕ, zero, suc, ◌+◌, ◌-◌, ◌<◌, ◌≤◌}
use native.Mathlib.Omega.{arith}
use native.Mathlib.Decide.{ℕ_discrete, dec_lt}
use lib.ListN.{length, get_or, set, replicate, length-set, length-replicate, get_or-replicate}
use lib.Seq.{get_or-set_same, get_or-set_other}
use lib.Dec.{ltb}
use borrow.Author.Tests.{lt-ltb, le-ltb}
use Rattle.words.specs.Limits.{table_most}
use Rattle.index.specs.Index.{key_of, indexed_at, index_back, index_of, Insertable, IndexedTable, index_length, key_count}
use Rattle.index.proofs.ChainLaws.{next_with, next-over, next_here, next_past, Keyed, table-keyed}

-- ---- one word is put

module _ (table : List ℕ) (i : ℕ) (index : List ℕ) (k : ℕ) (e : k ≡ key_of (get_or table i 0)) where
  pub put-key : k < key_count → set (set index (key_count + i) (get_or index k 0)) k i ≡ indexed_at table i index
  unfolding indexed_at
  put-key h = sym (rw (← e, lt-ltb k key_count h))

  pub put-none : key_count ≤ k → index ≡ indexed_at table i index
  unfolding indexed_at
  put-none h = sym (rw (← e, le-ltb k key_count h))

indexed-length : (table : List ℕ) (i : ℕ) (index : List ℕ) → length (indexed_at table i index) ≡ length index
unfolding indexed_at
indexed-length table i index = go (ltb (key_of (get_or table i 0)) key_count)
  where
    go : (b : Bool)
        → length (cond b (set (set index (key_count + i) (get_or index (key_of (get_or table i 0)) 0)) (key_of (get_or table i 0)) i) index)
        ≡ length index
    go true = simp length-set
    go false = refl

back_none : (table : List ℕ) → replicate index_length 0 ≡ index_back table 0
unfolding index_back
back_none table = refl

back_more : (table : List ℕ) (n j : ℕ) → length table - suc n ≡ j → index_back table (suc n) ≡ indexed_at table j (index_back table n)
unfolding index_back
back_more table n j e = ap (λ (x : ℕ). indexed_at table x (index_back table n)) e

-- ---- the words from i on are indexed

pub record Indexed (table index : List ℕ) (i : ℕ) : Type 0 where
  pub few : i ≤ length table
  pub size : length index ≡ index_length
  pub chains : index ≡ index_back table (length table - i)

pub indexed-none : (table : List ℕ) → Indexed table (replicate index_length 0) (length table)
indexed-none table =
    let e : length table - length table ≡ 0 = omega arith in
    record {
      few = omega arith;
      size = length-replicate {A = ℕ} index_length 0;
      chains = back_none table ∙ ap (index_back table) (sym e);
    }

module _ {table index : List ℕ} {i : ℕ} (s : Indexed table index i) where
  pub indexed-insertable : (j : ℕ) → j + 1 ≡ i → length table ≤ table_most → Insertable table j index
  indexed-insertable j e h = record { inside = omega arith; few = h; size = s.size }

  pub indexed-more : (j : ℕ) → j + 1 ≡ i → {after : List ℕ} → after ≡ indexed_at table j index → Indexed table after j
  indexed-more j e {after} h =
      let f : length table - j ≡ suc (length table - i) = omega arith in
      let g : length table - suc (length table - i) ≡ j = omega arith in
      record {
        few = omega arith;
        size = ap length h ∙ indexed-length table j index ∙ s.size;
        chains = h ∙ ap (indexed_at table j) s.chains ∙ sym (rw f (back_more table (length table - i) j g));
      }

  pub indexed-end : i ≤ 0 → index ≡ index_of table
  unfolding index_of
  indexed-end h =
      let e : length table - i ≡ length table = omega arith in
      s.chains ∙ ap (index_back table) e

-- ---- what the chains hold

-- the chains of the words from i on
record Chains (table index : List ℕ) (i : ℕ) : Type 0 where
  first : (key : ℕ) → key < key_count → get_or index key 0 ≡ next_with table key i
  next : (m key : ℕ) → i ≤ m → m < length table → key_of (get_or table m 0) ≡ key → key < key_count
      → get_or index (key_count + m) 0 ≡ next_with table key (m + 1)

module _ (table index : List ℕ) (few : length table ≤ table_most) (size : length index ≡ index_length) (i : ℕ) (inside : i < length table)
    (c : Chains table index (i + 1)) where
  chains-put : (k : ℕ) → key_of (get_or table i 0) ≡ k → k < key_count → Chains table (set (set index (key_count + i) (get_or index k 0)) k i) i
  chains-put k e h = record {
    first = λ key s. first key s (ℕ_discrete key k);
    next = λ m key l g f s. next m key l g f s (ℕ_discrete m i);
  }
    where
      after : List ℕ
      after = set index (key_count + i) (get_or index k 0)

      first : (key : ℕ) → key < key_count → Dec (key ≡ k) → get_or (set after k i) key 0 ≡ next_with table key i
      first key s (yes d) = rw d (get_or-set_same after k i 0 (simp length-set (omega arith)) ∙ sym (next_here table k i inside e))
      first key s (no d) =
          get_or-set_other after k key i 0 d ∙ get_or-set_other index (key_count + i) key (get_or index k 0) 0 (λ z. omega arith)
          ∙ c.first key s ∙ sym (next_past table key i inside (λ z. d (sym z ∙ e)))

      next : (m key : ℕ) → i ≤ m → m < length table → key_of (get_or table m 0) ≡ key → key < key_count → Dec (m ≡ i)
          → get_or (set after k i) (key_count + m) 0 ≡ next_with table key (m + 1)
      next m key l g f s (yes d) =
          rw d (get_or-set_other after k (key_count + i) i 0 (λ z. omega arith)
          ∙ get_or-set_same index (key_count + i) (get_or index k 0) 0 (omega arith)
          ∙ c.first k h ∙ ap (λ (x : ℕ). next_with table x (i + 1)) (sym e ∙ (rw d at f)))
      next m key l g f s (no d) =
          get_or-set_other after k (key_count + m) i 0 (λ z. omega arith)
          ∙ get_or-set_other index (key_count + i) (key_count + m) (get_or index k 0) 0 (λ z. omega arith)
          ∙ c.next m key (omega arith) g f s

  chains-kept : key_count ≤ key_of (get_or table i 0) → Chains table index i
  chains-kept h = record {
    first = λ key s. c.first key s ∙ sym (next_past table key i inside (λ z. omega arith));
    next = λ m key l g f s. next m key l g f s (ℕ_discrete m i);
  }
    where
      next : (m key : ℕ) → i ≤ m → m < length table → key_of (get_or table m 0) ≡ key → key < key_count → Dec (m ≡ i)
          → get_or index (key_count + m) 0 ≡ next_with table key (m + 1)
      next m key l g f s (yes d) = absurd (omega (arith, rw d at f))
      next m key l g f s (no d) = c.next m key (omega arith) g f s

  chains-more : Chains table (indexed_at table i index) i
  chains-more = go (dec_lt (key_of (get_or table i 0)) key_count)
    where
      go : Dec (key_of (get_or table i 0) < key_count) → Chains table (indexed_at table i index) i
      go (yes l) = rw (← put-key table i index (key_of (get_or table i 0)) refl l) (chains-put (key_of (get_or table i 0)) refl l)
      go (no l) = rw (← put-none table i index (key_of (get_or table i 0)) refl (omega arith)) (chains-kept (omega arith))

module _ (table : List ℕ) where
  back-length : (n : ℕ) → length (index_back table n) ≡ index_length
  back-length zero = ap length (sym (back_none table)) ∙ length-replicate {A = ℕ} index_length 0
  back-length (suc n) = ap length (back_more table n _ refl) ∙ indexed-length table _ (index_back table n) ∙ back-length n

  module _ (few : length table ≤ table_most) where
    back-chains : (n : ℕ) → n ≤ length table → Chains table (index_back table n) (length table - n)
    back-chains zero h =
        rw (← back_none table) (record {
          first = λ key s.
              get_or-replicate {A = ℕ} index_length key 0 0 (omega arith) ∙ sym (next-over table key (length table - 0) (omega arith));
          next = λ m key l g f s. absurd (omega arith);
        })
    back-chains (suc n) h =
        let j = length table - suc n in
        let e : length table - n ≡ j + 1 = omega arith in
        rw (back_more table n j refl)
        (chains-more table (index_back table n) few (back-length n) j (omega arith) (rw e at (back-chains n (omega arith))))

  module _ (keyed : Keyed table) where
    chains : Chains table (index_of table) 0
    unfolding index_of
    chains =
        let e : length table - length table ≡ 0 = omega arith in
        rw e at (back-chains keyed.few (length table) (omega arith))

    pub index-first : (key : ℕ) → key < key_count → get_or (index_of table) key 0 ≡ next_with table key 0
    index-first key h = chains.first key h

    pub index-next : (i key : ℕ) → i < length table → key_of (get_or table i 0) ≡ key → key < key_count
        → get_or (index_of table) (key_count + i) 0 ≡ next_with table key (i + 1)
    index-next i key l e h = chains.next i key (omega arith) l e h

  pub index-length : length (index_of table) ≡ index_length
  unfolding index_of
  index-length = back-length (length table)

-- ---- a checked table with its index

module _ {table index : List ℕ} (c : IndexedTable table index) where
  pub keyed : Keyed table
  keyed = table-keyed c.alphabet table c.checked

  pub index-long : length index ≡ index_length
  index-long = ap length c.indexed ∙ index-length table
