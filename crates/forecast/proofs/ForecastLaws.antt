-- The steps of the forecast: what each asks, shown of what the first one asks.
use mathlib.Core.Path.{◌≡◌, refl, ap, ◌∙◌, sym, subst}
use mathlib.Core.List.{List}
use Prim.Native.Nat.{ℕ, ◌+◌, ◌*◌, ◌<◌, ◌≤◌}
use native.Mathlib.Omega.{arith}
use native.Mathlib.Nat.{zero-mul}
use lib.ListN.{length, take, drop, replicate, length-replicate, get_or-replicate}
use lib.Seq.{length-take-le}
use Rattle.words.specs.Limits.{nodes_most}
use Rattle.words.specs.Lists.{written_over}
use Rattle.words.specs.Shape.{splice_by}
use Rattle.words.specs.Postfix.{arity, height_of, roots_of, splice}
use Rattle.words.proofs.ListLaws.{length_over, take-over}
use Rattle.words.proofs.AcceptedAlphabet.{AcceptedAlphabet, alphabet-accepted, arity-most}
use Rattle.words.proofs.AcceptedTree.{tree-accepted, accepted-tree}
use Rattle.words.proofs.PostfixLaws.{splice-tree}
use Rattle.words.proofs.PendingRoots.{part-pending}
use Rattle.automaton.specs.StateSet.{StateSet}
use Rattle.automaton.proofs.TableLaws.{is_table-tables}
use Rattle.operations.specs.Marks.{size_of, node_sets, stored_set}
use Rattle.operations.specs.Totals.{Totals, totals_of}
use Rattle.operations.specs.ExchangeCall.{ExchangeCall}
use Rattle.operations.specs.Exchange.{used}
use Rattle.operations.specs.Recomputation.{start_in}
use Rattle.operations.proofs.AcceptedLaws.{CallAccepted, words-accepted, MarkedAccepted, accepted-run}
use Rattle.operations.proofs.MarksLaws.{length-node_sets}
use Rattle.operations.proofs.Recomputed.{shape, there}
use Rattle.sets.specs.Size.{set_most}
use Rattle.sets.proofs.SizeLaws.{set-small}
use Rattle.index.specs.Index.{index_length, index_of, Indexable}
use Rattle.closures.specs.Closure.{rows_most}
use Rattle.totals.specs.declared.Totals.{Totals as Record}
use Rattle.totals.specs.TotalsIn.{totals_in}
use Rattle.totals.specs.Replaceable.{Replaceable}
use Rattle.forecast.specs.declared.pile.Pile.{Pile}
use Rattle.forecast.specs.declared.pile.Work.{Work}
use Rattle.forecast.specs.Room.{sets_most}
use Rattle.forecast.specs.Tree.{TreeCountable}
use Rattle.forecast.specs.Behind.{Marked}
use Rattle.forecast.proofs.RunFacts.{low-height}

module _ {c : ExchangeCall} {start : ℕ} (pre : Replaceable c start) where
  abbrev a : List ℕ
  a = c.alphabet

  abbrev table : List ℕ
  table = c.table

  abbrev xs : List ℕ
  xs = c.replacement

  call : CallAccepted c
  call = words-accepted c pre.passes

  alphabet-facts : AcceptedAlphabet a
  alphabet-facts = alphabet-accepted a call.checked.alphabet

  used-many : length (used c) ≡ c.count
  used-many = length-take-le c.count c.chapter call.count.within

  pub used-part : c.count ≡ length (take c.count c.chapter)
  used-part = sym used-many

  pub forecast-marked : Marked c.alphabet c.table (used c) c.marks
  forecast-marked = record {
    accepted =
        accepted-run a table (used c) (length c.marks) (record {
          checked = call.checked;
          counted = rw used-many call.count.counted;
          marked = subst (λ (n : ℕ). MarkedAccepted a table n (used c) (length c.marks)) (sym used-many) call.marked;
        });
  }

  pub forecast-small : size_of c.table ≤ set_most
  forecast-small = set-small a table call.checked.automaton

  pub forecast-index : Indexable c.table (replicate index_length 0)
  forecast-index =
      let few = alphabet-facts.counted.few in
      record { few = ((is_table-tables a (omega arith) table).0 call.checked.automaton).fits; zeros = refl }

  room : (k : ℕ) → k ≤ length xs → length (roots_of a xs k) ≤ sets_most
  unfolding splice_by
  room k l =
      let h : height_of a (splice a (used c) c.element xs) ≤ 512 = low-height a (splice a (used c) c.element xs) call.change.low in
      omega (
        arith,
        h,
        part-pending (arity a) (arity-most alphabet-facts) (take (start_in c) (used c)) xs (drop (c.element + 1) (used c)) k l
            (splice-tree (arity a) (used c) c.element (tree-accepted a (used c) call.marked.tree).shape (there c pre.passes) xs
            (shape c pre.passes)),
      )

  pub forecast-tree : {index : List ℕ} → index ≡ index_of c.table
      → {work : Work}
      → work.closures ≡ record { owners = replicate rows_most 0; rows = replicate (rows_most * set_most) 0 }
      → TreeCountable c.alphabet c.table index c.replacement work
  forecast-tree q z = record {
    kept = record {
      alphabet = call.checked.alphabet;
      checked = call.checked.automaton;
      indexed = q;
      closures = rw z (record {
        owners-are = length-replicate {A = ℕ} rows_most 0;
        rows_are = length-replicate {A = ℕ} (rows_most * set_most) 0;
        filled = λ k s l e. absurd (omega (arith, sym e ∙ get_or-replicate {A = ℕ} rows_most k 0 0 l));
      });
    };
    tree = accepted-tree a xs call.change.replacement.tree;
    few = call.change.replacement.counted.few;
    room = room;
  }

  pub forecast-inside : c.element < length (used c)
  forecast-inside = there c pre.passes

  pub forecast-few : {t : Record} → totals_in t ≡ totals_of c.table (node_sets c.alphabet c.table c.replacement) → t.elements ≤ nodes_most
  unfolding totals_of
  forecast-few e = omega (arith, ap (λ (x : Totals). x.elements) e, length-node_sets a table xs, call.change.replacement.counted.few)

  -- ---- the root's set

  module _ (pile : Pile) (size : ℕ) (s : size ≡ size_of c.table) where
    abbrev array : List ℕ
    array = pile.sets

    pub root-inside : size ≤ length pile.sets
    root-inside = omega (arith, s, forecast-small, pile.long)

    pub root-length : size ≡ length (take size pile.sets)
    root-length = sym (length-take-le size array root-inside)

    pub root-small : length (take size pile.sets) ≤ set_most
    root-small = omega (arith, root-length, s, forecast-small)

    module _ (root : List ℕ) (e : root ≡ written_over (take size pile.sets) (replicate set_most 0)) where
      root-part : take size root ≡ take size pile.sets
      root-part = ap (take size) e ∙ take-over (take size array) (replicate set_most 0) size (sym root-length)

      pub part_length : size ≡ length (take size root)
      part_length = root-length ∙ ap length (sym root-part)

      pub part-inside : size ≤ length root
      part-inside =
          let n = length-replicate {A = ℕ} set_most 0 in
          rw (e, length_over (take size array) (replicate set_most 0) (omega (arith, root-small))) (omega (arith, s, forecast-small))

      pub root_is : (v : StateSet) → stored_set (size_of c.table) pile.sets 0 ≡ v → take size root ≡ v
      unfolding stored_set
      root_is v h =
          root-part ∙ ap (λ (n : ℕ). take n array) s
          ∙ ap (λ (n : ℕ). take (size_of table) (drop n array)) (sym (zero-mul (size_of table))) ∙ h

      pub root-size : length (take size root) ≡ size_of c.table
      root-size = sym part_length ∙ s
