-- One node marked by the memo: the children's representatives are on top of the stack, node i gets the state set that it has over its
-- children, and the stack and the memo are then those before the next node.
use mathlib.Core.Path.{◌≡◌, ap, ap₂, ◌∙◌, sym}
use mathlib.Core.List.{List, ◌++◌, reverse, map}
use Prim.Native.Nat.{ℕ, ◌+◌, ◌-◌, ◌*◌, ◌<◌, ◌≤◌}
use native.Mathlib.Omega.{arith}
use lib.ListN.{length, get_or, take, drop, set, replicate, length-drop}
use lib.Seq.{paste, length-take-le, drop-drop, drop-append-add}
use Rattle.words.specs.Alphabet.{rank_of}
use Rattle.words.specs.Chapter.{symbol_of}
use Rattle.words.specs.Shape.{children_of_by}
use Rattle.words.specs.Postfix.{arity, children_of, roots_of}
use Rattle.words.specs.Lists.{AllBelow}
use Rattle.words.specs.Limits.{nodes_most, rank_most}
use Rattle.words.proofs.ListLaws.{map-drop, drop-reverse}
use Rattle.words.proofs.AllLaws.{each-drop, each-get_or, below_more, each_append}
use Rattle.words.proofs.ScanLaws.{take-drop}
use Rattle.automaton.specs.Transition.{automaton_of}
use Rattle.automaton.specs.StateSet.{StateSet, state_set}
use Rattle.operations.specs.Marks.{size_of, stored_set}
use Rattle.sets.proofs.StoredLaws.{row_inside, stored-written}
use Rattle.closures.proofs.FollowLaws.{states-most}
use Rattle.step.specs.NodeSteppable.{RowsInside, NodeSteppable}
use Rattle.memo.specs.declared.Memo.{Memo}
use Rattle.memo.specs.Memo.{set_over, NextMarkable, MarkedNext}
use Rattle.memo.proofs.NodeWritingLaws.{length-set_over}
use Rattle.memo.proofs.MemoLaws.{stored-kept}
use Rattle.nodes.specs.declared.stack.Roots.{Roots}
use Rattle.nodes.specs.declared.marking.Marking.{Marking}
use Rattle.nodes.specs.Nodes.{Pushable, Readable, set_from, marked_at, BoundedTree, stack_base}
use Rattle.nodes.specs.Marking.{NodeMarkable, Maintained}
use Rattle.nodes.proofs.WorkableLaws.{node-rank, bounded-tree, ranks-most, alphabet-few, table-checked, workable-marks}
use Rattle.nodes.proofs.RootStackLaws.{nodes-fit, stack-height, stack-pushable, represented-more}

module _ {a table index ch : List ℕ} {i : ℕ} {marks : List ℕ} {marking : Marking}
    (g : NodeMarkable a table index ch i marks marking) (r : ℕ)
    (e : r ≡ arity a (get_or ch i 0)) where
  abbrev w : ℕ
  w = get_or ch i 0

  abbrev size : ℕ
  size = size_of table

  abbrev array : List ℕ
  array = marking.roots.nodes

  abbrev height : ℕ
  height = marking.roots.height

  tree : BoundedTree a ch
  tree = bounded-tree g.workable

  abbrev nodes : List ℕ
  nodes = g.maintained.represented.nodes

  abbrev stored : ℕ → StateSet
  stored = stored_set (size_of table) marks

  few : i < nodes_most
  few = let h = g.inside in omega (arith, (bounded-tree g.workable).few)

  rank_is : r ≡ rank_of a (symbol_of (get_or ch i 0))
  rank_is = e ∙ node-rank (bounded-tree g.workable) i g.inside

  node-low : stack_base ≤ marking.roots.height
  node-low = omega (arith, g.maintained.represented.held.height-is)

  node-height : marking.roots.height < length marking.roots.nodes
  node-height = stack-height g.maintained.represented (bounded-tree g.workable) g.inside r e

  pub node-readable : Readable marking.roots.height
  node-readable =
      let m = node-height in
      record { based = node-low; inside = omega (arith, marking.roots.long) }

  pub node-pushable : (node : ℕ) → node < i + 1 → Pushable marking.roots.nodes marking.roots.height r node
  node-pushable = stack-pushable g.maintained.represented (bounded-tree g.workable) g.inside r e

  -- the four words on top of the stack
  module _ {four : List ℕ} (top : four ≡ take stack_base (drop (marking.roots.height - stack_base) marking.roots.nodes)) where
    four_is : four ≡ drop (marking.roots.height - stack_base) (take marking.roots.height marking.roots.nodes)
    four_is =
        let l = node-low in
        let n : stack_base ≡ height - (height - stack_base) = omega arith in
        top ∙ ap (λ (k : ℕ). take k (drop (height - stack_base) array)) n
        ∙ take-drop (height - stack_base) height array (omega arith)

    four-length : length four ≡ rank_most
    four-length =
        let l = node-low in
        let m = node-height in
        ap length four_is ∙ length-drop (height - stack_base) (take height array)
        ∙ ap (λ (n : ℕ). n - (height - stack_base)) (length-take-le height array (omega arith)) ∙ omega arith

    four_below : AllBelow nodes_most four
    four_below =
        let h = few in
        rw (four_is, g.maintained.represented.held.words)
        (each-drop (λ x. x < nodes_most) (height - stack_base) (replicate stack_base 0 ++ nodes)
        (each_append (λ x. x < nodes_most) (replicate stack_base 0) nodes (omega arith, (omega arith, (omega arith, (omega arith, tt))))
        (below_more i nodes_most (omega arith) nodes g.maintained.represented.below)))

    fits : r ≤ length g.maintained.represented.nodes
    fits = nodes-fit g.maintained.represented (bounded-tree g.workable) g.inside r e

    -- the last r of them represent the node's children
    part-place : marking.roots.height - stack_base + (rank_most - r) ≡ stack_base + (length g.maintained.represented.nodes - r)
    part-place =
        let f = fits in
        let most = ranks-most g.workable (symbol_of w) in
        omega (arith, g.maintained.represented.held.height-is, rank_is)

    part-is : drop (rank_most - r) four ≡ drop (length g.maintained.represented.nodes - r) g.maintained.represented.nodes
    part-is =
        ap (drop (rank_most - r)) (four_is ∙ ap (drop (height - stack_base)) g.maintained.represented.held.words)
        ∙ drop-drop (rank_most - r) (height - stack_base) (replicate stack_base 0 ++ nodes)
        ∙ ap (λ (k : ℕ). drop k (replicate stack_base 0 ++ nodes)) part-place
        ∙ drop-append-add (replicate stack_base 0) nodes (length nodes - r)

    part-below : AllBelow i (drop (rank_most - r) four)
    part-below = rw part-is (each-drop (λ x. x < i) (length nodes - r) nodes g.maintained.represented.below)

    part_length : length (drop (rank_most - r) four) ≡ r
    part_length =
        let f = fits in
        ap length part-is ∙ length-drop (length nodes - r) nodes ∙ omega arith

    part_same : map (stored_set (size_of table) marks) (drop (rank_most - r) four) ≡ map (stored_set (size_of table) marks) (children_of a ch i)
    unfolding children_of_by
    part_same =
        ap (map stored) part-is ∙ map-drop stored (length nodes - r) nodes ∙ ap (drop (length nodes - r)) g.maintained.represented.same
        ∙ sym (map-drop stored (length nodes - r) (reverse (roots_of a ch i)))
        ∙ ap (map stored)
        (ap₂ (λ (n k : ℕ). drop (n - k) (reverse (roots_of a ch i))) g.maintained.represented.count e ∙ drop-reverse (arity a w) (roots_of a ch i))

    rows_inside : RowsInside (size_of table) marks (drop (rank_most - r) four)
    rows_inside k l =
        let h = g.inside in
        row_inside (get_or (drop (rank_most - r) four) k 0) (length ch) (size_of table) (length marks)
        (omega (arith, each-get_or (λ x. x < i) 0 (drop (rank_most - r) four) k part-below l)) (workable-marks g.workable)

    row : i * size_of table + size_of table ≤ length marks
    row = row_inside i (length ch) (size_of table) (length marks) g.inside (workable-marks g.workable)

    steppable : NodeSteppable table index (symbol_of (get_or ch i 0)) marks (drop (rank_most - r) four)
    steppable =
        record {
          indexed = record { alphabet = a; short = alphabet-few g.workable; checked = table-checked g.workable; indexed = g.indexed };
          symbol-below = omega arith;
          rank = sym rank_is ∙ sym part_length;
          rows = rows_inside;
        }

    pub node-next : NextMarkable table index (symbol_of (get_or ch i 0)) marks four r i marking.memo
    node-next =
        let k = g.maintained.remembered in
        record {
          new = record {
            steppable = record {
              node = steppable;
              closures = k.closures;
              fits = omega (arith, states-most steppable.indexed, k.pending-are);
            };
            few = few;
            row = row;
            places-are = k.places-are;
          };
          keyable = record {
            symbol = omega arith;
            nodes = record {
              length-is = four-length;
              below = four_below;
              few = omega (arith, rank_is, ranks-most g.workable (symbol_of w));
            };
          };
          below = part-below;
          remembered = k;
        }

    set_is : set_over table (symbol_of (get_or ch i 0)) marks (drop (rank_most - r) four) ≡ set_from a table ch marks i
    unfolding set_over set_from
    set_is = ap (state_set (automaton_of table) (symbol_of w)) part_same

    -- node i is marked, and its representative is on the stack
    module _ {node : ℕ} {marks' : List ℕ} {memo' : Memo}
        (n : MarkedNext table (symbol_of (get_or ch i 0)) marks
        (drop (rank_most - r) four) i marks' node memo') where
      abbrev v : StateSet
      v = set_over table (symbol_of (get_or ch i 0)) marks (drop (rank_most - r) four)

      pub node-words : marks' ≡ marked_at a table ch i marks
      unfolding marked_at
      node-words = n.new.words ∙ ap (λ (l : List ℕ). paste marks (i * size) l size) set_is

      pub node_kept : {roots' : Roots} → roots'.height ≡ marking.roots.height - r + 1
          → roots'.nodes ≡ set marking.roots.nodes (marking.roots.height - r) node
          → Maintained a table ch (i + 1) marks' (record { roots = roots'; memo = memo' })
      node_kept p q =
          let long = length-set_over table (symbol_of w) marks (drop (rank_most - r) four) in
          record {
            represented = represented-more g.maintained.represented (bounded-tree g.workable) g.inside r e node n.new.low marks'
                (stored-kept table marks i v long row marks' n.new.words)
                (ap (λ (m : List ℕ). stored_set size m i) n.new.words ∙ stored-written size marks i v long row ∙ sym n.new.same) p q;
            remembered = n.remembered;
          }
