-- Nodes marked one after the other: before node i those from `from` up to i are marked.
use mathlib.Core.Path.{◌≡◌, refl, ap, ap₂, ◌∙◌, sym}
use mathlib.Core.List.{List, reverse}
use Prim.Native.Nat.{ℕ, suc, ◌+◌, ◌-◌, ◌<◌, ◌≤◌}
use native.Mathlib.Omega.{arith}
use lib.ListN.{length}
use Rattle.words.specs.Postfix.{roots_of}
use Rattle.memo.proofs.MemoLaws.{nothing-remembered}
use Rattle.nodes.specs.declared.stack.Roots.{Roots}
use Rattle.nodes.specs.declared.marking.Marking.{Marking}
use Rattle.nodes.specs.Nodes.{Held, marked_at, marked_from}
use Rattle.nodes.specs.Marking.{Maintained, empty_memo, NodeMarkable, NodesMarkable}
use Rattle.nodes.proofs.WorkableLaws.{workable-long}
use Rattle.nodes.proofs.RootStackLaws.{represent-roots}

pub record NodesMarking (a table ch : List ℕ) (from to : ℕ) (marks₀ marks : List ℕ) (marking : Marking) (i : ℕ) : Type 0 where
  pub low : from ≤ i
  pub high : i ≤ to
  pub long : length marks ≡ length marks₀
  pub marks-are : marks ≡ marked_from a table ch from (i - from) marks₀
  pub maintained : Maintained a table ch i marks marking

module _ {a table index ch : List ℕ} {from to : ℕ} {marks₀ : List ℕ} {marking₀ : Marking}
    (pre : NodesMarkable a table index ch from to marks₀ marking₀) where
  pub marking-none : NodesMarking a table ch from to marks₀ marks₀ marking₀ from
  unfolding marked_from
  marking-none =
      let z : from - from ≡ 0 = omega arith in
      record { low = omega arith; high = pre.order; long = refl; marks-are = rw z refl; maintained = pre.maintained }

  module _ {marks : List ℕ} {marking : Marking} {i : ℕ}
      (g : NodesMarking a table ch from to marks₀ marks marking i) where
    pub marking-at : i < to → NodeMarkable a table index ch i marks marking
    marking-at l =
        record {
          workable = workable-long g.long pre.workable;
          indexed = pre.indexed;
          inside = omega
              (arith, pre.inside);
          maintained = g.maintained;
        }

    pub marking-more : i < to → {marks' : List ℕ} {marking' : Marking}
        → length marks' ≡ length marks
        → marks' ≡ marked_at a table ch i marks
        → Maintained a table ch (i + 1) marks' marking'
        → NodesMarking a table ch from to marks₀ marks' marking' (i + 1)
    unfolding marked_from
    marking-more l m w p =
        let low = g.low in
        let one : i + 1 - from ≡ suc (i - from) = omega arith in
        let place : from + (i - from) ≡ i = omega arith in
        record {
          low = omega arith;
          high = omega arith;
          long = m ∙ g.long;
          marks-are =
              w ∙ ap₂ (λ (j : ℕ) (t : List ℕ). marked_at a table ch j t) (sym place) g.marks-are
              ∙ ap (λ (n : ℕ). marked_from a table ch from n marks₀) (sym one);
          maintained = p;
        }

    pub marking-end : to ≤ i
        → (marks ≡ marked_from a table ch from (to - from) marks₀)
        × Maintained a table ch to marks marking
    marking-end l =
        let high = g.high in
        let q : i ≡ to = omega arith in
        (rw (← q) g.marks-are, rw (← q) g.maintained)

-- ---- with nothing remembered

pub nothing-maintained : {a table ch marks : List ℕ} {i : ℕ} {roots : Roots} → i ≤ length ch
    → Held roots.nodes roots.height (reverse (roots_of a ch i))
    → Maintained a table ch i marks (record { roots = roots; memo = empty_memo })
nothing-maintained {table = table} {marks = marks} {i = i} h g = record {
  represented = represent-roots h g;
  remembered = nothing-remembered table marks i;
}
