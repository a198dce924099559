-- The invariant of the loop over the replacement's root and the nodes behind it: what is still to be done gives what the whole loop gives,
-- and the stack and what is kept from node to node are right.
use mathlib.Core.Path.{◌≡◌, refl, ap, ◌∙◌, sym}
use mathlib.Core.List.{List}
use Prim.Native.Nat.{ℕ, suc, ◌+◌, ◌-◌, ◌<◌, ◌≤◌}
use native.Mathlib.Omega.{arith}
use native.Mathlib.Numerals.{add-one}
use lib.ListN.{length}
use Rattle.nodes.specs.declared.marking.Marking.{Marking}
use Rattle.std.specs.declared.ops.ControlFlow.TheVariants.{Continue, Break}
use Rattle.nodes.specs.Marking.{Maintained}
use Rattle.nodes.proofs.WorkableLaws.{workable-long, bounded-tree}
use Rattle.propagation.specs.declared.Progress.{Progress}
use Rattle.propagation.specs.Propagation.{propagate_step, propagate_from, initial, Propagable, PropagationStartable}
use Rattle.propagation.proofs.PropagateNodeLaws.{step_small, propagate-continues, propagate-stops}

pub record Propagating (a table ch : List ℕ) (root count : ℕ) (marks₀ marks : List ℕ) (marking : Marking) (t : Progress) (i : ℕ) : Type 0 where
  pub low : root ≤ i
  pub high : i ≤ length ch
  pub marks-long : length marks ≡ length marks₀
  pub maintained : Maintained a table ch i marks marking
  pub few-reached : t.reach ≤ i
  pub few-recomputed : t.recomputed ≤ count + i
  pub same : propagate_from a table ch root (length ch - root) marks₀ (initial count) ≡ propagate_from a table ch i (length ch - i) marks t

module _ {a table index ch : List ℕ} {root count : ℕ} {marks₀ : List ℕ} {marking₀ : Marking}
    (pre : PropagationStartable a table index ch root marks₀ marking₀ count) where
  pub propagating-none : Propagating a table ch root count marks₀ marks₀ marking₀ (initial count) root
  propagating-none = record {
    low = omega arith;
    high = pre.nodes.order;
    marks-long = refl;
    maintained = pre.nodes.maintained;
    few-reached = omega arith;
    few-recomputed = omega arith;
    same = refl;
  }

  module _ {marks : List ℕ} {marking : Marking} {t : Progress} {i : ℕ}
      (g : Propagating a table ch root count marks₀ marks marking t i) where
    module _ (l : i < length ch) where
      pub propagating-at : Propagable a table index ch i marks marking t
      propagating-at =
          let few = (bounded-tree pre.nodes.workable).few in
          let o = g.few-reached in
          let r = g.few-recomputed in
          let c = pre.few in
          record {
            at = record {
              workable = workable-long g.marks-long pre.nodes.workable;
              indexed = pre.nodes.indexed;
              inside = l;
              maintained = g.maintained;
            };
            few-reached = omega arith;
            few-recomputed = omega arith;
          }

      one : length ch - i ≡ suc (length ch - suc i)
      one = omega arith

      module _ {m : List ℕ} where
        pub propagating-stops : {last : ℕ} → (m, Break last) ≡ propagate_step a table ch i marks t
            → (m, last) ≡ propagate_from a table ch root (length ch - root) marks₀ (initial count)
        propagating-stops {last} e =
            sym
            (g.same ∙ ap (λ (n : ℕ). propagate_from a table ch i n marks t) one
            ∙ propagate-stops a table ch i marks t (length ch - suc i) m last e)

        pub propagating-more : {next : Progress} → (m, Continue next) ≡ propagate_step a table ch i marks t → length m ≡ length marks
            → {marking' : Marking}
            → Maintained a table ch (i + 1) m marking'
            → Propagating a table ch root count marks₀ m marking' next (i + 1)
        propagating-more {next} e p d =
            let low = g.low in
            let o = g.few-reached in
            let r = g.few-recomputed in
            let small = step_small a table ch i marks t m next e in
            let so = small.reach in
            let sr = small.recomputed in
            record {
              low = omega arith;
              high = omega arith;
              marks-long = p ∙ g.marks-long;
              maintained = d;
              few-reached = omega arith;
              few-recomputed = omega arith;
              same =
                  g.same ∙ ap (λ (n : ℕ). propagate_from a table ch i n marks t) one
                  ∙ propagate-continues a table ch i marks t (length ch - suc i) m next e
                  ∙ ap (λ (k : ℕ). propagate_from a table ch k (length ch - k) m next) (sym (add-one i));
            }

    pub propagating-end : length ch ≤ i → (marks, t.recomputed) ≡ propagate_from a table ch root (length ch - root) marks₀ (initial count)
    unfolding propagate_from
    propagating-end l =
        let z : length ch - i ≡ 0 = omega arith in
        sym (g.same ∙ ap (λ (n : ℕ). propagate_from a table ch i n marks t) z)
