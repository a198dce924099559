-- The end of a walk of a function that has several `ensures`, which are joined by ∗: that several facts hold, from their proofs, and
-- the kit's `ends_at` with what the clauses say shown first, so that the tokens, the parameters and the result are left.
use seplogic.Ra.Ura.{Ura}
use mir.Val.{Val}
use base.Logic.{SProp, ent, sep, emp, via, mono_l, mono∗, comm∗, emp∗}
use types.Logic.{Logic}
use contract.Monad.{fact, fact_i}
use denote.Triple.Clauses.{Clauses, Ended, Lasts, at_exit}
use denote.Triple.Entry.{Res}
use denote.Triple.Walked.{Stays, Fit, on_exit, Ending, walk_of, ends_at}

module _ {M : Type 1} (𝓤 : Ura M) where
  -- one more fact
  and_fact : (φ : Type 0) (P : SProp 𝓤) → φ → ent 𝓤 (emp 𝓤) P → ent 𝓤 (emp 𝓤) (sep 𝓤 (fact 𝓤 φ) P)
  and_fact φ P x p = via 𝓤 (sep 𝓤 (emp 𝓤) (emp 𝓤)) (emp∗ 𝓤 (emp 𝓤)) (mono∗ 𝓤 (fact_i 𝓤 φ (emp 𝓤) x) p)

  pub facts2 : (φ ψ : Type 0) → φ → ψ → ent 𝓤 (emp 𝓤) (sep 𝓤 (fact 𝓤 φ) (fact 𝓤 ψ))
  facts2 φ ψ x y = and_fact φ (fact 𝓤 ψ) x (fact_i 𝓤 ψ (emp 𝓤) y)

  pub facts3 : (φ ψ χ : Type 0) → φ → ψ → χ → ent 𝓤 (emp 𝓤) (sep 𝓤 (fact 𝓤 φ) (sep 𝓤 (fact 𝓤 ψ) (fact 𝓤 χ)))
  facts3 φ ψ χ x y z = and_fact φ (sep 𝓤 (fact 𝓤 ψ) (fact 𝓤 χ)) x (facts2 ψ χ y z)

  pub facts4 : (φ ψ χ ω : Type 0) → φ → ψ → χ → ω
      → ent 𝓤 (emp 𝓤) (sep 𝓤 (fact 𝓤 φ) (sep 𝓤 (fact 𝓤 ψ) (sep 𝓤 (fact 𝓤 χ) (fact 𝓤 ω))))
  facts4 φ ψ χ ω x y z w = and_fact φ (sep 𝓤 (fact 𝓤 ψ) (sep 𝓤 (fact 𝓤 χ) (fact 𝓤 ω))) x (facts3 ψ χ ω y z w)

  pub facts5 : (φ ψ χ ω α : Type 0) → φ → ψ → χ → ω → α
      → ent 𝓤 (emp 𝓤) (sep 𝓤 (fact 𝓤 φ) (sep 𝓤 (fact 𝓤 ψ) (sep 𝓤 (fact 𝓤 χ) (sep 𝓤 (fact 𝓤 ω) (fact 𝓤 α)))))
  facts5 φ ψ χ ω α x y z w u =
      and_fact φ (sep 𝓤 (fact 𝓤 ψ) (sep 𝓤 (fact 𝓤 χ) (sep 𝓤 (fact 𝓤 ω) (fact 𝓤 α)))) x (facts4 ψ χ ω α y z w u)

  pub facts6 : (φ ψ χ ω α β : Type 0) → φ → ψ → χ → ω → α → β
      → ent 𝓤 (emp 𝓤) (sep 𝓤 (fact 𝓤 φ) (sep 𝓤 (fact 𝓤 ψ) (sep 𝓤 (fact 𝓤 χ) (sep 𝓤 (fact 𝓤 ω) (sep 𝓤 (fact 𝓤 α) (fact 𝓤 β))))))
  facts6 φ ψ χ ω α β x y z w u v =
      and_fact φ (sep 𝓤 (fact 𝓤 ψ) (sep 𝓤 (fact 𝓤 χ) (sep 𝓤 (fact 𝓤 ω) (sep 𝓤 (fact 𝓤 α) (fact 𝓤 β))))) x
      (facts5 ψ χ ω α β y z w u v)

  module _ (𝓛 : Logic 𝓤) (T : Ended) (hs : Stays T.signature.params T.kept) (c : Clauses 𝓤 T) where
    pub ends_with : (y : (walk_of 𝓛 T hs c).Ghost) (v : Val) (r : Res T.signature y.0.0) (ws : Lasts T y.0.0 y.0.3)
        → Fit T hs y.0.0 y.0.3 ws
        → ent 𝓤 (emp 𝓤) ((c y.0.0 y.0.3).ensures y.1 r (at_exit T y.0.0 y.0.3 ws))
        → ent 𝓤 (on_exit 𝓛 T hs y.0.0 y.0.1 y.0.4 v r y.0.3 ws) ((walk_of 𝓛 T hs c).post y v)
    ends_with y v r ws fits told =
        let P : SProp 𝓤 = on_exit 𝓛 T hs y.0.0 y.0.1 y.0.4 v r y.0.3 ws in
        let E : SProp 𝓤 = (c y.0.0 y.0.3).ensures y.1 r (at_exit T y.0.0 y.0.3 ws) in
        via 𝓤 (Ending 𝓛 T hs c y v r ws)
        (via 𝓤 (sep 𝓤 (emp 𝓤) P) (emp∗ 𝓤 P) (via 𝓤 (sep 𝓤 E P) (mono_l 𝓤 P told) (comm∗ 𝓤 E P)))
        (ends_at 𝓛 T hs c y v r ws fits)
