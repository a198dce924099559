-- Laws of a chapter's shape: by the check alone, and with the bound that the runs give.
use Rattle.std.proofs.Common.{◌≡◌, ℕ, ◌+◌, min, Bool, false, List, length, replicate, sym, arith}
use Rattle.std.specs.Prelude.{Result, Ok, Err}
use Rattle.std.specs.Result.{result_and}
use lib.ListN.{length-replicate, get_or-replicate}
use Rattle.words.specs.declared.refusal.Refusal.{Refusal}
use Rattle.words.specs.Decoded.{fault_in}
use Rattle.words.specs.Limits.{nodes_most}
use Rattle.words.specs.Word.{symbol_range}
use Rattle.words.specs.Postfix.{arity}
use Rattle.words.specs.Chapter.{tree_fault, holes_in}
use Rattle.words.proofs.HeightLaws.{height-few}
use Rattle.alphabet.specs.Ranks.{RanksWritten}
use Rattle.bounds.specs.TreeShape.{ShapeOf}
use Rattle.bounds.specs.Runs.{RanksOf, BoundOf}

module _ (a ws : List ℕ) where
  -- the check's answer, with the number of the words as the bound
  pub shape-counted : (fault : Result (Unit {0}) Refusal) → fault_in fault ≡ tree_fault a ws → (holes : Bool) → holes ≡ holes_in a ws
      → (bound : Result ℕ Refusal) → bound ≡ result_and fault (Ok (length ws)) → ShapeOf a ws (record { bound = bound; holes = holes })
  shape-counted (Ok u) e holes h bound b = rw b (record { fault = e; low = height-few (arity a) ws; holes = h })
  shape-counted (Err refusal) e holes h bound b = rw b (record { fault = e; low = tt; holes = h })

  -- ranks written into a list of a rank that no number of trees reaches
  module _ (ranks : List ℕ) (written : RanksWritten a (replicate symbol_range (nodes_most + 1)) ranks) where
    abbrev filled : List ℕ
    filled = replicate symbol_range (nodes_most + 1)

    ranks-of : RanksOf a ranks
    ranks-of = record {
      known = λ s b h. written.known s h (let n = length-replicate {A = ℕ} symbol_range (nodes_most + 1) in omega arith);
      hole = λ s b h.
          let u = written.holes s h in
          let f = get_or-replicate {A = ℕ} symbol_range s (nodes_most + 1) 0 b in
          omega arith;
      unknown = λ s b h.
          let u = written.unknown s h in
          let f = get_or-replicate {A = ℕ} symbol_range s (nodes_most + 1) 0 b in
          omega arith;
    }

    pub shape-bounded : (bound : ℕ) → BoundOf ranks ws bound → (low : ℕ) → low ≡ min (length ws) bound
        → ShapeOf a ws (record { bound = Ok low; holes = false })
    shape-bounded bound g low e =
        let t = g.tree a ranks-of in
        record {
          fault = sym t.fault;
          low =
              let h = t.low in
              let n = height-few (arity a) ws in
              omega arith;
          holes = sym t.free;
        }
