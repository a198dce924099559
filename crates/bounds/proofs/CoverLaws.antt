-- The runs one after the other: the pairs bound every tree that the words so far make.
use Rattle.std.proofs.Common.{◌≡◌, ℕ, ◌+◌, ◌-◌, ◌*◌, ◌<◌, ◌≤◌, min, true, false, List, [], ◌∷◌, ◌++◌, length, get_or, take, drop, sym, refl, ap, ◌∙◌, subst, arith, length-drop, take_all, take-add}
use native.Mathlib.Decide.{ℕ_discrete, dec_lt, dec_le}
use mathlib.Core.List.{append-nil}
use lib.Seq.{take_at, drop_at, drop-drop}
use lib.ListN.{length-append, drop_of_length-le}
use Rattle.std.proofs.lemmas.List.{nil_from_length}
use Rattle.words.specs.Lists.{all, highest}
use Rattle.words.specs.Shape.{trees_by, stack_after_by, height_over, height_of_by}
use Rattle.words.specs.Postfix.{arity, trees}
use Rattle.words.specs.Chapter.{is_node, holes_in}
use Rattle.words.proofs.TestLaws.{all_append}
use Rattle.words.proofs.StackLaws.{stack-append}
use Rattle.words.proofs.PostfixLaws.{trees-append}
use Rattle.words.proofs.AcceptedTree.{accepted-tree}
use Rattle.words.proofs.HoleLaws.{append-holes}
use Rattle.syntax.specs.HeightStack.{heights_after}
use Rattle.bounds.specs.Runs.{run_most, RanksOf, BelowBound, InRun, RunRead, RunReadable, RunOf, TreeReadable, TreeWithin, BoundOf}
use Rattle.bounds.specs.Pairs.{bounds_of, bound_at, FirstPair, RunPuttable, RunPut}
use Rattle.bounds.specs.declared.pairs.Pairs.{Pairs}
use Rattle.bounds.specs.declared.runs.RunFigures.{RunFigures}
use Rattle.bounds.proofs.RunLaws.{at_map}

-- ---- words without holes that make `made` trees, each within the bound of its place

pub record Covered (a ws : List ℕ) (made : ℕ) (bound : ℕ → ℕ) : Type 0 where
  pub nodes : all (is_node a) ws ≡ true
  pub free : holes_in a ws ≡ false
  pub shape : trees a 0 ws made ≡ true
  pub long : length (heights_after a ws []) ≡ made
  pub heights : BelowBound bound (heights_after a ws [])

covered_none : (a : List ℕ) (bound : ℕ → ℕ) → Covered a [] 0 bound
unfolding trees_by stack_after_by holes_in
covered_none a bound = record { nodes = refl; free = refl; shape = refl; long = refl; heights = tt }

-- one run more
module _ (a ws run : List ℕ) (made made' fewest joined high : ℕ) (bound bound' : ℕ → ℕ) (g : Covered a ws made bound)
    (r : RunRead a run made made' fewest joined) where
  covered-run : length run ≤ high → ((p : ℕ) → fewest ≤ p → bound p ≤ high) → ((p : ℕ) → p < fewest → bound' p ≡ bound p)
      → bound' fewest ≡ high + joined → ((p : ℕ) → fewest < p → length run ≤ bound' p) → Covered a (ws ++ run) made' bound'
  covered-run few taken kept at fresh =
      let s = heights_after a ws [] in
      let e = stack-append (arity a) height_over ws run [] in
      record {
        nodes = all_append (is_node a) ws run g.nodes r.nodes;
        free = append-holes a ws run g.free r.free;
        shape = trees-append (arity a) ws run 0 made made' g.shape r.shape;
        long = ap length e ∙ r.long s g.long;
        heights =
            subst (BelowBound bound') (sym e)
            (at_map (InRun bound fewest (high + joined) (length run)) (λ p h. h ≤ bound' p) (heights_after a run s)
            (λ p h l k. place p h k (dec_lt p fewest) (ℕ_discrete p fewest))
            (r.heights bound high s g.long g.heights few (λ p l m. taken p l)));
      }
    where
      place : (p h : ℕ) → InRun bound fewest (high + joined) (length run) p h → Dec (p < fewest) → Dec (p ≡ fewest) → h ≤ bound' p
      place p h k (yes y) z = let q = kept p y in let l = k.kept y in omega arith
      place p h k (no y) (yes z) = let q = k.low (omega arith) in rw (z, at) q
      place p h k (no y) (no z) = let q = k.fresh (omega arith) in let f = fresh p (omega arith) in omega arith

-- a single tree's height is within the bound of place 1
single-low : (bound : ℕ → ℕ) (s : List ℕ) → length s ≡ 1 → BelowBound bound s → get_or s 0 0 ≤ bound 1
single-low bound [] e w = absurd (omega arith)
single-low bound (h ∷ []) e w = w.0
single-low bound (h ∷ x ∷ s) e w = absurd (omega arith)

covered-tree : (a ws : List ℕ) (bound : ℕ → ℕ) → Covered a ws 1 bound → TreeWithin a ws (bound 1)
unfolding height_of_by
covered-tree a ws bound g = record {
  fault = accepted-tree a ws (record { nodes = g.nodes; shape = g.shape });
  free = g.free;
  low = single-low bound (heights_after a ws []) g.long g.heights;
}

-- ---- the loop over the runs

-- `start` counts whole runs, also where the last one is shorter; `rest` are the words to come
pub record RunsSoFar (ranks ws : List ℕ) (pairs : Pairs) (made start : ℕ) (rest : List ℕ) : Type 0 where
  pub rest-is : rest ≡ drop start ws
  pub few : pairs.top * 32 ≤ start
  pub made-most : made ≤ start
  pub some : 0 < start → 0 < made
  pub low : highest (bounds_of pairs.pairs) ≤ run_most + start
  pub covered : (a : List ℕ) → RanksOf a ranks → Covered a (take start ws) made (bound_at pairs)

pub runs_none : (ranks ws : List ℕ) (pairs : Pairs) → FirstPair pairs → (rest : List ℕ) → rest ≡ ws → RunsSoFar ranks ws pairs 0 0 rest
runs_none ranks ws pairs first rest e = record {
  rest-is = e;
  few = let f = first.first in omega arith;
  made-most = omega arith;
  some = λ h. absurd (omega arith);
  low = let l = first.low in omega arith;
  covered = λ a k. covered_none a (bound_at pairs);
}

module _ {ranks ws : List ℕ} {pairs : Pairs} {made start : ℕ} {rest : List ℕ} (g : RunsSoFar ranks ws pairs made start rest)
    (room : TreeReadable ranks ws) where
  rest_long : length rest ≡ length ws - start
  rest_long = ap length g.rest-is ∙ length-drop start ws

  -- the words of the next run, and those behind it
  module _ (run behind : List ℕ) (cut : rest ≡ run ++ behind) (size : length run ≡ min run_most (length rest)) (some : 0 < length rest) where
    run_is : run ≡ take run_most (drop start ws)
    run_is = sym (ap (take run_most) (sym g.rest-is ∙ cut) ∙ go (dec_le run_most (length rest)))
      where
        go : Dec (run_most ≤ length rest) → take run_most (run ++ behind) ≡ run
        go (yes h) = take_at run behind run_most (omega arith)
        go (no h) =
            let n = ap length cut ∙ length-append run behind in
            let z : behind ≡ [] = nil_from_length behind (omega arith) in
            rw z (rw (append-nil run) (take_all run_most run (omega arith)))

    behind_is : behind ≡ drop (start + run_most) ws
    behind_is = sym (sym (drop-drop run_most start ws) ∙ ap (drop run_most) (sym g.rest-is ∙ cut) ∙ go (dec_le run_most (length rest)))
      where
        go : Dec (run_most ≤ length rest) → drop run_most (run ++ behind) ≡ behind
        go (yes h) = drop_at run behind run_most (omega arith)
        go (no h) =
            let n = ap length cut ∙ length-append run behind in
            let z : behind ≡ [] = nil_from_length behind (omega arith) in
            rw z (rw (append-nil run) (drop_of_length-le run {i = run_most} (omega arith)))

    pub run_room : RunReadable ranks run made
    run_room =
        let m = g.made-most in
        let f = room.few in
        let l = rest_long in
        record { symbols = room.symbols; few = omega arith }

    module _ (r : RunFigures) (read : RunOf ranks run made r) where
      pub pairs_puttable : RunPuttable pairs r.fewest r.joined
      pairs_puttable =
          let f = g.few in
          let l = g.low in
          let m = g.made-most in
          let n = room.few in
          let o = rest_long in
          let fm = read.fewest-most in
          let jm = read.joined-most in
          record { room = omega arith; fewest-low = omega arith; bounds-low = omega arith }

      pub runs_more : (pairs' : Pairs) → RunPut pairs r.fewest r.joined pairs' → RunsSoFar ranks ws pairs' r.made (start + run_most) behind
      runs_more pairs' put =
          let f = g.few in
          let l = g.low in
          let m = g.made-most in
          let n = room.few in
          let o = rest_long in
          let mm = read.made-most in
          let jm = read.joined-most in
          let pf = put.few in
          let pl = put.low in
          let pw = put.words in
          record {
            rest-is = behind_is;
            few = omega arith;
            made-most = omega arith;
            some = λ s. read.some (omega arith);
            low = omega arith;
            covered = λ a k.
                rw (take-add start run_most ws, ← run_is)
                (covered-run a (take start ws) run made r.made r.fewest r.joined put.high
                (bound_at pairs) (bound_at pairs') (g.covered a k) (read.read a k)
                (omega arith) put.taken put.kept put.at
                (λ p q. let u = put.fresh p q in omega arith));
          }

  -- all words are read
  pub runs_end : length rest ≡ 0 → made ≤ 1 → (bound : ℕ) → bound ≡ bound_at pairs 1 → BoundOf ranks ws bound
  runs_end h few bound e = record {
    tree = λ a k.
        let l = rest_long in
        let r = room.some in
        let m = g.some (omega arith) in
        let one : made ≡ 1 = omega arith in
        rw e
        (covered-tree a ws (bound_at pairs)
        (subst (λ (l : List ℕ). Covered a l 1 (bound_at pairs)) (take_all start ws (omega arith))
        (subst (λ (n : ℕ). Covered a (take start ws) n (bound_at pairs)) one (g.covered a k))));
  }
