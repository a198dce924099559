-- Laws of a run of words: how high the trees are that it leaves, place by place.
use Rattle.std.proofs.Common.{◌≡◌, ℕ, zero, suc, ◌+◌, ◌-◌, ◌%◌, ◌^◌, ◌<◌, ◌≤◌, min, true, false, ◌&&◌, leb, List, [], ◌∷◌, ◌++◌, length, get_or, take, drop, sym, refl, ap, ◌∙◌, subst, add-one, arith, length-append, length-drop, take-suc, lt-ltb, eq-eqb, leb-false, leb-true}
use Rattle.std.specs.Int.{from_bool}
use native.Mathlib.Decide.{dec_lt}
use lib.Seq.{take-length}
use Rattle.words.specs.Lists.{all, count, highest}
use Rattle.words.specs.Limits.{nodes_most}
use Rattle.words.specs.Word.{node_kind, is_of}
use Rattle.words.specs.Alphabet.{is_symbol, is_hole}
use Rattle.words.specs.Shape.{trees_by, value_on_by, stack_after_by, height_over}
use Rattle.words.specs.Postfix.{arity, value_on}
use Rattle.words.specs.Chapter.{symbol_of, is_node, holes_in}
use Rattle.words.proofs.TestLaws.{Tested, holds, fails, tested, true-and, all_append}
use Rattle.words.proofs.WordLaws.{is_node-facts}
use Rattle.words.proofs.HighestLaws.{highest-reverse}
use Rattle.words.proofs.StackLaws.{stack-append}
use Rattle.words.proofs.PostfixLaws.{trees-snoc}
use Rattle.words.proofs.HoleLaws.{append-holes}
use Rattle.syntax.specs.HeightStack.{heights_after, heights_after_word}
use Rattle.bounds.specs.Runs.{RanksOf, AtPlaces, InRun, RunRead, RunOf, RunReadable}
use Rattle.bounds.proofs.ElementLaws.{counted-at}

-- ---- properties of places and heights

pub at_drop : (P : ℕ → ℕ → Type 0) (n : ℕ) (s : List ℕ) → AtPlaces P s → AtPlaces P (drop n s)
at_drop P zero s g = g
at_drop P (suc n) [] g = g
at_drop P (suc n) (h ∷ s) g = at_drop P n s g.1

pub at_map : (P Q : ℕ → ℕ → Type 0) (s : List ℕ) → ((p h : ℕ) → p ≤ length s → P p h → Q p h) → AtPlaces P s → AtPlaces Q s
at_map P Q [] f g = tt
at_map P Q (h ∷ s) f g = (f (suc (length s)) h (omega arith) g.0, at_map P Q s (λ p x l k. f p x (omega arith) k) g.1)

-- the highest of the n trees on top
at-highest : (P : ℕ → ℕ → Type 0) (most n : ℕ) (s : List ℕ) → ((p h : ℕ) → length s < p + n → P p h → h ≤ most) → AtPlaces P s
    → highest (take n s) ≤ most
unfolding highest
at-highest P most zero s f g = omega arith
at-highest P most (suc n) [] f g = omega arith
at-highest P most (suc n) (h ∷ s) f g =
    let q = f (suc (length s)) h (omega arith) g.0 in
    let r = at-highest P most n s (λ p x l k. f p x (omega arith) k) g.1 in
    omega arith

-- ---- one word, of c children, behind n words of the run

module _ (bound : ℕ → ℕ) (before fewest high joined n : ℕ) (room : suc n ≤ high) (s : List ℕ) (c : ℕ) (enough : c ≤ length s)
    (g : AtPlaces (InRun bound fewest (high + joined) n) s) where
  abbrev top : ℕ
  top = length s - c + 1

  -- it takes trees of the run's words alone
  word-fresh : (v : ℕ) → v ≡ suc (highest (take c s)) → fewest < top
      → AtPlaces (InRun bound fewest (high + joined) (suc n)) (v ∷ drop c s)
  word-fresh v e l =
      let d = length-drop c s in
      let q = at-highest (InRun bound fewest (high + joined) n) n c s (λ p h b k. k.fresh (omega arith)) g in (
        record { kept = λ b. absurd (omega arith); low = λ b. omega arith; fresh = λ b. omega arith },
        at_map (InRun bound fewest (high + joined) n) (InRun bound fewest (high + joined) (suc n)) (drop c s)
            (λ p h b k. record { kept = k.kept; low = k.low; fresh = λ l. let q = k.fresh l in omega arith })
            (at_drop (InRun bound fewest (high + joined) n) c s g),
      )

  -- it takes the tree on place `fewest`, or more below it
  word-joined : (v : ℕ) → v ≡ suc (highest (take c s)) → top ≤ fewest → fewest ≤ before
      → ((p : ℕ) → top ≤ p → p ≤ before → bound p ≤ high)
      → AtPlaces (InRun bound top (high + (joined + 1)) (suc n)) (v ∷ drop c s)
  word-joined v e l b f =
      let d = length-drop c s in
      let q = at-highest (InRun bound fewest (high + joined) n) (high + joined) c s (λ p h o k. taken p h o k (dec_lt p fewest)) g in (
        record { kept = λ b. absurd (omega arith); low = λ b. omega arith; fresh = λ b. absurd (omega arith) },
        at_map (InRun bound fewest (high + joined) n) (InRun bound top (high + (joined + 1)) (suc n)) (drop c s)
            (λ p h b k. record { kept = λ o. k.kept (omega arith); low = λ o. absurd (omega arith); fresh = λ o. absurd (omega arith) })
            (at_drop (InRun bound fewest (high + joined) n) c s g),
      )
    where
      taken : (p h : ℕ) → length s < p + c → InRun bound fewest (high + joined) n p h → Dec (p < fewest) → h ≤ high + joined
      taken p h o k (yes y) =
          let x = k.kept y in
          let z = f p (omega arith) (omega arith) in
          omega arith
      taken p h o k (no y) = k.low (omega arith)

-- ---- the run so far

pub run_none : (a : List ℕ) (before : ℕ) → RunRead a [] before before before 0
unfolding trees_by stack_after_by holes_in
run_none a before = record {
  nodes = refl;
  free = refl;
  shape = eq-eqb before before refl;
  long = λ s e. e;
  heights = λ bound high s e w l f.
      at_map (λ p h. h ≤ bound p) (InRun bound before (high + 0) 0) s
      (λ p h b k. record { kept = λ o. k; low = λ o. (let q = f p o (omega arith) in omega arith); fresh = λ o. absurd (omega arith) })
      w;
}

module _ (a l : List ℕ) (before made fewest joined : ℕ) (g : RunRead a l before made fewest joined) (w c : ℕ)
    (node : is_node a w ≡ true) (plain : is_hole a (symbol_of w) ≡ false) (e : c ≡ arity a w) (enough : c ≤ made)
    (below : fewest ≤ before) where
  -- the stack, one word later
  stack-step : (s : List ℕ) → heights_after a (l ++ w ∷ []) s ≡ heights_after_word a w (heights_after a l s)
  unfolding stack_after_by
  stack-step s = stack-append (arity a) height_over l (w ∷ []) s

  value-step : (s : List ℕ) → value_on a height_over w s ≡ suc (highest (take c s))
  unfolding value_on_by height_over
  value-step s = ap suc (highest-reverse (take (arity a w) s) ∙ ap (λ (n : ℕ). highest (take n s)) (sym e))

  word-step : (s : List ℕ) → heights_after a (l ++ w ∷ []) s ≡ value_on a height_over w (heights_after a l s) ∷ drop c (heights_after a l s)
  word-step s = stack-step s ∙ ap (λ (n : ℕ). value_on a height_over w (heights_after a l s) ∷ drop n (heights_after a l s)) (sym e)

  nodes-step : all (is_node a) (l ++ w ∷ []) ≡ true
  nodes-step = all_append (is_node a) l (w ∷ []) g.nodes (true-and (is_node a w) true node refl)

  free_step : holes_in a (l ++ w ∷ []) ≡ false
  unfolding holes_in
  free_step = append-holes a l (w ∷ []) g.free (rw plain)

  shape-step : trees_by (arity a) before (l ++ w ∷ []) (made - c + 1) ≡ true
  shape-step =
      subst (λ (n : ℕ). trees_by (arity a) before (l ++ w ∷ []) (made - n + 1) ≡ true) (sym e)
      (trees-snoc (arity a) l before w made g.shape (subst (λ (n : ℕ). n ≤ made) e enough))

  long-step : (s : List ℕ) → length s ≡ before → length (heights_after a (l ++ w ∷ []) s) ≡ made - c + 1
  long-step s q =
      let d = length-drop c (heights_after a l s) in
      let o = g.long s q in
      ap length (word-step s) ∙ omega arith

  length-step : length (l ++ w ∷ []) ≡ suc (length l)
  length-step = length-append l (w ∷ []) ∙ add-one (length l)

  run-fresh : fewest < made - c + 1 → RunRead a (l ++ w ∷ []) before (made - c + 1) fewest joined
  run-fresh h = record {
    nodes = nodes-step;
    free = free_step;
    shape = shape-step;
    long = long-step;
    heights = λ bound high s q k room f.
        let o = g.long s q in
        let n = length-step in
        rw (word-step s)
        (subst
        (λ (m : ℕ). AtPlaces (InRun bound fewest (high + joined) m)
        (value_on a height_over w (heights_after a l s) ∷ drop c (heights_after a l s)))
        (sym n)
        (word-fresh bound before fewest high joined (length l) (omega arith) (heights_after a l s) c (omega arith)
        (g.heights bound high s q k (omega arith) f)
        (value_on a height_over w (heights_after a l s)) (value-step (heights_after a l s)) (omega arith)));
  }

  run-joined : made - c + 1 ≤ fewest → RunRead a (l ++ w ∷ []) before (made - c + 1) (made - c + 1) (joined + 1)
  run-joined h = record {
    nodes = nodes-step;
    free = free_step;
    shape = shape-step;
    long = long-step;
    heights = λ bound high s q k room f.
        let o = g.long s q in
        let n = length-step in
        let t : length (heights_after a l s) - c + 1 ≡ made - c + 1 = omega arith in
        rw (word-step s)
        (subst
        (λ (m : ℕ). AtPlaces (InRun bound (made - c + 1) (high + (joined + 1)) m)
        (value_on a height_over w (heights_after a l s) ∷ drop c (heights_after a l s)))
        (sym n)
        (subst
        (λ (m : ℕ). AtPlaces (InRun bound m (high + (joined + 1)) (suc (length l)))
        (value_on a height_over w (heights_after a l s) ∷ drop c (heights_after a l s)))
        t
        (word-joined bound before fewest high joined (length l) (omega arith) (heights_after a l s) c (omega arith)
        (g.heights bound high s q k (omega arith) (λ p x y. f p (omega arith) y))
        (value_on a height_over w (heights_after a l s)) (value-step (heights_after a l s)) (omega arith) below (λ p x y. f p (omega arith) y))));
  }

-- ---- ranks in a list

module _ (a ranks : List ℕ) (k : RanksOf a ranks) (w c : ℕ) (kind : is_of node_kind w ≡ true)
    (e : c ≡ get_or ranks (symbol_of w) 0) (few : c ≤ nodes_most) where
  -- a rank that trees can reach is that of a symbol of the alphabet
  known-node : is_node a w ≡ true
  unfolding is_node
  known-node = go (dec_lt (symbol_of w) (length a))
    where
      go : Dec (symbol_of w < length a) → is_of node_kind w && is_symbol a (symbol_of w) ≡ true
      go (yes l) = true-and (is_of node_kind w) (is_symbol a (symbol_of w)) kind (lt-ltb (symbol_of w) (length a) l)
      go (no l) =
          let u = k.unknown (symbol_of w) (omega arith) (omega arith) in
          absurd (omega arith)

  -- and of no hole
  known-plain : is_hole a (symbol_of w) ≡ false
  known-plain = go (tested (is_hole a (symbol_of w)))
    where
      go : Tested (is_hole a (symbol_of w)) → is_hole a (symbol_of w) ≡ false
      go (holds t) =
          let u = k.hole (symbol_of w) (omega arith) t in
          absurd (omega arith)
      go (fails t) = t

  known-arity : c ≡ arity a w
  known-arity =
      let n = is_node-facts a w known-node in
      e ∙ k.known (symbol_of w) (omega arith) n.symbol known-plain ∙ sym n.arity-rank

-- ---- the loop over the words of a run

pub record RunSoFar (ranks ws : List ℕ) (before made fewest joined i : ℕ) : Type 0 where
  pub within : i ≤ length ws
  pub made-most : made ≤ before + i
  pub fewest-most : fewest ≤ before
  pub joined-most : joined ≤ i
  pub some : 0 < i → 0 < made
  pub read : (a : List ℕ) → RanksOf a ranks → RunRead a (take i ws) before made fewest joined

pub so-far-none : (ranks ws : List ℕ) (before : ℕ) → RunSoFar ranks ws before before before 0 0
so-far-none ranks ws before = record {
  within = omega arith;
  made-most = omega arith;
  fewest-most = omega arith;
  joined-most = omega arith;
  some = λ h. absurd (omega arith);
  read = λ a k. run_none a before;
}

module _ {ranks ws : List ℕ} {before made fewest joined i : ℕ} (g : RunSoFar ranks ws before made fewest joined i)
    (room : RunReadable ranks ws before) where
  pub so_far_more : i < length ws → (n : ℕ) → n ≡ count (is_of node_kind) ws → length ws ≤ n
      → (c : ℕ) → c ≡ get_or ranks (symbol_of (get_or ws i 0)) 0 → c ≤ made
      → (m : ℕ) → m ≡ (made - c + 1) % 2 ^ 32 → (j : ℕ) → j ≡ from_bool (leb m fewest) → (f : ℕ) → f ≡ min m fewest
      → RunSoFar ranks ws before m f (joined + j) (i + 1)
  so_far_more h n en all c ec enough m em j ej f ef = go (tested (leb (made - c + 1) fewest))
    where
      whole : m ≡ made - c + 1
      whole = let l = g.made-most in let r = room.few in omega arith

      w : ℕ
      w = get_or ws i 0

      longer : take (i + 1) ws ≡ take i ws ++ w ∷ []
      longer = ap (λ (n : ℕ). take n ws) (add-one i) ∙ take-suc ws i 0 h

      kind : is_of node_kind w ≡ true
      kind = counted-at (is_of node_kind) ws i (omega arith) h

      few : c ≤ nodes_most
      few = let m = g.made-most in let r = room.few in omega arith

      next : (f j : ℕ) → f ≤ before → j ≤ i + 1
          → ((a : List ℕ) → RanksOf a ranks → RunRead a (take i ws ++ w ∷ []) before (made - c + 1) f j)
          → RunSoFar ranks ws before (made - c + 1) f j (i + 1)
      next f j hf hj r = record {
        within = omega arith;
        made-most = let m = g.made-most in omega arith;
        fewest-most = hf;
        joined-most = hj;
        some = λ s. omega arith;
        read = λ a k. rw longer (r a k);
      }

      go : Tested (leb (made - c + 1) fewest) → RunSoFar ranks ws before m f (joined + j) (i + 1)
      go (holds t) =
          let l = leb-true (made - c + 1) fewest t in
          let b = g.fewest-most in
          let m = g.joined-most in
          let one : j ≡ 1 = ej ∙ rw (whole, t) in
          let ej' : joined + j ≡ joined + 1 = omega arith in
          let ef' : f ≡ made - c + 1 = omega (arith, whole) in
          rw (ej', ef', whole)
          (next (made - c + 1) (joined + 1) (omega arith) (omega arith)
          (λ a k.
          run-joined a (take i ws) before made fewest joined (g.read a k) w c
          (known-node a ranks k w c kind ec few) (known-plain a ranks k w c kind ec few) (known-arity a ranks k w c kind ec few)
          enough b l))
      go (fails t) =
          let l = leb-false (made - c + 1) fewest t in
          let b = g.fewest-most in
          let m = g.joined-most in
          let none : j ≡ 0 = ej ∙ rw (whole, t) in
          let ej' : joined + j ≡ joined = omega arith in
          let ef' : f ≡ fewest = omega (arith, whole) in
          rw (ej', ef', whole)
          (next fewest joined b (omega arith)
          (λ a k.
          run-fresh a (take i ws) before made fewest joined (g.read a k) w c
          (known-node a ranks k w c kind ec few) (known-plain a ranks k w c kind ec few) (known-arity a ranks k w c kind ec few)
          enough b l))

  pub so-far-end : length ws ≤ i → RunOf ranks ws before (record { made = made; fewest = fewest; joined = joined })
  so-far-end h =
      let l = g.within in
      let m = g.made-most in
      let q : i ≡ length ws = omega arith in
      let j = g.joined-most in
      record {
        made-most = omega arith;
        fewest-most = g.fewest-most;
        joined-most = omega arith;
        some = λ h. g.some (omega arith);
        read = λ a k.
            subst (λ (l : List ℕ). RunRead a l before made fewest joined) (ap (λ (n : ℕ). take n ws) q ∙ take-length ws) (g.read a k);
      }
