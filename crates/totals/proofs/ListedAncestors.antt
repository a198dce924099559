-- The loop that lists the ancestors of a node by their numbers.
use mathlib.Core.Path.{◌≡◌, refl, ap, ap₂, ◌∙◌, sym}
use mathlib.Core.Bool.{Bool, true, false, cond}
use mathlib.Core.List.{List, [], ◌∷◌, ◌++◌}
use Prim.Native.Nat.{ℕ, suc, ◌+◌, ◌-◌, ◌<◌, ◌≤◌}
use native.Mathlib.Omega.{arith}
use native.Mathlib.Numerals.{add-one}
use lib.ListN.{length, get_or, take, drop, length-append}
use lib.Dec.{ltb}
use lib.Seq.{sets, sets-eq, take_at, drop-append-add, drop-drop}
use borrow.Author.Tests.{lt-ltb, le-ltb, ltb-true, ltb-false}
use Rattle.words.specs.Lists.{written_over}
use Rattle.words.specs.Postfix.{arity, is_ancestor}
use Rattle.words.proofs.TestLaws.{Tested, holds, fails, tested}
use Rattle.words.proofs.HoldingLaws.{HoldingTree, holding-first, takes-others, holding-others, takes-holding, holding-ancestor}
use Rattle.totals.specs.Listed.{reach_past, number_at, Listable, NodeListable}
use Rattle.totals.specs.Place.{numbers_where, ancestors_of}
use Rattle.totals.proofs.NumberLaws.{numbers_more, numbers-grow}
use Rattle.totals.proofs.PlaceLaws.{word-kind}

-- ---- one node

module _ (a ch : List ℕ) (j reach k : ℕ) (e : k ≡ arity a (get_or ch j 0)) where
  module _ (h : k < reach) where
    lower : ltb (arity a (get_or ch j 0)) reach ≡ true
    lower = rw (← e) (lt-ltb k reach h)

    pub reach-beside : reach - k + 1 ≡ reach_past a ch j reach
    unfolding reach_past
    reach-beside = rw (lower, e)

    pub number-beside : number_at a ch j reach ≡ []
    unfolding number_at
    number-beside = rw lower

  module _ (h : reach ≤ k) where
    higher : ltb (arity a (get_or ch j 0)) reach ≡ false
    higher = rw (← e) (le-ltb k reach h)

    pub reach-ancestor : 1 ≡ reach_past a ch j reach
    unfolding reach_past
    reach-ancestor = rw higher

    pub number-ancestor : number_at a ch j reach ≡ j ∷ []
    unfolding number_at
    number-ancestor = rw higher

-- ---- words written behind others

over-more : (ms one list₀ list : List ℕ) (found : ℕ) → found ≡ length ms → list ≡ written_over ms list₀
    → found + length one ≤ length list → sets list found one ≡ written_over (ms ++ one) list₀
over-more ms one list₀ list found count words inside =
    sets-eq one list found inside
    ∙ ap₂ (λ (u v : List ℕ). (u ++ one) ++ v) (ap (take found) words ∙ take_at ms (drop (length ms) list₀) found (sym count))
    (ap₂ (λ (k : ℕ) (l : List ℕ). drop (k + length one) l) count words ∙ drop-append-add ms (drop (length ms) list₀) (length one)
    ∙ drop-drop (length one) (length ms) list₀ ∙ ap (λ (k : ℕ). drop k list₀) (sym (length-append ms one)))

-- ---- the loop

-- the ancestors of node i before node j stand at the front of the list
pub record ListedTo (a ch : List ℕ) (i : ℕ) (list₀ list : List ℕ) (reach found j : ℕ) : Type 0 where
  pub low : i < j
  pub high : j ≤ length ch
  pub some : 0 < reach
  pub few-reached : reach ≤ j
  pub holding : HoldingTree (arity a) ch i j (reach - 1)
  pub long : length list ≡ length list₀
  pub count : found ≡ length (numbers_where (is_ancestor a ch i) (i + 1) (j - (i + 1)))
  pub words : list ≡ written_over (numbers_where (is_ancestor a ch i) (i + 1) (j - (i + 1))) list₀

module _ (a ch : List ℕ) (i : ℕ) (list₀ : List ℕ) where
  abbrev above : ℕ → Bool
  above = is_ancestor a ch i

  abbrev numbers_to : ℕ → List ℕ
  numbers_to j = numbers_where above (i + 1) (j - (i + 1))

  pub listed-none : i < length ch → ListedTo a ch i list₀ list₀ 1 0 (i + 1)
  listed-none l =
      let z : i + 1 - (i + 1) ≡ 0 = omega arith in
      record {
        low = omega arith;
        high = omega arith;
        some = omega arith;
        few-reached = omega arith;
        holding = holding-first (arity a) ch i;
        long = refl;
        count = rw z refl;
        words = rw z refl;
      }

  module _ (list : List ℕ) (reach found j : ℕ) (g : ListedTo a ch i list₀ list reach found j) where
    module _ (l : j < length ch) where
      r : ℕ
      r = arity a (get_or ch j 0)

      numbers-next : (b : Bool) → above j ≡ b → numbers_to (j + 1) ≡ numbers_to j ++ cond b (j ∷ []) []
      numbers-next b h =
          let low = g.low in
          let next : j + 1 - (i + 1) ≡ suc (j - (i + 1)) = omega arith in
          let place : i + 1 + (j - (i + 1)) ≡ j = omega arith in
          ap (numbers_where above (i + 1)) next ∙ numbers_more above (j - (i + 1)) (i + 1)
          ∙ ap (λ (k : ℕ). numbers_to j ++ cond (above k) (k ∷ []) []) place
          ∙ ap (λ (x : Bool). numbers_to j ++ cond x (j ∷ []) []) h

      -- the roots behind, and the ancestors with this node's number
      record Next : Type 0 where
        some : 0 < reach_past a ch j reach
        few-reached : reach_past a ch j reach ≤ j + 1
        holding : HoldingTree (arity a) ch i (j + 1) (reach_past a ch j reach - 1)
        numbers : numbers_to (j + 1) ≡ numbers_to j ++ number_at a ch j reach

      next : Next
      unfolding reach_past number_at r
      next = go (tested (ltb r reach))
        where
          some : 0 < reach
          some = g.some

          reached : reach ≤ j
          reached = g.few-reached

          go : Tested (ltb r reach) → Next
          go (holds b) =
              let less = ltb-true r reach b in
              let q : reach - 1 - r + 1 ≡ reach - r + 1 - 1 = omega arith in
              record {
                some = rw b (omega arith);
                few-reached = rw b (omega arith);
                holding = rw (b, add-one j, ← q) (holding-others (arity a) ch i j (reach - 1) g.holding (omega arith));
                numbers =
                    numbers-next false (takes-others (arity a) ch i j (reach - 1) g.holding (omega arith))
                    ∙ ap (λ (x : Bool). numbers_to j ++ cond x [] (j ∷ [])) (sym b);
              }
          go (fails b) =
              let most = ltb-false r reach b in
              record {
                some = rw b (omega arith);
                few-reached = rw b (omega arith);
                holding = rw (b, add-one j) (holding-ancestor (arity a) ch i j (reach - 1) g.holding (omega arith));
                numbers =
                    numbers-next true (takes-holding (arity a) ch i j (reach - 1) g.holding (omega arith))
                    ∙ ap (λ (x : Bool). numbers_to j ++ cond x [] (j ∷ [])) (sym b);
              }

      -- no more than all ancestors
      pub listed-room : length (ancestors_of a ch i) ≤ length list₀ → found + length (number_at a ch j reach) ≤ length list
      unfolding ancestors_of
      listed-room most =
          let low = g.low in
          let long = g.long in
          let count = g.count in
          let rest : j + 1 - (i + 1) + (length ch - (j + 1)) ≡ length ch - (i + 1) = omega arith in
          let grown : length (numbers_to (j + 1)) ≤ length (numbers_where above (i + 1) (length ch - (i + 1)))
          = rw (← rest) (numbers-grow above (j + 1 - (i + 1)) (length ch - (j + 1)) (i + 1)) in
          let joined : length (numbers_to (j + 1)) ≡ length (numbers_to j) + length (number_at a ch j reach)
          = ap length next.numbers ∙ length-append (numbers_to j) (number_at a ch j reach) in
          omega arith

      pub listed_more : found + length (number_at a ch j reach) ≤ length list → (list' : List ℕ) (reach' found' : ℕ)
          → reach' ≡ reach_past a ch j reach → found' ≡ found + length (number_at a ch j reach)
          → list' ≡ sets list found (number_at a ch j reach) → length list' ≡ length list → ListedTo a ch i list₀ list' reach' found' (j + 1)
      listed_more room list' reach' found' er ef el long =
          let low = g.low in
          let ms = numbers_to j in
          let one = number_at a ch j reach in
          record {
            low = omega arith;
            high = omega arith;
            some = rw er next.some;
            few-reached = rw er next.few-reached;
            holding = rw er next.holding;
            long = long ∙ g.long;
            count =
                ef ∙ ap (λ (k : ℕ). k + length one) g.count ∙ sym (length-append ms one) ∙ ap length (sym next.numbers);
            words =
                el ∙ over-more ms one list₀ list found g.count g.words room
                ∙ ap (λ (l : List ℕ). written_over l list₀) (sym next.numbers);
          }

    pub listed_at : Listable a ch i (length list₀) → j < length ch → NodeListable a ch j (length list) reach found
    listed_at pre l =
        let few = pre.few in
        let reached = g.few-reached in
        record {
          kind = word-kind a ch pre.tree j l;
          inside = l;
          small = omega arith;
          few-reached = omega arith;
          room = listed-room l pre.room;
        }

    module _ (l : length ch ≤ j) where
      last : j ≡ length ch
      last = let high = g.high in omega arith

      pub listed-count : found ≡ length (ancestors_of a ch i)
      unfolding ancestors_of
      listed-count = g.count ∙ ap (λ (k : ℕ). length (numbers_to k)) last

      pub listed-words : list ≡ written_over (ancestors_of a ch i) list₀
      unfolding ancestors_of
      listed-words = g.words ∙ ap (λ (k : ℕ). written_over (numbers_to k) list₀) last
