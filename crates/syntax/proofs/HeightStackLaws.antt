-- Laws of the stack of heights in an array.
use mathlib.Core.Path.{◌≡◌, refl, ap, ap₂, ◌∙◌, sym}
use mathlib.Core.List.{List, [], ◌∷◌, ◌++◌, reverse, reverse-append, reverse-reverse}
use Prim.Native.Nat.{ℕ, suc, ◌+◌, ◌-◌, ◌<◌, ◌≤◌}
use native.Mathlib.Omega.{arith}
use native.Mathlib.Numerals.{add-one}
use lib.ListN.{length, get_or, take, drop, set, length-drop, length-reverse}
use lib.Seq.{slice, take-suc, take_all, length-take-le}
use Rattle.words.specs.Lists.{highest}
use Rattle.words.specs.Limits.{nodes_most}
use Rattle.words.specs.Shape.{value_on_by, stack_after_by, height_over}
use Rattle.words.specs.Postfix.{arity, value_on, height_of}
use Rattle.words.proofs.ListLaws.{take-reverse, drop-reverse, take-pushed-at}
use Rattle.words.proofs.ScanLaws.{take-drop}
use Rattle.words.proofs.StackLaws.{stack-append}
use Rattle.words.proofs.HighestLaws.{highest-take, highest-reverse}
use Rattle.words.proofs.HeightLaws.{highest-after, height-runs}
use Rattle.syntax.specs.HeightStack.{stack_in, heights_after, heights_after_word, word_most}

-- ---- a stack in an array

module _ (array : List ℕ) (top : ℕ) (within : top ≤ length array) where
  abbrev stack : List ℕ
  stack = stack_in array top

  pub length-stack : length stack ≡ top
  length-stack = length-reverse (take top array) ∙ length-take-le top array within

  -- the part of the array that has it
  part : take top array ≡ reverse stack
  part = sym (reverse-reverse (take top array))

  -- the r heights on top, from left to right
  stack-slice : (r : ℕ) → slice (top - r) top array ≡ reverse (take r stack)
  stack-slice r =
      ap (drop (top - r)) part ∙ ap (λ (n : ℕ). drop (n - r) (reverse stack)) (sym length-stack) ∙ drop-reverse r stack

  -- r heights are taken and one is put in their place: one store
  stack-put : (r v : ℕ) → top - r < length array → stack_in (set array (top - r) v) (top - r + 1) ≡ v ∷ drop r stack
  stack-put r v room =
      ap reverse
      (take-pushed-at array top (top - r) v part (omega arith) room
      ∙ ap (λ (n : ℕ). take (n - r) (reverse stack) ++ v ∷ []) (sym length-stack)
      ∙ ap (λ (l : List ℕ). l ++ v ∷ []) (take-reverse r stack))
      ∙ reverse-append (reverse (drop r stack)) (v ∷ [])
      ∙ ap (λ (l : List ℕ). v ∷ l) (reverse-reverse (drop r stack))

  -- ---- one word: `high` is the highest of the heights that it takes

  module _ (a : List ℕ) (w r : ℕ) (e : r ≡ arity a w) (below : ℕ) (b : below ≡ top - r) (high : ℕ)
      (k : high ≡ highest (take (top - below) (drop below array))) where
    high_is : high ≡ highest (reverse (take r stack))
    high_is =
        k ∙ ap highest (take-drop below top array (omega arith) ∙ ap (λ (n : ℕ). slice n top array) b ∙ stack-slice r)

    pub word_low : high ≤ highest stack
    word_low =
        let p = highest-reverse (take r stack) in
        let q = highest-take r stack in
        omega (arith, high_is)

    value-is : high + 1 ≡ value_on a height_over w stack
    unfolding value_on_by height_over
    value-is = add-one high ∙ ap suc (high_is ∙ ap (λ (n : ℕ). highest (reverse (take n stack))) e)

    pub word-pushed : below < length array → stack_in (set array below (high + 1)) (below + 1) ≡ heights_after_word a w stack
    word-pushed room =
        ap (λ (n : ℕ). stack_in (set array n (high + 1)) (n + 1)) b
        ∙ stack-put r (high + 1) (omega arith)
        ∙ ap₂ (λ (v n : ℕ). v ∷ drop n stack) value-is e

-- ---- a run of words

module _ (a : List ℕ) where
  pub length-after : (ws s : List ℕ) → length (heights_after a ws s) ≤ length s + length ws
  unfolding stack_after_by
  length-after [] s = omega arith
  length-after (w ∷ ws) s =
      let h = length-after ws (heights_after_word a w s) in
      let d = length-drop (arity a w) s in
      omega arith

  -- one word more
  after_more : (ws s : List ℕ) (i : ℕ) → i < length ws
      → heights_after a (take (i + 1) ws) s ≡ heights_after_word a (get_or ws i 0) (heights_after a (take i ws) s)
  unfolding stack_after_by
  after_more ws s i h =
      ap (λ (l : List ℕ). heights_after a l s) (ap (λ (n : ℕ). take n ws) (add-one i) ∙ take-suc ws i 0 h)
      ∙ stack-append (arity a) height_over (take i ws) (get_or ws i 0 ∷ []) s

  pub read-none : (ws s : List ℕ) → s ≡ heights_after a (take 0 ws) s
  unfolding stack_after_by
  read-none ws s = refl

  pub read-end : (ws s₀ s : List ℕ) (i : ℕ) → s ≡ heights_after a (take i ws) s₀ → length ws ≤ i → s ≡ heights_after a ws s₀
  read-end ws s₀ s i e h = e ∙ ap (λ (l : List ℕ). heights_after a l s₀) (take_all i ws h)

  module _ (ws s₀ s : List ℕ) (i : ℕ) (e : s ≡ heights_after a (take i ws) s₀) (h : i < length ws) where
    -- the stack behind i words has a place for one more, and heights that are low enough
    pub read-room : (most : ℕ) → length s₀ + length ws ≤ most → length s < most
    read-room most room =
        let n = length-take-le i ws (omega arith) in
        let p = length-after (take i ws) s₀ in
        rw e (omega arith)

    pub read-low : (most : ℕ) → highest s₀ + length ws ≤ most → highest s < most
    read-low most low =
        let n = length-take-le i ws (omega arith) in
        let p = highest-after (arity a) (take i ws) s₀ in
        rw e (omega arith)

    pub read-more : (s' : List ℕ) → s' ≡ heights_after_word a (get_or ws i 0) s → s' ≡ heights_after a (take (i + 1) ws) s₀
    read-more s' k = k ∙ ap (heights_after_word a (get_or ws i 0)) e ∙ sym (after_more ws s₀ i h)

-- ---- three runs of words, one behind the other, from an empty stack on

module _ (a before place behind s₁ : List ℕ) (most : ℕ) (room : length before + length place + length behind ≤ most)
    (few : most ≤ nodes_most) (e₁ : s₁ ≡ heights_after a before []) where
  pub second-room : length s₁ + length place ≤ most
  second-room = let p = length-after a before [] in rw e₁ (omega arith)

  pub second-low : highest s₁ + length place ≤ word_most
  unfolding highest
  second-low = let p = highest-after (arity a) before [] in rw e₁ (omega arith)

  module _ (s₂ : List ℕ) (e₂ : s₂ ≡ heights_after a place s₁) where
    pub third-room : length s₂ + length behind ≤ most
    third-room =
        let p = length-after a before [] in
        let q = length-after a place s₁ in
        omega (arith, ap length e₁, ap length e₂)

    pub third-low : highest s₂ + length behind ≤ word_most
    unfolding highest
    third-low =
        let p = highest-after (arity a) before [] in
        let q = highest-after (arity a) place s₁ in
        omega (arith, ap highest e₁, ap highest e₂)

    pub runs-top : (s₃ : List ℕ) → s₃ ≡ heights_after a behind s₂ → get_or s₃ 0 0 ≡ height_of a (before ++ (place ++ behind))
    runs-top s₃ e₃ =
        ap (λ (s : List ℕ). get_or s 0 0)
        (e₃ ∙ ap (heights_after a behind) (e₂ ∙ ap (heights_after a place) e₁))
        ∙ sym (height-runs (arity a) before place behind)
