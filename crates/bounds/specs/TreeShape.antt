-- What one pass over words tells of their tree. It serves inner functions.
use Rattle.std.specs.Prelude.{◌≡◌, ℕ, ◌≤◌, List, IfOk}
use Rattle.words.specs.Decoded.{fault_in}
use Rattle.words.specs.Postfix.{height_of}
use Rattle.words.specs.Chapter.{tree_fault, holes_in}
use Rattle.bounds.specs.declared.shape.Shape.{Shape}

-- 10 or 11, or a height that the tree does not exceed; and whether a word is a hole
pub record ShapeOf (a ws : List ℕ) (s : Shape) : Type 0 where
  pub fault : fault_in s.bound ≡ tree_fault a ws
  pub low : IfOk s.bound (λ bound. height_of a ws ≤ bound)
  pub holes : s.holes ≡ holes_in a ws
