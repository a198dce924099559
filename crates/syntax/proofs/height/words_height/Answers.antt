-- `syntax::height::words_height` meets its contract: few words are read alone; of many the parts before and behind have no words.
use mathlib.Core.Path.{◌∙◌, ap}
use mathlib.Core.List.{List, ◌++◌, append-nil}
use Prim.Native.Nat.{ℕ}
use lib.ListN.{length}
use Rattle.words.specs.Postfix.{height_of}
use Rattle.words.proofs.ScanLaws.{drop-part, drop-end}
use native.Mathlib.Omega.{arith}
use Rattle.syntax.proofs.height.words_height.Goals as goal

pub returns : goal.returns
returns c =
    let q = c.args in
    let ws = q.words.now in
    c.joined_height.ensures
    ∙ ap (λ (l : List ℕ). height_of q.alphabet.now (ws ++ l)) (drop-part ws (length ws) ∙ drop-end ws (length ws) (omega arith))
    ∙ ap (height_of q.alphabet.now) (append-nil ws)
