-- `memo::representative::representative` meets its contract: an earlier node is taken only if its words are the same.
use mathlib.Core.Path.{refl}
use Rattle.memo.specs.Memo.{itself}
use Rattle.memo.proofs.RepresentLaws.{represents}
use Rattle.memo.proofs.representative.representative.Goals as goal

pub returns-then-same_words : goal.returns-then-same_words
returns-then-same_words c =
    represents c.requires _ c.if-node-i.true _ c.same_words.ensures c.if-same_words.true

pub returns : goal.returns
returns c = itself refl
