-- `index::put_word` meets its contract: that of `key` gives it.
use Rattle.index.proofs.IndexLaws.{put-key, put-none}
use Rattle.index.proofs.put_word.Goals as goal

pub returns-then-at-lt-KEY_COUNT : goal.returns-then-at-lt-KEY_COUNT
returns-then-at-lt-KEY_COUNT c = put-key _ _ _ _ c.key-at.ensures c.if-at-lt-KEY_COUNT.true

pub returns-else-at-lt-KEY_COUNT : goal.returns-else-at-lt-KEY_COUNT
returns-else-at-lt-KEY_COUNT c = put-none _ _ _ _ c.key-at.ensures c.if-at-lt-KEY_COUNT.false
