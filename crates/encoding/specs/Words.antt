-- Words in bytes, low byte first.
use Rattle.std.specs.Prelude.{ℕ, ◌+◌, ◌*◌, ◌/◌, List, Bool, length, get_or, ltb}
use Rattle.words.specs.Lists.{all, list_from}

-- a byte is a number below 256
abbrev pub byte_range : ℕ
byte_range = 256

abbrev pub is_byte : ℕ → Bool
is_byte b = ltb b byte_range

abbrev pub are_bytes : List ℕ → Bool
are_bytes bytes = all is_byte bytes

-- how many bytes a word has: "four bytes each"
abbrev pub word_bytes : ℕ
word_bytes = 4

-- the word of four bytes: "low byte first"
abbrev pub word_from : ℕ → ℕ → ℕ → ℕ → ℕ
word_from first second third fourth = first + byte_range * (second + byte_range * (third + byte_range * fourth))

-- word i
unfoldable pub word_at : List ℕ → ℕ → ℕ
word_at bytes i =
    let first = word_bytes * i in
    word_from (get_or bytes first 0) (get_or bytes (first + 1) 0) (get_or bytes (first + 2) 0) (get_or bytes (first + 3) 0)

-- the whole words of some bytes
unfoldable pub words_in : List ℕ → List ℕ
words_in bytes = list_from (word_at bytes) 0 (length bytes / word_bytes)
