-- What `marklist` reads, and what it prints of all it is given (document 01, "The source's own example").
use Rattle.std.specs.Prelude.{ℕ, ◌+◌, List, Bool, length, get_or, take, drop, leb}
use Rattle.encoding.specs.Words.{words_in}
use Rattle.report.specs.Output.{output_of}

-- the announced words: "three word counts and then alphabet, rule and chapter"
abbrev pub count_in : List ℕ → ℕ → ℕ
count_in input i = get_or (words_in input) i 0

abbrev pub announced : List ℕ → ℕ
announced input = 3 + count_in input 0 + count_in input 1 + count_in input 2

-- all of them are there
unfoldable pub complete : List ℕ → Bool
complete input = leb (announced input) (length (words_in input))

-- `count` words from word `from` on
abbrev pub words_from : List ℕ → ℕ → ℕ → List ℕ
words_from input from count = take count (drop from (words_in input))

unfoldable pub alphabet_in : List ℕ → List ℕ
alphabet_in input = words_from input 3 (count_in input 0)

unfoldable pub rule_in : List ℕ → List ℕ
rule_in input = words_from input (3 + count_in input 0) (count_in input 1)

unfoldable pub chapter_in : List ℕ → List ℕ
chapter_in input = words_from input (3 + count_in input 0 + count_in input 1) (count_in input 2)

-- what the program prints of its whole input: what follows the announced words makes no difference
unfoldable pub program_output : List ℕ → List ℕ
program_output input = output_of (complete input) (alphabet_in input) (rule_in input) (chapter_in input)
