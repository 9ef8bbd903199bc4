-- A kit's bytes: document 01, "It reads a kit (list A, list B, log; words most significant byte first; at most 65,536 bytes in whole words ..)".
use Rattle.std.specs.Prelude.{ℕ, ◌+◌, ◌*◌, ◌%◌, Bool, ◌&&◌, List, [], ◌∷◌, ◌++◌, length, take, drop, leb, eqb}

-- "at most 65,536 bytes in whole words"
abbrev pub whole_words : ℕ → Bool
whole_words bytes = leb bytes 65_536 && eqb (bytes % 4) 0

-- "words most significant byte first"
abbrev pub big_endian : ℕ → ℕ → ℕ → ℕ → ℕ
big_endian a b c d = a * 16_777_216 + b * 65_536 + c * 256 + d

unfoldable pub words_of : List ℕ → List ℕ
words_of (a ∷ b ∷ c ∷ d ∷ rest) = big_endian a b c d ∷ words_of rest
words_of [] = []
words_of (a ∷ []) = []
words_of (a ∷ b ∷ []) = []
words_of (a ∷ b ∷ c ∷ []) = []

-- words over the front of an output: as many as it has room for, and what stands behind them is not touched
abbrev pub overlaid : List ℕ → List ℕ → List ℕ
overlaid words out = take (length out) words ++ drop (length words) out
