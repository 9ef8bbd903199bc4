-- The lines of a run: document 01, "A line is the cycle from 1, A's word, B's word, the device word".
use Rattle.std.specs.Prelude.{ℕ, suc, ◌+◌, List, [], ◌∷◌, ◌++◌, get_or, take}
use Rattle.lines.specs.declared.Line.{Line}
use Rattle.lines.specs.Lines.{cycle_line}

-- a line for each three words of a run, from a cycle's number on
unfoldable pub lines_from : ℕ → List ℕ → List ℕ
lines_from cycle (a ∷ b ∷ device ∷ rest) = cycle_line (record { cycle = cycle; a = a; b = b; device = device }) ++ lines_from (suc cycle) rest
lines_from cycle [] = []
lines_from cycle (a ∷ []) = []
lines_from cycle (a ∷ b ∷ []) = []

-- "the cycle from 1"; of a run no more than 2,340 cycles are listed, as many as 16,384 words of log can hold
abbrev pub run_text : List ℕ → List ℕ
run_text words = lines_from 1 (take 7_020 words)

-- ---- of the private functions

-- the line of a cycle, counted from 0, by its three words
abbrev pub line_of : ℕ → List ℕ → Line
line_of i words = record { cycle = i + 1; a = get_or words 0 0; b = get_or words 1 0; device = get_or words 2 0 }

-- the lines of cycles by their words, from cycle i on
abbrev pub lines_of : ℕ → List (List ℕ) → List ℕ
lines_of i [] = []
lines_of i (words ∷ rest) = cycle_line (line_of i words) ++ lines_of (i + 1) rest
