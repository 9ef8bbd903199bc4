-- The bench's lines: document 01, "A line is the cycle from 1, A's word, B's word, the device word, in hexadecimal (cycle decimal; ..)".
use Rattle.std.specs.Prelude.{ℕ, List, [], ◌∷◌, ◌++◌}
use Rattle.numerals.specs.Numerals.{digits, numeral}
use Rattle.lines.specs.declared.Line.{Line}
use Rattle.lines.specs.declared.RefusalLine.{RefusalLine}

-- "Fields stand one space apart"
abbrev pub spaced : List ℕ → List ℕ → List ℕ
spaced field rest = field ++ 32 ∷ rest

-- "and a line feed ends each line"
abbrev pub ended : List ℕ → List ℕ
ended field = field ++ 10 ∷ []

-- "channel words 8 digits, device word without leading zeros"
abbrev pub word_fields : Line → List ℕ
word_fields l = spaced (digits 16 8 l.a) (spaced (digits 16 8 l.b) (ended (numeral 16 l.device)))

-- "cycle decimal"
abbrev pub cycle_line : Line → List ℕ
cycle_line l = spaced (numeral 10 l.cycle) (word_fields l)

-- "`refused`"
abbrev pub refused_word : List ℕ
refused_word = 114 ∷ 101 ∷ 102 ∷ 117 ∷ 115 ∷ 101 ∷ 100 ∷ []

-- "number, place (both decimal) and A, B or L"
abbrev pub refusal_fields : RefusalLine → List ℕ
refusal_fields r = spaced (numeral 10 r.number) (spaced (numeral 10 r.place) (ended (r.letter ∷ [])))

-- "A refusal prints only one line"
abbrev pub refusal_line : RefusalLine → List ℕ
refusal_line r = spaced refused_word (refusal_fields r)
