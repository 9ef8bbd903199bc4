-- Numbers as the bench writes them: document 01, "in hexadecimal (cycle decimal; channel words 8 digits, device word without leading zeros)".
use Rattle.std.specs.Prelude.{ℕ, zero, suc, ◌+◌, ◌/◌, ◌%◌, cond, List, [], ◌∷◌, ◌++◌, ltb}
use Rattle.numerals.specs.declared.Base.{Base}
use Rattle.numerals.specs.declared.Base.TheVariants.{Decimal, Hexadecimal}

-- "decimal", "hexadecimal"
abbrev pub radix : Base → ℕ
radix Decimal = 10
radix Hexadecimal = 16

-- the ASCII code of a digit: 0 to 9, then a to f; "hexadecimal is lower case"
unfoldable pub glyph : ℕ → ℕ
glyph d = cond (ltb d 10) (48 + d) (87 + d)

-- the lowest digits of a number, so many, the most significant first: "channel words 8 digits"
unfoldable pub digits : ℕ → ℕ → ℕ → List ℕ
digits base zero n = []
digits base (suc many) n = digits base many (n / base) ++ (glyph (n % base) ∷ [])

-- how many digits a number has: 1 below the base, else one more than n / base has; `most` bounds the recursion
unfoldable pub width_within : ℕ → ℕ → ℕ → ℕ
width_within base zero n = 1
width_within base (suc most) n = cond (ltb n base) 1 (suc (width_within base most (n / base)))

-- a number has no more digits than units
abbrev pub width : ℕ → ℕ → ℕ
width base n = width_within base n n

-- "without leading zeros"
abbrev pub numeral : ℕ → ℕ → List ℕ
numeral base n = digits base (width base n) n
