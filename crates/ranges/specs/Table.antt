-- The ranges of the machine data: document 01, "Machine data", W1, W3 and W6.
use Rattle.std.specs.Prelude.{ℕ, List, [], ◌∷◌, ◌++◌, Bool, not, cond, ◌&&◌, ◌||◌, ℤ, pos, negsuc, leb, ltb, eqb}
use Rattle.std.specs.Int.Signed.{le_z}
use Rattle.ranges.specs.declared.Range.{Range}

-- "51 data, numbers 0 to 50"; W1: "the list head then says 67"; W3: data 67 and 68 "are added"; W6: data 69 to 71. How many data the longest list has
abbrev pub data_count : ℕ
data_count = 72

-- a row of the table: the data up to number `last`, from the row before on
pub record Row : Type 0 where
  pub last : ℕ
  pub low : ℤ
  pub high : ℤ

abbrev pub to : ℕ → ℤ → ℕ → Row
to last low high = record { last = last; low = low; high = pos high }

-- "±100,000,000"
abbrev pub position : ℕ → Row
position last = to last (negsuc 99_999_999) 100_000_000

-- one row of document 01's table a line; of datum 1, to which requests add functions, the most that it may be
abbrev pub base_rows : ℕ → List Row
base_rows functions =
    -- T
    to 0 (pos 1) 25
    -- functions
    ∷ to 1 (pos 0) functions
    -- standstill tolerance
    ∷ to 2 (pos 0) 100_000
    -- limits SG1 to SG4
    ∷ to 6 (pos 1) 1_000_000
    -- stops of SG1 to SG4
    ∷ to 10 (pos 1) 5
    -- SE1 minus, SE1 plus, SE2 minus, SE2 plus
    ∷ position 14
    -- stop of SE
    ∷ to 15 (pos 1) 3
    -- cams SN1+, SN1-, SN2+ .. SN4-
    ∷ position 23
    -- cam tolerance
    ∷ to 24 (pos 0) 100_000
    -- nx
    ∷ to 25 (pos 0) 1_000_000
    -- allowed position difference
    ∷ to 26 (pos 0) 100_000
    -- delay of a lower selection; allowed input difference
    ∷ to 28 (pos 0) 1_000
    -- times of STOP C, D, E; B to A
    ∷ to 32 (pos 0) 1_000
    -- shutdown speed
    ∷ to 33 (pos 0) 1_000_000
    -- time from F to B
    ∷ to 34 (pos 0) 1_000
    -- override percent 0 to 15
    ∷ to 50 (pos 1) 100
    ∷ []

-- W1: "Data 51 to 58 are the numerators and 59 to 66 the denominators, each 1 to 1000"
abbrev pub gear_rows : List Row
gear_rows = to 58 (pos 1) 1_000 ∷ to 66 (pos 1) 1_000 ∷ []

-- W3: the hysteresis and the filter of n<nx, "Data 67 (0 to 1,000,000 mm/min) and 68 (0 to 1,000 cycles)"
abbrev pub nx_rows : List Row
nx_rows = to 67 (pos 0) 1_000_000 ∷ to 68 (pos 0) 1_000 ∷ []

-- W6: "Data 69 to 71 are tolerance (0 to 100,000), delay (0 to 1,000) and stop (1 to 5)" of safe direction
abbrev pub direction_rows : List Row
direction_rows = to 69 (pos 0) 100_000 ∷ to 70 (pos 0) 1_000 ∷ to 71 (pos 1) 5 ∷ []

-- the whole table: a list of fewer data has its front; W6: "datum 1 may then be up to 63"
abbrev pub rows : List Row
rows = base_rows 63 ++ gear_rows ++ nx_rows ++ direction_rows

-- the row of datum k: the first that goes as far
abbrev pub row_of : List Row → ℕ → Row
row_of [] k = to k (pos 0) 0
row_of (r ∷ rs) k = cond (leb k r.last) r (row_of rs k)

abbrev pub low_of : ℕ → ℤ
low_of k = (row_of rows k).low

abbrev pub high_of : ℕ → ℤ
high_of k = (row_of rows k).high

-- both ends of datum k's range; 0 to 0 past the last
abbrev pub range_of : ℕ → Range
range_of k = record { low = low_of k; high = high_of k }

-- z may be datum k of the longest list; there is none past the last
unfoldable pub in_range : ℕ → ℤ → Bool
in_range k z = ltb k data_count && le_z (low_of k) z && le_z z (high_of k)

-- W6: with function 5 on, which needs data 69 to 71, "datum 1 may then be up to 63": the most that it may be in a list of so many data
abbrev pub most_functions : ℕ → ℤ
most_functions head = cond (leb 72 head) (pos 63) (pos 31)

-- z may be datum k of a list whose head says so many data
unfoldable pub allowed : ℕ → ℕ → ℤ → Bool
allowed head k z = in_range k z && (not (eqb k 1) || le_z z (most_functions head))
