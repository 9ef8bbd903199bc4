-- The causes of a cycle as rows of a table: document 01, steps 4 and 5.
use Rattle.std.specs.Prelude.{ℕ, ◌≡◌, Bool, true, false, not, cond, ◌&&◌, ◌||◌, eqb}
use mathlib.Core.List.{List, [], ◌∷◌, Memᴰ}
use Rattle.rank.specs.Rank.{stronger_of}
use Rattle.rank.specs.declared.Rank.{Rank}
use Rattle.rank.specs.declared.Rank.TheVariants.{None, A}
use Rattle.causes.specs.declared.Cause.{Cause}
use Rattle.causes.specs.declared.Summary.{Summary}

-- a row: a code, whether the cause stands, and its rank
abbrev pub cause : ℕ → Bool → Rank → Cause
cause code stands rank = record { code = code; stands = stands; rank = rank }

-- "Unusable: cause 1, rank 5": the table of a cycle that cannot be used
abbrev pub unusable_table : List Cause
unusable_table = cause 1 true A ∷ []

-- causes 2 to 14: how many rows the table of a usable cycle has
abbrev pub row_count : ℕ
row_count = 13

-- a table's rows taken into something, one behind the other
abbrev pub over_rows : {S : Type 0} → (Cause → S → S) → List Cause → S → S
over_rows take_in [] s = s
over_rows take_in (c ∷ cs) s = over_rows take_in cs (take_in c s)

-- "the strongest cause" of those that stand
unfoldable pub strongest_of : List Cause → Rank
strongest_of [] = None
strongest_of (c ∷ cs) = stronger_of (cond c.stands c.rank None) (strongest_of cs)

-- a row of the table stands and has rank r
abbrev pub Standing : Rank → List Cause → Type 0
Standing r rows = (c : Cause) × Memᴰ c rows × (c.stands ≡ true) × (r ≡ c.rank)

-- "All but 13 are fresh"
abbrev pub is_fresh : Cause → Bool
is_fresh c = c.stands && not (eqb c.code 13)

-- whether one that stands is fresh
unfoldable pub fresh_of : List Cause → Bool
fresh_of [] = false
fresh_of (c ∷ cs) = is_fresh c || fresh_of cs

-- whether any row stands
abbrev pub stands_or : Cause → Bool → Bool
stands_or c any = cond c.stands true any

abbrev pub any_stands : List Cause → Bool
any_stands rows = over_rows stands_or rows false

-- what step 5 asks of a table
unfoldable pub summary_of : List Cause → Summary
summary_of rows = record { strongest = strongest_of rows; fresh = fresh_of rows }

-- that of no cause
abbrev pub no_summary : Summary
no_summary = record { strongest = None; fresh = false }

-- ---- of the private functions: the same, one row behind the other

unfoldable pub add_to : Cause → Summary → Summary
add_to c s =
    cond c.stands
    (record { strongest = stronger_of s.strongest c.rank; fresh = s.fresh || not (eqb c.code 13) })
    s

abbrev pub summed_from : List Cause → Summary → Summary
summed_from = over_rows add_to
