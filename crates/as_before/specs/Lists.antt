-- A list as it was read before a request that added data: by the front of the table that there was, and by its heads. Its data stand in the first of the
-- places that there are now; the others hold 0, as they do in a refused list. Document 01, "Machine data" and "Words".
use Rattle.std.specs.Prelude.{ℕ, zero, suc, ◌+◌, Bool, false, cond, ◌&&◌, ◌||◌, List, [], ◌∷◌, ◌++◌, set, ℤ, leb, Result, Ok, Err}
use Rattle.std.specs.Int.Signed.{le_z}
use Rattle.refusal.specs.declared.Refusal.{Refusal}
use Rattle.refusal.specs.declared.Refusal.TheVariants.{WrongWord, OutOfRange}
use Rattle.words.specs.Words.{word_at}
use Rattle.words.specs.Cases.{if_head}
use Rattle.ranges.specs.Table.{Row, base_rows, gear_rows, nx_rows, row_of}
use Rattle.datum.specs.declared.Datum.{Datum}
use Rattle.datum.specs.Datum.{units_of, datum_at}
use Rattle.list.specs.declared.ListRead.{ListRead}
use Rattle.list.specs.Rules.{among}
use Rattle.list.specs.Reading.{zeros, refused_list, ends, on_value}

-- a table has datum k: some row goes as far
abbrev pub reaches : List Row → ℕ → Bool
reaches [] k = false
reaches (r ∷ rs) k = leb k r.last || reaches rs k

module _ (table : List Row) where
  -- z may be datum k, by this table
  abbrev pub in_range_by : ℕ → ℤ → Bool
  in_range_by k z = reaches table k && le_z (row_of table k).low z && le_z z (row_of table k).high

  -- "per datum 1, 2, 3, 4"
  abbrev pub of_units_by : ℕ → ℕ → ℕ → Result ℤ Refusal → Result (ℤ × ℕ) Refusal
  of_units_by k at next (Ok z) = cond (in_range_by k z) (Ok (z, next)) (Err (OutOfRange at))
  of_units_by k at next (Err why) = Err why

  abbrev pub of_read_by : ℕ → ℕ → Result (Datum × ℕ) ℕ → Result (ℤ × ℕ) Refusal
  of_read_by k at (Ok (d, next)) = of_units_by k at next (units_of d at)
  of_read_by k at (Err place) = Err (WrongWord place)

  unfoldable pub value_by : List ℕ → ℕ → ℕ → Result (ℤ × ℕ) Refusal
  value_by s k at = of_read_by k at (datum_at s k at)

  -- "The first faulty datum gives the answer"
  unfoldable pub gather_by : ℕ → List ℕ → ℕ → ℕ → List ℤ → ListRead
  gather_by zero s k at vs = ends s (record { values = vs; count = k }) at
  gather_by (suc n) s k at vs = on_value (value_by s k at) (λ z next. gather_by n s (k + 1) next (set vs k z))

  -- "A list is a head and the data in number order", with one of these heads
  unfoldable pub read_by : List ℕ → List ℕ → ListRead
  read_by heads s = if_head (word_at s 0) (λ n. cond (among n heads) (gather_by n s 0 1 zeros) (refused_list (WrongWord 0))) (refused_list (WrongWord 0))

-- before W1: "51 data, numbers 0 to 50"; "list head, value 51"
abbrev pub heads51 : List ℕ
heads51 = 51 ∷ []

abbrev pub read51 : List ℕ → ListRead
read51 = read_by (base_rows 31) heads51

-- before W3: W1's data too; "the list head then says 67"
abbrev pub heads67 : List ℕ
heads67 = 51 ∷ 67 ∷ []

abbrev pub read67 : List ℕ → ListRead
read67 = read_by (base_rows 31 ++ gear_rows) heads67

-- before W6: W3's data too; datum 1 goes up to 31
abbrev pub heads69 : List ℕ
heads69 = 51 ∷ 67 ∷ 69 ∷ []

abbrev pub read69 : List ℕ → ListRead
read69 = read_by (base_rows 31 ++ gear_rows ++ nx_rows) heads69
