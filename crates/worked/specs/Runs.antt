-- Short forms for worked cases: lists, and cycles of a channel beside another with the same list.
use Rattle.std.specs.Prelude.{ℕ, zero, suc, false, List, [], ◌∷◌, set, ℤ, pos}
use Rattle.ranges.specs.Table.{low_of}
use Rattle.list.specs.IsList.{filled}
use Rattle.machine_data.specs.declared.MachineData.{MachineData}
use Rattle.seven.specs.declared.CycleRecord.{CycleRecord}
use Rattle.records.specs.Records.{reading}
use Rattle.state.specs.declared.Given.{Given}
use Rattle.demand_3.specs.Calls.{as_a}
use Rattle.demand_3.specs.History.{givens_of, cycle_at}

-- a datum and its value
pub record Entry : Type 0 where
  pub number : ℕ
  pub value : ℤ

abbrev pub is : ℕ → ℕ → Entry
is k n = record { number = k; value = pos n }

-- n data from number k on, each the lowest
abbrev pub lowest : ℕ → ℕ → List ℤ
lowest zero k = []
lowest (suc n) k = low_of k ∷ lowest n (suc k)

abbrev pub with_entries : List ℤ → List Entry → List ℤ
with_entries d [] = d
with_entries d (e ∷ es) = with_entries (set d e.number e.value) es

-- "12 and 14=100,000,000 .. else lowest", and the entries
abbrev pub headed : ℕ → List Entry → MachineData
headed n es = record { values = filled n (with_entries (set (set (lowest n 0) 12 (pos 100_000_000)) 14 (pos 100_000_000)) es); count = n }

unfoldable pub list_of : List Entry → MachineData
list_of es = headed 51 es

-- a cycle of both channels: alike in position and input word, or apart in one of them
abbrev pub alike : ℤ → ℕ → CycleRecord
alike p w = record { a = reading p w; b = reading p w; acknowledged = false }

abbrev pub words_apart : ℕ → ℕ → CycleRecord
words_apart w v = record { a = reading (pos 0) w; b = reading (pos 0) v; acknowledged = false }

abbrev pub positions_apart : ℕ → ℕ → ℕ → CycleRecord
positions_apart p q w = record { a = reading (pos p) w; b = reading (pos q) w; acknowledged = false }

-- the same n times, and others behind
abbrev pub repeated : ℕ → CycleRecord → List CycleRecord → List CycleRecord
repeated zero r rs = rs
repeated (suc n) r rs = r ∷ repeated n r rs

-- what the cycles give channel A, with the report of a channel that has the same list
unfoldable pub cycles_with : MachineData → List CycleRecord → ℕ → Given
cycles_with m rs = cycle_at (givens_of as_a m 0 rs)
