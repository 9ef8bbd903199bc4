-- Document 01, "Marked P": one table of worked cases. "T is 12".
use Rattle.std.specs.Prelude.{ℕ, suc, ◌-◌, Bool, true, false, List, [], ◌∷◌, ◌≡◌, ℤ, pos, negsuc, length, Result, Ok, Err}
use Rattle.std.specs.Float.{binary32}
use Rattle.std.specs.Float.Ieee.{of_bits}
use Rattle.bits.specs.Bits.{flag}
use Rattle.machine_data.specs.declared.MachineData.{MachineData}
use Rattle.refusal.specs.declared.Refusal.{Refusal}
use Rattle.refusal.specs.declared.Refusal.TheVariants.{NoWholeNumber}
use Rattle.datum.specs.declared.Datum.TheVariants.{Single}
use Rattle.datum.specs.Datum.{units_of}
use Rattle.seven.specs.declared.CycleRecord.{CycleRecord}
use Rattle.selection.specs.declared.Selection.{Selection}
use Rattle.selection.specs.declared.Selection.TheVariants.{Nothing, Sbh}
use Rattle.stop.specs.Stop.{level_of}
use Rattle.codes_order.specs.Lists.{wanted}
use Rattle.state.specs.declared.Given.{Given}
use Rattle.judge.specs.Causes.{rows_of}
use Rattle.demand_3.specs.History.{history}
use Rattle.worked.specs.Runs.{Entry, is, list_of, alike, words_apart, repeated, cycles_with}

-- what a cycle shows: whether a cause stands, the rank after it, the effective selection, F
pub data Shown : Type 0 where
  cause : ℕ → Bool → Shown
  rank : ℕ → Shown
  effective : Selection → Shown
  fault : Bool → Shown

pub data Case : Type 0 where
  -- the pattern of a binary32, and what the list reader makes of it, the datum standing at place 0
  binary32_is : ℕ → Result ℤ Refusal → Case
  -- a list, cycles from a fresh channel on, and what the last of them shows
  cycles : List Entry → List CycleRecord → Shown → Case

-- a row: the number behind P, and the case
pub record Row : Type 0 where
  pub number : ℕ
  pub case : Case

abbrev pub P : ℕ → Case → Row
P n c = record { number = n; case = c }

-- in cycle n of those, from 0
abbrev pub shows : MachineData → (ℕ → Given) → ℕ → Shown → Type 0
shows m cs n (cause x stands) = wanted x (rows_of m (history m cs n) (cs n)) ≡ flag stands
shows m cs n (rank r) = level_of (history m cs (suc n)).stop ≡ r
shows m cs n (effective e) = (history m cs (suc n)).kept.choice.effective ≡ e
shows m cs n (fault f) = (history m cs (suc n)).kept.fault.on ≡ f

abbrev pub Holds : Case → Type 0
Holds (binary32_is bits units) = units_of (Single (of_bits binary32 bits)) 0 ≡ units
Holds (cycles es rs shown) = shows (list_of es) (cycles_with (list_of es) rs) (length rs - 1) shown

abbrev pub AllHold : List Row → Type 0
AllHold [] = Unit {0}
AllHold (r ∷ rs) = Holds r.case × AllHold rs

-- input words: SG1 and SG2 with override 0, SBH, nothing; external C and E asked for, A and D not
abbrev pub sg1 : ℕ
sg1 = 2

abbrev pub sg2 : ℕ
sg2 = 0x0a

abbrev pub sbh : ℕ
sbh = 0

abbrev pub off : ℕ
off = 1

abbrev pub stop_c_and_e : ℕ
stop_c_and_e = 0x140001

-- the first cycle at 0, the second at a position
abbrev pub steps : List Entry → ℕ → ℤ → Shown → Case
steps es w p shown = cycles es (alike (pos 0) w ∷ alike p w ∷ []) shown

abbrev pub table : List Row
table =
    -- "P1 SG1 2000: d 400 passes. P2 401 doesn't"
    P 1 (steps (is 0 12 ∷ is 1 1 ∷ is 3 2000 ∷ []) sg1 (pos 400) (cause 3 false))
    ∷ P 2 (steps (is 0 12 ∷ is 1 1 ∷ is 3 2000 ∷ []) sg1 (pos 401) (cause 3 true))
    -- "P3 SG2 2000 at 50 percent: 200 passes. P4 201 doesn't"
    ∷ P 3 (steps (is 0 12 ∷ is 1 1 ∷ is 4 2000 ∷ is 35 50 ∷ []) sg2 (pos 200) (cause 3 false))
    ∷ P 4 (steps (is 0 12 ∷ is 1 1 ∷ is 4 2000 ∷ is 35 50 ∷ []) sg2 (pos 201) (cause 3 true))
    -- "P5 tolerance 10: 10 away passes, -11 not"
    ∷ P 5 (steps (is 0 12 ∷ is 1 1 ∷ is 2 10 ∷ []) sbh (pos 10) (cause 2 false))
    ∷ P 5 (steps (is 0 12 ∷ is 1 1 ∷ is 2 10 ∷ []) sbh (negsuc 10) (cause 2 true))
    -- "P6 SE plus 5000: 5000 passes. P7 5001 doesn't"
    ∷ P 6 (steps (is 0 12 ∷ is 1 2 ∷ is 12 5000 ∷ []) off (pos 5000) (cause 4 false))
    ∷ P 7 (steps (is 0 12 ∷ is 1 2 ∷ is 12 5000 ∷ []) off (pos 5001) (cause 4 true))
    -- "P8 100,000,001 is unusable"
    ∷ P 8 (steps (is 0 12 ∷ []) off (pos 100_000_001) (cause 1 true))
    -- "P9 binary32 44FA0000 is 2000"
    ∷ P 9 (binary32_is 0x44fa0000 (Ok (pos 2000)))
    -- "P10 3F000000 is refused 3"
    ∷ P 10 (binary32_is 0x3f000000 (Err (NoWholeNumber 0)))
    -- "P11 E and C together: C"
    ∷ P 11 (cycles (is 0 12 ∷ is 1 16 ∷ is 29 5 ∷ is 31 5 ∷ []) (alike (pos 0) stop_c_and_e ∷ []) (rank 3))
    -- "P12 B time 0: A that cycle"
    ∷ P 12 (steps (is 0 12 ∷ is 1 1 ∷ is 2 10 ∷ is 32 0 ∷ []) sbh (pos 11) (rank 5))
    -- "P13 delay 3, lowered in cycle 10: binds in 13"
    ∷ P 13 (cycles (is 0 12 ∷ is 1 1 ∷ is 27 3 ∷ []) (repeated 9 (alike (pos 0) off) (repeated 3 (alike (pos 0) sbh) [])) (effective Nothing))
    ∷ P 13 (cycles (is 0 12 ∷ is 1 1 ∷ is 27 3 ∷ []) (repeated 9 (alike (pos 0) off) (repeated 4 (alike (pos 0) sbh) [])) (effective Sbh))
    -- "P14 allowed 2, inputs differ in 5, 6, 7: F in 7"
    ∷ P 14 (cycles (is 0 12 ∷ is 28 2 ∷ []) (repeated 4 (alike (pos 0) off) (repeated 2 (words_apart off sbh) [])) (fault false))
    ∷ P 14 (cycles (is 0 12 ∷ is 28 2 ∷ []) (repeated 4 (alike (pos 0) off) (repeated 3 (words_apart off sbh) [])) (fault true))
    ∷ []
