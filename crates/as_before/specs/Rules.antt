-- What the requests have moved in how a list is read and a cycle goes, as one record: the rules of now, those without one request, and those before one, back
-- to document 01's. What no request moved is not kept twice: a cycle under any rules is Cycle.antt, a run Runs.antt.
use Rattle.std.specs.Prelude.{ℕ, suc, ◌+◌, ◌/◌, ◌%◌, ◌^◌, Bool, false, cond, ◌&&◌, List, get_or, take, ℤ, pos, nat_abs, ◌-ℤ◌, leb, ltb, eqb}
use Rattle.machine_data.specs.declared.MachineData.{MachineData}
use Rattle.machine_data.specs.declared.Ratio.{Ratio}
use Rattle.machine_data.specs.Data.{has_ratios, function_of}
use Rattle.inputs.specs.declared.Reading.{Reading}
use Rattle.inputs.specs.Layout.{gear_number, ratio_in, direction_bits}
use Rattle.usable_inputs.specs.Usable.{spare_of, free}
use Rattle.speed.specs.declared.Step.{Step}
use Rattle.speed.specs.Speed.{slower}
use Rattle.nx_signal.specs.declared.Signal.{Signal}
use Rattle.nx_signal.specs.Signal.{signal_next}
use Rattle.directions.specs.declared.Directions.{Directions}
use Rattle.directions.specs.declared.Watched.{Watched}
use Rattle.directions.specs.Directions.{watched_of}
use Rattle.causes.specs.declared.Cause.{Cause}
use Rattle.selection.specs.declared.Selection.{Selection}
use Rattle.report.specs.declared.Report.{Report}
use Rattle.report.specs.Report.{next_k, report_of, datum_differs}
use Rattle.fault.specs.declared.Fault.{Fault}
use Rattle.fault.specs.Fault.{expired}
use Rattle.active.specs.Active.{fault_stops}
use Rattle.list.specs.declared.ListRead.{ListRead}
use Rattle.list.specs.Reading.{read_list}
use Rattle.as_before.specs.Lists.{read51, read67, read69}

-- whether cause 13 stands, by the data, the effective selection and F
abbrev pub Cause13 : Type 0
Cause13 = List ℤ → Selection → Fault → Bool

-- what a usable cycle shows of n<nx, by the data, its step and the signal that it finds
abbrev pub Nx : Type 0
Nx = List ℤ → Step → Signal → Bool

-- safe direction: whether bits 13 and 14 may be 1, what a usable cycle makes of the directions, and which rows of the table of causes a cycle has
pub record Guarding : Type 0 where
  pub bits : List ℤ → Bool
  pub watched : List ℤ → Reading → Directions → Watched
  pub rows : List Cause → List Cause

pub record Rules : Type 0 where
  -- how a list is read, which inputs are usable, the ratio of a step, what follows k, a report, and cause 12
  pub read : List ℕ → ListRead
  pub usable : MachineData → Reading → Bool
  pub ratio : List ℤ → ℕ → Ratio
  pub rise : ℕ → ℕ → ℕ
  pub report : MachineData → ℕ → Reading → Report
  pub differs : MachineData → ℕ → Report → Bool
  -- cause 13
  pub stops : Cause13
  -- n<nx
  pub nx : Nx
  -- safe direction
  pub guard : Guarding

-- ---- since W1

-- `usable_of`, but for bits 13 and 14
abbrev pub usable_by : Guarding → MachineData → Reading → Bool
usable_by guard m r =
    let w = r.inputs in
    leb (nat_abs r.position) 100_000_000 && (eqb (spare_of w) 0 && free (guard.bits m.values) (direction_bits w) && free (has_ratios m.count) (gear_number w))

abbrev pub geared : (List ℕ → ListRead) → Cause13 → Nx → Guarding → Rules
geared read stops nx guard =
    record { read = read; usable = usable_by guard; ratio = ratio_in; rise = next_k; report = report_of; differs = datum_differs; stops = stops; nx = nx; guard = guard }

-- ---- before W1: document 01, "Safe inputs and reports" and "One cycle of a channel". Nothing here looks at a gear's bits, a ratio or a report's head

-- "Every other bit": 2, 5 to 11, 13 to 17 and 22 to 27
abbrev pub spare51 : ℕ → ℕ
spare51 w = w / 2 ^ 2 % 2 ^ 1 + w / 2 ^ 5 % 2 ^ 7 + w / 2 ^ 13 % 2 ^ 5 + w / 2 ^ 22 % 2 ^ 6

-- "Every other bit must be 0. Inputs are unusable if one is not, or if the position lies outside ±100,000,000"
abbrev pub usable51 : Reading → Bool
usable51 r = leb (nat_abs r.position) 100_000_000 && eqb (spare51 r.inputs) 0

-- a step is |d|
abbrev pub plain : Ratio
plain = record { numerator = 1; denominator = 1 }

-- "k starts at 0, rises by one each cycle, and follows 50 by 0"
abbrev pub next_k51 : ℕ → ℕ
next_k51 k = cond (ltb (suc k) 51) (suc k) 0

-- "its datum k"
abbrev pub entry51 : List ℤ → ℕ → ℤ
entry51 d k = cond (ltb k 51) (get_or d k (pos 0)) (pos 0)

-- "that cycle's position and whole input word and its datum k"; nothing looks at the head
abbrev pub report51 : MachineData → ℕ → Reading → Report
report51 m k r = record { position = r.position; inputs = r.inputs; datum = entry51 m.values k; head = 51 }

-- "12 datum k differs"
abbrev pub differs51 : MachineData → ℕ → Report → Bool
differs51 m k o = ltb 0 (nat_abs (entry51 m.values k -ℤ o.datum))

abbrev pub ungeared : Cause13 → Nx → Guarding → Rules
ungeared stops nx guard =
    record {
      read = read51;
      usable = λ m r. usable51 r;
      ratio = λ d w. plain;
      rise = λ count k. next_k51 k;
      report = report51;
      differs = differs51;
      stops = stops;
      nx = nx;
      guard = guard;
    }

-- ---- before W2

-- "at 0, with F on, stands cause 13, rank 4, in every case"
abbrev pub in_every_case : Cause13
in_every_case d effective f = expired f

-- ---- before W3, and since

-- "n<nx: |d| × 60 < datum 25 × T"
abbrev pub at_once : Nx
at_once d step s = slower d step 25

-- by its value and run
abbrev pub steadied : Nx
steadied d step s = (signal_next d step s).on

-- ---- before W6, and since

-- bits 13 and 14 must be 0, no cycle changes a direction, and the table ends with cause 13
abbrev pub unguarded : Guarding
unguarded = record { bits = λ d. false; watched = λ d r x. record { directions = x; overstepped = false }; rows = take 12 }

abbrev pub guarded : Guarding
guarded = record { bits = λ d. function_of d 5; watched = watched_of; rows = λ rows. rows }

-- ---- the rules of now, and those of now without one request

abbrev pub now : Rules
now = geared read_list fault_stops steadied guarded

abbrev pub without_w1 : Rules
without_w1 = ungeared fault_stops steadied guarded

abbrev pub without_w2 : Rules
without_w2 = geared read_list in_every_case steadied guarded

abbrev pub without_w3 : Rules
without_w3 = geared read_list fault_stops at_once guarded

abbrev pub without_w6 : Rules
without_w6 = geared read_list fault_stops steadied unguarded

-- ---- the rules that have been

abbrev pub before_w6 : Rules
before_w6 = geared read69 fault_stops steadied unguarded

abbrev pub before_w3 : Rules
before_w3 = geared read67 fault_stops at_once unguarded

abbrev pub before_w2 : Rules
before_w2 = geared read67 in_every_case at_once unguarded

abbrev pub document01 : Rules
document01 = ungeared in_every_case at_once unguarded
