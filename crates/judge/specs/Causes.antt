-- Steps 2 to 4 of a cycle: what moved, what is effective, and the table of causes. Document 01, "One cycle of a channel", W2 and W6; and n<nx, W3.
use Rattle.std.specs.Prelude.{ℕ, Bool, cond, ◌||◌, List, [], ◌∷◌, ℤ, Option}
use Rattle.machine_data.specs.declared.MachineData.{MachineData}
use Rattle.distance.specs.Step.{moved_from}
use Rattle.inputs.specs.declared.Reading.{Reading}
use Rattle.inputs.specs.declared.External as X
use Rattle.inputs.specs.Layout.{ratio_in}
use Rattle.usable_inputs.specs.Usable.{usable_of}
use Rattle.report.specs.Report.{datum_differs}
use Rattle.speed.specs.declared.Step.{Step}
use Rattle.nx_signal.specs.declared.Signal.{Signal}
use Rattle.nx_signal.specs.Signal.{signal_next}
use Rattle.limits.specs.Limits.{standstill_left, over_speed, sg_rank, external, hold_left}
use Rattle.end_positions.specs.EndPositions.{outside, se_rank}
use Rattle.selection.specs.declared.Choice.{Choice}
use Rattle.selection.specs.Selection.{selected_of, choice_next}
use Rattle.rank.specs.declared.Rank.TheVariants as R
use Rattle.stop.specs.declared.Stop.{Stop}
use Rattle.directions.specs.declared.Watched.{Watched}
use Rattle.directions.specs.Directions.{watched_of, direction_rank}
use Rattle.fault.specs.declared.Fault.{Fault}
use Rattle.comparison.specs.Comparison.{position_differs, run_of, inputs_differ}
use Rattle.fault.specs.Fault.{fault_next}
use Rattle.active.specs.Active.{fault_stops}
use Rattle.causes.specs.declared.Cause.{Cause}
use Rattle.causes.specs.Causes.{cause, unusable_table}
use Rattle.state.specs.declared.State.{State}
use Rattle.state.specs.declared.Given.{Given}
use Rattle.judge.specs.declared.Begun.{Begun}
use Rattle.judge.specs.declared.Differences.{Differences}
use Rattle.judge.specs.declared.Findings.{Findings}

-- step 2: |d|; W1: and the ratio that this cycle's input bits pick
abbrev pub step_of : List ℤ → Option ℤ → Reading → Step
step_of d previous r = record { moved = moved_from previous r.position; ratio = ratio_in d r.inputs }

abbrev pub step_in : MachineData → State → Given → Step
step_in m s g = step_of m.values s.previous g.reading

-- W3: n<nx, by this cycle's step
abbrev pub signal_in : MachineData → State → Given → Signal
signal_in m s g = signal_next m.values (step_in m s g) s.kept.nx

-- step 3: the choice that this cycle's selection makes
unfoldable pub choice_in : MachineData → State → Given → Choice
choice_in m s g = choice_next m.values s.kept.choice (selected_of m.values g.reading.inputs) g.reading.position

-- W6: the directions' runs and watches, as this cycle leaves them, and whether one is overstepped
abbrev pub watched_in : MachineData → State → Given → Watched
watched_in m s g = watched_of m.values g.reading s.kept.directions

-- the run of differing input words, as this cycle leaves it
unfoldable pub differing_in : State → Given → ℕ
differing_in s g = run_of s.kept.differing g.reading g.report

-- "10 position differs from the report by more than datum 26"; "11 input words differ in more than datum 28 usable cycles running";
-- "12 datum k differs", W1: "also .. where heads differ": by the run of differing input words
abbrev pub differences_by : MachineData → State → Given → ℕ → Differences
differences_by m s g differing =
    record {
      position = position_differs m.values g.reading g.report;
      inputs = inputs_differ m.values differing;
      datum = datum_differs m s.k g.report;
    }

unfoldable pub differences_in : MachineData → State → Given → Differences
differences_in m s g = differences_by m s g (differing_in s g)

abbrev pub any_differs : Differences → Bool
any_differs o = o.position || o.inputs || o.datum

-- "10, 11, 12 set F": F as this cycle's differences leave it
abbrev pub fault_by : MachineData → State → Differences → Fault
fault_by m s differs = fault_next m.values (any_differs differs) s.kept.fault

unfoldable pub fault_in : MachineData → State → Given → Fault
fault_in m s g = fault_by m s (differences_in m s g)

-- whether cause 13 stands: by F as this cycle's differences leave it, and by the selection that its step 3 leaves effective
abbrev pub stops_in : MachineData → State → Given → Bool
stops_in m s g = fault_stops m.values (choice_in m s g).effective (fault_in m s g)

-- step 4, "Causes (2 and 3 by the effective selection)", each with its rank: of the data d, the standing stop, a reading, the choice x, the step, what
-- differs, whether F brings STOP B, and whether a direction is overstepped. 10, 11 and 12 have no rank of their own
abbrev pub table : List ℤ → Stop → Reading → Choice → Step → Differences → Bool → Bool → List Cause
table d stop r x step differs stops overstepped =
    -- "2 SBH, distance from reference over datum 2, rank 4"
    cause 2 (standstill_left d x r.position) R.B
    -- "3 SG, |d| × 6000 > limit × percent × T, rank by datum"
    ∷ cause 3 (over_speed d x.effective step) (sg_rank d x.effective)
    -- "4 SE as chosen by bit 12, .., rank by datum 15"
    ∷ cause 4 (outside d r) (se_rank d)
    -- "5, 6, 7, 8 external A, C, D, E, its input bit 0, rank its own"
    ∷ cause 5 (external d r.inputs X.TheVariants.A) R.A
    ∷ cause 6 (external d r.inputs X.TheVariants.C) R.C
    ∷ cause 7 (external d r.inputs X.TheVariants.D) R.D
    ∷ cause 8 (external d r.inputs X.TheVariants.E) R.E
    -- "9 held, distance from the hold's reference over datum 2, rank 4"
    ∷ cause 9 (hold_left d stop r.position) R.B
    -- "10 position differs ..", "11 input words differ ..", "12 datum k differs"
    ∷ cause 10 differs.position R.None
    ∷ cause 11 differs.inputs R.None
    ∷ cause 12 differs.datum R.None
    -- "at 0, with F on, stands cause 13, rank 4", W2: "only in cycles where SBH or SG is effective, or SE or cams are enabled"
    ∷ cause 13 stops R.B
    -- W6: "Positive-only is overstepped .., and the negative is its mirror; this is cause 14, fresh"; "Cause 14 has the rank of datum 71"
    ∷ cause 14 overstepped (direction_rank d)
    ∷ []

-- the table of a usable cycle
unfoldable pub usable_rows : MachineData → State → Given → List Cause
usable_rows m s g =
    table m.values s.stop g.reading (choice_in m s g) (step_in m s g) (differences_in m s g) (stops_in m s g) (watched_in m s g).overstepped

-- "Unusable: cause 1, rank 5"; else the table of step 4
unfoldable pub rows_of : MachineData → State → Given → List Cause
rows_of m s g = cond (usable_of m g.reading) (usable_rows m s g) unusable_table

-- what steps 2 to 4 come to in a usable cycle, and n<nx
abbrev pub findings_of : MachineData → State → Given → Findings
findings_of m s g =
    record {
      step = step_in m s g;
      nx = signal_in m s g;
      choice = choice_in m s g;
      directions = (watched_in m s g).directions;
      differing = differing_in s g;
      fault = fault_in m s g;
      rows = usable_rows m s g;
    }

-- ---- the same in parts, as the code has them: what needs none of the causes, and the causes by it and by the directions. proofs/Parts.antt puts them together

abbrev pub begun_of : List ℤ → State → Given → Begun
begun_of d s g =
    let step = step_of d s.previous g.reading in
    record {
      step = step;
      nx = signal_next d step s.kept.nx;
      choice = choice_next d s.kept.choice (selected_of d g.reading.inputs) g.reading.position;
      differing = run_of s.kept.differing g.reading g.report;
    }

abbrev pub rows_by : MachineData → State → Given → Begun → Bool → List Cause
rows_by m s g b overstepped =
    let differs = differences_by m s g b.differing in
    table m.values s.stop g.reading b.choice b.step differs (fault_stops m.values b.choice.effective (fault_by m s differs)) overstepped

abbrev pub findings_by : MachineData → State → Given → Begun → Watched → Findings
findings_by m s g b w =
    record {
      step = b.step;
      nx = b.nx;
      choice = b.choice;
      directions = w.directions;
      differing = b.differing;
      fault = fault_by m s (differences_by m s g b.differing);
      rows = rows_by m s g b w.overstepped;
    }
