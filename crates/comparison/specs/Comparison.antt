-- Causes 10 and 11: document 01, step 4.
use Rattle.std.specs.Prelude.{ℕ, Bool, not, List, ℤ, nat_abs, ◌-ℤ◌, ltb, eqb}
use Rattle.machine_data.specs.Data.{number_of}
use Rattle.inputs.specs.declared.Reading.{Reading}
use Rattle.runs.specs.Run.{run_next}
use Rattle.report.specs.declared.Report.{Report}

-- "10 position differs from the report by more than datum 26"
unfoldable pub position_differs : List ℤ → Reading → Report → Bool
position_differs d r o = ltb (number_of d 26) (nat_abs (r.position -ℤ o.position))

-- "usable cycles running" in which the input words differ
unfoldable pub run_of : ℕ → Reading → Report → ℕ
run_of before r o = run_next (not (eqb r.inputs o.inputs)) before

-- "11 input words differ in more than datum 28 usable cycles running"
unfoldable pub inputs_differ : List ℤ → ℕ → Bool
inputs_differ d run = ltb (number_of d 28) run
