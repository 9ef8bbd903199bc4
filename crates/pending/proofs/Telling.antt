-- What is told, in a cycle that would be usable and in one that would not. Assumes nothing.
use Rattle.std.specs.Prelude.{Result, Ok, Err}
use Prim.Native.Nat.{ℕ}
use mathlib.Core.Path.{◌≡◌, sym, ap, ◌∙◌}
use mathlib.Core.List.{[]}
use mathlib.Core.Bool.{true, false}
use Rattle.machine_data.specs.declared.MachineData.{MachineData}
use Rattle.inputs.specs.declared.Reading.{Reading}
use Rattle.usable_inputs.specs.Usable.{usable_of}
use Rattle.report.specs.declared.Report.{Report}
use Rattle.causes.specs.Causes.{unusable_table}
use Rattle.codes.specs.Codes.{causes_of}
use Rattle.codes.specs.declared.Causes.{Causes}
use Rattle.refusal.specs.declared.Refusal.{Refusal}
use Rattle.list.specs.declared.ListRead.{ListRead}
use Rattle.state.specs.declared.State.{State}
use Rattle.judge.specs.Causes.{rows_of, usable_rows}
use Rattle.commit.specs.Commit.{committed}
use Rattle.pending.specs.Pending.{fresh_rows, as_if_given, told_of, telling}

module _ (m : MachineData) (s : State) (r : Reading) (o : Report) where
  pub usable_told : usable_of m r ≡ true → causes_of (fresh_rows (usable_rows m (committed m s) (as_if_given r o))) ≡ told_of m s r o
  unfolding rows_of
  usable_told u = simp u

  pub unusable_told : usable_of m r ≡ false → causes_of unusable_table ≡ told_of m s r o
  unfolding rows_of fresh_rows
  unusable_told u = simp u
