-- `logs::run_log` meets its contract. Assumes nothing.
use mathlib.Core.Path.{ap}
use Rattle.machine_data.specs.declared.MachineData.{MachineData}
use Rattle.logs.specs.Run.{Ran}
use Rattle.logs.proofs.run_log.Goals as goal

pub returns : goal.returns
returns c =
    let a = c.args in
    simp (c.after_cycles.ensures, c.after_cycles-2.ensures, c.unwrap_or-cycles.ensures)
    (ap (λ (f : MachineData → MachineData → Ran). f a.a.pending a.b.pending)
    (simp (c.lend.ensures, c.lend-2.ensures) at c.run_on-ran.ensures))
