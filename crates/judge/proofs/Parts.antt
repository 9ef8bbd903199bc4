-- What is found in parts is what steps 2 to 4 come to. Assumes nothing.
use mathlib.Core.Path.{◌≡◌, refl}
use Rattle.machine_data.specs.declared.MachineData.{MachineData}
use Rattle.state.specs.declared.State.{State}
use Rattle.state.specs.declared.Given.{Given}
use Rattle.judge.specs.Causes.{choice_in, watched_in, differing_in, differences_in, fault_in, usable_rows, findings_of, begun_of, findings_by}

pub in_parts : (m : MachineData) (s : State) (g : Given) → findings_by m s g (begun_of m.values s g) (watched_in m s g) ≡ findings_of m s g
unfolding choice_in differing_in differences_in fault_in usable_rows
in_parts m s g = refl
