-- When the run of a kit's words is refused, in which part and why, with nothing said of how it is read.
use Rattle.std.specs.Prelude.{ℕ, List, drop}
use Rattle.refusal.specs.declared.Refusal.{Refusal}
use Rattle.refusal.specs.declared.Part.{Part}
use Rattle.refusal.specs.declared.Part.TheVariants.{Log}
use Rattle.machine_data.specs.declared.MachineData.{MachineData}
use Rattle.kit.specs.AreLists.{AreLists}
use Rattle.refusals.specs.ListsFault.{ListsFault}
use Rattle.refusals.specs.LogFault.{LogFault}

-- list A or B is faulty; or both are lists, and the words behind them are refused as a log
pub data KitFault (words out : List ℕ) : Refusal → Part → Type 0 where
  lists : {why : Refusal} {part : Part} → ListsFault words why part → KitFault words out why part
  log : {why : Refusal} {a b : MachineData} {at : ℕ} → AreLists words a b at → LogFault (drop at words) out why → KitFault words out why Log
