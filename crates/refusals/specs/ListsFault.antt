-- What is wrong with the two lists of a kit, with nothing said of how they are read: which is refused, and why.
use Rattle.std.specs.Prelude.{ℕ, ◌≤◌, List, length, take, drop}
use Rattle.refusal.specs.declared.Refusal.{Refusal}
use Rattle.refusal.specs.declared.Part.{Part}
use Rattle.refusal.specs.declared.Part.TheVariants.{ListA, ListB}
use Rattle.machine_data.specs.declared.MachineData.{MachineData}
use Rattle.list.specs.IsList.{IsList}
use Rattle.refusals.specs.IsFault.{IsFault}

-- list A is faulty, or A is a list and what stands behind it is faulty as list B; "Places count from 0 in the part given"
pub data ListsFault (s : List ℕ) (why : Refusal) : Part → Type 0 where
  in_a : IsFault s why → ListsFault s why ListA
  in_b : {n : ℕ} {a : MachineData} → n ≤ length s → IsList a (take n s) → IsFault (drop n s) why → ListsFault s why ListB
