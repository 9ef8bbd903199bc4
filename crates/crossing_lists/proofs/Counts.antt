-- The number of an accepted list's data is one that a word holds, and not 0; a refused list has none. Assumes nothing.
use mathlib.Core.Path.{◌≡◌, ap}
use mathlib.Core.List.{List}
use Prim.Native.Nat.{ℕ, ◌≤◌, ◌<◌}
use native.Mathlib.Omega.{arith}
use Rattle.std.specs.Prelude.{Ok, Err}
use Rattle.refusal.specs.declared.Refusal.{Refusal}
use Rattle.machine_data.specs.declared.MachineData.{MachineData}
use Rattle.list.specs.declared.ListRead.{ListRead}
use Rattle.list.specs.IsList.{IsList, list}
use Rattle.list.specs.Reading.{refused_list, read_list}
use Rattle.list.proofs.Steps.{head_bounds}
use Rattle.list.proofs.Accepts.{accepted, whole_answer, whole_refusal}

bounds : {d : MachineData} {ws : List ℕ} → IsList d ws → (1 ≤ d.count) × (d.count < 4294967296)
bounds {d} (list w size x values a b) = let h = head_bounds d.count size in (omega (arith, h.0), omega (arith, h.1))

pub some_data : (words : List ℕ) (used : ℕ) → (read_list words).answer ≡ Ok used → (1 ≤ (read_list words).list.count) × ((read_list words).list.count < 4294967296)
some_data words used e = bounds ((accepted words (read_list words).list used).0 (whole_answer words used e)).1

pub no_data : (words : List ℕ) (why : Refusal) → (read_list words).answer ≡ Err why → (read_list words).list ≡ (refused_list why).list
no_data words why e = ap (λ (r : ListRead). r.list) (whole_refusal words why e)
