-- When the bench refuses a kit, in which part and why, with nothing said of how it is read: document 01, "The bench program".
use Rattle.std.specs.Prelude.{ℕ, ◌%◌, ◌≤◌, ◌≡◌, List, length, drop}
use Rattle.refusal.specs.declared.Refusal.{Refusal}
use Rattle.refusal.specs.declared.Refusal.TheVariants.{WrongLog}
use Rattle.refusal.specs.declared.Part.{Part}
use Rattle.refusal.specs.declared.Part.TheVariants.{Log}
use Rattle.machine_data.specs.declared.MachineData.{MachineData}
use Rattle.kit.specs.AreLists.{AreLists}
use Rattle.kit_bytes.specs.KitBytes.{words_of}
use Rattle.refusals.specs.ListsFault.{ListsFault}
use Rattle.refusals.specs.FaultAt.{FaultAt}

-- "at most 65,536 bytes in whole words"
abbrev pub KitSize : List ℕ → Type 0
KitSize kit = (length kit ≤ 65_536) × (length kit % 4 ≡ 0)

pub data BenchFault (kit : List ℕ) : Refusal → Part → Type 0 where
  -- "else number 6, place 0, L"
  size : (KitSize kit → ⊥) → BenchFault kit (WrongLog 0) Log
  -- list A, then list B
  lists : {why : Refusal} {part : Part} → KitSize kit → ListsFault (words_of kit) why part → BenchFault kit why part
  -- "those behind B are the log"; the bench has room for every log's words
  log : {a b : MachineData} {at place : ℕ} → KitSize kit → AreLists (words_of kit) a b at → FaultAt (drop at (words_of kit)) place → BenchFault kit (WrongLog place) Log
