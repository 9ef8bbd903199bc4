-- Document 01, "The bench program": the example kit and its six lines.
use Rattle.std.specs.Prelude.{ℕ, List, [], ◌∷◌, pos}
use Rattle.machine_data.specs.declared.MachineData.{MachineData}
use Rattle.seven.specs.declared.CycleRecord.{CycleRecord}
use Rattle.worked.specs.Runs.{is, list_of, alike}

-- "both lists 0=12, 1=1, 2=10, 3=2000, 7=3, 12 and 14=100,000,000, 29=2, 32=1, else lowest"
unfoldable pub kit : MachineData
kit = list_of (is 0 12 ∷ is 1 1 ∷ is 2 10 ∷ is 3 2000 ∷ is 7 3 ∷ is 29 2 ∷ is 32 1 ∷ [])

-- "both channels alike, inputs 2, no acknowledgement"
abbrev pub at : ℕ → CycleRecord
at p = alike (pos p) 2

-- "positions 0, 401, 401, 401, 412, 412"
unfoldable pub log : List CycleRecord
log = at 0 ∷ at 401 ∷ at 401 ∷ at 401 ∷ at 412 ∷ at 412 ∷ []

-- A's word, B's word and the device word of each line
abbrev pub lines : List ℕ
lines =
    0x00000081 ∷ 0x00000081 ∷ 0x1
    ∷ 0x03000081 ∷ 0x03000081 ∷ 0x7
    ∷ 0x03000081 ∷ 0x03000081 ∷ 0x7
    ∷ 0x0b000081 ∷ 0x0b000081 ∷ 0x7
    ∷ 0x04000081 ∷ 0x04000081 ∷ 0x9
    ∷ 0x05000085 ∷ 0x05000085 ∷ 0xa
    ∷ []
