-- One channel of a log's run by itself, and where its words go: of the private functions. proofs/Apart.antt ties them to Run.antt.
use Rattle.std.specs.Prelude.{ℕ, zero, suc, ◌+◌, ◌%◌, List, [], ◌∷◌, get_or, set}
use Rattle.machine_data.specs.declared.MachineData.{MachineData}
use Rattle.inputs.specs.declared.Reading.{Reading}
use Rattle.words.specs.Words.{twos}
use Rattle.seven.specs.declared.CycleRecord.{CycleRecord}
use Rattle.seven.specs.Seven.{six_from, reading_from, record_of}
use Rattle.state.specs.declared.State.{State}
use Rattle.state.specs.declared.Given.{Given}
use Rattle.report.specs.Report.{next_k}
use Rattle.channel.specs.Cycle.{next}
use Rattle.channel.specs.Word.{word}
use Rattle.device.specs.Device.{device_of}
use Rattle.logs.specs.declared.Side.{Side}
use Rattle.logs.specs.declared.Side.TheVariants.{A, B}
use Rattle.logs.specs.Run.{given_by}

-- A's reading is the first of a record, B's the second: the own reading of a channel, and the other's
abbrev pub readings_in : Side → CycleRecord → Reading × Reading
readings_in A r = (r.a, r.b)
readings_in B r = (r.b, r.a)

-- how far into a record A's reading stands and B's: the own reading of a channel, and the other's
abbrev pub reading_places : Side → ℕ × ℕ
reading_places A = (0, 3)
reading_places B = (3, 0)

-- the reading whose three words stand at a place, and the record whose seven do
abbrev pub reading_there : List ℕ → ℕ → Reading
reading_there s at = reading_from (twos 134217728 (get_or s at 0 % 268435456)) (record { lower = get_or s (at + 1) 0; upper = get_or s (at + 2) 0 })

abbrev pub record_from : List ℕ → ℕ → CycleRecord
record_from s at = record_of (twos 134217728 (get_or s at 0 % 268435456)) (six_from s at)

-- A's word is the first of a cycle's three, B's the second
abbrev pub first_place : Side → ℕ
first_place A = 0
first_place B = 1

-- what a record gives a channel, beside the other's data e and k
abbrev pub given_in : Side → MachineData → ℕ → CycleRecord → Given
given_in side e k r = given_by e k (readings_in side r).0 (readings_in side r).1 r.acknowledged

module _ (side : Side) (d e : MachineData) where
  -- its state after some records, and its words: the other's k rises in every cycle
  unfoldable pub last_alone : State → ℕ → List CycleRecord → State
  last_alone s k [] = s
  last_alone s k (r ∷ rs) = last_alone (next d s (given_in side e k r)) (next_k e.count k) rs

  unfoldable pub words_alone : State → ℕ → List CycleRecord → List ℕ
  words_alone s k [] = []
  words_alone s k (r ∷ rs) = word d s (given_in side e k r) ∷ words_alone (next d s (given_in side e k r)) (next_k e.count k) rs

-- words put at every third place, from one on
unfoldable pub thirds : ℕ → List ℕ → List ℕ → List ℕ
thirds at [] out = out
thirds at (w ∷ ws) out = thirds (at + 3) ws (set out at w)

-- behind each two words their device word
unfoldable pub with_devices : ℕ → ℕ → List ℕ → List ℕ
with_devices at zero out = out
with_devices at (suc n) out = with_devices (at + 3) n (set out (at + 2) (device_of (get_or out at 0) (get_or out (at + 1) 0)))
