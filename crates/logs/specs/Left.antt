-- What the run of a log leaves, as one value: its answer, both channels and the whole output.
use Rattle.std.specs.Prelude.{ℕ, ◌*◌, ◌≤◌, ◌≡◌, List, length, ℤ, Result}
use Rattle.std.specs.Result.{result_unwrap_or}
use Rattle.machine_data.specs.declared.MachineData.{MachineData}
use Rattle.machine_data.specs.Data.{lent}
use Rattle.channel.specs.declared.Channel.{Channel}
use Rattle.channel.specs.Cycle.{with_list, after_cycles}
use Rattle.state.specs.declared.State.{State}
use Rattle.seven.specs.declared.CycleRecord.{CycleRecord}
use Rattle.records.specs.Records.{records, log_of}
use Rattle.refusal.specs.declared.Refusal.{Refusal}
use Rattle.logs.specs.declared.LogRun.{LogRun}
use Rattle.logs.specs.declared.Side.{Side}
use Rattle.logs.specs.Run.{Ran, refusing, ran_of}
use Rattle.logs.specs.Alone.{first_place, last_alone, words_alone, thirds}

-- what a run leaves, as one value
abbrev pub left_by : LogRun Channel → List ℕ → Ran
left_by r out' = record { answer = r.answer; a = r.a; b = r.b; out = out' }

-- a state beside its data is a channel
abbrev pub beside : List ℤ → ℕ → State → Channel
beside values count s = with_list (lent values count) s

-- a channel with this list pending
abbrev pub keeping : MachineData → Channel → Channel
keeping p c = record { list = c.list; state = c.state; pending = p }

-- how many cycles were run
abbrev pub cycles_run : Result ℕ Refusal → ℕ
cycles_run answer = result_unwrap_or answer 0

-- what a run leaves of two states: the channels keep their data, and what is pending where no cycle was run
abbrev pub left_of : Channel → Channel → LogRun State → List ℕ → Ran
left_of a b r out' =
    let n = cycles_run r.answer in
    record { answer = r.answer; a = after_cycles n a r.a; b = after_cycles n b r.b; out = out' }

-- of two states beside their data, whatever is pending in their channels, p in A's and q in B's: what a run leaves, and the log over these channels
abbrev pub left_beside : Channel → Channel → LogRun State → List ℕ → MachineData → MachineData → Ran
left_beside a b r out' p q = left_of (keeping p a) (keeping q b) r out'

abbrev pub ran_beside : Channel → Channel → List ℕ → List ℕ → MachineData → MachineData → Ran
ran_beside a b words out p q = ran_of (keeping p a) (keeping q b) words out

-- ---- of the private functions

-- the log is refused, whatever the channels
abbrev pub Refuses : List ℕ → List ℕ → Refusal → Type 0
Refuses words out why = (a b : Channel) → ran_of a b words out ≡ refusing a b out why

-- the words are a log of these records, and the output has room for their words
pub record Enough (words out : List ℕ) : Type 0 where
  pub rs : List CycleRecord
  pub log : log_of words ≡ records rs
  pub room : 3 * length rs ≤ length out

pub record Sound (words out : List ℕ) (cycles : ℕ) : Type 0 where
  pub rs : List CycleRecord
  pub log : log_of words ≡ records rs
  pub room : 3 * length rs ≤ length out
  pub counted : cycles ≡ length rs
  pub short : length words ≤ 16384

-- the records of a log are run in one channel: the state after them, and its words at every third place of the output
abbrev pub RunsAlone : Channel → MachineData → ℕ → Side → List ℕ → List ℕ → State → List ℕ → Type 0
RunsAlone c e k side words out s out' =
    (rs : List CycleRecord) → log_of words ≡ records rs →
    (s ≡ last_alone side c.list e c.state k rs) × (out' ≡ thirds (first_place side) (words_alone side c.list e c.state k rs) out)
