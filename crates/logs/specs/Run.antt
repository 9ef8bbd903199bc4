-- The run of a log: document 01, "An accepted log runs the two channels given with it".
use Rattle.std.specs.Prelude.{ℕ, ◌*◌, Bool, cond, List, [], ◌∷◌, ◌++◌, length, drop, ltb, Result, Ok, Err}
use Rattle.machine_data.specs.declared.MachineData.{MachineData}
use Rattle.inputs.specs.declared.Reading.{Reading}
use Rattle.seven.specs.declared.CycleRecord.{CycleRecord}
use Rattle.records.specs.Records.{LogRead, records, fault, log_of}
use Rattle.state.specs.declared.State.{State}
use Rattle.state.specs.declared.Given.{Given}
use Rattle.channel.specs.declared.Channel.{Channel}
use Rattle.report.specs.Report.{report_of}
use Rattle.channel.specs.Cycle.{after_cycles, next}
use Rattle.channel.specs.Word.{word}
use Rattle.device.specs.Device.{device_of}
use Rattle.refusal.specs.declared.Refusal.{Refusal}
use Rattle.refusal.specs.declared.Refusal.TheVariants.{WrongLog, ShortOutput}

-- what a record gives a channel: its own reading, and the other's report, "datum k by the data and k of the channel given", and its head (W1)
abbrev pub given_by : MachineData → ℕ → Reading → Reading → Bool → Given
given_by d k own other ack = record { reading = own; acknowledged = ack; report = report_of d k other }

-- the states of the two channels
pub record Both : Type 0 where
  pub a : State
  pub b : State

-- a cycle of both channels: the states after it, and its three words
pub record DeviceCycle : Type 0 where
  pub both : Both
  pub a : ℕ
  pub b : ℕ
  pub device : ℕ

module _ (da db : MachineData) where
  -- both reports are from before the cycle
  abbrev pub given_a : Both → CycleRecord → Given
  given_a x r = given_by db x.b.k r.a r.b r.acknowledged

  abbrev pub given_b : Both → CycleRecord → Given
  given_b x r = given_by da x.a.k r.b r.a r.acknowledged

  -- "each cycle puts A's word, B's word and the device word into the output"
  unfoldable pub device_cycle : Both → CycleRecord → DeviceCycle
  device_cycle x r =
      record {
        both = record { a = next da x.a (given_a x r); b = next db x.b (given_b x r) };
        a = word da x.a (given_a x r);
        b = word db x.b (given_b x r);
        device = device_of (word da x.a (given_a x r)) (word db x.b (given_b x r));
      }

  abbrev pub line_of : DeviceCycle → List ℕ
  line_of t = t.a ∷ t.b ∷ t.device ∷ []

  -- the states after a run, and its words
  unfoldable pub last_of : Both → List CycleRecord → Both
  last_of x [] = x
  last_of x (r ∷ rs) = last_of (device_cycle x r).both rs

  unfoldable pub lines_of : Both → List CycleRecord → List ℕ
  lines_of x [] = []
  lines_of x (r ∷ rs) = line_of (device_cycle x r) ++ lines_of (device_cycle x r).both rs

abbrev pub both_of : Channel → Channel → Both
both_of a b = record { a = a.state; b = b.state }

-- what a log leaves: the answer, both channels, and the output
pub record Ran : Type 0 where
  pub answer : Result ℕ Refusal
  pub a : Channel
  pub b : Channel
  pub out : List ℕ

-- "output, channels" are left as they were
abbrev pub refusing : Channel → Channel → List ℕ → Refusal → Ran
refusing a b out why = record { answer = Err why; a = a; b = b; out = out }

-- "from its front on; the output words behind them are not touched. The number of cycles and both channels come back"; W7: what is pending is dropped where
-- there is a cycle
abbrev pub running : Channel → Channel → List ℕ → List CycleRecord → Ran
running a b out rs =
    let last = last_of a.list b.list (both_of a b) rs in
    record {
      answer = Ok (length rs);
      a = after_cycles (length rs) a last.a;
      b = after_cycles (length rs) b last.b;
      out = lines_of a.list b.list (both_of a b) rs ++ drop (3 * length rs) out;
    }

-- "output below 3 words a cycle": 7, the words wanted; "6 before 7"
abbrev pub by_records : Channel → Channel → List ℕ → LogRead → Ran
by_records a b out (fault place) = refusing a b out (WrongLog place)
by_records a b out (records rs) = cond (ltb (length out) (3 * length rs)) (refusing a b out (ShortOutput (3 * length rs))) (running a b out rs)

-- "log over 16,384 words, or a word missing or wrong": 6; "In a log length goes first"
unfoldable pub ran_of : Channel → Channel → List ℕ → List ℕ → Ran
ran_of a b words out = cond (ltb 16_384 (length words)) (refusing a b out (WrongLog 16_384)) (by_records a b out (log_of words))
