-- When a log is refused, and with which number and place, with nothing said of how it is read: document 01, the refusal table.
use Rattle.std.specs.Prelude.{ℕ, ◌*◌, ◌≤◌, ◌<◌, List, length}
use Rattle.refusal.specs.declared.Refusal.{Refusal}
use Rattle.refusal.specs.declared.Refusal.TheVariants.{WrongLog, ShortOutput}
use Rattle.seven.specs.declared.CycleRecord.{CycleRecord}
use Rattle.records.specs.IsLog.{IsLog}
use Rattle.refusals.specs.FaultAt.{FaultAt}

pub data LogFault (words out : List ℕ) : Refusal → Type 0 where
  -- "log over 16,384 words": 6, 16,384
  long : 16_384 < length words → LogFault words out (WrongLog 16_384)
  -- "or a word missing or wrong": 6, its place; "In a log length goes first"
  wrong : {place : ℕ} → length words ≤ 16_384 → FaultAt words place → LogFault words out (WrongLog place)
  -- "output below 3 words a cycle": 7, the words wanted; "6 before 7"
  small : {rs : List CycleRecord} → length words ≤ 16_384 → IsLog rs words → length out < 3 * length rs → LogFault words out (ShortOutput (3 * length rs))
