-- When a log is accepted, with nothing said of how it is read: document 01, "In a log length goes first".
use Rattle.std.specs.Prelude.{ℕ, ◌*◌, ◌≤◌, ◌≡◌, List, length}
use Rattle.seven.specs.declared.CycleRecord.{CycleRecord}
use Rattle.records.specs.IsLog.{IsLog}

pub record IsAccepted (words out : List ℕ) (n : ℕ) : Type 0 where
  -- "log over 16,384 words"
  pub short : length words ≤ 16_384
  -- "A log is cycle records"
  pub rs : List CycleRecord
  pub log : IsLog rs words
  pub cycles : n ≡ length rs
  -- "output below 3 words a cycle"
  pub room : 3 * n ≤ length out
