-- Where a log is faulty, with nothing said of how it is read: the refusal table's "a word missing or wrong".
use Rattle.std.specs.Prelude.{ℕ, ◌+◌, List, ◌∷◌, ◌++◌, length}
use Rattle.words.specs.Breaks.{a_remark, IsA, Breaks}
use Rattle.seven.specs.declared.CycleRecord.{CycleRecord}
use Rattle.records.specs.IsLog.{a_record, IsLog}

-- "a word missing or wrong": its place in the log; "a missing word has the place behind the last one"
pub data FaultAt : List ℕ → ℕ → Type 0 where
  -- behind records and remarks stands a word that is no remark, and the record from it on breaks off after m words
  fault_at : {rs : List CycleRecord} {front ws : List ℕ} {w m : ℕ} →
      IsLog rs front → (IsA a_remark w → ⊥) → Breaks a_record (w ∷ ws) m → FaultAt (front ++ (w ∷ ws)) (length front + m)
