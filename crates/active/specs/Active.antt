-- Cause 13: document 01, step 4, with request W2's condition.
use Rattle.std.specs.Prelude.{Bool, ◌&&◌, ◌||◌, List, ℤ}
use Rattle.machine_data.specs.Data.{function_of}
use Rattle.selection.specs.declared.Selection.{Selection}
use Rattle.selection.specs.Selection.{is_effective}
use Rattle.fault.specs.declared.Fault.{Fault}
use Rattle.fault.specs.Fault.{expired}

-- W2: "SBH or SG is effective, or SE or cams are enabled", by the selection that step 3 of this cycle leaves effective
unfoldable pub active : List ℤ → Selection → Bool
active d effective = is_effective effective || (function_of d 1 || function_of d 2)

-- "at 0, with F on, stands cause 13", W2: "only in cycles where SBH or SG is effective, or SE or cams are enabled"
unfoldable pub fault_stops : List ℤ → Selection → Fault → Bool
fault_stops d effective f = expired f && active d effective
