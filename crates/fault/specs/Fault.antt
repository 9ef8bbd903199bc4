-- F: document 01, step 4.
use Rattle.std.specs.Prelude.{◌-◌, Bool, true, false, cond, ◌&&◌, List, ℤ, eqb}
use Rattle.machine_data.specs.Data.{number_of}
use Rattle.fault.specs.declared.Fault.{Fault}

-- "10, 11, 12 set F and, if F is new, its count to datum 34; the count falls in later usable cycles"
unfoldable pub fault_next : List ℤ → Bool → Fault → Fault
fault_next d differs f =
    cond f.on (record { on = true; left = f.left - 1 })
    (record { on = differs; left = cond differs (number_of d 34) 0 })

-- "at 0, with F on"
unfoldable pub expired : Fault → Bool
expired f = f.on && eqb f.left 0

-- "rank 0, not held, F off" in a cycle that clears
abbrev pub cleared_fault : Bool → Fault → Fault
cleared_fault clears f = cond clears (record { on = false; left = 0 }) f
