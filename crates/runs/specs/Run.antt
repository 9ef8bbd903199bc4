-- A run, counted from cycle to cycle: document 01, step 4, cause 11, W3 and W6.
use Rattle.std.specs.Prelude.{ℕ, ◌+◌, min, Bool, cond}

-- "usable cycles running": one more in which it is so again, else 0; not counted past 1,001, which is above every datum that a run is compared with
unfoldable pub run_next : Bool → ℕ → ℕ
run_next again before = cond again (min (before + 1) 1001) 0
