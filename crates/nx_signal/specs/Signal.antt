-- The signal n<nx with its hysteresis and its filter: W3, which calls it the door lamp. Speeds are compared as W1 has it, by the load's step.
use Rattle.std.specs.Prelude.{ℕ, ◌+◌, Bool, true, false, not, cond, ◌&&◌, ◌||◌, List, ℤ, ltb}
use Rattle.machine_data.specs.Data.{number_of}
use Rattle.runs.specs.Run.{run_next}
use Rattle.speed.specs.declared.Step.{Step}
use Rattle.speed.specs.Speed.{slower, slower_than}
use Rattle.nx_signal.specs.declared.Signal.{Signal}

-- "where speed is nx plus hysteresis or more"
unfoldable pub released : List ℤ → Step → Bool
released d step = not (slower_than d step (number_of d 25 + number_of d 67))

-- "The signal goes to 0 where speed is nx plus hysteresis or more. It goes to 1 after the speed has been below nx in more than datum 68 usable cycles
-- running. In between it keeps its value": after a run of so many cycles
unfoldable pub value_next : List ℤ → Step → ℕ → Bool → Bool
value_next d step run before = cond (released d step) false (cond (ltb (number_of d 68) run) true before)

-- "below nx": the run, this cycle counted
unfoldable pub below_run : List ℤ → Step → ℕ → ℕ
below_run d step before = run_next (slower d step 25) before

-- the signal after a usable cycle
abbrev pub signal_next : List ℤ → Step → Signal → Signal
signal_next d step s =
    record { run = below_run d step s.run; on = value_next d step (below_run d step s.run) s.on }

-- ---- by cases, as the code has them: below nx, and at nx or above it. proofs/Cases.antt shows that these are the signal above

abbrev pub signal_below : List ℤ → Signal → Signal
signal_below d s = record { run = run_next true s.run; on = s.on || ltb (number_of d 68) (run_next true s.run) }

abbrev pub signal_above : List ℤ → Step → Signal → Signal
signal_above d step s = record { run = 0; on = s.on && not (released d step) }
