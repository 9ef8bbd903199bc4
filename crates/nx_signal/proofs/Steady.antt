-- How the two speeds of n<nx lie to each other, and what the signal is with both data 0. Assumes nothing.
use Prim.Native.Nat.{◌+◌, min}
use mathlib.Core.Path.{◌≡◌, refl, sym}
use mathlib.Core.Bool.{Bool, true, false, not, cond, true≢false}
use mathlib.Core.List.{List}
use native.Mathlib.Omega.{arith}
use borrow.Author.Tests.{lt-ltb}
use lib.Dec.{T, ltb}
use lib.IntN.{ℤ}
use lib.Ieee.Bits.{is_true}
use Rattle.machine_data.specs.Data.{number_of}
use Rattle.runs.specs.Run.{run_next}
use Rattle.speed.specs.declared.Step.{Step}
use Rattle.speed.specs.Speed.{slower, slower_than}
use Rattle.speed.proofs.Load.{slower_more}
use Rattle.nx_signal.specs.declared.Signal.{Signal}
use Rattle.nx_signal.specs.Signal.{released, value_next, below_run, signal_next}

module _ (d : List ℤ) (step : Step) where
  -- below nx the speed is not nx plus hysteresis or more: so set and reset exclude each other
  pub apart : T (slower d step 25) → T (released d step) → ⊥
  unfolding released
  apart b o =
      let more : slower_than d step (number_of d 25 + number_of d 67) ≡ true = slower_more d step (number_of d 25) (number_of d 25 + number_of d 67) (omega arith) (is_true (slower d step 25) b) in
      go (slower_than d step (number_of d 25 + number_of d 67)) more o
    where
      go : (t : Bool) → t ≡ true → T (not t) → ⊥
      go true e o = o
      go false e o = absurd (true≢false (sym e))

  -- "With both data 0 it reads as before": n<nx is "|d| × 60 < datum 25 × T", whatever it was
  pub as_before : number_of d 67 ≡ 0 → number_of d 68 ≡ 0 → (s : Signal) → (signal_next d step s).on ≡ slower d step 25
  unfolding value_next released below_run run_next
  as_before none now s =
      let at : number_of d 25 + number_of d 67 ≡ number_of d 25 = omega (arith, none) in
      simp (now, at) (go (slower d step 25))
    where
      go : (t : Bool) → cond (not t) false (cond (ltb 0 (cond t (min (s.run + 1) 1001) 0)) true s.on) ≡ t
      go true = simp (lt-ltb 0 (min (s.run + 1) 1001) (omega arith))
      go false = refl
