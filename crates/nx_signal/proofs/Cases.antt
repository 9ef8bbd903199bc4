-- The signal by the two cases of the speed, below nx or not: set and kept in the one, reset and kept in the other. Assumes nothing.
use mathlib.Core.Path.{◌≡◌, refl, sym, subst}
use mathlib.Core.Bool.{Bool, true, false, not, cond, ◌&&◌, ◌||◌}
use mathlib.Core.List.{List}
use native.Mathlib.Omega.{arith}
use borrow.Author.Tests.{le-ltb}
use lib.Dec.{T, ltb}
use lib.IntN.{ℤ}
use Rattle.laws.proofs.Bools.{is_false}
use Rattle.machine_data.specs.Data.{number_of}
use Rattle.runs.specs.Run.{run_next}
use Rattle.speed.specs.declared.Step.{Step}
use Rattle.speed.specs.Speed.{slower}
use Rattle.nx_signal.specs.declared.Signal.{Signal}
use Rattle.nx_signal.specs.Signal.{released, value_next, below_run, signal_next, signal_below, signal_above}
use Rattle.nx_signal.proofs.Steady.{apart}

module _ (d : List ℤ) (step : Step) (s : Signal) where
  pub below_is : slower d step 25 ≡ true → signal_below d s ≡ signal_next d step s
  unfolding value_next below_run
  below_is b =
      let low : released d step ≡ false = is_false (released d step) (apart d step (subst T (sym b) tt)) in
      simp (b, low) (λ i. record { run = run_next true s.run; on = go s.on (ltb (number_of d 68) (run_next true s.run)) i })
    where
      go : (a b : Bool) → (a || b) ≡ cond b true a
      go true true = refl
      go true false = refl
      go false true = refl
      go false false = refl

  pub above_is : slower d step 25 ≡ false → signal_above d step s ≡ signal_next d step s
  unfolding value_next below_run run_next
  above_is b = simp (b, le-ltb (number_of d 68) 0 (omega arith)) (λ i. record { run = 0; on = go s.on (released d step) i })
    where
      go : (a b : Bool) → (a && not b) ≡ cond b false a
      go true true = refl
      go true false = refl
      go false true = refl
      go false false = refl
