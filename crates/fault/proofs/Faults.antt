-- What a cycle makes of F, by the cases of its definition. Assumes nothing.
use Prim.Native.Nat.{◌-◌, ◌≤◌, ◌<◌}
use mathlib.Core.Bool.{Bool, true, false, cond, ◌||◌}
use mathlib.Core.List.{List}
use mathlib.Core.Path.{◌≡◌, refl, ◌∙◌}
use native.Mathlib.Omega.{arith}
use borrow.Author.Tests.{eq-eqb, ne_eqb}
use lib.Dec.{eqb}
use lib.IntN.{ℤ}
use Rattle.machine_data.specs.Data.{number_of}
use Rattle.fault.specs.declared.Fault.{Fault}
use Rattle.fault.specs.Fault.{fault_next, expired}

module _ (d : List ℤ) (differs : Bool) (f : Fault) where
  -- "10, 11, 12 set F": it is on after a cycle where it was on or one of them stands
  pub fault_on : (fault_next d differs f).on ≡ (f.on || differs)
  unfolding fault_next
  fault_on = go f.on
    where
      go : (t : Bool) → (cond {A = Fault} t (record { on = true; left = f.left - 1 }) (record { on = differs; left = cond differs (number_of d 34) 0 })).on ≡ (t || differs)
      go true = refl
      go false = refl

  -- "the count falls in later usable cycles", whether or not the channels differ again
  pub fault_later : f.on ≡ true → (fault_next d differs f).left ≡ f.left - 1
  unfolding fault_next
  fault_later e = rw e

  pub expired_later : f.on ≡ true → f.left ≤ 1 → expired (fault_next d differs f) ≡ true
  unfolding fault_next expired
  expired_later e h = rw e (eq-eqb (f.left - 1) 0 (omega arith))

  pub waits : f.on ≡ true → 1 < f.left → expired (fault_next d differs f) ≡ false
  unfolding fault_next expired
  waits e h = rw e (ne_eqb (f.left - 1) 0 (omega arith))

module _ (d : List ℤ) (f : Fault) (off : f.on ≡ false) where
  -- "if F is new, its count to datum 34"
  pub fault_new : (fault_next d true f).left ≡ number_of d 34
  unfolding fault_next
  fault_new = rw off

  -- "at 0, with F on": in the cycle that sets F exactly where datum 34 is 0
  pub expired_new : expired (fault_next d true f) ≡ eqb (number_of d 34) 0
  unfolding fault_next expired
  expired_new = rw off

  pub expired_at_once : number_of d 34 ≡ 0 → expired (fault_next d true f) ≡ true
  expired_at_once e = expired_new ∙ eq-eqb (number_of d 34) 0 e

  -- without F no time is over
  pub expired_not : expired f ≡ false
  unfolding expired
  expired_not = rw off
