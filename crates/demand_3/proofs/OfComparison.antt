-- Laws of F: a cause sets it, it stays, each later usable cycle takes it a step nearer to its end, and at its end its time is over. By its brightness, one
-- number for F and its count. Assumes nothing.
use Prim.Native.Nat.{ℕ, suc, ◌+◌, ◌-◌, ◌≤◌, ◌<◌}
use mathlib.Core.Bool.{Bool, true, false, cond, ◌&&◌}
use mathlib.Core.List.{List}
use mathlib.Core.Path.{refl}
use native.Mathlib.Omega.{arith}
use borrow.Author.Tests.{eq-eqb}
use lib.Dec.{T, eqb}
use lib.IntN.{ℤ}
use Rattle.machine_data.specs.Data.{number_of}
use Rattle.machine_data.proofs.Stands.{number_high}
use Rattle.fault.specs.declared.Fault.{Fault}
use Rattle.fault.specs.Fault.{fault_next, expired}

pub fault_time_most : (d : List ℤ) → number_of d 34 ≤ 1000
fault_time_most d = number_high d 34 1000 (omega arith) refl

-- 0 while F is off; else 2000, less the cycles left to its end
unfoldable pub brightness : Fault → ℕ
brightness f = cond f.on (2000 - f.left) 0

-- F from one usable cycle to the next, where nothing is cleared
pub record Lit (d : List ℤ) (differs : Bool) (f g : Fault) : Type 0 where
  pub left : f.left ≤ number_of d 34 → g.left ≤ number_of d 34
  pub set : T differs → T g.on
  pub stays : T f.on → T g.on
  pub sooner : (j : ℕ) → j < 1000 → 2000 ≤ brightness f + suc j → 2000 ≤ brightness g + j

pub lit : (d : List ℤ) (differs : Bool) (f : Fault) → Lit d differs f (fault_next d differs f)
unfolding fault_next brightness
lit d differs f = go f.on differs
  where
    go : (a b : Bool) → Lit d b (record { on = a; left = f.left }) (fault_next d b (record { on = a; left = f.left }))
    go true b = record { left = omega arith; set = λ _. tt; stays = λ _. tt; sooner = omega arith }
    go false true = record { left = omega arith; set = λ _. tt; stays = λ _. tt; sooner = omega arith }
    go false false = record { left = omega arith; set = λ t. t; stays = λ t. t; sooner = omega arith }

-- F is at its end in as many cycles as its count says
pub bright : (f : Fault) (t : ℕ) → T f.on → f.left ≤ t → 2000 ≤ brightness f + t
unfolding brightness
bright f t o h = go f.on o
  where
    go : (b : Bool) → T b → 2000 ≤ cond b (2000 - f.left) 0 + t
    go true o = omega arith
    go false o = absurd o

pub expires : (f : Fault) → 2000 ≤ brightness f → T (expired f)
unfolding brightness expired
expires f h = go f.on f.left h
  where
    go : (a : Bool) (n : ℕ) → 2000 ≤ cond a (2000 - n) 0 → T (a && eqb n 0)
    go true n h = rw (eq-eqb n 0 (omega arith)) tt
    go false n h = omega arith
