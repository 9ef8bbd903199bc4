-- What follows where two constructors are said to be equal: `cc` makes 0 equal to 1 of it. Assumes nothing.
use mathlib.Core.Path.{◌≡◌}
use Prim.Native.Nat.{ℕ}
use native.Mathlib.Omega.{arith}

pub never : {X : Type 0} → ◌≡◌ {A = ℕ} 0 1 → X
never z = absurd (go z)
  where
    go : ◌≡◌ {A = ℕ} 0 1 → ⊥
    go y = omega arith
