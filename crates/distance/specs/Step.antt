-- The step of a cycle: document 01, step 2.
use Rattle.std.specs.Prelude.{ℕ, ℤ, pos, nat_abs, ◌-ℤ◌, Option, None, Some}

-- "d = position less previous position, 0 if there is none"
abbrev pub step_from : Option ℤ → ℤ → ℤ
step_from None position = pos 0
step_from (Some previous) position = position -ℤ previous

-- |d|
abbrev pub moved_from : Option ℤ → ℤ → ℕ
moved_from previous position = nat_abs (step_from previous position)
