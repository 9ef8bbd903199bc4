-- The load's speed as a fraction, and what it means that two fractions are compared "still without dividing": W1. proofs/Load.antt shows that
-- the comparisons of Speed.antt are those of the load's speed.
use Rattle.std.specs.Prelude.{ℕ, ◌*◌, Bool, List, ℤ, ltb}
use Rattle.machine_data.specs.declared.Ratio.{Ratio}
use Rattle.machine_data.specs.Data.{number_of}
use Rattle.speed.specs.declared.Step.{Step}
use Rattle.speed.specs.Speed.{speed_of}

-- top / under, which is above 0
pub record Fraction : Type 0 where
  pub top : ℕ
  pub under : ℕ

-- a is below b: crosswise, each times the other's lower number
abbrev pub below : Fraction → Fraction → Bool
below a b = ltb (a.top * b.under) (b.top * a.under)

-- the axis's speed in mm/min: |d| µm in T ms
abbrev pub axis_speed : List ℤ → ℕ → Fraction
axis_speed d moved = record { top = moved * 60; under = number_of d 0 }

-- "times numerator over denominator"
abbrev pub times : Fraction → Ratio → Fraction
times a r = record { top = a.top * r.numerator; under = a.under * r.denominator }

-- "the load speed"
abbrev pub load_speed : List ℤ → Step → Fraction
load_speed d s = times (axis_speed d s.moved) s.ratio

-- "limit × percent", of a hundred
abbrev pub sg_speed : List ℤ → ℕ → ℕ → Fraction
sg_speed d n o = record { top = speed_of d n o; under = 100 }

-- nx, nx with its hysteresis, or the shutdown speed
abbrev pub whole_speed : ℕ → Fraction
whole_speed v = record { top = v; under = 1 }
