-- Comparisons of speeds: document 01, steps 3 to 6, W1 and W3. A step is |d| in µm a cycle, a speed in mm/min, T in ms.
use Rattle.std.specs.Prelude.{ℕ, ◌+◌, ◌*◌, ◌%◌, Bool, cond, List, ℤ, ltb, eqb}
use Rattle.machine_data.specs.Data.{number_of}
use Rattle.speed.specs.declared.Step.{Step}

-- "The override applies to SG2 and SG4 only; others have 100": SG n + 1 with override o
unfoldable pub percent_of : List ℤ → ℕ → ℕ → ℕ
percent_of d n o = cond (eqb (n % 2) 1) (number_of d (35 + o % 16)) 100

-- "limit × percent"
unfoldable pub speed_of : List ℤ → ℕ → ℕ → ℕ
speed_of d n o = number_of d (3 + n % 4) * percent_of d n o

-- W1: "takes the step times numerator over denominator, still without dividing": the step times the numerator is set against T times the denominator
abbrev pub load_step : Step → ℕ
load_step s = s.moved * s.ratio.numerator

abbrev pub load_time : List ℤ → Step → ℕ
load_time d s = number_of d 0 * s.ratio.denominator

-- "|d| × 6000 > limit × percent × T", W1: "for SG"
unfoldable pub too_fast : List ℤ → Step → ℕ → ℕ → Bool
too_fast d s n o = ltb (speed_of d n o * load_time d s) (load_step s * 6000)

-- "|d| × 60 < datum 33 × T", of any speed v in place of datum 33, W1: "nx and shutdown"
unfoldable pub slower_than : List ℤ → Step → ℕ → Bool
slower_than d s v = ltb (load_step s * 60) (v * load_time d s)

-- of the speed that is datum k
abbrev pub slower : List ℤ → Step → ℕ → Bool
slower d s k = slower_than d s (number_of d k)
