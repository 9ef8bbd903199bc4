-- When a direction is overstepped, said of numbered cycles and with no run, watch or extreme kept: W6. proofs/Since.antt shows that it is what the crate direction
-- works out. Of cycle n, from 0, `usable n` says whether it is usable with the function on, `free n` whether the direction's bit is 1, `position n` is its
-- position, and `delay n` datum 70. That the watch stands after cycle n is `SetSince` of runs: there is a cycle up to which the bit "has been 0 for more than
-- the delay in usable cycles running", and since which it was 1 in no usable one.
use Rattle.std.specs.Prelude.{ℕ, ◌≤◌, ◌<◌, Bool, not, ℤ, pos, T}
use Rattle.std.specs.Int.Signed.{lt_z}
use Rattle.runs.specs.Since.{SetSince}
use Rattle.direction.specs.declared.Sign.{Sign}
use Rattle.direction.specs.Direction.{ahead}

-- its bit is 0
abbrev pub bound : (ℕ → Bool) → ℕ → Bool
bound free n = not (free n)

module _ (usable free : ℕ → Bool) (position : ℕ → ℤ) (delay : ℕ → ℕ) (sign : Sign) where
  -- "more than the tolerance below the highest in the usable cycles since the watch began": some usable cycle, `at`, in which the watch stood and since which
  -- it did not end, has a position more than the tolerance ahead of cycle n's
  pub record Beyond (tolerance n : ℕ) : Type 0 where
    pub at : ℕ
    pub not_later : at ≤ n
    pub used : T (usable at)
    pub watched : SetSince usable (bound free) free delay at
    pub never_ended : (i : ℕ) → at < i → i ≤ n → T (usable i) → T (free i) → ⊥
    pub far : T (lt_z (pos tolerance) (ahead sign (position at) (position n)))
