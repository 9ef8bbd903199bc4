-- A direction of safe direction: W6. It is said once, with a sign; "positive-only" and its mirror are the two signs (the crate directions).
use Rattle.std.specs.Prelude.{ℕ, Bool, true, false, cond, List, ℤ, pos, ◌-ℤ◌, ltb, Option, None, Some}
use Rattle.std.specs.Int.Signed.{lt_z}
use Rattle.machine_data.specs.Data.{number_of}
use Rattle.runs.specs.Run.{run_next}
use Rattle.direction.specs.declared.Sign.{Sign}
use Rattle.direction.specs.declared.Sign.TheVariants.{Positive, Negative}
use Rattle.direction.specs.declared.Direction.{Direction}

-- "allow only positive and only negative travel": how far position a lies from b in the allowed direction. Nothing else here asks for the sign
abbrev pub ahead : Sign → ℤ → ℤ → ℤ
ahead Positive a b = a -ℤ b
ahead Negative a b = b -ℤ a

-- "the highest in the usable cycles since the watch began", of the other sign the lowest: the extreme, with one more position
unfoldable pub furthest : Sign → ℤ → ℤ → ℤ
furthest sign extreme position = cond (lt_z (pos 0) (ahead sign position extreme)) position extreme

-- "A direction starts its watch when its bit has been 0 for more than the delay in usable cycles running": by the run with this cycle, whose position is the
-- first extreme; one that has begun goes on
abbrev pub watch_next : List ℤ → Sign → ℕ → ℤ → Option ℤ → Option ℤ
watch_next d sign run position None = cond (ltb (number_of d 70) run) (Some position) None
watch_next d sign run position (Some extreme) = Some (furthest sign extreme position)

-- no run and no watch
abbrev pub no_direction : Direction
no_direction = record { run = 0; watch = None }

-- "and ends it in a usable cycle where it is 1": a direction after a usable cycle
unfoldable pub direction_next : List ℤ → Sign → Bool → ℤ → Direction → Direction
direction_next d sign free position x =
    let run = run_next true x.run in
    cond free no_direction (record { run = run; watch = watch_next d sign run position x.watch })

-- "Positive-only is overstepped where the position is more than the tolerance below the highest .., and the negative is its mirror"
abbrev pub beyond_by : List ℤ → Sign → ℤ → Option ℤ → Bool
beyond_by d sign position None = false
beyond_by d sign position (Some extreme) = lt_z (pos (number_of d 69)) (ahead sign extreme position)
