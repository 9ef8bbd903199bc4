-- Safe direction: W6, of both directions.
use Rattle.std.specs.Prelude.{Bool, false, cond, ◌||◌, List, ℤ}
use Rattle.machine_data.specs.Data.{number_of, function_of}
use Rattle.inputs.specs.declared.Reading.{Reading}
use Rattle.inputs.specs.Layout.{positive_only_off, negative_only_off}
use Rattle.rank.specs.declared.Rank.{Rank}
use Rattle.rank.specs.Rank.{rank_from}
use Rattle.direction.specs.declared.Sign.TheVariants.{Positive, Negative}
use Rattle.direction.specs.Direction.{no_direction, direction_next, beyond_by}
use Rattle.directions.specs.declared.Directions.{Directions}
use Rattle.directions.specs.declared.Watched.{Watched}

-- no run and no watch
abbrev pub no_directions : Directions
no_directions = record { positive = no_direction; negative = no_direction }

-- "input bits 13 and 14, when 0, allow only positive and only negative travel, both 0 neither": both after a usable cycle
unfoldable pub directions_next : List ℤ → Reading → Directions → Directions
directions_next d r x =
    record {
      positive = direction_next d Positive (positive_only_off r.inputs) r.position x.positive;
      negative = direction_next d Negative (negative_only_off r.inputs) r.position x.negative;
    }

-- "this is cause 14", of either direction
unfoldable pub overstepped : List ℤ → ℤ → Directions → Bool
overstepped d position x = beyond_by d Positive position x.positive.watch || beyond_by d Negative position x.negative.watch

-- "Function bit 5 enables it": the directions after a usable cycle, and cause 14. With bit 5 off they are left as they are; that then "no run or watch
-- stands", a fresh channel having none, is `none_stands` of direction_history
unfoldable pub watched_of : List ℤ → Reading → Directions → Watched
watched_of d r x =
    let next = directions_next d r x in
    cond (function_of d 5) (record { directions = next; overstepped = overstepped d r.position next }) (record { directions = x; overstepped = false })

-- "Cause 14 has the rank of datum 71"
abbrev pub direction_rank : List ℤ → Rank
direction_rank d = rank_from (number_of d 71)
