-- Cause 4, SE: document 01, step 4.
use Rattle.std.specs.Prelude.{ℕ, ◌+◌, Bool, cond, ◌&&◌, ◌||◌, List, ℤ}
use Rattle.std.specs.Int.Signed.{lt_z}
use Rattle.machine_data.specs.Data.{datum_of, number_of, function_of}
use Rattle.inputs.specs.declared.Reading.{Reading}
use Rattle.inputs.specs.Layout.{se2_chosen}
use Rattle.rank.specs.declared.Rank.{Rank}
use Rattle.rank.specs.Rank.{rank_from}

-- below datum k or above the one behind it
abbrev pub beyond : List ℤ → ℤ → ℕ → Bool
beyond d position k = lt_z position (datum_of d k) || lt_z (datum_of d (k + 1)) position

-- "4 SE as chosen by bit 12, position below its minus or above its plus"; "4 to 8 need their function on"
unfoldable pub outside : List ℤ → Reading → Bool
outside d r = function_of d 1 && beyond d r.position (cond (se2_chosen r.inputs) 13 11)

-- "rank by datum 15"
abbrev pub se_rank : List ℤ → Rank
se_rank d = rank_from (number_of d 15)
