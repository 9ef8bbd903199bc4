-- Causes 2, 3 and 5 to 9: document 01, step 4. 2 and 3 go by the effective selection; 4 stands in the crate end_positions.
use Rattle.std.specs.Prelude.{ℕ, ◌+◌, ◌%◌, Bool, false, not, ◌&&◌, List, ℤ, nat_abs, ◌-ℤ◌, ltb}
use Rattle.machine_data.specs.Data.{number_of, function_of}
use Rattle.inputs.specs.declared.External.{External}
use Rattle.inputs.specs.Layout.{external_off}
use Rattle.speed.specs.declared.Step.{Step}
use Rattle.speed.specs.Speed.{too_fast}
use Rattle.selection.specs.declared.Selection.{Selection}
use Rattle.selection.specs.declared.Selection.TheVariants.{Nothing, Sg, Sbh}
use Rattle.selection.specs.declared.Choice.{Choice}
use Rattle.selection.specs.Selection.{is_sbh}
use Rattle.rank.specs.declared.Rank.{Rank}
use Rattle.rank.specs.declared.Rank.TheVariants as R
use Rattle.stop.specs.declared.Stop.{Stop}
use Rattle.stop.specs.declared.Stop.TheVariants.{Free, Braking, Held, Cancelled}
use Rattle.rank.specs.Rank.{rank_from}

-- "2 SBH, distance from reference over datum 2"
unfoldable pub standstill_left : List ℤ → Choice → ℤ → Bool
standstill_left d x position = is_sbh x.effective && ltb (number_of d 2) (nat_abs (position -ℤ x.reference))

-- "3 SG, |d| × 6000 > limit × percent × T, rank by datum"
abbrev pub over_speed : List ℤ → Selection → Step → Bool
over_speed d Nothing step = false
over_speed d (Sg n o) step = too_fast d step n o
over_speed d Sbh step = false

-- "rank by datum"
abbrev pub sg_rank : List ℤ → Selection → Rank
sg_rank d Nothing = R.None
sg_rank d (Sg n o) = rank_from (number_of d (7 + n % 4))
sg_rank d Sbh = R.None

-- "5, 6, 7, 8 external A, C, D, E, its input bit 0"; "4 to 8 need their function on"
unfoldable pub external : List ℤ → ℕ → External → Bool
external d w stop = function_of d 4 && not (external_off w stop)

-- "9 held, distance from the hold's reference over datum 2"
abbrev pub hold_left : List ℤ → Stop → ℤ → Bool
hold_left d Free position = false
hold_left d (Braking r n) position = false
hold_left d (Held r reference) position = ltb (number_of d 2) (nat_abs (position -ℤ reference))
hold_left d Cancelled position = false
