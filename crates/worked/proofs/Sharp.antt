-- The bounds of demand 3 are as short as can be, by computing the runs. Assumes nothing.
use mathlib.Core.Path.{◌≡◌, refl, subst}
use mathlib.Core.List.{[], ◌∷◌}
use Rattle.channel.specs.Cycle.{fresh_channel}
use Rattle.demand_3.specs.Calls.{Answers}
use Rattle.runs.specs.Running
use Rattle.demand_3.specs.Claims
use Rattle.demand_3.proofs.Answered.{answered}
use Rattle.worked.specs.Sharp.{list, nx_alone, directed, moving, leaving, differing, deselected, lowering, falling, calls, words, Sharp}
use Rattle.worked.proofs.Computing.{the_cycle, the_calls}

-- the words that the calls give
given : (answered (fresh_channel list) calls).0 ≡ words 0x00000081 0x1 ∷ words 0x03000081 0x7 ∷ words 0x03000081 0x7 ∷ words 0x0b000081 0x7 ∷ []
unfolding the_calls list moving calls
given = refl

pub sharp : Sharp
unfolding the_cycle Claims.cause_of Running.usable_before list nx_alone moving leaving differing deselected lowering directed falling
sharp =
    record {
      overstepped_1 = (refl, refl);
      met_in_1 = (refl, refl);
      watched_from_1 = (refl, refl);
      overstepped_4 = (refl, refl);
      met_in_4 = (refl, refl);
      entered_1 = (refl, refl);
      held_in_3 = (refl, refl);
      held_in_a_log = subst (Answers (fresh_channel list) calls) given (answered (fresh_channel list) calls).1;
      unusable_1 = refl;
      off_in_1 = (refl, refl);
      moves_4 = (refl, refl);
      off_in_6 = (refl, refl, refl);
      falls_in_7 = (refl, refl);
      differs_1 = (refl, refl);
      off_in_5 = (refl, refl);
      shown_1 = refl;
      shown_in_5 = (refl, refl);
      no_stop_in_5 = refl;
      active_1 = (refl, refl);
      inactive_in_7 = (refl, refl, refl);
      active_in_8 = (refl, refl, refl);
      selected_1 = (refl, refl);
      bound_in_3 = (refl, refl);
    }
