-- Other wordings of the claims are false, and the bounds are as short as can be where a count is cut to 0, by computing the runs. Assumes nothing.
use mathlib.Core.Path.{refl}
use Rattle.runs.specs.Running
use Rattle.commit.specs.Commit
use Rattle.demand_3.specs.History
use Rattle.demand_3.specs.Claims
use Rattle.worked.specs.Wordings
use Rattle.worked.specs.Wordings.{Wordings}
use Rattle.worked.proofs.Computing.{the_cycle}

pub wordings : Wordings
unfolding the_cycle Commit.committed History.last_of History.all_committed History.list_in History.before Claims.cause_of Running.usable_before Wordings.timed Wordings.directed_after Wordings.undirected Wordings.only Wordings.lowered Wordings.differed Wordings.oversped Wordings.fallen
wordings =
    record {
      last_cycle = (refl, refl);
      all_select = (refl, refl, refl);
      not_in_3 = (refl, refl);
      differs_1 = (refl, refl);
      brakes_3 = (refl, refl);
      off_in_7 = (refl, refl);
      entered_1 = (refl, refl);
      not_held_3 = refl;
      cut_to_0 = (refl, refl);
      set_anew = refl;
      held_by_a_cut = (refl, refl);
      f_ended_by_a_cut = (refl, refl);
      b_ended_by_a_cut = (refl, refl);
      bound_by_a_cut = (refl, refl);
      watched_on = refl;
      watch_ended = (refl, refl);
    }
