-- What asks and commits among the calls give, by computing them. Assumes nothing.
use mathlib.Core.List.{List}
use mathlib.Core.Path.{◌≡◌, refl, subst}
use Rattle.ranges.specs.Table
use Rattle.datum.specs.Datum
use Rattle.list.specs.Reading
use Rattle.commit.specs.Commit
use Rattle.channel.specs.Cycle.{fresh_channel}
use Rattle.demand_3.specs.Calls.{Call, Words, Answers}
use Rattle.demand_3.specs.History
use Rattle.demand_3.proofs.Answered.{answered}
use Rattle.worked.specs.Wordings
use Rattle.worked.specs.Commits
use Rattle.worked.specs.Commits.{slow, committing, too_late, refused, replaced, held, not_held, Committed}
use Rattle.worked.proofs.Computing.{the_calls}

-- all that reading a list and committing it compute with
unfoldable the_lists : Unit {0}
unfolding the_calls Table.in_range Table.allowed Datum.pieces_at Datum.form_at Datum.datum_at Datum.behind_of Datum.units_of Datum.value_at Reading.place_of Reading.ends Reading.gather Reading.read_list Commit.committed History.cycles_of History.as_cycles History.events_of History.commits_at Wordings.timed Wordings.oversped Commits.data_words Commits.list_words
the_lists = tt

-- the words that the calls give
gave : (calls : List Call) (ws : List Words) → (answered (fresh_channel slow) calls).0 ≡ ws → Answers (fresh_channel slow) calls ws
gave calls ws e = subst (Answers (fresh_channel slow) calls) e (answered (fresh_channel slow) calls).1

pub committed : Committed
unfolding the_lists committing too_late refused replaced
committed =
    record {
      read = (refl, refl);
      taken = (refl, refl, refl);
      held_in_2 = gave committing held refl;
      dropped = (refl, gave too_late not_held refl);
      none_left = (refl, gave refused not_held refl);
      the_later = (refl, gave replaced not_held refl);
    }
