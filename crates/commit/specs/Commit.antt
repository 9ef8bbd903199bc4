-- What a commit of another list makes of a channel's state: W7.
use Rattle.std.specs.Prelude.{ℕ, zero, suc, min, max, cond, List, ltb, ℤ}
use Rattle.machine_data.specs.declared.MachineData.{MachineData}
use Rattle.machine_data.specs.Data.{number_of, function_of}
use Rattle.selection.specs.declared.Choice.{Choice}
use Rattle.rank.specs.Rank.{time_of}
use Rattle.stop.specs.declared.Stop.{Stop}
use Rattle.stop.specs.declared.Stop.TheVariants.{Free, Braking, Held, Cancelled}
use Rattle.fault.specs.declared.Fault.{Fault}
use Rattle.directions.specs.declared.Directions.{Directions}
use Rattle.directions.specs.Directions.{no_directions}
use Rattle.state.specs.declared.State.{State}

-- "k from 0 if it is past the new last datum"
abbrev pub cut_k : ℕ → ℕ → ℕ
cut_k count k = cond (ltb k count) k 0

-- "falling counts above the new datum are cut to it": the count of a lowering, by datum 27. A count of 0 means that no delay runs, so one that runs is cut to 1 where
-- the datum is 0: it too ends in the next usable cycle, and no further commit before that sets it anew
abbrev pub cut_delay : List ℤ → ℕ → ℕ
cut_delay d zero = zero
cut_delay d (suc n) = min (suc n) (max 1 (number_of d 27))

abbrev pub cut_choice : List ℤ → Choice → Choice
cut_choice d x = record { chosen = x.chosen; effective = x.effective; reference = x.reference; left = cut_delay d x.left }

-- F's count, by datum 34; while F is off it is 0
abbrev pub cut_fault : List ℤ → Fault → Fault
cut_fault d f = record { on = f.on; left = min f.left (number_of d 34) }

-- the count of the standing stop, by the time of its rank
abbrev pub cut_stop : List ℤ → Stop → Stop
cut_stop d Free = Free
cut_stop d (Braking r n) = Braking r (min n (time_of d r))
cut_stop d (Held r p) = Held r p
cut_stop d Cancelled = Cancelled

-- "but for what W6 ends with bit 5 off": "no run or watch stands"
abbrev pub ended_directions : List ℤ → Directions → Directions
ended_directions d x = cond (function_of d 5) x no_directions

-- "Rank, hold, F, references, cams, k and, but for what W6 ends with bit 5 off, all else that a channel keeps go on": the state behind a commit of list m
unfoldable pub committed : MachineData → State → State
committed m s =
    record {
      k = cut_k m.count s.k;
      kept =
          record {
            -- "cams"
            cams = s.kept.cams;
            -- the effective selection, whether one was chosen, SBH's reference; the delay cut
            choice = cut_choice m.values s.kept.choice;
            -- "runs are not" cut: of differing input words
            differing = s.kept.differing;
            -- "F", its count cut
            fault = cut_fault m.values s.kept.fault;
            -- value and run of n<nx
            nx = s.kept.nx;
            -- runs and watches of safe direction
            directions = ended_directions m.values s.kept.directions;
          };
      -- "Rank, hold", the hold's reference; the count cut
      stop = cut_stop m.values s.stop;
      previous = s.previous;
    }
