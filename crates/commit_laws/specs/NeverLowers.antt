-- What a commit leaves as it was, what it cuts and what it ends: W7, "A commit never lowers a stop".
use Rattle.std.specs.Prelude.{ℕ, ◌≤◌, ◌<◌, max, true, false, ◌≡◌, ℤ}
use Rattle.machine_data.specs.declared.MachineData.{MachineData}
use Rattle.machine_data.specs.Data.{number_of, function_of}
use Rattle.rank.specs.declared.Rank.{Rank}
use Rattle.rank.specs.Rank.{time_of}
use Rattle.stop.specs.declared.Stop.{Stop}
use Rattle.stop.specs.declared.Stop.TheVariants.{Free, Braking, Held, Cancelled}
use Rattle.stop.specs.Stop.{rank_of}
use Rattle.channel_word.specs.Word.{is_held}
use Rattle.directions.specs.Directions.{no_directions}
use Rattle.state.specs.declared.State.{State}

-- the count of a stop; 0 where none runs
abbrev pub count_of : Stop → ℕ
count_of Free = 0
count_of (Braking r n) = n
count_of (Held r p) = 0
count_of Cancelled = 0

-- of list m, a state s and the state t behind the commit of m
pub record NeverLowers (m : MachineData) (s t : State) : Type 0 where
  -- "Rank .. go on", "A commit never lowers a stop"
  pub rank : rank_of t.stop ≡ rank_of s.stop
  -- "hold": one that is held is held by the same stop with the same reference, and no other is
  pub hold : (r : Rank) (p : ℤ) → s.stop ≡ Held r p → t.stop ≡ Held r p
  pub held : is_held t.stop ≡ is_held s.stop
  -- "F"
  pub fault : t.kept.fault.on ≡ s.kept.fault.on
  -- "references": SBH's
  pub reference : t.kept.choice.reference ≡ s.kept.choice.reference
  -- "cams"
  pub cams : t.kept.cams ≡ s.kept.cams
  -- "k .. go on": where the list has a datum k; "k from 0 if it is past the new last datum"
  pub k_same : s.k < m.count → t.k ≡ s.k
  pub k_from_0 : m.count ≤ s.k → t.k ≡ 0
  -- "all else that a channel keeps": the effective selection, with its SG and override, and whether one was ever chosen
  pub effective : t.kept.choice.effective ≡ s.kept.choice.effective
  pub chosen : t.kept.choice.chosen ≡ s.kept.choice.chosen
  -- the value of n<nx and its run, the run of differing input words ("runs are not" cut), the previous position
  pub nx : t.kept.nx ≡ s.kept.nx
  pub differing : t.kept.differing ≡ s.kept.differing
  pub previous : t.previous ≡ s.previous
  -- "but for what W6 ends with bit 5 off": safe direction's runs and watches
  pub directions_on : function_of m.values 5 ≡ true → t.kept.directions ≡ s.kept.directions
  pub directions_off : function_of m.values 5 ≡ false → t.kept.directions ≡ no_directions
  -- "falling counts above the new datum are cut to it": none is greater than before
  pub stop_no_greater : count_of t.stop ≤ count_of s.stop
  pub fault_no_greater : t.kept.fault.left ≤ s.kept.fault.left
  pub delay_no_greater : t.kept.choice.left ≤ s.kept.choice.left
  -- none is above its new datum: the stop's by the time of its rank, F's by datum 34, the delay by datum 27. A delay of 0 is none, so one that runs goes on
  -- to the next usable cycle
  pub stop_within : count_of t.stop ≤ time_of m.values (rank_of t.stop)
  pub fault_within : t.kept.fault.left ≤ number_of m.values 34
  pub delay_within : t.kept.choice.left ≤ max 1 (number_of m.values 27)
  pub delay_runs : 1 ≤ s.kept.choice.left → 1 ≤ t.kept.choice.left
  -- and one that is not above it goes on
  pub stop_same : count_of s.stop ≤ time_of m.values (rank_of s.stop) → t.stop ≡ s.stop
  pub fault_same : s.kept.fault.left ≤ number_of m.values 34 → t.kept.fault.left ≡ s.kept.fault.left
  pub delay_same : s.kept.choice.left ≤ number_of m.values 27 → t.kept.choice.left ≡ s.kept.choice.left
