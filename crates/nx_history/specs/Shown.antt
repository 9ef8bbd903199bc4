-- When bit 21 of the channel word, n<nx, is 1: W3, over every list of calls of demand 3, W7's asks and commits among them, and with no state kept.
-- proofs/Shown.antt shows it.
use Rattle.std.specs.Prelude.{ℕ, zero, suc, ◌<◌, Bool, cond, List, ◌↔◌, ◌≡◌, T, length, Option, ℤ, None, Some, Ok}
use Rattle.bits.specs.Bits.{bit_of}
use Rattle.machine_data.specs.declared.MachineData.{MachineData}
use Rattle.machine_data.specs.Data.{number_of, function_of}
use Rattle.speed.specs.declared.Step.{Step}
use Rattle.speed.specs.Speed.{slower}
use Rattle.nx_signal.specs.Signal.{released}
use Rattle.runs.specs.Since.{SetSince}
use Rattle.state.specs.declared.Given.{Given}
use Rattle.judge.specs.Causes.{step_of}
use Rattle.list.specs.Reading.{read_list}
use Rattle.channel.specs.Cycle.{fresh_channel}
use Rattle.demand_3.specs.Calls.{Call, Words, Answers}
use Rattle.demand_3.specs.History.{all_cycles, all_commits, cycle_at, list_in}
use Rattle.demand_3.specs.Claims.{usable_in}
use Rattle.demand_3.specs.Demand3.{words_in}

-- of numbered cycles, from 0: `L n` is the list in force in cycle n, `G n` what it is given
module _ (L : ℕ → MachineData) (G : ℕ → Given) where
  -- the position before cycle n: none in the first cycle and behind an unusable one
  abbrev pub previous_at : ℕ → Option ℤ
  previous_at zero = None
  previous_at (suc n) = cond (usable_in L G n) (Some (G n).reading.position) None

  abbrev pub step_at : ℕ → Step
  step_at n = step_of (L n).values (previous_at n) (G n).reading

  -- "below nx", and "nx plus hysteresis or more", by the list in force
  abbrev pub below_at : ℕ → Bool
  below_at n = slower (L n).values (step_at n) 25

  abbrev pub over_at : ℕ → Bool
  over_at n = released (L n).values (step_at n)

  abbrev pub filter_at : ℕ → ℕ
  filter_at n = number_of (L n).values 68

  -- bit 21 is 1 in cycle n: it is usable, the function is on, and the signal is 1 after it
  pub record ShownAt (n : ℕ) : Type 0 where
    pub used : T (usable_in L G n)
    pub enabled : T (function_of (L n).values 3)
    pub one : SetSince (usable_in L G) below_at over_at filter_at n

-- in each cycle of calls on a fresh channel with list m, by the words that they give and the lists in force: a commit leaves the signal, its run and the
-- previous position
abbrev pub ShownIn : MachineData → List Call → List Words → Type 0
ShownIn m calls given =
    (n : ℕ) → n < length (all_cycles calls) →
    T (bit_of (words_in given n).channel 21) ↔ ShownAt (list_in m (all_commits calls)) (cycle_at (all_cycles calls)) n

abbrev pub ShownNx : Type 0
ShownNx =
    (s : List ℕ) (size : ℕ) → (read_list s).answer ≡ Ok size →
    (calls : List Call) (given : List Words) → Answers (fresh_channel (read_list s).list) calls given → ShownIn (read_list s).list calls given
