-- Demand 3 where no call commits: one list is in force throughout, and the bounds are those of document 01 in its own words. proofs/OneList.antt shows it.
use Rattle.std.specs.Prelude.{ℕ, ◌+◌, ◌≤◌, ◌<◌, List, [], ◌⊎◌, ◌≡◌, T, length, Ok}
use Rattle.bits.specs.Bits.{bit_of}
use Rattle.machine_data.specs.declared.MachineData.{MachineData}
use Rattle.machine_data.specs.Data.{number_of}
use Rattle.runs.specs.Running.{All, window}
use Rattle.usable_inputs.specs.Usable.{usable_of}
use Rattle.selection.specs.declared.Selection.{Selection}
use Rattle.rank.specs.declared.Rank.{Rank}
use Rattle.rank.specs.Rank.{rank_number, time_of}
use Rattle.list.specs.Reading.{read_list}
use Rattle.state.specs.declared.State.{State}
use Rattle.state.specs.declared.Given.{Given}
use Rattle.channel.specs.Cycle.{fresh_channel}
use Rattle.demand_3.specs.Calls.{Call, single, logged, asks, commits, Words, Answers}
use Rattle.demand_3.specs.History.{all_cycles, cycle_at, history}
use Rattle.demand_3.specs.Claims.{AtLeast, rank_in_word, rank_in_device, selected_in, usable_in, Stands, Uncleared, entered, effective, ActiveFrom, Claims}
use Rattle.demand_3.specs.Demand3.{words_in}

-- a call that is no commit
abbrev pub NoCommit : Call → Type 0
NoCommit (single g other) = Unit {0}
NoCommit (logged s o words out) = Unit {0}
NoCommit (asks words r o) = Unit {0}
NoCommit commits = ⊥

-- no list is committed before any cycle
abbrev pub never : ℕ → List MachineData
never n = []

module _ (m : MachineData) (cs : ℕ → Given) where
  abbrev L : ℕ → MachineData
  L n = m

  abbrev S : ℕ → State
  S = history m cs

  pub record ByOneList (size : ℕ) (channel device : ℕ → ℕ) : Type 0 where
    -- all claims, of the one list and its history
    pub claims : Claims L S cs never size channel device
    -- "if C, D or E with time t is entered in n, the channel word has that rank and bit 27, or a greater rank, from n + t on"
    pub held_in_time : (n k : ℕ) (r : Rank) → k < size → 1 ≤ rank_number r → rank_number r ≤ 3 → entered L S cs n ≡ r → n + time_of m.values r ≤ k →
        Uncleared L S cs n k → ((rank_in_word (channel k) ≡ rank_number r) × T (bit_of (channel k) 27)) ⊎ (rank_number r < rank_in_word (channel k))
    -- "If cause 9 stands in n, the device rank is .. 5 from n + datum 32 on"
    pub moved_off : (n k : ℕ) → k < size → Stands L S cs n 9 → n + number_of m.values 32 ≤ k → Uncleared L S cs n k → rank_in_device (device k) ≡ 5
    -- "If cause 10 stands in n, the device rank is 5 from n + datum 34 + datum 32 on"
    pub differing_off : (n k : ℕ) → k < size → Stands L S cs n 10 → n + number_of m.values 34 + number_of m.values 32 ≤ k → ActiveFrom L S cs n k →
        Uncleared L S cs n k → rank_in_device (device k) ≡ 5
    -- "Where a usable cycle and the last usable ones before it, as many as datum 27 says, all select X or something stricter, the effective selection in it is
    -- X or stricter"
    pub binds : (n : ℕ) → n < size → T (usable_of m (cs n).reading) → (x : Selection) →
        All (λ i. AtLeast m x (selected_in L cs i)) (window (usable_in L cs) n (number_of m.values 27)) → AtLeast m x (effective L S cs n)

abbrev pub OneList : Type 0
OneList =
    (s : List ℕ) (n : ℕ) → (read_list s).answer ≡ Ok n →
    (calls : List Call) → All NoCommit calls → (given : List Words) → Answers (fresh_channel (read_list s).list) calls given →
    ByOneList (read_list s).list (cycle_at (all_cycles calls)) (length (all_cycles calls)) (λ i. (words_in given i).channel) (λ i. (words_in given i).device)
