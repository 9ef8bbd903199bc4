-- Runs in which the bounds of demand 3 are reached: what is claimed from a cycle on does not hold in the cycle before. Cycles count from 0.
use Rattle.std.specs.Prelude.{ℕ, ◌+◌, true, false, List, [], ◌∷◌, ◌++◌, ◌≡◌, pos, replicate}
use Rattle.machine_data.specs.declared.MachineData.{MachineData}
use Rattle.machine_data.specs.Data.{number_of}
use Rattle.seven.specs.declared.CycleRecord.{CycleRecord}
use Rattle.records.specs.Records.{reading}
use Rattle.selection.specs.declared.Selection.{Selection}
use Rattle.selection.specs.declared.Selection.TheVariants.{Nothing, Sg, Sbh}
use Rattle.rank.specs.declared.Rank.{Rank}
use Rattle.rank.specs.declared.Rank.TheVariants.{C}
use Rattle.rank.specs.Rank.{time_of}
use Rattle.fault.specs.declared.Fault.{Fault}
use Rattle.causes.specs.declared.Cause.{Cause}
use Rattle.state.specs.declared.Given.{Given}
use Rattle.channel.specs.declared.Channel.{Channel}
use Rattle.channel.specs.Cycle.{with_list, fresh_channel}
use Rattle.channel.specs.Word.{word}
use Rattle.device.specs.Device.{device_of}
use Rattle.demand_3.specs.Calls
use Rattle.demand_3.specs.Calls.{Call, as_b, Words, Answers}
use Rattle.demand_3.specs.History.{history}
use Rattle.runs.specs.Running.{window}
use Rattle.demand_3.specs.Claims
use Rattle.demand_3.specs.Claims.{rank_in_word, rank_in_device}
use Rattle.worked.specs.Runs.{is, headed, list_of, alike, positions_apart, cycles_with}

-- T 12, some functions on, standstill tolerance 10, limit of SG1 2000 with STOP C; the delay and all times 2; else the lowest
abbrev pub list_with : ℕ → MachineData
list_with functions =
    list_of
    (is 0 12 ∷ is 1 functions ∷ is 2 10 ∷ is 3 2000 ∷ is 7 3 ∷ is 27 2 ∷ is 29 2 ∷ is 30 2 ∷ is 31 2 ∷ is 32 2 ∷ is 34 2 ∷ [])

-- SBH/SG on
unfoldable pub list : MachineData
list = list_with 1

-- n<nx alone
unfoldable pub nx_alone : MachineData
nx_alone = list_with 8

-- safe direction alone: tolerance 10, delay 1, STOP C; times 0; else the lowest
unfoldable pub directed : MachineData
directed = headed 72 (is 0 12 ∷ is 1 32 ∷ is 69 10 ∷ is 70 1 ∷ is 71 3 ∷ [])

-- ---- what the cycles make, and the words that they give beside a channel without a stop

module _ (m : MachineData) (rs : List CycleRecord) where
  abbrev pub cs : ℕ → Given
  cs = cycles_with m rs

  abbrev pub cause_in : ℕ → ℕ → Cause
  cause_in n x = Claims.cause_in (λ i. m) (history m cs) cs n x

  abbrev pub entered : ℕ → Rank
  entered n = Claims.entered (λ i. m) (history m cs) cs n

  abbrev pub effective : ℕ → Selection
  effective n = Claims.effective (λ i. m) (history m cs) cs n

  -- F and its count, as cycle n leaves them
  abbrev pub fault : ℕ → Fault
  fault n = (Claims.state_after (λ i. m) (history m cs) cs n).kept.fault

  abbrev pub channel : ℕ → ℕ
  channel n = word m (history m cs n) (cs n)

  abbrev pub device : ℕ → ℕ
  device n = device_of (channel n) 0

-- ---- the runs

-- SG1 is overstepped in cycle 1 and the axis is held in 3; it moves in 4; an acknowledgement in 7
unfoldable pub moving : List CycleRecord
moving =
    alike (pos 0) 2 ∷ alike (pos 401) 2 ∷ alike (pos 401) 2 ∷ alike (pos 401) 2 ∷ alike (pos 412) 2 ∷ alike (pos 412) 2 ∷ alike (pos 412) 2
    ∷ record { a = reading (pos 412) 2; b = reading (pos 412) 2; acknowledged = true }
    ∷ []

-- the position is out of range in cycle 1
unfoldable pub leaving : List CycleRecord
leaving = alike (pos 0) 2 ∷ alike (pos 100_000_001) 2 ∷ []

-- the position differs from the report in cycle 1; SG1 is selected in 0 and 1, and from then on what the input word w selects
abbrev pub differing_then : ℕ → List CycleRecord
differing_then w = alike (pos 0) 2 ∷ positions_apart 0 1 2 ∷ replicate 4 (alike (pos 0) w)

unfoldable pub differing : List CycleRecord
differing = differing_then 2

-- nothing is selected from cycle 2 on, and SG1 again from 6 on
unfoldable pub deselected : List CycleRecord
deselected = differing_then 1 ++ replicate 3 (alike (pos 0) 2)

-- nothing is selected, and from cycle 1 on SBH
unfoldable pub lowering : List CycleRecord
lowering = alike (pos 0) 1 ∷ replicate 3 (alike (pos 0) 0)

-- travel is bound to the positive direction from cycle 0 on: bit 13 is 0 and bit 14 is 1. The axis falls before the watch begins in 1, rises, and falls again
unfoldable pub falling : List CycleRecord
falling = alike (pos 50) 16384 ∷ alike (pos 0) 16384 ∷ alike (pos 100) 16384 ∷ alike (pos 90) 16384 ∷ alike (pos 89) 16384 ∷ []

-- the first four cycles of `moving` as calls: two single ones and a log, in which the channel is B beside one that went through the same cycles
abbrev pub record_words : ℕ → List ℕ
record_words p =
    (0x40000000 + p) ∷ 0x50000002 ∷ 0x60000000 ∷ (0x40000000 + p) ∷ 0x50000002 ∷ 0x60000000 ∷ 0x70000000 ∷ []

abbrev pub beside : Channel
beside = with_list list (history list (cs list moving) 2)

unfoldable pub calls : List Call
calls = Calls.single (cs list moving 0) 0 ∷ Calls.single (cs list moving 1) 0 ∷ Calls.logged as_b beside (record_words 401 ++ record_words 401) (replicate 6 0) ∷ []

abbrev pub words : ℕ → ℕ → Words
words channel device = record { channel = channel; device = device }

pub record Sharp : Type 0 where
  -- cause 3 stands in 1 with C's rank: the device rank is no more than that, and 0 in the cycle before
  pub overstepped_1 : ((cause_in list moving 1 3).stands ≡ true) × ((cause_in list moving 1 3).rank ≡ C)
  pub met_in_1 : (rank_in_device (device list moving 0) ≡ 0) × (rank_in_device (device list moving 1) ≡ 3)
  -- W6: with the delay at 1 the watch begins in 1, so that what the axis fell before does not count; it is 10 below the highest in 3, as far as the
  -- tolerance, and farther in 4: cause 14 stands there with C's rank, and the device rank is no more than that and 0 in the cycle before
  pub watched_from_1 : ((cause_in directed falling 1 14).stands ≡ false) × ((cause_in directed falling 3 14).stands ≡ false)
  pub overstepped_4 : ((cause_in directed falling 4 14).stands ≡ true) × ((cause_in directed falling 4 14).rank ≡ C)
  pub met_in_4 : (rank_in_device (device directed falling 3) ≡ 0) × (rank_in_device (device directed falling 4) ≡ 3)
  -- C, entered in 1 with time 2, is not yet held in 2
  pub entered_1 : (entered list moving 1 ≡ C) × (time_of list.values C ≡ 2)
  pub held_in_3 : (channel list moving 2 ≡ 0x03000081) × (channel list moving 3 ≡ 0x0b000081)
  -- the same where 2 and 3 are the cycles of a log
  pub held_in_a_log : Answers (fresh_channel list) calls (words 0x00000081 0x1 ∷ words 0x03000081 0x7 ∷ words 0x03000081 0x7 ∷ words 0x0b000081 0x7 ∷ [])
  -- cause 1 stands in 1: the device rank is not yet 5 in 0
  pub unusable_1 : (cause_in list leaving 1 1).stands ≡ true
  pub off_in_1 : (rank_in_device (device list leaving 0) ≡ 0) × (rank_in_device (device list leaving 1) ≡ 5)
  -- cause 9 stands in 4: the device rank is 4 in 4, and with datum 32 at 2 it is not yet 5 in 5
  pub moves_4 : ((cause_in list moving 4 9).stands ≡ true) × (number_of list.values 32 ≡ 2)
  pub off_in_6 : (rank_in_device (device list moving 4) ≡ 4) × (rank_in_device (device list moving 5) ≡ 4) × (rank_in_device (device list moving 6) ≡ 5)
  -- cycle 7 clears, and the rank falls
  pub falls_in_7 : (rank_in_word (channel list moving 6) ≡ 5) × (rank_in_word (channel list moving 7) ≡ 0)
  -- cause 10 stands in 1: with data 34 and 32 at 2 the device rank is not yet 5 in 4
  pub differs_1 : ((cause_in list differing 1 10).stands ≡ true) × (number_of list.values 34 ≡ 2)
  pub off_in_5 : (rank_in_device (device list differing 4) ≡ 4) × (rank_in_device (device list differing 5) ≡ 5)
  -- W2: with n<nx alone F stands in 5, its count at 0, and no stop with it
  pub shown_1 : (cause_in nx_alone differing 1 10).stands ≡ true
  pub shown_in_5 : (fault nx_alone differing 5 ≡ record { on = true; left = 0 }) × ((cause_in nx_alone differing 5 13).stands ≡ false)
  pub no_stop_in_5 : rank_in_device (device nx_alone differing 5) ≡ 0
  -- W2: active in 1 alone is not enough; selected in 6 again, SG1 becomes effective in 8, and cause 13 stands in that very cycle
  pub active_1 : ((cause_in list deselected 1 10).stands ≡ true) × (effective list deselected 1 ≡ Sg 0 0)
  pub inactive_in_7 : (fault list deselected 7 ≡ record { on = true; left = 0 }) × (effective list deselected 7 ≡ Nothing) × (rank_in_device (device list deselected 7) ≡ 0)
  pub active_in_8 : (effective list deselected 8 ≡ Sg 0 0) × ((cause_in list deselected 8 13).stands ≡ true) × (rank_in_device (device list deselected 8) ≡ 4)
  -- the delay is 2: SBH, selected in 1 and 2, is not yet effective in 2
  pub selected_1 : (number_of list.values 27 ≡ 2) × (window (Claims.usable_in (λ i. list) (cs list lowering)) 3 2 ≡ 3 ∷ 2 ∷ 1 ∷ [])
  pub bound_in_3 : (effective list lowering 2 ≡ Nothing) × (effective list lowering 3 ≡ Sbh)
