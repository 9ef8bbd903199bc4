-- W7: runs with commits that break other wordings of demand 3's claims, and runs in which its bounds are reached. Cycles count from 0.
use Rattle.std.specs.Prelude.{ℕ, zero, suc, Bool, true, false, List, [], ◌∷◌, ◌≡◌, pos, replicate}
use Rattle.machine_data.specs.declared.MachineData.{MachineData}
use Rattle.machine_data.specs.Data.{number_of}
use Rattle.seven.specs.declared.CycleRecord.{CycleRecord}
use Rattle.selection.specs.declared.Selection.{Selection}
use Rattle.selection.specs.declared.Selection.TheVariants.{Nothing, Sbh}
use Rattle.selection.specs.declared.Choice.{Choice}
use Rattle.selection.specs.Selection.{choice_next}
use Rattle.rank.specs.declared.Rank.{Rank}
use Rattle.rank.specs.declared.Rank.TheVariants.{B, C}
use Rattle.rank.specs.Rank.{time_of}
use Rattle.stop.specs.declared.Stop.{Stop}
use Rattle.stop.specs.declared.Stop.TheVariants.{Free, Braking, Held, Cancelled}
use Rattle.state.specs.declared.State.{State}
use Rattle.state.specs.declared.Given.{Given}
use Rattle.commit.specs.Commit.{cut_delay}
use Rattle.runs.specs.Running.{window}
use Rattle.demand_3.specs.History.{list_in, before}
use Rattle.demand_3.specs.Claims
use Rattle.worked.specs.Runs.{is, headed, list_of, alike, positions_apart, cycles_with}

-- ---- lists, and commits

-- T 12, SBH/SG on, standstill tolerance 10, limit of SG1 2000 with STOP C; the delay, the time of C, B to A and F to B as given; else the lowest
unfoldable pub timed : ℕ → ℕ → ℕ → ℕ → MachineData
timed delay c b f = list_of (is 0 12 ∷ is 1 1 ∷ is 2 10 ∷ is 3 2000 ∷ is 7 3 ∷ is 27 delay ∷ is 29 c ∷ is 32 b ∷ is 34 f ∷ [])

-- safe direction with tolerance 10 and STOP C, after a delay; or no function at all
unfoldable pub directed_after : ℕ → MachineData
directed_after delay = headed 72 (is 0 12 ∷ is 1 32 ∷ is 69 10 ∷ is 70 delay ∷ is 71 3 ∷ [])

unfoldable pub undirected : MachineData
undirected = headed 72 (is 0 12 ∷ is 69 10 ∷ is 70 1 ∷ is 71 3 ∷ [])

-- lists committed straight before cycle n, and nowhere else
unfoldable pub only : ℕ → List MachineData → ℕ → List MachineData
only zero ms zero = ms
only zero ms (suc k) = []
only (suc n) ms zero = []
only (suc n) ms (suc k) = only n ms k

-- ---- what cycles make that begin with list m, with the commits c

module _ (m : MachineData) (c : ℕ → List MachineData) (rs : List CycleRecord) where
  -- the other channel's first data are the same, whatever is committed
  abbrev pub cs : ℕ → Given
  cs = cycles_with m rs

  abbrev pub L : ℕ → MachineData
  L = list_in m c

  abbrev pub S : ℕ → State
  S = before m c cs

  abbrev pub stands : ℕ → ℕ → Bool
  stands n x = (Claims.cause_in L S cs n x).stands

  abbrev pub entered : ℕ → Rank
  entered n = Claims.entered L S cs n

  abbrev pub effective : ℕ → Selection
  effective n = Claims.effective L S cs n

  -- the stop that cycle n leaves
  abbrev pub stop : ℕ → Stop
  stop n = (Claims.state_after L S cs n).stop

  -- cycle n and the last w usable ones before it
  abbrev pub counted : ℕ → ℕ → List ℕ
  counted n w = window (Claims.usable_in L cs) n w

  abbrev pub selected : ℕ → Selection
  selected n = Claims.selected_in L cs n

-- ---- the runs

-- nothing is selected, and from cycle 1 on SBH
unfoldable pub lowered : List CycleRecord
lowered = alike (pos 0) 1 ∷ replicate 4 (alike (pos 0) 0)

-- the position differs from the report in cycle 1; SG1 is selected
unfoldable pub differed : List CycleRecord
differed = alike (pos 0) 2 ∷ positions_apart 0 1 2 ∷ replicate 6 (alike (pos 0) 2)

-- SG1 is overstepped in cycle 1
unfoldable pub oversped : List CycleRecord
oversped = alike (pos 0) 2 ∷ replicate 4 (alike (pos 401) 2)

-- travel is bound to the positive direction; the axis falls in 4
unfoldable pub fallen : List CycleRecord
fallen = alike (pos 0) 16384 ∷ alike (pos 0) 16384 ∷ alike (pos 100) 16384 ∷ alike (pos 90) 16384 ∷ alike (pos 89) 16384 ∷ []

-- the delay falls from 3 to 2 before cycle 3, when 2 cycles are left
abbrev pub shorter : ℕ → List MachineData
shorter = only 3 (timed 2 0 0 0 ∷ [])

-- B to A rises from 2 to 4 before cycle 2, when F is on and B is not
abbrev pub raised : ℕ → List MachineData
raised = only 2 (timed 0 0 4 2 ∷ [])

-- the time of C falls from 3 to 2 before cycle 3, when 2 cycles are left
abbrev pub nearer : ℕ → List MachineData
nearer = only 3 (timed 0 2 0 0 ∷ [])

-- the delay falls to 0 and rises to 5 before the same cycle
abbrev pub to_and_fro : ℕ → List MachineData
to_and_fro = only 2 (timed 0 0 0 0 ∷ timed 5 0 0 0 ∷ [])

-- all counts fall to 0 before cycle 3, or the delay to 2 before cycle 2
abbrev pub ended : ℕ → List MachineData
ended = only 3 (timed 0 0 0 0 ∷ [])

abbrev pub cut : ℕ → List MachineData
cut = only 2 (timed 2 0 0 0 ∷ [])

-- a delay that no longer runs, for one that was cut to 0
abbrev pub stopped : Choice
stopped = record { chosen = true; effective = Nothing; reference = pos 0; left = 0 }

pub record Wordings : Type 0 where
  -- "as many as datum 27 of the list in force in the last of the cycles says" is false: it says 2 in cycle 3, and 3, 2 and 1 select SBH
  pub last_cycle : (number_of (L (timed 3 0 0 0) shorter lowered 3).values 27 ≡ 2) × (counted (timed 3 0 0 0) shorter lowered 3 2 ≡ 3 ∷ 2 ∷ 1 ∷ [])
  pub all_select : (selected (timed 3 0 0 0) shorter lowered 3 ≡ Sbh) × (selected (timed 3 0 0 0) shorter lowered 2 ≡ Sbh)
      × (selected (timed 3 0 0 0) shorter lowered 1 ≡ Sbh)
  pub not_in_3 : (effective (timed 3 0 0 0) shorter lowered 3 ≡ Nothing) × (effective (timed 3 0 0 0) shorter lowered 4 ≡ Sbh)
  -- "both times by the list in force in n" is false: cause 10 stands in 1, and 1 + 2 + 2 is 5. By datum 32 of the list in force in 1 + 2 it is 1 + 2 + 4, and no
  -- cycle less
  pub differs_1 : (stands (timed 0 0 2 2) raised differed 1 10 ≡ true) × (stop (timed 0 0 2 2) raised differed 2 ≡ Free)
  pub brakes_3 : (stop (timed 0 0 2 2) raised differed 3 ≡ Braking B 4) × (stop (timed 0 0 2 2) raised differed 5 ≡ Braking B 2)
  pub off_in_7 : (stop (timed 0 0 2 2) raised differed 6 ≡ Braking B 1) × (stop (timed 0 0 2 2) raised differed 7 ≡ Cancelled)
  -- "t of the list in force in the cycle looked at" is false: C, entered in 1, is not yet held in 1 + 2
  pub entered_1 : (entered (timed 0 3 0 0) nearer oversped 1 ≡ C) × (time_of (L (timed 0 3 0 0) nearer oversped 3).values C ≡ 2)
  pub not_held_3 : stop (timed 0 3 0 0) nearer oversped 3 ≡ Braking C 1
  -- a delay of 3 that is cut to 0 ends in the next cycle, also where a longer one is committed behind: it counts as 1. At 0 it would be set to 5 there
  pub cut_to_0 : (effective (timed 3 0 0 0) to_and_fro lowered 2 ≡ Sbh) × (cut_delay (timed 5 0 0 0).values (cut_delay (timed 0 0 0 0).values 3) ≡ 1)
  pub set_anew : (choice_next (timed 5 0 0 0).values stopped Sbh (pos 0)).left ≡ 5
  -- the bounds of a cut to 0 before cycle 3 are reached, of C's time, of F's and of B's: what is so from 3 on is not so in 2
  pub held_by_a_cut : (stop (timed 0 5 0 0) ended oversped 2 ≡ Braking C 4) × (stop (timed 0 5 0 0) ended oversped 3 ≡ Held C (pos 401))
  pub f_ended_by_a_cut : (stop (timed 0 0 0 5) ended differed 2 ≡ Free) × (stop (timed 0 0 0 5) ended differed 3 ≡ Cancelled)
  pub b_ended_by_a_cut : (stop (timed 0 0 5 0) ended differed 2 ≡ Braking B 4) × (stop (timed 0 0 5 0) ended differed 3 ≡ Cancelled)
  -- and of a delay that is cut to 2 straight behind cycle 1: SBH, selected in 1, 2 and 3, is effective in 3 and not in 2
  pub bound_by_a_cut : (effective (timed 5 0 0 0) cut lowered 2 ≡ Nothing) × (effective (timed 5 0 0 0) cut lowered 3 ≡ Sbh)
  -- "the watch stands where the bit has been 0 for more than the delay" is false where a longer delay is committed under it: it began in 1, and goes on
  pub watched_on : stands (directed_after 1) (only 2 (directed_after 9 ∷ [])) fallen 4 14 ≡ true
  -- it ends at the commit of a list without the function, also where one with it is committed before the next cycle
  pub watch_ended : (stands (directed_after 1) (only 4 (directed_after 1 ∷ [])) fallen 4 14 ≡ true)
      × (stands (directed_after 1) (only 4 (undirected ∷ directed_after 1 ∷ [])) fallen 4 14 ≡ false)
