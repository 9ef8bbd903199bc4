-- What the theorems ask: the lists, cycles, runs and kits that a request leaves as they were.
use Rattle.std.specs.Prelude.{ℕ, ◌+◌, ◌≤◌, ◌≡◌, true, false, ◌||◌, List, [], ◌∷◌, get_or, drop, pos, T, Ok}
use Rattle.words.specs.declared.Word.TheVariants.{Head}
use Rattle.words.specs.Words.{word_at}
use Rattle.machine_data.specs.declared.MachineData.{MachineData}
use Rattle.machine_data.specs.Data.{number_of, function_of}
use Rattle.inputs.specs.declared.Reading.{Reading}
use Rattle.usable_inputs.specs.Usable.{usable_of}
use Rattle.selection.specs.Selection.{selected_of, is_effective}
use Rattle.fault.specs.Fault.{expired}
use Rattle.active.specs.Active.{active}
use Rattle.seven.specs.declared.CycleRecord.{CycleRecord}
use Rattle.records.specs.Records.{records, log_of}
use Rattle.state.specs.declared.State.{State}
use Rattle.state.specs.declared.Given.{Given}
use Rattle.state.specs.State.{fresh_state}
use Rattle.judge.specs.Causes.{choice_in, fault_in}
use Rattle.list.specs.Rules.{among, is_head}
use Rattle.list.specs.Reading.{read_list}
use Rattle.logs.specs.Run.{Both, given_a, given_b, device_cycle}

-- ---- W1

-- what a list headed 51 leaves in a channel: its data, and 0 behind them
pub record Headed51 (m : MachineData) : Type 0 where
  pub count : m.count ≡ 51
  pub lacks : (k : ℕ) → 51 ≤ k → get_or m.values k (pos 0) ≡ pos 0
  -- W6: "datum 1 may then be up to 63", and in a shorter list up to 31
  pub no_direction_lem : function_of m.values 5 ≡ false

-- a list whose head, if it is one, is among these
abbrev pub Headed : List ℕ → List ℕ → Type 0
Headed heads s = (n : ℕ) → word_at s 0 ≡ Head n → T (is_head n) → T (among n heads)

-- and so is that of the one behind it
pub record HeadedKit (heads words : List ℕ) : Type 0 where
  pub list_a : Headed heads words
  pub list_b : (n : ℕ) → (read_list words).answer ≡ Ok n → Headed heads (drop n words)

-- ---- W2

-- "SE or cams are enabled"
abbrev pub Enabled : MachineData → Type 0
Enabled m = T (function_of m.values 1 || function_of m.values 2)

-- where F's time is over in a usable cycle, one of SBH, SG, SE and cams is active in it
abbrev pub ActiveAtEnd : MachineData → State → Given → Type 0
ActiveAtEnd m s g = T (usable_of m g.reading) → T (expired (fault_in m s g)) → T (active m.values (choice_in m s g).effective)

-- in every cycle of a log's run, and in both channels
abbrev pub ActiveAtEnds : MachineData → MachineData → Both → List CycleRecord → Type 0
ActiveAtEnds da db x [] = Unit {0}
ActiveAtEnds da db x (r ∷ rs) =
    ActiveAtEnd da x.a (given_a da db x r) × ActiveAtEnd db x.b (given_b da db x r) × ActiveAtEnds da db (device_cycle da db x r).both rs

-- in the run of a kit, if it has one
abbrev pub ActiveKit : List ℕ → Type 0
ActiveKit words =
    (n m : ℕ) → (read_list words).answer ≡ Ok n → (read_list (drop n words)).answer ≡ Ok m →
    (rs : List CycleRecord) → log_of (drop (n + m) words) ≡ records rs →
    ActiveAtEnds (read_list words).list (read_list (drop n words)).list (record { a = fresh_state; b = fresh_state }) rs

-- what suffices for these, besides `Enabled` of both lists: a usable input word selects SBH or SG,
abbrev pub Selects : MachineData → Reading → Type 0
Selects m r = T (usable_of m r) → T (is_effective (selected_of m.values r.inputs))

-- in every cycle of a log, and in both channels,
abbrev pub SelectsAlong : MachineData → MachineData → List CycleRecord → Type 0
SelectsAlong da db [] = Unit {0}
SelectsAlong da db (r ∷ rs) = Selects da r.a × Selects db r.b × SelectsAlong da db rs

-- on a channel that is fresh, or in which one of them is effective
abbrev pub EffectiveIfChosen : State → Type 0
EffectiveIfChosen s = s.kept.choice.chosen ≡ true → T (is_effective s.kept.choice.effective)

-- ---- W3

-- "With both data 0", as in every list of 51 or 67 data (`short_unsteadied` in proofs/Steadied.antt)
pub record Unsteadied (m : MachineData) : Type 0 where
  pub no_hysteresis : number_of m.values 67 ≡ 0
  pub no_filter : number_of m.values 68 ≡ 0

-- in both lists of a kit, if they are accepted
pub record UnsteadiedKit (words : List ℕ) : Type 0 where
  pub list_a : (n : ℕ) → (read_list words).answer ≡ Ok n → Unsteadied (read_list words).list
  pub list_b : (n m : ℕ) → (read_list words).answer ≡ Ok n → (read_list (drop n words)).answer ≡ Ok m → Unsteadied (read_list (drop n words)).list

-- ---- W6

-- a list without function 5, as every one of 51, 67 or 69 data (`short_undirected` in proofs/Short.antt)
abbrev pub Undirected : MachineData → Type 0
Undirected m = function_of m.values 5 ≡ false

-- in both lists of a kit, if they are accepted
pub record UndirectedKit (words : List ℕ) : Type 0 where
  pub list_a : (n : ℕ) → (read_list words).answer ≡ Ok n → Undirected (read_list words).list
  pub list_b : (n m : ℕ) → (read_list words).answer ≡ Ok n → (read_list (drop n words)).answer ≡ Ok m → Undirected (read_list (drop n words)).list
