-- W2: a spindle that only shows n<nx. It "keeps such an axis turning": proofs/ShownOnly.antt.
use Rattle.std.specs.Prelude.{ℕ, ◌≤◌, false, ◌≡◌, T}
use Rattle.machine_data.specs.declared.MachineData.{MachineData}
use Rattle.machine_data.specs.Data.{function_of}
use Rattle.usable_inputs.specs.Usable.{usable_of}
use Rattle.state.specs.declared.Given.{Given}
use Rattle.channel.specs.Word.{word}
use Rattle.demand_3.specs.History.{history}
use Rattle.demand_3.specs.Claims.{rank_in_word}

-- "enables n<nx alone": SBH/SG, SE, cams, external stops and safe direction are off
pub record ShowsOnly (m : MachineData) : Type 0 where
  pub no_sbh_sg : function_of m.values 0 ≡ false
  pub no_se : function_of m.values 1 ≡ false
  pub no_cams : function_of m.values 2 ≡ false
  pub no_external : function_of m.values 4 ≡ false
  pub no_direction_lem : function_of m.values 5 ≡ false

-- from a fresh channel on, where nothing is committed and as long as every cycle is usable, its word has rank 0, whatever the reports and whether F is on
abbrev pub KeepsTurning : Type 0
KeepsTurning =
    (m : MachineData) → ShowsOnly m → (cs : ℕ → Given) (n : ℕ) → ((i : ℕ) → i ≤ n → T (usable_of m (cs i).reading)) →
    rank_in_word (word m (history m cs n) (cs n)) ≡ 0
