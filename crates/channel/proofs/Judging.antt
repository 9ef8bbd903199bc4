-- What the code does with what it found is the cycle of the definitions, in a usable cycle and in an unusable one. Assumes nothing.
use mathlib.Core.Path.{◌≡◌}
use mathlib.Core.Bool.{true, false}
use Rattle.machine_data.specs.declared.MachineData.{MachineData}
use Rattle.usable_inputs.specs.Usable.{usable_of}
use Rattle.causes.specs.Causes.{unusable_table, summary_of}
use Rattle.codes.specs.Codes.{causes_of}
use Rattle.state.specs.declared.State.{State}
use Rattle.state.specs.declared.Given.{Given}
use Rattle.judge.specs.Causes.{rows_of, findings_of}
use Rattle.advance.specs.After.{advanced_by, advanced_unusable}
use Rattle.channel.specs.Cycle.{strongest_in, clears_in, next}
use Rattle.channel.specs.Word.{word}
use Rattle.channel.specs.Outcome.{causes_in, advanced}

module _ (m : MachineData) (s : State) (g : Given) where
  pub usable_cycle : usable_of m g.reading ≡ true → advanced_by m s g (findings_of m s g) (summary_of (findings_of m s g).rows) ≡ advanced m s g
  unfolding rows_of strongest_in clears_in next word summary_of
  usable_cycle u = simp u

  pub usable_causes : usable_of m g.reading ≡ true → causes_of (findings_of m s g).rows ≡ causes_in m s g
  unfolding rows_of causes_in
  usable_causes u = simp u

  pub unusable_cycle : usable_of m g.reading ≡ false → advanced_unusable m s ≡ advanced m s g
  unfolding next word
  unusable_cycle u = simp u

  pub unusable_causes : usable_of m g.reading ≡ false → causes_of unusable_table ≡ causes_in m s g
  unfolding rows_of causes_in
  unusable_causes u = simp u
