-- The channel word of a cycle: document 01, "Channel word", and W3.
use Rattle.std.specs.Prelude.{ℕ, ◌&&◌}
use Rattle.machine_data.specs.declared.MachineData.{MachineData}
use Rattle.usable_inputs.specs.Usable.{usable_of}
use Rattle.advance.specs.After.{shown_word}
use Rattle.state.specs.declared.State.{State}
use Rattle.state.specs.declared.Given.{Given}
use Rattle.channel.specs.Cycle.{next}

-- the word of a cycle; "n<nx shows 0 in an unusable cycle"
unfoldable pub word : MachineData → State → Given → ℕ
word m s g = shown_word m.values (next m s g) (usable_of m g.reading && (next m s g).kept.nx.on)
