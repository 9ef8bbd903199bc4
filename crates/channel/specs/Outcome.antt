-- What a cycle gives, as values: the state after it, its word, and the list of its causes.
use Rattle.machine_data.specs.declared.MachineData.{MachineData}
use Rattle.codes.specs.declared.Causes.{Causes}
use Rattle.codes.specs.Codes.{causes_of}
use Rattle.state.specs.declared.State.{State}
use Rattle.state.specs.declared.Given.{Given}
use Rattle.judge.specs.Causes.{rows_of}
use Rattle.advance.specs.declared.Advanced.{Advanced}
use Rattle.channel.specs.declared.Channel.{Channel}
use Rattle.channel.specs.declared.Outcome.{Outcome}
use Rattle.channel.specs.Cycle.{with_state, next}
use Rattle.channel.specs.Word.{word}

-- "A cycle's cause codes"; W4: "The order is then no longer left to the program"
unfoldable pub causes_in : MachineData → State → Given → Causes
causes_in m s g = causes_of (rows_of m s g)

-- of a state beside its list, without the causes
abbrev pub advanced : MachineData → State → Given → Advanced
advanced m s g = record { state = next m s g; word = word m s g }

-- with them
abbrev pub cycled : MachineData → State → Given → Advanced × Causes
cycled m s g = (advanced m s g, causes_in m s g)

-- of a channel
abbrev pub outcome_of : Channel → Given → Outcome
outcome_of c g =
    record {
      channel = with_state c (next c.list c.state g);
      word = word c.list c.state g;
      causes = causes_in c.list c.state g;
    }
