-- A channel over a cycle: document 01, steps 1, 5 and 6, and W7.
use Rattle.std.specs.Prelude.{ℕ, Bool, not, cond, ◌&&◌, eqb, pos, replicate}
use Rattle.ranges.specs.Table.{data_count}
use Rattle.machine_data.specs.declared.MachineData.{MachineData}
use Rattle.usable_inputs.specs.Usable.{usable_of}
use Rattle.rank.specs.declared.Rank.{Rank}
use Rattle.rank.specs.declared.Rank.TheVariants.{None}
use Rattle.stop.specs.Stop.{enters_of}
use Rattle.causes.specs.Causes.{strongest_of, fresh_of}
use Rattle.state.specs.declared.State.{State}
use Rattle.state.specs.declared.Given.{Given}
use Rattle.state.specs.State.{fresh_state}
use Rattle.judge.specs.Causes.{rows_of, findings_of}
use Rattle.advance.specs.After.{unusable_next, usable_next}
use Rattle.channel.specs.declared.Channel.{Channel}

-- none is pending: a list of no data, whatever its values
abbrev pub no_list : MachineData
no_list = record { values = replicate data_count (pos 0); count = 0 }

-- a channel with a list, in some state, with none pending
abbrev pub with_list : MachineData → State → Channel
with_list m s = record { list = m; state = s; pending = no_list }

-- "The working channel starts fresh, with an accepted list"
abbrev pub fresh_channel : MachineData → Channel
fresh_channel m = with_list m fresh_state

-- W7: "Any cycle in between drops it": what is pending behind so many cycles
abbrev pub behind : ℕ → MachineData → MachineData
behind cycles p = cond (eqb cycles 0) p no_list

-- a channel behind so many cycles, which leave this state: they leave it its list
abbrev pub after_cycles : ℕ → Channel → State → Channel
after_cycles n c s = record { list = c.list; state = s; pending = behind n c.pending }

-- behind one cycle
abbrev pub with_state : Channel → State → Channel
with_state c s = after_cycles 1 c s

-- the strongest cause of a cycle
unfoldable pub strongest_in : MachineData → State → Given → Rank
strongest_in m s g = strongest_of (rows_of m s g)

-- "A cycle clears if it is acknowledged and has no fresh cause"
unfoldable pub clears_in : MachineData → State → Given → Bool
clears_in m s g = g.acknowledged && not (fresh_of (rows_of m s g))

-- the rank that a cycle enters, none if it enters none
unfoldable pub entered_in : MachineData → State → Given → Rank
entered_in m s g = cond (enters_of (clears_in m s g) (strongest_in m s g) s.stop) (strongest_in m s g) None

-- the state after a cycle
unfoldable pub next : MachineData → State → Given → State
next m s g =
    cond (usable_of m g.reading)
    (usable_next m s g (findings_of m s g) (clears_in m s g) (strongest_in m s g))
    (unusable_next m.count s)
