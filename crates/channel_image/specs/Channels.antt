-- The channel that data, words and the data of the pending list stand for.
use Rattle.std.specs.Prelude.{ℕ, cond, List, eqb, ℤ}
use Rattle.machine_data.specs.declared.MachineData.{MachineData}
use Rattle.machine_data.specs.Data.{lent}
use Rattle.image.specs.Image.{count_from, pending_count, state_from}
use Rattle.channel.specs.declared.Channel.{Channel}
use Rattle.channel.specs.Cycle.{no_list}

-- the list that they stand for
abbrev pub list_from : List ℤ → List ℕ → MachineData
list_from values w = lent values (count_from w)

-- a pending list of so many of the data p; none where it is 0, whatever p holds
abbrev pub pending_of : List ℤ → ℕ → MachineData
pending_of p count = cond (eqb count 0) no_list (lent p count)

-- the channel that they stand for, with the data p of the pending list
abbrev pub channel_from : List ℤ → List ℤ → List ℕ → Channel
channel_from values p w = record { list = list_from values w; state = state_from w; pending = pending_of p (pending_count w) }
