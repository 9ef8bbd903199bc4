-- Demand 2, of the cause codes: what the list of a cycle's codes is, in the words of document 01 and W4. Proved in proofs/Codes.antt of every cycle: any
-- data, any state before it and anything given, usable or not.
use Rattle.std.specs.Prelude.{ℕ, ◌≤◌, ◌<◌, ◌≡◌}
use Rattle.machine_data.specs.declared.MachineData.{MachineData}
use Rattle.causes.specs.Causes.{row_count}
use Rattle.codes.specs.declared.Causes.{Causes}
use Rattle.codes_order.specs.Lists.{wanted, Lists}
use Rattle.state.specs.declared.State.{State}
use Rattle.state.specs.declared.Given.{Given}
use Rattle.judge.specs.Causes.{rows_of}
use Rattle.channel.specs.Outcome.{causes_in}

pub record CodesOf (m : MachineData) (s : State) (g : Given) : Type 0 where
  -- "strongest rank first, those without a rank last, and equal ranks by code": the list has each code that stands, in this order
  pub lists : Lists (rows_of m s g) (causes_in m s g)
  -- no other list has: whoever sorts the codes comes to it
  pub only : (cs : Causes) → Lists (rows_of m s g) cs → cs ≡ causes_in m s g
  -- "each code once"
  pub once : (k : ℕ) → wanted k (rows_of m s g) ≤ 1
  -- "at most 13": cause 1 stands alone, and 2 and 3 exclude each other, so there are fewer codes than rows. A table of 14 rows needs no more than 13 places
  pub few : (causes_in m s g).count < row_count
