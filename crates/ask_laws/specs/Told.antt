-- What an ask tells of a list, in the request's words: W7, "the fresh causes that a cycle with a given position, inputs and report would have straight after its
-- commit". proofs/Telling.antt shows it, of every list, state, position, input word and report.
use Rattle.std.specs.Prelude.{ℕ, ◌≡◌, Bool, cond, eqb}
use Rattle.machine_data.specs.declared.MachineData.{MachineData}
use Rattle.inputs.specs.declared.Reading.{Reading}
use Rattle.report.specs.declared.Report.{Report}
use Rattle.codes_order.specs.Lists.{occurrences, codes_of, Lists}
use Rattle.state.specs.declared.State.{State}
use Rattle.judge.specs.Causes.{rows_of}
use Rattle.commit.specs.Commit.{committed}
use Rattle.channel.specs.Outcome.{causes_in}
use Rattle.pending.specs.Pending.{fresh_rows, as_if_given, told_of}

pub record Told (m : MachineData) (s : State) (r : Reading) (o : Report) : Type 0 where
  -- each fresh code once and no other, in W4's order
  pub lists : Lists (fresh_rows (rows_of m (committed m s) (as_if_given r o))) (told_of m s r o)
  -- the cycle straight after the commit, acknowledged or not, lists a code just as often, but for 13, which is never told
  pub each : (acknowledged : Bool) (k : ℕ) →
      occurrences k (codes_of (told_of m s r o))
      ≡ cond (eqb k 13) 0 (occurrences k (codes_of (causes_in m (committed m s) (record { reading = r; acknowledged = acknowledged; report = o }))))
