-- Asking about a list and committing it: W7.
use Rattle.refusal.specs.declared.Refusal.{Refusal}
use Rattle.std.specs.Prelude.{ℕ, false, cond, List, [], ◌∷◌, eqb, Ok, Err, Result}
use Rattle.refusal.specs.declared.Refusal.TheVariants.{NothingPending}
use Rattle.machine_data.specs.declared.MachineData.{MachineData}
use Rattle.inputs.specs.declared.Reading.{Reading}
use Rattle.report.specs.declared.Report.{Report}
use Rattle.causes.specs.declared.Cause.{Cause}
use Rattle.causes.specs.Causes.{cause, is_fresh}
use Rattle.codes.specs.declared.Causes.{Causes}
use Rattle.codes.specs.Codes.{causes_of}
use Rattle.list.specs.declared.ListRead.{ListRead}
use Rattle.list.specs.Reading.{read_list}
use Rattle.state.specs.declared.State.{State}
use Rattle.state.specs.declared.Given.{Given}
use Rattle.judge.specs.Causes.{rows_of}
use Rattle.commit.specs.Commit.{committed}
use Rattle.channel.specs.declared.Channel.{Channel}
use Rattle.channel.specs.Cycle.{with_list}
use Rattle.pending.specs.declared.Asked.{Asked}
use Rattle.pending.specs.declared.CommitRun.{CommitRun}

-- "A commit takes the pending list": a channel c behind the commit of list m
abbrev pub taking : Channel → MachineData → Channel
taking c m = with_list m (committed m c.state)

-- "All but 13 are fresh": a table with its fresh causes alone
abbrev pub only_fresh : Cause → Cause
only_fresh c = cause c.code (is_fresh c) c.rank

unfoldable pub fresh_rows : List Cause → List Cause
fresh_rows [] = []
fresh_rows (c ∷ cs) = only_fresh c ∷ fresh_rows cs

-- what a cycle is given with a position, inputs and a report; no cause asks for the acknowledgement
abbrev pub as_if_given : Reading → Report → Given
as_if_given r o = record { reading = r; acknowledged = false; report = o }

-- "the fresh causes that a cycle with a given position, inputs and report would have straight after its commit": of list m, in state s
abbrev pub told_of : MachineData → State → Reading → Report → Causes
told_of m s r o = causes_of (fresh_rows (rows_of m (committed m s) (as_if_given r o)))

-- "the channel tells the refusal, or the fresh causes"
abbrev pub telling : Result ℕ Refusal → Causes → Result (ℕ × Causes) Refusal
telling (Ok n) causes = Ok (n, causes)
telling (Err why) causes = Err why

-- "A list is first asked about: .. and keeps the list pending; a refused list leaves none pending, all else unaltered": a refused list has no data
abbrev pub asked_by : Channel → ListRead → Reading → Report → Asked
asked_by c read r o =
    record {
      answer = telling read.answer (told_of read.list c.state r o);
      channel = record { list = c.list; state = c.state; pending = read.list };
    }

abbrev pub asked_of : Channel → List ℕ → Reading → Report → Asked
asked_of c words r o = asked_by c (read_list words) r o

-- "8, place 0: commit with nothing pending; the channel is unaltered"; else it is taken
abbrev pub commit_of : Channel → CommitRun
commit_of c =
    cond (eqb c.pending.count 0) (record { answer = Err NothingPending; channel = c })
    (record { answer = Ok tt; channel = taking c c.pending })
