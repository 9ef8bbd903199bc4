-- Whatever a list of calls answers, the channel goes through its cycles and commits, and the words that are given are theirs. By induction on the calls.
-- Assumes nothing.
use mathlib.Core.Bool.{Bool, true, false, cond}
use mathlib.Core.List.{List, [], ◌∷◌}
use mathlib.Core.Path.{refl, ap, subst}
use lib.Dec.{eqb}
use Rattle.std.specs.Prelude.{Ok, Err}
use Rattle.machine_data.specs.declared.MachineData.{MachineData}
use Rattle.state.specs.declared.State.{State}
use Rattle.channel.specs.declared.Channel.{Channel}
use Rattle.channel.specs.Cycle.{no_list}
use Rattle.logs.specs.Run.{Ran}
use Rattle.single.specs.Single.{single_of}
use Rattle.refusal.specs.declared.Refusal.TheVariants.{NothingPending}
use Rattle.single.specs.declared.SingleOutcome.{SingleOutcome}
use Rattle.pending.specs.declared.Asked.{Asked}
use Rattle.pending.specs.declared.CommitRun.{CommitRun}
use Rattle.pending.specs.Pending.{taking}
use Rattle.demand_3.specs.Calls.{Call, own, Words, Answered, cycled, ran, asked, took, Answers, none, then}
use Rattle.demand_3.specs.History.{cycles_of, commit, as_cycles, events_in, pending_behind, events_of}
use Rattle.demand_3.proofs.OfDevice.{over_first}
use Rattle.demand_3.proofs.OfLog.{same_answer}
use Rattle.demand_3.proofs.Traces.{Trace, done, step, take, trace_append}
use Rattle.demand_3.proofs.Logs.{Leads, ran_leads}

call_leads : {c c' : Channel} {x : Call} {ws : List Words} → Answered c x c' ws → Leads c (events_in c.pending x) ws (pending_behind c.pending x) c'
unfolding cycles_of as_cycles
call_leads {c} (cycled {g} {other} r e) =
    rw (ap (λ (x : SingleOutcome). x.channel) e, ap (λ (x : SingleOutcome). x.word) e, ap (λ (x : SingleOutcome). x.device) e)
    (record { pending = refl; trace = step (record { word_is = refl; over = over_first (single_of c g other).word other }) done })
call_leads {c} (ran {s} {o} {words} {out} r out' e) =
    rw (ap (λ (x : Ran). x.answer) e, ap (λ (x : Ran). x.out) e, ap (λ (x : Ran). x.a) e, ap (λ (x : Ran). x.b) e)
    (rw (same_answer o o (own s c o) (own s o c) words out) (ran_leads s c o words out))
call_leads {c} (asked a e) = rw (ap (λ (x : Asked). x.channel) e) (record { pending = refl; trace = done })
call_leads {c} (took a e) = rw (ap (λ (x : CommitRun). x.channel) e) (go (eqb c.pending.count 0))
  where
    go : (none : Bool) → Leads c (cond none [] (commit c.pending ∷ [])) [] (cond none c.pending no_list)
        (cond {A = CommitRun} none (record { answer = Err NothingPending; channel = c }) (record { answer = Ok tt; channel = taking c c.pending })
        ).channel
    go true = record { pending = refl; trace = done }
    go false = record { pending = refl; trace = take done }

pub record Led (c : Channel) (xs : List Call) (ws : List Words) : Type 0 where
  pub list : MachineData
  pub state : State
  pub trace : Trace c.list c.state (events_of c.pending xs) ws list state

pub calls_lead : {c : Channel} {xs : List Call} {ws : List Words} → Answers c xs ws → Led c xs ws
unfolding events_of
calls_lead (none {c}) = record { list = c.list; state = c.state; trace = done }
calls_lead (then {c' = c'} {xs = xs} {vs = vs} a rest) =
    let x = call_leads a in
    let y = calls_lead rest in
    record {
      list = y.list;
      state = y.state;
      trace = trace_append x.trace (subst (λ p. Trace c'.list c'.state (events_of p xs) vs y.list y.state) x.pending y.trace);
    }
