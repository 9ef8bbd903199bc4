-- A cycle under any rules. They give the ratio, causes 12 and 13, the directions and which rows of the table a cycle has; all else is as it is now. n<nx
-- goes on in the state, whatever the rules show of it. That the comparisons of a step of 1 to 1 are document 01's is `too_fast_51` and
-- `slower_51` in proofs/Headed51.antt; and data 0 to 50 are read by its table, `datum_51` in proofs/Lists.antt.
use Rattle.std.specs.Prelude.{ℕ, Bool, true, not, cond, ◌&&◌, List, [], ◌∷◌, None}
use Rattle.machine_data.specs.declared.MachineData.{MachineData}
use Rattle.distance.specs.Step.{moved_from}
use Rattle.speed.specs.declared.Step.{Step}
use Rattle.nx_signal.specs.Signal.{signal_next}
use Rattle.rank.specs.declared.Rank.TheVariants as R
use Rattle.stop.specs.declared.Stop.TheVariants.{Cancelled}
use Rattle.directions.specs.declared.Watched.{Watched}
use Rattle.fault.specs.declared.Fault.{Fault}
use Rattle.comparison.specs.Comparison.{position_differs, inputs_differ}
use Rattle.fault.specs.Fault.{fault_next}
use Rattle.causes.specs.declared.Cause.{Cause}
use Rattle.causes.specs.Causes.{cause, strongest_of, fresh_of}
use Rattle.state.specs.declared.State.{State}
use Rattle.state.specs.declared.Given.{Given}
use Rattle.judge.specs.declared.Differences.{Differences}
use Rattle.judge.specs.declared.Findings.{Findings}
use Rattle.judge.specs.Causes.{choice_in, differing_in, any_differs, table}
use Rattle.advance.specs.After.{usable_next, shown_word}
use Rattle.as_before.specs.Rules.{Rules}

module _ (rules : Rules) (m : MachineData) (s : State) (g : Given) where
  -- step 2
  abbrev pub step_under : Step
  step_under = record { moved = moved_from s.previous g.reading.position; ratio = rules.ratio m.values g.reading.inputs }

  -- causes 10, 11 and 12, and F
  abbrev pub differences_under : Differences
  differences_under =
      record {
        position = position_differs m.values g.reading g.report;
        inputs = inputs_differ m.values (differing_in s g);
        datum = rules.differs m s.k g.report;
      }

  abbrev pub fault_under : Fault
  fault_under = fault_next m.values (any_differs differences_under) s.kept.fault

  -- cause 13
  abbrev pub stops_under : Bool
  stops_under = rules.stops m.values (choice_in m s g).effective fault_under

  -- the directions, and cause 14
  abbrev pub watched_under : Watched
  watched_under = rules.guard.watched m.values g.reading s.kept.directions

  abbrev pub table_under : List Cause
  table_under = table m.values s.stop g.reading (choice_in m s g) step_under differences_under stops_under watched_under.overstepped

  abbrev pub usable_rows_under : List Cause
  usable_rows_under = rules.guard.rows table_under

  -- "Unusable: cause 1, rank 5"; else the table of step 4
  abbrev pub rows_under : List Cause
  rows_under = cond (rules.usable m g.reading) usable_rows_under (cause 1 true R.A ∷ [])

  abbrev pub findings_under : Findings
  findings_under =
      record {
        step = step_under;
        nx = signal_next m.values step_under s.kept.nx;
        choice = choice_in m s g;
        directions = watched_under.directions;
        differing = differing_in s g;
        fault = fault_under;
        rows = usable_rows_under;
      }

  -- "A cycle clears if it is acknowledged and has no fresh cause"
  abbrev pub clears_under : Bool
  clears_under = g.acknowledged && not (fresh_of rows_under)

  -- what a usable cycle leaves, with k by the rules
  abbrev pub usable_next_under : State
  usable_next_under =
      let u = usable_next m s g findings_under clears_under (strongest_of rows_under) in
      record { k = rules.rise m.count s.k; kept = u.kept; stop = u.stop; previous = u.previous }

  -- the state after a cycle
  abbrev pub next_under : State
  next_under =
      cond (rules.usable m g.reading) usable_next_under
      (record { k = rules.rise m.count s.k; kept = s.kept; stop = Cancelled; previous = None })

  abbrev pub word_under : ℕ
  word_under = shown_word m.values next_under (rules.usable m g.reading && rules.nx m.values step_under s.kept.nx)
