-- The cycles and the commits of the calls, and what steps 1 to 5 and W7 make of them: document 01, "The runs of demand 3". Nothing here is read from a
-- returned channel: the lists are made of the calls' words.
use Rattle.std.specs.Prelude.{ℕ, zero, suc, false, cond, List, [], ◌∷◌, ◌++◌, eqb, get_or, length, pos, Result, Ok, Err}
use Rattle.machine_data.specs.declared.MachineData.{MachineData}
use Rattle.seven.specs.declared.CycleRecord.{CycleRecord}
use Rattle.records.specs.Records.{LogRead, records, fault, log_of}
use Rattle.list.specs.Reading.{read_list}
use Rattle.state.specs.declared.State.{State}
use Rattle.state.specs.declared.Given.{Given}
use Rattle.state.specs.State.{fresh_state}
use Rattle.report.specs.Report.{next_k, report_of}
use Rattle.commit.specs.Commit.{committed}
use Rattle.channel.specs.Cycle.{no_list, behind, next}
use Rattle.refusal.specs.declared.Refusal.{Refusal}
use Rattle.logs.specs.Run.{ran_of}
use Rattle.demand_3.specs.Calls.{Side, own, Call, single, logged, asks, commits}

-- ---- the cycles and reports of a call

-- "In a log the report is the other channel's: position and input word from the log, datum k by the data and k of the channel given", and its head (W1):
-- what a record gives the working channel, beside a channel with list m at k
abbrev pub given_of : Side → MachineData → ℕ → CycleRecord → Given
given_of s m k r = record { reading = own s r.a r.b; acknowledged = r.acknowledged; report = report_of m k (own s r.b r.a) }

unfoldable pub givens_of : Side → MachineData → ℕ → List CycleRecord → List Given
givens_of s m k [] = []
givens_of s m k (r ∷ rs) = given_of s m k r ∷ givens_of s m (next_k m.count k) rs

-- the records of a log; they are run if it is accepted
abbrev pub records_in : LogRead → List CycleRecord
records_in (records rs) = rs
records_in (fault place) = []

abbrev pub records_run : Result ℕ Refusal → LogRead → List CycleRecord
records_run (Ok n) l = records_in l
records_run (Err why) l = []

-- the cycles of a call; a log's answer is the same whatever channels it is given with (proofs/OfLog.antt), and is asked here with the other one twice
unfoldable pub cycles_of : Call → List Given
cycles_of (single g other) = g ∷ []
cycles_of (logged s o words out) =
    givens_of s o.list o.state.k (records_run (ran_of o o words out).answer (log_of words))
cycles_of (asks words r o) = []
cycles_of commits = []

-- ---- what the calls bring, one behind the other

-- a cycle, or a commit of a list
pub data Event : Type 0 where
  cycle : Given → Event
  commit : MachineData → Event

unfoldable pub as_cycles : List Given → List Event
as_cycles [] = []
as_cycles (g ∷ gs) = cycle g ∷ as_cycles gs

-- W7, of a call before which list p is pending, or none where p has no data: "A commit takes the pending list"; "commit with nothing pending; the channel
-- is unaltered"
abbrev pub events_in : MachineData → Call → List Event
events_in p (single g other) = as_cycles (cycles_of (single g other))
events_in p (logged s o words out) = as_cycles (cycles_of (logged s o words out))
events_in p (asks words r o) = []
events_in p commits = cond (eqb p.count 0) [] (commit p ∷ [])

-- the list that is pending behind it: an ask "keeps the list pending; a refused list leaves none pending" (it has no data); "Any cycle in between drops it"
abbrev pub pending_behind : MachineData → Call → MachineData
pending_behind p (single g other) = behind (length (cycles_of (single g other))) p
pending_behind p (logged s o words out) = behind (length (cycles_of (logged s o words out))) p
pending_behind p (asks words r o) = (read_list words).list
pending_behind p commits = cond (eqb p.count 0) p no_list

unfoldable pub events_of : MachineData → List Call → List Event
events_of p [] = []
events_of p (x ∷ xs) = events_in p x ++ events_of (pending_behind p x) xs

-- ---- by the numbers of the cycles, from 0

-- "Cycles, those of accepted logs too, count through the whole list"
unfoldable pub cycles_in : List Event → List Given
cycles_in [] = []
cycles_in (cycle g ∷ es) = g ∷ cycles_in es
cycles_in (commit m ∷ es) = cycles_in es

-- the lists committed straight before cycle n, in their order
unfoldable pub commits_at : List Event → ℕ → List MachineData
commits_at [] n = []
commits_at (cycle g ∷ es) zero = []
commits_at (cycle g ∷ es) (suc n) = commits_at es n
commits_at (commit m ∷ es) zero = m ∷ commits_at es zero
commits_at (commit m ∷ es) (suc n) = commits_at es (suc n)

-- of calls on a fresh channel, with which none is pending
abbrev pub all_cycles : List Call → List Given
all_cycles calls = cycles_in (events_of no_list calls)

abbrev pub all_commits : List Call → ℕ → List MachineData
all_commits calls = commits_at (events_of no_list calls)

-- cycle n of a list of cycles
abbrev pub cycle_at : List Given → ℕ → Given
cycle_at gs n =
    get_or gs n
    (record {
      reading = record { position = pos 0; inputs = 0 };
      acknowledged = false;
      report = record { position = pos 0; inputs = 0; datum = pos 0; head = 0 };
    })

-- ---- what the steps and the commits make of the machine data and the cycles

-- lists committed one behind the other: the one in force behind them, and the state
unfoldable pub last_of : MachineData → List MachineData → MachineData
last_of m [] = m
last_of m (l ∷ ls) = last_of l ls

unfoldable pub all_committed : List MachineData → State → State
all_committed [] s = s
all_committed (m ∷ ms) s = all_committed ms (committed m s)

-- from a fresh channel with list `first` on, where the lists `commits n` are committed straight before cycle n
module _ (first : MachineData) (commits : ℕ → List MachineData) where
  -- the list in force in cycle n
  unfoldable pub list_in : ℕ → MachineData
  list_in zero = last_of first (commits 0)
  list_in (suc n) = last_of (list_in n) (commits (suc n))

  -- the state that cycle n finds
  unfoldable pub before : (ℕ → Given) → ℕ → State
  before cs zero = all_committed (commits 0) fresh_state
  before cs (suc n) = all_committed (commits (suc n)) (next (list_in n) (before cs n) (cs n))

-- the same where nothing is committed (proofs/OneList.antt)
unfoldable pub history : MachineData → (ℕ → Given) → ℕ → State
history m cs zero = fresh_state
history m cs (suc n) = next m (history m cs n) (cs n)
