-- The calls of demand 3 as a program makes them through the library, on the arrays of its working channel, and what they answer.
use Rattle.std.specs.Prelude.{ℕ, ◌≡◌, cond, List, [], ◌∷◌, ◌++◌, eqb, ℤ}
use Rattle.inputs.specs.declared.Reading.{Reading}
use Rattle.device.specs.Device.{device_of}
use Rattle.channel.specs.declared.Channel.{Channel}
use Rattle.channel_image.specs.Channels.{channel_from}
use Rattle.crossing_reports.specs.Reports.{report_from, given_from}
use Rattle.axis_monitor.specs.Left.{left_by_cycle, cycle_on}
use Rattle.axis_logs.specs.Left.{left_by_log, log_over}
use Rattle.axis_lists.specs.Left.{left_by_ask, ask_into, left_by_commit, commit_into}
use Rattle.demand_3.specs.Calls.{Side, own, Call, single, logged, asks, commits, Words, words_from}

-- a channel's arrays: the data in force, those of the pending list, and the words of the state
pub record Arrays : Type 0 where
  pub data_in_force : List ℤ
  pub pending : List ℤ
  pub state : List ℕ

-- the channel that they stand for
abbrev pub channel_of : Arrays → Channel
channel_of a = channel_from a.data_in_force a.pending a.state

-- "a single cycle, then the device word of its channel word and the other's": position, input word, acknowledgement, the report's words, the other channel's
-- word; "a log, .. with the working channel as A or B beside any other channel": the other channel's arrays, the log's words and the output lent to it;
-- W7: an ask: the list's words, position, input word, the report's words and what the array of the codes holds; a commit
pub data BoardCall : Type 0 where
  cycle : ℤ → ℕ → ℕ → List ℕ → ℕ → BoardCall
  log : Side → Arrays → List ℕ → List ℕ → BoardCall
  ask : List ℕ → ℤ → ℕ → List ℕ → List ℕ → BoardCall
  commit : BoardCall

-- the words that a log gave: those of its cycles where it answers 0, and else none
abbrev pub given_words : Side → ℕ → ℕ → List ℕ → List Words
given_words s number at out = cond (eqb number 0) (words_from s out 0 at) []

abbrev pub reading_of : ℤ → ℕ → Reading
reading_of position inputs = record { position = position; inputs = inputs }

-- a call on a channel's arrays is answered: the arrays that it leaves, and the words that it gives. What is asked of the answer is what the contracts of the
-- exported functions ensure, and no more; an array that a function is not lent it leaves as it is
pub data ImageAnswered (a : Arrays) : BoardCall → Arrays → List Words → Type 0 where
  -- monitor_cycle, then monitor_device_word
  cycled : {position : ℤ} {inputs acknowledged other : ℕ} {report : List ℕ} (w device : ℕ) (state' codes' : List ℕ) →
      left_by_cycle a.data_in_force w state' codes' ≡ cycle_on a.data_in_force a.state (given_from position inputs acknowledged report) → device ≡ device_of w other →
      ImageAnswered a (cycle position inputs acknowledged report other) (record { data_in_force = a.data_in_force; pending = a.pending; state = state' })
      (record { channel = w; device = device } ∷ [])
  -- monitor_run_log
  ran : {s : Side} {o : Arrays} {words out : List ℕ} (number at : ℕ) (state-a' state-b' out' : List ℕ) →
      left_by_log (own s a o).data_in_force (own s o a).data_in_force number state-a' state-b' out' at
      ≡ log_over (own s a o).data_in_force (own s a o).state (own s o a).data_in_force (own s o a).state words out →
      ImageAnswered a (log s o words out) (record { data_in_force = a.data_in_force; pending = a.pending; state = own s state-a' state-b' }) (given_words s number at out')
  -- monitor_ask
  asked : {words : List ℕ} {position : ℤ} {inputs : ℕ} {report codes : List ℕ} (number at : ℕ) (state' : List ℕ) (pending' : List ℤ) (codes' : List ℕ) →
      left_by_ask number state' pending' codes' at ≡ ask_into words a.state a.pending codes (reading_of position inputs) (report_from report) →
      ImageAnswered a (ask words position inputs report codes) (record { data_in_force = a.data_in_force; pending = pending'; state = state' }) []
  -- monitor_commit
  took : (number at : ℕ) (data' : List ℤ) (state' : List ℕ) → left_by_commit a.pending number data' state' at ≡ commit_into a.pending a.data_in_force a.state →
      ImageAnswered a commit (record { data_in_force = data'; pending = a.pending; state = state' }) []

-- "Each call gets the working channel as the last one returned or left it"
pub data ImageAnswers : Arrays → List BoardCall → List Words → Type 0 where
  none : {a : Arrays} → ImageAnswers a [] []
  then : {a a' : Arrays} {x : BoardCall} {xs : List BoardCall} {ws vs : List Words} → ImageAnswered a x a' ws → ImageAnswers a' xs vs → ImageAnswers a (x ∷ xs) (ws ++ vs)

-- the same calls on channels
abbrev pub call_of : BoardCall → Call
call_of (cycle position inputs acknowledged report other) = single (given_from position inputs acknowledged report) other
call_of (log s o words out) = logged s (channel_of o) words out
call_of (ask words position inputs report codes) = asks words (reading_of position inputs) (report_from report)
call_of commit = commits

unfoldable pub calls_of : List BoardCall → List Call
calls_of [] = []
calls_of (x ∷ xs) = call_of x ∷ calls_of xs
