-- What the exported functions leave: of each the result and all memory that is lent to it, as one value. A prime marks what a call leaves. Where a call
-- leaves a channel, the value has also the channel that the arrays then stand for, with any data of a pending list, so that calls may follow each other.
use Rattle.std.specs.Prelude.{ℕ, ◌%◌, Bool, false, cond, ◌&&◌, List, ◌++◌, ℤ}
use Rattle.machine_data.specs.declared.MachineData.{MachineData}
use Rattle.machine_data.specs.Data.{function_of}
use Rattle.inputs.specs.declared.Reading.{Reading}
use Rattle.usable_inputs.specs.Usable.{usable_of}
use Rattle.directions.specs.declared.Directions.{Directions}
use Rattle.directions.specs.Directions.{directions_next}
use Rattle.causes.specs.Causes.{unusable_table, summary_of}
use Rattle.codes.specs.declared.Causes.{Causes}
use Rattle.codes.specs.Codes.{causes_of}
use Rattle.report.specs.declared.Report.{Report}
use Rattle.report.specs.Report.{report_of}
use Rattle.list.specs.Reading.{read_list}
use Rattle.state.specs.State.{fresh_state}
use Rattle.state.specs.declared.Given.{Given}
use Rattle.state.specs.declared.State.{State}
use Rattle.judge.specs.Causes.{findings_of}
use Rattle.advance.specs.declared.Advanced.{Advanced}
use Rattle.advance.specs.After.{advanced_by, advanced_unusable}
use Rattle.channel.specs.declared.Channel.{Channel}
use Rattle.channel.specs.Cycle.{fresh_channel, with_state, next}
use Rattle.channel.specs.Word.{word}
use Rattle.channel.specs.Outcome.{causes_in}
use Rattle.image.specs.Image.{count_from, directions_from, state_from, front_words, direction_words, pending_words, state_words, directions_in}
use Rattle.channel_image.specs.Channels.{list_from, channel_from}
use Rattle.image_writing.specs.Written.{Written, written_as, with_directions, DirectionsWritten, directions_as, writing_directions}
use Rattle.crossing_reports.specs.Reports.{report_words, report_from}
use Rattle.crossing_lists.specs.Answers.{list_number, list_place, list_left}

-- ---- a list read into a channel's arrays

pub record ListLeft : Type 0 where
  pub number : ℕ
  pub place : ℕ
  pub values : List ℤ
  pub state : List ℕ
  pub channel : List ℤ → Channel

abbrev pub left_by_list : ℕ → List ℤ → List ℕ → ℕ → ListLeft
left_by_list number values' state' at' = record { number = number; place = at'; values = values'; state = state'; channel = λ p. channel_from values' p state' }

-- "The working channel starts fresh, with an accepted list"; a refused list leaves "everything" "as it was"
abbrev pub list_into : List ℕ → List ℤ → List ℕ → ListLeft
list_into words values state =
    let read = read_list words in
    record {
      number = list_number read.answer;
      place = list_place read.answer;
      values = list_left read.answer values read.list.values;
      state = list_left read.answer state (state_words read.list.count fresh_state 0);
      channel = λ p. list_left read.answer (channel_from values p state) (fresh_channel read.list);
    }

-- ---- a report: its words, and what is read from them

pub record ReportLeft : Type 0 where
  pub words : List ℕ
  pub report : Report

abbrev pub left_by_report : List ℕ → ReportLeft
left_by_report report' = record { words = report'; report = report_from report' }

-- what a channel reports of a cycle, by its k from before it
abbrev pub reported_by : List ℤ → List ℕ → ℤ → ℕ → Report
reported_by values state position inputs = report_of (list_from values state) (state_from state).k (record { position = position; inputs = inputs })

abbrev pub reporting : Report → ReportLeft
reporting r = record { words = report_words r; report = r }

-- ---- a cycle's two ways, which private functions alone cite: the word, the state as it is written, the codes

pub record WayLeft : Type 0 where
  pub word : ℕ
  pub written : Written
  pub codes : List ℕ

abbrev pub left_by_way : ℕ → List ℕ → List ℕ → WayLeft
left_by_way w state' codes' = record { word = w; written = written_as state'; codes = codes' }

-- the words of the directions, over words w: written with the function on, in a usable cycle, and else left as they are
abbrev pub guarding : List ℤ → Reading → Directions → List ℕ → DirectionsWritten
guarding d r x w = cond (function_of d 5) (writing_directions (directions_next d r x) w) (directions_as w)

-- the words of a count and a state over words w, with those of the directions or without; none is pending
abbrev pub words_over : Bool → ℕ → State → List ℕ → List ℕ
words_over guarded count s w = front_words count s ++ (cond guarded (direction_words s.kept.directions) (directions_in w) ++ pending_words 0)

abbrev pub writing_over : Bool → ℕ → State → List ℕ → Written
writing_over guarded count s w =
    record {
      words = words_over guarded count s w;
      state = with_directions s (cond guarded s.kept.directions (directions_from w));
      count = count % 4_294_967_296;
      pending = 0;
    }

-- what a way leaves that comes to this state and word and to these causes, of a list of so many data
abbrev pub leaving : Bool → ℕ → Advanced → Causes → List ℕ → WayLeft
leaving guarded count a causes w = record { word = a.word; written = writing_over guarded count a.state w; codes = causes.codes }

-- where the inputs are usable
unfoldable pub usable_leaves : MachineData → State → Given → List ℕ → WayLeft
usable_leaves m s g w =
    let f = findings_of m s g in
    leaving (function_of m.values 5) m.count (advanced_by m s g f (summary_of f.rows)) (causes_of f.rows) w

-- and where they are not
unfoldable pub unusable_leaves : MachineData → State → List ℕ → WayLeft
unusable_leaves m s w = leaving false m.count (advanced_unusable m s) (causes_of unusable_table) w

-- ---- a cycle of the channel that the arrays stand for

pub record CycleLeft : Type 0 where
  pub word : ℕ
  pub state : List ℕ
  pub codes : List ℕ
  pub channel : List ℤ → Channel

abbrev pub left_by_cycle : List ℤ → ℕ → List ℕ → List ℕ → CycleLeft
left_by_cycle values w state' codes' = record { word = w; state = state'; codes = codes'; channel = λ p. channel_from values p state' }

-- a cycle writes the words of the directions: it is usable, and the function is on
abbrev pub guarded_in : MachineData → Given → Bool
guarded_in m g = usable_of m g.reading && function_of m.values 5

abbrev pub cycle_on : List ℤ → List ℕ → Given → CycleLeft
cycle_on values state g =
    let m = list_from values state in
    let s = state_from state in
    record {
      word = word m s g;
      state = words_over (guarded_in m g) (count_from state) (next m s g) state;
      codes = (causes_in m s g).codes;
      channel = λ p. with_state (channel_from values p state) (next m s g);
    }
