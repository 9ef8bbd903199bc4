-- What an ask and a commit leave: of each the result and all memory that is lent to it, as one value. A prime marks what a call leaves; p are the data of
-- the pending list. The value has also the channel that the arrays then stand for, so that calls may follow each other.
use Rattle.std.specs.Prelude.{ℕ, cond, List, ◌++◌, eqb, ℤ}
use Rattle.refusal.specs.declared.Refusal.TheVariants.{NothingPending}
use Rattle.refusal.specs.Refusal.{refusal_number, refusal_place}
use Rattle.machine_data.specs.Data.{lent}
use Rattle.inputs.specs.declared.Reading.{Reading}
use Rattle.report.specs.declared.Report.{Report}
use Rattle.list.specs.Reading.{read_list}
use Rattle.crossing_lists.specs.Answers.{list_number, list_place, list_left}
use Rattle.commit.specs.Commit.{committed}
use Rattle.channel.specs.declared.Channel.{Channel}
use Rattle.pending.specs.Pending.{told_of, asked_of, commit_of}
use Rattle.image.specs.Image.{pending_count, state_from, state_words, pending_words, front_in, directions_in}
use Rattle.channel_image.specs.Channels.{channel_from}

-- ---- a list asked about

pub record AskLeft : Type 0 where
  pub number : ℕ
  pub place : ℕ
  pub state : List ℕ
  pub pending : List ℤ
  pub codes : List ℕ
  -- with any data of the list in force, which an ask is not lent
  pub channel : List ℤ → Channel

abbrev pub left_by_ask : ℕ → List ℕ → List ℤ → List ℕ → ℕ → AskLeft
left_by_ask number state' p' codes' at' = record { number = number; place = at'; state = state'; pending = p'; codes = codes'; channel = λ values. channel_from values p' state' }

-- of the words of the state only word 25 is written: how many data the pending list has, 0 if it is refused; "all else unaltered"
abbrev pub ask_into : List ℕ → List ℕ → List ℤ → List ℕ → Reading → Report → AskLeft
ask_into words state p codes r o =
    let read = read_list words in
    record {
      number = list_number read.answer;
      place = list_place read.answer;
      state = front_in state ++ (directions_in state ++ pending_words read.list.count);
      pending = list_left read.answer p read.list.values;
      codes = list_left read.answer codes (told_of read.list (state_from state) r o).codes;
      channel = λ values. (asked_of (channel_from values p state) words r o).channel;
    }

-- ---- a commit

pub record CommitLeft : Type 0 where
  pub number : ℕ
  pub place : ℕ
  pub values : List ℤ
  pub state : List ℕ
  pub channel : Channel

abbrev pub left_by_commit : List ℤ → ℕ → List ℤ → List ℕ → ℕ → CommitLeft
left_by_commit p number values' state' at' = record { number = number; place = at'; values = values'; state = state'; channel = channel_from values' p state' }

-- "8, place 0: commit with nothing pending; the channel is unaltered"; else 0, and how many data the list has that is now in force
abbrev pub commit_into : List ℤ → List ℤ → List ℕ → CommitLeft
commit_into p values state =
    let count = pending_count state in
    let none = eqb count 0 in
    record {
      number = cond none (refusal_number NothingPending) 0;
      place = cond none (refusal_place NothingPending) count;
      values = cond none values p;
      state = cond none state (state_words count (committed (lent p count) (state_from state)) 0);
      channel = (commit_of (channel_from values p state)).channel;
    }
