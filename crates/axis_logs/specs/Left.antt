-- What the run of a log leaves: the result and all memory that is lent to it, as one value. A prime marks what the call leaves. The value has also the
-- channels that the arrays then stand for, with the data p and q of their pending lists, so that calls may follow each other.
use Rattle.std.specs.Prelude.{ℕ, List, ℤ}
use Rattle.channel.specs.declared.Channel.{Channel}
use Rattle.state.specs.declared.State.{State}
use Rattle.logs.specs.Run.{Ran, ran_of}
use Rattle.logs.specs.Left.{cycles_run}
use Rattle.image.specs.Image.{count_from, pending_count, pending_after, state_words}
use Rattle.channel_image.specs.Channels.{channel_from}
use Rattle.axis_logs.specs.Crossing.{log_number, log_place, log_left}

pub record LogLeft : Type 0 where
  pub number : ℕ
  pub place : ℕ
  pub state_a : List ℕ
  pub state_b : List ℕ
  pub out : List ℕ
  pub a : Channel
  pub b : Channel

abbrev pub left_by_log : List ℤ → List ℤ → ℕ → List ℕ → List ℕ → List ℕ → ℕ → List ℤ → List ℤ → LogLeft
left_by_log values-a values-b number state-a' state-b' out' at' p q =
    record { number = number; place = at'; state_a = state-a'; state_b = state-b'; out = out'; a = channel_from values-a p state-a'; b = channel_from values-b q state-b' }

-- the run of a log over the two channels that the arrays stand for
abbrev pub ran_from : List ℤ → List ℤ → List ℕ → List ℤ → List ℤ → List ℕ → List ℕ → List ℕ → Ran
ran_from values-a p state_a values-b q state_b words out = ran_of (channel_from values-a p state_a) (channel_from values-b q state_b) words out

-- the words of a state behind so many cycles
abbrev pub words_behind : ℕ → State → List ℕ → List ℕ
words_behind cycles s w = state_words (count_from w) s (pending_after cycles (pending_count w))

-- what a run leaves of two channels' states
abbrev pub leaving : List ℕ → List ℕ → Ran → LogLeft
leaving state_a state_b r =
    record {
      number = log_number r.answer;
      place = log_place r.answer;
      state_a = log_left r.answer state_a (words_behind (cycles_run r.answer) r.a.state state_a);
      state_b = log_left r.answer state_b (words_behind (cycles_run r.answer) r.b.state state_b);
      out = r.out;
      a = r.a;
      b = r.b;
    }

abbrev pub log_over : List ℤ → List ℕ → List ℤ → List ℕ → List ℕ → List ℕ → List ℤ → List ℤ → LogLeft
log_over values-a state_a values-b state_b words out p q = leaving state_a state_b (ran_from values-a p state_a values-b q state_b words out)
