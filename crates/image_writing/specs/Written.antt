-- What writing a state gives, as one value: the words, and what is read from them again, the same state and the same counts where they are below 2^32. The
-- words of the directions are written apart: most cycles leave them as they are.
use Rattle.std.specs.Prelude.{ℕ, ◌%◌, List, ◌++◌}
use Rattle.directions.specs.declared.Directions.{Directions}
use Rattle.state.specs.declared.State.{State}
use Rattle.image.specs.Image.{count_from, pending_count, directions_from, state_from, front_words, direction_words, pending_words, state_words, front_in, directions_in, pending_in}

pub record Written : Type 0 where
  pub words : List ℕ
  pub state : State
  pub count : ℕ
  pub pending : ℕ

-- words as they stand, and what they stand for
abbrev pub written_as : List ℕ → Written
written_as w = record { words = w; state = state_from w; count = count_from w; pending = pending_count w }

-- what a count, a state and the pending list's count are written as
abbrev pub writing : ℕ → State → ℕ → Written
writing count s pending =
    record { words = state_words count s pending; state = s; count = count % 4_294_967_296; pending = pending % 4_294_967_296 }

-- a state with other directions
abbrev pub with_directions : State → Directions → State
with_directions s x =
    record {
      k = s.k;
      kept =
          record {
            cams = s.kept.cams;
            choice = s.kept.choice;
            differing = s.kept.differing;
            fault = s.kept.fault;
            nx = s.kept.nx;
            directions = x;
          };
      stop = s.stop;
      previous = s.previous;
    }

-- what a cycle writes over words that keep those of the directions: none is pending
abbrev pub writing_front : ℕ → State → List ℕ → Written
writing_front count s w =
    record {
      words = front_words count s ++ (directions_in w ++ pending_words 0);
      state = with_directions s (directions_from w);
      count = count % 4_294_967_296;
      pending = 0;
    }

-- the pending list's count written over words that keep all others
abbrev pub writing_pending : ℕ → List ℕ → Written
writing_pending pending w =
    record {
      words = front_in w ++ (directions_in w ++ pending_words pending);
      state = state_from w;
      count = count_from w;
      pending = pending % 4_294_967_296;
    }

-- ---- the directions alone

pub record DirectionsWritten : Type 0 where
  pub words : List ℕ
  pub directions : Directions

abbrev pub directions_as : List ℕ → DirectionsWritten
directions_as w = record { words = w; directions = directions_from w }

-- what they are written as over words that keep all others
abbrev pub writing_directions : Directions → List ℕ → DirectionsWritten
writing_directions x w = record { words = front_in w ++ (direction_words x ++ pending_in w); directions = x }
