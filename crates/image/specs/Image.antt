-- A channel's image: the words that its state and the counts of its list and of the pending one are kept in, beside their data (channel_image).
use Rattle.std.specs.Prelude.{ℕ, zero, suc, ◌%◌, ◌<◌, cond, List, [], ◌∷◌, ◌++◌, eqb, get_or}
use Rattle.directions.specs.declared.Directions.{Directions}
use Rattle.state.specs.declared.State.{State}
use Rattle.crossing.specs.Words.{signed_of, unsigned_of, Signed, yes_from, yes_word}
use Rattle.image_cases.specs.Cases.{previous_from, previous_words, PreviousFits, watch_from, watch_words, WatchFits, selection_from, selection_words, SelectionFits, stop_from, stop_words, StopFits}

-- how many data the list has: word 0; 0 where there is no list
abbrev pub count_from : List ℕ → ℕ
count_from w = get_or w 0 0

-- how many data the pending list has: word 25; 0 where none is pending
abbrev pub pending_count : List ℕ → ℕ
pending_count w = get_or w 25 0

-- W7: "Any cycle in between drops it": the same behind so many cycles
abbrev pub pending_after : ℕ → ℕ → ℕ
pending_after cycles count = cond (eqb cycles 0) count 0

-- the directions that words stand for
abbrev pub directions_from : List ℕ → Directions
directions_from w =
    record {
      -- words 19 to 21, of the positive direction, the usable cycles running in which its bit was 0, and its watch
      positive = record { run = get_or w 19 0; watch = watch_from (get_or w 20 0) (get_or w 21 0) };
      -- words 22 to 24, of the negative one
      negative = record { run = get_or w 22 0; watch = watch_from (get_or w 23 0) (get_or w 24 0) };
    }

-- the state that words stand for, whatever they are
unfoldable pub state_from : List ℕ → State
state_from w =
    record {
      -- word 1, a byte
      k = get_or w 1 0 % 256;
      kept =
          record {
            -- word 16, the cam signals as bits
            cams = get_or w 16 0;
            choice =
                record {
                  -- word 4, whether a selection was made yet
                  chosen = yes_from (get_or w 4 0);
                  -- words 5 to 7
                  effective = selection_from (get_or w 5 0) (get_or w 6 0) (get_or w 7 0);
                  -- word 8, SBH's reference
                  reference = signed_of (get_or w 8 0);
                  -- word 9, the cycles left of a lowering
                  left = get_or w 9 0;
                };
            -- word 10, the usable cycles running in which the input words differ
            differing = get_or w 10 0;
            -- word 11, F, and word 12, the cycles left of its time
            fault = record { on = yes_from (get_or w 11 0); left = get_or w 12 0 };
            -- word 17, the value of n<nx, and word 18, the usable cycles running in which the speed was below nx
            nx = record { run = get_or w 18 0; on = yes_from (get_or w 17 0) };
            directions = directions_from w;
          };
      -- words 13 to 15
      stop = stop_from (get_or w 13 0) (get_or w 14 0) (get_or w 15 0);
      -- words 2 and 3
      previous = previous_from (get_or w 2 0) (get_or w 3 0);
    }

-- the words of a count and a state, in the order of their places: 0 to 18
abbrev pub front_words : ℕ → State → List ℕ
front_words count s =
    let previous = previous_words s.previous in
    let choice = s.kept.choice in
    let effective = selection_words choice.effective in
    let stop = stop_words s.stop in
    count % 4_294_967_296
    ∷ s.k
    ∷ previous.kind
    ∷ previous.first
    ∷ yes_word choice.chosen
    ∷ effective.kind
    ∷ effective.first
    ∷ effective.second
    ∷ unsigned_of choice.reference
    ∷ choice.left
    ∷ s.kept.differing
    ∷ yes_word s.kept.fault.on
    ∷ s.kept.fault.left
    ∷ stop.kind
    ∷ stop.first
    ∷ stop.second
    ∷ s.kept.cams
    ∷ yes_word s.kept.nx.on
    ∷ s.kept.nx.run
    ∷ []

-- those of the directions: 19 to 24
abbrev pub direction_words : Directions → List ℕ
direction_words x =
    x.positive.run
    ∷ (watch_words x.positive.watch).kind
    ∷ (watch_words x.positive.watch).first
    ∷ x.negative.run
    ∷ (watch_words x.negative.watch).kind
    ∷ (watch_words x.negative.watch).first
    ∷ []

-- that of the pending list: 25
abbrev pub pending_words : ℕ → List ℕ
pending_words pending = pending % 4_294_967_296 ∷ []

-- all of them
unfoldable pub state_words : ℕ → State → ℕ → List ℕ
state_words count s pending = front_words count s ++ (direction_words s.kept.directions ++ pending_words pending)

-- n words as they stand, from a place on
abbrev pub words_from : List ℕ → ℕ → ℕ → List ℕ
words_from w at zero = []
words_from w at (suc n) = get_or w at 0 ∷ words_from w (suc at) n

abbrev pub front_in : List ℕ → List ℕ
front_in w = words_from w 0 19

abbrev pub directions_in : List ℕ → List ℕ
directions_in w = words_from w 19 6

abbrev pub pending_in : List ℕ → List ℕ
pending_in w = words_from w 25 1

-- ---- of the laws: what they ask of a state

-- the numbers of a state fit their types: those that are not kept as they stand, but as a byte or in two's complement
pub record Fits (s : State) : Type 0 where
  pub k : s.k < 256
  pub effective : SelectionFits s.kept.choice.effective
  pub reference : Signed s.kept.choice.reference
  pub stop : StopFits s.stop
  pub previous : PreviousFits s.previous

pub record DirectionsFit (x : Directions) : Type 0 where
  pub positive : WatchFits x.positive.watch
  pub negative : WatchFits x.negative.watch
