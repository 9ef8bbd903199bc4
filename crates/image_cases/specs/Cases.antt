-- The sums of a channel's state as words of 32 bits, and words read back: the number of a value's case, and what it holds.
use Rattle.std.specs.Prelude.{ℕ, ℤ, ◌%◌, ◌<◌, cond, eqb, Option, None, Some}
use Rattle.crossing.specs.Words.{signed_of, unsigned_of, Signed}
use Rattle.selection.specs.declared.Selection.{Selection}
use Rattle.selection.specs.declared.Selection.TheVariants.{Nothing, Sg, Sbh}
use Rattle.rank.specs.Rank.{rank_number, rank_from}
use Rattle.stop.specs.declared.Stop.{Stop}
use Rattle.stop.specs.declared.Stop.TheVariants.{Free, Braking, Held, Cancelled}
use Rattle.image_cases.specs.declared.Case.{Case}

-- ---- a position, or none

abbrev pub position_from : ℕ → ℕ → Option ℤ
position_from kind position = cond (eqb kind 0) None (Some (signed_of position))

abbrev pub position_words : Option ℤ → Case
position_words None = record { kind = 0; first = 0; second = 0 }
position_words (Some position) = record { kind = 1; first = unsigned_of position; second = 0 }

abbrev pub PositionFits : Option ℤ → Type 0
PositionFits None = Unit {0}
PositionFits (Some position) = Signed position

-- ---- the previous position

abbrev pub previous_from : ℕ → ℕ → Option ℤ
previous_from kind position = position_from kind position

abbrev pub previous_words : Option ℤ → Case
previous_words previous = position_words previous

abbrev pub PreviousFits : Option ℤ → Type 0
PreviousFits previous = PositionFits previous

-- ---- the watch of a direction: its extreme

abbrev pub watch_from : ℕ → ℕ → Option ℤ
watch_from kind extreme = position_from kind extreme

abbrev pub watch_words : Option ℤ → Case
watch_words watch = position_words watch

abbrev pub WatchFits : Option ℤ → Type 0
WatchFits watch = PositionFits watch

-- ---- a selection: an SG's number less one and its override's number are bytes

abbrev pub selection_from : ℕ → ℕ → ℕ → Selection
selection_from kind number over = cond (eqb kind 0) Nothing (cond (eqb kind 1) (Sg (number % 256) (over % 256)) Sbh)

abbrev pub selection_words : Selection → Case
selection_words Nothing = record { kind = 0; first = 0; second = 0 }
selection_words (Sg number over) = record { kind = 1; first = number; second = over }
selection_words Sbh = record { kind = 2; first = 0; second = 0 }

abbrev pub SelectionFits : Selection → Type 0
SelectionFits Nothing = Unit {0}
SelectionFits (Sg number over) = (number < 256) × (over < 256)
SelectionFits Sbh = Unit {0}

-- ---- a stop: its rank's number, and the cycles left of the braking or the reference of the hold

abbrev pub stop_from : ℕ → ℕ → ℕ → Stop
stop_from kind rank rest =
    cond (eqb kind 0) Free
    (cond (eqb kind 1) (Braking (rank_from rank) rest)
    (cond (eqb kind 2) (Held (rank_from rank) (signed_of rest)) Cancelled))

abbrev pub stop_words : Stop → Case
stop_words Free = record { kind = 0; first = 0; second = 0 }
stop_words (Braking rank left) = record { kind = 1; first = rank_number rank; second = left }
stop_words (Held rank reference) = record { kind = 2; first = rank_number rank; second = unsigned_of reference }
stop_words Cancelled = record { kind = 3; first = 0; second = 0 }

abbrev pub StopFits : Stop → Type 0
StopFits Free = Unit {0}
StopFits (Braking rank left) = Unit {0}
StopFits (Held rank reference) = Signed reference
StopFits Cancelled = Unit {0}
