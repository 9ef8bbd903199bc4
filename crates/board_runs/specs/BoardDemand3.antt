-- Demand 3 of the library: of every list that monitor_read_list accepts into a channel's arrays, of every list of calls on them, and of all words that these
-- calls may give. The claim is demand 3's own (crates/demand_3/specs/Demand3.antt).
use Rattle.std.specs.Prelude.{ℕ, ◌≡◌, List, ℤ}
use Rattle.list.specs.Reading.{read_list}
use Rattle.axis_monitor.specs.Left.{left_by_list, list_into}
use Rattle.demand_3.specs.Calls.{Words}
use Rattle.demand_3.specs.Demand3.{Demanded}
use Rattle.nx_history.specs.Shown.{ShownIn}
use Rattle.board_runs.specs.Calls.{BoardCall, ImageAnswers, calls_of}

-- the calls behind a list that is accepted, its answer being 0; the array of the pending list may hold anything
abbrev pub OnBoard : (List ℕ → List BoardCall → List Words → Type 0) → Type 0
OnBoard P =
    (words : List ℕ) (values : List ℤ) (state : List ℕ) (values' : List ℤ) (state' : List ℕ) (at : ℕ) →
    left_by_list 0 values' state' at ≡ list_into words values state →
    (pending : List ℤ) (calls : List BoardCall) (given : List Words) →
    ImageAnswers (record { data_in_force = values'; pending = pending; state = state' }) calls given → P words calls given

abbrev pub BoardDemand3 : Type 0
BoardDemand3 = OnBoard (λ words calls given. Demanded (read_list words).list (calls_of calls) given)

-- W3 of the library's calls: when bit 21 of the words that they give is 1
abbrev pub BoardShownNx : Type 0
BoardShownNx = OnBoard (λ words calls given. ShownIn (read_list words).list (calls_of calls) given)
