-- When a watch stands and when cause 14 does: W6, over every history that the calls of demand 3 give a fresh channel, commits (W7) among them, and with no run,
-- watch or extreme kept. A commit of a list without the function ends runs and watches, be another list with it committed before the next cycle or not; so each
-- claim counts the cycles from one before which none stands. proofs/Stands.antt shows all of them.
use Rattle.std.specs.Prelude.{ℕ, ◌+◌, ◌≤◌, ◌<◌, Bool, true, false, ◌&&◌, ◌↔◌, ◌≡◌, ℤ, T, Some}
use mathlib.Core.List.{List, Memᴰ}
use Rattle.machine_data.specs.declared.MachineData.{MachineData}
use Rattle.machine_data.specs.Data.{number_of, function_of}
use Rattle.inputs.specs.Layout.{positive_only_off, negative_only_off}
use Rattle.runs.specs.Running.{Running}
use Rattle.runs.specs.Since.{SetSince}
use Rattle.direction.specs.declared.Sign.{Sign}
use Rattle.direction.specs.declared.Sign.TheVariants.{Positive, Negative}
use Rattle.direction.specs.declared.Direction.{Direction}
use Rattle.directions.specs.declared.Directions.{Directions}
use Rattle.directions.specs.Directions.{no_directions}
use Rattle.direction_laws.specs.Since.{bound, Beyond}
use Rattle.state.specs.declared.Given.{Given}
use Rattle.demand_3.specs.History.{list_in, before}
use Rattle.demand_3.specs.Claims.{usable_in, state_after, Stands}

-- a list has the function, or it has it not
abbrev pub Directed : MachineData → Type 0
Directed m = function_of m.values 5 ≡ true

abbrev pub Undirected : MachineData → Type 0
Undirected m = function_of m.values 5 ≡ false

-- of both, the one of a sign
abbrev pub of_sign : Sign → Directions → Direction
of_sign Positive x = x.positive
of_sign Negative x = x.negative

-- the bit that leaves a direction free
abbrev pub free_bit : Sign → ℕ → Bool
free_bit Positive w = positive_only_off w
free_bit Negative w = negative_only_off w

-- of numbered cycles, from 0: `L n` is the list in force in cycle n, `G n` what it is given
module _ (L : ℕ → MachineData) (G : ℕ → Given) where
  -- cycle n is usable, and the function is on
  abbrev pub watching_in : ℕ → Bool
  watching_in n = usable_in L G n && function_of (L n).values 5

  abbrev pub free_in : Sign → ℕ → Bool
  free_in sign n = free_bit sign (G n).reading.inputs

  abbrev pub position_in : ℕ → ℤ
  position_in n = (G n).reading.position

  abbrev pub delay_in : ℕ → ℕ
  delay_in n = number_of (L n).values 70

  -- a direction is overstepped in cycle n, by the tolerance of the list in force
  pub record OversteppedIn (n : ℕ) : Type 0 where
    pub watching : T (watching_in n)
    pub sign : Sign
    pub beyond : Beyond watching_in (free_in sign) position_in delay_in sign (number_of (L n).values 69) n

-- ---- where none stands

module _ (commits : ℕ → List MachineData) where
  -- before cycle c no run and no watch stands: it is the first cycle, or a list without the function is among those committed straight before it, W7: "but
  -- for what W6 ends with bit 5 off"
  pub data Begins : ℕ → Type 0 where
    at_first : Begins 0
    ended : {c : ℕ} {m : MachineData} → Memᴰ m (commits c) → Undirected m → Begins c

  -- no such list is committed behind cycle c and before cycle n
  abbrev pub GoesOn : ℕ → ℕ → Type 0
  GoesOn c n = (k : ℕ) → c < k → k ≤ n → (m : MachineData) → Memᴰ m (commits k) → Directed m

  -- the cycles from c up to c + i
  pub record From (c i : ℕ) : Type 0 where
    pub begins : Begins c
    pub goes_on : GoesOn c (c + i)

-- every cycle has such a c
abbrev pub Reached : Type 0
Reached = (commits : ℕ → List MachineData) (n : ℕ) → (c : ℕ) × (i : ℕ) × (c + i ≡ n) × From commits c i

-- ---- from a fresh channel with list m on, where lists are committed between the cycles

module _ (m : MachineData) (commits : ℕ → List MachineData) (cs : ℕ → Given) where
  -- the list in force in the cycle with the number i, counted from c, and what that cycle is given
  abbrev pub list_from : ℕ → ℕ → MachineData
  list_from c i = list_in m commits (c + i)

  abbrev pub given_from : ℕ → ℕ → Given
  given_from c i = cs (c + i)

  -- the directions that cycle n finds, and leaves
  abbrev pub found : ℕ → Directions
  found n = (before m commits cs n).kept.directions

  abbrev pub left : ℕ → Directions
  left n = (state_after (list_in m commits) (before m commits cs) cs n).kept.directions

  -- a watch stands after cycle n
  abbrev pub WatchedAfter : Sign → ℕ → Type 0
  WatchedAfter sign n = (e : ℤ) × ((of_sign sign (left n)).watch ≡ Some e)

-- "this is cause 14": it stands in a cycle if and only if for one of the directions "the position is more than the tolerance below the highest in the usable
-- cycles since the watch began", or its mirror
abbrev pub Cause14 : Type 0
Cause14 =
    (m : MachineData) (commits : ℕ → List MachineData) (cs : ℕ → Given) (c i : ℕ) → From commits c i →
    Stands (list_in m commits) (before m commits cs) cs (c + i) 14 ↔ OversteppedIn (list_from m commits cs c) (given_from m commits cs c) i

-- "A direction starts its watch when its bit has been 0 for more than the delay in usable cycles running, and ends it in a usable cycle where it is 1": it
-- stands after a cycle if and only if there is one up to which the bit was 0 for more than datum 70 of the list then in force, and since which it was 1 in no
-- usable one
abbrev pub WatchStands : Type 0
WatchStands =
    (m : MachineData) (commits : ℕ → List MachineData) (cs : ℕ → Given) (c i : ℕ) → From commits c i → (sign : Sign) →
    let L = list_from m commits cs c in
    let G = given_from m commits cs c in
    WatchedAfter m commits cs sign (c + i) ↔ SetSince (watching_in L G) (bound (free_in L G sign)) (free_in L G sign) (delay_in L G) i

-- where from c on every list in force has the function and the same delay t: it stands after a usable cycle if and only if its bit has been 0 in more than t
-- usable cycles running, this one the last
abbrev pub WatchRuns : Type 0
WatchRuns =
    (m : MachineData) (commits : ℕ → List MachineData) (cs : ℕ → Given) (c i : ℕ) → From commits c i →
    let L = list_from m commits cs c in
    let G = given_from m commits cs c in
    (t : ℕ) → ((k : ℕ) → k ≤ i → Directed (L k) × (number_of (L k).values 70 ≡ t)) → T (usable_in L G i) → (sign : Sign) →
    WatchedAfter m commits cs sign (c + i) ↔ Running (usable_in L G) (bound (free_in L G sign)) t i

-- "With bit 5 off .. no run or watch stands", before a cycle and after it
abbrev pub NoneStands : Type 0
NoneStands =
    (m : MachineData) (commits : ℕ → List MachineData) (cs : ℕ → Given) (n : ℕ) → Undirected (list_in m commits n) →
    (found m commits cs n ≡ no_directions) × (left m commits cs n ≡ no_directions)
