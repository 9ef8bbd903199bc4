-- The stop state and step 5 of a cycle: document 01, "One cycle of a channel".
use Rattle.std.specs.Prelude.{ℕ, ◌-◌, Bool, not, cond, ◌&&◌, ◌||◌, List, ℤ, ltb, eqb}
use Rattle.rank.specs.declared.Rank.{Rank}
use Rattle.rank.specs.declared.Rank.TheVariants.{None, E, D, C, B, A}
use Rattle.rank.specs.Rank.{rank_number, time_of}
use Rattle.stop.specs.declared.Stop.{Stop}
use Rattle.stop.specs.declared.Stop.TheVariants.{Free, Braking, Held, Cancelled}

-- the rank of a stop state
abbrev pub rank_of : Stop → Rank
rank_of Free = None
rank_of (Braking r n) = r
rank_of (Held r p) = r
rank_of Cancelled = A

-- its number
abbrev pub level_of : Stop → ℕ
level_of s = rank_number (rank_of s)

-- "if above the rank"
abbrev pub outranks : Rank → Stop → Bool
outranks strongest s = ltb (level_of s) (rank_number strongest)

-- "entered with its count from data 29-32 (0 for A), not held"
abbrev pub entered_of : List ℤ → Rank → Stop
entered_of d r = Braking r (time_of d r)

-- "else the count falls by one. No count falls below 0"
abbrev pub counted_of : Stop → Stop
counted_of Free = Free
counted_of (Braking r n) = Braking r (n - 1)
counted_of (Held r p) = Held r p
counted_of Cancelled = Cancelled

-- "In the first cycle where the count is 0, entry included, C, D and E are held with the position as reference"
abbrev pub held_at : ℤ → Rank → ℕ → Stop
held_at position r n = cond (eqb n 0) (Held r position) (Braking r n)

-- where B becomes A: at count 0; "B also becomes A where |d| × 60 < datum 33 × T"
abbrev pub ends_of : Bool → ℕ → Bool
ends_of slow n = eqb n 0 || slow

-- "and B becomes A"
abbrev pub braked_at : Bool → ℕ → Stop
braked_at slow n = cond (ends_of slow n) Cancelled (Braking B n)

-- a stop of rank r with n cycles left
abbrev pub at_count : Bool → ℤ → Rank → ℕ → Stop
at_count slow position None n = Free
at_count slow position E n = held_at position E n
at_count slow position D n = held_at position D n
at_count slow position C n = held_at position C n
at_count slow position B n = braked_at slow n
at_count slow position A n = Cancelled

-- "The reference then stays while the hold lasts"
abbrev pub settled_of : Bool → ℤ → Stop → Stop
settled_of slow position Free = Free
settled_of slow position (Braking r n) = at_count slow position r n
settled_of slow position (Held r q) = Held r q
settled_of slow position Cancelled = Cancelled

-- "Acknowledged and no fresh cause: rank 0, not held"; "Else the strongest cause, if above the rank, is entered"; "else the count falls"
unfoldable pub stop_next : List ℤ → Bool → Rank → Bool → ℤ → Stop → Stop
stop_next d clears strongest slow position s =
    cond clears Free
    (settled_of slow position (cond (outranks strongest s) (entered_of d strongest) (counted_of s)))

-- a stop is entered: a cause outranks the standing one and no acknowledgement clears it
abbrev pub enters_of : Bool → Rank → Stop → Bool
enters_of clears strongest s = not clears && outranks strongest s
