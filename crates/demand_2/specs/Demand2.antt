-- Demand 2, of the stops, in the client's words: "A stop is entered if and only if a cause outranks the standing stop and no acknowledgement clears it; apart
-- from B becoming A the rank changes in no other way."
--
-- How to read this file. It ends with `Demand2`, the theorem's statement, proved in proofs/Demand2.antt of every cycle: any data, any state before it and
-- anything given, usable or not. It speaks of the rows of the cycle's table that stand, of the rank before the cycle and of the rank after it.
use Rattle.std.specs.Prelude.{ℕ, ◌<◌, ◌≤◌, Bool, true, false, cond, ◌&&◌, ◌⊎◌, ◌↔◌, ◌≡◌, T, eqb}
use mathlib.Core.List.{Memᴰ}
use Rattle.machine_data.specs.declared.MachineData.{MachineData}
use Rattle.speed.specs.Speed.{slower}
use Rattle.rank.specs.declared.Rank.{Rank}
use Rattle.rank.specs.declared.Rank.TheVariants.{None}
use Rattle.stop.specs.declared.Stop.{Stop}
use Rattle.stop.specs.declared.Stop.TheVariants.{Free, Braking, Held, Cancelled}
use Rattle.rank.specs.Rank.{rank_number}
use Rattle.stop.specs.Stop.{level_of, entered_of, counted_of, ends_of}
use Rattle.causes.specs.declared.Cause.{Cause}
use Rattle.state.specs.declared.State.{State}
use Rattle.state.specs.declared.Given.{Given}
use Rattle.judge.specs.Causes.{step_in, rows_of}
use Rattle.channel.specs.Cycle.{entered_in, next}

-- B with its count at 0, or where the axis is slow
abbrev pub becomes_a : Bool → Stop → Bool
becomes_a slow Free = false
becomes_a slow (Braking r n) = eqb (rank_number r) 4 && ends_of slow n
becomes_a slow (Held r p) = false
becomes_a slow Cancelled = false

module _ (m : MachineData) (s : State) (g : Given) where
  -- the rank before the cycle, and after it
  abbrev pub rank_before : ℕ
  rank_before = level_of s.stop

  abbrev pub rank_after : ℕ
  rank_after = level_of (next m s g).stop

  -- a cause of the cycle's table, and it stands
  pub record StandingRow (c : Cause) : Type 0 where
    pub row : Memᴰ c (rows_of m s g)
    pub stands : c.stands ≡ true

  -- "a cause outranks the standing stop"
  abbrev pub Outranked : Type 0
  Outranked = (c : Cause) × StandingRow c × (rank_before < rank_number c.rank)

  -- "Acknowledged and no fresh cause"; "All but 13 are fresh"
  abbrev pub Clears : Type 0
  Clears = (g.acknowledged ≡ true) × ((c : Cause) → StandingRow c → c.code ≡ 13)

  -- the rank of the stop that is entered, none where none is
  abbrev pub entered : Rank
  entered = entered_in m s g

  abbrev pub Enters : Type 0
  Enters = entered ≡ None → ⊥

  -- "the strongest cause": one that stands has rank r, and none that stands has a greater one
  pub record Strongest (r : Rank) : Type 0 where
    pub one : (c : Cause) × StandingRow c × (r ≡ c.rank)
    pub greatest : (c : Cause) → StandingRow c → rank_number c.rank ≤ rank_number r

  -- "B becomes A" in this cycle, in which x is the stop that is entered, or the standing one with its count a cycle less
  abbrev pub BecomesA : Stop → Type 0
  BecomesA x = T (becomes_a (slower m.values (step_in m s g) 33) x)

  -- the rank of x, A's where B becomes A
  abbrev pub settled_rank : Stop → ℕ
  settled_rank x = cond (becomes_a (slower m.values (step_in m s g) 33) x) 5 (level_of x)

  pub record Demand2 : Type 0 where
    -- "A stop is entered if and only if a cause outranks the standing stop and no acknowledgement clears it"
    pub entered_iff : Enters ↔ (Outranked × (Clears → ⊥))
    -- it is the strongest cause's
    pub entered_strongest : Enters → Strongest entered
    -- the rank after a cycle that clears, after one that enters a stop, and after any other
    pub after_clear : Clears → rank_after ≡ 0
    pub after_entry : Enters → rank_after ≡ settled_rank (entered_of m.values entered)
    pub after_other : (Clears → ⊥) → (Enters → ⊥) → rank_after ≡ settled_rank (counted_of s.stop)
    -- "apart from B becoming A the rank changes in no other way": it rises where a stop is entered or the standing B becomes A, and falls where it is cleared
    pub rises_iff : (rank_before < rank_after) ↔ (Enters ⊎ ((Clears → ⊥) × BecomesA (counted_of s.stop)))
    pub falls_cleared : rank_after < rank_before → Clears
