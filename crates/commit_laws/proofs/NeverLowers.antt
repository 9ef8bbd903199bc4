-- "A commit never lowers a stop": by the cases of the stop and of the delay. Assumes nothing.
use Prim.Native.Nat.{ℕ, zero, suc, ◌≤◌, max}
use mathlib.Core.List.{List}
use mathlib.Core.Path.{◌≡◌, refl, ap}
use native.Mathlib.Omega.{arith}
use borrow.Author.Tests.{lt-ltb, le-ltb}
use lib.IntN.{ℤ}
use Rattle.machine_data.specs.declared.MachineData.{MachineData}
use Rattle.machine_data.specs.Data.{number_of}
use Rattle.rank.specs.declared.Rank.{Rank}
use Rattle.rank.specs.Rank.{time_of}
use Rattle.stop.specs.declared.Stop.{Stop}
use Rattle.stop.specs.declared.Stop.TheVariants.{Free, Braking, Held, Cancelled}
use Rattle.stop.specs.Stop.{rank_of}
use Rattle.channel_word.specs.Word.{is_held}
use Rattle.state.specs.declared.State.{State}
use Rattle.commit.specs.Commit.{cut_delay, cut_stop, committed}
use Rattle.commit_laws.specs.NeverLowers.{count_of, NeverLowers}

-- ---- the stop

record Cut (d : List ℤ) (s : Stop) : Type 0 where
  rank : rank_of (cut_stop d s) ≡ rank_of s
  held : is_held (cut_stop d s) ≡ is_held s
  no_greater : count_of (cut_stop d s) ≤ count_of s
  within : count_of (cut_stop d s) ≤ time_of d (rank_of (cut_stop d s))
  same : count_of s ≤ time_of d (rank_of s) → cut_stop d s ≡ s

cut : (d : List ℤ) (s : Stop) → Cut d s
cut d Free = record { rank = refl; held = refl; no_greater = omega arith; within = omega arith; same = λ h. refl }
cut d (Braking r n) =
    record {
      rank = refl;
      held = refl;
      no_greater = omega arith;
      within = omega arith;
      same = λ h. ap (Braking r) (omega arith);
    }
cut d (Held r p) = record { rank = refl; held = refl; no_greater = omega arith; within = omega arith; same = λ h. refl }
cut d Cancelled = record { rank = refl; held = refl; no_greater = omega arith; within = omega arith; same = λ h. refl }

cut_hold : (d : List ℤ) (s : Stop) (r : Rank) (p : ℤ) → s ≡ Held r p → cut_stop d s ≡ Held r p
cut_hold d s r p e = rw e refl

-- ---- the delay

record Delay (d : List ℤ) (n : ℕ) : Type 0 where
  no_greater : cut_delay d n ≤ n
  within : cut_delay d n ≤ max 1 (number_of d 27)
  runs : 1 ≤ n → 1 ≤ cut_delay d n
  same : n ≤ number_of d 27 → cut_delay d n ≡ n

delay : (d : List ℤ) (n : ℕ) → Delay d n
delay d zero = record { no_greater = omega arith; within = omega arith; runs = omega arith; same = λ h. refl }
delay d (suc n) = record { no_greater = omega arith; within = omega arith; runs = omega arith; same = omega arith }

-- ---- the whole state

pub never_lowers : (m : MachineData) (s : State) → NeverLowers m s (committed m s)
unfolding committed
never_lowers m s =
    let c = cut m.values s.stop in
    let w = delay m.values s.kept.choice.left in
    record {
      rank = c.rank;
      hold = cut_hold m.values s.stop;
      held = c.held;
      fault = refl;
      reference = refl;
      cams = refl;
      k_same = λ h. simp (lt-ltb s.k m.count h);
      k_from_0 = λ h. simp (le-ltb s.k m.count h);
      effective = refl;
      chosen = refl;
      nx = refl;
      differing = refl;
      previous = refl;
      directions_on = λ e. simp e;
      directions_off = λ e. simp e;
      stop_no_greater = c.no_greater;
      fault_no_greater = omega arith;
      delay_no_greater = w.no_greater;
      stop_within = c.within;
      fault_within = omega arith;
      delay_within = w.within;
      delay_runs = w.runs;
      stop_same = c.same;
      fault_same = omega arith;
      delay_same = w.same;
    }
