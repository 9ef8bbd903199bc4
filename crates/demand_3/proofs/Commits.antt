-- Commits, one or some behind each other: they leave every count within the new list, take no stop further from its end, and bring each count that runs
-- within its new datum. By cases on the stop and on F, and by what a commit leaves as it was. Assumes nothing.
use Prim.Native.Nat.{◌+◌, ◌*◌, ◌-◌, ◌≤◌, min}
use mathlib.Core.Bool.{Bool, true, false, cond}
use mathlib.Core.List.Memᴰ
use mathlib.Core.List.{List, [], ◌∷◌, Memᴰ}
use mathlib.Core.Logic.{◌⊎◌, inl, inr, by_cases}
use mathlib.Core.Path.{◌≡◌, refl, sym, ap, ◌∙◌, subst}
use native.Mathlib.Decide.{dec_lt}
use native.Mathlib.Omega.{arith}
use lib.IntN.{ℤ}
use Rattle.machine_data.specs.declared.MachineData.{MachineData}
use Rattle.machine_data.specs.Data.{number_of}
use Rattle.rank.specs.declared.Rank.{Rank}
use Rattle.rank.specs.Rank.{rank_number, time_of}
use Rattle.rank.proofs.Laws.{rank_le, number_injective}
use Rattle.stop.specs.declared.Stop.{Stop}
use Rattle.stop.specs.declared.Stop.TheVariants.{Free, Braking, Held, Cancelled}
use Rattle.stop.specs.Stop.{level_of}
use Rattle.fault.specs.declared.Fault.{Fault}
use Rattle.state.specs.declared.State.{State}
use Rattle.commit.specs.Commit.{cut_fault, cut_stop, committed}
use Rattle.commit_laws.specs.NeverLowers.{NeverLowers}
use Rattle.commit_laws.proofs.NeverLowers.{never_lowers}
use Rattle.demand_3.specs.History.{last_of, all_committed}
use Rattle.demand_3.proofs.OfStop.{time_most}
use Rattle.demand_3.proofs.OfComparison.{brightness}
use Rattle.demand_3.proofs.Stops.{urgency, Counting}
use Rattle.demand_3.proofs.Cycles.{Ready, alarm, alarm_on}
use Rattle.demand_3.proofs.Turns.{Passes, unchanged, passes_on, Cuts, cut_first, cut_later}

-- ---- the stop

cut_counting : (d : List ℤ) {e : List ℤ} {s : Stop} → Counting e s → Counting d (cut_stop d s)
cut_counting d Counting.free = Counting.free
cut_counting d (Counting.braking {r} {n} a b h) = Counting.braking {r = r} {n = min n (time_of d r)} a b (omega arith)
cut_counting d (Counting.held a b) = Counting.held a b
cut_counting d Counting.cancelled = Counting.cancelled

cut_urgent : (d : List ℤ) (s : Stop) → urgency s ≤ urgency (cut_stop d s)
unfolding urgency
cut_urgent d Free = omega arith
cut_urgent d (Braking r n) = omega arith
cut_urgent d (Held r p) = omega arith
cut_urgent d Cancelled = omega arith

-- a stop of rank r or above is due in the new time of r
cut_due : (d : List ℤ) (r : Rank) (s : Stop) → rank_number r ≤ level_of s → 2000 * rank_number r ≤ urgency (cut_stop d s) + time_of d r
unfolding urgency
cut_due d r Free h = omega arith
cut_due d r (Braking q n) h =
    by_cases (dec_lt (rank_number r) (rank_number q)) (λ l. omega (arith, time_most d q))
    (λ l. omega (arith, ap (time_of d) (number_injective q r (omega arith))))
cut_due d r (Held q p) h = omega arith
cut_due d r Cancelled h = omega (arith, rank_le r)

-- ---- F

cut_bright : (d : List ℤ) (f : Fault) → brightness f ≤ brightness (cut_fault d f)
unfolding brightness
cut_bright d f = go f.on
  where
    go : (b : Bool) → cond b (2000 - f.left) 0 ≤ cond b (2000 - min f.left (number_of d 34)) 0
    go true = omega arith
    go false = omega arith

-- ---- one commit

module _ (m : MachineData) (s : State) where
  abbrev lowers_not : NeverLowers m s (committed m s)
  lowers_not = never_lowers m s

  same_level : level_of (committed m s).stop ≡ level_of s.stop
  same_level = ap rank_number lowers_not.rank

  commit_alarm : alarm s ≤ alarm (committed m s)
  unfolding alarm committed
  commit_alarm = omega (arith, same_level, cut_bright m.values s.kept.fault)

  commit_passes : Passes s (committed m s)
  unfolding committed
  commit_passes =
      record {
        urgent = cut_urgent m.values s.stop;
        alarming = commit_alarm;
        same_level = same_level;
        same_fault = lowers_not.fault;
        choice =
            record {
              same_chosen = lowers_not.chosen;
              same_effective = lowers_not.effective;
              no_longer = lowers_not.delay_no_greater;
              runs_on = λ e. by_cases (dec_lt 0 s.kept.choice.left) (λ l. absurd (omega (arith, e, lowers_not.delay_runs l))) (λ l. omega (arith, l));
            };
      }

  commit_cuts : Cuts m s (committed m s)
  unfolding committed
  commit_cuts =
      record {
        due = λ r. cut_due m.values r s.stop;
        expires = λ o. alarm_on (committed m s) (number_of m.values 34) o lowers_not.fault_within;
        delay = lowers_not.delay_within;
      }

  commit_ready : {l : MachineData} → Ready l s → Ready m (committed m s)
  unfolding committed
  commit_ready q =
      record {
        counting = cut_counting m.values q.counting;
        left = lowers_not.fault_within;
        delay = lowers_not.delay_within;
        numbered = q.numbered;
      }

-- ---- commits one behind the other

pub all_ready : (ms : List MachineData) (l : MachineData) (s : State) → Ready l s → Ready (last_of l ms) (all_committed ms s)
unfolding all_committed last_of
all_ready [] l s q = q
all_ready (m ∷ ms) l s q = all_ready ms m (committed m s) (commit_ready m s q)

pub all_pass : (ms : List MachineData) (s : State) → Passes s (all_committed ms s)
unfolding all_committed
all_pass [] s = unchanged s
all_pass (m ∷ ms) s = passes_on (commit_passes m s) (all_pass ms (committed m s))

-- each of them cuts
pub all_cut : (m : MachineData) (ms : List MachineData) → Memᴰ m ms → (s : State) → Cuts m s (all_committed ms s)
unfolding all_committed
all_cut m [] e s = absurd (elim e [ ])
all_cut m (l ∷ ls) e s = go (Memᴰ.cases_cons e) (λ n. all_cut m ls n (committed l s))
  where
    go : (m ≡ l) ⊎ Memᴰ m ls → (Memᴰ m ls → Cuts m (committed l s) (all_committed ls (committed l s))) → Cuts m s (all_committed ls (committed l s))
    go (inl q) rest = cut_first (subst (λ x. Cuts x s (committed l s)) (sym q) (commit_cuts l s)) (all_pass ls (committed l s))
    go (inr n) rest = cut_later (commit_passes l s) (rest n)

-- what a commit keeps, all keep
pub all_keep : {X : Type 0} (f : State → X) → ((m : MachineData) (s : State) → f (committed m s) ≡ f s) → (ms : List MachineData) (s : State) →
    f (all_committed ms s) ≡ f s
unfolding all_committed
all_keep f h [] s = refl
all_keep f h (m ∷ ms) s = all_keep f h ms (committed m s) ∙ h m s
