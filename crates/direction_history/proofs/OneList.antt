-- The same where nothing is committed, of one list and its own history. Assumes nothing.
use Rattle.std.specs.Prelude.{Some}
use Prim.Native.Nat.{ℕ, suc, ◌+◌, ◌≤◌}
use mathlib.Core.Logic.{◌↔◌}
use mathlib.Core.Path.{◌≡◌, refl, subst}
use native.Mathlib.Omega.{arith}
use lib.Dec.{T}
use lib.IntN.{ℤ}
use Rattle.machine_data.specs.declared.MachineData.{MachineData}
use Rattle.machine_data.specs.Data.{number_of}
use Rattle.runs.specs.Running.{Running}
use Rattle.direction.specs.declared.Sign.{Sign}
use Rattle.directions.specs.declared.Directions.{Directions}
use Rattle.directions.specs.Directions.{no_directions}
use Rattle.direction_laws.specs.Since.{bound}
use Rattle.state.specs.declared.Given.{Given}
use Rattle.demand_3.specs.History.{list_in, before, history}
use Rattle.demand_3.specs.Claims.{usable_in, state_after, Stands}
use Rattle.demand_3.specs.OneList.{never}
use Rattle.demand_3.proofs.OneList.{of_one_list}
use Rattle.direction_history.specs.Stands.{Directed, Undirected, of_sign, free_in, OversteppedIn, at_first, From}
use Rattle.direction_history.proofs.Stands.{cause_14, watch_runs, none_stands}

-- no run or watch stands before cycle 0, and nothing ends one
from_first : (n : ℕ) → From never 0 n
from_first n = record { begins = at_first; goes_on = λ k a b l e. absurd (elim e [ ]) }

-- counted from cycle 0 they are the cycles themselves
plain : ◌≡◌ {A = ℕ → ℕ} (λ i. 0 + i) (λ i. i)
plain = λ j i. number i j
  where
    number : (i : ℕ) → 0 + i ≡ i
    number i = omega arith

module _ (m : MachineData) (cs : ℕ → Given) (n : ℕ) where
  pub one_cause_14 : Stands (λ i. m) (history m cs) cs n 14 ↔ OversteppedIn (λ i. m) cs n
  one_cause_14 =
      of_one_list m cs (λ L S. Stands L S cs n 14 ↔ OversteppedIn L cs n)
      (subst (λ (f : ℕ → ℕ). Stands (list_in m never) (before m never cs) cs (f n) 14 ↔ OversteppedIn (λ i. list_in m never (f i)) (λ i. cs (f i)) n) plain
      (cause_14 m never cs 0 n (from_first n)))

  -- with the function and one delay in each list up to n
  abbrev OneDelay : (ℕ → MachineData) → Type 0
  OneDelay L = (k : ℕ) → k ≤ n → Directed (L k) × (number_of (L k).values 70 ≡ number_of m.values 70)

  -- the watch that directions leave stands where it runs
  abbrev WatchRunsIn : (ℕ → MachineData) → (ℕ → Given) → Sign → Directions → Type 0
  WatchRunsIn L G sign x = ((e : ℤ) × ((of_sign sign x).watch ≡ Some e)) ↔ Running (usable_in L G) (bound (free_in L G sign)) (number_of m.values 70) n

  pub one_watch_runs : Directed m → T (usable_in (λ i. m) cs n) → (sign : Sign) →
      WatchRunsIn (λ i. m) cs sign (history m cs (suc n)).kept.directions
  unfolding history
  one_watch_runs on u sign =
      of_one_list m cs (λ L S. OneDelay L → T (usable_in L cs n) → WatchRunsIn L cs sign (state_after L S cs n).kept.directions)
      (subst
      (λ (f : ℕ → ℕ). OneDelay (λ i. list_in m never (f i)) → T (usable_in (λ i. list_in m never (f i)) (λ i. cs (f i)) n) →
      WatchRunsIn (λ i. list_in m never (f i)) (λ i. cs (f i)) sign (state_after (list_in m never) (before m never cs) cs (f n)).kept.directions)
      plain (λ one v. watch_runs m never cs 0 n (from_first n) (number_of m.values 70) one v sign))
      (λ k h. (on, refl)) u

  pub one_none_stands : Undirected m → (history m cs n).kept.directions ≡ no_directions
  one_none_stands =
      of_one_list m cs (λ L S. Undirected (L n) → (S n).kept.directions ≡ no_directions) (λ off. (none_stands m never cs n off).0)
