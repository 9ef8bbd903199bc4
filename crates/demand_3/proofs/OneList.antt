-- Where nothing is committed the list in force is the first one and the history is its own, so that the bounds are by the one list. Assumes nothing.
use Prim.Native.Nat.{ℕ, zero, suc}
use mathlib.Core.List.{List, [], ◌∷◌, ◌++◌}
use mathlib.Core.Path.{◌≡◌, refl, ap, ◌∙◌, subst}
use native.Mathlib.Omega.{arith}
use Rattle.machine_data.specs.declared.MachineData.{MachineData}
use Rattle.machine_data.specs.Data.{number_of}
use Rattle.runs.specs.Running.{All}
use Rattle.list.specs.Reading.{read_list}
use Rattle.state.specs.declared.State.{State}
use Rattle.state.specs.declared.Given.{Given}
use Rattle.channel.specs.Cycle.{no_list, next}
use Rattle.demand_3.specs.Calls.{Call, single, logged, asks, commits}
use Rattle.demand_3.specs.History.{cycles_of, as_cycles, Event, pending_behind, events_of, commits_at, all_cycles, all_commits, cycle_at, last_of, all_committed, list_in, before, history}
use Rattle.demand_3.specs.Claims.{Claims}
use Rattle.demand_3.specs.Claims as C
use Rattle.demand_3.specs.OneList.{NoCommit, never, ByOneList, OneList}
use Rattle.demand_3.proofs.Demand3.{demand}

pub one_list : (m : MachineData) (n : ℕ) → list_in m never n ≡ m
unfolding list_in last_of
one_list m zero = refl
one_list m (suc n) = one_list m n

pub one_history : (m : MachineData) (cs : ℕ → Given) (n : ℕ) → before m never cs n ≡ history m cs n
unfolding before history all_committed
one_history m cs zero = refl
one_history m cs (suc n) = ap (λ l. next l (before m never cs n) (cs n)) (one_list m n) ∙ ap (λ s. next m s (cs n)) (one_history m cs n)

-- so what is claimed of both holds of the one list and its history
pub of_one_list : (m : MachineData) (cs : ℕ → Given) (P : (ℕ → MachineData) → (ℕ → State) → Type 0) → P (list_in m never) (before m never cs) →
    P (λ n. m) (history m cs)
of_one_list m cs P p =
    let list_at : list_in m never ≡ (λ n. m) = λ i n. one_list m n i in
    let state-at : before m never cs ≡ history m cs = λ i n. one_history m cs n i in
    subst (P (λ n. m)) state-at (subst (λ L. P L (before m never cs)) list_at p)

-- ---- the bounds, from the claims of the one list

module _ (m : MachineData) (cs : ℕ → Given) (size : ℕ) (channel device : ℕ → ℕ) where
  by_one_list : Claims (λ n. m) (history m cs) cs never size channel device → ByOneList m cs size channel device
  by_one_list c =
      record {
        claims = c;
        held_in_time = λ n k r l a b e i u. c.held_in_time n k n m r l a b e C.in_force i u;
        moved_off = λ n k l t i u. c.moved_off n k n m l t C.in_force i u;
        differing_off = λ n k l t i a u. c.differing_off n k n _ m m l t C.in_force C.in_force i a u;
        binds = λ n l u x q. c.binds n (number_of m.values 27) l u (C.in_force (omega arith)) m x q;
      }

  as_one_list : (committing : ℕ → List MachineData) → ((n : ℕ) → committing n ≡ []) →
      Claims (list_in m committing) (before m committing cs) cs committing size channel device → Claims (λ n. m) (history m cs) cs never size channel device
  as_one_list committing none c =
      let none-at : committing ≡ never = λ i n. none n i in
      of_one_list m cs (λ L S. Claims L S cs never size channel device)
      (subst (λ k. Claims (list_in m k) (before m k cs) cs k size channel device) none-at c)

-- ---- calls that commit nothing

behind_cycles : (gs : List Given) (es : List Event) → ((n : ℕ) → commits_at es n ≡ []) → (n : ℕ) → commits_at (as_cycles gs ++ es) n ≡ []
unfolding as_cycles commits_at
behind_cycles [] es h n = h n
behind_cycles (g ∷ gs) es h zero = refl
behind_cycles (g ∷ gs) es h (suc n) = behind_cycles gs es h n

uncommitted : (p : MachineData) (xs : List Call) → All NoCommit xs → (n : ℕ) → commits_at (events_of p xs) n ≡ []
unfolding events_of commits_at
uncommitted p [] h n = refl
uncommitted p (single g other ∷ xs) h n = behind_cycles (cycles_of (single g other)) _ (uncommitted (pending_behind p (single g other)) xs h.1) n
uncommitted p (logged s o words out ∷ xs) h n =
    behind_cycles (cycles_of (logged s o words out)) _ (uncommitted (pending_behind p (logged s o words out)) xs h.1) n
uncommitted p (asks words r o ∷ xs) h n = uncommitted (read_list words).list xs h.1 n
uncommitted p (commits ∷ xs) h n = absurd h.0

pub by_the_one_list : OneList
by_the_one_list s n e calls none given a =
    let m = (read_list s).list in
    let cs = cycle_at (all_cycles calls) in
    by_one_list m cs _ _ _ (as_one_list m cs _ _ _ (all_commits calls) (uncommitted no_list calls none) (demand m calls given a).1)
