-- Cycles and commits, and what was given in the cycles: as a list that leads from one list and state to another, and from there by number, as the history has
-- them. By induction on the events. Assumes nothing.
use Prim.Native.Nat.{ℕ, zero, suc, ◌<◌}
use mathlib.Core.List.{List, [], ◌∷◌, ◌++◌}
use mathlib.Core.Path.{◌≡◌, refl, sym, ap, ◌∙◌, subst}
use native.Mathlib.Omega.{arith}
use lib.ListN.{get_or, length}
use Rattle.machine_data.specs.declared.MachineData.{MachineData}
use Rattle.state.specs.declared.State.{State}
use Rattle.state.specs.declared.Given.{Given}
use Rattle.state.specs.State.{fresh_state}
use Rattle.commit.specs.Commit.{committed}
use Rattle.channel.specs.Cycle.{next}
use Rattle.channel.specs.Word.{word}
use Rattle.demand_3.specs.Calls.{Words}
use Rattle.demand_3.specs.History.{Event, cycle, commit, cycles_in, commits_at, cycle_at, last_of, all_committed, list_in, before}
use Rattle.demand_3.proofs.OfDevice.{Over}

pub record Gave (m : MachineData) (s : State) (g : Given) (w : Words) : Type 0 where
  pub word_is : w.channel ≡ word m s g
  pub over : Over w.channel w.device

-- events that lead from one list and state to another, and the words given in their cycles
pub data Trace : MachineData → State → List Event → List Words → MachineData → State → Type 0 where
  done : {m : MachineData} {s : State} → Trace m s [] [] m s
  step : {m l : MachineData} {s t : State} {g : Given} {w : Words} {es : List Event} {ws : List Words} → Gave m s g w → Trace m (next m s g) es ws l t →
      Trace m s (cycle g ∷ es) (w ∷ ws) l t
  take : {m c l : MachineData} {s t : State} {es : List Event} {ws : List Words} → Trace c (committed c s) es ws l t → Trace m s (commit c ∷ es) ws l t

pub trace_append : {k m l : MachineData} {s t u : State} {es fs : List Event} {ws vs : List Words} → Trace k s es ws m t → Trace m t fs vs l u →
    Trace k s (es ++ fs) (ws ++ vs) l u
trace_append done r = r
trace_append (step g q) r = step g (trace_append q r)
trace_append (take q) r = take (trace_append q r)

-- ---- by number

-- the state that cycle n finds, from a list m and a state s on
from : MachineData → State → (ℕ → List MachineData) → (ℕ → Given) → ℕ → State
from m s c cs zero = all_committed (c 0) s
from m s c cs (suc n) = all_committed (c (suc n)) (next (list_in m c n) (from m s c cs n) (cs n))

from_fresh : (m : MachineData) (c : ℕ → List MachineData) (cs : ℕ → Given) (n : ℕ) → from m fresh_state c cs n ≡ before m c cs n
unfolding from before
from_fresh m c cs zero = refl
from_fresh m c cs (suc n) = ap (λ x. all_committed (c (suc n)) (next (list_in m c n) x (cs n))) (from_fresh m c cs n)

-- behind the first cycle, before which nothing is committed
module _ (m : MachineData) (s : State) (g : Given) (es : List Event) where
  abbrev c : ℕ → List MachineData
  c = commits_at (cycle g ∷ es)

  list_behind : (n : ℕ) → list_in m c (suc n) ≡ list_in m (commits_at es) n
  unfolding list_in commits_at last_of
  list_behind zero = refl
  list_behind (suc n) = ap (λ l. last_of l (commits_at es (suc n))) (list_behind n)

  from_behind : (cs : ℕ → Given) (n : ℕ) → from m s c cs (suc n) ≡ from m (next m s (cs 0)) (commits_at es) (λ i. cs (suc i)) n
  unfolding from list_in commits_at last_of all_committed
  from_behind cs zero = refl
  from_behind cs (suc n) =
      ap (λ l. all_committed (commits_at es (suc n)) (next l (from m s c cs (suc n)) (cs (suc n)))) (list_behind n)
      ∙ ap (λ x. all_committed (commits_at es (suc n)) (next (list_in m (commits_at es) n) x (cs (suc n)))) (from_behind cs n)

-- behind a commit
module _ (m : MachineData) (s : State) (l : MachineData) (es : List Event) where
  abbrev k : ℕ → List MachineData
  k = commits_at (commit l ∷ es)

  list_committed : (n : ℕ) → list_in m k n ≡ list_in l (commits_at es) n
  unfolding list_in commits_at last_of
  list_committed zero = refl
  list_committed (suc n) = ap (λ x. last_of x (commits_at es (suc n))) (list_committed n)

  from_committed : (cs : ℕ → Given) (n : ℕ) → from m s k cs n ≡ from l (committed l s) (commits_at es) cs n
  unfolding from list_in commits_at last_of all_committed
  from_committed cs zero = refl
  from_committed cs (suc n) =
      ap (λ x. all_committed (commits_at es (suc n)) (next x (from m s k cs n) (cs n))) (list_committed n)
      ∙ ap (λ x. all_committed (commits_at es (suc n)) (next (list_in l (commits_at es) n) x (cs n))) (from_committed cs n)

-- what was given in cycle n
abbrev GaveIn : MachineData → State → List Event → ℕ → Words → Type 0
GaveIn m s es n w = Gave (list_in m (commits_at es) n) (from m s (commits_at es) (cycle_at (cycles_in es)) n) (cycle_at (cycles_in es) n) w

trace_from : {m l : MachineData} {s t : State} {es : List Event} {ws : List Words} → Trace m s es ws l t → (w : Words) (n : ℕ) → n < length (cycles_in es) →
    GaveIn m s es n (get_or ws n w)
unfolding from list_in commits_at last_of all_committed cycles_in
trace_from done w n h = absurd (omega arith)
trace_from (step a r) w zero h = a
trace_from {m} (step {s} {g = g} {es = es} {ws = ws} a r) w (suc n) h =
    let cs = cycle_at (g ∷ cycles_in es) in
    subst (λ l. Gave l (from m s (commits_at (cycle g ∷ es)) cs (suc n)) (cycle_at (cycles_in es) n) (get_or ws n w)) (sym (list_behind m s g es n))
    (subst (λ x. Gave (list_in m (commits_at es) n) x (cycle_at (cycles_in es) n) (get_or ws n w)) (sym (from_behind m s g es cs n)) (trace_from r w n (omega arith)))
trace_from {m} (take {c = c} {s = s} {es = es} {ws = ws} r) w n h =
    let cs = cycle_at (cycles_in es) in
    subst (λ l. Gave l (from m s (commits_at (commit c ∷ es)) cs n) (cs n) (get_or ws n w)) (sym (list_committed m s c es n))
    (subst (λ x. Gave (list_in c (commits_at es) n) x (cs n) (get_or ws n w)) (sym (from_committed m s c es cs n)) (trace_from r w n h))

pub trace_length : {m l : MachineData} {s t : State} {es : List Event} {ws : List Words} → Trace m s es ws l t → length ws ≡ length (cycles_in es)
unfolding cycles_in
trace_length done = refl
trace_length (step a r) = ap suc (trace_length r)
trace_length (take r) = trace_length r

pub trace_at : {m l : MachineData} {t : State} {es : List Event} {ws : List Words} → Trace m fresh_state es ws l t → (w : Words) (n : ℕ) →
    n < length (cycles_in es) → Gave (list_in m (commits_at es) n) (before m (commits_at es) (cycle_at (cycles_in es)) n) (cycle_at (cycles_in es) n) (get_or ws n w)
trace_at {m} {es = es} {ws = ws} r w n h =
    subst (λ x. Gave (list_in m (commits_at es) n) x (cycle_at (cycles_in es) n) (get_or ws n w)) (from_fresh m (commits_at es) (cycle_at (cycles_in es)) n)
    (trace_from r w n h)
