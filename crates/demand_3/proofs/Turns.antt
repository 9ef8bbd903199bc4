-- The bounds over numbered cycles, said of their states, whatever passes between two of them: each by the number that comes a step nearer in every cycle that
-- does not clear, and that nothing between two cycles takes further from its end; a list that is committed starts a bound of its own in the next cycle.
-- Assumes nothing.
use Prim.Native.Nat.{ℕ, zero, suc, ◌+◌, ◌*◌, ◌-◌, ◌≤◌, ◌<◌, max}
use mathlib.Core.Bool.{Bool, true, false}
use mathlib.Core.List.{List, Memᴰ}
use mathlib.Core.Logic.{◌⊎◌}
use mathlib.Core.Path.{◌≡◌, refl, sym, ◌∙◌, subst}
use native.Mathlib.Omega.{arith}
use lib.Dec.{T}
use Rattle.machine_data.specs.declared.MachineData.{MachineData}
use Rattle.machine_data.specs.Data.{number_of}
use Rattle.usable_inputs.specs.Usable.{usable_of}
use Rattle.selection.specs.declared.Choice.{Choice}
use Rattle.rank.specs.declared.Rank.{Rank}
use Rattle.rank.specs.declared.Rank.TheVariants.{B}
use Rattle.rank.specs.Rank.{rank_number, time_of}
use Rattle.stop.specs.Stop.{rank_of, level_of}
use Rattle.state.specs.declared.State.{State}
use Rattle.state.specs.declared.Given.{Given}
use Rattle.channel.specs.Cycle.{strongest_in, clears_in}
use Rattle.channel_word.specs.Word.{is_held}
use Rattle.demand_2.proofs.Demand2.{no_weaker, cause_met}
use Rattle.demand_3.specs.Claims.{state_after, cause_in, Stands, Clears, Uncleared, entered, FaultOn, ActiveIn, Bounds}
use Rattle.demand_3.specs.Claims.Bounds.{in_force, cut_by}
use Rattle.laws.proofs.Bools.{is_false}
use Rattle.demand_3.proofs.OverTime.{from_on, reached}
use Rattle.demand_3.proofs.OfStop.{time_most, b_time, a_time}
use Rattle.demand_3.proofs.OfComparison.{fault_time_most}
use Rattle.demand_3.proofs.Stops.{urgency, Grown, held_at_last, off_at_last, urgent}
use Rattle.demand_3.proofs.Cycles.{Ready, Sound, sound_next, unusable_level, grown_next, alarm, alarm_on, alarm_ends, Alarmed, alarmed_next, on_10, cause_rank, not_cleared, rank_1, rank_9, entered_is}

-- ---- what may pass between two cycles

-- a choice keeps its effective selection, and its count is no greater and runs on if it ran
pub record Waits (x y : Choice) : Type 0 where
  pub same_chosen : y.chosen ≡ x.chosen
  pub same_effective : y.effective ≡ x.effective
  pub no_longer : y.left ≤ x.left
  pub runs_on : y.left ≡ 0 → x.left ≡ 0

-- s is what a cycle leaves, and t what the next one finds: nothing comes further from its end
pub record Passes (s t : State) : Type 0 where
  pub urgent : urgency s.stop ≤ urgency t.stop
  pub alarming : alarm s ≤ alarm t
  pub same_level : level_of t.stop ≡ level_of s.stop
  pub same_fault : t.kept.fault.on ≡ s.kept.fault.on
  pub choice : Waits s.kept.choice t.kept.choice

-- nothing passes
pub unchanged : (s : State) → Passes s s
unchanged s =
    record {
      urgent = omega arith;
      alarming = omega arith;
      same_level = refl;
      same_fault = refl;
      choice = record { same_chosen = refl; same_effective = refl; no_longer = omega arith; runs_on = λ e. e };
    }

-- one thing behind the other
pub passes_on : {s t u : State} → Passes s t → Passes t u → Passes s u
passes_on p q =
    record {
      urgent = omega (arith, p.urgent, q.urgent);
      alarming = omega (arith, p.alarming, q.alarming);
      same_level = q.same_level ∙ p.same_level;
      same_fault = q.same_fault ∙ p.same_fault;
      choice =
          record {
            same_chosen = q.choice.same_chosen ∙ p.choice.same_chosen;
            same_effective = q.choice.same_effective ∙ p.choice.same_effective;
            no_longer = omega (arith, p.choice.no_longer, q.choice.no_longer);
            runs_on = λ e. p.choice.runs_on (q.choice.runs_on e);
          };
    }

-- a commit of m is among it: what runs is due in the time of m
pub record Cuts (m : MachineData) (s t : State) : Type 0 where
  pub due : (r : Rank) → rank_number r ≤ level_of s.stop → 2000 * rank_number r ≤ urgency t.stop + time_of m.values r
  pub expires : T s.kept.fault.on → 2000 ≤ alarm t + number_of m.values 34
  pub delay : t.kept.choice.left ≤ max 1 (number_of m.values 27)

-- before other things, and behind them
pub cut_first : {m : MachineData} {s t u : State} → Cuts m s t → Passes t u → Cuts m s u
cut_first c p =
    record {
      due = λ r h. omega (arith, c.due r h, p.urgent);
      expires = λ o. omega (arith, c.expires o, p.alarming);
      delay = omega (arith, c.delay, p.choice.no_longer);
    }

pub cut_later : {m : MachineData} {s t u : State} → Passes s t → Cuts m t u → Cuts m s u
cut_later p c =
    record {
      due = λ r h. c.due r (omega (arith, p.same_level));
      expires = λ o. c.expires (subst T (sym p.same_fault) o);
      delay = c.delay;
    }

pub record Goes (L : ℕ → MachineData) (S : ℕ → State) (G : ℕ → Given) (commits : ℕ → List MachineData) : Type 0 where
  pub none_chosen : (S 0).kept.choice.chosen ≡ false
  pub ready : (n : ℕ) → Ready (L n) (S n)
  pub passes : (n : ℕ) → Passes (state_after L S G n) (S (suc n))
  pub cuts : (n : ℕ) (m : MachineData) → Memᴰ m (commits (suc n)) → Cuts m (state_after L S G n) (S (suc n))

module _ (L : ℕ → MachineData) (S : ℕ → State) (G : ℕ → Given) (commits : ℕ → List MachineData) (goes : Goes L S G commits) where
  abbrev after : ℕ → State
  after n = state_after L S G n

  -- the rank that cycle n leaves, and its number
  abbrev rank : ℕ → Rank
  rank n = rank_of (after n).stop

  abbrev pub level : ℕ → ℕ
  level n = level_of (after n).stop

  abbrev clears : ℕ → Bool
  clears n = clears_in (L n) (S n) (G n)

  abbrev Calm : ℕ → Type 0
  Calm n = Clears L S G n → ⊥

  abbrev Quiet : ℕ → ℕ → Type 0
  Quiet n m = Uncleared L S G n m

  abbrev Bound : ℕ → ℕ → MachineData → Type 0
  Bound n i l = Bounds L S G commits n i l

  pub later : {n i : ℕ} {l : MachineData} → Bound n i l → n ≤ i
  later in_force = omega arith
  later (cut_by p q) = omega arith

  pub sound_at : (n : ℕ) → Sound (L n) (after n)
  sound_at n = sound_next (L n) (S n) (G n) (goes.ready n)

  -- ---- a cycle that does not clear

  grown_at : (n : ℕ) → clears n ≡ false → Grown (L n).values (strongest_in (L n) (S n) (G n)) (S n).stop (after n).stop
  grown_at n e = grown_next (L n) (S n) (G n) e

  alarmed_at : (n : ℕ) → clears n ≡ false → Alarmed (L n) (S n) (G n) (after n)
  alarmed_at n e = alarmed_next (L n) (S n) (G n) e

  -- a fresh cause is met in its own cycle
  pub met_at : (n x : ℕ) → (x ≡ 13 → ⊥) → Stands L S G n x → rank_number (cause_in L S G n x).rank ≤ level n
  met_at n x h t = omega (arith, cause_rank (L n) (S n) (G n) x t, cause_met (L n) (S n) (G n) (not_cleared (L n) (S n) (G n) x h t))

  no_lower : (n : ℕ) → clears (suc n) ≡ false → level n ≤ level (suc n)
  no_lower n e = omega (arith, no_weaker (L (suc n)) (S (suc n)) (G (suc n)) e, (goes.passes n).same_level)

  pub falls_cleared : (n : ℕ) → level (suc n) < level n → Clears L S G (suc n)
  falls_cleared n h = go (clears (suc n)) refl
    where
      go : (b : Bool) → clears (suc n) ≡ b → T b
      go true e = tt
      go false e = omega (arith, no_lower n e)

  -- ---- what stays until a cycle clears

  level_kept : (n r : ℕ) → r ≤ level n → (m : ℕ) → n ≤ m → Quiet n m → r ≤ level m
  level_kept n r h =
      from_on (λ m. Quiet n m → r ≤ level m) n (λ _. h)
      (λ m l p u. omega (arith, p (λ i a b. u i a (omega arith)), no_lower m (is_false _ (u (suc m) (omega arith) (omega arith)))))

  on_kept : (n : ℕ) → FaultOn L S G n → (m : ℕ) → n ≤ m → Quiet n m → FaultOn L S G m
  on_kept n h =
      from_on (λ m. Quiet n m → FaultOn L S G m) n (λ _. h)
      (λ m l p u.
      (alarmed_at (suc m) (is_false _ (u (suc m) (omega arith) (omega arith)))).stays
      (subst T (sym (goes.passes m).same_fault) (p (λ i a b. u i a (omega arith)))))

  -- ---- the bounds over time

  -- a stop that is due in t cycles has come in t cycles
  due : (r n t : ℕ) → r ≤ 5 → t ≤ 1000 → 2000 * r ≤ urgency (after n).stop + t → (m : ℕ) → n + t ≤ m → Quiet n m → 2000 * r ≤ urgency (after m).stop
  due r n t a b h m l u =
      reached Calm (2000 * r) (λ i. urgency (after i).stop) n t b h
      (λ i j c e k. (grown_at (suc i) (is_false _ c)).sooner r j a e (omega (arith, (goes.passes i).urgent))) m l (λ i p q. u i p (omega arith))

  -- the same of a stop that stands in n, from a commit behind n on
  due_cut : (r : Rank) (n i : ℕ) (l : MachineData) → rank_number r ≤ 5 → rank_number r ≤ level n → n < i → Memᴰ l (commits i) →
      (m : ℕ) → i + time_of l.values r ≤ m → Quiet n m → 2000 * rank_number r ≤ urgency (after m).stop
  due_cut r n zero l a h p e m k u = absurd (omega arith)
  due_cut r n (suc i) l a h p e m k u =
      let t = time_most l.values r in
      let x = level_kept n (rank_number r) h i (omega arith) (λ j b q. u j b (omega arith)) in
      let y = (goes.cuts i l e).due r x in
      let g = grown_at (suc i) (is_false _ (u (suc i) (omega arith) (omega arith))) in
      let z = g.sooner (rank_number r) (time_of l.values r - 1) a (omega arith) (omega arith) in
      due (rank_number r) (suc i) (time_of l.values r) a t (omega arith) m k (λ j b q. u j (omega arith) q)

  pub held_in_time : (n m i : ℕ) (l : MachineData) (r : Rank) → 1 ≤ rank_number r → rank_number r ≤ 3 → entered L S G n ≡ r → Bound n i l →
      i + time_of l.values r ≤ m → Quiet n m → ((level m ≡ rank_number r) × T (is_held (after m).stop)) ⊎ (rank_number r < level m)
  held_in_time n m i l r a b e c k u =
      let x = entered_is (L n) (S n) (G n) r a e in
      held_at_last (sound_at m).formed (rank_number r) a (omega arith)
      (go (rw x.is at ((grown_at n x.uncleared).entered (rw x.is x.above))) (rw x.is at (cause_met (L n) (S n) (G n) x.uncleared)) c k)
    where
      go : {i : ℕ} {l : MachineData} → 2000 * rank_number r ≤ urgency (after n).stop + time_of (L n).values r → rank_number r ≤ level n → Bound n i l →
          i + time_of l.values r ≤ m → 2000 * rank_number r ≤ urgency (after m).stop
      go h met in_force k = due (rank_number r) n (time_of (L n).values r) (omega arith) (time_most (L n).values r) h m k u
      go h met (cut_by {i = i} {m = l} p q) k = due_cut r n i l (omega arith) met p q m k u

  -- "If cause 1 stands"
  pub unusable_off : (n m : ℕ) → Stands L S G n 1 → n ≤ m → Quiet n m → level m ≡ 5
  unusable_off n m t l u =
      let h : 5 ≤ level n = omega (arith, rank_1 (L n) (S n) (G n) t, met_at n 1 (λ e. omega arith) t) in
      let w = urgent (sound_at n).formed in
      off_at_last (sound_at m).formed (due 4 n 0 (omega arith) (omega arith) (omega (arith, a_time (L n).values (rank n) h)) m (omega arith) u)

  -- B or A is A in its time
  pub braking_ends : (n m i : ℕ) (l : MachineData) → 4 ≤ level n → Bound n i l → i + number_of l.values 32 ≤ m → Quiet n m → level m ≡ 5
  braking_ends n m i l h c k u = off_at_last (sound_at m).formed (go c k)
    where
      go : {i : ℕ} {l : MachineData} → Bound n i l → i + number_of l.values 32 ≤ m → 8000 ≤ urgency (after m).stop
      go in_force k =
          let w = urgent (sound_at n).formed in
          let t = time_of (L n).values (rank n) in
          due 4 n t (omega arith) (time_most (L n).values (rank n)) (omega arith) m (omega (arith, b_time (L n).values (rank n) h)) u
      go (cut_by {i = i} {m = l} p q) k = due_cut B n i l (omega arith) h p q m k u

  -- "If cause 9 stands"
  pub moved_at_once : (n : ℕ) → Stands L S G n 9 → 4 ≤ level n
  moved_at_once n t = omega (arith, rank_9 (L n) (S n) (G n) t, met_at n 9 (λ e. omega arith) t)

  -- "If cause 10 stands": F is on, and comes to its end, then, where one is active, B to its own
  pub differing_on : (n : ℕ) → Stands L S G n 10 → FaultOn L S G n
  differing_on n t = on_10 (L n) (S n) (G n) t

  expires : (n t : ℕ) → t ≤ 1000 → 2000 ≤ alarm (after n) + t → (m : ℕ) → n + t ≤ m → Quiet n m → 2000 ≤ alarm (after m)
  expires n t b h =
      reached Calm 2000 (λ i. alarm (after i)) n t b h
      (λ i j c a k. (alarmed_at (suc i) (is_false _ c)).sooner j a (omega (arith, (goes.passes i).alarming)))

  alarm_reached : (n k i : ℕ) (l : MachineData) → FaultOn L S G n → Bound n i l → i + number_of l.values 34 ≤ k → Quiet n k → 2000 ≤ alarm (after k)
  alarm_reached n k i l o c h u = go c h
    where
      go : {i : ℕ} {l : MachineData} → Bound n i l → i + number_of l.values 34 ≤ k → 2000 ≤ alarm (after k)
      go in_force h = expires n (number_of (L n).values 34) (fault_time_most (L n).values) (alarm_on (after n) _ o (sound_at n).left) k h u
      go (cut_by {i = zero} p q) h = absurd (omega arith)
      go (cut_by {i = suc i} {m = l} p q) h =
          let t = fault_time_most l.values in
          let x = (goes.cuts i l q).expires (on_kept n o i (omega arith) (λ j a b. u j a (omega arith))) in
          let y = (alarmed_at (suc i) (is_false _ (u (suc i) (omega arith) (omega arith)))).sooner (number_of l.values 34 - 1) (omega arith) (omega arith) in
          expires (suc i) (number_of l.values 34) t (omega arith) k h (λ j a b. u j (omega arith) b)

  pub ended_at_once : (n k i : ℕ) (l : MachineData) → FaultOn L S G n → Bound n i l → i + number_of l.values 34 ≤ k → ActiveIn L S G k → Quiet n k → 4 ≤ level k
  ended_at_once n k i l o c h a u = go (usable_of (L k) (G k).reading) refl
    where
      go : (b : Bool) → usable_of (L k) (G k).reading ≡ b → 4 ≤ level k
      go true e = alarm_ends (L k) (after k) (sound_at k) (a (subst T (sym e) tt)) (alarm_reached n k i l o c h u)
      go false e = omega (arith, unusable_level (L k) (S k) (G k) e)

  pub ended_off : (n k m i j : ℕ) (f b : MachineData) → FaultOn L S G n → Bound n i f → i + number_of f.values 34 ≤ k → ActiveIn L S G k →
      Bound k j b → j + number_of b.values 32 ≤ m → Quiet n m → level m ≡ 5
  ended_off n k m i j f b o c h a e l u =
      let p = later c in
      let q = later e in
      braking_ends k m j b (ended_at_once n k i f o c h a (λ x y z. u x y (omega arith))) e l (λ x y z. u x (omega arith) z)
