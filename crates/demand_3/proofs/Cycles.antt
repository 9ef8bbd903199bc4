-- One cycle: what every state has before it and after it, and how near a cycle that does not clear brings the stop and F to their ends. By the cases of a
-- cycle: unusable, cleared or neither. Assumes nothing.
use Prim.Native.Nat.{ℕ, suc, ◌+◌, ◌*◌, ◌≤◌, ◌<◌, ◌/◌, max}
use mathlib.Core.Bool.{Bool, true, false, not, cond, ◌&&◌, ◌||◌}
use mathlib.Core.List.{List, [], ◌∷◌}
use mathlib.Core.Logic.{by_cases}
use mathlib.Core.Path.{◌≡◌, refl, ap}
use native.Mathlib.Decide.{dec_le}
use native.Mathlib.Omega.{arith}
use borrow.Author.Tests.{ltb-true}
use lib.Dec.{T}
use lib.IntN.{ℤ}
use Rattle.machine_data.specs.declared.MachineData.{MachineData}
use Rattle.machine_data.specs.Data.{number_of}
use Rattle.usable_inputs.specs.Usable.{usable_of}
use Rattle.selection.proofs.Effective.{effective_one_of}
use Rattle.rank.specs.declared.Rank.{Rank}
use Rattle.rank.specs.declared.Rank.TheVariants.{None, A}
use Rattle.rank.specs.Rank.{rank_number}
use Rattle.stop.specs.Stop.{level_of, outranks}
use Rattle.fault.specs.Fault.{expired, cleared_fault}
use Rattle.active.specs.Active.{active, fault_stops}
use Rattle.causes.specs.declared.Cause.{Cause}
use Rattle.causes.specs.Causes.{fresh_of, cause}
use Rattle.state.specs.declared.State.{State}
use Rattle.state.specs.declared.Given.{Given}
use Rattle.judge.specs.Causes.{choice_in, differences_in, any_differs, fault_in, usable_rows, rows_of, findings_of}
use Rattle.state.specs.State.{fresh_state}
use Rattle.report.specs.Report.{next_k}
use Rattle.advance.specs.After.{unusable_next, usable_next}
use Rattle.channel.specs.Cycle.{strongest_in, clears_in, entered_in, next}
use Rattle.demand_3.specs.Claims.{cause_of, sg_less_one}
use Rattle.laws.proofs.Bools.{if_case, not_both, or_left}
use Rattle.demand_2.proofs.Demand2.{no_weaker, cause_met}
use Rattle.demand_3.proofs.Stops.{Grown, grown, off_grown, Counting, WellFormed, counting, formed}
use Rattle.demand_3.proofs.OfCauses.{no_stronger, makes_fresh}
use Rattle.demand_3.proofs.OfComparison.{brightness, Lit, lit, bright, expires}
use Rattle.demand_3.proofs.OfSelection.{selected_number, delay_next}

-- what every state has before a cycle, with the list in force in it
pub record Ready (m : MachineData) (s : State) : Type 0 where
  pub counting : Counting m.values s.stop
  pub left : s.kept.fault.left ≤ number_of m.values 34
  pub delay : s.kept.choice.left ≤ max 1 (number_of m.values 27)
  pub numbered : sg_less_one s.kept.choice.effective < 4

-- what every state has that a cycle leaves
pub record Sound (m : MachineData) (s : State) : Type 0 where
  pub formed : WellFormed m.values s.stop
  pub left : s.kept.fault.left ≤ number_of m.values 34
  pub expired : 2000 ≤ brightness s.kept.fault → T (active m.values s.kept.choice.effective) → 4 ≤ level_of s.stop
  pub delay : s.kept.choice.left ≤ max 1 (number_of m.values 27)
  pub numbered : sg_less_one s.kept.choice.effective < 4

pub ready : {m : MachineData} {s : State} → Sound m s → Ready m s
ready q = record { counting = counting q.formed; left = q.left; delay = q.delay; numbered = q.numbered }

pub fresh_ready : (m : MachineData) → Ready m fresh_state
fresh_ready m = record { counting = Counting.free; left = omega arith; delay = omega arith; numbered = omega arith }

-- how near the end of F, or of the pulses, a state is: 2000 at the end
unfoldable pub alarm : State → ℕ
alarm s = max (brightness s.kept.fault) (2000 * (level_of s.stop / 5))

pub alarm_on : (s : State) (t : ℕ) → T s.kept.fault.on → s.kept.fault.left ≤ t → 2000 ≤ alarm s + t
unfolding alarm
alarm_on s t o h = omega (arith, bright s.kept.fault t o h)

pub alarm_ends : (m : MachineData) (s : State) → Sound m s → T (active m.values s.kept.choice.effective) → 2000 ≤ alarm s → 4 ≤ level_of s.stop
unfolding alarm
alarm_ends m s q a h = by_cases (dec_le 2000 (brightness s.kept.fault)) (λ l. q.expired l a) (λ l. omega arith)

module _ (m : MachineData) (s : State) (g : Given) where
  abbrev d : List ℤ
  d = m.values

  -- ---- the causes of a cycle

  abbrev Stands : ℕ → Type 0
  Stands x = T (cause_of x (rows_of m s g)).stands

  pub cause_rank : (x : ℕ) → Stands x → rank_number (cause_of x (rows_of m s g)).rank ≤ rank_number (strongest_in m s g)
  unfolding strongest_in
  cause_rank x t = no_stronger x (rows_of m s g) t

  pub not_cleared : (x : ℕ) → (x ≡ 13 → ⊥) → Stands x → clears_in m s g ≡ false
  unfolding clears_in
  not_cleared x h t = not_both g.acknowledged (fresh_of (rows_of m s g)) (makes_fresh x h (rows_of m s g) t)

  -- the table of a usable cycle and of an unusable one
  by_table : (P : List Cause → Type 0) → (usable_of m g.reading ≡ true → P (usable_rows m s g)) →
      (usable_of m g.reading ≡ false → P (cause 1 true A ∷ [])) → P (rows_of m s g)
  unfolding rows_of
  by_table P f h = if_case P (usable_of m g.reading) _ _ f h

  pub rank_1 : Stands 1 → 5 ≤ rank_number (cause_of 1 (rows_of m s g)).rank
  unfolding usable_rows cause_of
  rank_1 = by_table (λ l. T (cause_of 1 l).stands → 5 ≤ rank_number (cause_of 1 l).rank) (λ u t. absurd t) (λ u t. omega arith)

  pub rank_9 : Stands 9 → 4 ≤ rank_number (cause_of 9 (rows_of m s g)).rank
  unfolding usable_rows cause_of
  rank_9 = by_table (λ l. T (cause_of 9 l).stands → 4 ≤ rank_number (cause_of 9 l).rank) (λ u t. omega arith) (λ u t. absurd t)

  differs_10 : Stands 10 → T (any_differs (differences_in m s g))
  unfolding usable_rows cause_of
  differs_10 =
      let x = differences_in m s g in
      by_table (λ l. T (cause_of 10 l).stands → T (any_differs x)) (λ u t. or_left (x.position || x.inputs) x.datum (or_left x.position x.inputs t)) (λ u t. absurd t)

  -- one of SBH, SG, SE and cams is active
  abbrev Active : Type 0
  Active = T (active d (choice_in m s g).effective)

  rank_13 : usable_of m g.reading ≡ true → T (expired (fault_in m s g)) → Active → 4 ≤ rank_number (strongest_in m s g)
  unfolding strongest_in rows_of usable_rows cause_of fault_stops
  rank_13 u t a = simp u (no_stronger 13 (usable_rows m s g) (go (expired (fault_in m s g)) t a))
    where
      go : (b : Bool) → T b → Active → T (b && active d (choice_in m s g).effective)
      go true t a = a
      go false t a = absurd t

  -- ---- the state after a cycle

  -- the cases of a cycle
  by_cycle : (P : State → Type 0) → (usable_of m g.reading ≡ true → P (usable_next m s g (findings_of m s g) (clears_in m s g) (strongest_in m s g))) →
      (usable_of m g.reading ≡ false → P (unusable_next m.count s)) → P (next m s g)
  unfolding next
  by_cycle P f h = if_case P (usable_of m g.reading) _ _ f h

  pub k_next : (next m s g).k ≡ next_k m.count s.k
  k_next = by_cycle (λ x. x.k ≡ next_k m.count s.k) (λ _. refl) (λ _. refl)

  pub unusable_level : usable_of m g.reading ≡ false → 5 ≤ level_of (next m s g).stop
  unfolding next
  unusable_level u = simp u (omega arith)

  pub grown_next : clears_in m s g ≡ false → Grown d (strongest_in m s g) s.stop (next m s g).stop
  grown_next e =
      by_cycle (λ x. Grown d (strongest_in m s g) s.stop x.stop)
      (λ _. grown d (clears_in m s g) (strongest_in m s g) _ _ s.stop e) (λ _. off_grown d (strongest_in m s g) s.stop)

  lit_in : Lit d (any_differs (differences_in m s g)) s.kept.fault (fault_in m s g)
  unfolding fault_in
  lit_in = lit d (any_differs (differences_in m s g)) s.kept.fault

  -- where F is at its end a usable cycle that does not clear, and in which one is active, has cause 13
  ended_strong : usable_of m g.reading ≡ true → clears_in m s g ≡ false → 2000 ≤ brightness (fault_in m s g) → Active → 4 ≤ level_of (next m s g).stop
  ended_strong u c h a = omega (arith, rank_13 u (expires (fault_in m s g) h) a, cause_met m s g c)

  pub sound_next : Ready m s → Sound m (next m s g)
  unfolding brightness choice_in next
  sound_next q = go (usable_of m g.reading) refl
    where
      left : (b : Bool) → (cleared_fault b (fault_in m s g)).left ≤ number_of d 34
      left true = omega arith
      left false = lit_in.left q.left

      ended : usable_of m g.reading ≡ true → (b : Bool) → clears_in m s g ≡ b → 2000 ≤ brightness (cleared_fault b (fault_in m s g)) → Active →
          4 ≤ level_of (next m s g).stop
      ended u true c h a = omega arith
      ended u false c h a = ended_strong u c h a

      go : (b : Bool) → usable_of m g.reading ≡ b → Sound m (next m s g)
      go true u =
          simp u
          (record {
            formed = formed d (clears_in m s g) (strongest_in m s g) _ _ q.counting;
            left = left (clears_in m s g);
            expired = simp u at (ended u (clears_in m s g) refl);
            delay = delay_next d s.kept.choice _ _ q.delay;
            numbered = effective_one_of (λ x. sg_less_one x < 4) d s.kept.choice _ _ (selected_number d g.reading.inputs) (λ _. q.numbered);
          })
      go false u =
          simp u
          (record { formed = WellFormed.cancelled; left = q.left; expired = λ _ _. omega arith; delay = q.delay; numbered = q.numbered })

  -- ---- F, where nothing is cleared

  pub record Alarmed (x : State) : Type 0 where
    pub stays : T s.kept.fault.on → T x.kept.fault.on
    pub sooner : (j : ℕ) → j < 1000 → 2000 ≤ alarm s + suc j → 2000 ≤ alarm x + j

  pub alarmed_next : clears_in m s g ≡ false → Alarmed (next m s g)
  unfolding alarm next
  alarmed_next e = go (usable_of m g.reading) refl
    where
      go : (b : Bool) → usable_of m g.reading ≡ b → Alarmed (next m s g)
      go true u =
          let k : level_of s.stop ≤ level_of (usable_next m s g (findings_of m s g) (clears_in m s g) (strongest_in m s g)).stop = simp u at (no_weaker m s g e) in
          simp (u, e)
          (record {
            stays = lit_in.stays;
            sooner = λ j a h.
                by_cases (dec_le 2000 (brightness s.kept.fault + suc j)) (λ l. omega (arith, lit_in.sooner j a l)) (λ l. omega (arith, simp e at k));
          })
      go false u = simp u (record { stays = λ o. o; sooner = λ j a b. omega arith })

  -- cause 10 sets F
  pub on_10 : Stands 10 → T (next m s g).kept.fault.on
  unfolding rows_of cause_of
  on_10 t =
      let e = not_cleared 10 (λ q. omega arith) t in
      by_cycle (λ x. T x.kept.fault.on) (λ u. simp e (lit_in.set (differs_10 t))) (λ u. absurd (unused u t))
    where
      unused : usable_of m g.reading ≡ false → Stands 10 → ⊥
      unused u t = simp u at t

  -- ---- a stop that is entered

  pub record Entered (r : Rank) : Type 0 where
    pub uncleared : clears_in m s g ≡ false
    pub above : level_of s.stop < rank_number r
    pub is : strongest_in m s g ≡ r

  pub entered_is : (r : Rank) → 1 ≤ rank_number r → entered_in m s g ≡ r → Entered r
  unfolding entered_in
  entered_is r h e = go (clears_in m s g) refl (outranks (strongest_in m s g) s.stop) refl e
    where
      none : None ≡ r → Entered r
      none q = absurd (omega (arith, ap rank_number q))

      go : (b : Bool) → clears_in m s g ≡ b → (t : Bool) → outranks (strongest_in m s g) s.stop ≡ t →
          cond (not b && t) (strongest_in m s g) None ≡ r → Entered r
      go true p t q e = none e
      go false p false q e = none e
      go false p true q e = record { uncleared = p; above = omega (arith, ltb-true (level_of s.stop) (rank_number (strongest_in m s g)) q, ap rank_number e); is = e }
