-- An axis that only shows n<nx keeps turning: no cause with a rank ever stands, row by row of the table. Assumes nothing.
use Prim.Native.Nat.{ℕ, zero, suc, ◌<◌}
use mathlib.Core.Bool.{Bool, true, false, cond, ◌&&◌}
use mathlib.Core.List.{List, [], ◌∷◌}
use mathlib.Core.Path.{◌≡◌, refl, sym, ap, ◌∙◌, subst}
use native.Mathlib.Omega.{arith}
use lib.Dec.{T}
use lib.IntN.{ℤ}
use lib.Ieee.Bits.{is_true}
use Rattle.laws.proofs.Bools.{and_false}
use Rattle.machine_data.specs.declared.MachineData.{MachineData}
use Rattle.usable_inputs.specs.Usable.{usable_of}
use Rattle.inputs.specs.declared.External.{External}
use Rattle.inputs.specs.declared.External.TheVariants as X
use Rattle.speed.specs.Speed.{slower}
use Rattle.selection.specs.declared.Selection.{Selection}
use Rattle.selection.specs.declared.Selection.TheVariants.{Nothing}
use Rattle.selection.specs.Selection.{selected_of}
use Rattle.selection.proofs.Effective.{effective_one_of}
use Rattle.limits.specs.Limits.{standstill_left, over_speed, external, hold_left}
use Rattle.end_positions.specs.EndPositions.{outside}
use Rattle.rank.specs.Rank.{stronger_of}
use Rattle.rank.specs.declared.Rank.TheVariants.{None}
use Rattle.stop.specs.declared.Stop.{Stop}
use Rattle.stop.specs.declared.Stop.TheVariants.{Free}
use Rattle.stop.specs.Stop.{stop_next, level_of}
use Rattle.fault.specs.Fault.{expired}
use Rattle.active.specs.Active.{active, fault_stops}
use Rattle.causes.specs.declared.Cause.{Cause}
use Rattle.causes.specs.Causes.{strongest_of}
use Rattle.state.specs.declared.State.{State}
use Rattle.state.specs.declared.Given.{Given}
use Rattle.directions.specs.Directions.{watched_of}
use Rattle.judge.specs.Causes.{choice_in, watched_in, step_in, fault_in, stops_in, usable_rows, rows_of}
use Rattle.channel.specs.Cycle.{strongest_in, clears_in, next}
use Rattle.channel.specs.Word.{word}
use Rattle.demand_3.specs.History.{history}
use Rattle.demand_3.specs.Claims.{sg_less_one}
use Rattle.demand_3.specs.ShownOnly.{ShowsOnly, KeepsTurning}
use Rattle.demand_3.proofs.OfWord.{shows}

-- a table in which each row does not stand or has no rank
data Weak : List Cause → Type 0 where
  none : Weak []
  not_standing : {c : Cause} {cs : List Cause} → c.stands ≡ false → Weak cs → Weak (c ∷ cs)
  unranked : {c : Cause} {cs : List Cause} → c.rank ≡ None → Weak cs → Weak (c ∷ cs)

-- has no rank
no_strongest : {cs : List Cause} → Weak cs → strongest_of cs ≡ None
unfolding strongest_of
no_strongest none = refl
no_strongest (not_standing e w) = simp (e, no_strongest w)
no_strongest (unranked {c} e w) = simp (e, no_strongest w) (go c.stands)
  where
    go : (b : Bool) → stronger_of (cond b None None) None ≡ None
    go true = refl
    go false = refl

free_stays : (d : List ℤ) (clears slow : Bool) (p : ℤ) → stop_next d clears None slow p Free ≡ Free
unfolding stop_next
free_stays d true slow p = refl
free_stays d false slow p = refl

-- no stop stands, and nothing is effective
record Turning (s : State) : Type 0 where
  free : s.stop ≡ Free
  nothing : s.kept.choice.effective ≡ Nothing

module _ (m : MachineData) (only : ShowsOnly m) (s : State) (g : Given) (t : Turning s) where
  abbrev d : List ℤ
  d = m.values

  selects_nothing : selected_of d g.reading.inputs ≡ Nothing
  unfolding selected_of
  selects_nothing = simp only.no_sbh_sg

  nothing_next : (choice_in m s g).effective ≡ Nothing
  unfolding choice_in
  nothing_next =
      effective_one_of (λ (x : Selection). x ≡ Nothing) d s.kept.choice (selected_of d g.reading.inputs) g.reading.position selects_nothing (λ _. t.nothing)

  no_external_stop : (x : External) → external d g.reading.inputs x ≡ false
  unfolding external
  no_external_stop x = simp only.no_external

  no_standstill : standstill_left d (choice_in m s g) g.reading.position ≡ false
  unfolding standstill_left
  no_standstill = simp nothing_next

  no_speed : over_speed d (choice_in m s g).effective (step_in m s g) ≡ false
  no_speed = ap (λ (x : Selection). over_speed d x (step_in m s g)) nothing_next

  not_outside : outside d g.reading ≡ false
  unfolding outside
  not_outside = simp only.no_se

  no_hold : hold_left d s.stop g.reading.position ≡ false
  no_hold = ap (λ (x : Stop). hold_left d x g.reading.position) t.free

  not_active : active d (choice_in m s g).effective ≡ false
  unfolding active
  not_active = simp (nothing_next, only.no_se, only.no_cams)

  no_b : stops_in m s g ≡ false
  unfolding fault_stops
  no_b = ap (λ (b : Bool). expired (fault_in m s g) && b) not_active ∙ and_false (expired (fault_in m s g))

  not_watched : (watched_in m s g).overstepped ≡ false
  unfolding watched_of
  not_watched = simp only.no_direction_lem

  no_rank : strongest_of (usable_rows m s g) ≡ None
  unfolding usable_rows
  no_rank =
      let f = no_external_stop in
      no_strongest
      (not_standing no_standstill
      (not_standing no_speed
      (not_standing not_outside
      (not_standing (f X.A)
      (not_standing (f X.C)
      (not_standing (f X.D)
      (not_standing (f X.E)
      (not_standing no_hold
      (unranked refl (unranked refl (unranked refl
      (not_standing no_b (not_standing not_watched none)))))))))))))

  turning_next : T (usable_of m g.reading) → Turning (next m s g)
  unfolding next strongest_in rows_of
  turning_next u =
      let e = is_true (usable_of m g.reading) u in
      simp e
      (record {
        free = (λ i. stop_next d (clears_in m s g) (no_rank i) (slower d (step_in m s g) 33) g.reading.position (t.free i)) ∙ free_stays d (clears_in m s g) (slower d (step_in m s g) 33) g.reading.position;
        nothing = nothing_next;
      })

module _ (m : MachineData) (only : ShowsOnly m) (cs : ℕ → Given) where
  turning_at : (n : ℕ) → ((i : ℕ) → i < n → T (usable_of m (cs i).reading)) → Turning (history m cs n)
  unfolding history
  turning_at zero u = record { free = refl; nothing = refl }
  turning_at (suc n) u = turning_next m only (history m cs n) (cs n) (turning_at n (λ i h. u i (omega arith))) (u n (omega arith))

pub keeps_turning : KeepsTurning
unfolding word history
keeps_turning m only cs n u =
    let t = turning_at m only cs (suc n) (λ i h. u i (omega arith)) in
    let numbered : sg_less_one (next m (history m cs n) (cs n)).kept.choice.effective < 4 = subst (λ (x : Selection). sg_less_one x < 4) (sym t.nothing) (omega arith) in
    (shows m.values (next m (history m cs n) (cs n)) _ numbered).rank ∙ ap level_of t.free
