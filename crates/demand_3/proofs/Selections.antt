-- Step 3 over numbered cycles, with commits between them: the effective selection is what one of a window's cycles selects, so it has what all these have in
-- common. By its place among all of them. Assumes nothing.
use Prim.Native.Nat.{ℕ, zero, suc}
use mathlib.Core.Bool.{Bool, true, false, true≢false}
use mathlib.Core.List.{List, Memᴰ}
use mathlib.Core.Path.{◌≡◌, refl, sym, ◌∙◌, subst}
use Rattle.machine_data.specs.declared.MachineData.{MachineData}
use Rattle.machine_data.specs.Data.{number_of}
use Rattle.usable_inputs.specs.Usable.{usable_of}
use Rattle.selection.specs.declared.Selection.{Selection}
use Rattle.selection.specs.declared.Choice.{Choice}
use Rattle.state.specs.declared.State.{State}
use Rattle.state.specs.declared.Given.{Given}
use Rattle.judge.specs.Causes.{choice_in}
use Rattle.channel.specs.Cycle.{next}
use Rattle.runs.specs.Running.{All, usable_before, window}
use Rattle.demand_3.specs.Claims as C
use Rattle.demand_3.specs.Claims.{selected_in, usable_in, Waited, state_after, effective}
use Rattle.demand_3.proofs.OfSelection.{Selects, Placed, choice_placed, still_placed, Enough, placed_in}
use Rattle.demand_3.proofs.OfSelection as O
use Rattle.demand_3.proofs.Turns.{Goes}

-- what all have, each has
of_all : {X : Type 0} (P : X → Type 0) {x : X} {xs : List X} → Memᴰ x xs → All P xs → P x
of_all P (Memᴰ.head e) a = subst P (sym e) a.0
of_all P (Memᴰ.tail m) a = of_all P m a.1

module _ (L : ℕ → MachineData) (S : ℕ → State) (G : ℕ → Given) (commits : ℕ → List MachineData) (goes : Goes L S G commits) where
  abbrev delay : ℕ → ℕ
  delay n = number_of (L n).values 27

  abbrev usables : ℕ → List ℕ
  usables n = usable_before (usable_in L G) n

  abbrev PlacedIn : Choice → ℕ → List ℕ → Type 0
  PlacedIn x n ns = Placed (selected_in L G) delay commits x n ns

  -- once there was a usable cycle, the effective selection has a place
  abbrev Kept : Choice → ℕ → List ℕ → Type 0
  Kept x n ns = x.chosen ≡ true → PlacedIn x n ns

  abbrev found : ℕ → Choice
  found n = (S n).kept.choice

  abbrev left : ℕ → Choice
  left n = (state_after L S G n).kept.choice

  placed_used : (n : ℕ) → usable_of (L n) (G n).reading ≡ true → Kept (found n) n (usables n) →
      PlacedIn (state_after L S G n).kept.choice n (usable_before (usable_in L G) (suc n))
  unfolding usable_before next choice_in
  placed_used n u k =
      simp u (choice_placed (selected_in L G) delay commits (L n).values n refl (found n) (G n).reading.position (usables n) (goes.ready n).delay k)

  kept_unused : (n : ℕ) → usable_of (L n) (G n).reading ≡ false → Kept (found n) n (usables n) →
      Kept (state_after L S G n).kept.choice n (usable_before (usable_in L G) (suc n))
  unfolding usable_before next
  kept_unused n u k = simp u k

  kept_passes : (n : ℕ) → Kept (left n) n (usables (suc n)) → Kept (found (suc n)) (suc n) (usables (suc n))
  kept_passes n k e =
      let w = (goes.passes n).choice in
      still_placed (selected_in L G) delay commits (left n) (found (suc n)) n (usables (suc n)) w.same_effective w.no_longer w.runs_on
      (λ m c. (goes.cuts n m c).delay) (k (sym w.same_chosen ∙ e))

  kept_at : (n : ℕ) → Kept (found n) n (usables n)
  kept_at zero = λ e. absurd (true≢false (sym e ∙ goes.none_chosen))
  kept_at (suc n) = kept_passes n (go (usable_of (L n) (G n).reading) refl (kept_at n))
    where
      go : (b : Bool) → usable_of (L n) (G n).reading ≡ b → Kept (found n) n (usables n) → Kept (left n) n (usables (suc n))
      go true u k = λ e. placed_used n u k
      go false u k = kept_unused n u k

  enough : (n w : ℕ) → Waited L G commits n w → Enough (selected_in L G) delay commits (usables (suc n)) w
  enough n w (C.in_force h) = O.in_force h
  enough n w (C.cut_by a b c h) = O.cut_by a b c h

  pub one_of : (n w : ℕ) → usable_of (L n) (G n).reading ≡ true → Waited L G commits n w →
      Selects (selected_in L G) delay commits (effective L S G n) (window (usable_in L G) n w)
  one_of n w u h = placed_in (selected_in L G) delay commits (left n) n (usables (suc n)) (placed_used n u (kept_at n)) w (enough n w h)

  pub binds : (P : Selection → Type 0) (n w : ℕ) → usable_of (L n) (G n).reading ≡ true → Waited L G commits n w →
      All (λ i. P (selected_in L G i)) (window (usable_in L G) n w) → P (effective L S G n)
  binds P n w u h a = let x = one_of n w u h in subst P (sym x.2) (of_all (λ i. P (selected_in L G i)) x.1 a)
