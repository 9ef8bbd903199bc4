-- A lone commit shows within as many cycles as the new head says: at once where the heads differ, else where k meets the datum. Assumes nothing.
use Prim.Native.Nat.{ℕ, zero, suc, ◌≤◌, ◌<◌}
use mathlib.Core.Bool.{Bool, true, false}
use mathlib.Core.Logic.{inl, inr, by_cases}
use mathlib.Core.Path.{◌≡◌, refl, sym, ap, subst, ◌∙◌}
use native.Mathlib.Decide.{dec_lt}
use native.Mathlib.Omega.{arith}
use borrow.Author.Tests.{lt-ltb, le-ltb, ltb-true, eqb-true, eqb-false}
use lib.Dec.{T, ltb, eqb}
use Rattle.ranges.specs.Table.{data_count}
use Rattle.machine_data.specs.declared.MachineData.{MachineData}
use Rattle.machine_data.specs.Data.{entry_of}
use Rattle.report.specs.declared.Report.{Report}
use Rattle.report.specs.Report.{next_k, datum_differs}
use Rattle.report.proofs.Differs.{datum_same}
use Rattle.state.specs.declared.State.{State}
use Rattle.commit.specs.Commit.{cut_k, committed}
use Rattle.laws.proofs.Bools.{if_case}
use Rattle.commit_laws.specs.LoneCommit.{Fed, given_one, given_other, before, UsableIn, BothShow, Another, KBelow, LoneCommit}
use Rattle.commit_laws.proofs.OfK.{k_at, next_below, meets}
use Rattle.commit_laws.proofs.Differing.{k_next, shown}

pub k_below : (m : MachineData) → 1 ≤ m.count → KBelow m
unfolding committed
k_below m h =
    record {
      fresh = h;
      cycle = λ s g. subst (λ (k : ℕ). k < m.count) (sym (k_next m s g)) (next_below m.count s.k h);
      commit = λ s. if_case (λ (k : ℕ). k < m.count) (ltb s.k m.count) _ _ (ltb-true s.k m.count) (λ _. h);
    }

-- cause 12 stands where the lists are not the same at the k of each
apart : (m : MachineData) (k : ℕ) (o : Report) → ((m.count ≡ o.head) × (entry_of m.values k ≡ o.datum) → ⊥) → T (datum_differs m k o)
apart m k o h = go (datum_differs m k o) refl
  where
    go : (b : Bool) → datum_differs m k o ≡ b → T b
    go true e = tt
    go false e = absurd (h (datum_same m k o e))

-- a datum that differs is one that a list can have
has_datum : (old new : MachineData) (j : ℕ) → (entry_of old.values j ≡ entry_of new.values j → ⊥) → j < data_count
has_datum old new j h = by_cases (dec_lt j data_count) (λ l. l) (λ l. absurd (h (simp (le-ltb j data_count (omega arith)))))

module _ (old new : MachineData) (x y : Fed) (s t : State) where
  pub k_one : (i : ℕ) → (before old new x y s t i).one.k ≡ k_at new.count (cut_k new.count s.k) i
  unfolding before k_at committed
  k_one zero = refl
  k_one (suc i) = k_next new _ _ ∙ ap (next_k new.count) (k_one i)

  pub k_other : (i : ℕ) → (before old new x y s t i).other.k ≡ k_at old.count t.k i
  unfolding before k_at
  k_other zero = refl
  k_other (suc i) = k_next old _ _ ∙ ap (next_k old.count) (k_other i)

  -- the lists differ in the head or at the k of cycle i
  abbrev DifferIn : ℕ → Type 0
  DifferIn i =
      let b = before old new x y s t i in
      (old.count ≡ new.count) → entry_of old.values b.other.k ≡ entry_of new.values b.one.k → ⊥

  both_show : (i : ℕ) → UsableIn old new x y i → DifferIn i → BothShow old new x y s t i
  both_show i (u, v) h =
      let b = before old new x y s t i in (
        shown new b.one (given_one old new x y b i) u (apart new b.one.k _ (λ e. h (sym e.0) (sym e.1))),
        shown old b.other (given_other old new x y b i) v (apart old b.other.k _ (λ e. h e.0 e.1)),
      )

  module _ (some : 1 ≤ new.count) (below : s.k < old.count) (equal : s.k ≡ t.k) (usable : (i : ℕ) → i < new.count → UsableIn old new x y i) where
    abbrev Shown : Type 0
    Shown = (i : ℕ) × (i < new.count) × BothShow old new x y s t i

    at_once : (old.count ≡ new.count → ⊥) → Shown
    at_once h = (0, omega arith, both_show 0 (usable 0 (omega arith)) (λ e _. h e))

    in_time : (j : ℕ) → j < new.count → (entry_of old.values j ≡ entry_of new.values j → ⊥) → old.count ≡ new.count → Shown
    in_time j l h e = go (meets new.count s.k j (omega arith) l (has_datum old new j h))
      where
        go : (i : ℕ) × (i < new.count) × (k_at new.count s.k i ≡ j) → Shown
        go (i, a, q) =
            let one : (before old new x y s t i).one.k ≡ j = k_one i ∙ simp (lt-ltb s.k new.count (omega arith)) q in
            let other : (before old new x y s t i).other.k ≡ j = k_other i ∙ simp (e, sym equal) q in
            (i, a, both_show i (usable i a) (λ _ z. h (simp (one, other) at z)))

    found : Another old new → Shown
    found (inl h) = at_once h
    found (inr (j, l, h)) = go (eqb old.count new.count) refl
      where
        go : (b : Bool) → eqb old.count new.count ≡ b → Shown
        go true e = in_time j l h (eqb-true old.count new.count e)
        go false e = at_once (eqb-false old.count new.count e)

pub lone_commit : LoneCommit
lone_commit old new x y s t some below equal another usable = found old new x y s t some below equal usable another
