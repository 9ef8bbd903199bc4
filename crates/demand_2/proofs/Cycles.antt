-- A cycle by its cases: it clears, it enters a stop, or it does neither; and what each leaves of the rank. Assumes nothing.
use Prim.Native.Nat.{◌<◌, ◌≤◌}
use mathlib.Core.Bool.{Bool, true, false, not, cond, ◌&&◌}
use mathlib.Core.Path.{◌≡◌, refl, ◌∙◌}
use native.Mathlib.Omega.{arith}
use borrow.Author.Tests.{ltb-true, ltb-false}
use lib.Dec.{ltb}
use lib.IntN.{ℤ}
use Rattle.machine_data.specs.declared.MachineData.{MachineData}
use Rattle.usable_inputs.specs.Usable.{usable_of}
use Rattle.speed.specs.Speed.{slower}
use Rattle.rank.specs.declared.Rank.{Rank}
use Rattle.rank.specs.declared.Rank.TheVariants.{None, A}
use Rattle.stop.specs.declared.Stop.{Stop}
use Rattle.stop.specs.declared.Stop.TheVariants.{Free}
use Rattle.rank.specs.Rank.{rank_number}
use Rattle.stop.specs.Stop.{rank_of, level_of, outranks, entered_of, counted_of, settled_of, stop_next}
use Rattle.rank.proofs.Laws.{rank_le}
use Rattle.causes.specs.Causes.{strongest_of, fresh_of}
use Rattle.state.specs.declared.State.{State}
use Rattle.state.specs.declared.Given.{Given}
use Rattle.judge.specs.Causes.{step_in, rows_of}
use Rattle.channel.specs.Cycle.{strongest_in, clears_in, entered_in, next}
use Rattle.demand_2.specs.Demand2.{becomes_a, rank_before, rank_after, entered, settled_rank}
use Rattle.demand_2.proofs.Stops.{counted_level, settled_level}

module _ (m : MachineData) (s : State) (g : Given) where
  abbrev strongest : Rank
  strongest = strongest_in m s g

  abbrev pub clears : Bool
  clears = clears_in m s g

  abbrev slow : Bool
  slow = slower m.values (step_in m s g) 33

  -- the stop whose count is looked at: the one entered, or the standing one with its count a cycle less
  abbrev taken : Bool → Stop
  taken t = cond t (entered_of m.values strongest) (counted_of s.stop)

  usable_rank : (p : ℤ) → level_of (stop_next m.values clears strongest slow p s.stop) ≡ cond clears 0 (settled_rank m s g (taken (outranks strongest s.stop)))
  unfolding stop_next
  usable_rank p = go clears
    where
      go : (t : Bool) → level_of (cond t Free (settled_of slow p (taken (outranks strongest s.stop)))) ≡ cond t 0 (settled_rank m s g (taken (outranks strongest s.stop)))
      go true = refl
      go false = settled_level slow p (taken (outranks strongest s.stop))

  -- A is left of A, and of what A outranks
  off_rank : (t : Bool) → ltb (level_of s.stop) 5 ≡ t → 5 ≡ settled_rank m s g (cond t (entered_of m.values A) (counted_of s.stop))
  off_rank true e = refl
  off_rank false e = go (becomes_a slow (counted_of s.stop))
    where
      go : (u : Bool) → 5 ≡ cond u 5 (level_of (counted_of s.stop))
      go true = refl
      go false = omega (arith, counted_level s.stop, ltb-false (level_of s.stop) 5 e, rank_le (rank_of s.stop))

  not_acknowledged : (a : Bool) → (a && not true) ≡ false
  not_acknowledged true = refl
  not_acknowledged false = refl

  rank_next : rank_after m s g ≡ cond clears 0 (settled_rank m s g (taken (outranks strongest s.stop)))
  unfolding next
  rank_next = go (usable_of m g.reading) refl
    where
      go : (u : Bool) → usable_of m g.reading ≡ u → rank_after m s g ≡ cond clears 0 (settled_rank m s g (taken (outranks strongest s.stop)))
      go true u = simp u (usable_rank g.reading.position)
      go false u = unfold strongest_in clears_in rows_of strongest_of fresh_of in simp (u, not_acknowledged g.acknowledged) (off_rank (outranks A s.stop) refl)

  -- ---- the cases

  pub record Entering : Type 0 where
    pub is : entered m s g ≡ strongest
    pub above : rank_before m s g < rank_number strongest
    pub rank : rank_after m s g ≡ settled_rank m s g (entered_of m.values strongest)

  pub record Other : Type 0 where
    pub is : entered m s g ≡ None
    pub within : rank_number strongest ≤ rank_before m s g
    pub rank : rank_after m s g ≡ settled_rank m s g (counted_of s.stop)

  pub data Case : Type 0 where
    clearing : clears ≡ true → entered m s g ≡ None → rank_after m s g ≡ 0 → Case
    entering : clears ≡ false → Entering → Case
    other : clears ≡ false → Other → Case

  pub cases : Case
  unfolding entered_in
  cases = go clears refl (outranks strongest s.stop) refl
    where
      go : (c : Bool) → clears ≡ c → (t : Bool) → outranks strongest s.stop ≡ t → Case
      go true c t q = clearing c (simp c) (rank_next ∙ simp c)
      go false c true q = entering c (record { is = simp (c, q); above = ltb-true (level_of s.stop) (rank_number strongest) q; rank = rank_next ∙ simp (c, q) })
      go false c false q = other c (record { is = simp (c, q); within = ltb-false (level_of s.stop) (rank_number strongest) q; rank = rank_next ∙ simp (c, q) })
