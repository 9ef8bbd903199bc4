-- Demand 2 of the stops, by the cases of a cycle. Assumes nothing.
use Prim.Native.Nat.{◌≤◌, ◌<◌}
use mathlib.Core.Bool.{Bool, true, false, not, cond, ◌&&◌, true≢false}
use mathlib.Core.Logic.{◌⊎◌, inl, inr}
use mathlib.Core.Path.{◌≡◌, refl, sym, ap, ◌∙◌}
use native.Mathlib.Omega.{arith}
use lib.Dec.{T}
use lib.Ieee.Bits.{is_true}
use Rattle.machine_data.specs.declared.MachineData.{MachineData}
use Rattle.speed.specs.Speed.{slower}
use Rattle.rank.specs.declared.Rank.{Rank}
use Rattle.rank.specs.declared.Rank.TheVariants.{None}
use Rattle.stop.specs.declared.Stop.{Stop}
use Rattle.rank.specs.Rank.{rank_number}
use Rattle.stop.specs.Stop.{level_of, entered_of, counted_of}
use Rattle.causes.specs.declared.Cause.{Cause}
use Rattle.causes.specs.Causes.{fresh_of, Standing}
use Rattle.causes.proofs.Laws.{strongest_at_least, strongest_stands}
use Rattle.state.specs.declared.State.{State}
use Rattle.state.specs.declared.Given.{Given}
use Rattle.judge.specs.Causes.{step_in, rows_of}
use Rattle.channel.specs.Cycle.{strongest_in, clears_in}
use Rattle.demand_2.specs.Demand2.{becomes_a, rank_before, rank_after, StandingRow, Outranked, Clears, entered, Enters, Strongest, BecomesA, settled_rank, Demand2}
use Rattle.demand_2.proofs.Stops.{counted_level, only_b}
use Rattle.demand_2.proofs.Rows.{none_fresh, fresh_none}
use Rattle.demand_2.proofs.Cycles.{Entering, Case, clearing, entering, other, cases}

both : (a b : Bool) → (a && not b) ≡ true → (a ≡ true) × (b ≡ false)
both true true e = absurd (true≢false (sym e))
both true false e = (refl, refl)
both false b e = absurd (true≢false (sym e))

joined : (a b : Bool) → a ≡ true → b ≡ false → (a && not b) ≡ true
joined a b p q = rw (p, q)

module _ (m : MachineData) (s : State) (g : Given) where
  abbrev strongest : Rank
  strongest = strongest_in m s g

  abbrev slow : Bool
  slow = slower m.values (step_in m s g) 33

  -- ---- by the rows of the table

  clears_is : clears_in m s g ≡ true → Clears m s g
  unfolding clears_in
  clears_is e =
      let x = both g.acknowledged (fresh_of (rows_of m s g)) e in
      (x.0, λ c t. none_fresh (rows_of m s g) x.1 c t.row t.stands)

  is_clear : Clears m s g → clears_in m s g ≡ true
  unfolding clears_in
  is_clear h =
      joined g.acknowledged (fresh_of (rows_of m s g)) h.0
      (fresh_none (rows_of m s g) (λ c r t. h.1 c (record { row = r; stands = t })))

  not_clear : clears_in m s g ≡ false → Clears m s g → ⊥
  not_clear e h = true≢false (sym (is_clear h) ∙ e)

  stands_below : (c : Cause) → StandingRow m s g c → rank_number c.rank ≤ rank_number strongest
  unfolding strongest_in
  stands_below c t = strongest_at_least t.row t.stands

  -- the strongest cause has a row, where its rank is above the standing one
  row_of : {r : Rank} → rank_before m s g < rank_number r → (r ≡ None) ⊎ Standing r (rows_of m s g) → (c : Cause) × StandingRow m s g c × (r ≡ c.rank)
  row_of h (inl e) = absurd (omega (arith, ap rank_number e))
  row_of h (inr (c, r, t, e)) = (c, record { row = r; stands = t }, e)

  strongest_is : rank_before m s g < rank_number strongest → Strongest m s g strongest
  unfolding strongest_in
  strongest_is h = record { one = row_of h (strongest_stands (rows_of m s g)); greatest = stands_below }

  outranked : rank_before m s g < rank_number strongest → Outranked m s g
  outranked h = let x = (strongest_is h).one in (x.0, x.1, omega (arith, h, ap rank_number x.2))

  -- ---- by the cases of the cycle

  enters : Entering m s g → Enters m s g
  enters x e = omega (arith, x.above, ap rank_number (sym x.is ∙ e))

  because : Case m s g → Enters m s g → Outranked m s g × (Clears m s g → ⊥)
  because (clearing c e a) h = absurd (h e)
  because (entering c x) h = (outranked x.above, not_clear c)
  because (other c x) h = absurd (h x.is)

  therefore : Case m s g → Outranked m s g × (Clears m s g → ⊥) → Enters m s g
  therefore (clearing c e a) (o, n) = absurd (n (clears_is c))
  therefore (entering c x) (o, n) = enters x
  therefore (other c x) ((y, t, l), n) = absurd (omega (arith, x.within, stands_below y t))

  with_strongest : Case m s g → Enters m s g → Strongest m s g (entered m s g)
  with_strongest (clearing c e a) h = absurd (h e)
  with_strongest (entering c x) h = rw x.is (strongest_is x.above)
  with_strongest (other c x) h = absurd (h x.is)

  after_clear : Case m s g → Clears m s g → rank_after m s g ≡ 0
  after_clear (clearing c e a) h = a
  after_clear (entering c x) h = absurd (not_clear c h)
  after_clear (other c x) h = absurd (not_clear c h)

  after_entry : Case m s g → Enters m s g → rank_after m s g ≡ settled_rank m s g (entered_of m.values (entered m s g))
  after_entry (clearing c e a) h = absurd (h e)
  after_entry (entering c x) h = rw x.is x.rank
  after_entry (other c x) h = absurd (h x.is)

  after_other : Case m s g → (Clears m s g → ⊥) → (Enters m s g → ⊥) → rank_after m s g ≡ settled_rank m s g (counted_of s.stop)
  after_other (clearing c e a) n h = absurd (n (clears_is c))
  after_other (entering c x) n h = absurd (h (enters x))
  after_other (other c x) n h = x.rank

  -- ---- how the rank changes

  -- no stop has a lower rank in the cycle, and that of a B that becomes A is greater
  kept : (x : Stop) → level_of x ≤ settled_rank m s g x
  kept x = go (becomes_a slow x) refl
    where
      go : (t : Bool) → becomes_a slow x ≡ t → level_of x ≤ cond t 5 (level_of x)
      go true e = omega (arith, only_b slow x e)
      go false e = omega arith

  raised : (x : Stop) → BecomesA m s g x → level_of x < settled_rank m s g x
  raised x t = let e : becomes_a slow x ≡ true = is_true (becomes_a slow x) t in rw e (omega (arith, only_b slow x e))

  raised_only : (x : Stop) → level_of x < settled_rank m s g x → BecomesA m s g x
  raised_only x = go (becomes_a slow x)
    where
      go : (t : Bool) → level_of x < cond t 5 (level_of x) → T t
      go true h = tt
      go false h = omega arith

  entering_rises : Entering m s g → rank_before m s g < rank_after m s g
  entering_rises x = omega (arith, x.above, x.rank, kept (entered_of m.values strongest))

  rises : Case m s g → rank_before m s g < rank_after m s g → Enters m s g ⊎ ((Clears m s g → ⊥) × BecomesA m s g (counted_of s.stop))
  rises (clearing c e a) h = absurd (omega arith)
  rises (entering c x) h = inl (enters x)
  rises (other c x) h = inr (not_clear c, raised_only (counted_of s.stop) (omega (arith, x.rank, counted_level s.stop)))

  rises_by : Case m s g → Enters m s g ⊎ ((Clears m s g → ⊥) × BecomesA m s g (counted_of s.stop)) → rank_before m s g < rank_after m s g
  rises_by (clearing c e a) (inl h) = absurd (h e)
  rises_by (clearing c e a) (inr (n, b)) = absurd (n (clears_is c))
  rises_by (entering c x) h = entering_rises x
  rises_by (other c x) (inl h) = absurd (h x.is)
  rises_by (other c x) (inr (n, b)) = omega (arith, x.rank, counted_level s.stop, raised (counted_of s.stop) b)

  falls : Case m s g → rank_after m s g < rank_before m s g → Clears m s g
  falls (clearing c e a) h = clears_is c
  falls (entering c x) h = absurd (omega (arith, entering_rises x))
  falls (other c x) h = absurd (omega (arith, x.rank, counted_level s.stop, kept (counted_of s.stop)))

  -- without a clear the rank does not fall, and comes to that of the strongest cause
  not_lower : Case m s g → clears_in m s g ≡ false → (rank_before m s g ≤ rank_after m s g) × (rank_number strongest ≤ rank_after m s g)
  not_lower (clearing c e a) n = absurd (true≢false (sym c ∙ n))
  not_lower (entering c x) n = let k = kept (entered_of m.values strongest) in (omega (arith, x.above, x.rank), omega (arith, x.rank))
  not_lower (other c x) n =
      let k = kept (counted_of s.stop) in
      let l = counted_level s.stop in
      (omega (arith, x.rank), omega (arith, x.rank, x.within))

  pub no_weaker : clears_in m s g ≡ false → rank_before m s g ≤ rank_after m s g
  no_weaker n = (not_lower (cases m s g) n).0

  pub cause_met : clears_in m s g ≡ false → rank_number strongest ≤ rank_after m s g
  cause_met n = (not_lower (cases m s g) n).1

  pub demand_2 : Demand2 m s g
  demand_2 =
      let c = cases m s g in
      record {
        entered_iff = (because c, therefore c);
        entered_strongest = with_strongest c;
        after_clear = after_clear c;
        after_entry = after_entry c;
        after_other = after_other c;
        rises_iff = (rises c, rises_by c);
        falls_cleared = falls c;
      }
