-- The rank of a stop whose count is looked at: its own, or A's where B becomes A. By cases on the stop and the rank. Assumes nothing.
use Prim.Native.Nat.{ℕ}
use mathlib.Core.Bool.{Bool, true, false, cond, ◌&&◌, true≢false}
use mathlib.Core.Path.{◌≡◌, refl, sym}
use borrow.Author.Tests.{eqb-true}
use lib.Dec.{eqb}
use lib.IntN.{ℤ}
use Rattle.rank.specs.declared.Rank.{Rank}
use Rattle.rank.specs.declared.Rank.TheVariants.{None, E, D, C, B, A}
use Rattle.stop.specs.declared.Stop.{Stop}
use Rattle.stop.specs.declared.Stop.TheVariants.{Free, Braking, Held, Cancelled}
use Rattle.rank.specs.Rank.{rank_number}
use Rattle.stop.specs.Stop.{level_of, counted_of, ends_of, at_count, settled_of}
use Rattle.demand_2.specs.Demand2.{becomes_a}

pub counted_level : (s : Stop) → level_of (counted_of s) ≡ level_of s
counted_level Free = refl
counted_level (Braking r n) = refl
counted_level (Held r q) = refl
counted_level Cancelled = refl

held_level : (t : Bool) (p : ℤ) (r : Rank) (n : ℕ) → level_of (cond t (Held r p) (Braking r n)) ≡ rank_number r
held_level true p r n = refl
held_level false p r n = refl

braked_level : (t : Bool) (n : ℕ) → level_of (cond t Cancelled (Braking B n)) ≡ cond t 5 4
braked_level true n = refl
braked_level false n = refl

at_level : (slow : Bool) (p : ℤ) (r : Rank) (n : ℕ) → level_of (at_count slow p r n) ≡ cond (becomes_a slow (Braking r n)) 5 (rank_number r)
at_level slow p None n = refl
at_level slow p E n = held_level (eqb n 0) p E n
at_level slow p D n = held_level (eqb n 0) p D n
at_level slow p C n = held_level (eqb n 0) p C n
at_level slow p B n = braked_level (ends_of slow n) n
at_level slow p A n = refl

pub settled_level : (slow : Bool) (p : ℤ) (x : Stop) → level_of (settled_of slow p x) ≡ cond (becomes_a slow x) 5 (level_of x)
settled_level slow p Free = refl
settled_level slow p (Braking r n) = at_level slow p r n
settled_level slow p (Held r q) = refl
settled_level slow p Cancelled = refl

-- where B becomes A it has rank 4
pub only_b : (slow : Bool) (x : Stop) → becomes_a slow x ≡ true → level_of x ≡ 4
only_b slow Free e = absurd (true≢false (sym e))
only_b slow (Braking r n) e = go (eqb (rank_number r) 4) refl e
  where
    go : (t : Bool) → eqb (rank_number r) 4 ≡ t → (t && ends_of slow n) ≡ true → rank_number r ≡ 4
    go true q e = eqb-true (rank_number r) 4 q
    go false q e = absurd (true≢false (sym e))
only_b slow (Held r q) e = absurd (true≢false (sym e))
only_b slow Cancelled e = absurd (true≢false (sym e))
