-- The order of selections is a total preorder with nothing at one end and SBH at the other: it is that of one number, and an SG's
-- lies strictly between the ends'. Assumes nothing.
use Prim.Native.Nat.{ℕ, ◌≤◌}
use mathlib.Core.Bool.{Bool, true, false}
use mathlib.Core.List.{List}
use mathlib.Core.Logic.{◌⊎◌, inl, inr}
use mathlib.Core.Path.{◌≡◌, refl}
use native.Mathlib.Omega.{arith}
use borrow.Author.Tests.{lt-ltb, le-ltb, ltb-true, ltb-false}
use lib.Dec.{ltb}
use lib.IntN.{ℤ}
use Rattle.speed.specs.Speed.{speed_of}
use Rattle.speed.proofs.Bounds.{speed_least, speed_most}
use Rattle.selection.specs.declared.Selection.{Selection}
use Rattle.selection.specs.declared.Selection.TheVariants.{Nothing, Sg, Sbh}
use Rattle.selection.specs.Selection.{allowance_of, stricter}
use Rattle.selection.specs.Order.{Preorder}

allowance_most : (d : List ℤ) (s : Selection) → allowance_of d s ≤ 100_000_001
allowance_most d Nothing = omega arith
allowance_most d (Sg n o) = omega (arith, speed_most d n o)
allowance_most d Sbh = omega arith

-- of two numbers one is not below the other
one_not_below : (a b : ℕ) → (ltb a b ≡ false) ⊎ (ltb b a ≡ false)
one_not_below a b = go (ltb a b) refl
  where
    go : (t : Bool) → ltb a b ≡ t → (ltb a b ≡ false) ⊎ (ltb b a ≡ false)
    go true e = inr (le-ltb b a (omega (arith, ltb-true a b e)))
    go false e = inl e

pub preorder : (d : List ℤ) → Preorder d
unfolding stricter
preorder d =
    let a = allowance_of d in
    record {
      irreflexive = λ s. le-ltb (a s) (a s) (omega arith);
      transitive = λ s t u p q. lt-ltb (a s) (a u) (omega (arith, ltb-true (a s) (a t) p, ltb-true (a t) (a u) q));
      connected = λ s t. one_not_below (a s) (a t);
      no_stricter = λ s t u p q. le-ltb (a s) (a u) (omega (arith, ltb-false (a s) (a t) p, ltb-false (a t) (a u) q));
      nothing_least = λ s. le-ltb 100_000_001 (a s) (allowance_most d s);
      sg_nothing = λ n o. lt-ltb (speed_of d n o) 100_000_001 (omega (arith, speed_most d n o));
      sbh_nothing = refl;
      sg_sg = λ n o m p. refl;
      sbh_sg = λ n o. lt-ltb 0 (speed_of d n o) (speed_least d n o);
      none_sbh = λ s. le-ltb (a s) 0 (omega arith);
    }
