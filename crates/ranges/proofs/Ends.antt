-- Both ends of a range along a stretch of numbers of the paper's rows, by one computed test. Assumes nothing.
use mathlib.Core.Path.{◌≡◌, refl, ap, ◌∙◌}
use mathlib.Core.Bool.{Bool, true, false, ◌&&◌}
use Prim.Native.Nat.{ℕ, zero, suc, ◌+◌, ◌≤◌, ◌<◌}
use native.Mathlib.Omega.{arith}
use lib.IntN.{ℤ, pos, negsuc}
use lib.Dec.{T, eqb, ltb, eqb→eq}
use lib.Ieee.Fits.{and_l, and_r}
use borrow.Author.Tests.{ltb-true, ltb-false}
use Rattle.ranges.specs.Table.{low_of, high_of}

abbrev same : ℤ → ℤ → Bool
same (pos m) (pos n) = eqb m n
same (pos m) (negsuc n) = false
same (negsuc m) (pos n) = false
same (negsuc m) (negsuc n) = eqb m n

same_is : (y z : ℤ) → T (same y z) → y ≡ z
same_is (pos m) (pos n) t = ap pos (eqb→eq m n t)
same_is (pos m) (negsuc n) t = absurd t
same_is (negsuc m) (pos n) t = absurd t
same_is (negsuc m) (negsuc n) t = ap negsuc (eqb→eq m n t)

-- f is v at a, a + 1, .., n of them
abbrev level : (ℕ → ℤ) → ℤ → ℕ → ℕ → Bool
level f v a zero = true
level f v a (suc n) = same v (f a) && level f v (suc a) n

along : (f : ℕ → ℤ) (v : ℤ) (a n k : ℕ) → T (level f v a n) → a ≤ k → k < a + n → v ≡ f k
along f v a zero k t h l = absurd (omega (arith, h, l))
along f v a (suc n) k t h l = go (ltb a k) refl (λ later. along f v (suc a) n k (and_r (same v (f a)) (level f v (suc a) n) t) later (omega (arith, l)))
  where
    go : (b : Bool) → ltb a k ≡ b → (a < k → v ≡ f k) → v ≡ f k
    go true q later = later (ltb-true a k q)
    go false q later = same_is v (f a) (and_l (same v (f a)) (level f v (suc a) n) t) ∙ ap f (omega (arith, h, ltb-false a k q))

-- both ends along a stretch of numbers
module _ (low high : ℤ) (a n k : ℕ) (lows : T (level low_of low a n)) (highs : T (level high_of high a n)) (h : a ≤ k) (l : k < a + n) where
  pub ends_along : (low ≡ low_of k) × (high ≡ high_of k)
  ends_along = (along low_of low a n k lows h l, along high_of high a n k highs h l)
