-- A number's width, one digit at a time, over the base. Assumes nothing.
use mathlib.Core.Path.{◌≡◌, refl, ap}
use mathlib.Core.Bool.{Bool, true, false, cond}
use Prim.Native.Nat.{ℕ, zero, suc, ◌/◌, ◌≤◌, ◌<◌}
use native.Mathlib.Nat.{div-lt_self}
use native.Mathlib.Omega.{arith}
use lib.Dec.{ltb}
use borrow.Author.Tests.{lt-ltb, le-ltb, ltb-false}
use Rattle.numerals.specs.Numerals.{width_within, width}

module _ (base : ℕ) (big : 1 < base) where
  -- a quotient fits into one unit less
  pub smaller : (n most : ℕ) → base ≤ n → n ≤ suc most → n / base ≤ most
  smaller n most h k = let less : n / base < n = div-lt_self (omega arith) big in omega (arith, less)

  -- any bound that reaches the number gives the same width
  enough : (f g n : ℕ) → n ≤ f → n ≤ g → width_within base f n ≡ width_within base g n
  unfolding width_within
  enough zero zero n h k = refl
  enough zero (suc g) n h k = simp (lt-ltb n base (omega arith))
  enough (suc f) zero n h k = simp (lt-ltb n base (omega arith))
  enough (suc f) (suc g) n h k = go (ltb n base) refl (enough f g (n / base))
    where
      go : (t : Bool) → ltb n base ≡ t → (n / base ≤ f → n / base ≤ g → width_within base f (n / base) ≡ width_within base g (n / base)) →
          cond t 1 (suc (width_within base f (n / base))) ≡ cond t 1 (suc (width_within base g (n / base)))
      go true e same = refl
      go false e same = let l = ltb-false n base e in ap suc (same (smaller n f l h) (smaller n g l k))

  pub width_short : (n : ℕ) → n < base → width base n ≡ 1
  unfolding width_within
  width_short zero h = refl
  width_short (suc m) h = simp (lt-ltb (suc m) base h)

  pub width_long : (n : ℕ) → base ≤ n → width base n ≡ suc (width base (n / base))
  unfolding width_within
  width_long zero h = absurd (none h)
    where
      none : base ≤ 0 → ⊥
      none y = omega (arith, big)
  width_long (suc m) h = simp (le-ltb (suc m) base h) (ap suc (enough m (suc m / base) (suc m / base) (smaller (suc m) m h (omega arith)) (omega arith)))
