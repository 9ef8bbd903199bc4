-- Two's complement as the code works it out: in 32 bits by the library's cast, and in 28 by half the width added first and taken off last. Assumes nothing.
use mathlib.Core.Path.{◌≡◌, refl, sym, ap, ◌∙◌, subst}
use Prim.Native.Nat.{ℕ, zero, suc, ◌+◌, ◌-◌, ◌%◌, ◌≤◌, ◌<◌}
use native.Mathlib.Omega.{arith}
use lib.IntN.{ℤ, pos, negsuc, ◌-ℤ◌}
use mir.Syntax.{w32}
use mir.Val.{SFits, to_z}
use Rattle.std.specs.Int.{cast_signed}
use mir.ValLaws.{to_z_pos}
use mathlib.Core.Bool.{Bool, true, false, cond}
use lib.Dec.{ltb}
use borrow.Author.Tests.{lt-ltb, le-ltb, ltb-true, ltb-false}
use Rattle.words.specs.Words.{twos}

less : (b m : ℕ) → b < m → pos b -ℤ pos m ≡ negsuc (m - suc b)
less b zero h = elim h [ ]
less b (suc m) h = simp (lt-ltb _ _ h)

-- ---- in 32 bits

pub casts : (b : ℕ) → b < 4294967296 → cast_signed w32 b ≡ twos 2147483648 b
unfolding twos
casts b h = go (ltb b 2147483648)
  where
    go : (t : Bool) → cond t (pos b) (negsuc (4294967296 - suc b)) ≡ cond t (pos b) (pos b -ℤ pos 4294967296)
    go true = refl
    go false = sym (less b 4294967296 h)

-- ---- in 28 bits

not_less : (a m : ℕ) → m ≤ a → pos a -ℤ pos m ≡ pos (a - m)
not_less a zero h = ap pos (omega arith)
not_less a (suc m) h = simp (le-ltb _ _ h)

pub shifted : (b : ℕ) → b < 268435456 → pos ((b + 134217728) % 268435456) -ℤ pos 134217728 ≡ twos 134217728 b
unfolding twos
shifted b h = go (ltb b 134217728) refl
  where
    go : (t : Bool) → ltb b 134217728 ≡ t → pos ((b + 134217728) % 268435456) -ℤ pos 134217728 ≡ cond t (pos b) (pos b -ℤ pos 268435456)
    go true q =
        let l = ltb-true b 134217728 q in
        not_less ((b + 134217728) % 268435456) 134217728 (omega arith) ∙ ap pos (omega arith)
    go false q =
        let l = ltb-false b 134217728 q in
        less ((b + 134217728) % 268435456) 134217728 (omega arith) ∙ ap negsuc (omega arith) ∙ sym (less b 268435456 h)

-- what the code makes of b
abbrev taken_off : ℕ → ℤ
taken_off b = to_z w32 ((b + 134217728) % 268435456) -ℤ pos 134217728

module _ (b : ℕ) (h : b < 268435456) where
  pub shifted_is : taken_off b ≡ twos 134217728 b
  shifted_is = ap (λ (z : ℤ). z -ℤ pos 134217728) (to_z_pos w32 ((b + 134217728) % 268435456) (omega arith)) ∙ shifted b h

  pub shifted_fits : SFits w32 (taken_off b)
  unfolding twos
  shifted_fits = subst (λ (z : ℤ). SFits w32 z) (sym shifted_is) (go (ltb b 134217728) refl)
    where
      go : (t : Bool) → ltb b 134217728 ≡ t → SFits w32 (twos 134217728 b)
      go true q = simp q (record { sfits = omega (arith, ltb-true b 134217728 q) })
      go false q = simp (q, less b 268435456 h) (record { sfits = omega (arith, ltb-false b 134217728 q) })
