-- Laws of the ranks and their numbers, by cases on the rank. Assumes nothing.
use Prim.Native.Nat.{ℕ, zero, suc, ◌≤◌, max}
use mathlib.Core.Path.{◌≡◌, refl, sym, ap, ◌∙◌}
use mathlib.Core.Bool.{Bool, true, false, cond}
use native.Mathlib.Omega.{arith}
use borrow.Author.Tests.{ltb-true, ltb-false}
use lib.Dec.{ltb}
use Rattle.rank.specs.declared.Rank.{Rank}
use Rattle.rank.specs.declared.Rank.TheVariants.{None, E, D, C, B, A}
use Rattle.rank.specs.Rank.{rank_number, rank_from, stronger_of}

pub rank_le : (r : Rank) → rank_number r ≤ 5
rank_le None = omega arith
rank_le E = omega arith
rank_le D = omega arith
rank_le C = omega arith
rank_le B = omega arith
rank_le A = omega arith

pub stronger_max : (a b : Rank) → rank_number (stronger_of a b) ≡ max (rank_number a) (rank_number b)
stronger_max a b = go (ltb (rank_number a) (rank_number b)) refl
  where
    go : (t : Bool) → ltb (rank_number a) (rank_number b) ≡ t → rank_number (cond t b a) ≡ max (rank_number a) (rank_number b)
    go true q = omega (arith, ltb-true (rank_number a) (rank_number b) q)
    go false q = omega (arith, ltb-false (rank_number a) (rank_number b) q)

pub rank_from-number : (n : ℕ) → n ≤ 5 → rank_number (rank_from n) ≡ n
rank_from-number zero h = refl
rank_from-number (suc zero) h = refl
rank_from-number (suc (suc zero)) h = refl
rank_from-number (suc (suc (suc zero))) h = refl
rank_from-number (suc (suc (suc (suc zero)))) h = refl
rank_from-number (suc (suc (suc (suc (suc n))))) h = omega arith

pub number-rank_from : (r : Rank) → rank_from (rank_number r) ≡ r
number-rank_from None = refl
number-rank_from E = refl
number-rank_from D = refl
number-rank_from C = refl
number-rank_from B = refl
number-rank_from A = refl

pub number_injective : (a b : Rank) → rank_number a ≡ rank_number b → a ≡ b
number_injective a b e = sym (number-rank_from a) ∙ ap rank_from e ∙ number-rank_from b

pub stronger_assoc : (a b c : Rank) → stronger_of (stronger_of a b) c ≡ stronger_of a (stronger_of b c)
stronger_assoc a b c =
    number_injective _ _ (omega (arith, stronger_max (stronger_of a b) c, stronger_max a b, stronger_max a (stronger_of b c), stronger_max b c))

pub stronger_none : (r : Rank) → stronger_of r None ≡ r
stronger_none r = number_injective _ r (omega (arith, stronger_max r None))

pub none_stronger : (r : Rank) → stronger_of None r ≡ r
none_stronger r = number_injective _ r (omega (arith, stronger_max None r))
