-- How many codes a list has: no code twice, and one fewer than the table has rows where two of them exclude each other. Assumes nothing.
use Prim.Native.Nat.{ℕ, ◌+◌, ◌≤◌, ◌<◌}
use mathlib.Core.Path.{◌≡◌, refl}
use mathlib.Core.Bool.{Bool, true, false, ◌&&◌, true≢false}
use mathlib.Core.List.{List, [], ◌∷◌}
use lib.Dec.{eqb}
use lib.ListN.{length}
use native.Mathlib.Omega.{arith}
use borrow.Author.Tests.{eqb-true}
use Rattle.bits.specs.Bits.{flag}
use Rattle.causes.specs.declared.Cause.{Cause}
use Rattle.code_places.specs.Places.{in_order}
use Rattle.code_places.proofs.Ranks.{many_more, flag_most, rows_most}
use Rattle.codes_order.specs.Lists.{wanted, Rising}

-- ---- two that exclude each other

one_of_two : (a b : Bool) → a && b ≡ false → flag a + flag b ≤ 1
one_of_two true true e = absurd (true≢false e)
one_of_two true false e = omega arith
one_of_two false b e = omega (arith, flag_most b)

-- of a table's first two rows not both stand
abbrev pub FirstApart : List Cause → Type 0
FirstApart [] = ⊥
FirstApart (c ∷ []) = ⊥
FirstApart (c ∷ x ∷ rows) = c.stands && x.stands ≡ false

pub two_exclude : (rows : List Cause) → FirstApart rows → length (in_order rows) < length rows
two_exclude [] e = elim e [ ]
two_exclude (c ∷ []) e = elim e [ ]
two_exclude (c ∷ x ∷ rows) e = omega (arith, many_more c (x ∷ rows), many_more x rows, rows_most rows, one_of_two c.stands x.stands e)

-- ---- "each code once"

module _ (k : ℕ) where
  absent : (n : ℕ) (cs : List Cause) → k ≤ n → Rising n cs → wanted k cs ≡ 0
  unfolding wanted
  absent n [] h r = refl
  absent n (c ∷ cs) h r = go c.stands (eqb c.code k) refl (absent c.code cs (omega (arith, h, r.0)) r.1)
    where
      go : (a b : Bool) → eqb c.code k ≡ b → wanted k cs ≡ 0 → flag (a && b) + wanted k cs ≡ 0
      go a true q e = absurd (apart (eqb-true c.code k q))
        where
          apart : c.code ≡ k → ⊥
          apart p = omega (arith, p, h, r.0)
      go true false q e = omega (arith, e)
      go false false q e = omega (arith, e)

  pub once : (n : ℕ) (rows : List Cause) → Rising n rows → wanted k rows ≤ 1
  unfolding wanted
  once n [] r = omega arith
  once n (c ∷ cs) r = go c.stands (eqb c.code k) refl (once c.code cs r.1)
    where
      go : (a b : Bool) → eqb c.code k ≡ b → wanted k cs ≤ 1 → flag (a && b) + wanted k cs ≤ 1
      go a true q e = omega (arith, flag_most (a && true), absent c.code cs (omega (arith, eqb-true c.code k q)) r.1)
      go true false q e = omega (arith, e)
      go false false q e = omega (arith, e)
