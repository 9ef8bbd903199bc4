-- A datum that a list lacks, whose place holds 0, is read as W1 says: one computed test over the data behind 50. Assumes nothing.
use mathlib.Core.Path.{◌≡◌, ◌∙◌, subst}
use mathlib.Core.Bool.{Bool}
use mathlib.Core.List.{List}
use Prim.Native.Nat.{ℕ, ◌+◌, ◌-◌, ◌≤◌, ◌<◌}
use native.Mathlib.Omega.{arith}
use borrow.Author.Tests.{lt-ltb}
use lib.Dec.{eqb, eqb→eq}
use lib.ListN.{get_or}
use lib.IntN.{ℤ, pos}
use Rattle.ranges.specs.Table.{data_count, low_of, high_of}
use Rattle.machine_data.specs.Data.{nearest, datum_of, size, number_of, lacked_of}
use Rattle.machine_data.proofs.Bounds.{each_at}

-- datum 51 + i, from 0
read_as_lacked : ℕ → Bool
read_as_lacked i = eqb (size (nearest (low_of (51 + i)) (high_of (51 + i)) (pos 0))) (lacked_of (51 + i))

-- W1: "A list headed 51 is read with every ratio 1 to 1"; "in a shorter list they count as 0"
pub lacks : (d : List ℤ) (k : ℕ) → 51 ≤ k → k < data_count → get_or d k (pos 0) ≡ pos 0 → number_of d k ≡ lacked_of k
unfolding number_of datum_of nearest read_as_lacked
lacks d k h l none =
    let behind : 51 + (k - 51) ≡ k = omega arith in
    let at : number_of d k ≡ size (nearest (low_of k) (high_of k) (pos 0)) = simp (lt-ltb k data_count l, none) in
    let same : size (nearest (low_of k) (high_of k) (pos 0)) ≡ lacked_of k =
    subst (λ (j : ℕ). size (nearest (low_of j) (high_of j) (pos 0)) ≡ lacked_of j) behind
    (eqb→eq _ _ (each_at read_as_lacked (data_count - 51) (k - 51) tt (omega arith))) in
    at ∙ same
