-- A datum is read within its range, and as it stands where it lies there: so in every accepted list. Assumes nothing.
use mathlib.Core.Path.{◌≡◌, refl, sym, subst}
use mathlib.Core.List.{List}
use mathlib.Core.Bool.{Bool, true, false, cond, ◌&&◌}
use Prim.Native.Nat.{ℕ, ◌≤◌, ◌<◌}
use native.Mathlib.Omega.{arith}
use lib.ListN.{get_or}
use lib.IntN.{ℤ, pos, negsuc}
use lib.Signed.{lt_z, le_z, lt_z_yes, le_z_yes, ≤ℤ_refl, clash_ℤ}
use lib.Dec.{T, ltb, leb→le, lt→ltb}
use lib.Ieee.Fits.{and_i, and_l, and_r}
use lib.Ieee.Bits.{is_true}
use Rattle.ranges.specs.Table.{data_count, low_of, high_of, in_range}
use Rattle.ranges.proofs.Rising.{rises}
use Rattle.ranges.proofs.Tests.{not_lt_le}
use Rattle.machine_data.specs.Data.{nearest, datum_of, size, number_of}

not_lt : (a b : ℤ) → T (le_z a b) → lt_z b a ≡ false
not_lt a b h = go (lt_z b a) refl
  where
    go : (t : Bool) → lt_z b a ≡ t → lt_z b a ≡ false
    go true q = clash_ℤ {a = b} {b = a} (lt_z_yes (subst T (sym q) tt)) (le_z_yes h)
    go false q = q

-- ---- as it stands

nearest_same : (low high z : ℤ) → T (le_z low z) → T (le_z z high) → nearest low high z ≡ z
unfolding nearest
nearest_same low high z a b = simp (not_lt low z a, not_lt z high b)

pub as_stands : (d : List ℤ) (k : ℕ) → T (in_range k (get_or d k (pos 0))) → datum_of d k ≡ get_or d k (pos 0)
unfolding datum_of in_range
as_stands d k h =
    let z = get_or d k (pos 0) in
    let least = ltb k data_count && le_z (low_of k) z in
    simp (is_true (ltb k data_count) (and_l (ltb k data_count) (le_z (low_of k) z) (and_l least (le_z z (high_of k)) h)))
    (nearest_same (low_of k) (high_of k) z (and_r (ltb k data_count) (le_z (low_of k) z) (and_l least (le_z z (high_of k)) h)) (and_r least (le_z z (high_of k)) h))

-- ---- within its range

nearest_in : (low high z : ℤ) → T (le_z low high) → T (le_z low (nearest low high z)) × T (le_z (nearest low high z) high)
unfolding nearest
nearest_in low high z h = go (lt_z z low) refl (lt_z high z) refl
  where
    go : (s : Bool) → lt_z z low ≡ s → (t : Bool) → lt_z high z ≡ t → T (le_z low (cond s low (cond t high z))) × T (le_z (cond s low (cond t high z)) high)
    go true p t q = ((≤ℤ_refl low).le, h)
    go false p true q = (h, (≤ℤ_refl high).le)
    go false p false q = (subst T (sym (not_lt_le z low p)) tt, subst T (sym (not_lt_le high z q)) tt)

pub in_range_lem : (d : List ℤ) (k : ℕ) → k < data_count → T (in_range k (datum_of d k))
unfolding datum_of in_range
in_range_lem d k h =
    let z = nearest (low_of k) (high_of k) (get_or d k (pos 0)) in
    let r = nearest_in (low_of k) (high_of k) (get_or d k (pos 0)) (rises k) in
    simp (is_true (ltb k data_count) (lt→ltb k data_count h)) (and_i (le_z (low_of k) z) (le_z z (high_of k)) r.0 r.1)

-- ---- the same of a number, for whoever computes with it

module _ (d : List ℤ) (k n : ℕ) (h : k < data_count) where
  pub number_high : high_of k ≡ pos n → number_of d k ≤ n
  unfolding number_of in_range
  number_high e = go (datum_of d k) (subst (λ (z : ℤ). T (le_z (datum_of d k) z)) e (and_r (ltb k data_count && le_z (low_of k) (datum_of d k)) (le_z (datum_of d k) (high_of k)) (in_range_lem d k h)))
    where
      go : (z : ℤ) → T (le_z z (pos n)) → size z ≤ n
      go (pos m) t = leb→le m n t
      go (negsuc m) t = omega arith

  at_least : low_of k ≡ pos n → T (le_z (pos n) (datum_of d k))
  unfolding in_range
  at_least e = subst (λ (z : ℤ). T (le_z z (datum_of d k))) e (and_r (ltb k data_count) (le_z (low_of k) (datum_of d k)) (and_l (ltb k data_count && le_z (low_of k) (datum_of d k)) (le_z (datum_of d k) (high_of k)) (in_range_lem d k h)))

  pub number_low : low_of k ≡ pos n → n ≤ number_of d k
  unfolding number_of
  number_low e = go (datum_of d k) (at_least e)
    where
      go : (z : ℤ) → T (le_z (pos n) z) → n ≤ size z
      go (pos m) t = leb→le n m t
      go (negsuc m) t = absurd t

  -- a datum that is never below 0 is its number
  pub as_number : low_of k ≡ pos n → datum_of d k ≡ pos (number_of d k)
  unfolding number_of
  as_number e = go (datum_of d k) (at_least e)
    where
      go : (z : ℤ) → T (le_z (pos n) z) → z ≡ pos (size z)
      go (pos m) t = refl
      go (negsuc m) t = absurd t
