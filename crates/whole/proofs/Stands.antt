-- `whole_of` says what the sentence says: it answers z if and only if the float stands for z. With its cases: the limit, minus zero, NaN, the infinities.
-- A float that equals z is z when cut toward zero, and that is the number that `whole_of` tries. Assumes nothing.
use mathlib.Core.Path.{◌≡◌, refl, sym, ap, ◌∙◌, subst}
use mathlib.Core.Logic.{◌↔◌}
use mathlib.Core.Bool.{Bool, true, false, cond, ◌&&◌}
use Prim.Native.Nat.{ℕ, ◌*◌, ◌-◌, ◌/◌, ◌^◌, ◌≤◌, min}
use native.Mathlib.Nat.{le_trans, le_of_eq, min-eq_left}
use native.Mathlib.Omega.{arith}
use lib.IntN.{ℤ, pos, neg_ℤ, nat_abs}
use lib.Dec.{T, leb, leb→le, le→leb, lit≤}
use lib.Ieee.{Float, nan, inf, fin, Format, binary32, binary64, up, down, top, of_bits, eq, to_signed}
use lib.Ieee.Fits.{and_l, and_r}
use lib.Ieee.Bits.{is_true}
use Rattle.std.specs.Prelude.{Some, None}
use Rattle.whole.specs.Whole.{limit, exact, whole_of}
use Rattle.whole.specs.Stands.{StandsFor}
use Rattle.whole.specs.Bits.{with_sign}
use Rattle.whole.proofs.Equal.{infinite_differs, equals_whole}

cut_is : (x : Float) (z : ℤ) → StandsFor x z → to_signed 31 x ≡ z
unfolding to_signed eq
cut_is nan z h = absurd h.equals
cut_is (inf s) z h = absurd (infinite_differs s z h.equals)
cut_is (fin s m e) z h = cut s ∙ is.1
  where
    is : (m * up e / down e ≡ nat_abs z) × (with_sign s (nat_abs z) ≡ z)
    is = equals_whole s m e z h.equals

    below : (k : ℕ) → limit ≤ k → min (m * up e / down e) k ≡ nat_abs z
    below k l = min-eq_left (le_trans (le_of_eq is.0) (le_trans h.within l)) ∙ is.0

    cut : (t : Bool) → cond t (neg_ℤ (pos (min (m * up e / down e) (2 ^ 31)))) (pos (min (m * up e / down e) (2 ^ 31 - 1))) ≡ with_sign t (nat_abs z)
    cut true = ap (λ (k : ℕ). neg_ℤ (pos k)) (below (2 ^ 31) (lit≤ tt))
    cut false = ap pos (below (2 ^ 31 - 1) (lit≤ tt))

answers : (x : Float) (z : ℤ) → StandsFor x z → whole_of x ≡ Some z
unfolding whole_of
answers x z h =
    ap (λ (w : ℤ). cond (eq x (exact w) && leb (nat_abs w) limit) (Some w) None) (cut_is x z h)
    ∙ simp (is_true (eq x (exact z)) h.equals, is_true (leb (nat_abs z) limit) (le→leb _ _ h.within))

-- the test of `whole_of`, at the number w that it tries
tested : (x : Float) (w z : ℤ) → cond (eq x (exact w) && leb (nat_abs w) limit) (Some w) None ≡ Some z → StandsFor x z
tested x w z = go (eq x (exact w) && leb (nat_abs w) limit) refl
  where
    go : (b : Bool) → (eq x (exact w) && leb (nat_abs w) limit) ≡ b → cond b (Some w) None ≡ Some z → StandsFor x z
    go true p q =
        let t : T (eq x (exact w) && leb (nat_abs w) limit) = subst T (sym p) tt in
        let is : w ≡ z = cc in
        subst (λ (y : ℤ). StandsFor x y) is (record {
          equals = and_l (eq x (exact w)) (leb (nat_abs w) limit) t;
          within = leb→le (nat_abs w) limit (and_r (eq x (exact w)) (leb (nat_abs w) limit) t);
        })
    go false p q = let n : ◌≡◌ {A = ℕ} 0 1 = cc in let no : ⊥ = omega arith in absurd no

answered : (x : Float) (z : ℤ) → whole_of x ≡ Some z → StandsFor x z
unfolding whole_of
answered x z = tested x (to_signed 31 x) z

-- "A float stands for a whole number if it equals one of magnitude at most 134,217,727"
pub stands : (x : Float) (z : ℤ) → (whole_of x ≡ Some z) ↔ StandsFor x z
stands x z = (answered x z, answers x z)

-- "of magnitude at most 134,217,727"
pub within : (x : Float) (z : ℤ) → whole_of x ≡ Some z → nat_abs z ≤ limit
within x z h = (answered x z h).within

-- "minus zero stands for 0": `top f` is the pattern of only the sign bit
pub minus_zero : (f : Format) → whole_of (of_bits f (top f)) ≡ Some (pos 0)
unfolding whole_of of_bits
minus_zero binary32 = refl
minus_zero binary64 = refl

-- a NaN and an infinity equal no whole number
pub nan_none : whole_of nan ≡ None
unfolding whole_of
nan_none = refl

pub inf_none : (s : Bool) → whole_of (inf s) ≡ None
unfolding whole_of
inf_none true = refl
inf_none false = refl
