-- `part_of` is within the limit, and it is the whole part of a float's size if that is.
-- By powers of 2, over the format. Assumes nothing.
use mathlib.Core.Path.{◌≡◌, refl, sym, ap, ◌∙◌}
use mathlib.Core.Bool.{Bool, true, false, cond, ◌&&◌}
use Prim.Native.Nat.{ℕ, suc, ◌+◌, ◌-◌, ◌*◌, ◌/◌, ◌%◌, ◌^◌, ◌≤◌, ◌<◌}
use native.Mathlib.Nat.{le_trans, le_of_eq, lt_of_lt_of_le, lt_irrefl, mul_assoc, mul-one, add-mul, mul-le-mul_right, le-add_right, mod-lt, div-eq_of_lt, le-div_iff_mul-le}
use native.Mathlib.Omega.{arith}
use lib.Dec.{leb, lit≤}
use lib.Pow.{pow-add, pow_pos, pow_mono, shl_lt, shr_lt}
use lib.Ieee.{Format, binary32, binary64, prec, emax, low, hid, top}
use lib.Ieee.Fits.{two, reach}
use lib.Ieee.Nearest.{div_same}
use borrow.Author.Tests.{leb-true, leb-false, lt-leb}
use Rattle.whole.specs.Whole.{limit}
use Rattle.whole.specs.Bits.{whole_part, pattern_digits, part_of}

-- ---- within the limit

pub shifted_lt : (t k n : ℕ) → t < 2 ^ 52 → k ≤ 52 → k < n → (2 ^ 52 + t) / 2 ^ (52 - k) < 2 ^ n
shifted_lt t k n h l g = shr_lt n (52 - k) (lt_of_lt_of_le more (pow_mono {i = 53} (omega arith)))
  where
    more : 2 ^ 52 + t < 2 ^ 53
    more = omega arith

whole_part_within : (x bias t : ℕ) → t < 2 ^ 52 → whole_part x bias t ≤ limit
whole_part_within x bias t h = go (leb bias x) (leb (x - bias) 26) refl
  where
    go : (a b : Bool) → leb (x - bias) 26 ≡ b → cond (a && b) ((2 ^ 52 + t) / 2 ^ (52 - (x - bias))) 0 ≤ limit
    go true true p = let k = leb-true (x - bias) 26 p in omega (arith, shifted_lt t (x - bias) 27 h (omega arith) (omega arith))
    go true false p = omega arith
    go false b p = omega arith

digits_lt : (f : Format) (t : ℕ) → t < hid f → pattern_digits f t < 2 ^ 52
digits_lt binary32 t h = shl_lt 23 29 h
digits_lt binary64 t h = h

pub part_of_within : (f : Format) (b : ℕ) → part_of f b ≤ limit
part_of_within f b =
    let t = b % hid f in
    whole_part_within (b % top f / hid f) (emax f) (pattern_digits f t) (digits_lt f t (mod-lt b (pow_pos (prec f - 1))))

-- ---- the whole part of the size that an exponent field and the digits t give

lead_lt : (f : Format) (t : ℕ) → t < hid f → hid f + t < 2 ^ prec f
lead_lt binary32 t h = omega arith
lead_lt binary64 t h = omega arith

widened : (f : Format) (t : ℕ) → (hid f + t) * 2 ^ (53 - prec f) ≡ 2 ^ 52 + pattern_digits f t
widened binary32 t = add-mul (2 ^ 23) t (2 ^ 29)
widened binary64 t = mul-one (2 ^ 52 + t)

narrow : (f : Format) → prec f ≤ 53
narrow binary32 = lit≤ tt
narrow binary64 = lit≤ tt

joined : (n i j : ℕ) → n * 2 ^ i * 2 ^ j ≡ n * 2 ^ (i + j)
joined n i j = mul_assoc n (2 ^ i) (2 ^ j) ∙ ap (λ (k : ℕ). n * k) (sym (pow-add 2 i j))

-- of q * 2 ^ j times the format's smallest value: q is t at a field of 0, and has the leading digit at a field of j + 1
abbrev pub whole_size : Format → ℕ → ℕ → ℕ
whole_size f q j = q * 2 ^ j / 2 ^ low f

module _ (f : Format) (t : ℕ) (small : t < hid f) where
  pub part_is_0 : whole_size f t 0 ≡ whole_part 0 (emax f) (pattern_digits f t)
  part_is_0 =
      let p = two f in
      let r = reach f in
      let e : 0 < emax f = omega arith in
      simp (lt-leb _ _ e) (div-eq_of_lt (lt_of_lt_of_le (shl_lt (prec f - 1) 0 small) (pow_mono (omega arith))))

  below_1 : (j : ℕ) → suc j < emax f → whole_size f (hid f + t) j ≡ 0
  below_1 j h = div-eq_of_lt (lt_of_lt_of_le (shl_lt (prec f) j (lead_lt f t small)) (pow_mono (omega arith)))

  up_to_limit : (j : ℕ) → emax f ≤ suc j → suc j - emax f ≤ 26 → whole_size f (hid f + t) j ≡ (2 ^ 52 + pattern_digits f t) / 2 ^ (52 - (suc j - emax f))
  up_to_limit j lo hi =
      let p = two f in
      let r = narrow f in
      let k = 52 - (suc j - emax f) in
      let same : j + k ≡ (53 - prec f) + low f = omega arith in
      div_same ((hid f + t) * 2 ^ j) (2 ^ low f) (2 ^ 52 + pattern_digits f t) (2 ^ k) (pow_pos (low f)) (pow_pos k)
      (joined (hid f + t) j k
      ∙ ap (λ (i : ℕ). (hid f + t) * 2 ^ i) same
      ∙ sym (joined (hid f + t) (53 - prec f) (low f))
      ∙ ap (λ (i : ℕ). i * 2 ^ low f) (widened f t))

  beyond_limit : (j : ℕ) → 26 < suc j - emax f → limit < whole_size f (hid f + t) j
  beyond_limit j h =
      let p = two f in
      (le-div_iff_mul-le (pow_pos (low f))).1
      (le_trans (le_of_eq (sym (pow-add 2 27 (low f))))
      (le_trans (pow_mono (omega arith))
      (le_trans (le_of_eq (pow-add 2 (prec f - 1) j)) (mul-le-mul_right (2 ^ j) (le-add_right (hid f) t)))))

  pub part_is : (j : ℕ) → whole_size f (hid f + t) j ≤ limit → whole_size f (hid f + t) j ≡ whole_part (suc j) (emax f) (pattern_digits f t)
  part_is j l = go (leb (emax f) (suc j)) refl (leb (suc j - emax f) 26) refl
    where
      go : (a : Bool) → leb (emax f) (suc j) ≡ a → (b : Bool) → leb (suc j - emax f) 26 ≡ b
          → whole_size f (hid f + t) j ≡ cond (a && b) ((2 ^ 52 + pattern_digits f t) / 2 ^ (52 - (suc j - emax f))) 0
      go true p true q = up_to_limit j (leb-true _ _ p) (leb-true _ _ q)
      go true p false q = absurd (lt_irrefl limit (lt_of_lt_of_le (beyond_limit j (leb-false _ _ q)) l))
      go false p b q = below_1 j (leb-false _ _ p)
