-- The reading of floats, over their format: what the bits give, turned back and compared, is what the float stands for.
-- Whatever a float stands for, its bits give; so the comparison with that one number decides. Assumes nothing.
use mathlib.Core.Path.{◌≡◌, refl, sym, ap, ◌∙◌, subst}
use mathlib.Core.Bool.{Bool, true, false, cond}
use Prim.Native.Nat.{ℕ, zero, suc, ◌+◌, ◌-◌, ◌*◌, ◌/◌, ◌%◌, ◌^◌, ◌≤◌, ◌<◌}
use native.Mathlib.Nat.{le_trans, le_of_eq, mod-lt}
use lib.IntN.{ℤ, nat_abs}
use lib.Dec.{T, leb, eqb}
use lib.Pow.{pow_pos}
use lib.Ieee.{Float, nan, inf, fin, Format, prec, emax, low, up, down, odd, fits, hid, ones, top, of_fields, of_bits, to_bits, eq}
use lib.Ieee.Fits.{down_pos}
use lib.Ieee.Bits.{of_bits-to_bits}
use lib.Ieee.Exact.{HasValue, odd_sign}
use lib.Ieee.Nearest.{div_same}
use Rattle.std.specs.Prelude.{Option, Some, None}
use Rattle.whole.specs.Whole.{limit, exact, whole_of}
use Rattle.whole.specs.Stands.{StandsFor}
use Rattle.whole.specs.Bits.{whole_part, pattern_digits, part_of, with_sign, pattern_number, compared}
use Rattle.whole.proofs.Equal.{infinite_differs, equals_whole, turned_back}
use Rattle.whole.proofs.Stands.{stands}
use Rattle.whole.proofs.Part.{part_of_within, whole_size, part_is_0, part_is}

-- ---- what a float stands for, its bits give

-- a float of the size a / c, of which n is the whole part if that is within the limit
value_gives : (y : Float) (s : Bool) (a c n : ℕ) → 0 < c → HasValue y s a c → (a / c ≤ limit → a / c ≡ n)
    → (z : ℤ) → StandsFor y z → with_sign s n ≡ z
value_gives nan s a c n p v whole z h = absurd v
value_gives (inf t) s a c n p v whole z h = absurd v
value_gives (fin t m e) s a c n p v whole z h =
    let is = equals_whole t m e z h.equals in
    let size : a / c ≡ nat_abs z = sym (div_same (m * up e) (down e) a c (down_pos e) p v.1) ∙ is.0 in
    let n-is : n ≡ nat_abs z = sym (whole (le_trans (le_of_eq size) h.within)) ∙ size in
    ap (with_sign s) n-is ∙ ap (λ (b : Bool). with_sign b (nat_abs z)) (sym v.0) ∙ is.1

module _ (f : Format) (s : Bool) (t : ℕ) (small : t < hid f) (z : ℤ) where
  odd_gives : (q j n : ℕ) → (whole_size f q j ≤ limit → whole_size f q j ≡ n) → StandsFor (odd (prec f) s q j (low f)) z → with_sign s n ≡ z
  odd_gives q j n whole =
      value_gives (odd (prec f) s q j (low f)) s (q * 2 ^ j) (2 ^ low f) n (pow_pos (low f)) (odd_sign (prec f) s q j (low f)) whole z

  fields_give : (x : ℕ) → StandsFor (of_fields f s x t) z → with_sign s (whole_part x (emax f) (pattern_digits f t)) ≡ z
  unfolding of_fields eq
  fields_give zero h = odd_gives t 0 (whole_part 0 (emax f) (pattern_digits f t)) (λ _. part_is_0 f t small) h
  fields_give (suc j) h = go (eqb (suc j) (ones f)) (eqb t 0) h
    where
      go : (a b : Bool) → StandsFor (cond a (cond b (inf s) nan) (odd (prec f) s (hid f + t) j (low f))) z
          → with_sign s (whole_part (suc j) (emax f) (pattern_digits f t)) ≡ z
      go true true k = absurd (infinite_differs s z k.equals)
      go true false k = absurd k.equals
      go false b k = odd_gives (hid f + t) j (whole_part (suc j) (emax f) (pattern_digits f t)) (part_is f t small j) k

bits_give : (f : Format) (x : Float) → T (fits f x) → (z : ℤ) → StandsFor x z → pattern_number f (to_bits f x) ≡ z
unfolding of_bits
bits_give f x fit z h =
    let b = to_bits f x in
    fields_give f (leb (top f) b) (b % hid f) (mod-lt b (pow_pos (prec f - 1))) z (b % top f / hid f)
    (subst (λ (y : Float). StandsFor y z) (sym (of_bits-to_bits f x fit)) h)

-- ---- the law

-- the comparison with z decides, if x can stand for nothing else
decides : (x : Float) (z : ℤ) → nat_abs z ≤ limit → ((w : ℤ) → StandsFor x w → z ≡ w) → cond (eq x (exact z)) (Some z) None ≡ whole_of x
decides x z small only = go (eq x (exact z)) refl
  where
    go : (b : Bool) → eq x (exact z) ≡ b → cond b (Some z) None ≡ whole_of x
    go true h = sym ((stands x z).1 (record { equals = subst T (sym h) tt; within = small }))
    go false h = other (whole_of x) refl
      where
        other : (r : Option ℤ) → whole_of x ≡ r → None ≡ r
        other None q = refl
        other (Some w) q =
            let k = (stands x w).0 q in
            absurd (subst T h (subst (λ (y : ℤ). T (eq x (exact y))) (sym (only w k)) k.equals))

with_sign_size : (s : Bool) (n : ℕ) → nat_abs (with_sign s n) ≡ n
with_sign_size false n = refl
with_sign_size true zero = refl
with_sign_size true (suc n) = refl

-- "The whole-number reading of floats is proved over their width": f is any format, x any float that it holds
pub reading : (f : Format) (x : Float) → T (fits f x) → compared x (pattern_number f (to_bits f x)) ≡ whole_of x
reading f x fit =
    let b = to_bits f x in
    let z = pattern_number f b in
    let small : nat_abs z ≤ limit = le_trans (le_of_eq (with_sign_size (leb (top f) b) (part_of f b))) (part_of_within f b) in
    ap (λ (q : Bool). cond q (Some z) None) (turned_back x z small) ∙ decides x z small (bits_give f x fit)
