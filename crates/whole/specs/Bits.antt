-- What the private functions work out from a float's bits. No public contract cites this file: that it comes to `whole_of` is proved.
use Rattle.std.specs.Prelude.{ℕ, ◌+◌, ◌-◌, ◌*◌, ◌/◌, ◌%◌, ◌^◌, ◌≡◌, Bool, cond, ◌&&◌, ℤ, pos, neg_ℤ, leb, Float, Option, Some, None, is_nan}
use Rattle.std.specs.Float.{Format, binary32, binary64}
use Rattle.std.specs.Float.Ieee.{emax, hid, top, eq, of_int}

-- The whole part of (1 + t / 2 ^ 52) * 2 ^ (x - bias) if that is 1 or more and below 2 ^ 27, else 0.
abbrev pub whole_part : ℕ → ℕ → ℕ → ℕ
whole_part x bias t = cond (leb bias x && leb (x - bias) 26) ((2 ^ 52 + t) / 2 ^ (52 - (x - bias))) 0

-- A pattern's digits, counted in 2 ^ -52: a binary32 has 29 fewer.
abbrev pub pattern_digits : Format → ℕ → ℕ
pattern_digits binary32 t = t * 2 ^ 29
pattern_digits binary64 t = t

-- The whole part of a pattern's magnitude, from its exponent field and its digits.
abbrev pub part_of : Format → ℕ → ℕ
part_of f b = whole_part (b % top f / hid f) (emax f) (pattern_digits f (b % hid f))

-- n, negative if s is true; minus zero is 0.
abbrev pub with_sign : Bool → ℕ → ℤ
with_sign s n = cond s (neg_ℤ (pos n)) (pos n)

-- The number of a pattern, without its fraction.
abbrev pub pattern_number : Format → ℕ → ℤ
pattern_number f b = with_sign (leb (top f) b) (part_of f b)

-- z, if x equals z turned back into a binary64.
abbrev pub compared : Float → ℤ → Option ℤ
compared x z = cond (eq x (of_int binary64 z)) (Some z) None

-- Where a pattern of a format has its parts, as numbers: the leading digit's weight, the sign's, the exponent field of 1.0, and what makes digits those
-- of a binary64.
pub record Layout (f : Format) (lead sign bias spread : ℕ) : Type 0 where
  pub lead_is : lead ≡ hid f
  pub sign_is : sign ≡ top f
  pub bias_is : bias ≡ emax f
  pub spread_is : (t : ℕ) → t * spread ≡ pattern_digits f t

-- A float that is a number, or none.
abbrev pub unless_nan : Float → Option Float
unless_nan x = cond (is_nan x) None (Some x)
