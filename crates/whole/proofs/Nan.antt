-- How the code finds a NaN, at any format: a pattern's by one comparison, and of a float as it says of itself. Assumes nothing.
use mathlib.Core.Path.{◌≡◌, refl, sym, ap, ◌∙◌, subst}
use mathlib.Core.Bool.{Bool, true, false, cond}
use Prim.Native.Nat.{ℕ, ◌-◌, ◌*◌, ◌%◌, ◌<◌}
use lib.Dec.{T, ltb}
use lib.Ieee.{Float, nan, inf, fin, Format, binary32, binary64, is_nan, hid, ones, top, of_bits, nan_bits}
use lib.Ieee.Bits.{nan_bits_is, nan_bits_above}
use borrow.Author.Tests.{lt-ltb}
use Rattle.std.specs.Prelude.{Some, None}
use Rattle.whole.specs.Whole.{whole_of}
use Rattle.whole.specs.Bits.{Layout, unless_nan}
use Rattle.whole.proofs.Stands.{nan_none}

is_nan_lem : (x : Float) → is_nan x ≡ true → nan ≡ x
unfolding is_nan
is_nan_lem nan h = refl
is_nan_lem (inf s) h = absurd (subst T (sym h) tt)
is_nan_lem (fin s m e) h = absurd (subst T (sym h) tt)

pub bits_nan : (f : Format) (b : ℕ) → nan_bits f b ≡ true → nan ≡ of_bits f b
bits_nan f b h = is_nan_lem (of_bits f b) (sym (nan_bits_is f b) ∙ h)

pub pattern_nan : (f : Format) (b : ℕ) → ones f * hid f < b % top f → nan ≡ of_bits f b
pattern_nan f b h = bits_nan f b (nan_bits_above f b ∙ lt-ltb _ _ h)

-- infinity's pattern is the sign's weight less the leading digit's
infinity_is : (f : Format) → top f - hid f ≡ ones f * hid f
infinity_is binary32 = refl
infinity_is binary64 = refl

pub above_infinity : {f : Format} {lead sign bias spread : ℕ} → Layout f lead sign bias spread → (b : ℕ) → ltb (sign - lead) (b % sign) ≡ nan_bits f b
above_infinity {f} l b =
    (λ i. ltb (l.sign_is i - l.lead_is i) (b % l.sign_is i)) ∙ ap (λ (n : ℕ). ltb n (b % top f)) (infinity_is f) ∙ sym (nan_bits_above f b)

-- of a float that is none
module _ (x : Float) where
  pub no_number : unless_nan x ≡ None → None ≡ whole_of x
  no_number h = go (is_nan x) refl h
    where
      go : (t : Bool) → is_nan x ≡ t → cond t None (Some x) ≡ None → None ≡ whole_of x
      go true e q = sym (ap whole_of (sym (is_nan_lem x e)) ∙ nan_none)
      go false e q = absurd (cc)

  pub number_is : {w : Float} → unless_nan x ≡ Some w → w ≡ x
  number_is {w} h = go (is_nan x) h
    where
      go : (t : Bool) → cond t None (Some x) ≡ Some w → w ≡ x
      go true q = absurd (cc)
      go false q = cc
