-- What the digits of a number are good for, over the base: nothing is lost, and no zero leads. Assumes nothing.
use mathlib.Core.Path.{◌≡◌, refl, sym, ap, subst, ◌∙◌}
use mathlib.Core.Bool.{Bool, true, false, cond}
use mathlib.Core.List.{List, [], ◌∷◌, ◌++◌}
use Prim.Native.Nat.{ℕ, zero, suc, ◌+◌, ◌-◌, ◌*◌, ◌/◌, ◌%◌, ◌^◌, ◌≤◌, ◌<◌, max}
use native.Mathlib.Nat.{div-lt_iff_lt-mul, le-div_iff_mul-le, div-add-mod', mod-lt, pow-zero, pow-suc, one-mul, one-le-pow, pow-le-pow_right, mul-le-mul_right, mul_comm, le_trans}
use Rattle.std.proofs.lemmas.Nat.{pow-add}
use native.Mathlib.Omega.{arith}
use lib.ListN.{length, length-append}
use lib.Dec.{ltb}
use borrow.Author.Tests.{lt-ltb, le-ltb, ltb-true, ltb-false}
use Rattle.numerals.specs.Numerals.{glyph, digits, width}
use Rattle.numerals.proofs.Widths.{width_short, width_long}

pub length_digits : (base many n : ℕ) → length (digits base many n) ≡ many
unfolding digits
length_digits base zero n = refl
length_digits base (suc many) n = length-append (digits base many (n / base)) _ ∙ ap (λ (k : ℕ). k + 1) (length_digits base many (n / base)) ∙ omega arith

module _ (base : ℕ) (big : 1 < base) where
  -- a number below a power has no more digits than that
  pub width_most : (k n : ℕ) → n < base ^ suc k → width base n ≤ suc k
  width_most zero n h = omega (arith, width_short base big n (subst (λ (x : ℕ). n < x) (pow-suc base 0 ∙ ap (λ (x : ℕ). x * base) (pow-zero base) ∙ one-mul base) h))
  width_most (suc k) n h = go (ltb n base) refl (width_most k (n / base) ((div-lt_iff_lt-mul (omega arith)).1 (subst (λ (x : ℕ). n < x) (pow-suc base (suc k)) h)))
    where
      go : (t : Bool) → ltb n base ≡ t → width base (n / base) ≤ suc k → width base n ≤ suc (suc k)
      go true e less = omega (arith, width_short base big n (ltb-true n base e))
      go false e less = omega (arith, width_long base big n (ltb-false n base e), less)

  pub width_least : (k n : ℕ) → base ^ k ≤ n → k < width base n
  width_least zero n h = go (ltb n base) refl
    where
      go : (t : Bool) → ltb n base ≡ t → 0 < width base n
      go true e = omega (arith, width_short base big n (ltb-true n base e))
      go false e = omega (arith, width_long base big n (ltb-false n base e))
  width_least (suc k) n h = go (ltb n base) refl (width_least k (n / base) ((le-div_iff_mul-le (omega arith)).1 (subst (λ (x : ℕ). x ≤ n) (pow-suc base k) h)))
    where
      none : 1 * base ≤ base ^ k * base → n < base → ⊥
      none y z = omega (arith, y, z, h, pow-suc base k)

      go : (t : Bool) → ltb n base ≡ t → k < width base (n / base) → suc k < width base n
      go true e less = absurd (none (mul-le-mul_right base (one-le-pow k base (omega arith))) (ltb-true n base e))
      go false e less = omega (arith, width_long base big n (ltb-false n base e), less)

  -- a number between two powers has as many digits as the upper one's exponent, 0 as many as 1
  pub width_between : (k n : ℕ) → base ^ k ≤ max n 1 → max n 1 < base * base ^ k → width base n ≡ k + 1
  width_between zero zero least most = width_short base big 0 (omega arith)
  width_between (suc k) zero least most = absurd (none (mul-le-mul_right base (one-le-pow k base (omega arith))))
    where
      none : 1 * base ≤ base ^ k * base → ⊥
      none h = omega (arith, h, least, pow-suc base k)
  width_between k (suc n) least most =
      let above : suc n < base ^ suc k = omega (arith, most, pow-suc base k, mul_comm base (base ^ k)) in
      omega (arith, width_least k (suc n) (omega (arith, least)), width_most k (suc n) above)

  -- the number that digits stand for, and a digit's own
  abbrev figure : ℕ → ℕ
  figure c = cond (ltb c 58) (c - 48) (c - 87)

  abbrev pub value_of : ℕ → List ℕ → ℕ
  value_of before [] = before
  value_of before (c ∷ rest) = value_of (before * base + figure c) rest

  value_snoc : (before : ℕ) (l : List ℕ) (c : ℕ) → value_of before (l ++ (c ∷ [])) ≡ value_of before l * base + figure c
  value_snoc before [] c = refl
  value_snoc before (x ∷ l) c = value_snoc (before * base + figure x) l c

  figure_glyph : (d : ℕ) → d < 16 → figure (glyph d) ≡ d
  unfolding glyph
  figure_glyph d h = go (ltb d 10) refl
    where
      go : (t : Bool) → ltb d 10 ≡ t → figure (cond t (48 + d) (87 + d)) ≡ d
      go true e = simp (lt-ltb (48 + d) 58 (omega (arith, ltb-true d 10 e))) (omega arith)
      go false e = simp (le-ltb (87 + d) 58 (omega (arith, ltb-false d 10 e))) (omega arith)

  -- digits read back give the number, where they are enough for it
  pub read_back : base ≤ 16 → (many n : ℕ) → n < base ^ many → value_of 0 (digits base many n) ≡ n
  unfolding digits
  read_back b zero n h = omega (arith, pow-zero base)
  read_back b (suc many) n h =
      value_snoc 0 (digits base many (n / base)) (glyph (n % base))
      ∙ ap (λ (x : ℕ). x * base + figure (glyph (n % base))) (read_back b many (n / base) ((div-lt_iff_lt-mul (omega arith)).1 (subst (λ (x : ℕ). n < x) (pow-suc base many) h)))
      ∙ ap (λ (x : ℕ). n / base * base + x) (figure_glyph (n % base) (le_trans (mod-lt n (omega arith)) b))
      ∙ div-add-mod' n base

-- four binary digits are one of base 16
hexes : (k : ℕ) → 16 ^ k ≡ 2 ^ (4 * k)
hexes zero = refl
hexes (suc k) = pow-suc 16 k ∙ ap (λ (x : ℕ). x * 16) (hexes k) ∙ sym (pow-add 2 (4 * k) 4) ∙ ap (λ (m : ℕ). 2 ^ m) {x = 4 * k + 4} {y = 4 * suc k} (omega arith)

pub width_hex : (j n : ℕ) → 2 ^ j ≤ max n 1 → max n 1 < 2 * 2 ^ j → width 16 n ≡ j / 4 + 1
width_hex j n least most =
    let low : 2 ^ (4 * (j / 4)) ≤ 2 ^ j = pow-le-pow_right (omega arith) (omega arith) in
    let high : 2 ^ suc j ≤ 2 ^ (4 * suc (j / 4)) = pow-le-pow_right (omega arith) (omega arith) in
    width_between 16 (omega arith) (j / 4) n
    (omega (arith, hexes (j / 4)))
    (omega (arith, hexes (suc (j / 4)), pow-suc 2 j, pow-suc 16 (j / 4)))
