-- What it takes for a float to equal a whole number: it is finite, in size it is that number, and the signs agree unless both are 0.
-- By the clauses of `eq`; a factor on both sides of it drops out. Assumes nothing.
use mathlib.Core.Path.{◌≡◌, refl, sym, ap, ◌∙◌}
use mathlib.Core.Logic.{◌⊎◌, inl, inr}
use mathlib.Core.Bool.{Bool, true, false, ◌&&◌, ◌||◌, beq}
use Prim.Native.Nat.{ℕ, suc, ◌*◌, ◌/◌, ◌≤◌, ◌<◌}
use native.Mathlib.Nat.{le_trans, mul-one, zero-mul, mul_right_comm, eq_of_mul-eq-mul_right, zero-div, div-eq_of_eq-mul_left}
use native.Mathlib.Omega.{arith}
use lib.IntN.{ℤ, pos, negsuc, nat_abs}
use lib.Dec.{T, eqb, eqb→eq, lit≤}
use lib.Ieee.{Float, nan, inf, fin, binary64, up, down, level, eq, of_int}
use lib.Ieee.Fits.{down_pos, and_l, and_r}
use lib.Ieee.Exact.{HasValue}
use lib.Ieee.Back.{round_whole}
use borrow.Author.Tests.{eqb-true, eqb-false, eq-eqb, ne_eqb}
use Rattle.whole.specs.Whole.{limit, exact}
use Rattle.whole.specs.Bits.{with_sign}

-- ---- the size and the sign of what equals a whole number

pub infinite_differs : (s : Bool) (z : ℤ) → T (eq (inf s) (exact z)) → ⊥
unfolding eq
infinite_differs s (pos n) h = h
infinite_differs s (negsuc n) h = h

alike_or_zero : (s t : Bool) (a : ℕ) → T (beq s t || eqb a 0) → (s ≡ t) ⊎ (a ≡ 0)
alike_or_zero true true a h = inl refl
alike_or_zero false false a h = inl refl
alike_or_zero true false a h = inr (eqb→eq a 0 h)
alike_or_zero false true a h = inr (eqb→eq a 0 h)

equals_size : (s : Bool) (m : ℕ) (e : ℤ) (t : Bool) (n : ℕ) → T (eq (fin s m e) (fin t n (pos 0)))
    → (m * up e / down e ≡ n) × ((s ≡ t) ⊎ (n ≡ 0))
unfolding eq
equals_size s m e t n h =
    let a = m * up e * 1 in
    let b = n * 1 * down e in
    let same : a ≡ b = eqb→eq a b (and_l (eqb a b) (beq s t || eqb a 0) h) in
    let a-is : m * up e ≡ a = sym (mul-one (m * up e)) in
    let is : m * up e / down e ≡ n = div-eq_of_eq-mul_left (down_pos e) (a-is ∙ same ∙ ap (λ (k : ℕ). k * down e) (mul-one n)) in
    let zero_is : a ≡ 0 → n ≡ 0 = λ p. sym is ∙ ap (λ (k : ℕ). k / down e) (a-is ∙ p) ∙ zero-div (down e) in
    (is, elim (alike_or_zero s t a (and_r (eqb a b) (beq s t || eqb a 0) h)) [ inl p ↦ inl p | inr p ↦ inr (zero_is p) ])

zero_signed : (s : Bool) → with_sign s 0 ≡ pos 0
zero_signed true = refl
zero_signed false = refl

pub equals_whole : (s : Bool) (m : ℕ) (e z : ℤ) → T (eq (fin s m e) (exact z)) → (m * up e / down e ≡ nat_abs z) × (with_sign s (nat_abs z) ≡ z)
equals_whole s m e (pos n) h =
    let is = equals_size s m e false n h in
    (is.0, elim is.1 [ inl p ↦ ap (λ (t : Bool). with_sign t n) p | inr p ↦ ap (with_sign s) p ∙ zero_signed s ∙ ap pos (sym p) ])
equals_whole s m e (negsuc n) h =
    let is = equals_size s m e true (suc n) h in
    (is.0, elim is.1 [ inl p ↦ ap (λ (t : Bool). with_sign t (suc n)) p | inr p ↦ absurd (never n p) ])
  where
    never : (k : ℕ) → suc k ≡ 0 → ⊥
    never k p = omega arith

-- ---- a whole number turned back compares as itself

eqb_scaled : (a b c : ℕ) → 0 < c → eqb (a * c) (b * c) ≡ eqb a b
eqb_scaled a b c p = go (eqb a b) refl
  where
    go : (q : Bool) → eqb a b ≡ q → eqb (a * c) (b * c) ≡ q
    go true h = eq-eqb _ _ (ap (λ (k : ℕ). k * c) (eqb-true a b h))
    go false h = ne_eqb _ _ (λ r. eqb-false a b h (eq_of_mul-eq-mul_right c p a b r))

level_scaled : (s t : Bool) (a b c : ℕ) → 0 < c → level s (a * c) t (b * c) ≡ level s a t b
level_scaled s t a b c p =
    ap (λ (q : Bool). q && (beq s t || eqb (a * c) 0)) (eqb_scaled a b c p)
    ∙ ap (λ (q : Bool). eqb a b && (beq s t || q)) (ap (eqb (a * c)) (sym (zero-mul c)) ∙ eqb_scaled a 0 c p)

same_value : (x y : Float) (s : Bool) (n : ℕ) → HasValue y s n 1 → eq x y ≡ eq x (fin s n (pos 0))
unfolding eq
same_value nan y s n v = refl
same_value (inf t) nan s n v = absurd v
same_value (inf t) (inf u) s n v = absurd v
same_value (inf t) (fin u i d) s n v = refl
same_value (fin t m e) nan s n v = absurd v
same_value (fin t m e) (inf u) s n v = absurd v
same_value (fin t m e) (fin u i d) s n v =
    ap (λ (b : Bool). level t (m * up e * down d) b (i * up d * down e)) v.0
    ∙ ap (λ (k : ℕ). level t (k * down d) s (i * up d * down e)) (sym (mul-one (m * up e)))
    ∙ ap (level t (m * up e * 1 * down d) s) size
    ∙ level_scaled t s (m * up e * 1) (n * 1 * down e) (down d) (down_pos d)
  where
    size : i * up d * down e ≡ n * 1 * down e * down d
    size =
        ap (λ (k : ℕ). k * down e) (sym (mul-one (i * up d)) ∙ v.1)
        ∙ mul_right_comm n (down d) (down e)
        ∙ ap (λ (k : ℕ). k * down e * down d) (sym (mul-one n))

pub turned_back : (x : Float) (z : ℤ) → nat_abs z ≤ limit → eq x (of_int binary64 z) ≡ eq x (exact z)
unfolding of_int
turned_back x (pos n) h = same_value x (of_int binary64 (pos n)) false n (round_whole binary64 false n (le_trans h (lit≤ tt)))
turned_back x (negsuc n) h = same_value x (of_int binary64 (negsuc n)) true (suc n) (round_whole binary64 true (suc n) (le_trans h (lit≤ tt)))
