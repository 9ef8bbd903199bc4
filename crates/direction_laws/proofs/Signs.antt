-- The laws of the sign, each for both at once: distances in the allowed direction add up, turn about, and are mirrored. No other law asks which sign it is. Assumes nothing.
use Prim.Native.Nat.{ℕ, zero, suc, ◌+◌}
use mathlib.Core.Path.{◌≡◌, sym, ap, ◌∙◌, subst}
use native.Mathlib.Omega.{arith}
use lib.Dec.{T, ltb→lt, lt→ltb}
use lib.IntN.{ℤ, pos, negsuc, neg_ℤ, ◌+ℤ◌, ◌-ℤ◌, +ℤ_idl, +ℤ_idr, +ℤ_assoc, +ℤ_invr, +ℤ_invl, +ℤ_comm, neg_ℤ-neg_ℤ, neg_ℤ-+ℤ, pos-+ℤ-pos}
use lib.Signed.{lt_z}
use Rattle.direction.specs.declared.Sign.{Sign}
use Rattle.direction.specs.declared.Sign.TheVariants.{Positive, Negative}
use Rattle.direction.specs.Direction.{ahead}

-- ---- of differences

add_up : (a b c : ℤ) → (a -ℤ b) +ℤ (b -ℤ c) ≡ a -ℤ c
add_up a b c =
    +ℤ_assoc a (neg_ℤ b) (b +ℤ neg_ℤ c)
    ∙ ap (λ (z : ℤ). a +ℤ z) (sym (+ℤ_assoc (neg_ℤ b) b (neg_ℤ c)) ∙ ap (λ (z : ℤ). z +ℤ neg_ℤ c) (+ℤ_invl b) ∙ +ℤ_idl (neg_ℤ c))

turned : (a b : ℤ) → b -ℤ a ≡ neg_ℤ (a -ℤ b)
turned a b = sym (neg_ℤ-+ℤ a (neg_ℤ b) ∙ ap (λ (z : ℤ). neg_ℤ a +ℤ z) (neg_ℤ-neg_ℤ b) ∙ +ℤ_comm (neg_ℤ a) b)

-- ---- of the allowed direction

pub through : (sign : Sign) (a b c : ℤ) → ahead sign a b +ℤ ahead sign b c ≡ ahead sign a c
through Positive a b c = add_up a b c
through Negative a b c = +ℤ_comm (b -ℤ a) (c -ℤ b) ∙ add_up c b a

pub back : (sign : Sign) (a b : ℤ) → ahead sign b a ≡ neg_ℤ (ahead sign a b)
back Positive a b = turned a b
back Negative a b = turned b a

pub itself : (sign : Sign) (a : ℤ) → ahead sign a a ≡ pos 0
itself Positive a = +ℤ_invr a
itself Negative a = +ℤ_invr a

-- "the negative is its mirror"
pub opposite : Sign → Sign
opposite Positive = Negative
opposite Negative = Positive

pub mirror : (sign : Sign) (a b : ℤ) → ahead (opposite sign) (neg_ℤ a) (neg_ℤ b) ≡ ahead sign a b
unfolding opposite
mirror Positive a b = ap (λ (z : ℤ). neg_ℤ b +ℤ z) (neg_ℤ-neg_ℤ a) ∙ +ℤ_comm (neg_ℤ b) a
mirror Negative a b = ap (λ (z : ℤ). neg_ℤ a +ℤ z) (neg_ℤ-neg_ℤ b) ∙ +ℤ_comm (neg_ℤ a) b

-- ---- what the laws say of a comparison

-- not ahead
abbrev pub NotAhead : ℤ → Type 0
NotAhead z = T (lt_z (pos 0) z) → ⊥

positive : (n : ℕ) → T (lt_z (pos 0) (pos (suc n)))
positive n = lt→ltb 0 (suc n) (omega arith)

-- two that are not ahead are not so together
pub neither_ahead : (x y : ℤ) → NotAhead x → NotAhead y → NotAhead (x +ℤ y)
neither_ahead (pos zero) y h k = subst NotAhead (sym (+ℤ_idl y)) k
neither_ahead (pos (suc m)) y h k = absurd (h (positive m))
neither_ahead (negsuc m) (pos zero) h k = subst NotAhead (sym (+ℤ_idr (negsuc m))) h
neither_ahead (negsuc m) (pos (suc n)) h k = absurd (k (positive n))
neither_ahead (negsuc m) (negsuc n) h k = λ t. t

-- one that is ahead is not so turned about
pub turned_not_ahead : (x : ℤ) → T (lt_z (pos 0) x) → NotAhead (neg_ℤ x)
turned_not_ahead (pos zero) h = absurd (omega (arith, ltb→lt 0 0 h))
turned_not_ahead (pos (suc n)) h = λ t. t
turned_not_ahead (negsuc n) h = absurd h

-- more than t, and what is not behind added to it
pub farther : (t : ℕ) (x y : ℤ) → NotAhead (neg_ℤ x) → T (lt_z (pos t) y) → T (lt_z (pos t) (x +ℤ y))
farther t (pos n) (pos m) h k = subst (λ (z : ℤ). T (lt_z (pos t) z)) (sym (pos-+ℤ-pos n m)) (lt→ltb t (n + m) (omega (arith, ltb→lt t m k)))
farther t (pos n) (negsuc m) h k = absurd k
farther t (negsuc n) y h k = absurd (h (positive n))
