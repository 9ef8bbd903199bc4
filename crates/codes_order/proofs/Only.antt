-- There is one list only that has each code that stands, in W4's order: whoever sorts them comes to it. Assumes nothing.
use Prim.Native.Nat.{ℕ, ◌+◌, ◌<◌}
use mathlib.Core.Path.{◌≡◌, refl, sym, ap, ◌∙◌, subst}
use mathlib.Core.Bool.{Bool, true, false}
use mathlib.Core.List.{List, [], ◌∷◌}
use mathlib.Core.Logic.{inl, inr}
use lib.Dec.{eqb}
use lib.ListN.{length}
use native.Mathlib.Omega.{arith}
use borrow.Author.Tests.{eqb-true, eqb-false, eq-eqb}
use Rattle.bits.specs.Bits.{flag}
use Rattle.causes.specs.declared.Cause.{Cause}
use Rattle.codes.specs.declared.Causes.{Causes}
use Rattle.codes.specs.Codes.{padded}
use Rattle.codes_order.specs.Lists.{occurrences, Before, Each, Sorted, codes_of, Lists}

-- of two codes not both go before the other
apart : (rows : List Cause) (k l : ℕ) → Before rows k l → Before rows l k → ⊥
apart rows k l (inl a) (inl b) = omega (arith, a, b)
apart rows k l (inl a) (inr b) = omega (arith, a, b.0)
apart rows k l (inr a) (inl b) = omega (arith, a.0, b)
apart rows k l (inr a) (inr b) = omega (arith, a.1, b.1)

-- what holds of each holds of one that occurs
of_one : (P : ℕ → Type 0) (k : ℕ) (xs : List ℕ) → Each P xs → 0 < occurrences k xs → P k
unfolding occurrences
of_one P k [] e h = absurd (none h)
  where
    none : 0 < 0 → ⊥
    none q = omega arith
of_one P k (x ∷ xs) e h = go (eqb x k) refl (of_one P k xs e.1)
  where
    go : (b : Bool) → eqb x k ≡ b → (0 < occurrences k xs → P k) → P k
    go true q rest = subst P (eqb-true x k q) e.0
    go false q rest = rest (omega (arith, simp q at h))

turned : (k l : ℕ) → eqb k l ≡ false → eqb l k ≡ false
turned k l q = go (eqb l k) refl
  where
    go : (b : Bool) → eqb l k ≡ b → b ≡ false
    go true p = absurd (eqb-false k l q (sym (eqb-true l k p)))
    go false p = refl

-- one that stands first in a list occurs in the other behind a first that is not it
occurs : (k l : ℕ) (xs ys : List ℕ) → eqb l k ≡ false → occurrences k (k ∷ ys) ≡ occurrences k (l ∷ xs) → 0 < occurrences k xs
unfolding occurrences
occurs k l xs ys q e = omega (arith, simp (q, eq-eqb k k refl) at e)

module _ (rows : List Cause) where
  same : (xs ys : List ℕ) → ((k : ℕ) → occurrences k xs ≡ occurrences k ys) → Sorted (Before rows) xs → Sorted (Before rows) ys → xs ≡ ys
  unfolding occurrences
  same [] [] e s t = refl
  same [] (y ∷ ys) e s t = absurd (more y (occurrences y ys) (e y))
    where
      more : (k n : ℕ) → 0 ≡ flag (eqb k k) + n → ⊥
      more k n q = omega (arith, simp (eq-eqb k k refl) at q)
  same (x ∷ xs) [] e s t = absurd (more x (occurrences x xs) (e x))
    where
      more : (k n : ℕ) → flag (eqb k k) + n ≡ 0 → ⊥
      more k n q = omega (arith, simp (eq-eqb k k refl) at q)
  same (x ∷ xs) (y ∷ ys) e s t = go (eqb x y) refl (λ h. same xs ys h s.1 t.1)
    where
      go : (b : Bool) → eqb x y ≡ b → (((k : ℕ) → occurrences k xs ≡ occurrences k ys) → xs ≡ ys) → x ∷ xs ≡ y ∷ ys
      go true q rest = let p = eqb-true x y q in λ i. p i ∷ rest (λ k. omega (arith, e k, ap (λ z. flag (eqb z k)) p)) i
      go false q rest = absurd (apart rows x y (of_one (Before rows x) y xs s.0 (occurs y x xs ys q (sym (e y)))) (of_one (Before rows y) x ys t.0 (occurs x y ys xs (turned x y q) (e x))))

  pub only : (a b : Causes) → Lists rows a → Lists rows b → a ≡ b
  only a b f g =
      let codes : codes_of a ≡ codes_of b = same (codes_of a) (codes_of b) (λ k. f.each k ∙ sym (g.each k)) f.sorted g.sorted in
      λ i. record { codes = (f.rest ∙ ap padded codes ∙ sym g.rest) i; count = (f.count_is ∙ ap length codes ∙ sym g.count_is) i }
