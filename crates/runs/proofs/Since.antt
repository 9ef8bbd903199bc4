-- A value that is kept from cycle to cycle is set after a cycle where it was so for long enough up to some cycle since which nothing ended it, and only
-- there. Assumes nothing.
use Prim.Native.Nat.{ℕ, zero, suc, ◌≤◌, ◌<◌}
use mathlib.Core.Path.{◌≡◌, refl, sym, subst}
use mathlib.Core.Bool.{Bool, true, false, cond}
use mathlib.Core.Logic.{by_cases}
use native.Mathlib.Decide.{dec_le}
use native.Mathlib.Nat.{not-suc-le-zero}
use native.Mathlib.Omega.{arith}
use lib.Dec.{T}
use Rattle.runs.specs.Running.{Running}
use Rattle.runs.specs.Since.{SetSince}
use Rattle.runs.proofs.Running.{so_last}

-- `on n` is the value before cycle n, `ran n` whether the run that cycle n leaves is above `span n`
module _ (usable so ends : ℕ → Bool) (span : ℕ → ℕ) (on ran : ℕ → Bool)
    (fresh : on 0 ≡ false)
    (goes : (n : ℕ) → on (suc n) ≡ cond (usable n) (cond (ends n) false (cond (ran n) true (on n))) (on n))
    (tells : (n : ℕ) → T (usable n) → T (ran n) → Running usable so (span n) n)
    (told : (n : ℕ) → Running usable so (span n) n → T (ran n))
    (apart : (n : ℕ) → T (so n) → T (ends n) → ⊥) where
  -- set before cycle n, where there is one before it
  abbrev Before : ℕ → Type 0
  Before zero = ⊥
  Before (suc n) = SetSince usable so ends span n

  -- one more cycle, which did not end it
  on_with : (n : ℕ) → (T (usable n) → T (ends n) → ⊥) → Before n → SetSince usable so ends span n
  on_with zero not_ended b = absurd b
  on_with (suc n) not_ended b =
      record { last = b.last; not_later = omega (arith, b.not_later); long_enough = b.long_enough; never_ended = later }
    where
      later : (i : ℕ) → b.last < i → i ≤ suc n → T (usable i) → T (ends i) → ⊥
      later i l h = by_cases (dec_le i n) (λ (k : i ≤ n). b.never_ended i l k) (λ k. subst (λ (j : ℕ). T (usable j) → T (ends j) → ⊥) (omega arith) not_ended)

  pub set_since : (n : ℕ) → T (on n) → Before n
  set_since zero t = absurd (subst T fresh t)
  set_since (suc n) t = go (usable n) refl (ends n) refl (ran n) refl (subst T (goes n) t) (set_since n)
    where
      go : (u : Bool) → usable n ≡ u → (o : Bool) → ends n ≡ o → (r : Bool) → ran n ≡ r → T (cond u (cond o false (cond r true (on n))) (on n)) → (T (on n) → Before n) →
          SetSince usable so ends span n
      go true p true q r s t rest = absurd t
      go true p false q true s t rest =
          record { last = n; not_later = omega arith; long_enough = tells n (subst T (sym p) tt) (subst T (sym s) tt); never_ended = λ i l h _ _. omega (arith, l, h) }
      go true p false q false s t rest = on_with n (λ _ x. subst T q x) (rest t)
      go false p o q r s t rest = on_with n (λ x _. subst T p x) (rest t)

  -- it was set before cycle n, or in it
  set_before : (n : ℕ) (b : SetSince usable so ends span n) → b.last < n → Before n
  set_before zero b l = absurd (not-suc-le-zero l)
  set_before (suc n) b l =
      record { last = b.last; not_later = omega (arith, l); long_enough = b.long_enough; never_ended = λ i k h. b.never_ended i k (omega (arith, h)) }

  pub stays : (n : ℕ) → (T (usable n) → T (ends n) → ⊥) → T (on n) → T (on (suc n))
  stays n not_ended t = subst T (sym (goes n)) (go (usable n) refl (ends n) refl (ran n))
    where
      go : (u : Bool) → usable n ≡ u → (o : Bool) → ends n ≡ o → (r : Bool) → T (cond u (cond o false (cond r true (on n))) (on n))
      go true p true q r = absurd (not_ended (subst T (sym p) tt) (subst T (sym q) tt))
      go true p false q true = tt
      go true p false q false = t
      go false p o q r = t

  sets : (n : ℕ) → Running usable so (span n) n → T (on (suc n))
  sets n x = subst T (sym (goes n)) (go (usable n) x.in_n (ends n) refl (ran n) (told n x))
    where
      go : (u : Bool) → T u → (o : Bool) → ends n ≡ o → (r : Bool) → T r → T (cond u (cond o false (cond r true (on n))) (on n))
      go true u true q r t = absurd (apart n (so_last usable so (span n) n x) (subst T (sym q) tt))
      go true u false q true t = tt
      go true u false q false t = absurd t
      go false u o q r t = absurd u

  pub since_set : (n : ℕ) → Before n → T (on n)
  since_set zero b = absurd b
  since_set (suc n) b =
      by_cases (dec_le (suc b.last) n)
      (λ l. stays n (b.never_ended n l (omega arith)) (since_set n (set_before n b l)))
      (λ l. let is : b.last ≡ n = omega (arith, b.not_later, l) in sets n (subst (λ (j : ℕ). Running usable so (span j) j) is b.long_enough))
