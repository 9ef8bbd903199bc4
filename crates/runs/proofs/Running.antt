-- A run that is counted from cycle to cycle is above t where something has been so in more than t usable cycles running, and only there. Assumes nothing.
use Prim.Native.Nat.{ℕ, zero, suc, ◌≤◌, ◌<◌, min}
use mathlib.Core.Path.{◌≡◌, refl, sym, ◌∙◌, subst}
use mathlib.Core.Bool.{Bool, true, false, cond}
use mathlib.Core.List.{List, [], ◌∷◌}
use mathlib.Core.Logic.{by_cases}
use native.Mathlib.Decide.{dec_le}
use native.Mathlib.Nat.{not-suc-le-zero}
use native.Mathlib.Omega.{arith}
use lib.Dec.{T}
use lib.Ieee.Bits.{is_true}
use lib.ListN.{length, take}
use Rattle.runs.specs.Run.{run_next}
use Rattle.runs.specs.Running.{All, usable_before, Running}

module _ (so : ℕ → Bool) where
  -- in how many at the front of a list it is so
  abbrev leading : List ℕ → ℕ
  leading [] = 0
  leading (n ∷ ns) = cond (so n) (suc (leading ns)) 0

  -- in more than t: there are more, and in the first t and one more it is so
  leads : (t : ℕ) (ns : List ℕ) → t < leading ns → (t < length ns) × All (λ i. T (so i)) (take (suc t) ns)
  leads t [] h = absurd (not-suc-le-zero h)
  leads t (n ∷ ns) h = go (so n) refl t h (λ k. leads k ns)
    where
      go : (b : Bool) → so n ≡ b → (t : ℕ) → t < cond b (suc (leading ns)) 0 → ((k : ℕ) → k < leading ns → (k < length ns) × All (λ i. T (so i)) (take (suc k) ns)) →
          (t < suc (length ns)) × (T (so n) × All (λ i. T (so i)) (take t ns))
      go true q zero h rest = (omega arith, (subst T (sym q) tt, tt))
      go true q (suc t) h rest = let r = rest t (omega arith) in (omega (arith, r.0), (subst T (sym q) tt, r.1))
      go false q t h rest = absurd (not-suc-le-zero h)

  led : (t : ℕ) (ns : List ℕ) → t < length ns → All (λ i. T (so i)) (take (suc t) ns) → t < leading ns
  led t [] l a = absurd (not-suc-le-zero l)
  led zero (n ∷ ns) l a = subst (λ (b : Bool). 0 < cond b (suc (leading ns)) 0) (sym (is_true (so n) a.0)) (omega arith)
  led (suc t) (n ∷ ns) l a =
      let rest = led t ns (omega arith) a.1 in
      subst (λ (b : Bool). suc t < cond b (suc (leading ns)) 0) (sym (is_true (so n) a.0)) (omega arith)

  counted : (b : Bool) (r l : ℕ) → r ≡ min l 1001 → run_next b r ≡ min (cond b (suc l) 0) 1001
  unfolding run_next
  counted true r l e = omega (arith, e)
  counted false r l e = refl

counted_on : (t : ℕ) → t ≤ 1000 → (m : ℕ) → t < m → t < run_next true m
unfolding run_next
counted_on t small m l = omega (arith, small, l)

-- r n is the run before cycle n
module _ (usable so : ℕ → Bool) (r : ℕ → ℕ) (fresh : r 0 ≡ 0) (counts : (n : ℕ) → r (suc n) ≡ cond (usable n) (run_next (so n) (r n)) (r n)) where
  is_leading : (n : ℕ) → r n ≡ min (leading so (usable_before usable n)) 1001
  unfolding usable_before
  is_leading zero = fresh
  is_leading (suc n) = counts n ∙ go (usable n) (is_leading n)
    where
      go : (b : Bool) → r n ≡ min (leading so (usable_before usable n)) 1001 →
          cond b (run_next (so n) (r n)) (r n) ≡ min (leading so (cond b (n ∷ usable_before usable n) (usable_before usable n))) 1001
      go true e = counted so (so n) (r n) (leading so (usable_before usable n)) e
      go false e = e

  -- t is a datum of at most 1,000 cycles
  module _ (t n : ℕ) (small : t ≤ 1000) where
    pub above_running : T (usable n) → t < r (suc n) → Running usable so t n
    above_running u h =
        let l = leads so t (usable_before usable (suc n)) (omega (arith, is_leading (suc n), h)) in
        record { in_n = u; enough = l.0; all_so = l.1 }

    pub running_above : Running usable so t n → t < r (suc n)
    running_above x = omega (arith, is_leading (suc n), led so t (usable_before usable (suc n)) x.enough x.all_so)

  -- where it was so up to cycle a and is so in every usable cycle since, it is so up to n, for the same t
  module _ (t : ℕ) (small : t ≤ 1000) (a : ℕ) (x : Running usable so t a) where
    goes_on : (n : ℕ) → a ≤ n → ((i : ℕ) → a < i → i ≤ n → T (usable i) → T (so i)) → t < r (suc n)
    goes_on zero l h = subst (λ (k : ℕ). t < r (suc k)) (omega (arith, l)) (running_above t a small x)
    goes_on (suc n) l h = by_cases (dec_le a n) (λ (k : a ≤ n). later k (goes_on n k (λ i low high. h i low (omega (arith, high))))) (λ k. subst (λ (k : ℕ). t < r (suc k)) (omega (arith, l, k)) (running_above t a small x))
      where
        later : a ≤ n → t < r (suc n) → t < r (suc (suc n))
        later k above = subst (λ (m : ℕ). t < m) (sym (counts (suc n))) (go (usable (suc n)) refl (so (suc n)) refl)
          where
            go : (u : Bool) → usable (suc n) ≡ u → (b : Bool) → so (suc n) ≡ b → t < cond u (run_next b (r (suc n))) (r (suc n))
            go true p true q = counted_on t small (r (suc n)) above
            go true p false q = absurd (subst T q (h (suc n) (omega (arith, k)) (omega arith) (subst T (sym p) tt)))
            go false p b q = above

    pub still_running : (n : ℕ) → a ≤ n → ((i : ℕ) → a < i → i ≤ n → T (usable i) → T (so i)) → T (usable n) → Running usable so t n
    still_running n l h u = above_running t n small u (goes_on n l h)

-- the last of them is one in which it is so
pub so_last : (usable so : ℕ → Bool) (t n : ℕ) → Running usable so t n → T (so n)
unfolding usable_before
so_last usable so t n x = go (usable n) x.in_n x.all_so
  where
    go : (b : Bool) → T b → All (λ i. T (so i)) (take (suc t) (cond b (n ∷ usable_before usable n) (usable_before usable n))) → T (so n)
    go true u a = a.0
    go false u a = absurd u
