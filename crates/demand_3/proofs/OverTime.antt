-- What comes a step nearer in each calm cycle has arrived after as many cycles as it had steps to go: one induction for all time bounds. Assumes nothing.
use Prim.Native.Nat.{ℕ, zero, suc, ◌+◌, ◌-◌, ◌≤◌, ◌<◌}
use mathlib.Core.Logic.{by_cases}
use mathlib.Core.Path.{subst}
use native.Mathlib.Decide.{dec_le}
use native.Mathlib.Omega.{arith}

-- what holds at n, and at each step from n on, holds from n on
pub from_on : (P : ℕ → Type 0) (n : ℕ) → P n → ((m : ℕ) → n ≤ m → P m → P (suc m)) → (m : ℕ) → n ≤ m → P m
from_on P n p step zero h = subst P (omega arith) p
from_on P n p step (suc m) h =
    let ih = from_on P n p step m in
    by_cases (dec_le n m) (λ l. step m l (ih l)) (λ l. subst P (omega arith) p)

-- f has t steps to go to the level after cycle n, and each later calm cycle takes it a step nearer: it is there from cycle n + t on
pub reached : (Calm : ℕ → Type 0) (level : ℕ) (f : ℕ → ℕ) (n t : ℕ) → t ≤ 1000 → level ≤ f n + t →
    ((m j : ℕ) → Calm (suc m) → j < 1000 → level ≤ f m + suc j → level ≤ f (suc m) + j) →
    (m : ℕ) → n + t ≤ m → ((i : ℕ) → n < i → i ≤ m → Calm i) → level ≤ f m
reached Calm level f n t small start step m h calm =
    let z = from_on (λ k. ((i : ℕ) → n < i → i ≤ k → Calm i) → level ≤ f k + (t - (k - n))) n (λ _. omega arith)
    (λ k l p c.
    let q = p (λ i a b. c i a (omega arith)) in
    let w = step k (t - (k - n) - 1) (c (suc k) (omega arith) (omega arith)) (omega arith) (omega arith) in
    omega arith)
    m (omega arith) calm in
    omega arith
