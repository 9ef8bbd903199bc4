-- What "in more than t usable cycles running" says of numbered cycles, with no run kept: proofs/Running.antt shows that a run, counted from cycle to cycle,
-- tells it. Of cycle n, from 0, `usable n` says whether it is usable and `so n` whether what is asked for is so in it.
use Rattle.std.specs.Prelude.{ℕ, zero, suc, ◌<◌, Bool, cond, List, [], ◌∷◌, T, length, take}

-- "all"
abbrev pub All : {X : Type 0} → (X → Type 0) → List X → Type 0
All P [] = Unit {0}
All P (x ∷ xs) = P x × All P xs

module _ (usable : ℕ → Bool) where
  -- the usable cycles before cycle n, the latest first
  unfoldable pub usable_before : ℕ → List ℕ
  usable_before zero = []
  usable_before (suc n) = cond (usable n) (n ∷ usable_before n) (usable_before n)

  -- a usable cycle n and the last usable ones before it, t of these
  abbrev pub window : ℕ → ℕ → List ℕ
  window n t = take (suc t) (usable_before (suc n))

  -- "in more than t usable cycles running", cycle n the last of them: there are so many, and in the last of them, one more than t, it is so
  pub record Running (so : ℕ → Bool) (t n : ℕ) : Type 0 where
    pub in_n : T (usable n)
    pub enough : t < length (usable_before (suc n))
    pub all_so : All (λ i. T (so i)) (window n t)
