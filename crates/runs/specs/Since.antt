-- When a value is set that more than so many usable cycles running set and something else ends, said of numbered cycles and with nothing kept: n<nx (W3),
-- and the watch of a direction (W6). proofs/Since.antt shows that a value kept from cycle to cycle tells it. Of cycle n, from 0,
-- `usable n` says whether it is usable, `so n` whether what sets it is so in it, `ends n` whether it ends it, and `span n` how many cycles it must be more than.
use Rattle.std.specs.Prelude.{ℕ, ◌≤◌, ◌<◌, Bool, T}
use Rattle.runs.specs.Running.{Running}

module _ (usable so ends : ℕ → Bool) (span : ℕ → ℕ) where
  -- after cycle n it is set: there is a cycle, last, up to which it was so in more than `span` "usable cycles running", and since which no usable cycle
  -- ended it
  pub record SetSince (n : ℕ) : Type 0 where
    pub last : ℕ
    pub not_later : last ≤ n
    pub long_enough : Running usable so (span last) last
    pub never_ended : (i : ℕ) → last < i → i ≤ n → T (usable i) → T (ends i) → ⊥
