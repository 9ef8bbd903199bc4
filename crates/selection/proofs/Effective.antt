-- What is effective after a usable cycle is what it selects, or what was effective before it, where a selection had been chosen. Assumes nothing.
use Prim.Native.Nat.{ℕ, zero, suc}
use mathlib.Core.Bool.{true, ◌&&◌}
use mathlib.Core.List.{List}
use mathlib.Core.Path.{◌≡◌}
use lib.IntN.{ℤ}
use Rattle.laws.proofs.Bools.{if_case, both}
use Rattle.selection.specs.declared.Selection.{Selection}
use Rattle.selection.specs.declared.Choice.{Choice}
use Rattle.selection.specs.Selection.{stricter, delay_count, waited_of, choice_next}

pub effective_one_of : (P : Selection → Type 0) (d : List ℤ) (x : Choice) (s : Selection) (p : ℤ) → P s → (x.chosen ≡ true → P x.effective) →
    P (choice_next d x s p).effective
unfolding choice_next
effective_one_of P d x s p a b =
    if_case (λ (y : Choice). P y.effective) (x.chosen && stricter d s x.effective) _ _
    (λ e. waits (b (both x.chosen (stricter d s x.effective) e).0) (delay_count d x.left)) (λ _. a)
  where
    waits : P x.effective → (n : ℕ) → P (waited_of x s p n).effective
    waits k zero = a
    waits k (suc n) = k
