-- A table whose rows are made fresh one behind the other, from its front on. Assumes nothing.
use Prim.Native.Nat.{ℕ, zero, suc, ◌+◌, ◌≤◌, ◌<◌}
use mathlib.Core.List.{List, [], ◌∷◌}
use mathlib.Core.Path.{◌≡◌, refl, ap, ◌∙◌}
use native.Mathlib.Numerals.{add-one}
use native.Mathlib.Omega.{arith}
use lib.ListN.{length, get_or, set}
use Rattle.causes.specs.declared.Cause.{Cause}
use Rattle.pending.specs.Pending.{only_fresh, fresh_rows}

-- the rows from number i on
unfoldable pub fresh_from : ℕ → List Cause → List Cause
fresh_from zero rows = fresh_rows rows
fresh_from (suc i) [] = []
fresh_from (suc i) (c ∷ cs) = c ∷ fresh_from i cs

one_more : (i : ℕ) (rows : List Cause) (none : Cause) → i < length rows → fresh_from (suc i) (set rows i (only_fresh (get_or rows i none))) ≡ fresh_from i rows
unfolding fresh_from fresh_rows
one_more zero [] none h = absurd (omega arith)
one_more zero (c ∷ cs) none h = refl
one_more (suc i) [] none h = absurd (omega arith)
one_more (suc i) (c ∷ cs) none h = ap (λ (rest : List Cause). c ∷ rest) (one_more i cs none (omega arith))

-- a row that was made fresh, as the loop has it
pub row_made : (i : ℕ) (rows : List Cause) (none row : Cause) → i < length rows → row ≡ only_fresh (get_or rows i none) → fresh_from (i + 1) (set rows i row) ≡ fresh_from i rows
row_made i rows none row h e = rw add-one (ap (λ (made : Cause). fresh_from (suc i) (set rows i made)) e ∙ one_more i rows none h)

pub none_left : (i : ℕ) (rows : List Cause) → length rows ≤ i → fresh_from i rows ≡ rows
unfolding fresh_from fresh_rows
none_left zero [] h = refl
none_left zero (c ∷ cs) h = absurd (omega arith)
none_left (suc i) [] h = refl
none_left (suc i) (c ∷ cs) h = ap (λ (rest : List Cause). c ∷ rest) (none_left i cs (omega arith))
