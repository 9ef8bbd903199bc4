-- The rows of a table folded into something are taken into it one behind the other; where no row stands, none is. Assumes nothing.
use mathlib.Core.Bool.{Bool, true, false, true≢false}
use mathlib.Core.List.{List, [], ◌∷◌}
use mathlib.Core.Path.{◌≡◌, refl, ap, ◌∙◌}
use Rattle.std.proofs.Common.{fold}
use Rattle.causes.specs.declared.Cause.{Cause}
use Rattle.causes.specs.Causes.{over_rows, stands_or}

pub folded : {S : Type 0} (take_in : Cause → S → S) (rows : List Cause) (s : S) → fold (λ t c. take_in c t) s rows ≡ over_rows take_in rows s
folded take_in [] s = refl
folded take_in (c ∷ cs) s = folded take_in cs (take_in c s)

module _ {S : Type 0} (take_in : Cause → S → S) (idle : (c : Cause) (s : S) → c.stands ≡ false → take_in c s ≡ s) where
  pub none_taken : (rows : List Cause) (any : Bool) (s : S) → over_rows stands_or rows any ≡ false → (any ≡ false) × (over_rows take_in rows s ≡ s)
  none_taken [] any s e = (e, refl)
  none_taken (c ∷ cs) any s e = go c.stands refl (none_taken cs (stands_or c any) s e)
    where
      go : (b : Bool) → c.stands ≡ b → (stands_or c any ≡ false) × (over_rows take_in cs s ≡ s) → (any ≡ false) × (over_rows take_in cs (take_in c s) ≡ s)
      go true q h = absurd (true≢false (simp q at h.0))
      go false q h = ((simp q at h).0, ap (over_rows take_in cs) (idle c s q) ∙ h.1)
