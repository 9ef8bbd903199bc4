-- The words of an image one by one are the image. Assumes nothing.
use Rattle.std.proofs.Common.{◌≡◌, ℕ, zero, suc, List, [], ◌∷◌, length, get_or, refl, sym, ap, ◌∙◌}
use Rattle.image.specs.Image.{words_from}

-- behind a first word the places are one less
behind : (x : ℕ) (w : List ℕ) (at n : ℕ) → words_from (x ∷ w) (suc at) n ≡ words_from w at n
behind x w at zero = refl
behind x w at (suc n) = ap (λ (rest : List ℕ). get_or w at 0 ∷ rest) (behind x w (suc at) n)

pub entire : (w : List ℕ) (n : ℕ) → length w ≡ n → words_from w 0 n ≡ w
entire w n e = sym (ap (words_from w 0) e) ∙ each w
  where
    each : (v : List ℕ) → words_from v 0 (length v) ≡ v
    each [] = refl
    each (x ∷ xs) = ap (λ (rest : List ℕ). x ∷ rest) (behind x xs 0 (length xs) ∙ each xs)
