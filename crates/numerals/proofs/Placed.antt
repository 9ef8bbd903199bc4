-- Digits put from the last one on, over the base. Assumes nothing.
use Rattle.std.proofs.Common.{◌≡◌, refl, sym, ap, ◌∙◌, List, ◌∷◌, ◌++◌, ℕ, zero, suc, ◌+◌, ◌-◌, ◌/◌, ◌%◌, ◌<◌, ◌≤◌, length, drop, set, arith}
use Rattle.std.proofs.Math.Seq.{append_snoc}
use Rattle.std.proofs.lemmas.Grind.{drop-set_at}
use Rattle.numerals.specs.Numerals.{glyph, digits}

module _ (base : ℕ) where
  last_put : (rest j : ℕ) (out : List ℕ) {v shorter : ℕ} → v ≡ glyph (rest % base) → shorter ≡ rest / base → j < length out →
      digits base j shorter ++ drop j (set out j v) ≡ digits base (suc j) rest ++ drop (j + 1) out
  unfolding digits
  last_put rest j out {v} {shorter} is divided h =
      (λ k. digits base j (divided k) ++ drop-set_at out j j v refl h k)
      ∙ ap (λ (x : ℕ). digits base j (rest / base) ++ (x ∷ drop (j + 1) out)) is
      ∙ sym (append_snoc (digits base j (rest / base)) (glyph (rest % base)) (drop (j + 1) out))

  -- what is still to be put, before what stands there, is the same before and after a digit is put
  pub put_on : (rest i : ℕ) (out : List ℕ) {v shorter : ℕ} → v ≡ glyph (rest % base) → shorter ≡ rest / base → 0 < i → i ≤ length out →
      digits base (i - 1) shorter ++ drop (i - 1) (set out (i - 1) v) ≡ digits base i rest ++ drop i out
  put_on rest i out {v} {shorter} is divided some h =
      let one : i - 1 + 1 ≡ i = omega arith in
      let next : suc (i - 1) ≡ i = omega arith in
      last_put rest (i - 1) out is divided (omega arith) ∙ (λ k. digits base (next k) rest ++ drop (one k) out)

  pub all_put : (rest i : ℕ) (out : List ℕ) → i ≤ 0 → digits base i rest ++ drop i out ≡ out
  unfolding digits
  all_put rest zero out h = refl
  all_put rest (suc i) out h = absurd (omega (arith, h))
