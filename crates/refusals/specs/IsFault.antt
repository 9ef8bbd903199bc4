-- What is wrong with a list, with nothing said of how it is read: document 01's refusal table. Places are counted from the list's first word.
use Rattle.std.specs.Prelude.{ℕ, suc, ◌+◌, ◌<◌, List, ◌∷◌, ◌++◌, length, ℤ, T}
use Rattle.std.specs.Int.Signed.{lt_z}
use Rattle.refusal.specs.declared.Refusal.{Refusal}
use Rattle.refusal.specs.declared.Refusal.TheVariants.{WrongWord, SeEnds}
use Rattle.words.specs.declared.Word.TheVariants.{Head}
use Rattle.words.specs.IsWord.{IsWord}
use Rattle.words.specs.Breaks.{a_head, Lacks}
use Rattle.list.specs.Rules.{is_head, se_below}
use Rattle.list.specs.IsList.{DataTo}
use Rattle.refusals.specs.DatumFault.{DatumFault}

pub data IsFault : List ℕ → Refusal → Type 0 where
  -- "list word missing, of wrong kind, number or bits"
  no_head : {s : List ℕ} → Lacks (a_head is_head) s → IsFault s (WrongWord 0)
  -- "The first faulty datum gives the answer"
  datum : {w n k m : ℕ} {cause : ℕ → Refusal} {vs : List ℤ} {before ws : List ℕ} → IsWord w (Head n) → T (is_head n) → k < n → DataTo n k 0 vs before → DatumFault n k ws cause m →
      IsFault (w ∷ (before ++ ws)) (cause (suc (length before + m)))
  -- "SE minus not below its plus": "place of the minus datum"; "then 5, SE1 first"
  se1 : {w n : ℕ} {minus plus : ℤ} {vs later : List ℤ} {before behind : List ℕ} (rest : List ℕ) → IsWord w (Head n) → T (is_head n) → DataTo n 11 0 vs before → DataTo n n 11 (minus ∷ plus ∷ later) behind →
      (T (lt_z minus plus) → ⊥) → IsFault (w ∷ (before ++ (behind ++ rest))) (SeEnds (suc (length before)))
  se2 : {w n : ℕ} {minus plus : ℤ} {vs later : List ℤ} {before behind : List ℕ} (rest : List ℕ) → IsWord w (Head n) → T (is_head n) → DataTo n 13 0 vs before → DataTo n n 13 (minus ∷ plus ∷ later) behind →
      T (se_below vs 11) → (T (lt_z minus plus) → ⊥) → IsFault (w ∷ (before ++ (behind ++ rest))) (SeEnds (suc (length before)))
