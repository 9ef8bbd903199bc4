-- What a log is, with nothing said of how it is read: document 01, "Words".
use Rattle.std.specs.Prelude.{ℕ, ◌+◌, ◌*◌, Bool, List, [], ◌∷◌, ℤ}
use Rattle.words.specs.declared.Word.TheVariants.{Position, Lower, Upper, End, Remark}
use Rattle.words.specs.IsWord.{IsWord}
use Rattle.words.specs.Breaks.{Sort, a_position, a_lower, an_upper, an_end}
use Rattle.inputs.specs.declared.Reading.{Reading}
use Rattle.seven.specs.declared.CycleRecord.{CycleRecord}

-- "kinds 4, 5, 6": three words and the reading they hold
pub data IsReading : Reading → ℕ → ℕ → ℕ → Type 0 where
  reading : {p : ℤ} {low high w₁ w₂ w₃ : ℕ} → IsWord w₁ (Position p) → IsWord w₂ (Lower low) → IsWord w₃ (Upper high) →
      IsReading (record { position = p; inputs = high * 65536 + low }) w₁ w₂ w₃

-- "kinds 4, 5, 6 of A, the same of B, then 7"
abbrev pub a_record : List Sort
a_record = a_position ∷ a_lower ∷ an_upper ∷ a_position ∷ a_lower ∷ an_upper ∷ an_end ∷ []

-- "A log is cycle records: kinds 4, 5, 6 of A, the same of B, then 7"; remarks between, before the first and after the last
pub data IsLog : List CycleRecord → List ℕ → Type 0 where
  end : IsLog [] []
  remark : {w : ℕ} {rs : List CycleRecord} {ws : List ℕ} → IsWord w Remark → IsLog rs ws → IsLog rs (w ∷ ws)
  cycle : {a b : Reading} {ack : Bool} {w₁ w₂ w₃ w₄ w₅ w₆ w₇ : ℕ} {rs : List CycleRecord} {ws : List ℕ} →
      IsReading a w₁ w₂ w₃ → IsReading b w₄ w₅ w₆ → IsWord w₇ (End ack) → IsLog rs ws →
      IsLog (record { a = a; b = b; acknowledged = ack } ∷ rs) (w₁ ∷ w₂ ∷ w₃ ∷ w₄ ∷ w₅ ∷ w₆ ∷ w₇ ∷ ws)
