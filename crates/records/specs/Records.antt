-- A log read as cycle records: document 01, "A log is cycle records: kinds 4, 5, 6 of A, the same of B, then 7".
use Rattle.std.specs.Prelude.{ℕ, zero, suc, ◌+◌, ◌*◌, cond, List, [], ◌∷◌, length, ℤ, ltb, Result, Ok, Err}
use Rattle.words.specs.declared.Word.{Word}
use Rattle.words.specs.Words.{word_at}
use Rattle.words.specs.Cases.{if_position, if_lower, if_upper, if_end, if_remark}
use Rattle.inputs.specs.declared.Reading.{Reading}
use Rattle.seven.specs.declared.CycleRecord.{CycleRecord}
use Rattle.records.specs.declared.Entry.{Entry}
use Rattle.records.specs.declared.Entry.TheVariants.{Record, Remark}

-- "Kinds 5 and 6: lower and upper 16 bits of the input word"
unfoldable pub inputs_at : List ℕ → ℕ → Result ℕ ℕ
inputs_at s at =
    if_lower (word_at s at)
    (λ low. if_upper (word_at s (at + 1)) (λ high. Ok (high * 65536 + low)) (Err (at + 1)))
    (Err at)

abbrev pub on_inputs : Result ℕ ℕ → (ℕ → Result Entry ℕ) → Result Entry ℕ
on_inputs (Ok w) f = f w
on_inputs (Err place) f = Err place

abbrev pub reading : ℤ → ℕ → Reading
reading position inputs = record { position = position; inputs = inputs }

-- "then 7"
unfoldable pub ending_at : List ℕ → ℕ → Reading → Reading → Result Entry ℕ
ending_at s at a b =
    if_end (word_at s at) (λ ack. Ok (Record (record { a = a; b = b; acknowledged = ack }))) (Err at)

-- "the same of B"
unfoldable pub other_at : List ℕ → ℕ → Reading → Result Entry ℕ
other_at s at a =
    if_position (word_at s at) (λ p. on_inputs (inputs_at s (at + 1)) (λ w. ending_at s (at + 3) a (reading p w))) (Err at)

-- "A word between records that is a remark is passed over"
abbrev pub between_of : Word → ℕ → Result Entry ℕ
between_of w at = if_remark w (Ok Remark) (Err at)

-- "kinds 4, 5, 6 of A"
unfoldable pub entry_at : List ℕ → ℕ → Result Entry ℕ
entry_at s at =
    if_position (word_at s at) (λ p. on_inputs (inputs_at s (at + 1)) (λ w. other_at s (at + 3) (reading p w))) (between_of (word_at s at) at)

-- the records of a log, or its first fault's place
pub data LogRead : Type 0 where
  records : List CycleRecord → LogRead
  fault : ℕ → LogRead

abbrev pub before : CycleRecord → LogRead → LogRead
before r (records rs) = records (r ∷ rs)
before r (fault place) = fault place

abbrev pub on_entry : Result Entry ℕ → (CycleRecord → LogRead) → LogRead → LogRead
on_entry (Ok (Record r)) f g = f r
on_entry (Ok Remark) f g = g
on_entry (Err place) f g = fault place

-- from a place on, at most n entries; "also before the first and after the last"
unfoldable pub log_from : ℕ → List ℕ → ℕ → LogRead
log_from zero s at = records []
log_from (suc n) s at =
    cond (ltb at (length s)) (on_entry (entry_at s at) (λ r. before r (log_from n s (at + 7))) (log_from n s (at + 1))) (records [])

-- "An empty log is accepted"; a log has no more entries than words
abbrev pub log_of : List ℕ → LogRead
log_of s = log_from (length s) s 0

abbrev pub counted : ℕ → LogRead → Result ℕ ℕ
counted n (records rs) = Ok (n + length rs)
counted n (fault place) = Err place

abbrev pub scan_of : List ℕ → Result ℕ ℕ
scan_of s = counted 0 (log_of s)
