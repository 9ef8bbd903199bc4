-- How each word is written, as a table that says nothing of reading: document 01, "Words".
use Rattle.std.specs.Prelude.{ℕ, ◌+◌, ◌*◌, ◌<◌, eqb}
use Rattle.words.specs.declared.Word.{Word}
use Rattle.words.specs.declared.Word.TheVariants.{Head, Datum, Piece, Position, Lower, Upper, End, Remark}
use Rattle.words.specs.Words.{twos, form_of}

-- "the top 4 bits are the kind"
abbrev pub kinded : ℕ → ℕ → ℕ
kinded kind value = kind * 268435456 + value

pub data IsWord : ℕ → Word → Type 0 where
  -- "Kind 1: list head": which values a head may have, the list says
  head : {n : ℕ} → n < 268435456 → IsWord (kinded 1 n) (Head n)
  -- "Kind 2: datum, number in bits 16-23, form in bits 0-1"
  datum : {k f : ℕ} → k < 256 → f < 4 → IsWord (kinded 2 (k * 65536 + f)) (Datum k (form_of f))
  -- "Kind 3: piece, 16 bits"
  piece : {b : ℕ} → b < 65536 → IsWord (kinded 3 b) (Piece b)
  -- "Kind 4: position, 28 bits two's complement"
  position : {b : ℕ} → b < 268435456 → IsWord (kinded 4 b) (Position (twos 134217728 b))
  -- "Kinds 5 and 6: lower and upper 16 bits of the input word"
  lower : {b : ℕ} → b < 65536 → IsWord (kinded 5 b) (Lower b)
  upper : {b : ℕ} → b < 65536 → IsWord (kinded 6 b) (Upper b)
  -- "Kind 7: cycle end, bit 0 acknowledges"
  end : {b : ℕ} → b < 2 → IsWord (kinded 7 b) (End (eqb b 1))
  -- "Kind 15: remark, 28 free bits"
  remark : {v : ℕ} → v < 268435456 → IsWord (kinded 15 v) Remark
