-- The words of lists and logs: document 01, "Words".
use Rattle.std.specs.Prelude.{ℕ, zero, suc, ◌*◌, ◌/◌, ◌%◌, cond, ◌&&◌, List, length, get_or, ℤ, pos, ◌-ℤ◌, ltb, eqb, Option, Some, None}
use Rattle.words.specs.declared.Form.{Form}
use Rattle.words.specs.declared.Form.TheVariants.{Whole, Single, Double, Open}
use Rattle.words.specs.declared.Word.{Word}
use Rattle.words.specs.declared.Word.TheVariants.{Head, Datum, Piece, Position, Lower, Upper, End, Remark, Other}

-- "two's complement": from half on, the number less twice half
unfoldable pub twos : ℕ → ℕ → ℤ
twos half b = cond (ltb b half) (pos b) (pos b -ℤ pos (2 * half))

-- "forms 0 (two's complement), 1, 2 .. Form 3 is open"; 1 and 2 are "a binary32 or a binary64"
abbrev pub form_of : ℕ → Form
form_of zero = Whole
form_of (suc zero) = Single
form_of (suc (suc zero)) = Double
form_of (suc (suc (suc n))) = Open

-- a form's number has two bits
abbrev pub numbered_form : ℕ → Option Form
numbered_form n = cond (ltb n 4) (Some (form_of n)) None

-- "Kind 2: datum, number in bits 16-23, form in bits 0-1", "unused bits 0"
unfoldable pub datum_word : ℕ → Word
datum_word v = cond (ltb (v / 65536) 256 && ltb (v % 65536) 4) (Datum (v / 65536) (form_of (v % 65536))) Other

-- "Kind 1: list head", whose value is the number of data; "Kind 3: piece, 16 bits"; "Kind 4: position, 28 bits two's complement";
-- "Kinds 5 and 6: lower and upper 16 bits of the input word"; "Kind 7: cycle end, bit 0 acknowledges"; "Kind 15: remark"
abbrev pub by_kind : ℕ → ℕ → Word
by_kind k v =
    cond (eqb k 1) (Head v)
    (cond (eqb k 2) (datum_word v)
    (cond (eqb k 3) (cond (ltb v 65536) (Piece v) Other)
    (cond (eqb k 4) (Position (twos 134217728 v))
    (cond (eqb k 5) (cond (ltb v 65536) (Lower v) Other)
    (cond (eqb k 6) (cond (ltb v 65536) (Upper v) Other)
    (cond (eqb k 7) (cond (ltb v 2) (End (eqb v 1)) Other)
    (cond (eqb k 15) Remark Other)))))))

-- "the top 4 bits are the kind"
unfoldable pub word_of : ℕ → Word
word_of w = by_kind (w / 268435456) (w % 268435456)

-- the word at a place; "a missing word has the place behind the last one", and reads as no word of the format
unfoldable pub word_at : List ℕ → ℕ → Word
word_at s at = cond (ltb at (length s)) (word_of (get_or s at 0)) Other
