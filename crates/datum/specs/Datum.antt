-- A datum: what its words say, the whole units that it stands for, and its value. Document 01, "Words" and the refusal table.
use Rattle.std.specs.Prelude.{ℕ, zero, suc, ◌+◌, ◌*◌, List, ℤ, cond, eqb, Option, Some, None, Result, Ok, Err}
use Rattle.std.specs.Float.{binary32, binary64}
use Rattle.std.specs.Float.Ieee.{of_bits}
use Rattle.refusal.specs.declared.Refusal.{Refusal}
use Rattle.refusal.specs.declared.Refusal.TheVariants.{WrongWord, OpenDatum, NoWholeNumber, OutOfRange}
use Rattle.words.specs.declared.Form as F
use Rattle.words.specs.Words.{word_at, twos}
use Rattle.words.specs.Cases.{if_datum, if_piece}
use Rattle.whole.specs.Whole.{whole_of}
use Rattle.ranges.specs.Table.{allowed}
use Rattle.datum.specs.declared.Datum as D

-- "piece, 16 bits, most significant first": n pieces behind the bits read before
unfoldable pub pieces_at : List ℕ → ℕ → ℕ → ℕ → Result ℕ ℕ
pieces_at s at zero bits = Ok bits
pieces_at s at (suc n) bits = if_piece (word_at s at) (λ b. pieces_at s (at + 1) n (bits * 65536 + b)) (Err at)

-- "forms 0 (two's complement), 1, 2 with 2, 2, 4 pieces. Form 3 is open: entered later, no pieces"
abbrev pub form_pieces : F.Form → ℕ
form_pieces F.TheVariants.Whole = 2
form_pieces F.TheVariants.Single = 2
form_pieces F.TheVariants.Double = 4
form_pieces F.TheVariants.Open = 0

-- "A datum arrives as a 32-bit whole number, a binary32 or a binary64"
abbrev pub in_form : F.Form → ℕ → D.Datum
in_form F.TheVariants.Whole b = D.TheVariants.Whole (twos 2147483648 b)
in_form F.TheVariants.Single b = D.TheVariants.Single (of_bits binary32 b)
in_form F.TheVariants.Double b = D.TheVariants.Double (of_bits binary64 b)
in_form F.TheVariants.Open b = D.TheVariants.Open

abbrev pub on_pieces : Result ℕ ℕ → (ℕ → D.Datum) → ℕ → Result (D.Datum × ℕ) ℕ
on_pieces (Ok b) made next = Ok (made b, next)
on_pieces (Err place) made next = Err place

-- the pieces of a form
unfoldable pub form_at : F.Form → List ℕ → ℕ → Result (D.Datum × ℕ) ℕ
form_at f s at = on_pieces (pieces_at s at (form_pieces f) 0) (in_form f) (at + form_pieces f)

-- "of wrong kind, number or bits": the word at `at` must be that of datum k
unfoldable pub datum_at : List ℕ → ℕ → ℕ → Result (D.Datum × ℕ) ℕ
datum_at s k at =
    if_datum (word_at s at) (λ n form. cond (eqb n k) (form_at form s (at + 1)) (Err at)) (Err at)

-- the place behind the datum whose own word stands at `at`: its pieces are as many as its form says
unfoldable pub behind_of : List ℕ → ℕ → ℕ
behind_of s at = if_datum (word_at s at) (λ n form. at + 1 + form_pieces form) at

-- "float stands for no whole number": at its kind 2 word
abbrev pub of_whole : ℕ → Option ℤ → Result ℤ Refusal
of_whole at (Some z) = Ok z
of_whole at None = Err (NoWholeNumber at)

-- "datum open": at its kind 2 word
unfoldable pub units_of : D.Datum → ℕ → Result ℤ Refusal
units_of (D.TheVariants.Whole z) at = Ok z
units_of (D.TheVariants.Single x) at = of_whole at (whole_of x)
units_of (D.TheVariants.Double x) at = of_whole at (whole_of x)
units_of D.TheVariants.Open at = Err (OpenDatum at)

-- "datum out of range": at its kind 2 word; "per datum 1, 2, 3, 4"
abbrev pub of_units : ℕ → ℕ → ℕ → ℕ → Result ℤ Refusal → Result (ℤ × ℕ) Refusal
of_units head k at next (Ok z) = cond (allowed head k z) (Ok (z, next)) (Err (OutOfRange at))
of_units head k at next (Err why) = Err why

-- "list word missing, of wrong kind, number or bits": at that word
abbrev pub of_read : ℕ → ℕ → ℕ → Result (D.Datum × ℕ) ℕ → Result (ℤ × ℕ) Refusal
of_read head k at (Ok (d, next)) = of_units head k at next (units_of d at)
of_read head k at (Err place) = Err (WrongWord place)

-- datum k at a place, of a list whose head says so many data
unfoldable pub value_at : ℕ → List ℕ → ℕ → ℕ → Result (ℤ × ℕ) Refusal
value_at head s k at = of_read head k at (datum_at s k at)
