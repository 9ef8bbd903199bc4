-- A refusal's number, and what is returned beside it: document 01's refusal table and W7, a row a case.
use Rattle.std.specs.Prelude.{ℕ}
use Rattle.refusal.specs.declared.Refusal.{Refusal}
use Rattle.refusal.specs.declared.Refusal.TheVariants.{WrongWord, OpenDatum, NoWholeNumber, OutOfRange, SeEnds, WrongLog, ShortOutput, NothingPending}

abbrev pub refusal_number : Refusal → ℕ
-- "list word missing, of wrong kind, number or bits"
refusal_number (WrongWord place) = 1
-- "datum open"
refusal_number (OpenDatum place) = 2
-- "float stands for no whole number"
refusal_number (NoWholeNumber place) = 3
-- "datum out of range"
refusal_number (OutOfRange place) = 4
-- "SE minus not below its plus"
refusal_number (SeEnds place) = 5
-- "log over 16,384 words, or a word missing or wrong"
refusal_number (WrongLog place) = 6
-- "output below 3 words a cycle"
refusal_number (ShortOutput wanted) = 7
-- W7: "8, place 0: commit with nothing pending"
refusal_number NothingPending = 8

abbrev pub refusal_place : Refusal → ℕ
-- "place"
refusal_place (WrongWord place) = place
-- "place of its kind 2 word", "same", "same"
refusal_place (OpenDatum place) = place
refusal_place (NoWholeNumber place) = place
refusal_place (OutOfRange place) = place
-- "place of the minus datum"
refusal_place (SeEnds place) = place
-- "16,384, or place"
refusal_place (WrongLog place) = place
-- "words wanted"
refusal_place (ShortOutput wanted) = wanted
-- W7: "8, place 0"
refusal_place NothingPending = 0
