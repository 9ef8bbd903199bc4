-- What is wrong with a datum of a list, with nothing said of how it is read: document 01's refusal table.
use Rattle.std.specs.Prelude.{ℕ, zero, suc, List, [], ◌∷◌, ◌++◌, ℤ, T}
use Rattle.std.specs.Float.{binary32, binary64}
use Rattle.std.specs.Float.Ieee.{of_bits}
use Rattle.refusal.specs.declared.Refusal.{Refusal}
use Rattle.refusal.specs.declared.Refusal.TheVariants.{WrongWord, OpenDatum, NoWholeNumber, OutOfRange}
use Rattle.words.specs.declared.Form.{Form}
use Rattle.words.specs.declared.Form.TheVariants.{Single, Double, Open}
use Rattle.words.specs.declared.Word.TheVariants.{Datum}
use Rattle.words.specs.IsWord.{IsWord}
use Rattle.words.specs.Breaks.{Sort, a_datum, a_piece, Lacks, Breaks}
use Rattle.whole.specs.Stands.{StandsFor}
use Rattle.ranges.specs.Table.{allowed}
use Rattle.datum.specs.Datum.{form_pieces}
use Rattle.datum.specs.Written.{InPieces, Written}

abbrev pub pieces : ℕ → List Sort
pieces zero = []
pieces (suc n) = a_piece ∷ pieces n

-- the fault of datum k of a list with this head, whose words begin here: its row of the table, and its place counted from here; "per datum 1, 2, 3, 4"
pub data DatumFault (head k : ℕ) : List ℕ → (ℕ → Refusal) → ℕ → Type 0 where
  -- "list word missing, of wrong kind, number or bits"
  no_datum : {ws : List ℕ} → Lacks (a_datum k) ws → DatumFault head k ws WrongWord 0
  no_piece : {w m : ℕ} {f : Form} {ws : List ℕ} → IsWord w (Datum k f) → Breaks (pieces (form_pieces f)) ws m → DatumFault head k (w ∷ ws) WrongWord (suc m)
  -- "datum open": "place of its kind 2 word"
  is_open : {w : ℕ} {ws : List ℕ} → IsWord w (Datum k Open) → DatumFault head k (w ∷ ws) OpenDatum 0
  -- "float stands for no whole number": "same"
  no_single : {w b : ℕ} {ps : List ℕ} (ws : List ℕ) → IsWord w (Datum k Single) → InPieces 2 b ps → ((z : ℤ) → StandsFor (of_bits binary32 b) z → ⊥) → DatumFault head k (w ∷ (ps ++ ws)) NoWholeNumber 0
  no_double : {w b : ℕ} {ps : List ℕ} (ws : List ℕ) → IsWord w (Datum k Double) → InPieces 4 b ps → ((z : ℤ) → StandsFor (of_bits binary64 b) z → ⊥) → DatumFault head k (w ∷ (ps ++ ws)) NoWholeNumber 0
  -- "datum out of range": "same"
  beyond : {z : ℤ} {w : List ℕ} (ws : List ℕ) → Written k z w → (T (allowed head k z) → ⊥) → DatumFault head k (w ++ ws) OutOfRange 0
