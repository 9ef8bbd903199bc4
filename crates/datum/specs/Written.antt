-- How a datum is written, with nothing said of how it is read: document 01, "Words".
use Rattle.std.specs.Prelude.{ℕ, suc, ◌+◌, ◌*◌, ◌^◌, List, [], ◌∷◌, ℤ}
use Rattle.std.specs.Float.{binary32, binary64}
use Rattle.std.specs.Float.Ieee.{of_bits}
use Rattle.words.specs.declared.Form.TheVariants.{Whole, Single, Double}
use Rattle.words.specs.declared.Word.TheVariants.{Datum, Piece}
use Rattle.words.specs.Words.{twos}
use Rattle.words.specs.IsWord.{IsWord}
use Rattle.whole.specs.Stands.{StandsFor}

-- "piece, 16 bits, most significant first": the words of n pieces that hold b
pub data InPieces : ℕ → ℕ → List ℕ → Type 0 where
  nothing : InPieces 0 0 []
  piece : {w p n b : ℕ} {ws : List ℕ} → IsWord w (Piece p) → InPieces n b ws → InPieces (suc n) (p * 65536 ^ n + b) (w ∷ ws)

-- "A datum arrives as a 32-bit whole number, a binary32 or a binary64": the words that datum k with the value z may have
pub data Written (k : ℕ) : ℤ → List ℕ → Type 0 where
  whole : {w b : ℕ} {ws : List ℕ} → IsWord w (Datum k Whole) → InPieces 2 b ws → Written k (twos 2147483648 b) (w ∷ ws)
  single : {w b : ℕ} {ws : List ℕ} {z : ℤ} → IsWord w (Datum k Single) → InPieces 2 b ws → StandsFor (of_bits binary32 b) z → Written k z (w ∷ ws)
  double : {w b : ℕ} {ws : List ℕ} {z : ℤ} → IsWord w (Datum k Double) → InPieces 4 b ws → StandsFor (of_bits binary64 b) z → Written k z (w ∷ ws)
