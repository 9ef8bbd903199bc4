-- The words of a record by their kinds and unused bits: document 01, "kinds 4, 5, 6 of A, the same of B, then 7".
use Rattle.std.specs.Prelude.{ℕ, ◌+◌, ◌*◌, ◌/◌, ◌%◌, Bool, cond, ◌&&◌, List, length, get_or, Option, Some, None, ℤ, ltb, eqb}
use Rattle.words.specs.Words.{twos}
use Rattle.inputs.specs.declared.Reading.{Reading}
use Rattle.seven.specs.declared.CycleRecord.{CycleRecord}
use Rattle.seven.specs.declared.Halves.{Halves}
use Rattle.seven.specs.declared.Six.{Six}

-- the six words behind a place
abbrev pub six_from : List ℕ → ℕ → Six
six_from s at =
    record {
      a = record { lower = get_or s (at + 1) 0; upper = get_or s (at + 2) 0 };
      position = get_or s (at + 3) 0;
      b = record { lower = get_or s (at + 4) 0; upper = get_or s (at + 5) 0 };
      end = get_or s (at + 6) 0;
    }

-- none, where one of them is missing
unfoldable pub six_behind : List ℕ → ℕ → Option Six
six_behind s at = cond (ltb (at + 6) (length s)) (Some (six_from s at)) None

-- "kinds 5 and 6", "unused bits 0": 5 × 2^12 and 6 × 2^12 in the upper half
unfoldable pub are_halves : Halves → Bool
are_halves h = eqb (h.lower / 65536) 20480 && eqb (h.upper / 65536) 24576

-- "5, 6 of A, the same of B, then 7": 4 in B's top 4 bits, 7 × 2^27 above bit 0
unfoldable pub are_six : Six → Bool
are_six w = eqb (w.position / 268435456) 4 && eqb (w.end / 2) 939524096 && are_halves w.a && are_halves w.b

-- "lower and upper 16 bits of the input word"
abbrev pub reading_from : ℤ → Halves → Reading
reading_from position h = record { position = position; inputs = h.upper % 65536 * 65536 + h.lower % 65536 }

-- the record of a first word's position and the six words behind it
abbrev pub record_of : ℤ → Six → CycleRecord
record_of position w =
    record {
      a = reading_from position w.a;
      b = reading_from (twos 134217728 (w.position % 268435456)) w.b;
      acknowledged = eqb (w.end % 2) 1;
    }
