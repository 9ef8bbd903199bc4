-- `kit_bytes::read_words` meets its contract. Assumes nothing.
use Rattle.std.proofs.Common.{◌≡◌}
use Rattle.std.proofs.Math.Seq.{paste}
use Rattle.kit_bytes.specs.KitBytes.{words_of}
use Rattle.kit_bytes.proofs.read_words.Given as goal

-- the first i words are put
abbrev pub invariant-loop-i : goal.invariant-loop-i
invariant-loop-i l = l.out ≡ paste l.initial.out 0 (words_of l.bytes) l.i
