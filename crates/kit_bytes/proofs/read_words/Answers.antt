-- `kit_bytes::read_words` meets its contract. Assumes nothing.
use Rattle.std.proofs.Common.{◌/◌, length, arith, ◌∙◌}
use Rattle.kit_bytes.specs.KitBytes.{words_of}
use Rattle.kit_bytes.proofs.Words.{word_at, words_many, words_put, put_on}
use Rattle.kit_bytes.proofs.read_words.Goals as goal

pub loop-i-preserved : goal.loop-i-preserved
loop-i-preserved c =
    let bytes = c.args.bytes.now in
    let many = words_many bytes (length bytes / 4) (omega arith) (omega arith) in
    let is = word_at bytes (length bytes / 4) c.loop-i.i (omega arith) (omega arith) in
    put_on (words_of bytes) c.args.out.now c.loop-i.i c.loop-i.invariant (rw (c.from_be_bytes.ensures, c.as_chunks.ensures.front, is)) (omega arith) (omega arith)

pub returns : goal.returns
returns c =
    let bytes = c.args.bytes.now in
    let many = words_many bytes (length bytes / 4) (omega arith) (omega arith) in
    c.loop-i.invariant ∙ words_put (words_of bytes) c.args.out.now c.loop-i.i (omega arith)
