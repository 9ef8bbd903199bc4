-- The cycle of calls {list_in, list_long} meets its contracts: a kit's text is that of its words, in whatever room they are read. Assumes nothing.
use Rattle.std.proofs.Common.{arith}
use Rattle.numerals.proofs.Room.{puts_same}
use Rattle.listing.proofs.Texts.{run_there, run_told}
use Rattle.listing.proofs.+list_in_list_long.Goals as goal

pub list_in-put_answer-requires : goal.list_in-put_answer-requires
list_in-put_answer-requires t c =
    let a = c.args in
    run_there a.kit.now a.room.now a.ran.now c.requires (omega (arith, c.if-room-many.false, c.if-many-room.false)) c.read_words.ensures c.run_kit-answer.ensures.value c.run_kit-answer.ensures.out_after

pub list_in-returns : goal.list_in-returns
list_in-returns t c =
    let a = c.args in
    puts_same (run_told a.kit.now a.room.now a.ran.now c.requires (omega (arith, c.if-room-many.false, c.if-many-room.false)) c.read_words.ensures c.run_kit-answer.ensures.value c.run_kit-answer.ensures.out_after) c.put_answer.ensures
