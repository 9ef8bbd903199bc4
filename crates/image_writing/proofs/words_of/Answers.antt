-- `image_writing::words_of` meets its contract: the directions, the front and the pending list's count, over any words. Assumes nothing.
use lib.ListN.{replicate}
use Rattle.image_writing.proofs.Back.{written_all}
use Rattle.image_writing.proofs.words_of.Goals as goal

pub returns : goal.returns
returns c =
    let a = c.args in
    written_all a.count a.state a.pending (replicate 26 0) c.put_directions.ensures c.put_front.ensures c.put_pending.ensures
