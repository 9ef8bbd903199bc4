-- `image_writing::put_pending` meets its contract. Assumes nothing.
use Rattle.std.proofs.Common.{sym, ap, slice_set, List, ℕ, ◌%◌}
use Rattle.image_writing.proofs.Back.{written_pending}
use Rattle.image_writing.proofs.Entire.{entire}
use Rattle.image_writing.proofs.put_pending.Goals as goal

pub returns : goal.returns
returns c =
    let a = c.args in
    written_pending a.pending a.words.now (ap (λ (v : List ℕ). slice_set v 25 (a.pending % 4294967296)) (sym (entire a.words.now 26 c.told-words)))
