-- `image_writing::put_directions` meets its contract. Assumes nothing.
use Rattle.std.proofs.Common.{◌≡◌, sym, ◌∙◌}
use borrow.Rule.Slice.PartMut.{put_mid}
use Rattle.image.specs.Image.{direction_words, DirectionsFit}
use Rattle.image_writing.proofs.Back.{written_directions}
use Rattle.image_writing.proofs.Entire.{entire}
use Rattle.image_writing.proofs.put_directions.Goals as goal

pub returns : goal.returns
returns c =
    let a = c.args in
    let fits : DirectionsFit a.directions = record { positive = c.position_words-positive.ensures.position_fits; negative = c.position_words-negative.ensures.position_fits } in
    let six : c.copy_from_slice.new.self ≡ direction_words a.directions = c.copy_from_slice.ensures.after ∙ simp (c.position_words-positive.ensures.value, c.position_words-negative.ensures.value) in
    written_directions a.directions fits a.words.now (λ i. put_mid 19 6 (sym (entire a.words.now 26 c.told-words) i) (six i))
