-- `image_writing::put_front` meets its contract. Assumes nothing.
use Rattle.std.proofs.Common.{◌≡◌, sym, ◌∙◌, ◌++◌, slice_set}
use borrow.Rule.Slice.PartMut.{post_of}
use mir.Syntax.{w32}
use mir.Val.{SFits}
use mir.Facts.{to_z-of_z}
use Rattle.image.specs.Image.{front_words, Fits}
use Rattle.crossing.proofs.Twos.{is_signed}
use Rattle.image_writing.proofs.Back.{written_front}
use Rattle.image_writing.proofs.Entire.{entire}
use borrow.Author.Rules.{rules}
use Rattle.image_writing.proofs.put_front.Goals as goal

pub returns : goal.returns
returns c =
    let a = c.args in let f : SFits w32 a.state.kept.choice.reference = search rules in
    let fits : Fits a.state = record { k = search rules; effective = c.selection_words-effective.ensures.selection_fits; reference = is_signed _ f; stop = c.stop_words-stop.ensures.stop_fits; previous = c.position_words-previous.ensures.position_fits } in
    let front : c.copy_from_slice.new.self ≡ front_words a.count a.state =
    c.copy_from_slice.ensures.after ∙ simp (c.position_words-previous.ensures.value, c.yes_word.ensures, c.selection_words-effective.ensures.value, c.unsigned.ensures, c.yes_word-2.ensures, c.yes_word-3.ensures, c.stop_words-stop.ensures.value, to_z-of_z f) in
    written_front a.count a.state fits a.words.now (λ i. slice_set (front i ++ post_of 0 19 (sym (entire a.words.now 26 c.told-words) i)) 25 0)
