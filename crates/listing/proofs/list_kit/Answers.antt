-- `listing::list_kit` meets its contract. Assumes nothing.
use mathlib.Core.Path.{ap}
use native.Mathlib.Omega.{arith}
use Rattle.lines.specs.Lines.{refusal_line}
use Rattle.numerals.proofs.Room.{puts_same, puts_within}
use Rattle.listing.proofs.Texts.{listed_whole, listed_odd}
use Rattle.listing.proofs.list_kit.Goals as goal

pub returns-then-not-whole_words : goal.returns-then-not-whole_words
returns-then-not-whole_words c =
    puts_same (listed_odd c.args.kit.now c.whole_words.ensures c.if-not-whole_words.true) (puts_within (omega arith) (puts_same (ap refusal_line c.line_of.ensures) c.put.ensures))

pub returns : goal.returns
returns c =
    puts_same (listed_whole c.args.kit.now c.whole_words.ensures c.if-not-whole_words.false) c.list_in.ensures
