-- `records::entry_at` meets its contract. Assumes nothing.
use mathlib.Core.Path.{sym, ap, ◌∙◌}
use Rattle.words.specs.declared.Word.{Word}
use Rattle.records.specs.Records.{between_of}
use Rattle.records.proofs.Parts.{no_record}
use Rattle.records.proofs.entry_at.Goals as goal

pub returns-in_default : goal.returns-in_default
returns-in_default c =
    let a = c.args in c.between.ensures ∙ ap (λ (x : Word). between_of x a.at) (sym c.word_at.ensures) ∙ no_record a.words.now a.at c.word_at.ensures c.in_default.not-Position
