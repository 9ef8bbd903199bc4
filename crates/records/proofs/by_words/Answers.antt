-- `records::by_words` meets its contract. Assumes nothing.
use mathlib.Core.Path.{sym, ap, ◌∙◌}
use Prim.Native.Nat.{◌+◌}
use lib.IntN.{ℤ}
use borrow.Author.Rules.{rules}
use Rattle.records.specs.Records.{other_at, reading}
use Rattle.records.proofs.Parts.{passed_on, entry_is}
use Rattle.records.proofs.by_words.Goals as goal

pub returns-in_err-inputs : goal.returns-in_err-inputs
returns-in_err-inputs c =
    passed_on _ _ c.from_residual.ensures ∙ entry_is c.args.words.now c.args.at c.requires (sym c.in_err-inputs.ensures)

pub returns : goal.returns
returns c =
    c.other_at.ensures
    ∙ ap (λ (z : ℤ). other_at c.args.words.now (c.args.at + 3) (reading z c.in_ok-inputs.inputs)) (search rules)
    ∙ entry_is c.args.words.now c.args.at c.requires (sym c.in_ok-inputs.ensures)
