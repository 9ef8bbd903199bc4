-- `records::other_at` meets its contract. Assumes nothing.
use mathlib.Core.Path.{sym, ap, ◌∙◌}
use Prim.Native.Nat.{◌+◌}
use lib.IntN.{ℤ}
use borrow.Author.Rules.{rules}
use Rattle.records.specs.Records.{ending_at, reading}
use Rattle.records.proofs.Parts.{passed_on, other_is}
use Rattle.records.proofs.other_at.Goals as goal

pub returns-in_err-inputs : goal.returns-in_err-inputs
returns-in_err-inputs c =
    passed_on _ _ c.from_residual.ensures ∙ other_is c.args.words.now c.args.at c.args.a (sym c.in-Position.ensures) (sym c.in_err-inputs.ensures)

pub returns : goal.returns
returns c =
    c.ending_at.ensures
    ∙ ap (λ (z : ℤ). ending_at c.args.words.now (c.args.at + 3) c.args.a (reading z c.in_ok-inputs.inputs)) (search rules)
    ∙ other_is c.args.words.now c.args.at c.args.a (sym c.in-Position.ensures) (sym c.in_ok-inputs.ensures)
