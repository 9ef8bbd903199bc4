-- `list::read_list` meets its contract. Assumes nothing.
use mathlib.Core.Path.{sym, ◌∙◌}
use Rattle.list.proofs.Steps.{by_head}
use Rattle.list.proofs.read_list.Goals as goal

pub returns-then-is_head : goal.returns-then-is_head
returns-then-is_head c =
    c.data_from.ensures
    ∙ by_head c.args.words.now (sym c.word_at.ensures ∙ c.in-Head.is) (sym c.is_head.ensures ∙ c.if-is_head.true)

pub returns-else-is_head : goal.returns-else-is_head
returns-else-is_head c =
    c.refused-else-is_head.ensures
    ∙ by_head c.args.words.now (sym c.word_at.ensures ∙ c.in-Head.is) (sym c.is_head.ensures ∙ c.if-is_head.false)
