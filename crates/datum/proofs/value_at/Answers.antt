-- `datum::value_at` meets its contract. Assumes nothing.
use mathlib.Core.Path.{sym, ap, ◌∙◌}
use Rattle.datum.specs.Datum.{of_read, value_at}
use Rattle.datum.proofs.Forms.{read_is, bad_is, by_units, by_range}
use borrow.Author.Rules.{rules}
use Rattle.datum.proofs.value_at.Goals as goal

pub returns-in_err-d : goal.returns-in_err-d
unfolding value_at
returns-in_err-d c =
    let s = c.args in
    let e = bad_is s.head s.k s.at c.datum_at.result c.map_err.result c.map_err.ensures.cases c.in_err-d.was ∙ ap (of_read s.head s.k s.at) c.datum_at.ensures in
    search rules

pub returns-in_err-z : goal.returns-in_err-z
returns-in_err-z c =
    let s = c.args in
    let read = sym c.datum_at.ensures ∙ read_is c.datum_at.result c.map_err.result c.map_err.ensures.cases c.in_ok-d.was in
    let e = by_units s.head s.words.now s.k s.at read (sym c.resolve.ensures ∙ c.in_err-z.was) in
    search rules

pub returns-then-allowed : goal.returns-then-allowed
returns-then-allowed c =
    let s = c.args in
    let read = sym c.datum_at.ensures ∙ read_is c.datum_at.result c.map_err.result c.map_err.ensures.cases c.in_ok-d.was in
    by_range s.head s.words.now s.k s.at read (sym c.resolve.ensures ∙ c.in_ok-z.was) (search rules) (sym c.allowed.ensures ∙ c.if-allowed.true)

pub returns-else-allowed : goal.returns-else-allowed
returns-else-allowed c =
    let s = c.args in
    let read = sym c.datum_at.ensures ∙ read_is c.datum_at.result c.map_err.result c.map_err.ensures.cases c.in_ok-d.was in
    by_range s.head s.words.now s.k s.at read (sym c.resolve.ensures ∙ c.in_ok-z.was) (search rules) (sym c.allowed.ensures ∙ c.if-allowed.false)
