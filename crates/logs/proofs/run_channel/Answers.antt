-- `logs::run_channel` meets its contract. The loop's invariant: what is left of the log gives, from here, what the whole log gives. Assumes nothing.
use mathlib.Core.Path.{refl, sym, ap, ◌∙◌}
use native.Mathlib.Omega.{arith}
use borrow.Author.Rules.{rules}
use lib.ListN.{length-set}
use lib.IntN.{ℤ}
use Rattle.machine_data.specs.Data.{list_of}
use Rattle.channel.specs.Cycle.{with_list}
use Rattle.seven.specs.Seven.{six_from, record_of}
use Rattle.laws.proofs.Never.{never}
use Rattle.words.proofs.IsWord.{read_at}
use Rattle.seven.proofs.ByBits.{position_held}
use Rattle.records.proofs.Seven.{at_word, begins_none}
use Rattle.logs.specs.Alone.{given_in}
use Rattle.logs.proofs.Going.{starts, there, remarked, stepped, ended}
use Rattle.logs.proofs.run_channel.Goals as goal

pub loop-at-init : goal.loop-at-init
loop-at-init c =
    (omega arith, refl, starts c.requires c.first_place-next.ensures)

pub loop-at-preserved-in_default : goal.loop-at-preserved-in_default
loop-at-preserved-in_default c =
    let l = c.loop-at in (search rules, l.invariant.1, remarked l.invariant.2 c.loop-at-test.true (begins_none _ c.word_of.ensures c.in_default.not-Position))

pub given_at-given-requires : goal.given_at-given-requires
given_at-given-requires c =
    (there c.loop-at.invariant.2 c.loop-at-test.true (sym c.in-Position.ensures)).0

pub bounds-out-next : goal.bounds-out-next
bounds-out-next c =
    (there c.loop-at.invariant.2 c.loop-at-test.true (sym c.in-Position.ensures)).1

pub loop-at-preserved : goal.loop-at-preserved
loop-at-preserved c =
    let l = c.loop-at in
    let a = c.args in
    let s = a.words.now in
    let p = c.in-Position.field-0 in
    let first = sym c.in-Position.ensures in
    let whole = there l.invariant.2 c.loop-at-test.true first in
    let held = position_held (read_at s l.at (at_word s l.at c.loop-at-test.true first) (λ e. never (cc))) in
    let given = c.given_at-given.ensures ∙ ap (λ (z : ℤ). given_in a.side (list_of a.other) l.reported (record_of z (six_from s l.at))) {y = p} held in (
      whole.0,
      length-set l.out l.next c.advance-after.result.word ∙ l.invariant.1,
      stepped l.invariant.2 c.loop-at-test.true first given c.advance-after.ensures c.next_k-reported.ensures,
    )

pub returns : goal.returns
returns c =
    let a = c.args in ended (with_list (list_of a.own) a.start) c.loop-at.invariant.2 c.loop-at-test.false
