-- `records::scan_log` meets its contract. Assumes nothing.
use mathlib.Core.Path.{refl, sym, ap, ◌∙◌}
use Prim.Native.Nat.{◌+◌}
use native.Mathlib.Omega.{arith}
use lib.ListN.{length}
use borrow.Author.Rules.{rules}
use Rattle.std.proofs.Common.{Ok}
use Rattle.records.specs.Records.{counted, log_of}
use Rattle.records.proofs.Scanning.{record_there, at_record, remark_else, at_remark, at_bad, at_end, counted_before}
use Rattle.records.proofs.Parts.{passed_on}
use Rattle.records.proofs.scan_log.Goals as goal

pub loop-at-init : goal.loop-at-init
loop-at-init c =
    let s = c.args.words.now in (omega arith, omega arith, (log_of s, (length s, omega arith, refl), refl))

pub returns-in_err-entry_at : goal.returns-in_err-entry_at
returns-in_err-entry_at c =
    let l = c.loop-at in let s = c.args.words.now in
    passed_on _ _ c.from_residual.ensures ∙ ap (counted l.cycles) (at_bad s l.at l.invariant.2.0 c.loop-at-test.true (sym c.in_err-entry_at.ensures) l.invariant.2.1) ∙ l.invariant.2.2

pub loop-at-preserved : goal.loop-at-preserved
loop-at-preserved c =
    let l = c.loop-at in let s = c.args.words.now in
    let r = c.in-Record.field-0 in
    let is = sym c.in_ok-entry_at.ensures ∙ ap Ok c.in-Record.is in
    let x = at_record s l.at l.invariant.2.0 r c.loop-at-test.true is l.invariant.2.1 in
    (record_there s l.at r is, omega arith, (x.0, x.1, sym (counted_before l.cycles r x.0) ∙ ap (counted l.cycles) x.2 ∙ l.invariant.2.2))

pub loop-at-preserved-in_default : goal.loop-at-preserved-in_default
loop-at-preserved-in_default c =
    let l = c.loop-at in let s = c.args.words.now in
    (search rules, search rules, (l.invariant.2.0, at_remark s l.at l.invariant.2.0 c.loop-at-test.true (sym c.in_ok-entry_at.ensures ∙ ap Ok (remark_else _ c.in_default.not-Record)) l.invariant.2.1, l.invariant.2.2))

pub returns : goal.returns
returns c =
    let l = c.loop-at in let s = c.args.words.now in
    ap Ok {x = l.cycles} {y = l.cycles + 0} (omega arith) ∙ ap (counted l.cycles) (at_end s l.at l.invariant.2.0 c.loop-at-test.false l.invariant.2.1) ∙ l.invariant.2.2
