-- `numerals::fill` meets its contract. Assumes nothing.
use Rattle.std.proofs.Common.{◌++◌, length, arith, sym, ap, ◌∙◌, append-nil}
use Rattle.std.proofs.Math.ListN.{drop_of_length-le}
use Rattle.numerals.specs.Numerals.{radix, glyph, digits}
use Rattle.numerals.proofs.Placed.{put_on, all_put}
use Rattle.numerals.proofs.fill.Goals as goal

pub loop-i-init : goal.loop-i-init
loop-i-init c =
    let a = c.args in
    ap (λ l. digits (radix a.base) (length a.out.now) a.n ++ l) (drop_of_length-le a.out.now (omega arith)) ∙ append-nil (digits (radix a.base) (length a.out.now) a.n)

pub loop-i-preserved : goal.loop-i-preserved
loop-i-preserved c =
    let l = c.loop-i in
    put_on (radix c.args.base) l.rest l.i l.out (c.glyph.ensures ∙ ap glyph c.parted-shorter.ensures.last) c.parted-shorter.ensures.rest c.loop-i-test.true (omega arith) ∙ l.invariant

pub returns : goal.returns
returns c =
    let l = c.loop-i in
    sym (all_put (radix c.args.base) l.rest l.i l.out c.loop-i-test.false) ∙ l.invariant
