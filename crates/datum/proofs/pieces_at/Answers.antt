-- `datum::pieces_at` meets its contract. Assumes nothing.
use mathlib.Core.Path.{sym, ◌∙◌}
use Prim.Native.Nat.{◌+◌, ◌-◌}
use native.Mathlib.Omega.{arith}
use borrow.Author.Rules.{rules}
use Rattle.datum.proofs.Joined.{piece_there, one_more, bad_here, none_left, small, grown}
use Rattle.datum.proofs.pieces_at.Goals as goal

pub returns-in_default : goal.returns-in_default
returns-in_default c =
    let l = c.loop-i in
    bad_here c.args.words.now (c.args.at + l.i) l.bits (c.args.n - l.i) (omega arith) c.word_at.ensures c.in_default.not-Piece ∙ l.invariant.rest

pub overflow_mul-bits : goal.overflow_mul-bits
overflow_mul-bits c =
    let l = c.loop-i in omega (arith, small l.i l.bits (omega (arith, c.requires)) l.invariant.size)

pub overflow_add-bits : goal.overflow_add-bits
overflow_add-bits c =
    let l = c.loop-i in omega (arith, small l.i l.bits (omega (arith, c.requires)) l.invariant.size)

pub loop-i-preserved : goal.loop-i-preserved
loop-i-preserved c =
    let l = c.loop-i in
    let word = sym c.word_at.ensures ∙ c.in-Piece.is in
    record {
      size = grown l.i (l.i + 1) l.bits _ (omega arith) l.invariant.size (search rules);
      inside = omega (arith, piece_there c.args.words.now (c.args.at + l.i) word);
      rest = rw c.from.ensures (one_more c.args.words.now c.args.at l.i c.args.n l.bits (omega arith) word ∙ l.invariant.rest);
    }

pub returns : goal.returns
returns c =
    let l = c.loop-i in
    none_left c.args.words.now (c.args.at + l.i) (c.args.n - l.i) l.bits (omega arith) ∙ l.invariant.rest
