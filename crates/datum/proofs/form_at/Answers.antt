-- `datum::form_at` meets its contract. Assumes nothing.
use mathlib.Core.Path.{sym, ap, ◌∙◌}
use Prim.Native.Nat.{◌+◌}
use borrow.Author.Rules.{rules}
use Rattle.std.specs.Prelude.{Ok}
use Rattle.datum.specs.declared.Datum.{Datum}
use native.Mathlib.Omega.{arith}
use Rattle.datum.proofs.Joined.{within}
use Rattle.datum.proofs.Forms.{bits_fit, by_pieces}
use Rattle.datum.proofs.form_at.Goals as goal

pub returns-in_err-bits : goal.returns-in_err-bits
returns-in_err-bits c =
    let s = c.args in
    let e = by_pieces s.form s.words.now s.at c.requires (sym c.pieces_at.ensures ∙ c.in_err-bits.was) in
    search rules

pub in_form-requires : goal.in_form-requires
in_form-requires c =
    bits_fit c.args.form c.args.words.now c.args.at c.requires (sym c.pieces_at.ensures ∙ c.in_ok-bits.was)

pub overflow_add-result : goal.overflow_add-result
overflow_add-result c =
    omega (arith, within c.args.words.now c.args.at c.args.n 0 _ (sym c.pieces_at.ensures ∙ c.in_ok-bits.was), c.well_formed, c.ranges.at)

pub returns : goal.returns
returns c =
    let s = c.args in
    ap (λ (d : Datum). Ok (d, s.at + s.n)) c.in_form.ensures ∙ by_pieces s.form s.words.now s.at c.requires (sym c.pieces_at.ensures ∙ c.in_ok-bits.was)
