-- `whole::whole` meets its contract: the law of Reading.antt at its format. Assumes nothing.
use mathlib.Core.Path.{◌≡◌, sym, ap, ◌∙◌}
use mir.Syntax.{w32}
use mir.ValLaws.{to_z-of_z}
use borrow.Author.Rules.{rules}
use Rattle.whole.specs.Bits.{compared, pattern_number}
use Rattle.whole.proofs.Nan.{no_number, number_is}
use Rattle.whole.proofs.Reading.{reading}
use Rattle.whole.proofs.whole.Goals as goal

pub returns-in_err-wide : goal.returns-in_err-wide
returns-in_err-wide g c = c.from_residual.ensures ∙ no_number _ (sym c.wide.ensures ∙ c.in_err-wide.was)

pub returns : goal.returns
returns g c =
    let f = g.F.Binary.format in
    let x = g.F.Binary.value c.args.x in
    let n = to_z-of_z w32 c.number_of.result (search rules) ∙ c.number_of.ensures ∙ ap (pattern_number f) c.pattern.ensures.bits in
    let w : c.in_ok-wide.wide ≡ x = number_is x (sym c.wide.ensures ∙ c.in_ok-wide.was) in
    c.compared.ensures ∙ (λ i. compared (w i) (n i)) ∙ reading f x c.pattern.ensures.fits
