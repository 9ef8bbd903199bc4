-- `axis_monitor::guard` meets its contract, by the function. Assumes nothing.
use mathlib.Core.Path.{◌≡◌, sym, ap, ◌∙◌}
use mathlib.Core.Bool.{true, false}
use Rattle.machine_data.specs.Data.{function_of}
use Rattle.directions.specs.declared.Directions.{Directions}
use Rattle.directions.specs.Directions.{overstepped, watched_of}
use Rattle.image_writing.specs.Written.{writing_directions}
use Rattle.axis_monitor.proofs.guard.Goals as goal

pub returns-then-on : goal.returns-then-on
unfolding watched_of
returns-then-on c =
    let a = c.args in
    let d = a.values.now in
    let x = a.before.kept.directions in
    let is-on : function_of d 5 ≡ true = sym c.on.ensures ∙ c.if-on.true in
    let next = c.next-after.ensures in
    let far = c.overstepped.ensures ∙ ap (overstepped d a.reading.position) next in record { value = simp is-on (λ i. record { directions = next i; overstepped = far i }); state_after = c.put_directions.ensures ∙ ap (λ (y : Directions). writing_directions y a.state.now) next ∙ simp is-on }

pub returns-else-on : goal.returns-else-on
unfolding watched_of
returns-else-on c =
    let is-off : function_of c.args.values.now 5 ≡ false = sym c.on.ensures ∙ c.if-on.false in
    record { value = simp is-off; state_after = simp is-off }
