-- `logs::put_devices` meets its contract. Assumes nothing.
use mathlib.Core.Path.{◌≡◌, sym, ◌∙◌}
use Prim.Native.Nat.{◌+◌, ◌-◌, ◌*◌, ◌<◌}
use native.Mathlib.Omega.{arith}
use lib.ListN.{set, length-set}
use Rattle.logs.specs.Alone.{with_devices}
use Rattle.logs.proofs.Thirds.{device_put, no_more}
use Rattle.logs.proofs.put_devices.Goals as goal

pub loop-cycle-preserved : goal.loop-cycle-preserved
loop-cycle-preserved c =
    let l = c.loop-cycle in
    let at = 3 * l.cycle in
    let next : 3 * (l.cycle + 1) ≡ at + 3 = omega arith in
    let left : c.args.cycles - (l.cycle + 1) ≡ c.args.cycles - l.cycle - 1 = omega arith in
    let more : 0 < c.args.cycles - l.cycle = omega (arith, c.loop-cycle-test.true) in (
      length-set l.out (at + 2) c.device_word.result ∙ l.invariant.0,
      (λ i. with_devices (next i) (left i) (set l.out (at + 2) (c.device_word.ensures i))) ∙ sym (device_put at (c.args.cycles - l.cycle) l.out more) ∙ l.invariant.1,
    )

pub returns : goal.returns
returns c =
    let l = c.loop-cycle in sym (no_more (3 * l.cycle) (c.args.cycles - l.cycle) l.out (omega (arith, c.loop-cycle-test.false))) ∙ l.invariant.1
