-- `cams::next` meets its contract: what a turn adds is the signal of its cam, at its place. Assumes nothing.
use Prim.Native.Nat.{◌*◌, ◌^◌}
use mathlib.Core.Path.{◌≡◌, refl, ◌∙◌}
use native.Mathlib.Omega.{arith}
use borrow.Author.Rules.{rules}
use mir.Facts.{to_z-of_z}
use mir.Syntax.{w32}
use mir.Val.{SFits}
use Rattle.bits.specs.Bits.{bit_of, flag}
use Rattle.machine_data.proofs.Bounds.{number_most}
use Rattle.cams.specs.Cams.{cam_of, cams_up_to}
use Rattle.cams.proofs.Arithmetic.{times_flag}
use Rattle.cams.proofs.Signals.{up_to_low, turn, one_more}
use Rattle.cams.proofs.next.Goals as goal

pub overflow_cast-tolerance : goal.overflow_cast-tolerance
overflow_cast-tolerance c = record { fits = omega (arith, c.number-tolerance.ensures, number_most c.args.values.now 24) }

pub loop-n-init : goal.loop-n-init
unfolding cams_up_to
loop-n-init c = refl

pub overflow_add-signals : goal.overflow_add-signals
overflow_add-signals c =
    let d = c.args.values.now in
    let p = c.args.reading.position in
    let n = c.loop-n.n in
    let g : SFits w32 p = search rules in
    let e : SFits w32 c.cam_edge-edge.result = search rules in
    let added : c.signal-signals.result ≡ 2 ^ n * flag (cam_of d p n (bit_of c.args.before n)) =
    turn d p c.args.before n (omega arith) (to_z-of_z e ∙ c.cam_edge-edge.ensures) c.number-tolerance.ensures (to_z-of_z g) c.signal-signals.ensures in
    record { fits = omega (arith, c.loop-n.invariant, up_to_low d p c.args.before n (omega arith), times_flag (cam_of d p n (bit_of c.args.before n)) (2 ^ n)) }

pub loop-n-preserved : goal.loop-n-preserved
loop-n-preserved c =
    let d = c.args.values.now in
    let p = c.args.reading.position in
    let n = c.loop-n.n in
    let g : SFits w32 p = search rules in
    let e : SFits w32 c.cam_edge-edge.result = search rules in
    one_more d p c.args.before n (omega arith) c.loop-n.invariant (turn d p c.args.before n (omega arith) (to_z-of_z e ∙ c.cam_edge-edge.ensures) c.number-tolerance.ensures (to_z-of_z g) c.signal-signals.ensures)
