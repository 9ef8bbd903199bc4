-- `cams::signal` meets its contract: what it reckons is the signal, at the bit's place (`by_arithmetic`). Assumes nothing.
use Prim.Native.Nat.{◌%◌, ◌^◌, ◌<◌}
use mathlib.Core.Path.{◌≡◌, ◌∙◌}
use native.Mathlib.Omega.{arith}
use borrow.Author.Rules.{rules}
use lib.IntN.{ℤ, pos, ◌+ℤ◌}
use lib.Signed.{lt_z}
use mir.Facts.{to_z-of_z}
use mir.Syntax.{w32}
use mir.Val.{SFits, to_z, of_z, bool_byte}
use Rattle.bits.specs.Bits.{bit_of, flag}
use Rattle.cams.proofs.Arithmetic.{by_arithmetic, one_at, bit_flag}
use Rattle.cams.proofs.Lowest.{byte_flag}
use Rattle.cams.proofs.signal.Goals as goal

under_is : {edge position : ℤ} → SFits w32 edge → SFits w32 position →
    bool_byte (lt_z (to_z w32 (of_z w32 position)) (to_z w32 (of_z w32 edge))) ≡ flag (lt_z position edge)
under_is {edge} {position} f g = rw (to_z-of_z f, to_z-of_z g) (byte_flag (lt_z position edge))

pub returns : goal.returns
returns c =
    let a = c.args in
    let low : a.n % 8 < 8 = omega arith in
    let f : SFits w32 a.edge = search rules in
    let g : SFits w32 a.position = search rules in
    let over : c.above-over.result ≡ flag (lt_z (a.edge +ℤ pos a.tolerance) a.position) = c.above-over.ensures ∙ rw (to_z-of_z f, to_z-of_z g) in
    rw (bit_flag a.before (a.n % 8), one_at (a.n % 8) low, under_is f g, over)
    (by_arithmetic (2 ^ (a.n % 8)) (bit_of a.before (a.n % 8)) a.edge (pos a.tolerance) a.position)
