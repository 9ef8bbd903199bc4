-- A channel's arrays after a call: the state written into them is read back, with the count that they had. Assumes nothing.
use mathlib.Core.Path.{◌≡◌, refl, ap, ◌∙◌}
use mathlib.Core.Bool.{Bool, true, false, cond}
use mathlib.Core.List.{List}
use Prim.Native.Nat.{ℕ, ◌%◌, ◌<◌}
use native.Mathlib.Omega.{arith}
use lib.Dec.{eqb}
use lib.IntN.{ℤ}
use Rattle.machine_data.specs.Data.{lent}
use Rattle.state.specs.declared.State.{State}
use Rattle.channel.specs.Cycle.{no_list, behind}
use Rattle.image.specs.Image.{pending_after}
use Rattle.image_writing.specs.Written.{Written, written_as, writing}
use Rattle.channel_image.specs.Channels.{pending_of, channel_from}

pub whole_count : (n : ℕ) → n < 4294967296 → n % 4294967296 ≡ n
whole_count n h = omega arith

-- a state written behind a list's count, with the pending list's
pub written : (values p : List ℤ) (count : ℕ) (s : State) (pending : ℕ) {w : List ℕ} → count < 4294967296 → pending < 4294967296 → written_as w ≡ writing count s pending →
    channel_from values p w ≡ record { list = lent values count; state = s; pending = pending_of p pending }
written values p count s pending small few e =
    let back = ap (λ (x : Written). x.count) e ∙ whole_count count small in
    let kept = ap (λ (x : Written). x.pending) e ∙ whole_count pending few in
    λ i. record { list = lent values (back i); state = (e i).state; pending = pending_of p (kept i) }

-- what is pending behind so many cycles
pub pending_behind_lem : (p : List ℤ) (cycles count : ℕ) → pending_of p (pending_after cycles count) ≡ behind cycles (pending_of p count)
pending_behind_lem p cycles count = go (eqb cycles 0)
  where
    go : (none : Bool) → pending_of p (cond none count 0) ≡ cond none (pending_of p count) no_list
    go true = refl
    go false = refl
