-- A selected SG has one of the four numbers and one of the sixteen overrides, since both are fields of the word. Assumes nothing.
use Prim.Native.Nat.{ℕ, ◌<◌}
use mathlib.Core.Bool.{Bool, true, false, not, cond, ◌||◌}
use mathlib.Core.List.{List}
use native.Mathlib.Omega.{arith}
use lib.IntN.{ℤ}
use Rattle.bits.specs.Bits.{field_of}
use Rattle.machine_data.specs.Data.{function_of}
use Rattle.inputs.specs.Layout.{sbh_sg_off, sbh_off}
use Rattle.selection.specs.declared.Selection.{Selection}
use Rattle.selection.specs.declared.Selection.TheVariants.{Nothing, Sg, Sbh}
use Rattle.selection.specs.Selection.{selected_of}

abbrev pub Numbered : Selection → Type 0
Numbered Nothing = Unit
Numbered (Sg n o) = (n < 4) × (o < 16)
Numbered Sbh = Unit

pub numbered : (d : List ℤ) (w : ℕ) → Numbered (selected_of d w)
unfolding selected_of field_of
numbered d w = go (not (function_of d 0) || sbh_sg_off w) (not (sbh_off w))
  where
    go : (s t : Bool) → Numbered (cond s Nothing (cond t Sbh (Sg (field_of w 3 4) (field_of w 28 16))))
    go true t = tt
    go false true = tt
    go false false = (omega arith, omega arith)
