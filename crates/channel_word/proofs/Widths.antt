-- Each part of a channel word is as wide as its place. Assumes nothing.
use mathlib.Core.Bool.{Bool, true, false}
use Prim.Native.Nat.{◌≤◌}
use native.Mathlib.Omega.{arith}
use Rattle.bits.specs.Bits.{flag}
use Rattle.rank.specs.declared.Rank.{Rank}
use Rattle.rank.specs.Rank.{rank_number}
use Rattle.rank.proofs.Laws.{rank_le}
use Rattle.selection.specs.declared.Selection.{Selection}
use Rattle.selection.specs.declared.Selection.TheVariants.{Nothing, Sg, Sbh}
use Rattle.channel_word.specs.Word.{shown_sg, Parts}

pub flag_le : (b : Bool) → flag b ≤ 1
flag_le true = omega arith
flag_le false = omega arith

pub sg_le : (s : Selection) → shown_sg s ≤ 3
sg_le Nothing = omega arith
sg_le (Sg n o) = omega arith
sg_le Sbh = omega arith

pub parts : (e c : Bool) (s : Selection) (w : Bool) (r : Rank) (h f : Bool) → Parts (flag e) (flag c) (shown_sg s) (flag w) (rank_number r) (flag h) (flag f)
parts e c s w r h f =
    record {
      one_effective = flag_le e;
      one_cancelled = flag_le c;
      two_sg = sg_le s;
      one_nx = flag_le w;
      three_rank = omega (arith, rank_le r);
      one_held = flag_le h;
      one_fault = flag_le f;
    }
