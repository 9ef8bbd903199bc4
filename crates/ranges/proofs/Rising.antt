-- No range is empty: one computed test over the table's rows. Assumes nothing.
use mathlib.Core.List.{List, [], ◌∷◌}
use mathlib.Core.Bool.{Bool, true, false, cond, ◌&&◌}
use Prim.Native.Nat.{ℕ}
use lib.Signed.{le_z}
use lib.Dec.{T, leb}
use lib.Ieee.Fits.{and_l, and_r}
use Rattle.ranges.specs.Table.{Row, rows, row_of, low_of, high_of}

-- no row is empty
rising : List Row → Bool
rising [] = true
rising (r ∷ rs) = le_z r.low r.high && rising rs

row_rises : (rs : List Row) (k : ℕ) → T (rising rs) → T (le_z (row_of rs k).low (row_of rs k).high)
unfolding rising
row_rises [] k t = tt
row_rises (r ∷ rs) k t = go (leb k r.last) (row_rises rs k (and_r (le_z r.low r.high) (rising rs) t))
  where
    go : (b : Bool) → T (le_z (row_of rs k).low (row_of rs k).high) → T (le_z (cond b r (row_of rs k)).low (cond b r (row_of rs k)).high)
    go true later = and_l (le_z r.low r.high) (rising rs) t
    go false later = later

pub rises : (k : ℕ) → T (le_z (low_of k) (high_of k))
unfolding rising
rises k = row_rises rows k tt
