-- A value of a sum that goes into words comes back: each number of a case is read as the case that wrote it. Assumes nothing.
use mathlib.Core.Path.{◌≡◌, refl, ap}
use Prim.Native.Nat.{ℕ, ◌%◌, ◌<◌}
use native.Mathlib.Omega.{arith}
use lib.IntN.{ℤ}
use Rattle.std.specs.Prelude.{Option, None, Some}
use Rattle.selection.specs.declared.Selection.{Selection}
use Rattle.selection.specs.declared.Selection.TheVariants.{Nothing, Sg, Sbh}
use Rattle.rank.proofs.Laws.{number-rank_from}
use Rattle.stop.specs.declared.Stop.{Stop}
use Rattle.stop.specs.declared.Stop.TheVariants.{Free, Braking, Held, Cancelled}
use Rattle.crossing.proofs.Back.{signed_back}
use Rattle.image_cases.specs.Cases.{position_from, position_words, PositionFits, previous_from, previous_words, PreviousFits, watch_from, watch_words, WatchFits, selection_from, selection_words, SelectionFits, stop_from, stop_words, StopFits}

pub byte_back : (n : ℕ) → n < 256 → n % 256 ≡ n
byte_back n h = omega arith

pub position_back : (p : Option ℤ) → PositionFits p → position_from (position_words p).kind (position_words p).first ≡ p
position_back None h = refl
position_back (Some position) h = ap Some (signed_back position h)

pub previous_back : (p : Option ℤ) → PreviousFits p → previous_from (previous_words p).kind (previous_words p).first ≡ p
previous_back p h = position_back p h

pub watch_back : (w : Option ℤ) → WatchFits w → watch_from (watch_words w).kind (watch_words w).first ≡ w
watch_back w h = position_back w h

pub selection_back : (s : Selection) → SelectionFits s → selection_from (selection_words s).kind (selection_words s).first (selection_words s).second ≡ s
selection_back Nothing h = refl
selection_back (Sg number over) h = λ i. Sg (byte_back number h.0 i) (byte_back over h.1 i)
selection_back Sbh h = refl

pub stop_back : (s : Stop) → StopFits s → stop_from (stop_words s).kind (stop_words s).first (stop_words s).second ≡ s
stop_back Free h = refl
stop_back (Braking rank left) h = simp (number-rank_from rank)
stop_back (Held rank reference) h = simp (number-rank_from rank, signed_back reference h)
stop_back Cancelled h = refl
