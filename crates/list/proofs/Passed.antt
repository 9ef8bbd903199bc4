-- Data that are written are read one by one, up to a number: the values, and where each datum stands. Assumes nothing.
use mathlib.Core.Path.{◌≡◌, refl, sym, ap, ◌∙◌}
use mathlib.Core.List.{List, [], ◌∷◌, ◌++◌, append_assoc, append-nil}
use mathlib.Core.Bool.{◌&&◌}
use Prim.Native.Nat.{ℕ, zero, suc, ◌+◌, ◌-◌, ◌<◌}
use native.Mathlib.Numerals.{add-one}
use native.Mathlib.Omega.{arith}
use lib.ListN.{length, take, drop, set, replicate, length-set, length-append, length-replicate, take-append-drop}
use lib.Seq.{drop-drop, drop-append_seam, drop-set-lt, take-suc-set}
use lib.IntN.{ℤ, pos}
use lib.Signed.{le_z}
use lib.Dec.{T, ltb, ltb→lt}
use lib.Ieee.Fits.{and_l}
use Rattle.std.specs.Prelude.{Result}
use Rattle.refusal.specs.declared.Refusal.{Refusal}
use Rattle.ranges.specs.Table.{data_count, low_of, high_of, in_range, allowed}
use Rattle.ranges.proofs.Tests.{allowed_in}
use Rattle.datum.proofs.Written.{written_reads}
use Rattle.datum.proofs.Forms.{value_behind}
use Rattle.list.specs.Reading.{place_of, ends, on_value, gather, zeros}
use Rattle.list.specs.IsList.{DataTo, end, datum, filled}
use Rattle.list.proofs.Steps.{next_place}

pub below_count : (head k : ℕ) (z : ℤ) → T (allowed head k z) → k < data_count
unfolding in_range
below_count head k z r = ltb→lt k data_count (and_l (ltb k data_count) (le_z (low_of k) z) (and_l (ltb k data_count && le_z (low_of k) z) (le_z z (high_of k)) (allowed_in head k z r)))

-- the values with those of k and later, once k is set
pub one_more : (acc : List ℤ) (k : ℕ) (z : ℤ) (vs : List ℤ) → k < length acc → take (k + 1) (set acc k z) ++ vs ≡ take k acc ++ (z ∷ vs)
one_more acc k z vs h =
    ap (λ (i : ℕ). take i (set acc k z) ++ vs) (add-one k)
    ∙ ap (λ (l : List ℤ). l ++ vs) (take-suc-set acc k z h)
    ∙ append_assoc (take k acc) (z ∷ []) vs

pub behind : (s : List ℕ) (at : ℕ) (w rest : List ℕ) → drop at s ≡ w ++ rest → drop (at + length w) s ≡ rest
behind s at w rest e = sym (drop-drop (length w) at s) ∙ ap (drop (length w)) e ∙ drop-append_seam w rest

pub how_many : {head j k : ℕ} {vs : List ℤ} {ws : List ℕ} → DataTo head j k vs ws → k + length vs ≡ j
how_many end = omega arith
how_many (datum h r rest) = let n = how_many rest in omega (arith, n)

-- what stands behind n places of zeros
drop-replicate : (n m : ℕ) → drop n (replicate m (pos 0)) ≡ replicate (m - n) (pos 0)
drop-replicate zero m = let all : m - 0 ≡ m = omega arith in ap (λ (i : ℕ). replicate i (pos 0)) (sym all)
drop-replicate (suc n) zero = let none : 0 - suc n ≡ 0 = omega arith in ap (λ (i : ℕ). replicate i (pos 0)) (sym none)
drop-replicate (suc n) (suc m) = let less : m - n ≡ suc m - suc n = omega arith in drop-replicate n m ∙ ap (λ (i : ℕ). replicate i (pos 0)) less

pub behind_zeros : (n : ℕ) → drop n zeros ≡ replicate (data_count - n) (pos 0)
behind_zeros n = drop-replicate n data_count

-- ---- the data passed

pub passed : (i : ℕ) {head j k : ℕ} {vs : List ℤ} {ws : List ℕ} (x : DataTo head j k vs ws) (s : List ℕ) (at : ℕ) (rest : List ℕ) → drop at s ≡ ws ++ rest → (acc : List ℤ) → length acc ≡ data_count →
    (acc' : List ℤ) × (drop j acc' ≡ drop j acc) × (take j acc' ≡ take k acc ++ vs) × (gather head (length vs + i) s k at acc ≡ gather head i s j (at + length ws) acc')
unfolding gather
passed i {head} {j} end s at rest e acc l =
    let many : 0 + i ≡ i = omega arith in
    let here : at ≡ at + 0 = omega arith in
    (acc, refl, sym (append-nil (take j acc)), λ t. gather head (many t) s j (here t) acc)
passed i {head} {j} (datum {k} {z} {vs} {w} {ws} h r x) s at rest e acc l =
    let room : k < length acc = omega (arith, l, below_count head k z r) in
    let many : suc (length vs) + i ≡ suc (length vs + i) = omega arith in
    let far : at + length w + length ws ≡ at + length (w ++ ws) = omega (arith, length-append w ws) in
    let e' : drop at s ≡ w ++ (ws ++ rest) = e ∙ append_assoc w ws rest in
    let read = written_reads head h r s at (ws ++ rest) e' in
    let y = passed i x s (at + length w) rest (behind s at w (ws ++ rest) e') (set acc k z) (length-set acc k z ∙ l) in (
      y.0,
      y.1 ∙ drop-set-lt j acc k z (omega (arith, how_many x)),
      y.2 ∙ ap (λ (n : ℕ). take n (set acc k z) ++ vs) (sym (add-one k)) ∙ one_more acc k z vs room,
      ap (λ (n : ℕ). gather head n s k at acc) many
          ∙ ap (λ (t : Result (ℤ × ℕ) Refusal). on_value t (λ v next. gather head (length vs + i) s (k + 1) next (set acc k v))) read
          ∙ ap (λ (n : ℕ). gather head (length vs + i) s n (at + length w) (set acc k z)) (add-one k)
          ∙ y.3
          ∙ ap (λ (n : ℕ). gather head i s j n y.0) far,
    )

-- all of them
pub all_passed : {n : ℕ} {vs : List ℤ} {ws : List ℕ} → DataTo n n 0 vs ws → (s : List ℕ) (rest : List ℕ) → drop 1 s ≡ ws ++ rest →
    gather n n s 0 1 zeros ≡ ends s (record { values = filled n vs; count = n }) (1 + length ws)
unfolding gather
all_passed {n} {vs} {ws} x s rest e =
    let y = passed 0 x s 1 rest e zeros (length-replicate data_count (pos 0)) in
    let many : n ≡ length vs + 0 = omega (arith, how_many x) in
    let values : y.0 ≡ filled n vs = sym (take-append-drop n y.0) ∙ (λ i. y.2 i ++ (y.1 ∙ behind_zeros n) i) in
    ap (λ (i : ℕ). gather n i s 0 1 zeros) many ∙ y.3 ∙ ap (λ (l : List ℤ). ends s (record { values = l; count = n }) (1 + length ws)) values

-- ---- the place of the datum behind them

place_from : {head j k : ℕ} {vs : List ℤ} {ws : List ℕ} → DataTo head j k vs ws → (s rest : List ℕ) → drop (place_of s k) s ≡ ws ++ rest → place_of s j ≡ place_of s k + length ws
place_from end s rest e = omega arith
place_from {head} (datum {k} {w = w} {ws} h r x) s rest e =
    let e' : drop (place_of s k) s ≡ w ++ (ws ++ rest) = e ∙ append_assoc w ws rest in
    let next : place_of s k + length w ≡ place_of s (suc k) = sym (value_behind head s k (place_of s k) (written_reads head h r s (place_of s k) (ws ++ rest) e')) ∙ next_place s k refl ∙ ap (place_of s) (add-one k) in
    let far = place_from x s rest (ap (λ (i : ℕ). drop i s) (sym next) ∙ behind s (place_of s k) w (ws ++ rest) e') in
    omega (arith, far, next, length-append w ws)

pub place_behind : {head j : ℕ} {vs : List ℤ} {ws : List ℕ} → DataTo head j 0 vs ws → (s rest : List ℕ) → drop 1 s ≡ ws ++ rest → place_of s j ≡ 1 + length ws
unfolding place_of
place_behind x s rest e = place_from x s rest e
