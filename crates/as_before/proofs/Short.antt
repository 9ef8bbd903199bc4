-- An accepted list whose head was allowed before a request: it has one of the heads that there were, 0 in the places behind its data, and no function whose
-- data it lacks. Assumes nothing.
use Prim.Native.Nat.{ℕ, ◌%◌, ◌/◌, ◌^◌, ◌≤◌, ◌<◌}
use mathlib.Core.Path.{◌≡◌, sym, ap}
use mathlib.Core.Bool.{false, not, ◌||◌}
use mathlib.Core.List.{List, ◌∷◌, ◌++◌}
use native.Mathlib.Omega.{arith}
use borrow.Author.Tests.{ne_eqb, lt-leb}
use lib.ListN.{get_or, drop, take-append-drop}
use lib.IntN.{ℤ, pos, negsuc}
use lib.Signed.{le_z}
use lib.Dec.{T, eqb, leb→le}
use lib.Ieee.Fits.{and_r}
use Rattle.std.specs.Prelude.{Ok}
use Rattle.bits.specs.Bits.{bit_of}
use Rattle.words.proofs.Front.{front_reads}
use Rattle.ranges.specs.Table.{in_range, most_functions, allowed}
use Rattle.ranges.proofs.Tests.{allowed_in}
use Rattle.machine_data.specs.declared.MachineData.{MachineData}
use Rattle.machine_data.specs.Data.{datum_of, size, number_of, function_of, InRanges}
use Rattle.machine_data.proofs.Stands.{as_stands}
use Rattle.list.specs.Rules.{among}
use Rattle.list.specs.IsList.{IsList, list}
use Rattle.list.specs.Reading.{read_list}
use Rattle.list.proofs.Steps.{head_bounds}
use Rattle.list.proofs.Accepts.{accepted, whole_answer, lacking, in_ranges}
use Rattle.as_before.specs.Kept.{Headed}
use Rattle.as_before.proofs.Lists.{all_below_lem, below}

module _ (heads s : List ℕ) (n : ℕ) (earlier : Headed heads s) (e : (read_list s).answer ≡ Ok n) where
  pub short : T (among (read_list s).list.count heads) × (51 ≤ (read_list s).list.count) × ((k : ℕ) → (read_list s).list.count ≤ k → get_or (read_list s).list.values k (pos 0) ≡ pos 0)
  short = of_list ((accepted s (read_list s).list n).0 (whole_answer s n e)).1 (take-append-drop n s)
    where
      of_list : {d : MachineData} {ws : List ℕ} → IsList d ws → ws ++ drop n s ≡ s →
          T (among d.count heads) × (51 ≤ d.count) × ((k : ℕ) → d.count ≤ k → get_or d.values k (pos 0) ≡ pos 0)
      of_list {d} (list {w} {ws = ws} word size x values a b) whole =
          let front : drop 0 s ≡ w ∷ (ws ++ drop n s) = sym whole in
          (earlier d.count (front_reads s 0 w (ws ++ drop n s) front word) size, (head_bounds d.count size).0, lacking (list word size x values a b))

-- the number of a datum that is at most 31
few : (d : List ℤ) (z : ℤ) → datum_of d 1 ≡ z → T (le_z z (pos 31)) → number_of d 1 ≤ 31
unfolding number_of
few d (pos k) e t = omega (arith, ap size e, leb→le k 31 t)
few d (negsuc k) e t = omega (arith, ap size e)

-- "datum 1 may then be up to 63", and in a list of fewer than 72 data up to 31
pub short_undirected : (m : MachineData) → 1 < m.count → m.count < 72 → InRanges m → function_of m.values 5 ≡ false
unfolding function_of bit_of allowed
short_undirected m two short within =
    let z = get_or m.values 1 (pos 0) in
    let most = and_r (in_range 1 z) (not (eqb 1 1) || le_z z (most_functions m.count)) (within 1 two) in
    let stands = as_stands m.values 1 (allowed_in m.count 1 z (within 1 two)) in
    ne_eqb (number_of m.values 1 / 2 ^ 5 % 2) 1 (λ e. omega (arith, e, few m.values z stands (simp (lt-leb 72 m.count short) at most)))

pub undirected : (heads : List ℕ) → T (all_below_lem heads) → (s : List ℕ) (n : ℕ) → Headed heads s → (read_list s).answer ≡ Ok n →
    function_of (read_list s).list.values 5 ≡ false
undirected heads low s n earlier e =
    let x = short heads s n earlier e in
    short_undirected (read_list s).list (omega (arith, x.1)) (below heads low (read_list s).list.count x.0) (in_ranges s n e)
