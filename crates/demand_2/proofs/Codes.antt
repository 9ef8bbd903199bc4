-- The list of a cycle's cause codes, by the laws of any table whose codes rise. Assumes nothing.
use Prim.Native.Nat.{◌<◌}
use mathlib.Core.Path.{◌≡◌, refl}
use mathlib.Core.Bool.{false, ◌&&◌}
use mathlib.Core.List.{List}
use lib.IntN.{ℤ}
use lib.ListN.{length}
use native.Mathlib.Omega.{arith}
use Rattle.laws.proofs.Bools.{if_case, and_false}
use Rattle.machine_data.specs.declared.MachineData.{MachineData}
use Rattle.usable_inputs.specs.Usable.{usable_of}
use Rattle.speed.specs.declared.Step.{Step}
use Rattle.selection.specs.declared.Choice.{Choice}
use Rattle.selection.specs.declared.Selection.{Selection}
use Rattle.selection.specs.declared.Selection.TheVariants.{Nothing, Sg, Sbh}
use Rattle.limits.specs.Limits.{standstill_left, over_speed}
use Rattle.causes.specs.declared.Cause.{Cause}
use Rattle.causes.specs.Causes.{row_count, unusable_table}
use Rattle.code_places.specs.Places.{of_rank, below, in_order}
use Rattle.codes.specs.Codes.{causes_of}
use Rattle.codes_order.specs.Lists.{Rising}
use Rattle.codes_order.proofs.Order.{lists}
use Rattle.codes_order.proofs.Only.{only}
use Rattle.codes_order.proofs.Few.{two_exclude, once}
use Rattle.state.specs.declared.State.{State}
use Rattle.state.specs.declared.Given.{Given}
use Rattle.judge.specs.Causes.{step_in, choice_in, usable_rows, rows_of}
use Rattle.channel.specs.Outcome.{causes_in}
use Rattle.demand_2.specs.Codes.{CodesOf}

-- 2 needs SBH effective, 3 an SG
apart : (d : List ℤ) (x : Choice) (position : ℤ) (step : Step) → standstill_left d x position && over_speed d x.effective step ≡ false
unfolding standstill_left
apart d x position step = go x.effective refl
  where
    go : (e : Selection) → x.effective ≡ e → standstill_left d x position && over_speed d e step ≡ false
    go Nothing q = and_false (standstill_left d x position)
    go (Sg n o) q = simp q
    go Sbh q = and_false (standstill_left d x position)

module _ (m : MachineData) (s : State) (g : Given) where
  rising : Rising 0 (rows_of m s g)
  unfolding rows_of usable_rows
  rising = if_case (Rising 0) (usable_of m g.reading) (usable_rows m s g) unusable_table (λ _. omega arith) (λ _. omega arith)

  few_rows : length (in_order (rows_of m s g)) < row_count
  unfolding rows_of usable_rows below of_rank
  few_rows =
      if_case (λ (rows : List Cause). length (in_order rows) < row_count) (usable_of m g.reading) (usable_rows m s g) unusable_table
      (λ _. two_exclude (usable_rows m s g) (apart m.values (choice_in m s g) g.reading.position (step_in m s g)))
      (λ _. omega arith)

  pub codes : CodesOf m s g
  unfolding causes_in causes_of
  codes =
      let sorted = lists 0 (rows_of m s g) rising (omega (arith, few_rows)) in
      record {
        lists = sorted;
        only = λ cs l. only (rows_of m s g) cs (causes_in m s g) l sorted;
        once = λ k. once k 0 (rows_of m s g) rising;
        few = few_rows;
      }
