-- A cycle in which neither position, input word nor datum k differs from the report sets no F. Assumes nothing.
use Prim.Native.Nat.{ℕ}
use mathlib.Core.Bool.{Bool, true, false}
use mathlib.Core.List.{List}
use mathlib.Core.Path.{◌≡◌, refl}
use native.Mathlib.Omega.{arith}
use borrow.Author.Tests.{le-ltb, eq-eqb}
use lib.IntN.{ℤ, +ℤ_invr}
use Rattle.machine_data.specs.declared.MachineData.{MachineData}
use Rattle.machine_data.specs.Data.{number_of}
use Rattle.inputs.specs.declared.Reading.{Reading}
use Rattle.usable_inputs.specs.Usable.{usable_of}
use Rattle.runs.specs.Run.{run_next}
use Rattle.report.specs.declared.Report.{Report}
use Rattle.report.specs.Report.{datum_differs}
use Rattle.comparison.specs.Comparison.{position_differs, run_of, inputs_differ}
use Rattle.fault.specs.declared.Fault.{Fault}
use Rattle.fault.specs.Fault.{fault_next, cleared_fault}
use Rattle.state.specs.declared.State.{State}
use Rattle.state.specs.declared.Given.{Given}
use Rattle.judge.specs.Causes.{differing_in, differences_in, any_differs, fault_in}
use Rattle.channel.specs.Cycle.{clears_in, next}
use Rattle.laws.proofs.Bools.{if_case}

same_position : (d : List ℤ) (r : Reading) (o : Report) → r.position ≡ o.position → position_differs d r o ≡ false
unfolding position_differs
same_position d r o e = simp (e, +ℤ_invr o.position) (le-ltb (number_of d 26) 0 (omega arith))

same_inputs : (d : List ℤ) (before : ℕ) (r : Reading) (o : Report) → r.inputs ≡ o.inputs → inputs_differ d (run_of before r o) ≡ false
unfolding run_of run_next inputs_differ
same_inputs d before r o e = simp (eq-eqb r.inputs o.inputs e) (le-ltb (number_of d 28) 0 (omega arith))

not_set : (d : List ℤ) (differs : Bool) (f : Fault) → f.on ≡ false → differs ≡ false → (fault_next d differs f).on ≡ false
unfolding fault_next
not_set d differs f e h = simp (e, h)

off_cleared : (clears : Bool) (f : Fault) → f.on ≡ false → (cleared_fault clears f).on ≡ false
off_cleared true f e = refl
off_cleared false f e = e

module _ (m : MachineData) (s : State) (g : Given) where
  -- neither 10, 11 nor 12 stands
  none_differs : g.reading.position ≡ g.report.position → g.reading.inputs ≡ g.report.inputs → datum_differs m s.k g.report ≡ false →
      any_differs (differences_in m s g) ≡ false
  unfolding differences_in differing_in
  none_differs p w e = simp (same_position m.values g.reading g.report p, same_inputs m.values s.kept.differing g.reading g.report w, e)

  pub stays_off : s.kept.fault.on ≡ false → g.reading.position ≡ g.report.position → g.reading.inputs ≡ g.report.inputs →
      datum_differs m s.k g.report ≡ false → (next m s g).kept.fault.on ≡ false
  unfolding fault_in next
  stays_off f p w e =
      if_case (λ (z : State). z.kept.fault.on ≡ false) (usable_of m g.reading) _ _
      (λ _. off_cleared (clears_in m s g) (fault_in m s g) (not_set m.values (any_differs (differences_in m s g)) s.kept.fault f (none_differs p w e)))
      (λ _. f)
