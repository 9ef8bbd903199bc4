-- Both channels of a run are each channel by itself: of the other it needs k alone, which rises by one in every cycle. Assumes nothing.
use mathlib.Core.Path.{◌≡◌, refl, ap, ◌∙◌}
use mathlib.Core.Bool.{Bool, true, false, cond}
use mathlib.Core.List.{List, [], ◌∷◌}
use Prim.Native.Nat.{ℕ, suc}
use lib.ListN.{length}
use Rattle.machine_data.specs.declared.MachineData.{MachineData}
use Rattle.usable_inputs.specs.Usable.{usable_of}
use Rattle.seven.specs.declared.CycleRecord.{CycleRecord}
use Rattle.state.specs.declared.State.{State}
use Rattle.state.specs.declared.Given.{Given}
use Rattle.report.specs.Report.{next_k}
use Rattle.judge.specs.Causes.{findings_of}
use Rattle.advance.specs.After.{unusable_next, usable_next}
use Rattle.channel.specs.Cycle.{clears_in, strongest_in, next}
use Rattle.logs.specs.declared.Side.{Side}
use Rattle.logs.specs.declared.Side.TheVariants.{A, B}
use Rattle.logs.specs.Run.{given_a, given_b, Both, device_cycle, last_of, lines_of}
use Rattle.logs.specs.Alone.{given_in, last_alone, words_alone}
use Rattle.logs.proofs.Thirds.{tripled}

next_k_lem : (d : MachineData) (s : State) (g : Given) → (next d s g).k ≡ next_k d.count s.k
unfolding next
next_k_lem d s g = go (usable_of d g.reading)
  where
    go : (t : Bool) → (cond t (usable_next d s g (findings_of d s g) (clears_in d s g) (strongest_in d s g)) (unusable_next d.count s)).k ≡ next_k d.count s.k
    go true = refl
    go false = refl

pub as_many : (side : Side) (d e : MachineData) (s : State) (k : ℕ) (rs : List CycleRecord) → length (words_alone side d e s k rs) ≡ length rs
unfolding words_alone
as_many side d e s k [] = refl
as_many side d e s k (r ∷ rs) = ap suc (as_many side d e (next d s (given_in side e k r)) (next_k e.count k) rs)

module _ (da db : MachineData) where
  -- the other's k after a cycle of both
  k_of_a : (x : Both) (r : CycleRecord) → (device_cycle da db x r).both.a.k ≡ next_k da.count x.a.k
  unfolding device_cycle
  k_of_a x r = next_k_lem da x.a (given_a da db x r)

  k_of_b : (x : Both) (r : CycleRecord) → (device_cycle da db x r).both.b.k ≡ next_k db.count x.b.k
  unfolding device_cycle
  k_of_b x r = next_k_lem db x.b (given_b da db x r)

  pub lines_apart : (x : Both) (rs : List CycleRecord) → lines_of da db x rs ≡ tripled (words_alone A da db x.a x.b.k rs) (words_alone B db da x.b x.a.k rs)
  unfolding lines_of device_cycle words_alone tripled
  lines_apart x [] = refl
  lines_apart x (r ∷ rs) =
      let y = (device_cycle da db x r).both in
      ap (λ (l : List ℕ). (device_cycle da db x r).a ∷ (device_cycle da db x r).b ∷ (device_cycle da db x r).device ∷ l)
      (lines_apart y rs ∙ (λ i. tripled (words_alone A da db y.a (k_of_b x r i) rs) (words_alone B db da y.b (k_of_a x r i) rs)))

  pub last_apart : (x : Both) (rs : List CycleRecord) → last_of da db x rs ≡ record { a = last_alone A da db x.a x.b.k rs; b = last_alone B db da x.b x.a.k rs }
  unfolding last_of device_cycle last_alone
  last_apart x [] = refl
  last_apart x (r ∷ rs) =
      let y = (device_cycle da db x r).both in
      last_apart y rs ∙ (λ i. record { a = last_alone A da db y.a (k_of_b x r i) rs; b = last_alone B db da y.b (k_of_a x r i) rs })
