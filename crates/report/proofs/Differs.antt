-- Where heads or data differ, and where they are the same: two numbers are the same where their distance is 0, by the laws of sums of integers. Assumes nothing.
use Prim.Native.Nat.{ℕ}
use mathlib.Core.Bool.{Bool, true, false, not, ◌||◌}
use mathlib.Core.Path.{◌≡◌, refl, sym, ◌∙◌, ap, subst}
use native.Mathlib.Omega.{arith}
use borrow.Author.Tests.{eq-eqb, ne_eqb, eqb-true, ltb-false}
use lib.Dec.{T, ltb, eqb}
use lib.IntN.{ℤ, pos, negsuc, nat_abs, ◌-ℤ◌, +ℤ_idl, +ℤ_invr, -ℤ-+ℤ_cancel}
use Rattle.report.specs.declared.Report.{Report}
use Rattle.machine_data.specs.declared.MachineData.{MachineData}
use Rattle.machine_data.specs.Data.{entry_of}
use Rattle.report.specs.Report.{datum_differs}

abs_zero : (z : ℤ) → nat_abs z ≡ 0 → z ≡ pos 0
abs_zero (pos n) e = ap pos e
abs_zero (negsuc n) e = absurd (omega arith)

apart_none : (a b : ℤ) → nat_abs (a -ℤ b) ≡ 0 → a ≡ b
apart_none a b e = sym (-ℤ-+ℤ_cancel a b) ∙ rw (abs_zero (a -ℤ b) e) (+ℤ_idl b)

same_apart : (a b : ℤ) → a ≡ b → nat_abs (a -ℤ b) ≡ 0
same_apart a b e = rw (e, +ℤ_invr b)

-- "12 datum k differs"; W1: "cause 12 also stands where heads differ"
module _ (m : MachineData) (k : ℕ) (o : Report) where
  pub heads_differ : (m.count ≡ o.head → ⊥) → datum_differs m k o ≡ true
  unfolding datum_differs
  heads_differ h = simp (ne_eqb m.count o.head h)

  pub datum_same : datum_differs m k o ≡ false → (m.count ≡ o.head) × (entry_of m.values k ≡ o.datum)
  unfolding datum_differs
  datum_same e = go (eqb m.count o.head) refl e
    where
      go : (t : Bool) → eqb m.count o.head ≡ t → (not t || ltb 0 (nat_abs (entry_of m.values k -ℤ o.datum))) ≡ false →
          (m.count ≡ o.head) × (entry_of m.values k ≡ o.datum)
      go true q e = (eqb-true m.count o.head q, apart_none (entry_of m.values k) o.datum (omega (arith, ltb-false 0 (nat_abs (entry_of m.values k -ℤ o.datum)) e)))
      go false q e = absurd (subst T e tt)

  pub same_datum : m.count ≡ o.head → entry_of m.values k ≡ o.datum → datum_differs m k o ≡ false
  unfolding datum_differs
  same_datum h e = simp (eq-eqb m.count o.head h, same_apart (entry_of m.values k) o.datum e)
