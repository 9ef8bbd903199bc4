-- A usable cycle in which cause 12 stands shows F, whatever was acknowledged: the cause is fresh, so the cycle does not clear. Assumes nothing.
use Prim.Native.Nat.{ℕ, zero, suc, ◌+◌, ◌*◌, ◌^◌, ◌<◌}
use mathlib.Core.Bool.{Bool, true, false, ◌||◌}
use mathlib.Core.List.{List, [], ◌∷◌}
use mathlib.Core.Path.{◌≡◌, refl, sym, subst}
use native.Mathlib.Omega.{arith}
use lib.Dec.{T, eqb}
use lib.IntN.{ℤ}
use lib.ListN.{drop}
use lib.Ieee.Bits.{is_true}
use Rattle.bits.specs.Bits.{bit_of, flag}
use Rattle.bits.proofs.Fields.{bit}
use Rattle.machine_data.specs.declared.MachineData.{MachineData}
use Rattle.machine_data.specs.Data.{function_of}
use Rattle.usable_inputs.specs.Usable.{usable_of}
use Rattle.selection.specs.Selection.{is_effective}
use Rattle.rank.specs.Rank.{rank_number}
use Rattle.stop.specs.Stop.{rank_of}
use Rattle.report.specs.Report.{datum_differs, next_k}
use Rattle.fault.specs.declared.Fault.{Fault}
use Rattle.fault.specs.Fault.{fault_next}
use Rattle.causes.specs.declared.Cause.{Cause}
use Rattle.causes.specs.Causes.{is_fresh, fresh_of}
use Rattle.channel_word.specs.Word.{shown_sg, is_held, shown_cams, shown_nx, word_by}
use Rattle.channel_word.proofs.Widths.{parts}
use Rattle.state.specs.declared.State.{State}
use Rattle.state.specs.declared.Given.{Given}
use Rattle.judge.specs.Causes.{differences_in, fault_in, usable_rows, rows_of}
use Rattle.advance.specs.After.{shown_word}
use Rattle.channel.specs.Cycle.{clears_in, next}
use Rattle.channel.specs.Word.{word}
use Rattle.laws.proofs.Bools.{if_case, not_both, or_right}

-- ---- "28 F"

eight_cams : (d : List ℤ) (cams : ℕ) → shown_cams d cams < 256
eight_cams d cams = if_case (λ n. n < 256) (function_of d 2) _ _ (λ _. omega arith) (λ _. omega arith)

pub shows_fault : (d : List ℤ) (s : State) (nx : Bool) → bit_of (shown_word d s nx) 28 ≡ s.kept.fault.on
unfolding word_by
shows_fault d s nx =
    let x = s.kept.choice.effective in
    let cancelled : Bool = eqb (rank_number (rank_of s.stop)) 5 in
    let p = parts (is_effective x) cancelled x (shown_nx d nx) (rank_of s.stop) (is_held s.stop) s.kept.fault.on in
    bit 28
    (flag (is_effective x) + 2 ^ 2 * flag cancelled + 2 ^ 7 + 2 ^ 8 * shown_cams d s.kept.cams + 2 ^ 19 * shown_sg x + 2 ^ 21 * flag (shown_nx d nx)
    + 2 ^ 24 * rank_number (rank_of s.stop) + 2 ^ 27 * flag (is_held s.stop))
    0 _ (omega (arith, eight_cams d s.kept.cams)) s.kept.fault.on (omega arith)

-- ---- a table with a fresh row

later : (n : ℕ) (rows : List Cause) → T (fresh_of (drop n rows)) → T (fresh_of rows)
unfolding fresh_of
later zero rows t = t
later (suc n) [] t = t
later (suc n) (c ∷ cs) t = or_right (is_fresh c) (fresh_of cs) (later n cs t)

-- ---- the cycle

module _ (m : MachineData) (s : State) (g : Given) where
  -- "k .. rises by one each cycle"
  pub k_next : (next m s g).k ≡ next_k m.count s.k
  unfolding next
  k_next = if_case (λ (z : State). z.k ≡ next_k m.count s.k) (usable_of m g.reading) _ _ (λ _. refl) (λ _. refl)

  module _ (usable : T (usable_of m g.reading)) (differs : T (datum_differs m s.k g.report)) where
    is_usable : usable_of m g.reading ≡ true
    is_usable = is_true (usable_of m g.reading) usable

    -- "12 datum k differs": the eleventh row
    fresh : T (fresh_of (rows_of m s g))
    unfolding rows_of usable_rows fresh_of differences_in
    fresh = simp is_usable (later 10 (usable_rows m s g) (simp (is_true (datum_differs m s.k g.report) differs) tt))

    uncleared : clears_in m s g ≡ false
    unfolding clears_in
    uncleared = not_both g.acknowledged (fresh_of (rows_of m s g)) fresh

    -- "10, 11, 12 set F"
    lit : T (fault_in m s g).on
    unfolding fault_in fault_next differences_in
    lit =
        let o = differences_in m s g in
        if_case (λ (f : Fault). T f.on) s.kept.fault.on _ _ (λ _. tt) (λ _. or_right (o.position || o.inputs) o.datum differs)

    on : T (next m s g).kept.fault.on
    unfolding next
    on = simp (is_usable, uncleared) lit

    pub shown : T (bit_of (word m s g) 28)
    unfolding word
    shown = subst T (sym (shows_fault m.values (next m s g) _)) on
