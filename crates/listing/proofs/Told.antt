-- The text for a run's answer is the kit's text, where the output has room for every log. Assumes nothing.
use mathlib.Core.Path.{◌≡◌, refl, ap, ◌∙◌}
use mathlib.Core.List.{List, ◌++◌}
use Prim.Native.Nat.{ℕ, ◌*◌, ◌/◌, ◌≤◌}
use native.Mathlib.Omega.{arith}
use lib.ListN.{length, take, drop, length-drop, length-append}
use lib.Seq.{take_at, take_all}
use borrow.Author.Tests.{le-ltb}
use Rattle.std.proofs.Common.{Result, Ok, Err}
use Rattle.refusal.specs.declared.KitRefusal.{KitRefusal}
use Rattle.kit.specs.Kit.{read_kit}
use Rattle.records.specs.Records.{LogRead, records, fault, log_of}
use Rattle.channel.specs.Cycle.{fresh_channel}
use Rattle.machine_data.specs.declared.MachineData.{MachineData}
use Rattle.logs.specs.Run.{lines_of, both_of, by_records, ran_of}
use Rattle.kit_run.specs.KitRun.{KitRan, of_log, by_kit, kit_ran}
use Rattle.kit_run.proofs.Cycles.{seven_words, three_words}
use Rattle.run_text.specs.RunText.{lines_from}
use Rattle.listing.specs.Listing.{by_log, by_lists, said_of, text_of, of_words, answer_text, cycles_of}

-- what is told of a run: its text, and that its words are there
abbrev pub Told : List ℕ → List ℕ → KitRan → Type 0
Told text out r = (answer_text r.answer r.out ≡ text) × (3 * cycles_of r.answer ≤ length r.out) × (length r.out ≡ length out)

module _ (out : List ℕ) where
  module _ (a b : MachineData) (words : List ℕ) (short : length words ≤ 16384) (room : 3 * (length words / 7) ≤ length out) where
    by_records_lem : (l : LogRead) → log_of words ≡ l → Told (text_of (by_log a b l)) out (of_log (by_records (fresh_channel a) (fresh_channel b) out l))
    by_records_lem (fault place) e = (refl, omega arith, refl)
    by_records_lem (records rs) e =
        let seven = seven_words words rs e in
        let lines = lines_of a b (both_of (fresh_channel a) (fresh_channel b)) rs in
        let three : length lines ≡ 3 * length rs = three_words a b (both_of (fresh_channel a) (fresh_channel b)) rs in
        let first : take (3 * length rs) (lines ++ drop (3 * length rs) out) ≡ lines = take_at lines (drop (3 * length rs) out) (3 * length rs) three in
        simp (le-ltb (length out) (3 * length rs) (omega (arith, seven, room))) (
          ap (lines_from 1) (ap (take 7020) first ∙ take_all 7020 lines (omega (arith, three, seven, short))),
          omega (arith, length-append lines (drop (3 * length rs) out), three),
          omega (arith, length-append lines (drop (3 * length rs) out), three, length-drop (3 * length rs) out, seven, room),
        )

    by_log_lem : Told (text_of (by_log a b (log_of words))) out (of_log (ran_of (fresh_channel a) (fresh_channel b) words out))
    unfolding ran_of
    by_log_lem = simp (le-ltb 16384 (length words) short) (by_records_lem (log_of words) refl)

  pub told : (words : List ℕ) → length words ≤ 16384 → 3 * (length words / 7) ≤ length out → Told (of_words words) out (kit_ran words out)
  unfolding said_of kit_ran
  told words short room = go (read_kit words).answer
    where
      go : (x : Result ℕ KitRefusal) → Told (text_of (by_lists words (read_kit words) x)) out (by_kit words out (read_kit words) x)
      go (Ok at) = by_log_lem (read_kit words).a (read_kit words).b (drop at words) (omega (arith, length-drop at words, short)) (omega (arith, length-drop at words, room))
      go (Err r) = (refl, omega arith, refl)
