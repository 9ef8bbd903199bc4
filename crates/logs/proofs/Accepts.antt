-- A log is accepted if and only if it is a run of records with remarks between, of at most 16,384 words, with three words of output a cycle.
-- Assumes nothing.
use mathlib.Core.Path.{◌≡◌, refl, sym, ap, ◌∙◌}
use mathlib.Core.Logic.{◌↔◌}
use mathlib.Core.Bool.{Bool, true, false, cond}
use mathlib.Core.List.{List}
use Prim.Native.Nat.{ℕ, ◌*◌, ◌≤◌}
use native.Mathlib.Omega.{arith}
use lib.ListN.{length}
use lib.Dec.{ltb}
use borrow.Author.Tests.{le-ltb, ltb-false}
use Rattle.laws.proofs.Never.{never}
use Rattle.refusal.specs.declared.Refusal.TheVariants.{WrongLog, ShortOutput}
use Rattle.seven.specs.declared.CycleRecord.{CycleRecord}
use Rattle.records.specs.Records.{LogRead, records, fault, log_of}
use Rattle.records.specs.IsLog.{IsLog}
use Rattle.records.proofs.Logs.{is_log}
use Rattle.channel.specs.declared.Channel.{Channel}
use Rattle.std.proofs.Common.{Ok}
use Rattle.logs.specs.IsAccepted.{IsAccepted}
use Rattle.logs.specs.Run.{refusing, running, by_records, ran_of}

pub accepted_log : (a b : Channel) (words out : List ℕ) (n : ℕ) → ((ran_of a b words out).answer ≡ Ok n) ↔ IsAccepted words out n
unfolding ran_of
accepted_log a b words out n = (by_length (ltb 16384 (length words)) refl, back)
  where
    by_room : length words ≤ 16384 → (rs : List CycleRecord) → log_of words ≡ records rs → (t : Bool) → ltb (length out) (3 * length rs) ≡ t →
        (cond t (refusing a b out (ShortOutput (3 * length rs))) (running a b out rs)).answer ≡ Ok n → IsAccepted words out n
    by_room short rs log true q e = never (cc)
    by_room short rs log false q e =
        let size : length rs ≡ n = cc in
        record { short = short; rs = rs; log = (is_log words rs).0 log; cycles = sym size; room = omega (arith, ltb-false (length out) (3 * length rs) q) }

    by_log_lem : length words ≤ 16384 → (l : LogRead) → log_of words ≡ l → (by_records a b out l).answer ≡ Ok n → IsAccepted words out n
    by_log_lem short (fault place) log e = never (cc)
    by_log_lem short (records rs) log e = by_room short rs log (ltb (length out) (3 * length rs)) refl e

    by_length : (t : Bool) → ltb 16384 (length words) ≡ t → (cond t (refusing a b out (WrongLog 16384)) (by_records a b out (log_of words))).answer ≡ Ok n → IsAccepted words out n
    by_length true q e = never (cc)
    by_length false q e = by_log_lem (ltb-false 16384 (length words) q) (log_of words) refl e

    back : IsAccepted words out n → (cond (ltb 16384 (length words)) (refusing a b out (WrongLog 16384)) (by_records a b out (log_of words))).answer ≡ Ok n
    back x =
        let log : log_of words ≡ records x.rs = (is_log words x.rs).1 x.log in
        let room : 3 * length x.rs ≤ length out = omega (arith, x.cycles, x.room) in
        ap (λ (t : Bool). (cond t (refusing a b out (WrongLog 16384)) (by_records a b out (log_of words))).answer) (le-ltb 16384 (length words) x.short)
        ∙ ap (λ (l : LogRead). (by_records a b out l).answer) log
        ∙ ap (λ (t : Bool). (cond t (refusing a b out (ShortOutput (3 * length x.rs))) (running a b out x.rs)).answer) (le-ltb (length out) (3 * length x.rs) room)
        ∙ ap Ok (sym x.cycles)

-- the whole answer for an accepted log: "The number of cycles and both channels come back", and the output has its words
pub accepted_runs : (a b : Channel) (words out : List ℕ) (rs : List CycleRecord) → length words ≤ 16_384 → IsLog rs words → 3 * length rs ≤ length out → ran_of a b words out ≡ running a b out rs
unfolding ran_of
accepted_runs a b words out rs short log room = simp (le-ltb 16384 (length words) short, (is_log words rs).1 log, le-ltb (length out) (3 * length rs) room)
