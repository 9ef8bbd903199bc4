-- A log is refused if and only if the refusal table says so, with its number and place, and then leaves output and channels as they were.
-- Assumes nothing.
use mathlib.Core.Path.{◌≡◌, refl, ap, subst}
use mathlib.Core.Logic.{◌↔◌}
use mathlib.Core.Bool.{Bool, true, false, cond}
use mathlib.Core.List.{List}
use Prim.Native.Nat.{ℕ, ◌*◌, ◌≤◌}
use lib.ListN.{length}
use lib.Dec.{ltb}
use borrow.Author.Tests.{lt-ltb, le-ltb, ltb-true, ltb-false}
use Rattle.std.specs.Prelude.{Result, Err}
use Rattle.laws.proofs.Never.{never}
use Rattle.refusal.specs.declared.Refusal.{Refusal}
use Rattle.refusal.specs.declared.Refusal.TheVariants.{WrongLog, ShortOutput}
use Rattle.seven.specs.declared.CycleRecord.{CycleRecord}
use Rattle.records.specs.Records.{LogRead, records, fault, log_of}
use Rattle.records.proofs.Logs.{is_log}
use Rattle.refusals.proofs.LogFaults.{is_fault}
use Rattle.channel.specs.declared.Channel.{Channel}
use Rattle.logs.specs.Run.{Ran, refusing, running, by_records, ran_of}
use Rattle.refusals.specs.LogFault.{LogFault, long, wrong, small}

module _ (a b : Channel) (words out : List ℕ) where
  -- "Left as it was": "output, channels"
  pub refused_leaves : {why : Refusal} → LogFault words out why → ran_of a b words out ≡ refusing a b out why
  unfolding ran_of
  refused_leaves (long h) = simp (lt-ltb 16384 (length words) h)
  refused_leaves (wrong {place} short f) = simp (le-ltb 16384 (length words) short, (is_fault words place).1 f)
  refused_leaves (small {rs} short log h) = simp (le-ltb 16384 (length words) short, (is_log words rs).1 log, lt-ltb (length out) (3 * length rs) h)

  module _ (why : Refusal) where
    refused_with : (other : Refusal) → LogFault words out other → ◌≡◌ {A = Result ℕ Refusal} (Err other) (Err why) → LogFault words out why
    refused_with other x e = subst (LogFault words out) {x = other} (cc) x

    by_room : length words ≤ 16384 → (rs : List CycleRecord) → log_of words ≡ records rs → (t : Bool) → ltb (length out) (3 * length rs) ≡ t →
        (cond t (refusing a b out (ShortOutput (3 * length rs))) (running a b out rs)).answer ≡ Err why → LogFault words out why
    by_room short rs log true q e = refused_with (ShortOutput (3 * length rs)) (small short ((is_log words rs).0 log) (ltb-true (length out) (3 * length rs) q)) e
    by_room short rs log false q e = never (cc)

    by_log_lem : length words ≤ 16384 → (l : LogRead) → log_of words ≡ l → (by_records a b out l).answer ≡ Err why → LogFault words out why
    by_log_lem short (fault at) log = refused_with (WrongLog at) (wrong short ((is_fault words at).0 log))
    by_log_lem short (records rs) log = by_room short rs log (ltb (length out) (3 * length rs)) refl

    by_length : (t : Bool) → ltb 16384 (length words) ≡ t → (cond t (refusing a b out (WrongLog 16384)) (by_records a b out (log_of words))).answer ≡ Err why → LogFault words out why
    by_length true q = refused_with (WrongLog 16384) (long (ltb-true 16384 (length words) q))
    by_length false q = by_log_lem (ltb-false 16384 (length words) q) (log_of words) refl

pub refused_log : (a b : Channel) (words out : List ℕ) (why : Refusal) → ((ran_of a b words out).answer ≡ Err why) ↔ LogFault words out why
unfolding ran_of
refused_log a b words out why = (by_length a b words out why (ltb 16384 (length words)) refl, λ x. ap (λ (r : Ran). r.answer) (refused_leaves a b words out x))
