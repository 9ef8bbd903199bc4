-- What the library's calls answer on a channel's arrays, the calls of demand 3 answer on the channel that the arrays stand for. Assumes nothing.
use Prim.Native.Nat.{ℕ}
use mathlib.Core.Path.{◌≡◌, refl, sym, ap, ◌∙◌, subst}
use mathlib.Core.Bool.{cond}
use mathlib.Core.List.{List, []}
use lib.Dec.{eqb}
use lib.IntN.{ℤ}
use Rattle.refusal.specs.declared.Refusal.{Refusal}
use Rattle.refusal.specs.declared.Refusal.TheVariants.{WrongWord, OpenDatum, NoWholeNumber, OutOfRange, SeEnds, WrongLog, ShortOutput, NothingPending}
use Rattle.refusal.specs.Refusal.{refusal_number}
use Rattle.channel.specs.declared.Channel.{Channel}
use Rattle.logs.specs.declared.LogRun.{LogRun}
use Rattle.std.proofs.Common.{Result, Ok, Err}
use Rattle.logs.specs.Run.{ran_of}
use Rattle.logs.specs.Left.{left_by}
use Rattle.single.specs.Single.{single_of}
use Rattle.device.specs.Device.{device_of}
use Rattle.crossing_reports.specs.Reports.{report_from, given_from}
use Rattle.axis_logs.specs.Crossing.{log_number, log_place}
use Rattle.axis_monitor.specs.Left.{CycleLeft}
use Rattle.axis_logs.specs.Left.{LogLeft, left_by_log, log_over}
use Rattle.pending.specs.Pending.{asked_of, commit_of}
use Rattle.demand_3.specs.Calls as D
use Rattle.demand_3.specs.Calls.{Side, as_a, as_b, own, Words, words_from, answered_words, Answered, Answers}
use Rattle.board_runs.specs.Calls.{Arrays, channel_of, BoardCall, given_words, reading_of, ImageAnswered, cycled, ran, asked, took, ImageAnswers, none, then, call_of, calls_of}

-- no refusal has the number of an acceptance
pub refusal_not_0 : (why : Refusal) {A : Type 0} (x y : A) → cond (eqb (refusal_number why) 0) x y ≡ y
refusal_not_0 (WrongWord place) x y = refl
refusal_not_0 (OpenDatum place) x y = refl
refusal_not_0 (NoWholeNumber place) x y = refl
refusal_not_0 (OutOfRange place) x y = refl
refusal_not_0 (SeEnds place) x y = refl
refusal_not_0 (WrongLog place) x y = refl
refusal_not_0 (ShortOutput wanted) x y = refl
refusal_not_0 NothingPending x y = refl

-- the words by an answer's number and place are those by the answer
by_number : (s : Side) (x : Result ℕ Refusal) (out : List ℕ) → answered_words s x out ≡ given_words s (log_number x) (log_place x) out
by_number s (Ok n) out = refl
by_number s (Err why) out = sym (refusal_not_0 why (words_from s out 0 (log_place (Err why))) [])

module _ (a b : Arrays) (words out : List ℕ) {number at : ℕ} {state-a' state-b' out' : List ℕ}
    (e : left_by_log a.data_in_force b.data_in_force number state-a' state-b' out' at ≡ log_over a.data_in_force a.state b.data_in_force b.state words out) where
  abbrev after_a : Arrays
  after_a = record { data_in_force = a.data_in_force; pending = a.pending; state = state-a' }

  abbrev after_b : Arrays
  after_b = record { data_in_force = b.data_in_force; pending = b.pending; state = state-b' }

  abbrev run : LogRun Channel
  run = record { answer = (ran_of (channel_of a) (channel_of b) words out).answer; a = channel_of after_a; b = channel_of after_b }

  as_run : left_by run out' ≡ ran_of (channel_of a) (channel_of b) words out
  as_run = let x = ap (λ (f : List ℤ → List ℤ → LogLeft). f a.pending b.pending) e in λ i. record { answer = run.answer; a = (x i).a; b = (x i).b; out = (x i).out }

  same_words : (s : Side) → answered_words s run.answer out' ≡ given_words s number at out'
  same_words s = let x = ap (λ (f : List ℤ → List ℤ → LogLeft). f a.pending b.pending) e in by_number s run.answer out' ∙ sym (λ i. given_words s (x i).number (x i).place out')

on_channel : {a a' : Arrays} {x : BoardCall} {ws : List Words} → ImageAnswered a x a' ws → Answered (channel_of a) (call_of x) (channel_of a') ws
on_channel {a} (cycled {position} {inputs} {acknowledged} {other} {report} w device state' codes' e d) =
    let r = single_of (channel_of a) (given_from position inputs acknowledged report) other in
    let by_word_lem = d ∙ ap (λ (x : CycleLeft). device_of x.word other) e in
    D.cycled (record { channel = channel_of (record { data_in_force = a.data_in_force; pending = a.pending; state = state' }); word = w; causes = r.causes; device = device })
    (λ i. record { channel = (e i).channel a.pending; word = (e i).word; causes = r.causes; device = by_word_lem i })
on_channel {a} (ran {s} {o} {words} {out} number at state-a' state-b' out' e) = go s e
  where
    go : (s : Side) → left_by_log (own s a o).data_in_force (own s o a).data_in_force number state-a' state-b' out' at
        ≡ log_over (own s a o).data_in_force (own s a o).state (own s o a).data_in_force (own s o a).state words out →
        Answered (channel_of a) (D.logged s (channel_of o) words out)
        (channel_of (record { data_in_force = a.data_in_force; pending = a.pending; state = own s state-a' state-b' })) (given_words s number at out')
    go as_a x =
        subst (Answered (channel_of a) (D.logged as_a (channel_of o) words out) (channel_of (after_a a o words out x))) (same_words a o words out x as_a)
        (D.ran (run a o words out x) out' (as_run a o words out x))
    go as_b x =
        subst (Answered (channel_of a) (D.logged as_b (channel_of o) words out) (channel_of (after_b o a words out x))) (same_words o a words out x as_b)
        (D.ran (run o a words out x) out' (as_run o a words out x))
on_channel {a} (asked {words} {position} {inputs} {report} number at state' pending' codes' e) =
    let r = asked_of (channel_of a) words (reading_of position inputs) (report_from report) in
    D.asked (record { answer = r.answer; channel = channel_of (record { data_in_force = a.data_in_force; pending = pending'; state = state' }) })
    (λ i. record { answer = r.answer; channel = (e i).channel a.data_in_force })
on_channel {a} (took number at data' state' e) =
    let r = commit_of (channel_of a) in
    D.took (record { answer = r.answer; channel = channel_of (record { data_in_force = data'; pending = a.pending; state = state' }) })
    (λ i. record { answer = r.answer; channel = (e i).channel })

pub on_channels : {a : Arrays} {xs : List BoardCall} {ws : List Words} → ImageAnswers a xs ws → Answers (channel_of a) (calls_of xs) ws
unfolding calls_of
on_channels none = D.none
on_channels (then x rest) = D.then (on_channel x) (on_channels rest)
