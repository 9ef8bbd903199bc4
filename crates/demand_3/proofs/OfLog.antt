-- A law of the log: its answer is by its words and its output alone, whatever channels it is given with. By the cases of the answer. Assumes nothing.
use Prim.Native.Nat.{ℕ, ◌*◌}
use mathlib.Core.Bool.{Bool, true, false, cond}
use mathlib.Core.List.{List}
use mathlib.Core.Path.{◌≡◌, refl}
use lib.Dec.{ltb}
use lib.ListN.{length}
use Rattle.seven.specs.declared.CycleRecord.{CycleRecord}
use Rattle.records.specs.Records.{LogRead, records, fault, log_of}
use Rattle.channel.specs.declared.Channel.{Channel}
use Rattle.refusal.specs.declared.Refusal.TheVariants.{WrongLog, ShortOutput}
use Rattle.logs.specs.Run.{refusing, running, by_records, ran_of}

pub same_answer : (a b c e : Channel) (words out : List ℕ) → (ran_of a b words out).answer ≡ (ran_of c e words out).answer
unfolding ran_of
same_answer a b c e words out = short (ltb 16_384 (length words)) (log_of words)
  where
    room : (t : Bool) (rs : List CycleRecord) →
        (cond t (refusing a b out (ShortOutput (3 * length rs))) (running a b out rs)).answer ≡ (cond t (refusing c e out (ShortOutput (3 * length rs))) (running c e out rs)).answer
    room true rs = refl
    room false rs = refl

    short : (t : Bool) (l : LogRead) →
        (cond t (refusing a b out (WrongLog 16_384)) (by_records a b out l)).answer ≡ (cond t (refusing c e out (WrongLog 16_384)) (by_records c e out l)).answer
    short true l = refl
    short false (fault place) = refl
    short false (records rs) = room (ltb (length out) (3 * length rs)) rs
