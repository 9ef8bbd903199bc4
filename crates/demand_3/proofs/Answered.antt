-- Every list of calls has an answer, from any channel: so what is claimed of every answer is not empty. The answer is what the definitions say. Assumes
-- nothing.
use mathlib.Core.List.{List, [], ◌∷◌, ◌++◌}
use mathlib.Core.Path.{refl}
use Rattle.channel.specs.declared.Channel.{Channel}
use Rattle.logs.specs.declared.LogRun.{LogRun}
use Rattle.logs.specs.Run.{ran_of}
use Rattle.single.specs.Single.{single_of}
use Rattle.pending.specs.Pending.{asked_of, commit_of}
use Rattle.demand_3.specs.Calls.{Call, single, logged, asks, commits, own, Words, Answered, cycled, ran, asked, took, Answers, none, then}

-- ---- an answer for every call

pub record Answer (c : Channel) (x : Call) : Type 0 where
  pub channel : Channel
  pub words : List Words
  pub is : Answered c x channel words

unfoldable pub answer : (c : Channel) (x : Call) → Answer c x
answer c (single g other) =
    let r = single_of c g other in
    record { channel = r.channel; words = record { channel = r.word; device = r.device } ∷ []; is = cycled r refl }
answer c (logged s o words out) =
    let x = ran_of (own s c o) (own s o c) words out in
    let r : LogRun Channel = record { answer = x.answer; a = x.a; b = x.b } in
    record {
      channel = own s x.a x.b;
      words = _;
      is = ran r x.out refl;
    }
answer c (asks words r o) = record { channel = (asked_of c words r o).channel; words = []; is = asked (asked_of c words r o) refl }
answer c commits = record { channel = (commit_of c).channel; words = []; is = took (commit_of c) refl }

unfoldable pub answered : (c : Channel) (xs : List Call) → (ws : List Words) × Answers c xs ws
answered c [] = ([], none)
answered c (x ∷ xs) =
    let a = answer c x in
    let r = answered a.channel xs in
    (a.words ++ r.0, then a.is r.1)
