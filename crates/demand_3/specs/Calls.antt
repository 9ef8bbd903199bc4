-- The calls of demand 3 and what they answer: document 01, "The runs of demand 3", and W7.
use Rattle.std.specs.Prelude.{ℕ, zero, suc, ◌+◌, ◌*◌, ◌≡◌, List, [], ◌∷◌, ◌++◌, get_or, Result, Ok, Err}
use Rattle.inputs.specs.declared.Reading.{Reading}
use Rattle.report.specs.declared.Report.{Report}
use Rattle.state.specs.declared.Given.{Given}
use Rattle.channel.specs.declared.Channel.{Channel}
use Rattle.logs.specs.declared.LogRun.{LogRun}
use Rattle.refusal.specs.declared.Refusal.{Refusal}
use Rattle.logs.specs.Run.{ran_of}
use Rattle.logs.specs.Left.{left_by}
use Rattle.single.specs.declared.SingleOutcome.{SingleOutcome}
use Rattle.single.specs.Single.{single_of}
use Rattle.pending.specs.declared.Asked.{Asked}
use Rattle.pending.specs.declared.CommitRun.{CommitRun}
use Rattle.pending.specs.Pending.{asked_of, commit_of}

-- "with the working channel as A or B"
pub data Side : Type 0 where
  as_a as_b : Side

-- "a single cycle, then the device word of its channel word and the other's (position, input word, acknowledgement; the report and
-- the other channel's word are anything at all)"; "a log, accepted, empty or refused, with the working channel as A or B beside any
-- other channel": its words and the output lent to it. W7: "Asking, refused or not, and committing, with or without a pending list, join
-- the calls of demand 3": the words of the list, the position and inputs, and the report; a commit is given nothing
pub data Call : Type 0 where
  single : Given → ℕ → Call
  logged : Side → Channel → List ℕ → List ℕ → Call
  asks : List ℕ → Reading → Report → Call
  commits : Call

-- of what A has and what B has, the working channel's: `own s a b`; the other's is `own s b a`
abbrev pub own : {X : Type 0} → Side → X → X → X
own as_a a b = a
own as_b a b = b

-- ---- what a call gives

-- "the channel words and device words that the calls give": those of one cycle
pub record Words : Type 0 where
  pub channel : ℕ
  pub device : ℕ

-- "each cycle puts A's word, B's word and the device word into the output, from its front on": cycle i of a log
abbrev pub words_at : Side → List ℕ → ℕ → Words
words_at s out i = record { channel = get_or out (3 * i + own s 0 1) 0; device = get_or out (3 * i + 2) 0 }

-- n cycles from number i on
unfoldable pub words_from : Side → List ℕ → ℕ → ℕ → List Words
words_from s out i zero = []
words_from s out i (suc n) = words_at s out i ∷ words_from s out (suc i) n

-- "The number of cycles" comes back
abbrev pub answered_words : Side → Result ℕ Refusal → List ℕ → List Words
answered_words s (Ok n) out = words_from s out 0 n
answered_words s (Err why) out = []

-- a call with the working channel c is answered: the channel that it returns or leaves, and the words that it gives. What is asked
-- of the answer is what the contracts of the functions ensure, and no more.
pub data Answered (c : Channel) : Call → Channel → List Words → Type 0 where
  cycled : {g : Given} {other : ℕ} (r : SingleOutcome) → r ≡ single_of c g other →
      Answered c (single g other) r.channel (record { channel = r.word; device = r.device } ∷ [])
  ran : {s : Side} {o : Channel} {words out : List ℕ} (r : LogRun Channel) (out' : List ℕ) → left_by r out' ≡ ran_of (own s c o) (own s o c) words out →
      Answered c (logged s o words out) (own s r.a r.b) (answered_words s r.answer out')
  asked : {words : List ℕ} {r : Reading} {o : Report} (a : Asked) → a ≡ asked_of c words r o → Answered c (asks words r o) a.channel []
  took : (a : CommitRun) → a ≡ commit_of c → Answered c commits a.channel []

-- "Each call gets the working channel as the last one returned or left it"
pub data Answers : Channel → List Call → List Words → Type 0 where
  none : {c : Channel} → Answers c [] []
  then : {c c' : Channel} {x : Call} {xs : List Call} {ws vs : List Words} → Answered c x c' ws → Answers c' xs vs → Answers c (x ∷ xs) (ws ++ vs)
