-- A log, from the working channel's side: whatever it answers, the words that it gives are those of its cycles, and the channel goes through them. Here c
-- is the working channel and o the other one. By induction on the records, both sides at once. Assumes nothing.
use Prim.Native.Nat.{ℕ, zero, suc, ◌+◌, ◌*◌}
use mathlib.Core.Bool.{Bool, true, false, cond}
use mathlib.Core.List.{List, [], ◌∷◌, ◌++◌}
use mathlib.Core.Path.{◌≡◌, refl, sym, ap, subst}
use native.Mathlib.Omega.{arith}
use lib.Dec.{ltb}
use lib.ListN.{get_or, length, drop}
use Rattle.machine_data.specs.declared.MachineData.{MachineData}
use Rattle.device.specs.Device.{device_of}
use Rattle.seven.specs.declared.CycleRecord.{CycleRecord}
use Rattle.records.specs.Records.{LogRead, records, fault, log_of}
use Rattle.state.specs.declared.State.{State}
use Rattle.state.specs.declared.Given.{Given}
use Rattle.channel.specs.declared.Channel.{Channel}
use Rattle.channel.specs.Cycle.{behind, next, with_state}
use Rattle.channel.specs.Word.{word}
use Rattle.refusal.specs.declared.Refusal.TheVariants.{WrongLog, ShortOutput}
use Rattle.logs.specs.Run.{device_cycle, last_of, lines_of, both_of, Ran, refusing, running, by_records, ran_of}
use Rattle.report.specs.Report.{next_k}
use Rattle.demand_3.specs.Calls.{Side, as_a, as_b, own, Words, words_at, words_from, answered_words}
use Rattle.demand_3.specs.History.{given_of, givens_of, records_run, Event, as_cycles}
use Rattle.demand_3.proofs.OfDevice.{Over, over_first, over_second}
use Rattle.demand_3.proofs.Cycles.{k_next}
use Rattle.demand_3.proofs.Traces.{Trace, done, step}

abbrev other : Side → Side
other as_a = as_b
other as_b = as_a

-- what a record gives a channel, and makes of it
abbrev given_in : Side → Channel → Channel → CycleRecord → Given
given_in s c o r = given_of s o.list o.state.k r

abbrev word_in : Side → Channel → Channel → CycleRecord → ℕ
word_in s c o r = word c.list c.state (given_in s c o r)

abbrev after : Side → Channel → Channel → CycleRecord → Channel
after s c o r = with_state c (next c.list c.state (given_in s c o r))

-- the lines of a log, and the state after it
abbrev lines : Side → Channel → Channel → List CycleRecord → List ℕ
lines s c o rs = lines_of (own s c o).list (own s o c).list (both_of (own s c o) (own s o c)) rs

abbrev last : Side → Channel → Channel → List CycleRecord → State
last s c o rs =
    let x = last_of (own s c o).list (own s o c).list (both_of (own s c o) (own s o c)) rs in
    own s x.a x.b

-- the words of a line, A's first
abbrev line : Side → ℕ → ℕ → List ℕ → List ℕ
line s v w out = own s v w ∷ own s w v ∷ device_of (own s v w) (own s w v) ∷ out

line_over : (s : Side) (v w : ℕ) → Over v (device_of (own s v w) (own s w v))
line_over as_a v w = over_first v w
line_over as_b v w = over_second w v

lines_turn : (s : Side) (c o : Channel) (r : CycleRecord) (rs : List CycleRecord) →
    lines s c o (r ∷ rs) ≡ line s (word_in s c o r) (word_in (other s) o c r) (lines s (after s c o r) (after (other s) o c r) rs)
unfolding lines_of device_cycle
lines_turn as_a c o r rs = refl
lines_turn as_b c o r rs = refl

last_turn : (s : Side) (c o : Channel) (r : CycleRecord) (rs : List CycleRecord) → last s c o (r ∷ rs) ≡ last s (after s c o r) (after (other s) o c r) rs
unfolding last_of device_cycle
last_turn as_a c o r rs = refl
last_turn as_b c o r rs = refl

last_none : (s : Side) (c o : Channel) → last s c o [] ≡ c.state
unfolding last_of
last_none as_a c o = refl
last_none as_b c o = refl

-- the words of a line, and of those behind it
first_words : (s : Side) (v w : ℕ) (out : List ℕ) → words_at s (line s v w out) 0 ≡ record { channel = v; device = device_of (own s v w) (own s w v) }
first_words as_a v w out = refl
first_words as_b v w out = refl

later_words : (s : Side) (a b c : ℕ) (out : List ℕ) (i n : ℕ) → words_from s (a ∷ b ∷ c ∷ out) (suc i) n ≡ words_from s out i n
unfolding words_from
later_words s a b c out i zero = refl
later_words s a b c out i (suc n) = λ j. record { channel = at (own s 0 1) j; device = at 2 j } ∷ later_words s a b c out (suc i) n j
  where
    at : (p : ℕ) → get_or (a ∷ b ∷ c ∷ out) (3 * suc i + p) 0 ≡ get_or out (3 * i + p) 0
    at p = let e : 3 * suc i + p ≡ suc (suc (suc (3 * i + p))) = omega arith in ap (λ k. get_or (a ∷ b ∷ c ∷ out) k 0) e

line_words : (s : Side) (v w : ℕ) (out : List ℕ) (n : ℕ) →
    words_from s (line s v w out) 0 (suc n) ≡ record { channel = v; device = device_of (own s v w) (own s w v) } ∷ words_from s out 0 n
unfolding words_from
line_words s v w out n = λ j. first_words s v w out j ∷ later_words s (own s v w) (own s w v) (device_of (own s v w) (own s w v)) out 0 n j

-- ---- its cycles, and what they give

log_trace : (s : Side) (c o : Channel) (rs : List CycleRecord) (rest : List ℕ) →
    Trace c.list c.state (as_cycles (givens_of s o.list o.state.k rs)) (words_from s (lines s c o rs ++ rest) 0 (length rs)) c.list (last s c o rs)
unfolding givens_of as_cycles
log_trace s c o [] rest = unfold words_from in rw (last_none s c o) done
log_trace s c o (r ∷ rs) rest =
    let c' = after s c o r in
    let o' = after (other s) o c r in
    let out = lines s c' o' rs ++ rest in
    rw (last_turn s c o r rs, lines_turn s c o r rs, line_words s (word_in s c o r) (word_in (other s) o c r) out (length rs))
    (step (record { word_is = refl; over = line_over s (word_in s c o r) (word_in (other s) o c r) })
    (subst (λ k. Trace c.list c'.state (as_cycles (givens_of s o.list k rs)) (words_from s out 0 (length rs)) c.list (last s c' o' rs))
    (k_next o.list o.state (given_in (other s) o c r))
    (log_trace s c' o' rs rest)))

-- a cycle for each record
length-givens : (s : Side) (m : MachineData) (k : ℕ) (rs : List CycleRecord) → length (givens_of s m k rs) ≡ length rs
unfolding givens_of
length-givens s m k [] = refl
length-givens s m k (r ∷ rs) = ap suc (length-givens s m (next_k m.count k) rs)

-- a channel c becomes c' over the events es, in whose cycles the words ws are given, and p is then pending
pub record Leads (c : Channel) (es : List Event) (ws : List Words) (p : MachineData) (c' : Channel) : Type 0 where
  pub pending : c'.pending ≡ p
  pub trace : Trace c.list c.state es ws c'.list c'.state

-- the same of cycles alone: any of them drops what is pending
abbrev pub CyclesLead : Channel → List Given → List Words → Channel → Type 0
CyclesLead c gs ws c' = Leads c (as_cycles gs) ws (behind (length gs) c.pending) c'

refused_leads : (s : Side) (c o : Channel) → CyclesLead c [] [] (own s (own s c o) (own s o c))
unfolding as_cycles
refused_leads as_a c o = record { pending = refl; trace = done }
refused_leads as_b c o = record { pending = refl; trace = done }

running_leads : (s : Side) (c o : Channel) (out : List ℕ) (rs : List CycleRecord) →
    let x = running (own s c o) (own s o c) out rs in
    CyclesLead c (givens_of s o.list o.state.k rs) (words_from s x.out 0 (length rs)) (own s x.a x.b)
running_leads s c o out rs = go s (ap (λ n. behind n c.pending) (sym (length-givens s o.list o.state.k rs)))
  where
    go : (s : Side) → behind (length rs) c.pending ≡ behind (length (givens_of s o.list o.state.k rs)) c.pending →
        let x = running (own s c o) (own s o c) out rs in
        CyclesLead c (givens_of s o.list o.state.k rs) (words_from s x.out 0 (length rs)) (own s x.a x.b)
    go as_a e = record { pending = e; trace = log_trace as_a c o rs (drop (3 * length rs) out) }
    go as_b e = record { pending = e; trace = log_trace as_b c o rs (drop (3 * length rs) out) }

-- a log that leaves x
abbrev pub LogLeads : Side → Channel → Channel → LogRead → Ran → Type 0
LogLeads s c o l x =
    CyclesLead c (givens_of s o.list o.state.k (records_run x.answer l)) (answered_words s x.answer x.out) (own s x.a x.b)

pub ran_leads : (s : Side) (c o : Channel) (words out : List ℕ) → LogLeads s c o (log_of words) (ran_of (own s c o) (own s o c) words out)
unfolding ran_of givens_of
ran_leads s c o words out = short (ltb 16_384 (length words)) (log_of words)
  where
    room : (t : Bool) (rs : List CycleRecord) →
        LogLeads s c o (records rs) (cond t (refusing (own s c o) (own s o c) out (ShortOutput (3 * length rs))) (running (own s c o) (own s o c) out rs))
    room true rs = refused_leads s c o
    room false rs = running_leads s c o out rs

    short : (t : Bool) (l : LogRead) →
        LogLeads s c o l (cond t (refusing (own s c o) (own s o c) out (WrongLog 16_384)) (by_records (own s c o) (own s o c) out l))
    short true l = refused_leads s c o
    short false (fault place) = refused_leads s c o
    short false (records rs) = room (ltb (length out) (3 * length rs)) rs
