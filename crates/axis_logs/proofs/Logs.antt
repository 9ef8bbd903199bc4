-- What the run of a log leaves, by its answer: a channel keeps its list, and a refusal leaves both as they were. Assumes nothing.
use mathlib.Core.Path.{◌≡◌, refl, sym, ap, ◌∙◌}
use mathlib.Core.List.{List}
use Prim.Native.Nat.{ℕ, ◌*◌, ◌<◌}
use lib.Dec.{ltb}
use lib.ListN.{length}
use lib.IntN.{ℤ}
use Rattle.laws.proofs.Never.{never}
use Rattle.laws.proofs.Bools.{if_case}
use Rattle.machine_data.specs.declared.MachineData.{MachineData}
use Rattle.machine_data.specs.Data.{lent}
use Rattle.seven.specs.declared.CycleRecord.{CycleRecord}
use Rattle.records.specs.Records.{LogRead, records, fault, log_of}
use Rattle.refusal.specs.declared.Refusal.{Refusal}
use Rattle.refusal.specs.declared.Refusal.TheVariants.{WrongLog, ShortOutput}
use Rattle.refusal.specs.Refusal.{refusal_number, refusal_place}
use Rattle.state.specs.declared.State.{State}
use Rattle.channel.specs.declared.Channel.{Channel}
use Rattle.channel.specs.Cycle.{after_cycles}
use Rattle.std.proofs.Common.{Result, Ok, Err}
use Rattle.logs.specs.declared.LogRun.{LogRun}
use Rattle.logs.specs.Run.{Ran, refusing, running, by_records, ran_of}
use Rattle.logs.specs.Left.{beside, keeping, cycles_run, left_of, left_beside, ran_beside}
use Rattle.image.specs.Image.{count_from, pending_count, pending_after, state_from, state_words}
use Rattle.channel_image.specs.Channels.{pending_of, channel_from}
use Rattle.image_writing.specs.Written.{Written, written_as, writing}
use Rattle.axis_logs.specs.Crossing.{log_number, log_place, log_left}
use Rattle.axis_logs.specs.Left.{LogLeft, left_by_log, ran_from, words_behind, log_over}
use Rattle.channel_image.proofs.Channels.{written, pending_behind_lem}

-- what a log leaves of its channels
pub record Leaves (a b : Channel) (out : List ℕ) (r : Ran) : Type 0 where
  pub a_list : r.a ≡ after_cycles (cycles_run r.answer) a r.a.state
  pub b_list : r.b ≡ after_cycles (cycles_run r.answer) b r.b.state
  pub refused_a : (why : Refusal) → r.answer ≡ Err why → r.a ≡ a
  pub refused_b : (why : Refusal) → r.answer ≡ Err why → r.b ≡ b

module _ (a b : Channel) (out : List ℕ) where
  by_refusal : (why : Refusal) → Leaves a b out (refusing a b out why)
  by_refusal why = record { a_list = refl; b_list = refl; refused_a = λ w e. refl; refused_b = λ w e. refl }

  by_run : (rs : List CycleRecord) → Leaves a b out (running a b out rs)
  by_run rs = record { a_list = refl; b_list = refl; refused_a = λ w e. never (cc); refused_b = λ w e. never (cc) }

  by_records_lem : (l : LogRead) → Leaves a b out (by_records a b out l)
  by_records_lem (fault place) = by_refusal (WrongLog place)
  by_records_lem (records rs) =
      if_case (Leaves a b out) (ltb (length out) (3 * length rs)) (refusing a b out (ShortOutput (3 * length rs))) (running a b out rs)
      (λ t. by_refusal (ShortOutput (3 * length rs))) (λ t. by_run rs)

  leaves : (words : List ℕ) → Leaves a b out (ran_of a b words out)
  unfolding ran_of
  leaves words =
      if_case (Leaves a b out) (ltb 16_384 (length words)) (refusing a b out (WrongLog 16_384)) (by_records a b out (log_of words))
      (λ t. by_refusal (WrongLog 16_384)) (λ t. by_records_lem (log_of words))

-- a channel's state after the run, written into its array
after_run : (values p : List ℤ) (w : List ℕ) (c : Channel) (n : ℕ) {count pending : ℕ} {s : State} {w' : List ℕ} → c ≡ after_cycles n (channel_from values p w) c.state → s ≡ c.state →
    count ≡ count_from w → count < 4294967296 → pending ≡ pending_after n (pending_count w) → pending < 4294967296 → written_as w' ≡ writing count s pending →
    (w' ≡ words_behind n c.state w) × (channel_from values p w' ≡ c)
after_run values p w c n {count} {pending} {s} keeps same is small left few e =
    let kept = ap (pending_of p) left ∙ pending_behind_lem p n (pending_count w) in (
      ap (λ (x : Written). x.words) e ∙ (λ i. state_words (is i) (same i) (left i)),
      written values p count s pending small few e ∙ (λ i. record { list = lent values (is i); state = same i; pending = kept i }) ∙ sym keeps,
    )

-- the channel of lent data and of what is read from the words
channel_is : (values p : List ℤ) (w : List ℕ) {count : ℕ} {s : State} → count ≡ count_from w → s ≡ state_from w →
    keeping (pending_of p (pending_count w)) (beside values count s) ≡ channel_from values p w
channel_is values p w is same = λ i. keeping (pending_of p (pending_count w)) (beside values (is i) (same i))

module _ (values-a : List ℤ) (wa : List ℕ) (values-b : List ℤ) (wb words out : List ℕ) {na nb : ℕ} {sa sb : State} (many-a : na ≡ count_from wa) (many-b : nb ≡ count_from wb)
    (same-a : sa ≡ state_from wa) (same-b : sb ≡ state_from wb) {r : LogRun State} {out' : List ℕ} (given : left_beside (beside values-a na sa) (beside values-b nb sb) r out' ≡ ran_beside (beside values-a na sa) (beside values-b nb sb) words out)
    (p q : List ℤ) where
  abbrev a : Channel
  a = keeping (pending_of p (pending_count wa)) (beside values-a na sa)

  abbrev b : Channel
  b = keeping (pending_of q (pending_count wb)) (beside values-b nb sb)

  abbrev R : Ran
  R = ran_from values-a p wa values-b q wb words out

  log : left_of a b r out' ≡ R
  log =
      ap (λ (f : MachineData → MachineData → Ran). f (pending_of p (pending_count wa)) (pending_of q (pending_count wb))) given ∙ (λ i. ran_of (channel_is values-a p wa many-a same-a i) (channel_is values-b q wb many-b same-b i) words out)

  left : Leaves (channel_from values-a p wa) (channel_from values-b q wb) out R
  left = leaves (channel_from values-a p wa) (channel_from values-b q wb) out words

  -- what the run leaves of two states, by its answer
  abbrev leaving_by : Result ℕ Refusal → LogLeft
  leaving_by x =
      record {
        number = log_number x;
        place = log_place x;
        state_a = log_left x wa (words_behind (cycles_run x) R.a.state wa);
        state_b = log_left x wb (words_behind (cycles_run x) R.b.state wb);
        out = R.out;
        a = R.a;
        b = R.b;
      }

  pub ran : {n pa pb : ℕ} {wa' wb' : List ℕ} → r.answer ≡ Ok n → na < 4294967296 → nb < 4294967296 → (pa ≡ pending_after n (pending_count wa)) × (pa < 4294967296) →
      (pb ≡ pending_after n (pending_count wb)) × (pb < 4294967296) → written_as wa' ≡ writing na r.a pa → written_as wb' ≡ writing nb r.b pb →
      left_by_log values-a values-b 0 wa' wb' out' n p q ≡ log_over values-a wa values-b wb words out p q
  ran {n} e small-a small_b left-a left-b put_a put_b =
      let answer : R.answer ≡ Ok n = sym (ap (λ (x : Ran). x.answer) log) ∙ e in
      let list_a = left.a_list ∙ ap (λ (x : Result ℕ Refusal). after_cycles (cycles_run x) (channel_from values-a p wa) R.a.state) answer in
      let list_b = left.b_list ∙ ap (λ (x : Result ℕ Refusal). after_cycles (cycles_run x) (channel_from values-b q wb) R.b.state) answer in
      let ra = after_run values-a p wa R.a n list_a (ap (λ (x : Ran). x.a.state) log) many-a small-a left-a.0 left-a.1 put_a in
      let rb = after_run values-b q wb R.b n list_b (ap (λ (x : Ran). x.b.state) log) many-b small_b left-b.0 left-b.1 put_b in
      (λ i. record { number = 0; place = n; state_a = ra.0 i; state_b = rb.0 i; out = (log i).out; a = ra.1 i; b = rb.1 i }) ∙ ap leaving_by (sym answer)

  pub refused : {why : Refusal} {number at : ℕ} → r.answer ≡ Err why → number ≡ refusal_number why → at ≡ refusal_place why →
      left_by_log values-a values-b number wa wb out' at p q ≡ log_over values-a wa values-b wb words out p q
  refused {why} e number at =
      let answer : R.answer ≡ Err why = sym (ap (λ (x : Ran). x.answer) log) ∙ e in
      (λ i. record { number = number i; place = at i; state_a = wa; state_b = wb; out = (log i).out; a = sym (left.refused_a why answer) i; b = sym (left.refused_b why answer) i })
      ∙ ap leaving_by (sym answer)
