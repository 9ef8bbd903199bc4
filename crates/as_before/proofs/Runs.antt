-- A log's run and a kit's listing are alike under two rules that agree in each cycle; and under the rules of now they are those of the contracts.
-- Assumes nothing.
use Prim.Native.Nat.{ℕ, ◌+◌, ◌*◌}
use mathlib.Core.Path.{◌≡◌, refl, ap, ◌∙◌}
use mathlib.Core.Bool.{Bool, cond}
use mathlib.Core.List.{List, [], ◌∷◌, ◌++◌}
use lib.ListN.{length, drop}
use Rattle.std.specs.Prelude.{Result, Ok, Err}
use Rattle.refusal.specs.declared.Refusal.{Refusal}
use Rattle.refusal.specs.declared.Refusal.TheVariants.{WrongLog}
use Rattle.refusal.specs.declared.Part.TheVariants.{Log}
use Rattle.machine_data.specs.declared.MachineData.{MachineData}
use Rattle.inputs.specs.declared.Reading.{Reading}
use Rattle.seven.specs.declared.CycleRecord.{CycleRecord}
use Rattle.records.specs.Records.{LogRead, records, fault, log_of}
use Rattle.state.specs.State.{fresh_state}
use Rattle.device.specs.Device.{device_of}
use Rattle.list.specs.declared.ListRead.{ListRead}
use Rattle.list.specs.Reading.{read_list}
use Rattle.kit.specs.Kit.{first, second, read_kit}
use Rattle.channel.specs.declared.Channel.{Channel}
use Rattle.channel.specs.Cycle.{after_cycles}
use Rattle.logs.specs.Run.{Both, given_a, given_b, device_cycle, last_of, lines_of, both_of, running}
use Rattle.kit_bytes.specs.KitBytes.{whole_words, words_of}
use Rattle.listing.specs.Listing.{Said, refused, by_log, by_lists, said_of, said, text_of, listed}
use Rattle.as_before.specs.Rules.{Rules, now}
use Rattle.as_before.specs.Cycle.{next_under, word_under}
use Rattle.as_before.specs.Runs.{given_under, given_a_under, given_b_under, both_under, last_under, lines_under, running_under, log_under, second_under, first_under, said_under, listed_under}
use Rattle.as_before.proofs.Cycle.{Agree, next_same, word_same, next_now, word_now}

-- ---- rules that agree

module _ (p q : Rules) where
  given_same : (e : MachineData) (k : ℕ) (own other : Reading) (ack : Bool) → p.report e k other ≡ q.report e k other →
      given_under p e k own other ack ≡ given_under q e k own other ack
  given_same e k own other ack h = λ i. record { reading = own; acknowledged = ack; report = h i }

  module _ (da db : MachineData) where
    -- in a cycle of both channels
    pub record AgreeBoth (x : Both) (r : CycleRecord) : Type 0 where
      pub report_a : p.report da x.a.k r.a ≡ q.report da x.a.k r.a
      pub report_b : p.report db x.b.k r.b ≡ q.report db x.b.k r.b
      pub a : Agree p q da x.a (given_a_under p da db x r)
      pub b : Agree p q db x.b (given_b_under p da db x r)

    -- in each cycle of a run
    abbrev pub AgreeAlong : Both → List CycleRecord → Type 0
    AgreeAlong x [] = Unit {0}
    AgreeAlong x (r ∷ rs) = AgreeBoth x r × AgreeAlong (both_under p da db x r) rs

    module _ {x : Both} {r : CycleRecord} (h : AgreeBoth x r) where
      given_a_lem : given_a_under p da db x r ≡ given_a_under q da db x r
      given_a_lem = given_same db x.b.k r.a r.b r.acknowledged h.report_b

      given_b_lem : given_b_under p da db x r ≡ given_b_under q da db x r
      given_b_lem = given_same da x.a.k r.b r.a r.acknowledged h.report_a

      both_same : both_under p da db x r ≡ both_under q da db x r
      both_same =
          let a = next_same p q da x.a (given_a_under p da db x r) h.a ∙ ap (next_under q da x.a) given_a_lem in
          let b = next_same p q db x.b (given_b_under p da db x r) h.b ∙ ap (next_under q db x.b) given_b_lem in
          λ i. record { a = a i; b = b i }

      word_a : word_under p da x.a (given_a_under p da db x r) ≡ word_under q da x.a (given_a_under q da db x r)
      word_a = word_same p q da x.a (given_a_under p da db x r) h.a ∙ ap (word_under q da x.a) given_a_lem

      word_b : word_under p db x.b (given_b_under p da db x r) ≡ word_under q db x.b (given_b_under q da db x r)
      word_b = word_same p q db x.b (given_b_under p da db x r) h.b ∙ ap (word_under q db x.b) given_b_lem

    -- the states after a run
    last_same : (x : Both) (rs : List CycleRecord) → AgreeAlong x rs → last_under p da db x rs ≡ last_under q da db x rs
    unfolding last_under
    last_same x [] h = refl
    last_same x (r ∷ rs) h = last_same (both_under p da db x r) rs h.1 ∙ ap (λ (y : Both). last_under q da db y rs) (both_same h.0)

    -- and its words
    pub lines_same : (x : Both) (rs : List CycleRecord) → AgreeAlong x rs → lines_under p da db x rs ≡ lines_under q da db x rs
    unfolding lines_under
    lines_same x [] h = refl
    lines_same x (r ∷ rs) h =
        let rest = lines_same (both_under p da db x r) rs h.1 ∙ ap (λ (y : Both). lines_under q da db y rs) (both_same h.0) in
        λ i. word_a h.0 i ∷ word_b h.0 i ∷ device_of (word_a h.0 i) (word_b h.0 i) ∷ rest i

  -- what an accepted log leaves: both channels and the whole output
  pub running_same : (a b : Channel) (out : List ℕ) (rs : List CycleRecord) → AgreeAlong a.list b.list (both_of a b) rs →
      running_under p a b out rs ≡ running_under q a b out rs
  running_same a b out rs h =
      let last = last_same a.list b.list (both_of a b) rs h in
      let lines = lines_same a.list b.list (both_of a b) rs h in
      λ i. record { answer = Ok (length rs); a = after_cycles (length rs) a (last i).a; b = after_cycles (length rs) b (last i).b; out = lines i ++ drop (3 * length rs) out }

  -- ---- a kit

  -- in the reading of its lists, and in each cycle of its run
  pub record AgreeKit (words : List ℕ) : Type 0 where
    pub read_a : p.read words ≡ q.read words
    pub read_b : (n : ℕ) → (p.read words).answer ≡ Ok n → p.read (drop n words) ≡ q.read (drop n words)
    pub along : (n m : ℕ) → (p.read words).answer ≡ Ok n → (p.read (drop n words)).answer ≡ Ok m →
        (rs : List CycleRecord) → log_of (drop (n + m) words) ≡ records rs →
        AgreeAlong (p.read words).list (p.read (drop n words)).list (record { a = fresh_state; b = fresh_state }) rs

  log_same : (da db : MachineData) (l : LogRead) → ((rs : List CycleRecord) → l ≡ records rs → AgreeAlong da db (record { a = fresh_state; b = fresh_state }) rs) →
      log_under p da db l ≡ log_under q da db l
  log_same da db (records rs) h = ap Said.ran (lines_same da db (record { a = fresh_state; b = fresh_state }) rs (h rs refl))
  log_same da db (fault place) h = refl

  module _ (words : List ℕ) (h : AgreeKit words) where
    answer_a : (p.read words).answer ≡ (q.read words).answer
    answer_a = ap (λ (r : ListRead). r.answer) h.read_a

    -- behind list A of n words
    by_b : (n : ℕ) → (p.read words).answer ≡ Ok n → (t : Result ℕ Refusal) → (p.read (drop n words)).answer ≡ t →
        second_under p words n (p.read words).list (p.read (drop n words)) t ≡ second_under q words n (q.read words).list (q.read (drop n words)) t
    by_b n ea (Ok m) eb =
        log_same (p.read words).list (p.read (drop n words)).list (log_of (drop (n + m) words)) (h.along n m ea eb)
        ∙ (λ i. log_under q (h.read_a i).list (h.read_b n ea i).list (log_of (drop (n + m) words)))
    by_b n ea (Err why) eb = refl

    by_a : (t : Result ℕ Refusal) → (p.read words).answer ≡ t → first_under p words (p.read words) t ≡ first_under q words (q.read words) t
    by_a (Ok n) ea =
        by_b n ea (p.read (drop n words)).answer refl
        ∙ ap (second_under q words n (q.read words).list (q.read (drop n words))) (ap (λ (r : ListRead). r.answer) (h.read_b n ea))
    by_a (Err why) ea = refl

    said_same : said_under p words ≡ said_under q words
    said_same = by_a (p.read words).answer refl ∙ ap (first_under q words (q.read words)) answer_a

  pub listed_same : (bytes : List ℕ) → AgreeKit (words_of bytes) → listed_under p bytes ≡ listed_under q bytes
  listed_same bytes h = λ i. text_of (cond (whole_words (length bytes)) (said_same (words_of bytes) h i) (refused (WrongLog 0) Log))

-- ---- the rules of now

module _ (da db : MachineData) where
  pub both_now : (x : Both) (r : CycleRecord) → (device_cycle da db x r).both ≡ both_under now da db x r
  unfolding device_cycle
  both_now x r = λ i. record { a = next_now da x.a (given_a da db x r) i; b = next_now db x.b (given_b da db x r) i }

  last_now : (x : Both) (rs : List CycleRecord) → last_of da db x rs ≡ last_under now da db x rs
  unfolding last_of last_under
  last_now x [] = refl
  last_now x (r ∷ rs) = last_now (device_cycle da db x r).both rs ∙ ap (λ (y : Both). last_under now da db y rs) (both_now x r)

  lines_now : (x : Both) (rs : List CycleRecord) → lines_of da db x rs ≡ lines_under now da db x rs
  unfolding lines_of lines_under device_cycle
  lines_now x [] = refl
  lines_now x (r ∷ rs) =
      let a = word_now da x.a (given_a da db x r) in
      let b = word_now db x.b (given_b da db x r) in
      let rest = lines_now (device_cycle da db x r).both rs ∙ ap (λ (y : Both). lines_under now da db y rs) (both_now x r) in
      λ i. a i ∷ b i ∷ device_of (a i) (b i) ∷ rest i

pub running_now : (a b : Channel) (out : List ℕ) (rs : List CycleRecord) → running a b out rs ≡ running_under now a b out rs
running_now a b out rs =
    let last = last_now a.list b.list (both_of a b) rs in
    let lines = lines_now a.list b.list (both_of a b) rs in
    λ i. record { answer = Ok (length rs); a = after_cycles (length rs) a (last i).a; b = after_cycles (length rs) b (last i).b; out = lines i ++ drop (3 * length rs) out }

log_now : (da db : MachineData) (l : LogRead) → by_log da db l ≡ log_under now da db l
log_now da db (records rs) = ap Said.ran (lines_now da db (record { a = fresh_state; b = fresh_state }) rs)
log_now da db (fault place) = refl

module _ (words : List ℕ) where
  second_now : (n : ℕ) (a : MachineData) (r : ListRead) (t : Result ℕ Refusal) → by_lists words (second n a r t) (second n a r t).answer ≡ second_under now words n a r t
  second_now n a r (Ok m) = log_now a r.list (log_of (drop (n + m) words))
  second_now n a r (Err why) = refl

  first_now : (r : ListRead) (t : Result ℕ Refusal) → by_lists words (first words r t) (first words r t).answer ≡ first_under now words r t
  first_now r (Ok n) = second_now n r.list (read_list (drop n words)) (read_list (drop n words)).answer
  first_now r (Err why) = refl

  said_now : said_of words ≡ said_under now words
  unfolding said_of read_kit
  said_now = first_now (read_list words) (read_list words).answer

pub listed_now : (bytes : List ℕ) → listed bytes ≡ listed_under now bytes
unfolding said
listed_now bytes = λ i. text_of (cond (whole_words (length bytes)) (said_now (words_of bytes) i) (refused (WrongLog 0) Log))
