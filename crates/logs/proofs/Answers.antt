-- A log's answer by its length, its scan and the output's room. Assumes nothing.
use mathlib.Core.Path.{◌≡◌, refl, sym, ap, ◌∙◌}
use mathlib.Core.Bool.{Bool, true, false, cond}
use mathlib.Core.List.{List, [], ◌∷◌, ◌++◌}
use Prim.Native.Nat.{ℕ, zero, suc, ◌+◌, ◌*◌, ◌≤◌, ◌<◌}
use native.Mathlib.Omega.{arith}
use lib.ListN.{length, drop}
use lib.Dec.{ltb}
use borrow.Author.Tests.{lt-ltb, le-ltb}
use Rattle.laws.proofs.Never.{never}
use Rattle.refusal.specs.declared.Refusal.TheVariants.{WrongLog, ShortOutput}
use Rattle.seven.specs.declared.CycleRecord.{CycleRecord}
use Rattle.std.proofs.Common.{Result, Ok, Err}
use Rattle.records.specs.declared.Entry.{Entry}
use Rattle.records.specs.declared.Entry.TheVariants.{Record, Remark}
use Rattle.records.specs.Records.{entry_at, LogRead, records, fault, before, on_entry, log_from, log_of, counted, scan_of}
use Rattle.channel.specs.declared.Channel.{Channel}
use Rattle.state.specs.declared.State.{State}
use Rattle.channel.specs.Cycle.{after_cycles}
use Rattle.logs.specs.declared.Side.TheVariants.{A, B}
use Rattle.logs.specs.Run.{Both, both_of, refusing, running, by_records, ran_of}
use Rattle.logs.specs.Alone.{words_alone, thirds, with_devices}
use Rattle.logs.specs.Left.{left_of, Sound, Refuses, RunsAlone}
use Rattle.logs.proofs.Thirds.{together}
use Rattle.logs.proofs.Apart.{as_many, lines_apart, last_apart}

-- ---- the scan

pub scanned : (words : List ℕ) (n : ℕ) → scan_of words ≡ Ok n → (rs : List CycleRecord) × (log_of words ≡ records rs) × (n ≡ length rs)
scanned words n = go (log_of words) refl
  where
    go : (l : LogRead) → log_of words ≡ l → counted 0 l ≡ Ok n → (rs : List CycleRecord) × (log_of words ≡ records rs) × (n ≡ length rs)
    go (records rs) q e = let size : 0 + length rs ≡ n = cc in (rs, q, omega arith)
    go (fault place) q e = never (cc)

pub faulty : (words : List ℕ) (place : ℕ) → scan_of words ≡ Err place → log_of words ≡ fault place
faulty words place = go (log_of words) refl
  where
    go : (l : LogRead) → log_of words ≡ l → counted 0 l ≡ Err place → log_of words ≡ fault place
    go (records rs) q e = never (cc)
    go (fault p) q e = q ∙ ap fault {x = p} {y = place} (cc)

-- a log has no more records than entries
few : (n : ℕ) (s : List ℕ) (at : ℕ) (rs : List CycleRecord) → log_from n s at ≡ records rs → length rs ≤ n
unfolding log_from
few zero s at rs e = let q : [] ≡ rs = none e in omega (arith, ap length q)
  where
    none : records [] ≡ records rs → [] ≡ rs
    none y = cc
few (suc n) s at rs e₀ = go (ltb at (length s)) (entry_at s at) (few n s (at + 7)) (few n s (at + 1)) e₀
  where
    empty : records [] ≡ records rs → length rs ≤ suc n
    empty y = let q : [] ≡ rs = cc in omega (arith, ap length q)

    after : (r : CycleRecord) (l : LogRead) → ((k : List CycleRecord) → l ≡ records k → length k ≤ n) → before r l ≡ records rs → length rs ≤ suc n
    after r (records k) h y = let q : r ∷ k ≡ rs = cc in omega (arith, ap length q, h k refl)
    after r (fault place) h y = never (cc)

    go : (t : Bool) (x : Result Entry ℕ) → ((k : List CycleRecord) → log_from n s (at + 7) ≡ records k → length k ≤ n) → ((k : List CycleRecord) → log_from n s (at + 1) ≡ records k → length k ≤ n) →
        cond t (on_entry x (λ r. before r (log_from n s (at + 7))) (log_from n s (at + 1))) (records []) ≡ records rs → length rs ≤ suc n
    go false x f g y = empty y
    go true (Ok (Record r)) f g y = after r (log_from n s (at + 7)) f y
    go true (Ok Remark) f g y = omega (arith, g rs y)
    go true (Err place) f g y = never (cc)

pub few_cycles : (words : List ℕ) (n : ℕ) → scan_of words ≡ Ok n → n ≤ length words
few_cycles words n e = let s = scanned words n e in omega (arith, s.2, few (length words) words 0 s.0 s.1)

-- ---- the answers

module _ (words out : List ℕ) where
  pub too_long : 16384 < length words → Refuses words out (WrongLog 16384)
  unfolding ran_of
  too_long h a b = simp (lt-ltb 16384 (length words) h)

  module _ (short : length words ≤ 16384) where
    by_log_lem : (a b : Channel) {l : LogRead} → log_of words ≡ l → ran_of a b words out ≡ by_records a b out l
    unfolding ran_of
    by_log_lem a b e = simp (le-ltb 16384 (length words) short) (ap (by_records a b out) e)

    pub bad_word : {place : ℕ} → scan_of words ≡ Err place → Refuses words out (WrongLog place)
    bad_word {place} e a b = by_log_lem a b (faulty words place e)

    pub no_room : {n : ℕ} → scan_of words ≡ Ok n → length out < 3 * n → Refuses words out (ShortOutput (3 * n))
    no_room {n} e h a b =
        let s = scanned words n e in
        let less : length out < 3 * length s.0 = omega (arith, s.2) in
        by_log_lem a b s.1 ∙ simp (lt-ltb (length out) (3 * length s.0) less) (ap (λ (k : ℕ). refusing a b out (ShortOutput (3 * k))) (sym s.2))

  -- both channels run one after the other, then their device words, as the machine gives them back
  module _ (a b : Channel) (la lb : State) (outa outb out' : List ℕ) where
    pub ran : {n : ℕ} → Sound words out n → RunsAlone a b.list b.state.k A words out la outa → RunsAlone b a.list a.state.k B words outa lb outb →
        out' ≡ with_devices 0 n outb → left_of a b (record { answer = Ok n; a = la; b = lb }) out' ≡ ran_of a b words out
    ran {n} s runs-a runs-b devices =
        let da = a.list in
        let db = b.list in
        let ra = runs-a s.rs s.log in
        let rb = runs-b s.rs s.log in
        let wa = words_alone A da db a.state b.state.k s.rs in
        let wb = words_alone B db da b.state a.state.k s.rs in
        let many-a : length wa ≡ length s.rs = as_many A da db a.state b.state.k s.rs in
        let many-b : length wb ≡ length s.rs = as_many B db da b.state a.state.k s.rs in
        let last = last_apart da db (both_of a b) s.rs in
        let is : ran_of a b words out ≡ running a b out s.rs = by_log_lem s.short a b s.log ∙ simp (le-ltb (length out) (3 * length s.rs) s.room) in
        let sa = ra.0 ∙ sym (ap (λ (x : Both). x.a) last) in
        let sb = rb.0 ∙ sym (ap (λ (x : Both). x.b) last) in
        let put =
        devices
        ∙ ap (with_devices 0 n) (rb.1 ∙ ap (thirds 1 wb) ra.1)
        ∙ ap (λ (i : ℕ). with_devices 0 i (thirds 1 wb (thirds 0 wa out))) (s.counted ∙ sym many-a)
        ∙ together wa wb out (many-b ∙ sym many-a) (omega (arith, many-a, s.room))
        ∙ (λ i. sym (lines_apart da db (both_of a b) s.rs) i ++ drop (3 * many-a i) out) in
        (λ i. record { answer = Ok (s.counted i); a = after_cycles (s.counted i) a (sa i); b = after_cycles (s.counted i) b (sb i); out = put i })
        ∙ sym is
