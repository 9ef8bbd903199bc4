-- One channel over an accepted log, entry by entry: what is left to run gives, from here, what the whole log gives. Assumes nothing.
use mathlib.Core.Path.{◌≡◌, refl, sym, ap, ◌∙◌, subst}
use mathlib.Core.List.{List, [], ◌∷◌}
use Prim.Native.Nat.{ℕ, ◌+◌, ◌*◌, ◌≤◌, ◌<◌}
use native.Mathlib.Omega.{arith}
use lib.ListN.{length, get_or, set, length-set}
use lib.IntN.{ℤ}
use Rattle.machine_data.specs.declared.MachineData.{MachineData}
use Rattle.laws.proofs.Never.{never}
use Rattle.channel.specs.declared.Channel.{Channel}
use Rattle.state.specs.declared.State.{State}
use Rattle.state.specs.declared.Given.{Given}
use Rattle.advance.specs.declared.Advanced.{Advanced}
use Rattle.report.specs.Report.{next_k}
use Rattle.channel.specs.Cycle.{next}
use Rattle.channel.specs.Word.{word}
use Rattle.channel.specs.Outcome.{advanced}
use Rattle.seven.specs.declared.CycleRecord.{CycleRecord}
use Rattle.std.proofs.Common.{Result, Ok, Err}
use Rattle.records.specs.declared.Entry.{Entry}
use Rattle.records.specs.declared.Entry.TheVariants.{Record, Remark}
use Rattle.records.specs.Records.{entry_at, LogRead, records, fault, before, log_of}
use Rattle.words.specs.declared.Word.TheVariants as W
use Rattle.words.specs.Words.{word_of}
use Rattle.seven.specs.Seven.{six_from, record_of}
use Rattle.records.proofs.Seven.{at_word, holds}
use Rattle.records.proofs.Logs.{remark_at}
use Rattle.records.proofs.Scanning.{Rest, read, record_there, at_record, at_remark, at_bad, at_end}
use Rattle.logs.specs.declared.Side.{Side}
use Rattle.logs.specs.declared.Side.TheVariants.{A, B}
use Rattle.logs.specs.Alone.{given_in, first_place, last_alone, words_alone, thirds}
use Rattle.logs.specs.Left.{Enough, RunsAlone}

-- at a place of the words and of the output, with the state s and the other's k there
pub record Going (side : Side) (d e : MachineData) (s₀ : State) (k₀ : ℕ) (words out₀ out : List ℕ) (s : State) (k at place : ℕ) : Type 0 where
  pub all : List CycleRecord
  pub rest : List CycleRecord
  pub log : log_of words ≡ records all
  pub left : Rest words at (records rest)
  pub last : last_alone side d e s k rest ≡ last_alone side d e s₀ k₀ all
  pub put : thirds place (words_alone side d e s k rest) out ≡ thirds (first_place side) (words_alone side d e s₀ k₀ all) out₀
  pub count : place + 3 * length rest ≤ 1 + 3 * length all
  pub room : 3 * length all ≤ length out

module _ {side : Side} {d e : MachineData} {s₀ : State} {k₀ : ℕ} {words out₀ : List ℕ} where
  pub starts : {place : ℕ} → Enough words out₀ → place ≡ first_place side → Going side d e s₀ k₀ words out₀ out₀ s₀ k₀ 0 place
  starts {place} h first =
      record {
        all = h.rs;
        rest = h.rs;
        log = h.log;
        left = (length words, omega arith, h.log);
        last = refl;
        put = ap (λ (n : ℕ). thirds n (words_alone side d e s₀ k₀ h.rs) out₀) first;
        count = omega (arith, first, at_most_1 side);
        room = h.room;
      }
    where
      at_most_1 : (x : Side) → first_place x ≤ 1
      at_most_1 A = omega arith
      at_most_1 B = omega arith

  module _ {out : List ℕ} {s : State} {k at place : ℕ} (g : Going side d e s₀ k₀ words out₀ out s k at place) where
    no_fault : {bad : ℕ} {X : Type 0} → at < length words → entry_at words at ≡ Err bad → X
    no_fault {bad} h q = apart (at_bad words at (records g.rest) h q g.left)
      where
        apart : {X : Type 0} → fault bad ≡ records g.rest → X
        apart y = never (cc)

    -- what stands here, by its first word
    record_here : {p : ℤ} → at < length words → word_of (get_or words at 0) ≡ W.Position p → entry_at words at ≡ Ok (Record (record_of p (six_from words at)))
    record_here {p} h first = go (entry_at words at) refl
      where
        go : (x : Result Entry ℕ) → entry_at words at ≡ x → entry_at words at ≡ Ok (Record (record_of p (six_from words at)))
        go (Ok (Record r)) q = q ∙ ap (λ (x : CycleRecord). Ok (Record x)) (sym (holds words at r q (at_word words at h first)))
        go (Ok Remark) q = never (cc (at_word words at h first, remark_at words at q))
        go (Err bad) q = no_fault h q

    remark_here : at < length words → ((p : ℤ) → word_of (get_or words at 0) ≡ W.Position p → ⊥) → entry_at words at ≡ Ok Remark
    remark_here h other = go (entry_at words at) refl
      where
        go : (x : Result Entry ℕ) → entry_at words at ≡ x → entry_at words at ≡ Ok Remark
        go (Ok (Record r)) q = absurd (other r.a.position (sym (at_word words at h refl) ∙ (read words at r q).position_a))
        go (Ok Remark) q = q
        go (Err bad) q = no_fault h q

    next_record : (r : CycleRecord) → at < length words → entry_at words at ≡ Ok (Record r) → (rs : List CycleRecord) × (g.rest ≡ r ∷ rs) × Rest words (at + 7) (records rs)
    next_record r h q = let a = at_record words at (records g.rest) r h q g.left in go a.0 a.1 a.2
      where
        go : (l : LogRead) → Rest words (at + 7) l → before r l ≡ records g.rest → (rs : List CycleRecord) × (g.rest ≡ r ∷ rs) × Rest words (at + 7) (records rs)
        go (records rs) l y = (rs, cc, l)
        go (fault bad) l y = never (cc)

    -- a record stands here whole, with room for its word
    pub there : {p : ℤ} → at < length words → word_of (get_or words at 0) ≡ W.Position p → (at + 7 ≤ length words) × (place < length out)
    there {p} h first =
        let r = record_of p (six_from words at) in
        let q = record_here h first in
        let n = next_record r h q in
        (record_there words at r q, omega (arith, g.count, g.room, ap length n.1))

    pub remarked : at < length words → ((p : ℤ) → word_of (get_or words at 0) ≡ W.Position p → ⊥) → Going side d e s₀ k₀ words out₀ out s k (at + 1) place
    remarked h other =
        record {
          all = g.all;
          rest = g.rest;
          log = g.log;
          left = at_remark words at (records g.rest) h (remark_here h other) g.left;
          last = g.last;
          put = g.put;
          count = g.count;
          room = g.room;
        }

    -- t is the cycle as the machine has it, and the output has its word
    pub stepped : {p : ℤ} {given : Given} {t : Advanced} {k' : ℕ} → at < length words → word_of (get_or words at 0) ≡ W.Position p → given ≡ given_in side e k (record_of p (six_from words at)) → t ≡ advanced d s given →
        k' ≡ next_k e.count k → Going side d e s₀ k₀ words out₀ (set out place t.word) t.state k' (at + 7) (place + 3)
    unfolding last_alone words_alone thirds
    stepped {p} {t = t} h first is cycle rises =
        let r = record_of p (six_from words at) in
        let n = next_record r h (record_here h first) in
        let state : t.state ≡ next d s (given_in side e k r) = ap (λ (x : Advanced). x.state) cycle ∙ ap (next d s) is in
        let shown : t.word ≡ word d s (given_in side e k r) = ap (λ (x : Advanced). x.word) cycle ∙ ap (word d s) is in
        record {
          all = g.all;
          rest = n.0;
          log = g.log;
          left = n.2;
          last = (λ i. last_alone side d e (state i) (rises i) n.0) ∙ sym (ap (last_alone side d e s k) n.1) ∙ g.last;
          put =
              (λ i. thirds (place + 3) (words_alone side d e (state i) (rises i) n.0) (set out place (shown i)))
              ∙ sym (ap (λ (l : List CycleRecord). thirds place (words_alone side d e s k l) out) n.1)
              ∙ g.put;
          count = omega (arith, g.count, ap length n.1);
          room = subst (λ (i : ℕ). 3 * length g.all ≤ i) (sym (length-set out place t.word)) g.room;
        }

-- at the end of the words
pub ended : (c : Channel) {e : MachineData} {k₀ : ℕ} {side : Side} {words out₀ out : List ℕ} {s : State} {k at place : ℕ} →
    Going side c.list e c.state k₀ words out₀ out s k at place → length words ≤ at → RunsAlone c e k₀ side words out₀ s out
unfolding last_alone words_alone thirds
ended c {e} {k₀} {side} {words} {out₀} {out} {s} {k} {at} {place} g h rs log =
    let d = c.list in
    let none : [] ≡ g.rest = empty (at_end words at (records g.rest) h g.left) in
    let all-is : g.all ≡ rs = same_records (sym g.log ∙ log) in (
      ap (last_alone side d e s k) none ∙ g.last ∙ ap (last_alone side d e c.state k₀) all-is,
      ap (λ (l : List CycleRecord). thirds place (words_alone side d e s k l) out) none
          ∙ g.put
          ∙ ap (λ (l : List CycleRecord). thirds (first_place side) (words_alone side d e c.state k₀ l) out₀) all-is,
    )
  where
    empty : records [] ≡ records g.rest → [] ≡ g.rest
    empty q = cc

    same_records : {a b : List CycleRecord} → records a ≡ records b → a ≡ b
    same_records q = cc
