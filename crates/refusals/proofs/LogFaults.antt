-- A log is read as faulty at a place if and only if it is so there: `log_of` against FaultAt. Assumes nothing.
use mathlib.Core.Path.{◌≡◌, refl, sym, ap, ◌∙◌, subst}
use mathlib.Core.Logic.{◌↔◌}
use mathlib.Core.Bool.{Bool}
use mathlib.Core.List.{List, [], ◌∷◌, ◌++◌}
use Prim.Native.Nat.{ℕ, ◌+◌, ◌<◌}
use native.Mathlib.Omega.{arith}
use lib.ListN.{length, get_or, drop}
use lib.Seq.{drop-append_seam}
use Rattle.std.specs.Prelude.{Ok, Err}
use Rattle.words.specs.declared.Word.TheVariants as W
use Rattle.words.specs.IsWord.{IsWord}
use Rattle.words.specs.Breaks.{a_remark, IsA, Breaks}
use Rattle.words.proofs.Front.{present, front_is}
use Rattle.words.proofs.Breaks.{lacks, lacked}
use Rattle.inputs.specs.declared.Reading.{Reading}
use Rattle.seven.specs.declared.CycleRecord.{CycleRecord}
use Rattle.records.specs.declared.Entry.TheVariants.{Record, Remark}
use Rattle.records.specs.Records.{entry_at, LogRead, records, fault, before, log_of}
use Rattle.records.specs.IsLog.{a_record, IsReading, IsLog, end, remark, cycle}
use Rattle.records.proofs.Scanning.{at_bad}
use Rattle.records.proofs.Logs.{ahead, front_of_log, record_written, remark_word, by_entries}
use Rattle.records.proofs.BadEntry.{record_bad, bad_no_remark}
use Rattle.refusals.specs.FaultAt.{FaultAt, fault_at}

-- ---- what is faulty is read so

fault_ahead : (rs : List CycleRecord) (place : ℕ) → ahead rs (fault place) ≡ fault place
fault_ahead [] place = refl
fault_ahead (r ∷ rs) place = ap (before r) (fault_ahead rs place)

fault_reads : {s : List ℕ} {place : ℕ} → FaultAt s place → log_of s ≡ fault place
fault_reads (fault_at {rs} {front} {ws} {w} {m} log none breaks) =
    let s : List ℕ = front ++ (w ∷ ws) in
    let seam : drop (length front) s ≡ w ∷ ws = drop-append_seam front (w ∷ ws) in
    let rest = front_of_log log s 0 (length front) (w ∷ ws) refl (omega arith) (log_of s) (length s, omega arith, refl) in
    let no_remark = lacked a_remark s (length front) (λ v t e a. none (subst (IsA a_remark) {x = v} (cc) a)) in
    let bad = (record_bad s (length front) no_remark (length front + m)).1 (m, refl, subst (λ (l : List ℕ). Breaks a_record l m) (sym seam) breaks) in
    sym rest.2 ∙ ap (ahead rs) (sym (at_bad s (length front) rest.0 (present s (length front) w ws seam) bad rest.1)) ∙ fault_ahead rs (length front + m)

-- ---- what is read as faulty is so

-- the place said in another way
fault_behind : {rs : List CycleRecord} {front ws : List ℕ} {w m : ℕ} (p : ℕ) → IsLog rs front → (IsA a_remark w → ⊥) → Breaks a_record (w ∷ ws) m → length front + m ≡ p → FaultAt (front ++ (w ∷ ws)) p
fault_behind {front = front} {ws} {w} p log none breaks e = subst (FaultAt (front ++ (w ∷ ws))) e (fault_at log none breaks)

-- a remark or a record more in front
behind_remark : {w p : ℕ} {ws : List ℕ} → IsWord w W.Remark → FaultAt ws p → FaultAt (w ∷ ws) (p + 1)
behind_remark h (fault_at {front = front} {m = m} log none breaks) = fault_behind (length front + m + 1) (remark h log) none breaks (omega arith)

behind_cycle : {a b : Reading} {ack : Bool} {w₁ w₂ w₃ w₄ w₅ w₆ w₇ p : ℕ} {ws : List ℕ} → IsReading a w₁ w₂ w₃ → IsReading b w₄ w₅ w₆ → IsWord w₇ (W.End ack) →
    FaultAt ws p → FaultAt (w₁ ∷ w₂ ∷ w₃ ∷ w₄ ∷ w₅ ∷ w₆ ∷ w₇ ∷ ws) (p + 7)
behind_cycle ha hb hz (fault_at {front = front} {m = m} log none breaks) = fault_behind (length front + m + 7) (cycle ha hb hz log) none breaks (omega arith)

-- a fault that was read from a place on stands there
abbrev Stand : List ℕ → ℕ → LogRead → Type 0
Stand s at (records rs) = Unit
Stand s at (fault place) = (p : ℕ) × (place ≡ at + p) × FaultAt (drop at s) p

fault_written : (s : List ℕ) (place : ℕ) → log_of s ≡ fault place → FaultAt s place
fault_written s place e =
    let x = by_entries s (Stand s) (λ at h. tt) of_fault of_remark of_record (length s) 0 (fault place) (omega arith) (length s, omega arith, e) in
    subst (FaultAt s) (omega (arith, x.1)) x.2
  where
    of_fault : (at bad : ℕ) → at < length s → entry_at s at ≡ Err bad → Stand s at (fault bad)
    of_fault at bad inside q =
        let no_remark = bad_no_remark s at bad q in
        let x = (record_bad s at no_remark bad).0 q in
        let first = front_is s at inside in (
          x.0,
          x.1,
          subst (λ (ws : List ℕ). FaultAt ws x.0) (sym first)
              (fault_behind x.0 end (lacks a_remark s at no_remark (get_or s at 0) (drop (at + 1) s) first) (subst (λ (ws : List ℕ). Breaks a_record ws x.0) first x.2) (omega arith)),
        )

    of_remark : (at : ℕ) (l : LogRead) → at < length s → entry_at s at ≡ Ok Remark → Stand s (at + 1) l → Stand s at l
    of_remark at (records rs) inside q x = tt
    of_remark at (fault bad) inside q (p, far, f) =
        (p + 1, omega arith, subst (λ (ws : List ℕ). FaultAt ws (p + 1)) (sym (front_is s at inside)) (behind_remark (remark_word s at q) f))

    of_record : (at : ℕ) (r : CycleRecord) (l : LogRead) → entry_at s at ≡ Ok (Record r) → Stand s (at + 7) l → Stand s at (before r l)
    of_record at r (records rs) q x = tt
    of_record at r (fault bad) q (p, far, f) =
        (p + 7, omega arith, record_written s at r (λ (ws : List ℕ). FaultAt ws (p + 7)) q (λ w₁ w₂ w₃ w₄ w₅ w₆ w₇ a b z. behind_cycle a b z f))

-- "a word missing or wrong": the place
pub is_fault : (s : List ℕ) (place : ℕ) → (log_of s ≡ fault place) ↔ FaultAt s place
is_fault s place = (fault_written s place, fault_reads)
