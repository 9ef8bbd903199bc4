-- A log is read as these records if and only if it is them with remarks between: `log_of` against IsLog. Assumes nothing.
use mathlib.Core.Path.{◌≡◌, refl, sym, ap, ◌∙◌, subst}
use mathlib.Core.Logic.{◌↔◌}
use mathlib.Core.Bool.{Bool, true, false}
use mathlib.Core.List.{List, [], ◌∷◌, ◌++◌, append-nil}
use Prim.Native.Nat.{ℕ, zero, suc, ◌+◌, ◌*◌, ◌≤◌, ◌<◌}
use native.Mathlib.Omega.{arith}
use lib.ListN.{length, get_or, drop, drop_of_length-le}
use lib.Dec.{ltb}
use borrow.Author.Tests.{ltb-true, ltb-false}
use Rattle.laws.proofs.Never.{never}
use Rattle.words.specs.declared.Word.{Word}
use Rattle.words.specs.declared.Word.TheVariants as W
use Rattle.words.specs.Words.{word_at}
use Rattle.words.specs.IsWord.{IsWord}
use Rattle.words.specs.Cases.{if_position}
use Rattle.words.proofs.IsWord.{read_at}
use Rattle.words.proofs.Front.{present, behind, front_reads, front_is}
use Rattle.words.proofs.Cases.{is_position, is_end}
use Rattle.inputs.specs.declared.Reading.{Reading}
use Rattle.seven.specs.declared.CycleRecord.{CycleRecord}
use Rattle.std.proofs.Common.{Result, Ok, Err}
use Rattle.records.specs.declared.Entry.{Entry}
use Rattle.records.specs.declared.Entry.TheVariants.{Record, Remark}
use Rattle.records.specs.Records.{inputs_at, on_inputs, ending_at, other_at, between_of, entry_at, LogRead, records, fault, before, log_of}
use Rattle.records.specs.IsLog.{IsReading, reading, IsLog, end, remark, cycle}
use Rattle.records.proofs.Parts.{both_halves, halves, ending_is, other_is, entry_is, remark_is}
use Rattle.records.proofs.Scanning.{read, record_there, Rest, at_record, at_remark, at_bad, at_end}

-- ---- what is written is read

-- the words of a reading at the front
reading_reads : {r : Reading} {w₁ w₂ w₃ : ℕ} → IsReading r w₁ w₂ w₃ → (s : List ℕ) (at : ℕ) (t : List ℕ) → drop at s ≡ w₁ ∷ w₂ ∷ w₃ ∷ t →
    (word_at s at ≡ W.Position r.position) × (inputs_at s (at + 1) ≡ Ok r.inputs) × (drop (at + 3) s ≡ t)
reading_reads (reading {w₁ = w₁} {w₂} {w₃} h₁ h₂ h₃) s at t e =
    let e₂ = behind s at w₁ (w₂ ∷ w₃ ∷ t) e in
    let e₃ = behind s (at + 1) w₂ (w₃ ∷ t) e₂ in
    let e₄ = behind s (at + 1 + 1) w₃ t e₃ in
    let far : at + 1 + 1 + 1 ≡ at + 3 = omega arith in (
      front_reads s at w₁ (w₂ ∷ w₃ ∷ t) e h₁,
      sym (both_halves s (at + 1) (front_reads s (at + 1) w₂ (w₃ ∷ t) e₂ h₂) (front_reads s (at + 1 + 1) w₃ t e₃ h₃)),
      ap (λ (i : ℕ). drop i s) (sym far) ∙ e₄,
    )

-- what is read of records, and of what is behind them
abbrev pub ahead : List CycleRecord → LogRead → LogRead
ahead [] l = l
ahead (r ∷ rs) l = before r (ahead rs l)

-- records and remarks at the front are read, and the rest is read from behind them on
pub front_of_log : {rs : List CycleRecord} {front : List ℕ} → IsLog rs front → (s : List ℕ) (at to : ℕ) (t : List ℕ) → drop at s ≡ front ++ t → to ≡ at + length front →
    (l : LogRead) → Rest s at l → (k : LogRead) × Rest s to k × (ahead rs k ≡ l)
front_of_log end s at to t e far l rest = (l, subst (λ (i : ℕ). Rest s i l) (omega arith) rest, refl)
front_of_log (remark {w} {ws = ws} h log) s at to t e far l rest =
    let is : Ok Remark ≡ entry_at s at = remark_is s at (front_reads s at w (ws ++ t) e h) in
    front_of_log log s (at + 1) to t (behind s at w (ws ++ t) e) (omega arith) l (at_remark s at l (present s at w (ws ++ t) e) (sym is) rest)
front_of_log (cycle {a} {b} {ack} {w₁} {w₂} {w₃} {w₄} {w₅} {w₆} {w₇} {rs} {ws} ha hb hz log) s at to t e far l rest =
    let x = reading_reads ha s at (w₄ ∷ w₅ ∷ w₆ ∷ w₇ ∷ (ws ++ t)) e in
    let y = reading_reads hb s (at + 3) (w₇ ∷ (ws ++ t)) x.2 in
    let z = front_reads s (at + 3 + 3) w₇ (ws ++ t) y.2 hz in
    let r : CycleRecord = record { a = a; b = b; acknowledged = ack } in
    let is : Ok (Record r) ≡ entry_at s at = ending_is s (at + 3 + 3) a b z ∙ other_is s (at + 3) a y.0 y.1 ∙ entry_is s at x.0 x.1 in
    let seven : at + 3 + 3 + 1 ≡ at + 7 = omega arith in
    let more = at_record s at l r (present s at w₁ (w₂ ∷ w₃ ∷ w₄ ∷ w₅ ∷ w₆ ∷ w₇ ∷ (ws ++ t)) e) (sym is) rest in
    let last = front_of_log log s (at + 7) to t (ap (λ (i : ℕ). drop i s) (sym seven) ∙ behind s (at + 3 + 3) w₇ (ws ++ t) y.2) (omega arith) more.0 more.1 in
    (last.0, last.1, ap (before r) last.2 ∙ more.2)

all_ahead : (rs : List CycleRecord) → ahead rs (records []) ≡ records rs
all_ahead [] = refl
all_ahead (r ∷ rs) = ap (before r) (all_ahead rs)

log_reads : (s : List ℕ) (rs : List CycleRecord) → IsLog rs s → log_of s ≡ records rs
log_reads s rs log =
    let x = front_of_log log s 0 (length s) [] (sym (append-nil s)) (omega arith) (log_of s) (length s, omega arith, refl) in
    sym x.2 ∙ ap (ahead rs) (sym (at_end s (length s) x.0 (omega arith) x.1)) ∙ all_ahead rs

-- ---- what is read was written

-- a reading at a place, and what stands behind it
reading_written : (s : List ℕ) (at : ℕ) (r : Reading) → word_at s at ≡ W.Position r.position → inputs_at s (at + 1) ≡ Ok r.inputs → at + 3 ≤ length s →
    (w₁ : ℕ) × (w₂ : ℕ) × (w₃ : ℕ) × IsReading r w₁ w₂ w₃ × (drop at s ≡ w₁ ∷ w₂ ∷ w₃ ∷ drop (at + 3) s)
reading_written s at r p i far =
    let h = halves s (at + 1) r.inputs i in
    let next : at + 1 + 1 + 1 ≡ at + 3 = omega arith in
    let is : IsReading (record { position = r.position; inputs = h.1 * 65536 + h.0 }) (get_or s at 0) (get_or s (at + 1) 0) (get_or s (at + 1 + 1) 0)
    = reading (read_at s at p (λ e. never (cc))) (read_at s (at + 1) h.2 (λ e. never (cc))) (read_at s (at + 1 + 1) h.3 (λ e. never (cc))) in (
      get_or s at 0,
      get_or s (at + 1) 0,
      get_or s (at + 1 + 1) 0,
      subst (λ (w : ℕ). IsReading (record { position = r.position; inputs = w }) (get_or s at 0) (get_or s (at + 1) 0) (get_or s (at + 1 + 1) 0)) (sym h.4) is,
      front_is s at (omega arith)
          ∙ ap (λ (t : List ℕ). get_or s at 0 ∷ t) (front_is s (at + 1) (omega arith))
          ∙ ap (λ (t : List ℕ). get_or s at 0 ∷ get_or s (at + 1) 0 ∷ t) (front_is s (at + 1 + 1) (omega arith))
          ∙ ap (λ (j : ℕ). get_or s at 0 ∷ get_or s (at + 1) 0 ∷ get_or s (at + 1 + 1) 0 ∷ drop j s) next,
    )

-- what is shown of a record's seven words and all behind them holds where one is read
pub record_written : (s : List ℕ) (at : ℕ) (r : CycleRecord) (P : List ℕ → Type 0) → entry_at s at ≡ Ok (Record r)
    → ((w₁ w₂ w₃ w₄ w₅ w₆ w₇ : ℕ) → IsReading r.a w₁ w₂ w₃ → IsReading r.b w₄ w₅ w₆ → IsWord w₇ (W.End r.acknowledged) → P (w₁ ∷ w₂ ∷ w₃ ∷ w₄ ∷ w₅ ∷ w₆ ∷ w₇ ∷ drop (at + 7) s))
    → P (drop at s)
record_written s at r P e shown =
    let x = read s at r e in
    let far = record_there s at r e in
    let a = reading_written s at r.a x.position_a x.inputs_a (omega arith) in
    let b = reading_written s (at + 3) r.b x.position_b x.inputs_b (omega arith) in
    let last : at + 3 + 3 + 1 ≡ at + 7 = omega arith in
    let z = front_is s (at + 3 + 3) (omega arith) in
    let whole : drop at s ≡ a.0 ∷ a.1 ∷ a.2 ∷ b.0 ∷ b.1 ∷ b.2 ∷ get_or s (at + 3 + 3) 0 ∷ drop (at + 7) s
    = a.4 ∙ ap (λ (t : List ℕ). a.0 ∷ a.1 ∷ a.2 ∷ t) (b.4 ∙ ap (λ (t : List ℕ). b.0 ∷ b.1 ∷ b.2 ∷ t) (z ∙ ap (λ (i : ℕ). get_or s (at + 3 + 3) 0 ∷ drop i s) last)) in
    subst P (sym whole) (shown a.0 a.1 a.2 b.0 b.1 b.2 (get_or s (at + 3 + 3) 0) a.3 b.3 (read_at s (at + 3 + 3) x.ending (λ y. never (cc))))

on_inputs_no_remark : (x : Result ℕ ℕ) (f : ℕ → Result Entry ℕ) → ((w : ℕ) → f w ≡ Ok Remark → ⊥) → on_inputs x f ≡ Ok Remark → ⊥
on_inputs_no_remark (Ok w) f h e = h w e
on_inputs_no_remark (Err place) f h e = never (cc)

no_remark_inside : (s : List ℕ) (at : ℕ) (a : Reading) → other_at s at a ≡ Ok Remark → ⊥
unfolding other_at ending_at
no_remark_inside s at a e =
    let p = is_position (word_at s at) (λ p. on_inputs (inputs_at s (at + 1)) (λ w. ending_at s (at + 3) a (record { position = p; inputs = w }))) (Err at) (Ok Remark) e (λ y. never (cc)) in
    on_inputs_no_remark (inputs_at s (at + 1)) (λ w. ending_at s (at + 3) a (record { position = p.0; inputs = w }))
    (λ w y. let z = is_end (word_at s (at + 3)) (λ ack. Ok (Record (record { a = a; b = record { position = p.0; inputs = w }; acknowledged = ack }))) (Err (at + 3)) (Ok Remark) y (λ q. never (cc)) in never (cc z.2))
    p.2

pub remark_at : (s : List ℕ) (at : ℕ) → entry_at s at ≡ Ok Remark → word_at s at ≡ W.Remark
unfolding entry_at
remark_at s at = go (word_at s at) refl
  where
    go : (x : Word) → word_at s at ≡ x → if_position x (λ p. on_inputs (inputs_at s (at + 1)) (λ w. other_at s (at + 3) (record { position = p; inputs = w }))) (between_of x at) ≡ Ok Remark → x ≡ W.Remark
    go (W.Head n) q e = never (cc)
    go (W.Datum k f) q e = never (cc)
    go (W.Piece b) q e = never (cc)
    go (W.Position p) q e = absurd (on_inputs_no_remark (inputs_at s (at + 1)) (λ w. other_at s (at + 3) (record { position = p; inputs = w })) (λ w. no_remark_inside s (at + 3) (record { position = p; inputs = w })) e)
    go (W.Lower b) q e = never (cc)
    go (W.Upper b) q e = never (cc)
    go (W.End a) q e = never (cc)
    go W.Remark q e = refl
    go W.Other q e = never (cc)

pub remark_word : (s : List ℕ) (at : ℕ) → entry_at s at ≡ Ok Remark → IsWord (get_or s at 0) W.Remark
remark_word s at e = read_at s at (remark_at s at e) (λ y. never (cc))

-- ---- what is read was written, entry by entry

-- what is shown of the end, of a fault, and of an entry before what stands behind it, holds of all that is read from any place on
module _ (s : List ℕ) (P : ℕ → LogRead → Type 0) (of_end : (at : ℕ) → length s ≤ at → P at (records []))
    (of_fault : (at place : ℕ) → at < length s → entry_at s at ≡ Err place → P at (fault place))
    (of_remark : (at : ℕ) (l : LogRead) → at < length s → entry_at s at ≡ Ok Remark → P (at + 1) l → P at l)
    (of_record : (at : ℕ) (r : CycleRecord) (l : LogRead) → entry_at s at ≡ Ok (Record r) → P (at + 7) l → P at (before r l)) where
  by_entry : (at : ℕ) (l : LogRead) → at < length s → Rest s at l → ((to : ℕ) (k : LogRead) → at < to → Rest s to k → P to k) → (x : Result Entry ℕ) → entry_at s at ≡ x → P at l
  by_entry at l inside rest more (Ok (Record r)) e =
      let x = at_record s at l r inside e rest in
      subst (P at) x.2 (of_record at r x.0 e (more (at + 7) x.0 (omega arith) x.1))
  by_entry at l inside rest more (Ok Remark) e = of_remark at l inside e (more (at + 1) l (omega arith) (at_remark s at l inside e rest))
  by_entry at l inside rest more (Err place) e = subst (P at) (at_bad s at l inside e rest) (of_fault at place inside e)

  pub by_entries : (n at : ℕ) (l : LogRead) → length s ≤ at + n → Rest s at l → P at l
  by_entries zero at l far rest = subst (P at) (at_end s at l (omega arith) rest) (of_end at (omega arith))
  by_entries (suc n) at l far rest = by_length (ltb at (length s)) refl (λ to k h. by_entries n to k (omega arith))
    where
      by_length : (t : Bool) → ltb at (length s) ≡ t → ((to : ℕ) (k : LogRead) → at < to → Rest s to k → P to k) → P at l
      by_length true q more = by_entry at l (ltb-true at (length s) q) rest more (entry_at s at) refl
      by_length false q more = let h = ltb-false at (length s) q in subst (P at) (at_end s at l h rest) (of_end at h)

-- records that were read from a place on stand there
abbrev Stand : List ℕ → ℕ → LogRead → Type 0
Stand s at (records rs) = IsLog rs (drop at s)
Stand s at (fault place) = Unit

log_written : (s : List ℕ) (rs : List CycleRecord) → log_of s ≡ records rs → IsLog rs s
log_written s rs e =
    by_entries s (Stand s) (λ at h. subst (IsLog []) (sym (drop_of_length-le s {i = at} h)) end) (λ at place inside q. tt) of_remark of_record (length s) 0 (records rs)
    (omega arith) (length s, omega arith, e)
  where
    of_remark : (at : ℕ) (l : LogRead) → at < length s → entry_at s at ≡ Ok Remark → Stand s (at + 1) l → Stand s at l
    of_remark at (records ks) inside q log = subst (IsLog ks) (sym (front_is s at inside)) (remark (remark_word s at q) log)
    of_remark at (fault place) inside q x = tt

    of_record : (at : ℕ) (r : CycleRecord) (l : LogRead) → entry_at s at ≡ Ok (Record r) → Stand s (at + 7) l → Stand s at (before r l)
    of_record at r (records ks) q log = record_written s at r (IsLog (r ∷ ks)) q (λ w₁ w₂ w₃ w₄ w₅ w₆ w₇ a b z. cycle a b z log)
    of_record at r (fault place) q x = tt

-- "A log is cycle records", and remarks between them
pub is_log : (s : List ℕ) (rs : List CycleRecord) → (log_of s ≡ records rs) ↔ IsLog rs s
is_log s rs = (log_written s rs, log_reads s rs)
