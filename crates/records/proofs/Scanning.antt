-- A log entry by entry: what each leaves to be read, and that it lies within the words. Assumes nothing.
use mathlib.Core.Path.{◌≡◌, refl, sym, ap, ◌∙◌, subst}
use mathlib.Core.List.{List, []}
use Prim.Native.Nat.{ℕ, zero, suc, ◌+◌, ◌≤◌, ◌<◌}
use native.Mathlib.Omega.{arith}
use lib.ListN.{length}
use borrow.Author.Tests.{lt-ltb, le-ltb}
use Rattle.laws.proofs.Never.{never}
use Rattle.words.specs.declared.Word.{Word}
use Rattle.words.specs.declared.Word.TheVariants as W
use Rattle.words.specs.Words.{word_at}
use Rattle.words.proofs.Cases.{is_position, is_end, there}
use Rattle.seven.specs.declared.CycleRecord.{CycleRecord}
use Rattle.std.proofs.Common.{Result, Ok, Err}
use Rattle.records.specs.declared.Entry.{Entry}
use Rattle.records.specs.declared.Entry.TheVariants.{Record, Remark}
use Rattle.records.specs.Records.{inputs_at, on_inputs, reading, ending_at, other_at, between_of, entry_at, LogRead, records, fault, before, on_entry, log_from, counted}

-- ---- the words of a record that was read

pub record Read (s : List ℕ) (at : ℕ) (r : CycleRecord) : Type 0 where
  pub position_a : word_at s at ≡ W.Position r.a.position
  pub inputs_a : inputs_at s (at + 1) ≡ Ok r.a.inputs
  pub position_b : word_at s (at + 3) ≡ W.Position r.b.position
  pub inputs_b : inputs_at s (at + 3 + 1) ≡ Ok r.b.inputs
  pub ending : word_at s (at + 3 + 3) ≡ W.End r.acknowledged

of_inputs : (s : List ℕ) (at : ℕ) (x : Result ℕ ℕ) {f : ℕ → Result Entry ℕ} {r : CycleRecord} → inputs_at s at ≡ x → on_inputs x f ≡ Ok (Record r) →
    (w : ℕ) × (inputs_at s at ≡ Ok w) × (f w ≡ Ok (Record r))
of_inputs s at (Ok w) i e = (w, i, e)
of_inputs s at (Err place) i e = never (cc)

record_of_lem : {x y : CycleRecord} → ◌≡◌ {A = Result Entry ℕ} (Ok (Record x)) (Ok (Record y)) → x ≡ y
record_of_lem e = cc

pub read : (s : List ℕ) (at : ℕ) (r : CycleRecord) → entry_at s at ≡ Ok (Record r) → Read s at r
unfolding entry_at other_at ending_at
read s at r e =
    let p = is_position (word_at s at) (λ p. on_inputs (inputs_at s (at + 1)) (λ w. other_at s (at + 3) (reading p w))) (between_of (word_at s at) at) (Ok (Record r)) e (no_between (word_at s at)) in
    let i = of_inputs s (at + 1) (inputs_at s (at + 1)) refl p.2 in
    let q = is_position (word_at s (at + 3)) (λ q. on_inputs (inputs_at s (at + 3 + 1)) (λ w. ending_at s (at + 3 + 3) (reading p.0 i.0) (reading q w))) (Err (at + 3)) (Ok (Record r)) i.2 (λ y. never (cc)) in
    let j = of_inputs s (at + 3 + 1) (inputs_at s (at + 3 + 1)) refl q.2 in
    let z = is_end (word_at s (at + 3 + 3)) (λ ack. Ok (Record (record { a = reading p.0 i.0; b = reading q.0 j.0; acknowledged = ack }))) (Err (at + 3 + 3)) (Ok (Record r)) j.2 (λ y. never (cc)) in
    subst (Read s at) (record_of_lem z.2) (record {
      position_a = p.1;
      inputs_a = i.1;
      position_b = q.1;
      inputs_b = j.1;
      ending = z.1;
    })
  where
    no_between : (x : Word) → between_of x at ≡ Ok (Record r) → ⊥
    no_between (W.Head n) h = never (cc)
    no_between (W.Datum k f) h = never (cc)
    no_between (W.Piece b) h = never (cc)
    no_between (W.Position z) h = never (cc)
    no_between (W.Lower b) h = never (cc)
    no_between (W.Upper b) h = never (cc)
    no_between (W.End a) h = never (cc)
    no_between W.Remark h = never (cc)
    no_between W.Other h = never (cc)

pub record_there : (s : List ℕ) (at : ℕ) (r : CycleRecord) → entry_at s at ≡ Ok (Record r) → at + 7 ≤ length s
record_there s at r e =
    let x = read s at r e in
    let h = there s (at + 3 + 3) (λ y. never (cc x.ending)) in
    omega arith

-- ---- one entry more

-- what is left to be read from a place on, with enough entries
abbrev pub Rest : List ℕ → ℕ → LogRead → Type 0
Rest s at l = (n : ℕ) × (length s ≤ at + n) × (log_from n s at ≡ l)

by_entry : (s : List ℕ) (at : ℕ) (l : LogRead) → at < length s → Rest s at l →
    (n : ℕ) × (length s ≤ at + 1 + n) × (on_entry (entry_at s at) (λ r. before r (log_from n s (at + 7))) (log_from n s (at + 1)) ≡ l)
unfolding log_from
by_entry s at l h (zero, far, e) = absurd (omega arith)
by_entry s at l h (suc n, far, e) = (n, omega arith, sym (simp (lt-ltb at (length s) h)) ∙ e)

pub at_record : (s : List ℕ) (at : ℕ) (l : LogRead) (r : CycleRecord) → at < length s → entry_at s at ≡ Ok (Record r) → Rest s at l →
    (k : LogRead) × Rest s (at + 7) k × (before r k ≡ l)
at_record s at l r h e rest =
    let b = by_entry s at l h rest in
    (log_from b.0 s (at + 7), (b.0, omega (arith, b.1), refl), sym (ap (λ (x : Result Entry ℕ). on_entry x (λ y. before y (log_from b.0 s (at + 7))) (log_from b.0 s (at + 1))) e) ∙ b.2)

-- an entry that is no record is a remark
pub remark_else : (x : Entry) → ((r : CycleRecord) → x ≡ Record r → ⊥) → x ≡ Remark
remark_else (Record r) h = absurd (h r refl)
remark_else Remark h = refl

pub at_remark : (s : List ℕ) (at : ℕ) (l : LogRead) → at < length s → entry_at s at ≡ Ok Remark → Rest s at l → Rest s (at + 1) l
at_remark s at l h e rest =
    let b = by_entry s at l h rest in
    (b.0, b.1, sym (ap (λ (x : Result Entry ℕ). on_entry x (λ y. before y (log_from b.0 s (at + 7))) (log_from b.0 s (at + 1))) e) ∙ b.2)

pub at_bad : (s : List ℕ) (at : ℕ) (l : LogRead) {place : ℕ} → at < length s → entry_at s at ≡ Err place → Rest s at l → fault place ≡ l
at_bad s at l h e rest =
    let b = by_entry s at l h rest in
    sym (ap (λ (x : Result Entry ℕ). on_entry x (λ y. before y (log_from b.0 s (at + 7))) (log_from b.0 s (at + 1))) e) ∙ b.2

pub at_end : (s : List ℕ) (at : ℕ) (l : LogRead) → length s ≤ at → Rest s at l → records [] ≡ l
unfolding log_from
at_end s at l h (zero, far, e) = e
at_end s at l h (suc n, far, e) = sym (simp (le-ltb at (length s) h)) ∙ e

pub counted_before : (c : ℕ) (r : CycleRecord) (l : LogRead) → counted c (before r l) ≡ counted (c + 1) l
counted_before c r (records rs) = ap Ok {x = c + suc (length rs)} {y = c + 1 + length rs} (omega arith)
counted_before c r (fault place) = refl
