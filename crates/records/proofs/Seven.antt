-- A record by its first word's position and the six words behind it. Assumes nothing.
use mathlib.Core.Path.{◌≡◌, refl, sym, ap, ◌∙◌, subst}
use mathlib.Core.Bool.{true, false, true≢false}
use mathlib.Core.List.{List}
use Prim.Native.Nat.{ℕ, ◌+◌, ◌*◌, ◌/◌, ◌%◌, ◌<◌}
use native.Mathlib.Omega.{arith}
use lib.ListN.{length, get_or}
use lib.IntN.{ℤ}
use lib.Dec.{eqb}
use borrow.Author.Tests.{lt-ltb}
use Rattle.laws.proofs.Never.{never}
use Rattle.words.specs.declared.Word.{Word}
use Rattle.words.specs.declared.Word.TheVariants as W
use Rattle.words.specs.Words.{word_of, word_at}
use Rattle.words.specs.IsWord.{IsWord}
use Rattle.words.specs.Cases.{if_position}
use Rattle.words.proofs.Cases.{no_position}
use Rattle.words.proofs.IsWord.{read_at}
use Rattle.seven.specs.declared.CycleRecord.{CycleRecord}
use Rattle.seven.specs.declared.Halves.{Halves}
use Rattle.seven.specs.declared.Six.{Six}
use Rattle.seven.specs.Seven.{reading_from, six_from, six_behind, are_six, record_of}
use Rattle.seven.proofs.ByBits.{of_position, of_lower, of_upper, of_end, position_held, lower_held, upper_held, end_held, all_six, Kinds, kinds}
use Rattle.std.proofs.Common.{Some, Ok}
use Rattle.records.specs.declared.Entry.TheVariants.{Record}
use Rattle.records.specs.Records.{inputs_at, reading, entry_at}
use Rattle.records.proofs.Parts.{both_halves, halves, ending_is, other_is, entry_is}
use Rattle.records.proofs.Scanning.{read}

pub at_word : (s : List ℕ) (at : ℕ) {x : Word} → at < length s → word_of (get_or s at 0) ≡ x → word_at s at ≡ x
unfolding word_at
at_word s at h e = simp (lt-ltb at (length s) h) e

-- a word that a `let .. else` leaves out is no position, by its tag
pub begins_none : (w : ℕ) {x : Word} → x ≡ word_of w → ((z : ℤ) → x ≡ W.Position z → ⊥) → (p : ℤ) → word_of w ≡ W.Position p → ⊥
begins_none w {x} e h p q = true≢false (sym (no_position x h (λ z. true) false ∙ ap (λ (y : Word). if_position y (λ z. true) false) (e ∙ q)))

abbrev halves_at : List ℕ → ℕ → ℕ → Halves
halves_at s p q = record { lower = get_or s p 0; upper = get_or s q 0 }

module _ (s : List ℕ) where
  -- the input word behind a place, by the bits of its two words
  inputs_by_bits : (at p q : ℕ) → p ≡ at + 1 → q ≡ at + 2 → at + 2 < length s → get_or s p 0 / 65536 ≡ 20480 → get_or s q 0 / 65536 ≡ 24576 → (z : ℤ) →
      inputs_at s (at + 1) ≡ Ok (reading_from z (halves_at s p q)).inputs
  inputs_by_bits at p q ep eq h low high z =
      let q' : q ≡ at + 1 + 1 = omega arith in
      sym (both_halves s (at + 1)
      (subst (λ (i : ℕ). word_at s i ≡ W.Lower (get_or s p 0 % 65536)) ep (at_word s p (omega arith) (of_lower (get_or s p 0) low)))
      (subst (λ (i : ℕ). word_at s i ≡ W.Upper (get_or s q 0 % 65536)) q' (at_word s q (omega arith) (of_upper (get_or s q 0) high))))

  -- the six words behind a position are those of a record: it is this one
  pub whole_record : (at : ℕ) {p : ℤ} {w : Six} → word_at s at ≡ W.Position p → six_behind s at ≡ Some w → are_six w ≡ true → Ok (Record (record_of p w)) ≡ entry_at s at
  whole_record at {p} {w} first there six =
      let all = all_six s at there in
      let k : Kinds (six_from s at) = subst Kinds (sym all.1) (kinds w six) in
      let r = record_of p (six_from s at) in
      let far : at + 6 ≡ at + 3 + 3 = omega arith in
      let a = inputs_by_bits at (at + 1) (at + 2) refl refl (omega (arith, all.0)) k.lower_a k.upper_a p in
      let b = inputs_by_bits (at + 3) (at + 4) (at + 5) (omega arith) (omega arith) (omega (arith, all.0)) k.lower_b k.upper_b r.b.position in
      let second = at_word s (at + 3) (omega (arith, all.0)) (of_position (get_or s (at + 3) 0) k.position_b) in
      let last = subst (λ (i : ℕ). word_at s i ≡ W.End (eqb (get_or s (at + 6) 0 % 2) 1)) far (at_word s (at + 6) all.0 (of_end (get_or s (at + 6) 0) k.ending)) in
      ap (λ (x : Six). Ok (Record (record_of p x))) (sym all.1)
      ∙ ending_is s (at + 3 + 3) r.a r.b last
      ∙ other_is s (at + 3) r.a second b
      ∙ entry_is s at first a

  -- ---- what the words of a record hold

  inputs_held : (at p q : ℕ) → p ≡ at + 1 → q ≡ at + 2 → (w : ℕ) → inputs_at s (at + 1) ≡ Ok w → get_or s q 0 % 65536 * 65536 + get_or s p 0 % 65536 ≡ w
  inputs_held at p q ep eq w i =
      let h = halves s (at + 1) w i in
      let q' : at + 1 + 1 ≡ q = omega arith in
      let l = lower_held (subst (λ (j : ℕ). IsWord (get_or s j 0) (W.Lower h.0)) (sym ep) (read_at s (at + 1) h.2 (λ y. never (cc)))) in
      let u = upper_held (subst (λ (j : ℕ). IsWord (get_or s j 0) (W.Upper h.1)) q' (read_at s (at + 1 + 1) h.3 (λ y. never (cc)))) in
      ap (λ (n : ℕ). n * 65536 + get_or s p 0 % 65536) u ∙ ap (λ (n : ℕ). h.1 * 65536 + n) l ∙ sym h.4

  pub holds : (at : ℕ) (r : CycleRecord) {p : ℤ} → entry_at s at ≡ Ok (Record r) → word_at s at ≡ W.Position p → record_of p (six_from s at) ≡ r
  holds at r {p} e first =
      let x = read s at r e in
      let far : at + 3 + 3 ≡ at + 6 = omega arith in
      let own : p ≡ r.a.position = same (sym first ∙ x.position_a) in
      let a = inputs_held at (at + 1) (at + 2) refl refl r.a.inputs x.inputs_a in
      let second = position_held (read_at s (at + 3) x.position_b (λ y. never (cc))) in
      let b = inputs_held (at + 3) (at + 4) (at + 5) (omega arith) (omega arith) r.b.inputs x.inputs_b in
      let z = end_held (subst (λ (j : ℕ). IsWord (get_or s j 0) (W.End r.acknowledged)) far (read_at s (at + 3 + 3) x.ending (λ y. never (cc)))) in
      λ j. record { a = reading (own j) (a j); b = reading (second j) (b j); acknowledged = z j }
    where
      same : {y z : ℤ} → W.Position y ≡ W.Position z → y ≡ z
      same q = cc
