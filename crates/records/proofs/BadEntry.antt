-- An entry is bad where the words of a record break off, and nowhere else: `entry_at` against Breaks. Assumes nothing.
use mathlib.Core.Path.{◌≡◌, refl, ap, subst}
use mathlib.Core.Logic.{◌↔◌}
use mathlib.Core.Bool.{Bool, true, false}
use mathlib.Core.List.{List, [], ◌∷◌}
use Prim.Native.Nat.{ℕ, ◌+◌, ◌*◌}
use native.Mathlib.Omega.{arith}
use Rattle.laws.proofs.Never.{never}
use Rattle.words.specs.Words.{word_at}
use Rattle.words.specs.Breaks.{Sort, a_position, a_lower, an_upper, an_end, a_remark, fits}
use Rattle.words.proofs.Cases.{is_remark}
use Rattle.words.proofs.Breaking.{Choice, met, missed, otherwise, onward, by_position, by_lower, by_upper, by_end, by_remark, Broken, never_broken, broken_here, broken_later}
use Rattle.inputs.specs.declared.Reading.{Reading}
use Rattle.seven.specs.declared.CycleRecord.{CycleRecord}
use Rattle.std.proofs.Common.{Result, Ok, Err}
use Rattle.records.specs.declared.Entry.{Entry}
use Rattle.records.specs.declared.Entry.TheVariants.{Record, Remark}
use Rattle.records.specs.Records.{inputs_at, on_inputs, reading, ending_at, other_at, entry_at}
use Rattle.records.specs.IsLog.{a_record}
use Rattle.records.proofs.Parts.{remark_is}

-- an answer says Bad where the words break off, and nowhere else
abbrev BadWhere : Result Entry ℕ → List Sort → List ℕ → ℕ → Type 0
BadWhere x ks s at = (place : ℕ) → (x ≡ Err place) ↔ Broken ks s at place

module _ (s : List ℕ) where
  -- behind the last word nothing can be bad
  whole : (r : CycleRecord) (at : ℕ) → BadWhere (Ok (Record r)) [] s at
  whole r at place = (λ e. never (cc), λ x. absurd (never_broken x.2))

  -- one word more in front
  word_by_word : {B : Type 0} {held : B → Result Entry ℕ} {x : Result Entry ℕ} (k : Sort) (ks : List Sort) (at : ℕ) →
      Choice k (word_at s at) held (Err at) x → ((b : B) → BadWhere (held b) ks s (at + 1)) → BadWhere x (k ∷ ks) s at
  word_by_word k ks at (met b t) rest place =
      (λ e. (broken_later k ks s at place t).0 ((rest b place).0 e), λ x. (rest b place).1 ((broken_later k ks s at place t).1 x))
  word_by_word k ks at (missed q) rest place = (λ e. (broken_here k ks s at place q).0 (cc), λ x. ap Err ((broken_here k ks s at place q).1 x))

  -- "Kinds 5 and 6", and what follows them
  inputs_bad : (ks : List Sort) (at to : ℕ) (f : ℕ → Result Entry ℕ) → to ≡ at + 1 + 1 → ((w : ℕ) → BadWhere (f w) ks s to) → BadWhere (on_inputs (inputs_at s at) f) (a_lower ∷ an_upper ∷ ks) s at
  unfolding inputs_at
  inputs_bad ks at to f far rest =
      word_by_word a_lower (an_upper ∷ ks) at
      (onward (λ (i : Result ℕ ℕ). on_inputs i f) (by_lower (word_at s at) _ (Err at)))
      (λ low. word_by_word an_upper ks (at + 1)
      (onward (λ (i : Result ℕ ℕ). on_inputs i f) (by_upper (word_at s (at + 1)) _ (Err (at + 1))))
      (λ high. subst (BadWhere (f (high * 65536 + low)) ks s) far (rest (high * 65536 + low))))

  -- "then 7"
  ending_bad : (at : ℕ) (a b : Reading) → BadWhere (ending_at s at a b) (an_end ∷ []) s at
  unfolding ending_at
  ending_bad at a b = word_by_word an_end [] at (by_end (word_at s at) _ _) (λ ack. whole (record { a = a; b = b; acknowledged = ack }) (at + 1))

  -- "the same of B"
  other_bad : (at : ℕ) (a : Reading) → BadWhere (other_at s at a) (a_position ∷ a_lower ∷ an_upper ∷ an_end ∷ []) s at
  unfolding other_at
  other_bad at a =
      word_by_word a_position (a_lower ∷ an_upper ∷ an_end ∷ []) at (by_position (word_at s at) _ _)
      (λ p. inputs_bad (an_end ∷ []) (at + 1) (at + 3) _ (omega arith) (λ w. ending_bad (at + 3) a (reading p w)))

  -- "kinds 4, 5, 6 of A"
  pub record_bad : (at : ℕ) → fits a_remark (word_at s at) ≡ false → BadWhere (entry_at s at) a_record s at
  unfolding entry_at
  record_bad at q =
      rw (otherwise (by_remark (word_at s at) (Ok Remark) (Err at)) q)
      (word_by_word a_position (a_lower ∷ an_upper ∷ a_position ∷ a_lower ∷ an_upper ∷ an_end ∷ []) at (by_position (word_at s at) _ _)
      (λ p. inputs_bad (a_position ∷ a_lower ∷ an_upper ∷ an_end ∷ []) (at + 1) (at + 3) _ (omega arith) (λ w. other_bad (at + 3) (reading p w))))

  -- a remark is no bad entry
  pub bad_no_remark : (at place : ℕ) → entry_at s at ≡ Err place → fits a_remark (word_at s at) ≡ false
  bad_no_remark at place e = go (fits a_remark (word_at s at)) refl
    where
      go : (t : Bool) → fits a_remark (word_at s at) ≡ t → fits a_remark (word_at s at) ≡ false
      go true q = never (cc (remark_is s at (is_remark (word_at s at) true false true q (λ y. never (cc))).0))
      go false q = q
