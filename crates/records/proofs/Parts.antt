-- The parts of a record by what was read of their words. Assumes nothing.
use mathlib.Core.Path.{◌≡◌, sym, ap, ◌∙◌}
use mathlib.Core.Bool.{Bool}
use mathlib.Core.List.{List}
use Prim.Native.Nat.{ℕ, ◌+◌, ◌*◌, ◌≤◌, ◌<◌}
use native.Mathlib.Omega.{arith}
use lib.ListN.{length}
use lib.IntN.{ℤ}
use Rattle.laws.proofs.Never.{never}
use Rattle.words.specs.declared.Word.{Word}
use Rattle.words.specs.declared.Word.TheVariants as W
use Rattle.words.specs.Words.{word_at}
use Rattle.words.specs.Cases.{if_position, if_lower, if_upper, if_end}
use Rattle.words.proofs.Cases.{no_position, no_lower, no_upper, no_end, is_lower, is_upper, there}
use Rattle.inputs.specs.declared.Reading.{Reading}
use Rattle.std.proofs.Common.{Result, Ok, Err, IsErr, IsErrAnd}
use Rattle.records.specs.declared.Entry.TheVariants.{Record, Remark}
use Rattle.records.specs.Records.{inputs_at, on_inputs, reading, ending_at, other_at, between_of, entry_at}

-- a place that `?` passes on
pub passed_on : {X : Type 0} (r : Result X ℕ) (place : ℕ) → IsErr r × IsErrAnd r (λ (e : ℕ). e ≡ place) → r ≡ Err place
passed_on (Ok x) place h = absurd h.1
passed_on (Err e) place h = ap Err h.1

pub position_there : (s : List ℕ) (at : ℕ) {p : ℤ} → word_at s at ≡ W.Position p → at < length s
position_there s at h = there s at (λ e. never (cc))

pub lower_there : (s : List ℕ) (at : ℕ) {b : ℕ} → word_at s at ≡ W.Lower b → at < length s
lower_there s at h = there s at (λ e. never (cc))

pub upper_there : (s : List ℕ) (at : ℕ) {b : ℕ} → word_at s at ≡ W.Upper b → at < length s
upper_there s at h = there s at (λ e. never (cc))

-- ---- the input word

module _ (s : List ℕ) (at : ℕ) where
  high_of_lem : ℕ → Result ℕ ℕ
  high_of_lem low = if_upper (word_at s (at + 1)) (λ high. Ok (high * 65536 + low)) (Err (at + 1))

  pub no_low : {x : Word} → x ≡ word_at s at → ((b : ℕ) → x ≡ W.Lower b → ⊥) → Err at ≡ inputs_at s at
  unfolding inputs_at high_of_lem
  no_low {x} e h = no_lower x h high_of_lem (Err at) ∙ ap (λ (y : Word). if_lower y high_of_lem (Err at)) e

  module _ {low : ℕ} (lower : word_at s at ≡ W.Lower low) where
    low_is : high_of_lem low ≡ inputs_at s at
    unfolding inputs_at high_of_lem
    low_is = sym (ap (λ (y : Word). if_lower y high_of_lem (Err at)) lower)

    pub no_high : {x : Word} → x ≡ word_at s (at + 1) → ((b : ℕ) → x ≡ W.Upper b → ⊥) → Err (at + 1) ≡ inputs_at s at
    unfolding high_of_lem
    no_high {x} e h =
        no_upper x h (λ high. Ok (high * 65536 + low)) (Err (at + 1))
        ∙ ap (λ (y : Word). if_upper y (λ high. Ok (high * 65536 + low)) (Err (at + 1))) e
        ∙ low_is

    pub both_halves : {high : ℕ} → word_at s (at + 1) ≡ W.Upper high → Ok (high * 65536 + low) ≡ inputs_at s at
    unfolding high_of_lem
    both_halves upper =
        sym (ap (λ (y : Word). if_upper y (λ high. Ok (high * 65536 + low)) (Err (at + 1))) upper) ∙ low_is

  pub halves : (w : ℕ) → inputs_at s at ≡ Ok w →
      (low : ℕ) × (high : ℕ) × (word_at s at ≡ W.Lower low) × (word_at s (at + 1) ≡ W.Upper high) × (w ≡ high * 65536 + low)
  unfolding inputs_at
  halves w e =
      let l = is_lower (word_at s at) (λ low. if_upper (word_at s (at + 1)) (λ high. Ok (high * 65536 + low)) (Err (at + 1))) (Err at) (Ok w) e (λ y. never (cc)) in
      let u = is_upper (word_at s (at + 1)) (λ high. Ok (high * 65536 + l.0)) (Err (at + 1)) (Ok w) l.2 (λ y. never (cc)) in
      let value : u.0 * 65536 + l.0 ≡ w = cc u.2 in
      (l.0, u.0, l.1, u.1, sym value)

  pub inputs_there : (w : ℕ) → inputs_at s at ≡ Ok w → at + 2 ≤ length s
  inputs_there w e = let h = halves w e in omega (arith, upper_there s (at + 1) h.3)

-- ---- the record

module _ (s : List ℕ) (at : ℕ) where
  pub no_ending : (a b : Reading) {x : Word} → x ≡ word_at s at → ((a : Bool) → x ≡ W.End a → ⊥) → Err at ≡ ending_at s at a b
  unfolding ending_at
  no_ending a b {x} e h =
      no_end x h (λ ack. Ok (Record (record { a = a; b = b; acknowledged = ack }))) (Err at)
      ∙ ap (λ (y : Word). if_end y (λ ack. Ok (Record (record { a = a; b = b; acknowledged = ack }))) (Err at)) e

  pub ending_is : (a b : Reading) {ack : Bool} → word_at s at ≡ W.End ack → Ok (Record (record { a = a; b = b; acknowledged = ack })) ≡ ending_at s at a b
  unfolding ending_at
  ending_is a b e = sym (ap (λ (y : Word). if_end y (λ ack. Ok (Record (record { a = a; b = b; acknowledged = ack }))) (Err at)) e)

  pub no_other : (a : Reading) {x : Word} → x ≡ word_at s at → ((z : ℤ) → x ≡ W.Position z → ⊥) → Err at ≡ other_at s at a
  unfolding other_at
  no_other a {x} e h =
      no_position x h (λ p. on_inputs (inputs_at s (at + 1)) (λ w. ending_at s (at + 3) a (reading p w))) (Err at)
      ∙ ap (λ (y : Word). if_position y (λ p. on_inputs (inputs_at s (at + 1)) (λ w. ending_at s (at + 3) a (reading p w))) (Err at)) e

  pub other_is : (a : Reading) {p : ℤ} {x : Result ℕ ℕ} → word_at s at ≡ W.Position p → inputs_at s (at + 1) ≡ x →
      on_inputs x (λ w. ending_at s (at + 3) a (reading p w)) ≡ other_at s at a
  unfolding other_at
  other_is a {p} e i =
      sym (ap (λ (y : Word). if_position y (λ p. on_inputs (inputs_at s (at + 1)) (λ w. ending_at s (at + 3) a (reading p w))) (Err at)) e
      ∙ ap (λ (y : Result ℕ ℕ). on_inputs y (λ w. ending_at s (at + 3) a (reading p w))) i)

  pub no_record : {x : Word} → x ≡ word_at s at → ((z : ℤ) → x ≡ W.Position z → ⊥) → between_of x at ≡ entry_at s at
  unfolding entry_at
  no_record {x} e h =
      no_position x h (λ p. on_inputs (inputs_at s (at + 1)) (λ w. other_at s (at + 3) (reading p w))) (between_of x at)
      ∙ ap (λ (y : Word). if_position y (λ p. on_inputs (inputs_at s (at + 1)) (λ w. other_at s (at + 3) (reading p w))) (between_of y at)) e

  pub entry_is : {p : ℤ} {x : Result ℕ ℕ} → word_at s at ≡ W.Position p → inputs_at s (at + 1) ≡ x →
      on_inputs x (λ w. other_at s (at + 3) (reading p w)) ≡ entry_at s at
  unfolding entry_at
  entry_is {p} e i =
      sym (ap (λ (y : Word). if_position y (λ p. on_inputs (inputs_at s (at + 1)) (λ w. other_at s (at + 3) (reading p w))) (between_of y at)) e
      ∙ ap (λ (y : Result ℕ ℕ). on_inputs y (λ w. other_at s (at + 3) (reading p w))) i)

pub remark_is : (s : List ℕ) (at : ℕ) → word_at s at ≡ W.Remark → Ok Remark ≡ entry_at s at
unfolding entry_at
remark_is s at e =
    sym (ap (λ (y : Word). if_position y (λ p. on_inputs (inputs_at s (at + 1)) (λ w. other_at s (at + 3) (reading p w))) (between_of y at)) e)
