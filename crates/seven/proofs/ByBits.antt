-- What a word of a kind holds, by its bits, and six words by theirs. Assumes nothing.
use mathlib.Core.Path.{◌≡◌, refl, sym, ap, ◌∙◌, subst}
use mathlib.Core.Bool.{Bool, true, false, cond, ◌&&◌}
use mathlib.Core.List.{List}
use Prim.Native.Nat.{ℕ, ◌+◌, ◌-◌, ◌/◌, ◌%◌, ◌≤◌, ◌<◌}
use native.Mathlib.Omega.{arith}
use lib.ListN.{length, take, drop}
use Rattle.std.proofs.lemmas.List.{get_or-drop, take_rest}
use lib.IntN.{ℤ}
use lib.Dec.{ltb, eqb}
use borrow.Author.Tests.{lt-ltb, le-ltb, ltb-true, eqb-true}
use Rattle.std.proofs.Common.{Some, None}
use Rattle.laws.proofs.Bools.{both}
use Rattle.laws.proofs.Never.{never}
use Rattle.words.specs.declared.Word.TheVariants as W
use Rattle.words.specs.Words.{twos, word_of}
use Rattle.words.specs.IsWord.{kinded, IsWord, position, lower, upper, end}
use Rattle.words.proofs.IsWord.{reads}
use Rattle.seven.specs.declared.Halves.{Halves}
use Rattle.seven.specs.declared.Six.{Six}
use Rattle.seven.specs.Seven.{six_from, six_behind, are_halves, are_six}

-- ---- a word of these bits is read so

pub of_position : (w : ℕ) → w / 268435456 ≡ 4 → word_of w ≡ W.Position (twos 134217728 (w % 268435456))
of_position w h =
    let e : kinded 4 (w % 268435456) ≡ w = omega arith in
    subst (λ (n : ℕ). word_of n ≡ W.Position (twos 134217728 (w % 268435456))) e (reads (position {b = w % 268435456} (omega arith)))

pub of_lower : (w : ℕ) → w / 65536 ≡ 20480 → word_of w ≡ W.Lower (w % 65536)
of_lower w h =
    let e : kinded 5 (w % 65536) ≡ w = omega arith in
    subst (λ (n : ℕ). word_of n ≡ W.Lower (w % 65536)) e (reads (lower {b = w % 65536} (omega arith)))

pub of_upper : (w : ℕ) → w / 65536 ≡ 24576 → word_of w ≡ W.Upper (w % 65536)
of_upper w h =
    let e : kinded 6 (w % 65536) ≡ w = omega arith in
    subst (λ (n : ℕ). word_of n ≡ W.Upper (w % 65536)) e (reads (upper {b = w % 65536} (omega arith)))

pub of_end : (w : ℕ) → w / 2 ≡ 939524096 → word_of w ≡ W.End (eqb (w % 2) 1)
of_end w h =
    let e : kinded 7 (w % 2) ≡ w = omega arith in
    subst (λ (n : ℕ). word_of n ≡ W.End (eqb (w % 2) 1)) e (reads (end {b = w % 2} (omega arith)))

-- ---- what a word read so holds

pub position_held : {w : ℕ} {z : ℤ} → IsWord w (W.Position z) → twos 134217728 (w % 268435456) ≡ z
position_held (position {b} h) = ap (twos 134217728) (omega arith)

pub lower_held : {w b : ℕ} → IsWord w (W.Lower b) → w % 65536 ≡ b
lower_held (lower h) = omega arith

pub upper_held : {w b : ℕ} → IsWord w (W.Upper b) → w % 65536 ≡ b
upper_held (upper h) = omega arith

pub end_held : {w : ℕ} {a : Bool} → IsWord w (W.End a) → eqb (w % 2) 1 ≡ a
end_held (end {b} h) = let e : kinded 7 b % 2 ≡ b = omega arith in ap (λ (n : ℕ). eqb n 1) e

-- ---- six words

pub six_there : (s : List ℕ) (at : ℕ) → at + 6 < length s → six_behind s at ≡ Some (six_from s at)
unfolding six_behind
six_there s at h = simp (lt-ltb (at + 6) (length s) h)

pub six_missing : (s : List ℕ) (at : ℕ) → length s ≤ at + 6 → None ≡ six_behind s at
unfolding six_behind
six_missing s at h = sym (simp (le-ltb (at + 6) (length s) h))

-- seven words from a place on have the six
pub six_sliced : (s t : List ℕ) (at : ℕ) → t ≡ take (length s - at) (drop at s) → length t + at ≡ length s → 7 ≤ length t → Some (six_from t 0) ≡ six_behind s at
six_sliced s t at is size seven =
    let rest : t ≡ drop at s = is ∙ take_rest s at in
    let six : six_from (drop at s) 0 ≡ six_from s at = simp get_or-drop in
    ap (λ (l : List ℕ). Some (six_from l 0)) rest ∙ ap Some six ∙ sym (six_there s at (omega arith))

-- six words that are behind a place are those from it on
pub all_six : (s : List ℕ) (at : ℕ) {w : Six} → six_behind s at ≡ Some w → (at + 6 < length s) × (six_from s at ≡ w)
unfolding six_behind
all_six s at {w} = go (ltb (at + 6) (length s)) refl
  where
    go : (t : Bool) → ltb (at + 6) (length s) ≡ t → cond t (Some (six_from s at)) None ≡ Some w → (at + 6 < length s) × (six_from s at ≡ w)
    go true q e = (ltb-true (at + 6) (length s) q, cc)
    go false q e = never (cc)

-- six words of a record are of their kinds
pub record Kinds (w : Six) : Type 0 where
  pub lower_a : w.a.lower / 65536 ≡ 20480
  pub upper_a : w.a.upper / 65536 ≡ 24576
  pub position_b : w.position / 268435456 ≡ 4
  pub lower_b : w.b.lower / 65536 ≡ 20480
  pub upper_b : w.b.upper / 65536 ≡ 24576
  pub ending : w.end / 2 ≡ 939524096

of_halves : (h : Halves) → are_halves h ≡ true → (h.lower / 65536 ≡ 20480) × (h.upper / 65536 ≡ 24576)
unfolding are_halves
of_halves h e = let t = both (eqb (h.lower / 65536) 20480) (eqb (h.upper / 65536) 24576) e in (eqb-true (h.lower / 65536) 20480 t.0, eqb-true (h.upper / 65536) 24576 t.1)

pub kinds : (w : Six) → are_six w ≡ true → Kinds w
unfolding are_six
kinds w e =
    let p = eqb (w.position / 268435456) 4 in
    let z = eqb (w.end / 2) 939524096 in
    let t = both (p && z && are_halves w.a) (are_halves w.b) e in
    let u = both (p && z) (are_halves w.a) t.0 in
    let v = both p z u.0 in
    let a = of_halves w.a u.1 in
    let b = of_halves w.b t.1 in
    record {
      lower_a = a.0;
      upper_a = a.1;
      position_b = eqb-true (w.position / 268435456) 4 v.0;
      lower_b = b.0;
      upper_b = b.1;
      ending = eqb-true (w.end / 2) 939524096 v.1;
    }
