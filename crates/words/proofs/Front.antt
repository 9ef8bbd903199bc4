-- The words from a place on: what stands in front is read there, and the rest stands behind it. Assumes nothing.
use mathlib.Core.Path.{◌≡◌, sym, ap, ◌∙◌}
use mathlib.Core.List.{List, ◌∷◌}
use Prim.Native.Nat.{ℕ, suc, ◌+◌, ◌-◌, ◌<◌}
use native.Mathlib.Numerals.{add-one}
use native.Mathlib.Omega.{arith}
use lib.ListN.{length, get_or, drop, length-drop}
use lib.Seq.{drop-cons}
use borrow.Author.Tests.{lt-ltb}
use Rattle.words.specs.declared.Word.{Word}
use Rattle.words.specs.Words.{word_of, word_at}
use Rattle.words.specs.IsWord.{IsWord}
use Rattle.words.proofs.IsWord.{reads}

pub present : (s : List ℕ) (at w : ℕ) (t : List ℕ) → drop at s ≡ w ∷ t → at < length s
present s at w t e = go (length s) (sym (length-drop at s) ∙ ap length e)
  where
    go : (n : ℕ) → n - at ≡ suc (length t) → at < n
    go n h = omega arith

pub front_word : (s : List ℕ) (at w : ℕ) (t : List ℕ) → drop at s ≡ w ∷ t → get_or s at 0 ≡ w
front_word s at w t e = let c = drop-cons s at 0 (present s at w t e) in cc

pub behind : (s : List ℕ) (at w : ℕ) (t : List ℕ) → drop at s ≡ w ∷ t → drop (at + 1) s ≡ t
behind s at w t e = let c = drop-cons s at 0 (present s at w t e) in rw add-one (cc)

pub front_reads : (s : List ℕ) (at w : ℕ) (t : List ℕ) {x : Word} → drop at s ≡ w ∷ t → IsWord w x → word_at s at ≡ x
unfolding word_at
front_reads s at w t e h = simp (lt-ltb at (length s) (present s at w t e)) (ap word_of (front_word s at w t e) ∙ reads h)

pub front_is : (s : List ℕ) (at : ℕ) → at < length s → drop at s ≡ get_or s at 0 ∷ drop (at + 1) s
front_is s at h = rw (add-one, drop-cons s at 0)
