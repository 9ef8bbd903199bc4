-- A kit's bytes in arrays of four, and their words. Assumes nothing.
use Rattle.std.proofs.Common.{◌≡◌, refl, sym, ap, ◌∙◌, List, [], ◌∷◌, ◌++◌, ℕ, zero, suc, ◌+◌, ◌*◌, ◌≤◌, ◌<◌, min, length, get_or, take, drop, set, inl, inr, arith, zero-add, append-nil}
use Rattle.std.proofs.Math.Nat.{min_comm}
use Rattle.std.proofs.Math.ListN.{drop_of_length-le}
use Rattle.std.proofs.Math.Seq.{paste}
use Rattle.std.proofs.lemmas.Bool.{cases_lt}
use Rattle.std.proofs.lemmas.List.{take_all, take_min}
use Rattle.std.proofs.lemmas.List.Edits.{paste_more}
use Rattle.std.specs.Int.{w32, from_be_bytes}
use Rattle.std.specs.Simd.{first_chunks}
use Rattle.kit_bytes.specs.KitBytes.{words_of, overlaid}

-- a word is the number of its array
pub word_at : (l : List ℕ) (n i : ℕ) → 4 * n ≤ length l → i < n → get_or (words_of l) i 0 ≡ from_be_bytes w32 (get_or (first_chunks 4 n l) i [])
unfolding words_of
word_at l zero i long h = absurd (omega (arith, h))
word_at [] (suc n) i long h = absurd (omega (arith, long))
word_at (a ∷ []) (suc n) i long h = absurd (omega (arith, long))
word_at (a ∷ b ∷ []) (suc n) i long h = absurd (omega (arith, long))
word_at (a ∷ b ∷ c ∷ []) (suc n) i long h = absurd (omega (arith, long))
word_at (a ∷ b ∷ c ∷ d ∷ l) (suc n) zero long h = refl
word_at (a ∷ b ∷ c ∷ d ∷ l) (suc n) (suc i) long h = word_at l n i (omega (arith, long)) (omega (arith, h))

-- fewer than four bytes at the end are no word
pub words_many : (l : List ℕ) (n : ℕ) → 4 * n ≤ length l → length l < 4 * n + 4 → length (words_of l) ≡ n
unfolding words_of
words_many [] n least most = omega (arith, least)
words_many (a ∷ []) n least most = omega (arith, least)
words_many (a ∷ b ∷ []) n least most = omega (arith, least)
words_many (a ∷ b ∷ c ∷ []) n least most = omega (arith, least)
words_many (a ∷ b ∷ c ∷ d ∷ l) zero least most = absurd (omega (arith, most))
words_many (a ∷ b ∷ c ∷ d ∷ l) (suc n) least most = ap suc (words_many l n (omega (arith, least)) (omega (arith, most)))

-- whole words are as many as a quarter of the bytes
pub words_length : (bytes : List ℕ) (n : ℕ) → length bytes ≡ 4 * n → length (words_of bytes) ≡ n
words_length bytes n e = words_many bytes n (omega (arith, e)) (omega (arith, e))

-- as many words are put as there are and have room
pub words_put : (words out : List ℕ) (n : ℕ) → n ≡ min (length words) (length out) → paste out 0 words n ≡ overlaid words out
words_put words out n e = (λ k. front k ++ rest k)
  where
    front : take n words ≡ take (length out) words
    front = ap (λ (k : ℕ). take k words) (e ∙ min_comm (length words) (length out)) ∙ take_min (length out) words

    rest : drop (0 + n) out ≡ drop (length words) out
    rest = elim (cases_lt (length words) (length out)) [
      | inl h ↦ ap (λ (k : ℕ). drop k out) (omega arith)
      | inr h ↦ drop_of_length-le out (omega arith) ∙ sym (drop_of_length-le out h)
    ]

pub put_on : (words out : List ℕ) (i : ℕ) {now : List ℕ} {v : ℕ} → now ≡ paste out 0 words i → v ≡ get_or words i 0 → i < length words → i < length out → set now i v ≡ paste out 0 words (i + 1)
put_on words out i so is more room = (λ k. set (so k) (sym (zero-add i) k) (is k)) ∙ paste_more out 0 words i 0 (omega arith) more

-- an output of just their length is all theirs
pub overlaid_all : (words out : List ℕ) → length words ≡ length out → overlaid words out ≡ words
overlaid_all words out e =
    let all : take (length out) words ≡ words = take_all (length out) words (omega (arith, e)) in
    let none : drop (length words) out ≡ [] = drop_of_length-le out {i = length words} (omega (arith, e)) in
    (λ k. all k ++ none k) ∙ append-nil words
