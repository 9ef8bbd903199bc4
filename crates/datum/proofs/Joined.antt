-- Pieces joined: one more, the first that is none, and how large what is joined can be. Assumes nothing.
use mathlib.Core.Path.{◌≡◌, refl, sym, ap, ◌∙◌, subst}
use mathlib.Core.List.{List}
use Prim.Native.Nat.{ℕ, zero, suc, ◌+◌, ◌-◌, ◌*◌, ◌^◌, ◌≤◌, ◌<◌, max}
use native.Mathlib.Nat.{le_trans, le_of_eq, lt_of_lt_of_le, mul_assoc, mul-le-mul_right}
use native.Mathlib.Omega.{arith}
use lib.ListN.{length}
use lib.Pow.{pow-add, pow_mono}
use Rattle.std.specs.Prelude.{Ok, Err}
use Rattle.laws.proofs.Never.{never}
use Rattle.words.specs.declared.Word.{Word}
use Rattle.words.specs.declared.Word.TheVariants.{Piece}
use Rattle.words.specs.Words.{word_at}
use Rattle.words.specs.Cases.{if_piece}
use Rattle.words.proofs.Cases.{no_piece, is_piece, there}
use Rattle.words.proofs.IsWord.{read_at, piece_small}
use Rattle.datum.specs.Datum.{pieces_at}

pub piece_there : (s : List ℕ) (at : ℕ) {b : ℕ} → word_at s at ≡ Piece b → at < length s
piece_there s at h = there s at (λ e. never (cc))

module _ (s : List ℕ) (at bits : ℕ) where
  pub bad_here : (n : ℕ) {x : Word} → 0 < n → x ≡ word_at s at → ((b : ℕ) → x ≡ Piece b → ⊥) → Err at ≡ pieces_at s at n bits
  unfolding pieces_at
  bad_here zero {x = x} p e h = elim p [ ]
  bad_here (suc n) {x} p e h =
      no_piece x h (λ b. pieces_at s (at + 1) n (bits * 65536 + b)) (Err at)
      ∙ ap (λ (y : Word). if_piece y (λ b. pieces_at s (at + 1) n (bits * 65536 + b)) (Err at)) e

-- the piece behind i others
pub one_more : (s : List ℕ) (at i n bits : ℕ) {b : ℕ} → i < n → word_at s (at + i) ≡ Piece b →
    pieces_at s (at + (i + 1)) (n - (i + 1)) (bits * 65536 + b) ≡ pieces_at s (at + i) (n - i) bits
unfolding pieces_at
one_more s at i n bits {b} p h =
    let less : n - i ≡ suc (n - (i + 1)) = omega arith in
    let next : at + (i + 1) ≡ at + i + 1 = omega arith in
    ap (λ (j : ℕ). pieces_at s j (n - (i + 1)) (bits * 65536 + b)) next
    ∙ ap (λ (x : Word). if_piece x (λ b. pieces_at s (at + i + 1) (n - (i + 1)) (bits * 65536 + b)) (Err (at + i))) (sym h)
    ∙ ap (λ (m : ℕ). pieces_at s (at + i) m bits) (sym less)

pub none_left : (s : List ℕ) (at n bits : ℕ) → n ≤ 0 → Ok bits ≡ pieces_at s at n bits
unfolding pieces_at
none_left s at zero bits h = refl
none_left s at (suc n) bits h = absurd (omega arith)

-- k pieces are below 2 ^ 16k
pub small : (k bits : ℕ) → k ≤ 3 → bits < 2 ^ (16 * k) → bits < 281474976710656
small k bits h l = lt_of_lt_of_le l (pow_mono {i = 16 * k} {j = 48} (omega arith))

pub grown : (k j bits b : ℕ) → j ≡ suc k → bits < 2 ^ (16 * k) → b < 65536 → bits * 65536 + b < 2 ^ (16 * j)
grown k j bits b e h g =
    let more : 16 * j ≡ 16 * k + 16 = omega arith in
    subst (λ (m : ℕ). bits * 65536 + b < m) (sym (ap (λ (i : ℕ). 2 ^ i) more ∙ pow-add 2 (16 * k) 16)) (go (2 ^ (16 * k)) h)
  where
    go : (m : ℕ) → bits < m → bits * 65536 + b < m * 65536
    go m l = omega arith

-- ---- what was joined: its first piece, its size, and that it lies within the words

pub first_piece : (s : List ℕ) (at n bits b : ℕ) → pieces_at s at (suc n) bits ≡ Ok b →
    (p : ℕ) × (word_at s at ≡ Piece p) × (pieces_at s (at + 1) n (bits * 65536 + p) ≡ Ok b)
unfolding pieces_at
first_piece s at n bits b e =
    is_piece (word_at s at) (λ p. pieces_at s (at + 1) n (bits * 65536 + p)) (Err at) (Ok b) e
    (λ h. never (cc))

pub within : (s : List ℕ) (at n bits b : ℕ) → pieces_at s at n bits ≡ Ok b → at + n ≤ max at (length s)
within s at zero bits b e = omega arith
within s at (suc n) bits b e =
    let p = first_piece s at n bits b e in
    let h = piece_there s at p.1 in
    let g = within s (at + 1) n (bits * 65536 + p.0) b p.2 in
    omega arith

pub joined_small : (s : List ℕ) (at n bits b : ℕ) → pieces_at s at n bits ≡ Ok b → b < suc bits * 2 ^ (16 * n)
unfolding pieces_at
joined_small s at zero bits b e = let q : bits ≡ b = cc in omega arith
joined_small s at (suc n) bits b e =
    let p = first_piece s at n bits b e in
    let h : p.0 < 65536 = piece_small (read_at s at p.1 (λ x. never (cc))) in
    lt_of_lt_of_le (joined_small s (at + 1) n (bits * 65536 + p.0) b p.2) (up p.0 h)
  where
    up : (p : ℕ) → p < 65536 → suc (bits * 65536 + p) * 2 ^ (16 * n) ≤ suc bits * 2 ^ (16 * suc n)
    up p h =
        let more : 16 * suc n ≡ 16 + 16 * n = omega arith in
        le_trans (mul-le-mul_right (2 ^ (16 * n)) (omega arith))
        (le_of_eq (mul_assoc (suc bits) 65536 (2 ^ (16 * n)) ∙ ap (λ (m : ℕ). suc bits * m) (sym (ap (λ (i : ℕ). 2 ^ i) more ∙ pow-add 2 16 (16 * n)))))
