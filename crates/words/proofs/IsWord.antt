-- A word is read as what it is written as, and as nothing else: `word_of` is the table of IsWord, both ways. Assumes nothing.
use mathlib.Core.Path.{◌≡◌, refl, sym, ◌∙◌, subst}
use mathlib.Core.Bool.{Bool, true, false, cond, ◌&&◌}
use mathlib.Core.Logic.{◌⊎◌, inl, inr}
use mathlib.Core.List.{List}
use lib.ListN.{length, get_or}
use Prim.Native.Nat.{ℕ, ◌+◌, ◌*◌, ◌/◌, ◌%◌, ◌<◌}
use native.Mathlib.Nat.{div-add-mod'}
use native.Mathlib.Omega.{arith}
use lib.Dec.{ltb, eqb}
use borrow.Author.Tests.{ltb-true, eqb-true, lt-ltb}
use Rattle.laws.proofs.Bools.{both}
use Rattle.words.specs.declared.Word.{Word}
use Rattle.words.specs.declared.Word.TheVariants.{Datum, Piece, Other}
use Rattle.words.specs.Words.{form_of, datum_word, by_kind, word_of, word_at}
use Rattle.words.specs.IsWord.{kinded, IsWord, head, datum, piece, position, lower, upper, end, remark}

-- ---- what is written is read

kind_of : (k v : ℕ) → v < 268435456 → kinded k v / 268435456 ≡ k
kind_of k v h = omega arith

value_of : (k v : ℕ) → v < 268435456 → kinded k v % 268435456 ≡ v
value_of k v h = omega arith

by_parts : (k v : ℕ) → v < 268435456 → word_of (kinded k v) ≡ by_kind k v
unfolding word_of
by_parts k v h = λ i. by_kind (kind_of k v h i) (value_of k v h i)

datum_parts : (k f : ℕ) → k < 256 → f < 4 → datum_word (k * 65536 + f) ≡ Datum k (form_of f)
unfolding datum_word
datum_parts k f hk hf =
    let number : (k * 65536 + f) / 65536 ≡ k = omega arith in
    let form : (k * 65536 + f) % 65536 ≡ f = omega arith in
    simp (number, form) (simp (lt-ltb k 256 hk, lt-ltb f 4 hf))

pub reads : {w : ℕ} {x : Word} → IsWord w x → word_of w ≡ x
reads (head {n} h) = by_parts 1 n h
reads (datum {k} {f} hk hf) = by_parts 2 (k * 65536 + f) (omega arith) ∙ datum_parts k f hk hf
reads (piece {b} h) = by_parts 3 b (omega arith) ∙ simp (lt-ltb b 65536 h)
reads (position {b} h) = by_parts 4 b h
reads (lower {b} h) = by_parts 5 b (omega arith) ∙ simp (lt-ltb b 65536 h)
reads (upper {b} h) = by_parts 6 b (omega arith) ∙ simp (lt-ltb b 65536 h)
reads (end {b} h) = by_parts 7 b (omega arith) ∙ simp (lt-ltb b 2 h)
reads (remark {v} h) = by_parts 15 v h

-- ---- what is read was written

abbrev Known : ℕ → Word → Type 0
Known w x = (x ≡ Other) ⊎ IsWord w x

if_held : {w : ℕ} {x : Word} (t : Bool) → (t ≡ true → IsWord w x) → Known w (cond t x Other)
if_held true f = inr (f refl)
if_held false f = inl refl

known_kind : (k v : ℕ) → v < 268435456 → Known (kinded k v) (by_kind k v)
unfolding datum_word
known_kind k v small =
    kind 1 (inr (head small))
    (kind 2 (if_held (ltb (v / 65536) 256 && ltb (v % 65536) 4) datum_held)
    (kind 3 (if_held (ltb v 65536) (λ e. piece (ltb-true v 65536 e)))
    (kind 4 (inr (position small))
    (kind 5 (if_held (ltb v 65536) (λ e. lower (ltb-true v 65536 e)))
    (kind 6 (if_held (ltb v 65536) (λ e. upper (ltb-true v 65536 e)))
    (kind 7 (if_held (ltb v 2) (λ e. end (ltb-true v 2 e)))
    (kind 15 (inr (remark small)) (inl refl))))))))
  where
    kind : (n : ℕ) {x y : Word} → Known (kinded n v) x → Known (kinded k v) y → Known (kinded k v) (cond (eqb k n) x y)
    kind n {x} {y} this other = go (eqb k n) refl
      where
        go : (t : Bool) → eqb k n ≡ t → Known (kinded k v) (cond t x y)
        go true e = subst (λ (i : ℕ). Known (kinded i v) x) (sym (eqb-true k n e)) this
        go false e = other

    datum_held : ltb (v / 65536) 256 && ltb (v % 65536) 4 ≡ true → IsWord (kinded 2 v) (Datum (v / 65536) (form_of (v % 65536)))
    datum_held e =
        let t = both (ltb (v / 65536) 256) (ltb (v % 65536) 4) e in
        subst (λ (n : ℕ). IsWord (kinded 2 n) (Datum (v / 65536) (form_of (v % 65536)))) (div-add-mod' v 65536)
        (datum (ltb-true (v / 65536) 256 t.0) (ltb-true (v % 65536) 4 t.1))

pub known : (w : ℕ) → Known w (word_of w)
unfolding word_of
known w = subst (λ (n : ℕ). Known n (by_kind (w / 268435456) (w % 268435456))) (div-add-mod' w 268435456) (known_kind (w / 268435456) (w % 268435456) (omega arith))

-- what is read at a place was written there
pub read_at : (s : List ℕ) (at : ℕ) {x : Word} → word_at s at ≡ x → (x ≡ Other → ⊥) → IsWord (get_or s at 0) x
unfolding word_at
read_at s at {x} = go (ltb at (length s)) (known (get_or s at 0))
  where
    go : (t : Bool) → Known (get_or s at 0) (word_of (get_or s at 0)) → cond t (word_of (get_or s at 0)) Other ≡ x → (x ≡ Other → ⊥) → IsWord (get_or s at 0) x
    go true (inl o) e h = absurd (h (sym e ∙ o))
    go true (inr w) e h = subst (IsWord (get_or s at 0)) e w
    go false k e h = absurd (h (sym e))

pub piece_small : {w b : ℕ} → IsWord w (Piece b) → b < 65536
piece_small (piece h) = h
