-- Texts put into a buffer, one behind the other. Assumes nothing.
use mathlib.Core.Path.{◌≡◌, sym, ap, ◌∙◌}
use mathlib.Core.List.{List, [], ◌∷◌, ◌++◌, append_assoc}
use Prim.Native.Nat.{ℕ, suc, ◌+◌, ◌-◌, ◌≤◌, ◌<◌}
use borrow.Rule.Slice.PartMut.{put_mid}
use native.Mathlib.Omega.{arith}
use lib.ListN.{length, take, drop, set, length-append, length-drop}
use lib.Seq.{take_at, drop_at, length-take-le, set_split, drop-drop}
use borrow.Author.Tests.{le-leb, lt-leb}
use Rattle.numerals.specs.Written.{splice, written}

-- one byte stored is a text of one byte
pub store-splice : (l : List ℕ) (at v : ℕ) → at < length l → set l at v ≡ splice at (v ∷ []) l
store-splice l at v h = set_split l at v h ∙ ap (λ (k : ℕ). take at l ++ v ∷ drop k l) {x = suc at} {y = at + 1} (omega arith)

module _ (at : ℕ) (xs l : List ℕ) (room : at + length xs ≤ length l) where
  front : length (take at l ++ xs) ≡ at + length xs
  front = length-append (take at l) xs ∙ ap (λ (n : ℕ). n + length xs) (length-take-le at l (omega arith))

  split : splice at xs l ≡ (take at l ++ xs) ++ drop (at + length xs) l
  split = sym (append_assoc (take at l) xs (drop (at + length xs) l))

  pub length-splice : length (splice at xs l) ≡ length l
  length-splice = ap length split ∙ length-append (take at l ++ xs) _ ∙ omega (arith, front, length-drop (at + length xs) l)

  pub take-splice : take (at + length xs) (splice at xs l) ≡ take at l ++ xs
  take-splice = ap (take (at + length xs)) split ∙ take_at (take at l ++ xs) _ (at + length xs) front

  pub drop-splice : drop (at + length xs) (splice at xs l) ≡ drop (at + length xs) l
  drop-splice = ap (drop (at + length xs)) split ∙ drop_at (take at l ++ xs) _ (at + length xs) front

  pub written_room : written at xs l ≡ splice at xs l
  unfolding written
  written_room = simp (le-leb (at + length xs) (length l) room)

pub written_none : (at : ℕ) (xs l : List ℕ) → length l < at + length xs → written at xs l ≡ l
unfolding written
written_none at xs l h = simp (lt-leb (at + length xs) (length l) h)

-- a part of a buffer, and a text written over it
pub part_size : {A : Type 0} (at many : ℕ) (out : List A) → at + many ≤ length out → length (take (at + many - at) (drop at out)) ≡ many
part_size at many out room = length-take-le (at + many - at) (drop at out) (omega (arith, length-drop at out)) ∙ omega arith

pub part_put : (at many : ℕ) (text out : List ℕ) {part : List ℕ} → part ≡ text → length text ≡ many → put_mid at (at + many - at) out part ≡ splice at text out
part_put at many text out {part} is size =
    let far : at + (at + many - at) ≡ at + length text = omega (arith, size) in
    (λ k. take at out ++ (is k ++ drop-drop (at + many - at) at out k)) ∙ ap (λ (n : ℕ). take at out ++ (text ++ drop n out)) far

-- a text right behind another is one text
pub splice_behind : (at : ℕ) (xs ys l : List ℕ) → at + length (xs ++ ys) ≤ length l → splice (at + length xs) ys (splice at xs l) ≡ splice at (xs ++ ys) l
splice_behind at xs ys l room =
    let size : length (xs ++ ys) ≡ length xs + length ys = length-append xs ys in
    let fits : at + length xs ≤ length l = omega (arith, size) in
    let rest : drop (at + length xs + length ys) (splice at xs l) ≡ drop (at + length (xs ++ ys)) l
    = sym (drop-drop (length ys) (at + length xs) (splice at xs l)) ∙ ap (drop (length ys)) (drop-splice at xs l fits) ∙ drop-drop (length ys) (at + length xs) l ∙ ap (λ (n : ℕ). drop n l) {x = at + length xs + length ys} {y = at + length (xs ++ ys)} (omega (arith, size)) in
    (λ i. take-splice at xs l fits i ++ (ys ++ rest i))
    ∙ append_assoc (take at l) xs (ys ++ drop (at + length (xs ++ ys)) l)
    ∙ ap (λ (r : List ℕ). take at l ++ r) (sym (append_assoc xs ys (drop (at + length (xs ++ ys)) l)))
