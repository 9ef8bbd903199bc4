-- The head, the data one by one, and the end of a list, by what was read. Assumes nothing.
use mathlib.Core.Path.{◌≡◌, refl, sym, ap, ◌∙◌}
use mathlib.Core.List.{List, [], ◌∷◌}
use mathlib.Core.Bool.{Bool, true, false, cond, ◌&&◌, ◌||◌}
use Prim.Native.Nat.{ℕ, suc, ◌+◌, ◌-◌, ◌≤◌, ◌<◌}
use native.Mathlib.Numerals.{add-one}
use native.Mathlib.Omega.{arith}
use lib.ListN.{set}
use lib.IntN.{ℤ}
use lib.Dec.{T, eqb, leb, leb→le}
use lib.Ieee.Fits.{and_l, and_r}
use borrow.Author.Tests.{eqb-true}
use Rattle.std.specs.Prelude.{Result, Ok, Err}
use Rattle.refusal.specs.declared.Refusal.{Refusal}
use Rattle.refusal.specs.declared.Refusal.TheVariants.{WrongWord, SeEnds}
use Rattle.words.specs.declared.Word.{Word}
use Rattle.words.specs.declared.Word.TheVariants.{Head}
use Rattle.words.specs.Words.{word_at}
use Rattle.words.specs.Cases.{if_head}
use Rattle.words.proofs.Cases.{no_head}
use Rattle.ranges.specs.Table.{data_count}
use Rattle.machine_data.specs.declared.MachineData.{MachineData}
use Rattle.datum.specs.Datum.{value_at, behind_of}
use Rattle.list.specs.Rules.{among, heads, is_head, se_below}
use Rattle.list.specs.Reading.{accepted_list, refused_list, place_of, ends, on_value, gather, zeros, read_list}
use Rattle.list.specs.declared.ListRead.{ListRead}

-- ---- the head

behind_head : List ℕ → ℕ → ListRead
behind_head s n = cond (is_head n) (gather n n s 0 1 zeros) (refused_list (WrongWord 0))

pub no_head_word : (s : List ℕ) {x : Word} → x ≡ word_at s 0 → ((n : ℕ) → x ≡ Head n → ⊥) → refused_list (WrongWord 0) ≡ read_list s
unfolding read_list behind_head
no_head_word s {x} e h = no_head x h (behind_head s) (refused_list (WrongWord 0)) ∙ ap (λ (y : Word). if_head y (behind_head s) (refused_list (WrongWord 0))) e

pub by_head : (s : List ℕ) {n : ℕ} → word_at s 0 ≡ Head n → {t : Bool} → is_head n ≡ t → cond t (gather n n s 0 1 zeros) (refused_list (WrongWord 0)) ≡ read_list s
unfolding read_list behind_head
by_head s {n} e h = sym (ap (λ (y : Word). if_head y (behind_head s) (refused_list (WrongWord 0))) e ∙ ap (λ (t : Bool). cond t (gather n n s 0 1 zeros) (refused_list (WrongWord 0))) h)

-- each head is at least that of document 01, and no more than there is room for
abbrev fitting : List ℕ → Bool
fitting [] = true
fitting (m ∷ ms) = leb 51 m && leb m data_count && fitting ms

among_fitting : (ms : List ℕ) (n : ℕ) → T (fitting ms) → T (among n ms) → (51 ≤ n) × (n ≤ data_count)
among_fitting [] n f = λ t. absurd t
among_fitting (m ∷ ms) n f = go (eqb n m) refl (among_fitting ms n (and_r (leb 51 m && leb m data_count) (fitting ms) f))
  where
    ends : T (leb 51 m && leb m data_count)
    ends = and_l (leb 51 m && leb m data_count) (fitting ms) f

    go : (t : Bool) → eqb n m ≡ t → (T (among n ms) → (51 ≤ n) × (n ≤ data_count)) → T (t || among n ms) → (51 ≤ n) × (n ≤ data_count)
    go true q rest t =
        let same : n ≡ m = eqb-true n m q in
        let low : 51 ≤ m = leb→le 51 m (and_l (leb 51 m) (leb m data_count) ends) in
        let high : m ≤ data_count = leb→le m data_count (and_r (leb 51 m) (leb m data_count) ends) in
        (omega (arith, same, low), omega (arith, same, high))
    go false q rest t = rest t

pub head_bounds : (n : ℕ) → T (is_head n) → (51 ≤ n) × (n ≤ data_count)
head_bounds n t = among_fitting heads n tt t

-- ---- the data one by one

pub begun : (s : List ℕ) (count : ℕ) → gather count (count - 0) s 0 1 zeros ≡ gather count count s 0 1 zeros
begun s count = let all : count - 0 ≡ count = omega arith in ap (λ (n : ℕ). gather count n s 0 1 zeros) all

module _ (s : List ℕ) (count k at : ℕ) (vs : List ℤ) {r : ListRead} (inv : gather count (count - k) s k at vs ≡ r) where
  later : ℤ → ℕ → ListRead
  later z next = gather count (count - (k + 1)) s (k + 1) next (set vs k z)

  turned : k < count → {t : Result (ℤ × ℕ) Refusal} → value_at count s k at ≡ t → on_value t later ≡ r
  unfolding gather later
  turned h {t} e =
      let less : count - k ≡ suc (count - (k + 1)) = omega arith in
      sym (ap (λ (x : Result (ℤ × ℕ) Refusal). on_value x later) e) ∙ ap (λ (n : ℕ). gather count n s k at vs) (sym less) ∙ inv

  pub again : k < count → {z : ℤ} {next : ℕ} → value_at count s k at ≡ Ok (z, next) → {y : ℤ} → y ≡ z →
      gather count (count - (k + 1)) s (k + 1) next (set vs k y) ≡ r
  unfolding later
  again h {z} {next} st e = (λ i. gather count (count - (k + 1)) s (k + 1) next (set vs k (e i))) ∙ turned h st

  pub stopped : k < count → {why : Refusal} → value_at count s k at ≡ Err why → refused_list why ≡ r
  stopped h st = turned h st

  pub all_read : k ≤ count → count ≤ k → ends s (record { values = vs; count = count }) at ≡ r
  unfolding gather
  all_read h g =
      let none : count - k ≡ 0 = omega arith in
      let last : count ≡ k = omega arith in
      ap (λ (n : ℕ). ends s (record { values = vs; count = n }) at) last ∙ ap (λ (n : ℕ). gather count n s k at vs) (sym none) ∙ inv

-- ---- the place of a datum

module _ (s : List ℕ) (k : ℕ) where
  pub next_place : {at : ℕ} → at ≡ place_of s k → behind_of s at ≡ place_of s (k + 1)
  unfolding place_of
  next_place e = ap (behind_of s) e ∙ ap (place_of s) (sym (add-one k))

-- ---- the end of a list

pub ended_by : (s : List ℕ) (d : MachineData) (n : ℕ) {t u : Bool} → se_below d.values 11 ≡ t → se_below d.values 13 ≡ u →
    cond t (cond u (accepted_list d n) (refused_list (SeEnds (place_of s 13)))) (refused_list (SeEnds (place_of s 11))) ≡ ends s d n
unfolding ends
ended_by s d n p q = sym (λ i. cond (p i) (cond (q i) (accepted_list d n) (refused_list (SeEnds (place_of s 13)))) (refused_list (SeEnds (place_of s 11))))
