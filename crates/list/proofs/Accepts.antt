-- "Accepted if it meets the table, and otherwise not": a list is accepted, with its data and its words, if and only if IsList says so.
-- Assumes nothing.
use mathlib.Core.Path.{◌≡◌, refl, sym, ap, ◌∙◌, subst}
use mathlib.Core.Logic.{◌↔◌}
use mathlib.Core.List.{List, [], ◌∷◌, ◌++◌, append_assoc}
use mathlib.Core.Bool.{Bool, true, false, cond}
use Prim.Native.Nat.{ℕ, zero, suc, ◌+◌, ◌-◌, ◌≤◌, ◌<◌}
use native.Mathlib.Numerals.{add-one}
use native.Mathlib.Omega.{arith}
use lib.ListN.{length, get_or, take, drop, set, replicate, length-set, length-append, length-replicate, take-append-drop, get_or-append}
use lib.Seq.{take_at, length-take-le, drop-set-lt, get_or-append-add}
use lib.IntN.{ℤ, pos}
use lib.Dec.{T}
use lib.Ieee.Bits.{is_true}
use Rattle.std.specs.Prelude.{Result, Ok, Err}
use Rattle.laws.proofs.Never.{never}
use Rattle.laws.proofs.Bools.{if_case}
use Rattle.refusal.specs.declared.Refusal.{Refusal}
use Rattle.refusal.specs.declared.Refusal.TheVariants.{WrongWord, SeEnds}
use Rattle.words.specs.declared.Word.{Word}
use Rattle.words.specs.declared.Word.TheVariants as W
use Rattle.words.specs.Words.{word_at}
use Rattle.words.proofs.IsWord.{read_at}
use Rattle.words.proofs.Front.{front_reads, front_is}
use Rattle.words.proofs.Cases.{is_head_lem, case_head, Case, met, missed, there}
use Rattle.ranges.specs.Table.{data_count, allowed}
use Rattle.machine_data.specs.Data.{InRanges}
use Rattle.machine_data.specs.declared.MachineData.{MachineData}
use Rattle.datum.specs.Datum.{value_at}
use Rattle.datum.proofs.Written.{Wrote, read_written}
use Rattle.list.specs.Rules.{is_head, se_below}
use Rattle.list.specs.declared.ListRead.{ListRead}
use Rattle.list.specs.Reading.{accepted_list, refused_list, place_of, ends, on_value, gather, zeros, read_list}
use Rattle.list.specs.IsList.{DataTo, end, datum, filled, IsList, list}
use Rattle.list.proofs.Steps.{by_head, ended_by}
use Rattle.list.proofs.Passed.{below_count, one_more, how_many, behind_zeros, all_passed}

-- ---- what is written is accepted

pub accepts : {d : MachineData} {ws : List ℕ} → IsList d ws → (rest : List ℕ) → read_list (ws ++ rest) ≡ accepted_list d (length ws)
accepts {d} (list {w} {vs} {ws} h size x values below1 below2) rest =
    let s = w ∷ (ws ++ rest) in
    let far : 1 + length ws ≡ suc (length ws) = omega arith in
    sym (by_head s (front_reads s 0 w (ws ++ rest) refl h) (is_true (is_head d.count) size))
    ∙ all_passed x s rest refl
    ∙ ap (λ (l : List ℤ). ends s (record { values = l; count = d.count }) (1 + length ws)) (sym values)
    ∙ sym (ended_by s d (1 + length ws) (is_true (se_below d.values 11) below1) (is_true (se_below d.values 13) below2))
    ∙ ap (accepted_list d) far

-- ---- what is accepted was written

-- m data in all, those before k in acc
pub record Gathered (m : ℕ) (s : List ℕ) (k at : ℕ) (acc : List ℤ) (d : MachineData) (n : ℕ) : Type 0 where
  pub later : List ℤ
  pub words : List ℕ
  pub from : DataTo m m k later words
  pub values : d.values ≡ take k acc ++ (later ++ drop m acc)
  pub count : d.count ≡ m
  pub here : drop at s ≡ words ++ drop n s
  pub far : n ≡ at + length words
  pub below1 : T (se_below d.values 11)
  pub below2 : T (se_below d.values 13)

answer : {a b : ListRead} → a ≡ b → a.answer ≡ b.answer
answer e = ap (λ (r : ListRead). r.answer) e

from_gather : (m i : ℕ) (s : List ℕ) (k at : ℕ) (acc : List ℤ) (d : MachineData) (n : ℕ) → i + k ≡ m → length acc ≡ data_count →
    gather m i s k at acc ≡ accepted_list d n → Gathered m s k at acc d n
unfolding gather ends
from_gather m zero s k at acc d n c l = go (se_below acc 11) refl (se_below acc 13) refl
  where
    go : (a : Bool) → se_below acc 11 ≡ a → (b : Bool) → se_below acc 13 ≡ b →
        cond a (cond b (accepted_list (record { values = acc; count = k }) at) (refused_list (SeEnds (place_of s 13)))) (refused_list (SeEnds (place_of s 11))) ≡ accepted_list d n → Gathered m s k at acc d n
    go false p b q e = never (cc (answer e))
    go true p false q e = never (cc (answer e))
    go true p true q e =
        let same : acc ≡ d.values = ap (λ (r : ListRead). r.list.values) e in
        let size : k ≡ d.count = ap (λ (r : ListRead). r.list.count) e in
        let place : at ≡ n = cc (answer e) in
        let last : m ≡ k = omega (arith, c) in
        record {
          later = [];
          words = [];
          from = subst (λ (j : ℕ). DataTo m m j [] []) last end;
          values = sym same ∙ sym (ap (λ (j : ℕ). take k acc ++ drop j acc) last ∙ take-append-drop k acc);
          count = omega (arith, size, last);
          here = ap (λ (j : ℕ). drop j s) place;
          far = omega arith;
          below1 = subst (λ (l : List ℤ). T (se_below l 11)) same (subst T (sym p) tt);
          below2 = subst (λ (l : List ℤ). T (se_below l 13)) same (subst T (sym q) tt);
        }
from_gather m (suc i) s k at acc d n c l =
    go (value_at m s k at) (read_written m s k at) (λ z next. from_gather m i s (k + 1) next (set acc k z) d n (omega (arith, c)) (length-set acc k z ∙ l))
  where
    go : (t : Result (ℤ × ℕ) Refusal) → ((z : ℤ) (next : ℕ) → t ≡ Ok (z, next) → Wrote s k at z next × T (allowed m k z))
        → ((z : ℤ) (next : ℕ) → gather m i s (k + 1) next (set acc k z) ≡ accepted_list d n → Gathered m s (k + 1) next (set acc k z) d n)
        → on_value t (λ z next. gather m i s (k + 1) next (set acc k z)) ≡ accepted_list d n → Gathered m s k at acc d n
    go (Ok (z, next)) wrote rest e =
        let both = wrote z next refl in
        let w = both.0 in
        let r = rest z next e in
        let room : k < length acc = omega (arith, l, below_count m k z both.1) in
        record {
          later = z ∷ r.later;
          words = w.words ++ r.words;
          from = datum w.written both.1 (subst (λ (j : ℕ). DataTo m m j r.later r.words) (add-one k) r.from);
          values = r.values ∙ one_more acc k z (r.later ++ drop m (set acc k z)) room ∙ ap (λ (l : List ℤ). take k acc ++ (z ∷ (r.later ++ l))) (drop-set-lt m acc k z (omega (arith, c)));
          count = r.count;
          here = w.here ∙ ap (λ (t : List ℕ). w.words ++ t) r.here ∙ sym (append_assoc w.words r.words (drop n s));
          far = omega (arith, w.far, r.far, length-append w.words r.words);
          below1 = r.below1;
          below2 = r.below2;
        }
    go (Err why) wrote rest e = never (cc (answer e))

pub accepted : (s : List ℕ) (d : MachineData) (n : ℕ) → (read_list s ≡ accepted_list d n) ↔ ((n ≤ length s) × IsList d (take n s))
unfolding read_list
accepted s d n = (back, forth)
  where
    written : {m : ℕ} → word_at s 0 ≡ W.Head m → T (is_head m) → Gathered m s 0 1 zeros d n → (n ≤ length s) × IsList d (take n s)
    written {m} word size g =
        let first : 0 < length s = there s 0 (λ y. never (cc)) in
        let split : s ≡ (get_or s 0 0 ∷ g.words) ++ drop n s = front_is s 0 first ∙ ap (λ (t : List ℕ). get_or s 0 0 ∷ t) g.here in
        let many : suc (length g.words) ≡ n = omega (arith, g.far) in
        let front : take n s ≡ get_or s 0 0 ∷ g.words = ap (take n) split ∙ take_at (get_or s 0 0 ∷ g.words) (drop n s) n many in
        let bound : n ≤ length s = omega (arith, many, ap length split, length-append (get_or s 0 0 ∷ g.words) (drop n s)) in
        let head : word_at s 0 ≡ W.Head d.count = word ∙ ap W.Head (sym g.count) in (
          bound,
          subst (IsList d) (sym front)
              (list (read_at s 0 head (λ y. never (cc))) (subst (λ (i : ℕ). T (is_head i)) (sym g.count) size)
              (subst (λ (j : ℕ). DataTo j j 0 g.later g.words) (sym g.count) g.from)
              (g.values ∙ ap (λ (l : List ℤ). g.later ++ l) (behind_zeros m) ∙ ap (λ (j : ℕ). filled j g.later) (sym g.count))
              g.below1 g.below2),
        )

    back : read_list s ≡ accepted_list d n → (n ≤ length s) × IsList d (take n s)
    back e = let h = is_head_lem (word_at s 0) _ (refused_list (WrongWord 0)) (accepted_list d n) e (λ y. never (cc (answer y))) in go h.0 (is_head h.0) refl h.1 h.2
      where
        go : (m : ℕ) (t : Bool) → is_head m ≡ t → word_at s 0 ≡ W.Head m → cond t (gather m m s 0 1 zeros) (refused_list (WrongWord 0)) ≡ accepted_list d n → (n ≤ length s) × IsList d (take n s)
        go m true q word g =
            written word (subst T (sym q) tt) (from_gather m m s 0 1 zeros d n (omega arith) (length-replicate data_count (pos 0)) g)
        go m false q word g = never (cc (answer g))

    forth : (n ≤ length s) × IsList d (take n s) → read_list s ≡ accepted_list d n
    forth p =
        ap read_list (sym (take-append-drop n s)) ∙ accepts p.1 (drop n s) ∙ ap (accepted_list d) (length-take-le n s p.0)

-- ---- what the layers above start from

-- a list is accepted with its data, or refused with none
pub data Outcome : ListRead → Type 0 where
  as_accepted : (d : MachineData) (n : ℕ) → Outcome (accepted_list d n)
  as_refused : (why : Refusal) → Outcome (refused_list why)

gather_outcome : (head i : ℕ) (s : List ℕ) (k at : ℕ) (acc : List ℤ) → Outcome (gather head i s k at acc)
unfolding gather ends
gather_outcome head zero s k at acc = go (se_below acc 11) (se_below acc 13)
  where
    go : (a b : Bool) → Outcome (cond a (cond b (accepted_list (record { values = acc; count = k }) at) (refused_list (SeEnds (place_of s 13)))) (refused_list (SeEnds (place_of s 11))))
    go false b = as_refused (SeEnds (place_of s 11))
    go true false = as_refused (SeEnds (place_of s 13))
    go true true = as_accepted (record { values = acc; count = k }) at
gather_outcome head (suc i) s k at acc = go (value_at head s k at) (λ z next. gather_outcome head i s (k + 1) next (set acc k z))
  where
    go : (t : Result (ℤ × ℕ) Refusal) {f : ℤ → ℕ → ListRead} → ((z : ℤ) (next : ℕ) → Outcome (f z next)) → Outcome (on_value t f)
    go (Ok (z, next)) h = h z next
    go (Err why) h = as_refused why

pub outcome : (s : List ℕ) → Outcome (read_list s)
unfolding read_list
outcome s = go (case_head (word_at s 0) _ (refused_list (WrongWord 0)))
  where
    go : {is : Word → Bool} {r : ListRead} → Case is W.Head (word_at s 0) (λ n. cond (is_head n) (gather n n s 0 1 zeros) (refused_list (WrongWord 0))) (refused_list (WrongWord 0)) r → Outcome r
    go (met n e) = if_case Outcome (is_head n) (gather n n s 0 1 zeros) (refused_list (WrongWord 0)) (λ t. gather_outcome n n s 0 1 zeros) (λ t. as_refused (WrongWord 0))
    go (missed q) = as_refused (WrongWord 0)

-- an answer that accepts is the whole of an acceptance
pub whole_answer : (s : List ℕ) (n : ℕ) → (read_list s).answer ≡ Ok n → read_list s ≡ accepted_list (read_list s).list n
whole_answer s n = go (outcome s)
  where
    go : {r : ListRead} → Outcome r → r.answer ≡ Ok n → r ≡ accepted_list r.list n
    go (as_accepted d i) e = ap (accepted_list d) {x = i} {y = n} (cc)
    go (as_refused why) e = never (cc)

-- and one that refuses the whole of a refusal
pub whole_refusal : (s : List ℕ) (why : Refusal) → (read_list s).answer ≡ Err why → read_list s ≡ refused_list why
whole_refusal s why = go (outcome s)
  where
    go : {r : ListRead} → Outcome r → r.answer ≡ Err why → r ≡ refused_list why
    go (as_accepted d i) e = never (cc)
    go (as_refused x) e = ap refused_list {x = x} {y = why} (cc)

-- an accepted list has at most the words given
pub used_words : (s : List ℕ) (n : ℕ) → (read_list s).answer ≡ Ok n → n ≤ length s
used_words s n e = ((accepted s (read_list s).list n).0 (whole_answer s n e)).0

-- each datum of an accepted list lies in its range
pub in_ranges : (s : List ℕ) (n : ℕ) → (read_list s).answer ≡ Ok n → InRanges (read_list s).list
in_ranges s n e k h = of_list ((accepted s (read_list s).list n).0 (whole_answer s n e)).1 h
  where
    of_data : {head m i : ℕ} {vs : List ℤ} {ws : List ℕ} → DataTo head m i vs ws → (j : ℕ) → j + i < m → T (allowed head (j + i) (get_or vs j (pos 0)))
    of_data {m = m} end j l = absurd (omega (arith, l))
    of_data {head} (datum {k = i} {z} w r x) zero l = let same : i ≡ 0 + i = omega arith in subst (λ (n : ℕ). T (allowed head n z)) same r
    of_data {head} (datum {k = i} {vs = vs} w r x) (suc j) l =
        let same : j + suc i ≡ suc j + i = omega arith in
        subst (λ (n : ℕ). T (allowed head n (get_or vs j (pos 0)))) same (of_data x j (omega (arith, l)))

    of_list : {d : MachineData} {ws : List ℕ} → IsList d ws → k < d.count → T (allowed d.count k (get_or d.values k (pos 0)))
    of_list {d} (list {vs = vs} w size x values a b) h =
        let same : k + 0 ≡ k = omega arith in
        let at : get_or vs k (pos 0) ≡ get_or d.values k (pos 0) =
        sym (get_or-append vs (replicate (data_count - d.count) (pos 0)) (pos 0) k (omega (arith, h, how_many x))) ∙ ap (λ (l : List ℤ). get_or l k (pos 0)) (sym values) in
        subst (λ (z : ℤ). T (allowed d.count k z)) at (subst (λ (n : ℕ). T (allowed d.count n (get_or vs k (pos 0)))) same (of_data x k (omega (arith, h))))

-- and each that it lacks stands as 0
pub lacking : {d : MachineData} {ws : List ℕ} → IsList d ws → (k : ℕ) → d.count ≤ k → get_or d.values k (pos 0) ≡ pos 0
lacking {d} (list {vs = vs} w size x values a b) k h =
    let many : length vs ≡ d.count = omega (arith, how_many x) in
    let at : k ≡ length vs + (k - d.count) = omega (arith, many, h) in
    ap (λ (l : List ℤ). get_or l k (pos 0)) values
    ∙ ap (λ (i : ℕ). get_or (filled d.count vs) i (pos 0)) at
    ∙ get_or-append-add vs (replicate (data_count - d.count) (pos 0)) (k - d.count) (pos 0)
    ∙ zeros_at (data_count - d.count) (k - d.count)
  where
    zeros_at : (m i : ℕ) → get_or (replicate m (pos 0)) i (pos 0) ≡ pos 0
    zeros_at zero i = refl
    zeros_at (suc m) zero = refl
    zeros_at (suc m) (suc i) = zeros_at m i
