-- A list is refused with its row of the table and its place if and only if IsFault says so. Assumes nothing.
use mathlib.Core.Path.{◌≡◌, refl, sym, ap, ◌∙◌, subst}
use mathlib.Core.Logic.{◌↔◌}
use mathlib.Core.List.{List, [], ◌∷◌, ◌++◌, append_assoc, append-nil}
use mathlib.Core.Bool.{Bool, true, false, cond}
use Prim.Native.Nat.{ℕ, zero, suc, ◌+◌, ◌-◌, ◌≤◌, ◌<◌}
use native.Mathlib.Numerals.{add-one}
use native.Mathlib.Omega.{arith}
use lib.ListN.{length, get_or, drop, set, length-append, length-replicate, get_or-append}
use lib.Seq.{get_or-append-add}
use lib.IntN.{ℤ, pos}
use lib.Signed.{lt_z}
use lib.Dec.{T, eqb}
use lib.Ieee.Bits.{is_true}
use borrow.Author.Tests.{eqb-true, eqb-false}
use Rattle.std.specs.Prelude.{Result, Ok, Err}
use Rattle.laws.proofs.Never.{never}
use Rattle.laws.proofs.Bools.{is_false}
use Rattle.refusal.specs.declared.Refusal.{Refusal}
use Rattle.refusal.specs.declared.Refusal.TheVariants.{WrongWord, SeEnds}
use Rattle.words.specs.declared.Word.TheVariants as W
use Rattle.words.specs.Words.{word_at}
use Rattle.words.specs.IsWord.{IsWord}
use Rattle.words.specs.Breaks.{a_head, fits}
use Rattle.words.proofs.IsWord.{read_at}
use Rattle.words.proofs.Breaks.{stands, lacks, lacked, held_head, other_head}
use Rattle.words.proofs.Front.{front_reads}
use Rattle.ranges.specs.Table.{data_count, allowed}
use Rattle.machine_data.specs.declared.MachineData.{MachineData}
use Rattle.datum.specs.Datum.{value_at}
use Rattle.datum.proofs.Written.{Wrote, read_written}
use Rattle.list.specs.declared.ListRead.{ListRead}
use Rattle.list.specs.Rules.{is_head, se_below}
use Rattle.list.specs.Reading.{accepted_list, refused_list, place_of, ends, on_value, gather, zeros, read_list}
use Rattle.list.specs.IsList.{DataTo, end, datum, filled}
use Rattle.list.proofs.Steps.{ended_by, by_head, head_bounds}
use Rattle.list.proofs.Passed.{behind, how_many, passed, all_passed, place_behind}
use Rattle.refusals.specs.IsFault.{IsFault, no_head, se1, se2}
use Rattle.refusals.specs.IsFault as F
use Rattle.refusals.proofs.Data.{Faulty, value_fault, fault_value}

-- ---- data before a number and from it on

joined : {head j k l : ℕ} {vs vs' : List ℤ} {ws ws' : List ℕ} → DataTo head j k vs ws → DataTo head l j vs' ws' → (w : List ℕ) × (w ≡ ws ++ ws') × DataTo head l k (vs ++ vs') w
joined {ws' = ws'} end y = (ws', refl, y)
joined {ws' = ws'} (datum {w = w} {ws} g r x) y =
    let t = joined x y in
    (w ++ t.0, ap (λ (l : List ℕ). w ++ l) t.1 ∙ sym (append_assoc w ws ws'), datum g r t.2)

record Parts (head j l k : ℕ) (vs : List ℤ) (ws : List ℕ) : Type 0 where
  pub early : List ℤ
  pub late : List ℤ
  pub before : List ℕ
  pub from : List ℕ
  pub first : DataTo head j k early before
  pub second : DataTo head l j late from
  pub values : vs ≡ early ++ late
  pub words : ws ≡ before ++ from

split : (j : ℕ) {head l k : ℕ} {vs : List ℤ} {ws : List ℕ} → DataTo head l k vs ws → k ≤ j → j < l → Parts head j l k vs ws
split j end h g = absurd (omega (arith, h, g))
split j {head} {l} (datum {k} {z} {vs} {w} {ws} h r x) low high = go (eqb k j) refl (λ a b. split j x a b)
  where
    go : (t : Bool) → eqb k j ≡ t → (suc k ≤ j → j < l → Parts head j l (suc k) vs ws) → Parts head j l k (z ∷ vs) (w ++ ws)
    go true q rest = subst (λ (i : ℕ). Parts head i l k (z ∷ vs) (w ++ ws)) (eqb-true k j q) (record { early = []; late = z ∷ vs; before = []; from = w ++ ws; first = end; second = datum h r x; values = refl; words = refl })
    go false q rest =
        let t = rest (omega (arith, low, eqb-false k j q)) high in
        record {
          early = z ∷ t.early;
          late = t.late;
          before = w ++ t.before;
          from = t.from;
          first = datum h r t.first;
          second = t.second;
          values = ap (λ (l : List ℤ). z ∷ l) t.values;
          words = ap (λ (l : List ℕ). w ++ l) t.words ∙ sym (append_assoc w t.before t.from);
        }

-- SE's minus and plus behind p values, as they stand among all
module _ (vs : List ℤ) (minus plus : ℤ) (later : List ℤ) (p : ℕ) (many : length vs ≡ p) where
  behind_seam : (i j : ℕ) → j ≡ p + i → get_or (vs ++ (minus ∷ plus ∷ later)) j (pos 0) ≡ get_or (minus ∷ plus ∷ later) i (pos 0)
  behind_seam i j e =
      let at : j ≡ length vs + i = omega (arith, many, e) in
      ap (λ (n : ℕ). get_or (vs ++ (minus ∷ plus ∷ later)) n (pos 0)) at ∙ get_or-append-add vs (minus ∷ plus ∷ later) i (pos 0)

  below_at_seam : se_below (vs ++ (minus ∷ plus ∷ later)) p ≡ lt_z minus plus
  below_at_seam = λ i. lt_z (behind_seam 0 p (omega arith) i) (behind_seam 1 (suc p) (omega arith) i)

-- an SE whose two ends stand in the first part
below_before_seam : (vs more : List ℤ) (k : ℕ) → suc k < length vs → se_below (vs ++ more) k ≡ se_below vs k
below_before_seam vs more k low = λ i. lt_z (get_or-append vs more (pos 0) k (omega (arith, low)) i) (get_or-append vs more (pos 0) (suc k) low i)

-- and both at once, with the places of what the list lacks behind them
below_filled : (n : ℕ) (vs : List ℤ) (minus plus : ℤ) (later : List ℤ) (p : ℕ) → length vs ≡ p → se_below (filled n (vs ++ (minus ∷ plus ∷ later))) p ≡ lt_z minus plus
below_filled n vs minus plus later p many =
    let all = vs ++ (minus ∷ plus ∷ later) in
    below_before_seam all _ p (omega (arith, many, length-append vs (minus ∷ plus ∷ later))) ∙ below_at_seam vs minus plus later p many

-- ---- what is faulty is refused

-- the data behind a head
by_data : {w n : ℕ} (ws : List ℕ) → IsWord w (W.Head n) → T (is_head n) → read_list (w ∷ ws) ≡ gather n n (w ∷ ws) 0 1 zeros
by_data {w} {n} ws h size = sym (by_head (w ∷ ws) (front_reads (w ∷ ws) 0 w ws refl h) (is_true (is_head n) size))

-- all of them in two parts
module _ {w n p : ℕ} {vs late : List ℤ} {before from : List ℕ} (rest : List ℕ) (h : IsWord w (W.Head n)) (size : T (is_head n)) (x : DataTo n p 0 vs before) (y : DataTo n n p late from) where
  abbrev all_words : List ℕ
  all_words = w ∷ (before ++ (from ++ rest))

  to_ends : (m : ℕ) × (read_list all_words ≡ ends all_words (record { values = filled n (vs ++ late); count = n }) m)
  to_ends =
      let t = joined x y in
      let e : before ++ (from ++ rest) ≡ t.0 ++ rest = sym (append_assoc before from rest) ∙ ap (λ (l : List ℕ). l ++ rest) (sym t.1) in
      (1 + length t.0, by_data (before ++ (from ++ rest)) h size ∙ all_passed t.2 all_words rest e)

  at_minus : refused_list (SeEnds (place_of all_words p)) ≡ refused_list (SeEnds (suc (length before)))
  at_minus = let place : place_of all_words p ≡ suc (length before) = omega (arith, place_behind x all_words (from ++ rest) refl) in ap (λ (i : ℕ). refused_list (SeEnds i)) place

pub refuses : {s : List ℕ} {why : Refusal} → IsFault s why → read_list s ≡ refused_list why
unfolding read_list gather
refuses {s} (no_head none) = other_head is_head (word_at s 0) (λ n. gather n n s 0 1 zeros) (refused_list (WrongWord 0)) (lacked (a_head is_head) s 0 none)
refuses (F.datum {w} {n} {k} {m} {cause} {vs} {before} {ws} h size low x f) =
    let s = w ∷ (before ++ ws) in
    let y = passed (suc (n - suc k)) x s 1 ws refl zeros (length-replicate data_count (pos 0)) in
    let many : n ≡ length vs + suc (n - suc k) = omega (arith, how_many x, low) in
    let place : 1 + length before + m ≡ suc (length before + m) = omega arith in
    by_data (before ++ ws) h size
    ∙ ap (λ (i : ℕ). gather n i s 0 1 zeros) many
    ∙ y.3
    ∙ ap (λ (t : Result (ℤ × ℕ) Refusal). on_value t (λ z next. gather n (n - suc k) s (k + 1) next (set y.0 k z))) (fault_value f s (1 + length before) (behind s 1 before ws refl))
    ∙ ap (λ (i : ℕ). refused_list (cause i)) place
refuses (se1 {w} {n} {minus} {plus} {vs} {later} {before} {behind = from} rest h size x y wrong) =
    let t = to_ends rest h size x y in
    let d : MachineData = record { values = filled n (vs ++ (minus ∷ plus ∷ later)); count = n } in
    let many : length vs ≡ 11 = omega (arith, how_many x) in
    t.1
    ∙ sym (ended_by (w ∷ (before ++ (from ++ rest))) d t.0 (below_filled n vs minus plus later 11 many ∙ is_false (lt_z minus plus) wrong) refl)
    ∙ at_minus rest h size x y
refuses (se2 {w} {n} {minus} {plus} {vs} {later} {before} {behind = from} rest h size x y right wrong) =
    let t = to_ends rest h size x y in
    let all = vs ++ (minus ∷ plus ∷ later) in
    let d : MachineData = record { values = filled n all; count = n } in
    let many : length vs ≡ 13 = omega (arith, how_many x) in
    let fine : se_below (filled n all) 11 ≡ true =
    below_before_seam all _ 11 (omega (arith, many, length-append vs (minus ∷ plus ∷ later)))
    ∙ below_before_seam vs (minus ∷ plus ∷ later) 11 (omega (arith, many)) ∙ is_true (se_below vs 11) right in
    t.1
    ∙ sym (ended_by (w ∷ (before ++ (from ++ rest))) d t.0 fine (below_filled n vs minus plus later 13 many ∙ is_false (lt_z minus plus) wrong))
    ∙ at_minus rest h size x y

-- ---- what is refused is faulty

put : {s s' : List ℕ} {x y : Refusal} → s ≡ s' → x ≡ y → IsFault s x → IsFault s' y
put a b f = subst (λ (i : List ℕ × Refusal). IsFault i.0 i.1) (λ i. (a i, b i)) f

answer : {x y : Refusal} → refused_list x ≡ refused_list y → x ≡ y
answer {x} {y} e = let same : Err x ≡ Err y = ap (λ (r : ListRead). r.answer) e in cc

module _ (s : List ℕ) (n : ℕ) (head : IsWord (get_or s 0 0) (W.Head n)) (size : T (is_head n)) (whole : s ≡ get_or s 0 0 ∷ drop 1 s) where
  -- a faulty datum, or all of them
  data Walked (why : Refusal) : Type 0 where
    faulty : IsFault s why → Walked why
    complete : {vs : List ℤ} {ws : List ℕ} (rest : List ℕ) → DataTo n n 0 vs ws → drop 1 s ≡ ws ++ rest → Walked why

  walk : (why : Refusal) (i k at : ℕ) (acc : List ℤ) {vs : List ℤ} {ws : List ℕ} → DataTo n k 0 vs ws → drop 1 s ≡ ws ++ drop at s → at ≡ 1 + length ws → i + k ≡ n →
      gather n i s k at acc ≡ refused_list why → Walked why
  unfolding gather
  walk why zero k at acc {vs} {ws} x e here c r = let last : k ≡ n = omega (arith, c) in complete (drop at s) (subst (λ (j : ℕ). DataTo n j 0 vs ws) last x) e
  walk why (suc i) k at acc {vs} {ws} x e here c r =
      go (value_at n s k at) (read_written n s k at) (λ y. value_fault n s k at {why = y})
      (λ z next vs' ws'. walk why i (k + 1) next (set acc k z) {vs = vs'} {ws = ws'}) r
    where
      go : (t : Result (ℤ × ℕ) Refusal) → ((z : ℤ) (next : ℕ) → t ≡ Ok (z, next) → Wrote s k at z next × T (allowed n k z)) →
          ((y : Refusal) → t ≡ Err y → Faulty n s k at y) →
          ((z : ℤ) (next : ℕ) (vs' : List ℤ) (ws' : List ℕ) → DataTo n (k + 1) 0 vs' ws' → drop 1 s ≡ ws' ++ drop next s → next ≡ 1 + length ws' → i + (k + 1) ≡ n →
          gather n i s (k + 1) next (set acc k z) ≡ refused_list why → Walked why) →
          on_value t (λ z next. gather n i s (k + 1) next (set acc k z)) ≡ refused_list why → Walked why
      go (Ok (z, next)) wrote fault rest g =
          let both = wrote z next refl in
          let w = both.0 in
          let t = joined {l = suc k} x (datum w.written both.1 end) in
          let is : t.0 ≡ ws ++ w.words = t.1 ∙ ap (λ (l : List ℕ). ws ++ l) (append-nil w.words) in
          rest z next (vs ++ (z ∷ [])) t.0 (subst (λ (j : ℕ). DataTo n j 0 (vs ++ (z ∷ [])) t.0) (sym (add-one k)) t.2)
          (e ∙ ap (λ (l : List ℕ). ws ++ l) w.here ∙ sym (append_assoc ws w.words (drop next s)) ∙ ap (λ (l : List ℕ). l ++ drop next s) (sym is))
          (omega (arith, w.far, here, ap length is, length-append ws w.words))
          (omega (arith, c))
          g
      go (Err y) wrote fault rest g =
          let f = fault y refl in
          let far : suc (length ws + f.1) ≡ at + f.1 = omega (arith, here) in
          faulty (put (sym (whole ∙ ap (λ (l : List ℕ). get_or s 0 0 ∷ l) e)) (ap f.0 far ∙ sym f.2 ∙ answer g) (F.datum head size (omega (arith, c)) x f.3))

  module _ {vs : List ℤ} {ws : List ℕ} (rest : List ℕ) (x : DataTo n n 0 vs ws) (e : drop 1 s ≡ ws ++ rest) where
    -- the data about SE's minus, datum p, and its plus
    record Pair (p : ℕ) : Type 0 where
      pub early : List ℤ
      pub minus : ℤ
      pub plus : ℤ
      pub later : List ℤ
      pub before : List ℕ
      pub from : List ℕ
      pub first : DataTo n p 0 early before
      pub second : DataTo n n p (minus ∷ plus ∷ later) from
      pub values : vs ≡ early ++ (minus ∷ plus ∷ later)
      pub laid : get_or s 0 0 ∷ (before ++ (from ++ rest)) ≡ s
      pub place : place_of s p ≡ suc (length before)

    pair : (p : ℕ) → suc p < n → Pair p
    pair p low =
        let t = split p x (omega arith) (omega (arith, low)) in
        let l = two t.late (how_many t.second) in
        let at : drop 1 s ≡ t.before ++ (t.from ++ rest) = e ∙ ap (λ (l : List ℕ). l ++ rest) t.words ∙ append_assoc t.before t.from rest in
        record {
          early = t.early;
          minus = l.0;
          plus = l.1;
          later = l.2;
          before = t.before;
          from = t.from;
          first = t.first;
          second = subst (λ (y : List ℤ). DataTo n n p y t.from) l.3 t.second;
          values = t.values ∙ ap (λ (y : List ℤ). t.early ++ y) l.3;
          laid = ap (λ (l : List ℕ). get_or s 0 0 ∷ l) (sym at) ∙ sym whole;
          place = omega (arith, place_behind t.first s (t.from ++ rest) at);
        }
      where
        two : (l : List ℤ) → p + length l ≡ n → (minus : ℤ) × (plus : ℤ) × (later : List ℤ) × (l ≡ minus ∷ plus ∷ later)
        two [] c = absurd (omega (arith, c, low))
        two (a ∷ []) c = absurd (omega (arith, c, low))
        two (a ∷ b ∷ l) c = (a, b, l, refl)

    wrong : (p : ℕ) (t : Pair p) → se_below vs p ≡ false → T (lt_z t.minus t.plus) → ⊥
    wrong p t q =
        let many : length t.early ≡ p = omega (arith, how_many t.first) in
        subst T (sym (below_at_seam t.early t.minus t.plus t.later p many) ∙ ap (λ (l : List ℤ). se_below l p) (sym t.values) ∙ q)

    ends_fault : (at : ℕ) {why : Refusal} → ends s (record { values = filled n vs; count = n }) at ≡ refused_list why → IsFault s why
    unfolding ends
    ends_fault at {why} = go (se_below (filled n vs) 11) (as_filled 11 (omega (arith, enough))) (se_below (filled n vs) 13) (as_filled 13 (omega (arith, enough)))
      where
        enough : 51 ≤ n
        enough = (head_bounds n size).0

        as_filled : (k : ℕ) → suc k < n → se_below vs k ≡ se_below (filled n vs) k
        as_filled k h = sym (below_before_seam vs _ k (omega (arith, h, how_many x)))

        go : (a : Bool) → se_below vs 11 ≡ a → (b : Bool) → se_below vs 13 ≡ b →
            cond a (cond b (accepted_list (record { values = filled n vs; count = n }) at) (refused_list (SeEnds (place_of s 13)))) (refused_list (SeEnds (place_of s 11))) ≡ refused_list why → IsFault s why
        go false p b q g = let t = pair 11 (omega (arith, enough)) in put t.laid (ap SeEnds (sym t.place) ∙ answer g) (se1 rest head size t.first t.second (wrong 11 t p))
        go true p false q g =
            let t = pair 13 (omega (arith, enough)) in
            let low : 12 < length t.early = omega (arith, how_many t.first) in
            let right : se_below t.early 11 ≡ true = sym (below_before_seam t.early _ 11 low) ∙ ap (λ (l : List ℤ). se_below l 11) (sym t.values) ∙ p in
            put t.laid (ap SeEnds (sym t.place) ∙ answer g) (se2 rest head size t.first t.second (subst T (sym right) tt) (wrong 13 t q))
        go true p true q g = never (cc (ap (λ (y : ListRead). y.answer) g))

  refused_behind : {why : Refusal} → gather n n s 0 1 zeros ≡ refused_list why → IsFault s why
  refused_behind {why} r = go (walk why n 0 1 zeros end refl refl (omega arith) r)
    where
      go : Walked why → IsFault s why
      go (faulty x) = x
      go (complete {ws = ws} rest x e) = ends_fault rest x e (1 + length ws) (sym (all_passed x s rest e) ∙ r)

pub refused : (s : List ℕ) (why : Refusal) → (read_list s ≡ refused_list why) ↔ IsFault s why
unfolding read_list
refused s why = (go (fits (a_head is_head) (word_at s 0)) refl, refuses)
  where
    go : (t : Bool) → fits (a_head is_head) (word_at s 0) ≡ t → read_list s ≡ refused_list why → IsFault s why
    go true q r =
        let t : T (fits (a_head is_head) (word_at s 0)) = subst T (sym q) tt in
        let h = held_head is_head (word_at s 0) t in
        refused_behind s h.0 (read_at s 0 h.1 (λ x. never (cc))) h.2 (stands (a_head is_head) s 0 t).2 (by_head s h.1 (is_true (is_head h.0) h.2) ∙ r)
    go false q r = put refl (answer (sym (other_head is_head (word_at s 0) (λ n. gather n n s 0 1 zeros) (refused_list (WrongWord 0)) q) ∙ r)) (no_head (lacks (a_head is_head) s 0 q))
