-- A list whose head was allowed before a request is read as it was then. Assumes nothing.
use mathlib.Core.Path.{◌≡◌, refl, sym, ap, ◌∙◌, subst}
use mathlib.Core.Bool.{Bool, true, false, cond, ◌&&◌, ◌||◌, true≢false}
use mathlib.Core.List.{List, [], ◌∷◌, ◌++◌}
use Prim.Native.Nat.{ℕ, zero, suc, ◌+◌, ◌-◌, ◌/◌, ◌%◌, ◌^◌, ◌≤◌, ◌<◌}
use native.Mathlib.Omega.{arith}
use lib.ListN.{get_or, set}
use lib.IntN.{ℤ, pos, negsuc}
use lib.Signed.{lt_z, le_z}
use lib.Dec.{T, leb, ltb, eqb, ltb→lt}
use lib.Ieee.Bits.{is_true}
use lib.Ieee.Fits.{and_l, and_r}
use borrow.Author.Tests.{lt-ltb, le-ltb, le-leb, lt-leb, leb-true, ltb-true, ltb-false, ne_eqb, eqb-true, eqb-false}
use Rattle.std.specs.Prelude.{Result, Ok, Err}
use Rattle.laws.proofs.Bools.{or_left, or_right, and_false}
use Rattle.refusal.specs.declared.Refusal.{Refusal}
use Rattle.refusal.specs.declared.Refusal.TheVariants.{WrongWord, OutOfRange}
use Rattle.words.specs.declared.Word.{Word}
use Rattle.words.specs.declared.Word.TheVariants as W
use Rattle.words.specs.Words.{word_at}
use Rattle.words.specs.Cases.{if_head}
use Rattle.bits.specs.Bits.{bit_of}
use Rattle.ranges.specs.Table.{data_count, Row, base_rows, gear_rows, nx_rows, direction_rows, rows, row_of, in_range, allowed}
use Rattle.machine_data.specs.Data.{nearest, datum_of, size, number_of, function_of}
use Rattle.datum.specs.declared.Datum.{Datum}
use Rattle.datum.specs.Datum.{of_units, of_read, units_of, datum_at, value_at}
use Rattle.list.specs.declared.ListRead.{ListRead}
use Rattle.list.specs.Rules.{among, is_head}
use Rattle.list.specs.Reading.{refused_list, on_value, gather, zeros, read_list}
use Rattle.list.proofs.Steps.{head_bounds}
use Rattle.as_before.specs.Lists.{reaches, in_range_by, of_units_by, of_read_by, value_by, gather_by, read_by, heads51, read51, heads67, read67, heads69, read69}
use Rattle.as_before.specs.Kept.{Headed}

-- ---- a table's front

-- where it reaches datum k, that datum's row does not depend on what stands behind
row_front : (rs more : List Row) (k : ℕ) → T (reaches rs k) → row_of (rs ++ more) k ≡ row_of rs k
row_front [] more k t = absurd t
row_front (r ∷ rs) more k t = go (leb k r.last) t (row_front rs more k)
  where
    go : (b : Bool) → T (b || reaches rs k) → (T (reaches rs k) → row_of (rs ++ more) k ≡ row_of rs k) → cond b r (row_of (rs ++ more) k) ≡ cond b r (row_of rs k)
    go true t rest = refl
    go false t rest = rest t

-- and it reaches each datum before k
reaches_down : (rs : List Row) (j k : ℕ) → k ≤ j → T (reaches rs j) → T (reaches rs k)
reaches_down [] j k h t = absurd t
reaches_down (r ∷ rs) j k h t = go (leb j r.last) refl t (reaches_down rs j k h)
  where
    go : (b : Bool) → leb j r.last ≡ b → T (b || reaches rs j) → (T (reaches rs j) → T (reaches rs k)) → T (leb k r.last || reaches rs k)
    go true q t rest = or_left (leb k r.last) (reaches rs k) (subst T (sym (le-leb k r.last (omega (arith, h, leb-true j r.last q)))) tt)
    go false q t rest = or_right (leb k r.last) (reaches rs k) (rest t)

-- each of the heads is one of now, and the front has its last datum
abbrev fronted : List Row → List ℕ → Bool
fronted table [] = true
fronted table (h ∷ hs) = is_head h && reaches table (h - 1) && fronted table hs

-- so it is with a head that is among them
of_fronted : (table : List Row) (hs : List ℕ) → T (fronted table hs) → (n : ℕ) → T (among n hs) → T (is_head n) × T (reaches table (n - 1))
of_fronted table [] f n t = absurd t
of_fronted table (h ∷ hs) f n t = go (eqb n h) refl t (of_fronted table hs (and_r (is_head h && reaches table (h - 1)) (fronted table hs) f) n)
  where
    go : (b : Bool) → eqb n h ≡ b → T (b || among n hs) → (T (among n hs) → T (is_head n) × T (reaches table (n - 1))) → T (is_head n) × T (reaches table (n - 1))
    go true q t rest =
        let both = and_l (is_head h && reaches table (h - 1)) (fronted table hs) f in
        subst (λ (k : ℕ). T (is_head k) × T (reaches table (k - 1))) (sym (eqb-true n h q)) (and_l (is_head h) (reaches table (h - 1)) both, and_r (is_head h) (reaches table (h - 1)) both)
    go false q t rest = rest t

-- each head is below 72
abbrev pub all_below_lem : List ℕ → Bool
all_below_lem [] = true
all_below_lem (h ∷ hs) = ltb h 72 && all_below_lem hs

and_true : (a : Bool) → a && true ≡ a
and_true true = refl
and_true false = refl

-- z up to 31 is up to 63
below_63 : (z : ℤ) → (le_z (pos 0) z && le_z z (pos 63)) && le_z z (pos 31) ≡ le_z (pos 0) z && le_z z (pos 31)
below_63 (pos n) = simp (le-leb 0 n (omega arith)) (go (leb n 31) refl)
  where
    go : (b : Bool) → leb n 31 ≡ b → leb n 63 && b ≡ b
    go true q = simp (le-leb n 63 (omega (arith, leb-true n 31 q)))
    go false q = and_false (leb n 63)
below_63 (negsuc n) = refl

-- past datum 1 a row does not depend on the most that datum 1 may be
row_any : (f g : ℕ) (rs : List Row) (k : ℕ) → 1 < k → row_of (base_rows f ++ rs) k ≡ row_of (base_rows g ++ rs) k
row_any f g rs k h = simp (lt-leb k 0 (omega (arith, h)), lt-leb k 1 h)

-- the front of the table behind document 01's rows, as far as a list with one of the heads goes, and what stands behind it
module _ (front more : List Row) (whole : gear_rows ++ nx_rows ++ direction_rows ≡ front ++ more) where
  abbrev table : List Row
  table = base_rows 31 ++ front

  -- ---- a datum

  -- past datum 1 the rows are those of now
  row_by : (k : ℕ) → T (reaches table (suc (suc k))) → row_of rows (suc (suc k)) ≡ row_of table (suc (suc k))
  row_by k has =
      row_any 63 31 (gear_rows ++ nx_rows ++ direction_rows) (suc (suc k)) (omega arith)
      ∙ ap (λ (rs : List Row). row_of (base_rows 31 ++ rs) (suc (suc k))) whole
      ∙ row_front table more (suc (suc k)) has

  module _ (n : ℕ) (short : n < 72) where
    in_range_by_lem : (k : ℕ) → T (reaches table k) → k < data_count → (z : ℤ) → allowed n k z ≡ in_range_by table k z
    unfolding allowed in_range
    in_range_by_lem zero has l z = and_true (le_z (pos 1) z && le_z z (pos 25))
    in_range_by_lem (suc zero) has l z = simp (lt-leb 72 n short) (below_63 z)
    in_range_by_lem (suc (suc k)) has l z =
        simp (lt-ltb (suc (suc k)) data_count l, is_true (reaches table (suc (suc k))) has, ne_eqb (suc (suc k)) 1 (λ e. omega (arith, e)))
        (and_true (le_z (row_of rows (suc (suc k))).low z && le_z z (row_of rows (suc (suc k))).high) ∙ (λ i. le_z (row_by k has i).low z && le_z z (row_by k has i).high))

    value_by_lem : (s : List ℕ) (k at : ℕ) → T (reaches table k) → k < data_count → value_at n s k at ≡ value_by table s k at
    unfolding value_at value_by
    value_by_lem s k at has l = by_read (datum_at s k at)
      where
        by_units : (next : ℕ) (u : Result ℤ Refusal) → of_units n k at next u ≡ of_units_by table k at next u
        by_units next (Ok z) = ap (λ (t : Bool). cond {A = Result (ℤ × ℕ) Refusal} t (Ok (z, next)) (Err (OutOfRange at))) (in_range_by_lem k has l z)
        by_units next (Err why) = refl

        by_read : (r : Result (Datum × ℕ) ℕ) → of_read n k at r ≡ of_read_by table k at r
        by_read (Ok (d, next)) = by_units next (units_of d at)
        by_read (Err place) = refl

  -- ---- the data one by one

  module _ (n : ℕ) (short : n < 72) (has : T (reaches table (n - 1))) (l : n ≤ data_count) where
    gather_by_lem : (i : ℕ) (s : List ℕ) (k at : ℕ) (vs : List ℤ) → i + k ≡ n → gather n i s k at vs ≡ gather_by table i s k at vs
    unfolding gather gather_by
    gather_by_lem zero s k at vs c = refl
    gather_by_lem (suc i) s k at vs c =
        ap (λ (t : Result (ℤ × ℕ) Refusal). on_value t (λ z next. gather n i s (k + 1) next (set vs k z)))
        (value_by_lem n short s k at (reaches_down table (n - 1) k (omega (arith, c)) has) (omega (arith, c, l)))
        ∙ go (value_by table s k at) (λ z next. gather_by_lem i s (k + 1) next (set vs k z) (omega (arith, c)))
      where
        go : (t : Result (ℤ × ℕ) Refusal) → ((z : ℤ) (next : ℕ) → gather n i s (k + 1) next (set vs k z) ≡ gather_by table i s (k + 1) next (set vs k z)) →
            on_value t (λ z next. gather n i s (k + 1) next (set vs k z)) ≡ on_value t (λ z next. gather_by table i s (k + 1) next (set vs k z))
        go (Ok (z, next)) rest = rest z next
        go (Err why) rest = refl

  -- ---- the head

  read_by_lem : (heads : List ℕ) → T (fronted table heads) → ((n : ℕ) → T (among n heads) → n < 72) → (s : List ℕ) → Headed heads s → read_list s ≡ read_by table heads s
  unfolding read_list read_by
  read_by_lem heads fits short s earlier =
      by_word (word_at s 0)
      (λ n. cond (is_head n) (gather n n s 0 1 zeros) (refused_list (WrongWord 0)))
      (λ n. cond (among n heads) (gather_by table n s 0 1 zeros) (refused_list (WrongWord 0)))
      (refused_list (WrongWord 0))
      headed
    where
      by_word : (x : Word) (held before : ℕ → ListRead) (other : ListRead) → ((n : ℕ) → x ≡ W.Head n → held n ≡ before n) → if_head x held other ≡ if_head x before other
      by_word (W.Head n) held before other h = h n refl
      by_word (W.Datum k f) held before other h = refl
      by_word (W.Piece b) held before other h = refl
      by_word (W.Position z) held before other h = refl
      by_word (W.Lower b) held before other h = refl
      by_word (W.Upper b) held before other h = refl
      by_word (W.End a) held before other h = refl
      by_word W.Remark held before other h = refl
      by_word W.Other held before other h = refl

      headed : (n : ℕ) → word_at s 0 ≡ W.Head n →
          cond (is_head n) (gather n n s 0 1 zeros) (refused_list (WrongWord 0)) ≡ cond (among n heads) (gather_by table n s 0 1 zeros) (refused_list (WrongWord 0))
      headed n word = go (is_head n) refl (among n heads) refl
        where
          go : (t : Bool) → is_head n ≡ t → (u : Bool) → among n heads ≡ u →
              cond t (gather n n s 0 1 zeros) (refused_list (WrongWord 0)) ≡ cond u (gather_by table n s 0 1 zeros) (refused_list (WrongWord 0))
          go true p true q =
              let r = of_fronted table heads fits n (subst T (sym q) tt) in
              gather_by_lem n (short n (subst T (sym q) tt)) r.1 (head_bounds n r.0).1 n s 0 1 zeros (omega arith)
          go true p false q = absurd (subst T q (earlier n word (subst T (sym p) tt)))
          go false p true q = absurd (subst T p (of_fronted table heads fits n (subst T (sym q) tt)).0)
          go false p false q = refl

-- ---- before W1, before W3, and before W6

-- a head that is among these is below 72
pub below : (hs : List ℕ) → T (all_below_lem hs) → (n : ℕ) → T (among n hs) → n < 72
below [] f n t = absurd t
below (h ∷ hs) f n t = go (eqb n h) refl t (below hs (and_r (ltb h 72) (all_below_lem hs) f) n)
  where
    go : (b : Bool) → eqb n h ≡ b → T (b || among n hs) → (T (among n hs) → n < 72) → n < 72
    go true q t rest = omega (arith, eqb-true n h q, ltb→lt h 72 (and_l (ltb h 72) (all_below_lem hs) f))
    go false q t rest = rest t

pub read_51 : (s : List ℕ) → Headed heads51 s → read_list s ≡ read51 s
read_51 = read_by_lem [] (gear_rows ++ nx_rows ++ direction_rows) refl heads51 tt (below heads51 tt)

pub read_67 : (s : List ℕ) → Headed heads67 s → read_list s ≡ read67 s
read_67 = read_by_lem gear_rows (nx_rows ++ direction_rows) refl heads67 tt (below heads67 tt)

pub read_69 : (s : List ℕ) → Headed heads69 s → read_list s ≡ read69 s
read_69 = read_by_lem (gear_rows ++ nx_rows) direction_rows refl heads69 tt (below heads69 tt)

-- data 0 to 50 but for datum 1 are read by document 01's rows,
pub datum_51 : (d : List ℤ) (k : ℕ) → (k ≡ 1 → ⊥) → k < 51 → datum_of d k ≡ nearest (row_of (base_rows 31) k).low (row_of (base_rows 31) k).high (get_or d k (pos 0))
unfolding datum_of
datum_51 d zero other h = refl
datum_51 d (suc zero) other h = absurd (other refl)
datum_51 d (suc (suc k)) other h =
    let row = row_by [] (gear_rows ++ nx_rows ++ direction_rows) refl k (reaches_down (base_rows 31) 50 (suc (suc k)) (omega (arith, h)) tt) in
    simp (lt-ltb (suc (suc k)) data_count (omega (arith, h))) (λ i. nearest (row i).low (row i).high (get_or d (suc (suc k)) (pos 0)))

-- and datum 1 too, where function 5 is off
pub functions_51 : (d : List ℤ) → function_of d 5 ≡ false → datum_of d 1 ≡ nearest (pos 0) (pos 31) (get_or d 1 (pos 0))
unfolding function_of number_of datum_of bit_of nearest
functions_51 d off = go (get_or d 1 (pos 0)) off
  where
    go : (z : ℤ) → eqb (size (cond (lt_z z (pos 0)) (pos 0) (cond (lt_z (pos 63) z) (pos 63) z)) / 2 ^ 5 % 2) 1 ≡ false →
        cond (lt_z z (pos 0)) (pos 0) (cond (lt_z (pos 63) z) (pos 63) z) ≡ cond (lt_z z (pos 0)) (pos 0) (cond (lt_z (pos 31) z) (pos 31) z)
    go (negsuc n) e = refl
    go (pos n) e = simp (le-ltb n 0 (omega arith)) (by_size (ltb 63 n) refl (ltb 31 n) refl (simp (le-ltb n 0 (omega arith)) at e))
      where
        by_size : (a : Bool) → ltb 63 n ≡ a → (b : Bool) → ltb 31 n ≡ b → eqb (size (cond a (pos 63) (pos n)) / 2 ^ 5 % 2) 1 ≡ false → cond a (pos 63) (pos n) ≡ cond b (pos 31) (pos n)
        by_size true p b q e = absurd (true≢false e)
        by_size false p true q e = absurd (eqb-false (n / 32 % 2) 1 e (omega (arith, ltb-false 63 n p, ltb-true 31 n q)))
        by_size false p false q e = refl
