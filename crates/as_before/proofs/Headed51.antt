-- W1: with lists headed 51 the inputs, the causes, the state, the word, a log's run and a kit's listing are as they were, whatever the rules of cause 13 and
-- of n<nx. Assumes nothing.
use Prim.Native.Nat.{ℕ, suc, ◌+◌, ◌*◌, ◌%◌, ◌/◌, ◌≤◌, ◌<◌}
use mathlib.Core.Path.{◌≡◌, refl, sym, ap, ◌∙◌}
use mathlib.Core.Bool.{Bool, true, false, cond, ◌&&◌, ◌||◌}
use mathlib.Core.List.{List, [], ◌∷◌}
use native.Mathlib.Omega.{arith}
use borrow.Author.Tests.{lt-ltb, le-leb, eq-eqb, ltb-true, ltb-false, eqb-true, eqb-false}
use lib.ListN.{get_or, drop}
use lib.IntN.{ℤ, pos, nat_abs, ◌-ℤ◌}
use lib.Dec.{T, leb, ltb, eqb}
use Rattle.std.specs.Prelude.{Ok}
use Rattle.laws.proofs.Bools.{and_false}
use Rattle.bits.specs.Bits.{field_of}
use Rattle.ranges.specs.Table.{data_count}
use Rattle.machine_data.specs.declared.MachineData.{MachineData}
use Rattle.machine_data.specs.Data.{number_of, ratio_of, has_ratios, entry_of, function_of}
use Rattle.machine_data.proofs.Lacks.{lacks}
use Rattle.inputs.specs.declared.Reading.{Reading}
use Rattle.inputs.specs.Layout.{gear_number, direction_bits}
use Rattle.usable_inputs.specs.Usable.{spare_of, free}
use Rattle.speed.specs.Speed.{speed_of, too_fast, slower}
use Rattle.speed.proofs.Load.{too_fast_plain, slower_plain}
use Rattle.report.specs.declared.Report.{Report}
use Rattle.report.specs.Report.{next_k, report_of, datum_differs}
use Rattle.active.specs.Active.{fault_stops}
use Rattle.state.specs.declared.State.{State}
use Rattle.state.specs.declared.Given.{Given}
use Rattle.seven.specs.declared.CycleRecord.{CycleRecord}
use Rattle.judge.specs.Causes.{rows_of}
use Rattle.list.specs.Rules.{among}
use Rattle.list.specs.Reading.{read_list}
use Rattle.channel.specs.declared.Channel.{Channel}
use Rattle.channel.specs.Cycle.{next}
use Rattle.channel.specs.Word.{word}
use Rattle.logs.specs.Run.{Both, both_of, running}
use Rattle.kit_bytes.specs.KitBytes.{words_of}
use Rattle.listing.specs.Listing.{listed}
use Rattle.as_before.specs.Lists.{heads51}
use Rattle.as_before.specs.Rules.{Cause13, Nx, Guarding, usable_by, geared, ungeared, steadied, guarded, now, without_w1, plain, spare51, usable51, next_k51, entry51, report51, differs51}
use Rattle.as_before.specs.Cycle.{rows_under, next_under, word_under}
use Rattle.as_before.specs.Runs.{both_under, running_under, listed_under}
use Rattle.as_before.specs.Kept.{Headed51, Headed, HeadedKit}
use Rattle.as_before.proofs.Lists.{read_51}
use Rattle.as_before.proofs.Short.{short, undirected}
use Rattle.as_before.proofs.Cycle.{Agree, rows_same, next_same, word_same, rows_now, next_now, word_now}
use Rattle.as_before.proofs.Runs.{AgreeAlong, running_same, listed_same, running_now, listed_now}

-- ---- the comparisons of a step with the ratio 1 to 1 are document 01's

module _ (d : List ℤ) (moved : ℕ) where
  -- "|d| × 6000 > limit × percent × T"
  pub too_fast_51 : (n o : ℕ) → too_fast d (record { moved = moved; ratio = plain }) n o ≡ ltb (speed_of d n o * number_of d 0) (moved * 6000)
  too_fast_51 n o = too_fast_plain d moved n o

  -- "|d| × 60 < datum 33 × T", "datum 25 × T"
  pub slower_51 : (k : ℕ) → slower d (record { moved = moved; ratio = plain }) k ≡ ltb (moved * 60) (number_of d k * number_of d 0)
  slower_51 k = slower_plain d moved (number_of d k)

-- ---- what is read of the inputs, the list and a report

-- bits 5 to 11 are 5 to 7, the gear's and 11
bits_5_11 : (w : ℕ) → w / 32 % 128 ≡ w / 32 % 8 + 8 * (w / 256 % 8) + 64 * (w / 2048 % 2)
bits_5_11 w = omega arith

-- bits 13 to 17 are those of the directions and 15 to 17
bits_13_17 : (w : ℕ) → w / 8192 % 32 ≡ w / 8192 % 4 + 4 * (w / 32768 % 8)
bits_13_17 w = omega arith

-- so all are 0 together
module _ (a b c d e g h seven five : ℕ) (is : seven ≡ b + 8 * g + 64 * c) (are : five ≡ h + 4 * d) where
  all_zero : a + b + c + d + e ≡ 0 → h ≡ 0 → g ≡ 0 → a + seven + five + e ≡ 0
  all_zero none direction gear = omega (arith, is, are, none, direction, gear)

  each_zero : a + seven + five + e ≡ 0 → (a + b + c + d + e ≡ 0) × (h ≡ 0) × (g ≡ 0)
  each_zero none = (omega (arith, is, are, none), omega (arith, is, are, none), omega (arith, is, are, none))

module _ (w : ℕ) where
  no_gear : eqb (spare_of w) 0 && eqb (direction_bits w) 0 && eqb (gear_number w) 0 ≡ eqb (spare51 w) 0
  unfolding field_of
  no_gear =
      go
      (all_zero (w / 4 % 2) (w / 32 % 8) (w / 2048 % 2) (w / 32768 % 8) (w / 4194304 % 64) (w / 256 % 8) (w / 8192 % 4) (w / 32 % 128) (w / 8192 % 32) (bits_5_11 w) (bits_13_17 w))
      (each_zero (w / 4 % 2) (w / 32 % 8) (w / 2048 % 2) (w / 32768 % 8) (w / 4194304 % 64) (w / 256 % 8) (w / 8192 % 4) (w / 32 % 128) (w / 8192 % 32) (bits_5_11 w) (bits_13_17 w))
      (eqb (spare_of w) 0) refl (eqb (direction_bits w) 0) refl (eqb (gear_number w) 0) refl (eqb (spare51 w) 0) refl
    where
      go : (spare_of w ≡ 0 → direction_bits w ≡ 0 → gear_number w ≡ 0 → spare51 w ≡ 0) → (spare51 w ≡ 0 → (spare_of w ≡ 0) × (direction_bits w ≡ 0) × (gear_number w ≡ 0)) →
          (a : Bool) → eqb (spare_of w) 0 ≡ a → (c : Bool) → eqb (direction_bits w) 0 ≡ c → (b : Bool) → eqb (gear_number w) 0 ≡ b → (t : Bool) → eqb (spare51 w) 0 ≡ t → a && c && b ≡ t
      go f h true p true o true q true r = refl
      go f h true p true o true q false r = absurd (eqb-false (spare51 w) 0 r (f (eqb-true (spare_of w) 0 p) (eqb-true (direction_bits w) 0 o) (eqb-true (gear_number w) 0 q)))
      go f h true p true o false q true r = absurd (eqb-false (gear_number w) 0 q (h (eqb-true (spare51 w) 0 r)).2)
      go f h true p true o false q false r = refl
      go f h true p false o b q true r = absurd (eqb-false (direction_bits w) 0 o (h (eqb-true (spare51 w) 0 r)).1)
      go f h true p false o b q false r = refl
      go f h false p c o b q true r = absurd (eqb-false (spare_of w) 0 p (h (eqb-true (spare51 w) 0 r)).0)
      go f h false p c o b q false r = refl

pub next_k_51 : (k : ℕ) → next_k 51 k ≡ next_k51 k
next_k_51 k = go (ltb (suc k) 51) refl
  where
    go : (t : Bool) → ltb (suc k) 51 ≡ t → cond (ltb (suc k) data_count && t) (suc k) 0 ≡ cond t (suc k) 0
    go true q = simp (lt-ltb (suc k) data_count (omega (arith, ltb-true (suc k) 51 q)))
    go false q = ap (λ (b : Bool). cond b (suc k) 0) (and_false (ltb (suc k) data_count))

module _ (m : MachineData) (h : Headed51 m) where
  lacked_51 : (k : ℕ) → 51 ≤ k → k < 67 → number_of m.values k ≡ 1
  lacked_51 k l u = lacks m.values k l (omega (arith, u)) (h.lacks k l) ∙ simp (le-leb 51 k l, le-leb k 66 (omega (arith, u)))

  -- "A list headed 51 is read with every ratio 1 to 1"
  pub ratio_51 : (g : ℕ) → ratio_of m.values g ≡ plain
  unfolding ratio_of
  ratio_51 g =
      let top = lacked_51 (51 + g % 8) (omega arith) (omega arith) in
      let under = lacked_51 (59 + g % 8) (omega arith) (omega arith) in
      λ i. record { numerator = top i; denominator = under i }

  -- "its logs keep their words, bits 8 to 10 being 0 as before": where the rules of W6 let bits 13 and 14 be 0 alone
  pub usable_51 : (guard : Guarding) → guard.bits m.values ≡ false → (r : Reading) → usable_by guard m r ≡ usable51 r
  usable_51 guard off r =
      λ i. leb (nat_abs r.position) 100_000_000 && ((λ j. eqb (spare_of r.inputs) 0 && free (off j) (direction_bits r.inputs) && free (has_ratios (h.count j)) (gear_number r.inputs)) ∙ no_gear r.inputs) i

  pub entry_51 : (k : ℕ) → entry_of m.values k ≡ entry51 m.values k
  entry_51 k = go (ltb k 51) refl
    where
      go : (t : Bool) → ltb k 51 ≡ t → entry_of m.values k ≡ cond t (get_or m.values k (pos 0)) (pos 0)
      go true q = simp (lt-ltb k data_count (omega (arith, ltb-true k 51 q)))
      go false q = behind (ltb k data_count)
        where
          behind : (a : Bool) → cond a (get_or m.values k (pos 0)) (pos 0) ≡ pos 0
          behind true = h.lacks k (omega (arith, ltb-false k 51 q))
          behind false = refl

  pub differs_51 : (k : ℕ) (o : Report) → o.head ≡ 51 → datum_differs m k o ≡ differs51 m k o
  unfolding datum_differs
  differs_51 k o head =
      let same : m.count ≡ o.head = h.count ∙ sym head in
      simp (eq-eqb m.count o.head same) (ap (λ (z : ℤ). ltb 0 (nat_abs (z -ℤ o.datum))) (entry_51 k))

-- so one that has no later head is headed 51
pub headed : (s : List ℕ) (n : ℕ) → Headed heads51 s → (read_list s).answer ≡ Ok n → Headed51 (read_list s).list
headed s n earlier e =
    let x = short heads51 s n earlier e in
    let count = one_of (read_list s).list.count x.0 in
    record { count = count; lacks = λ k h. x.2 k (omega (arith, count, h)); no_direction_lem = undirected heads51 tt s n earlier e }
  where
    one_of : (m : ℕ) → T (among m heads51) → m ≡ 51
    one_of m = go (eqb m 51) refl
      where
        go : (t : Bool) → eqb m 51 ≡ t → T (t || false) → m ≡ 51
        go true q t = eqb-true m 51 q
        go false q t = absurd t

-- ---- the rules agree

module _ (stops : Cause13) (nx : Nx) (guard : Guarding) where
  module _ (m : MachineData) (h : Headed51 m) (off : guard.bits m.values ≡ false) (s : State) (g : Given) (head : g.report.head ≡ 51) where
    pub agree_51 : Agree (geared read_list stops nx guard) (ungeared stops nx guard) m s g
    agree_51 =
        record {
          usable = usable_51 m h guard off g.reading;
          ratio = ratio_51 m h (gear_number g.reading.inputs);
          rise = ap (λ (n : ℕ). next_k n s.k) h.count ∙ next_k_51 s.k;
          differs = differs_51 m h s.k g.report head;
          stops = λ u. refl;
          watched = λ u. refl;
          strongest = λ u. refl;
          fresh = λ u. refl;
          nx = λ u. refl;
        }

  report_51 : (m : MachineData) → Headed51 m → (k : ℕ) (r : Reading) → report_of m k r ≡ report51 m k r
  report_51 m h k r = λ i. record { position = r.position; inputs = r.inputs; datum = entry_51 m h k i; head = h.count i }

  module _ (da db : MachineData) (ha : Headed51 da) (hb : Headed51 db) (offa : guard.bits da.values ≡ false) (offb : guard.bits db.values ≡ false) where
    along_51 : (x : Both) (rs : List CycleRecord) → AgreeAlong (geared read_list stops nx guard) (ungeared stops nx guard) da db x rs
    along_51 x [] = tt
    along_51 x (r ∷ rs) = (
      record {
        report_a = report_51 da ha x.a.k r.a;
        report_b = report_51 db hb x.b.k r.b;
        a = agree_51 da ha offa x.a _ hb.count;
        b = agree_51 db hb offb x.b _ ha.count;
      },
      along_51 (both_under (geared read_list stops nx guard) da db x r) rs,
    )

  -- what an accepted log leaves: both channels and the whole output
  pub running_ungeared : (a b : Channel) → Headed51 a.list → Headed51 b.list → guard.bits a.list.values ≡ false → guard.bits b.list.values ≡ false → (out : List ℕ) (rs : List CycleRecord) →
      running_under (geared read_list stops nx guard) a b out rs ≡ running_under (ungeared stops nx guard) a b out rs
  running_ungeared a b ha hb offa offb out rs = running_same (geared read_list stops nx guard) (ungeared stops nx guard) a b out rs (along_51 a.list b.list ha hb offa offb (both_of a b) rs)

  -- a kit's listing
  pub listed_ungeared : (bytes : List ℕ) → HeadedKit heads51 (words_of bytes) → ((d : List ℤ) → function_of d 5 ≡ false → guard.bits d ≡ false) → listed_under (geared read_list stops nx guard) bytes ≡ listed_under (ungeared stops nx guard) bytes
  listed_ungeared bytes kit off =
      let words = words_of bytes in
      listed_same (geared read_list stops nx guard) (ungeared stops nx guard) bytes
      (record {
        read_a = read_51 words kit.list_a;
        read_b = λ n ea. read_51 (drop n words) (kit.list_b n ea);
        along =
            λ n m ea eb rs _.
            let ha = headed words n kit.list_a ea in
            let hb = headed (drop n words) m (kit.list_b n ea) eb in
            along_51 _ _ ha hb (off _ ha.no_direction_lem) (off _ hb.no_direction_lem) _ rs;
      })

-- ---- so a cycle, a log and a kit are as they were, but for what later requests moved

module _ (m : MachineData) (h : Headed51 m) (s : State) (g : Given) (head : g.report.head ≡ 51) where
  pub rows_51 : rows_of m s g ≡ rows_under without_w1 m s g
  rows_51 = rows_now m s g ∙ rows_same now without_w1 m s g (agree_51 fault_stops steadied guarded m h h.no_direction_lem s g head) (λ rows. refl)

  pub next_51 : next m s g ≡ next_under without_w1 m s g
  next_51 = next_now m s g ∙ next_same now without_w1 m s g (agree_51 fault_stops steadied guarded m h h.no_direction_lem s g head)

  pub word_51 : word m s g ≡ word_under without_w1 m s g
  word_51 = word_now m s g ∙ word_same now without_w1 m s g (agree_51 fault_stops steadied guarded m h h.no_direction_lem s g head)

pub running_51 : (a b : Channel) → Headed51 a.list → Headed51 b.list → (out : List ℕ) (rs : List CycleRecord) →
    running a b out rs ≡ running_under without_w1 a b out rs
running_51 a b ha hb out rs = running_now a b out rs ∙ running_ungeared fault_stops steadied guarded a b ha hb ha.no_direction_lem hb.no_direction_lem out rs

pub listed_51 : (bytes : List ℕ) → HeadedKit heads51 (words_of bytes) → listed bytes ≡ listed_under without_w1 bytes
listed_51 bytes kit = listed_now bytes ∙ listed_ungeared fault_stops steadied guarded bytes kit (λ d off. off)
