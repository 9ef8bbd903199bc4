-- W6: with lists without function 5, and so with every list of 51, 67 or 69 data, the causes' codes, the state, the word, a log's run and a kit's listing are as
-- they were, whatever the rules of cause 13 and of n<nx. Assumes nothing.
use Prim.Native.Nat.{ℕ, zero, suc}
use mathlib.Core.Path.{◌≡◌, refl, ap, ◌∙◌}
use mathlib.Core.Bool.{false, cond, ◌&&◌}
use mathlib.Core.List.{List, [], ◌∷◌, ◌++◌}
use lib.ListN.{length, drop, take}
use lib.Dec.{leb, eqb}
use lib.IntN.{nat_abs}
use Rattle.machine_data.specs.declared.MachineData.{MachineData}
use Rattle.machine_data.specs.Data.{has_ratios}
use Rattle.inputs.specs.Layout.{gear_number, direction_bits}
use Rattle.usable_inputs.specs.Usable.{spare_of, free}
use Rattle.directions.specs.Directions.{watched_of, direction_rank}
use Rattle.active.specs.Active.{fault_stops}
use Rattle.causes.specs.declared.Cause.{Cause}
use Rattle.causes.specs.Causes.{cause, unusable_table, strongest_of, fresh_of}
use Rattle.code_places.specs.Places.{rank_count, stands_at, of_rank, below}
use Rattle.codes.specs.Codes.{padded, causes_as, causes_of}
use Rattle.seven.specs.declared.CycleRecord.{CycleRecord}
use Rattle.state.specs.declared.State.{State}
use Rattle.state.specs.declared.Given.{Given}
use Rattle.list.specs.Reading.{read_list}
use Rattle.channel.specs.declared.Channel.{Channel}
use Rattle.channel.specs.Cycle.{next}
use Rattle.channel.specs.Word.{word}
use Rattle.channel.specs.Outcome.{causes_in}
use Rattle.logs.specs.Run.{Both, both_of, running}
use Rattle.kit_bytes.specs.KitBytes.{words_of}
use Rattle.listing.specs.Listing.{listed}
use Rattle.as_before.specs.Lists.{heads69}
use Rattle.as_before.specs.Rules.{Cause13, Nx, geared, steadied, guarded, unguarded, now, without_w6}
use Rattle.as_before.specs.Cycle.{watched_under, table_under, rows_under, next_under, word_under}
use Rattle.as_before.specs.Runs.{both_under, running_under, listed_under}
use Rattle.as_before.specs.Kept.{HeadedKit, Undirected, UndirectedKit}
use Rattle.as_before.proofs.Short.{undirected}
use Rattle.as_before.proofs.Cycle.{ways_to, Agree, next_same, word_same, rows_now, next_now, word_now}
use Rattle.as_before.proofs.Runs.{AgreeAlong, running_same, listed_same, running_now, listed_now}

-- a kit without a list headed 72
pub undirected_kit : (words : List ℕ) → HeadedKit heads69 words → UndirectedKit words
undirected_kit words kit =
    record {
      list_a = λ n ea. undirected heads69 tt words n kit.list_a ea;
      list_b = λ n m ea eb. undirected heads69 tt (drop n words) m (kit.list_b n ea) eb;
    }

-- ---- the rules agree

module _ (stops : Cause13) (nx : Nx) where
  module _ (m : MachineData) (off : Undirected m) (s : State) (g : Given) where
    not_overstepped : (watched_under (geared read_list stops nx guarded) m s g).overstepped ≡ false
    unfolding watched_of
    not_overstepped = simp off

    agree_undirected : Agree (geared read_list stops nx guarded) (geared read_list stops nx unguarded) m s g
    unfolding watched_of strongest_of fresh_of
    agree_undirected =
        record {
          usable = λ i. let w = g.reading.inputs in leb (nat_abs g.reading.position) 100_000_000 && (eqb (spare_of w) 0 && free (off i) (direction_bits w) && free (has_ratios m.count) (gear_number w));
          ratio = refl;
          rise = refl;
          differs = refl;
          stops = λ u. refl;
          watched = λ u. simp off;
          strongest = λ u. simp not_overstepped;
          fresh = λ u. simp not_overstepped;
          nx = λ u. refl;
        }

  module _ (da db : MachineData) (ha : Undirected da) (hb : Undirected db) where
    along_undirected : (x : Both) (rs : List CycleRecord) → AgreeAlong (geared read_list stops nx guarded) (geared read_list stops nx unguarded) da db x rs
    along_undirected x [] = tt
    along_undirected x (r ∷ rs) =
        (record { report_a = refl; report_b = refl; a = agree_undirected da ha x.a _; b = agree_undirected db hb x.b _ }, along_undirected (both_under (geared read_list stops nx guarded) da db x r) rs)

  pub running_unguarded : (a b : Channel) → Undirected a.list → Undirected b.list → (out : List ℕ) (rs : List CycleRecord) →
      running_under (geared read_list stops nx guarded) a b out rs ≡ running_under (geared read_list stops nx unguarded) a b out rs
  running_unguarded a b ha hb out rs =
      running_same (geared read_list stops nx guarded) (geared read_list stops nx unguarded) a b out rs (along_undirected a.list b.list ha hb (both_of a b) rs)

  pub listed_unguarded : (bytes : List ℕ) → UndirectedKit (words_of bytes) →
      listed_under (geared read_list stops nx guarded) bytes ≡ listed_under (geared read_list stops nx unguarded) bytes
  listed_unguarded bytes kit =
      listed_same (geared read_list stops nx guarded) (geared read_list stops nx unguarded) bytes
      (record { read_a = refl; read_b = λ n e. refl; along = λ n m ea eb rs _. along_undirected _ _ (kit.list_a n ea) (kit.list_b n m ea eb) _ rs })

-- ---- a row at the end of a table that does not stand is in no list of codes

module _ (c : Cause) (idle : c.stands ≡ false) where
  of_rank_lem : (r : ℕ) (rows : List Cause) → of_rank r (rows ++ (c ∷ [])) ≡ of_rank r rows
  unfolding of_rank
  of_rank_lem r [] = simp idle
  of_rank_lem r (x ∷ rows) = ap (λ (codes : List ℕ). cond (stands_at r x) (x.code ∷ codes) codes) (of_rank_lem r rows)

  below_any : (n : ℕ) (rows : List Cause) → below n (rows ++ (c ∷ [])) ≡ below n rows
  unfolding below
  below_any zero rows = refl
  below_any (suc n) rows = λ i. of_rank_lem n rows i ++ below_any n rows i

  idle_row : (rows : List Cause) → causes_of (rows ++ (c ∷ [])) ≡ causes_of rows
  unfolding causes_of
  idle_row rows = ap (λ (codes : List ℕ). causes_as (padded codes) (length codes)) (below_any rank_count rows)

-- ---- so a cycle, a log and a kit are as before W6

module _ (m : MachineData) (off : Undirected m) (s : State) (g : Given) where
  pub next_undirected : next m s g ≡ next_under without_w6 m s g
  next_undirected = next_now m s g ∙ next_same now without_w6 m s g (agree_undirected fault_stops steadied m off s g)

  pub word_undirected : word m s g ≡ word_under without_w6 m s g
  word_undirected = word_now m s g ∙ word_same now without_w6 m s g (agree_undirected fault_stops steadied m off s g)

  -- the codes of its causes
  pub codes_undirected : causes_in m s g ≡ causes_of (rows_under without_w6 m s g)
  unfolding causes_in
  codes_undirected =
      let same = agree_undirected fault_stops steadied m off s g in
      let table = table_under now m s g in
      ap causes_of (rows_now m s g)
      ∙ ways_to causes_of table (take 12 (table_under without_w6 m s g)) unusable_table (now.usable m g.reading) (without_w6.usable m g.reading) same.usable
      (λ u. idle_row (cause 14 (watched_under now m s g).overstepped (direction_rank m.values)) (not_overstepped fault_stops steadied m off s g) (take 12 table))

-- what an accepted log leaves: both channels and the whole output
pub running_undirected : (a b : Channel) → Undirected a.list → Undirected b.list → (out : List ℕ) (rs : List CycleRecord) →
    running a b out rs ≡ running_under without_w6 a b out rs
running_undirected a b ha hb out rs = running_now a b out rs ∙ running_unguarded fault_stops steadied a b ha hb out rs

-- a kit's listing: headed 72 without function 5, and with shorter lists
pub listed_undirected : (bytes : List ℕ) → UndirectedKit (words_of bytes) → listed bytes ≡ listed_under without_w6 bytes
listed_undirected bytes kit = listed_now bytes ∙ listed_unguarded fault_stops steadied bytes kit
