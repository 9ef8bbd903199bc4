-- W3: the rules of n<nx are asked for the word alone (specs/Cycle.antt), so no cause and no state depends on them. With both data 0, and so with every list of
-- 51 or 67 data, the word, a log's run and a kit's listing are as they were, whatever the rule of cause 13. Assumes nothing.
use Prim.Native.Nat.{ℕ, ◌≤◌}
use mathlib.Core.Path.{◌≡◌, refl, ◌∙◌}
use mathlib.Core.Bool.{Bool, true, false, ◌||◌}
use mathlib.Core.List.{List, [], ◌∷◌}
use native.Mathlib.Omega.{arith}
use borrow.Author.Tests.{eqb-true}
use lib.ListN.{get_or, drop}
use lib.IntN.{pos}
use lib.Dec.{T, eqb}
use Rattle.std.specs.Prelude.{Ok}
use Rattle.machine_data.specs.declared.MachineData.{MachineData}
use Rattle.machine_data.proofs.Lacks.{lacks}
use Rattle.nx_signal.proofs.Steady.{as_before}
use Rattle.active.specs.Active.{fault_stops}
use Rattle.seven.specs.declared.CycleRecord.{CycleRecord}
use Rattle.state.specs.declared.State.{State}
use Rattle.state.specs.declared.Given.{Given}
use Rattle.judge.specs.Causes.{rows_of}
use Rattle.list.specs.Rules.{among}
use Rattle.list.specs.Reading.{read_list}
use Rattle.channel.specs.declared.Channel.{Channel}
use Rattle.channel.specs.Cycle.{next}
use Rattle.channel.specs.Word.{word}
use Rattle.logs.specs.Run.{Both, both_of, running}
use Rattle.kit_bytes.specs.KitBytes.{words_of}
use Rattle.listing.specs.Listing.{listed}
use Rattle.as_before.specs.Lists.{heads67}
use Rattle.as_before.specs.Rules.{Cause13, Guarding, geared, at_once, steadied, guarded, now, without_w3}
use Rattle.as_before.specs.Cycle.{step_under, rows_under, next_under, word_under}
use Rattle.as_before.specs.Runs.{both_under, running_under, listed_under}
use Rattle.as_before.specs.Kept.{Headed51, Headed, HeadedKit, Unsteadied, UnsteadiedKit}
use Rattle.as_before.proofs.Cycle.{Agree, word_same, rows_now, next_now, word_now}
use Rattle.as_before.proofs.Runs.{AgreeAlong, running_same, listed_same, running_now, listed_now}
use Rattle.as_before.proofs.Short.{short}

-- ---- lists without the two data

module _ (m : MachineData) (c : m.count ≤ 67) (zero-behind : (k : ℕ) → m.count ≤ k → get_or m.values k (pos 0) ≡ pos 0) where
  pub short_unsteadied : Unsteadied m
  short_unsteadied =
      record {
        no_hysteresis = lacks m.values 67 (omega arith) (omega arith) (zero-behind 67 c);
        no_filter = lacks m.values 68 (omega arith) (omega arith) (zero-behind 68 (omega (arith, c)));
      }

pub unsteadied_51 : (m : MachineData) → Headed51 m → Unsteadied m
unsteadied_51 m h = short_unsteadied m (omega (arith, h.count)) (λ k l. h.lacks k (omega (arith, h.count, l)))

-- an accepted list headed 51 or 67
pub unsteadied_67 : (s : List ℕ) (n : ℕ) → Headed heads67 s → (read_list s).answer ≡ Ok n → Unsteadied (read_list s).list
unsteadied_67 s n earlier e =
    let x = short heads67 s n earlier e in
    short_unsteadied (read_list s).list (at_most (read_list s).list.count x.0) x.2
  where
    at_most : (m : ℕ) → T (among m heads67) → m ≤ 67
    at_most m = go (eqb m 51) refl (eqb m 67) refl
      where
        go : (t : Bool) → eqb m 51 ≡ t → (u : Bool) → eqb m 67 ≡ u → T (t || (u || false)) → m ≤ 67
        go true p u q t = omega (arith, eqb-true m 51 p)
        go false p true q t = omega (arith, eqb-true m 67 q)
        go false p false q t = absurd t

-- a kit of such lists
pub unsteadied_kit : (words : List ℕ) → HeadedKit heads67 words → UnsteadiedKit words
unsteadied_kit words kit =
    record {
      list_a = λ n ea. unsteadied_67 words n kit.list_a ea;
      list_b = λ n m ea eb. unsteadied_67 (drop n words) m (kit.list_b n ea) eb;
    }

-- ---- causes and states, with any list

module _ (m : MachineData) (s : State) (g : Given) where
  pub rows_unmoved : rows_of m s g ≡ rows_under without_w3 m s g
  rows_unmoved = rows_now m s g

  pub next_unmoved : next m s g ≡ next_under without_w3 m s g
  next_unmoved = next_now m s g

-- ---- the rules agree

module _ (stops : Cause13) (w : Guarding) where
  agree_unsteadied : (m : MachineData) → Unsteadied m → (s : State) (g : Given) → Agree (geared read_list stops steadied w) (geared read_list stops at_once w) m s g
  agree_unsteadied m h s g =
      record {
        usable = refl;
        ratio = refl;
        rise = refl;
        differs = refl;
        stops = λ u. refl;
        watched = λ u. refl;
        strongest = λ u. refl;
        fresh = λ u. refl;
        nx = λ u. as_before m.values (step_under (geared read_list stops steadied w) m s g) h.no_hysteresis h.no_filter s.kept.nx;
      }

  along_unsteadied : (da db : MachineData) → Unsteadied da → Unsteadied db → (x : Both) (rs : List CycleRecord) →
      AgreeAlong (geared read_list stops steadied w) (geared read_list stops at_once w) da db x rs
  along_unsteadied da db ha hb x [] = tt
  along_unsteadied da db ha hb x (r ∷ rs) =
      (record { report_a = refl; report_b = refl; a = agree_unsteadied da ha x.a _; b = agree_unsteadied db hb x.b _ }, along_unsteadied da db ha hb (both_under (geared read_list stops steadied w) da db x r) rs)

  pub running_at_once : (a b : Channel) → Unsteadied a.list → Unsteadied b.list → (out : List ℕ) (rs : List CycleRecord) →
      running_under (geared read_list stops steadied w) a b out rs ≡ running_under (geared read_list stops at_once w) a b out rs
  running_at_once a b ha hb out rs =
      running_same (geared read_list stops steadied w) (geared read_list stops at_once w) a b out rs (along_unsteadied a.list b.list ha hb (both_of a b) rs)

  pub listed_at_once : (bytes : List ℕ) → UnsteadiedKit (words_of bytes) →
      listed_under (geared read_list stops steadied w) bytes ≡ listed_under (geared read_list stops at_once w) bytes
  listed_at_once bytes kit =
      listed_same (geared read_list stops steadied w) (geared read_list stops at_once w) bytes
      (record { read_a = refl; read_b = λ n e. refl; along = λ n m ea eb rs _. along_unsteadied _ _ (kit.list_a n ea) (kit.list_b n m ea eb) _ rs })

-- ---- so a cycle, a log and a kit are as without W3

pub word_unsteadied : (m : MachineData) → Unsteadied m → (s : State) (g : Given) → word m s g ≡ word_under without_w3 m s g
word_unsteadied m h s g = word_now m s g ∙ word_same now without_w3 m s g (agree_unsteadied fault_stops guarded m h s g)

-- what an accepted log leaves: both channels and the whole output
pub running_unsteadied : (a b : Channel) → Unsteadied a.list → Unsteadied b.list → (out : List ℕ) (rs : List CycleRecord) →
    running a b out rs ≡ running_under without_w3 a b out rs
running_unsteadied a b ha hb out rs = running_now a b out rs ∙ running_at_once fault_stops guarded a b ha hb out rs

-- a kit's listing: headed 69 or 72 with both data 0, and with shorter lists
pub listed_unsteadied : (bytes : List ℕ) → UnsteadiedKit (words_of bytes) → listed bytes ≡ listed_under without_w3 bytes
listed_unsteadied bytes kit = listed_now bytes ∙ listed_at_once fault_stops guarded bytes kit
