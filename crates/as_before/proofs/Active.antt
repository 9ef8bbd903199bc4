-- W2: where one of SBH, SG, SE and cams is active whenever F's time is over in a usable cycle, the causes, the state, the word, a log's run and a kit's
-- listing are as they were, whatever the rule of n<nx. Assumes nothing.
use Prim.Native.Nat.{ℕ}
use mathlib.Core.Path.{◌≡◌, refl, sym, ◌∙◌, subst}
use mathlib.Core.Bool.{Bool, true, false, ◌&&◌, ◌||◌}
use mathlib.Core.List.{List, [], ◌∷◌}
use lib.Dec.{T}
use lib.IntN.{ℤ}
use Rattle.laws.proofs.Bools.{if_case, or_left, or_right}
use Rattle.machine_data.specs.declared.MachineData.{MachineData}
use Rattle.machine_data.specs.Data.{function_of}
use Rattle.usable_inputs.specs.Usable.{bits_usable, usable_of}
use Rattle.selection.specs.declared.Selection.{Selection}
use Rattle.selection.specs.Selection.{is_effective, selected_of}
use Rattle.selection.proofs.Effective.{effective_one_of}
use Rattle.fault.specs.declared.Fault.{Fault}
use Rattle.fault.specs.Fault.{expired}
use Rattle.active.specs.Active.{active, fault_stops}
use Rattle.seven.specs.declared.CycleRecord.{CycleRecord}
use Rattle.state.specs.declared.State.{State}
use Rattle.state.specs.declared.Given.{Given}
use Rattle.judge.specs.Causes.{choice_in, differences_in, fault_in, rows_of}
use Rattle.list.specs.Reading.{read_list}
use Rattle.channel.specs.declared.Channel.{Channel}
use Rattle.channel.specs.Cycle.{next}
use Rattle.channel.specs.Word.{word}
use Rattle.logs.specs.Run.{Both, given_a, given_b, device_cycle, both_of, running}
use Rattle.kit_bytes.specs.KitBytes.{words_of}
use Rattle.listing.specs.Listing.{listed}
use Rattle.as_before.specs.Rules.{Nx, geared, in_every_case, steadied, guarded, now, without_w2}
use Rattle.as_before.specs.Cycle.{rows_under, next_under, word_under}
use Rattle.as_before.specs.Runs.{running_under, listed_under}
use Rattle.as_before.specs.Kept.{Enabled, ActiveAtEnd, ActiveAtEnds, ActiveKit, Selects, SelectsAlong, EffectiveIfChosen}
use Rattle.as_before.proofs.Cycle.{Agree, rows_same, next_same, word_same, rows_now, next_now, word_now}
use Rattle.as_before.proofs.Runs.{AgreeAlong, running_same, listed_same, both_now, running_now, listed_now}

-- ---- what is active

module _ (m : MachineData) (s : State) (g : Given) where
  -- "SBH or SG is effective"
  pub effective_active : T (is_effective (choice_in m s g).effective) → ActiveAtEnd m s g
  unfolding active
  effective_active t u e = or_left (is_effective (choice_in m s g).effective) (function_of m.values 1 || function_of m.values 2) t

  -- "or SE or cams are enabled"
  pub enabled_active : Enabled m → ActiveAtEnd m s g
  unfolding active
  enabled_active t u e = or_right (is_effective (choice_in m s g).effective) (function_of m.values 1 || function_of m.values 2) t

module _ (m : MachineData) (s : State) (g : Given) (t : Selects m g.reading) (h : EffectiveIfChosen s) where
  selecting : T (usable_of m g.reading) → T (is_effective (choice_in m s g).effective)
  unfolding choice_in
  selecting u = effective_one_of (λ x. T (is_effective x)) m.values s.kept.choice (selected_of m.values g.reading.inputs) g.reading.position (t u) h

  effective_next : EffectiveIfChosen (next m s g)
  unfolding next
  effective_next = if_case EffectiveIfChosen (usable_of m g.reading) _ _ (λ u _. selecting (subst T (sym u) tt)) (λ _. h)

  selecting_active : ActiveAtEnd m s g
  selecting_active u = effective_active m s g (selecting u) u

-- ---- the rules agree

-- where one is active when F's time is over, that stops in every case
pub stops_active : (d : List ℤ) (effective : Selection) (f : Fault) → (T (expired f) → T (active d effective)) → fault_stops d effective f ≡ in_every_case d effective f
unfolding fault_stops
stops_active d effective f = go (expired f) (active d effective)
  where
    go : (a b : Bool) → (T a → T b) → a && b ≡ a
    go true true h = refl
    go true false h = absurd (h tt)
    go false b h = refl

module _ (m : MachineData) (s : State) (g : Given) (a : ActiveAtEnd m s g) where
  agree_active : (nx : Nx) → Agree (geared read_list fault_stops nx guarded) (geared read_list in_every_case nx guarded) m s g
  unfolding fault_in differences_in usable_of bits_usable
  agree_active nx =
      record {
        usable = refl;
        ratio = refl;
        rise = refl;
        differs = refl;
        stops = λ u. stops_active m.values (choice_in m s g).effective (fault_in m s g) (a (subst T (sym u) tt));
        watched = λ u. refl;
        strongest = λ u. refl;
        fresh = λ u. refl;
        nx = λ u. refl;
      }

  -- the causes, the state after the cycle and its word
  pub rows_active : rows_of m s g ≡ rows_under without_w2 m s g
  rows_active = rows_now m s g ∙ rows_same now without_w2 m s g (agree_active steadied) (λ rows. refl)

  pub next_active : next m s g ≡ next_under without_w2 m s g
  next_active = next_now m s g ∙ next_same now without_w2 m s g (agree_active steadied)

  pub word_active : word m s g ≡ word_under without_w2 m s g
  word_active = word_now m s g ∙ word_same now without_w2 m s g (agree_active steadied)

module _ (da db : MachineData) where
  along_active : (nx : Nx) (x : Both) (rs : List CycleRecord) → ActiveAtEnds da db x rs → AgreeAlong (geared read_list fault_stops nx guarded) (geared read_list in_every_case nx guarded) da db x rs
  along_active nx x [] h = tt
  along_active nx x (r ∷ rs) h = (
    record {
      report_a = refl;
      report_b = refl;
      a = agree_active da x.a (given_a da db x r) h.0 nx;
      b = agree_active db x.b (given_b da db x r) h.1 nx;
    },
    subst (λ (y : Both). AgreeAlong (geared read_list fault_stops nx guarded) (geared read_list in_every_case nx guarded) da db y rs) (both_now da db x r) (along_active nx (device_cycle da db x r).both rs h.2),
  )

  -- where SE or cams are enabled in both lists, any run
  pub enabled_along : Enabled da → Enabled db → (x : Both) (rs : List CycleRecord) → ActiveAtEnds da db x rs
  enabled_along a b x [] = tt
  enabled_along a b x (r ∷ rs) =
      (enabled_active da x.a (given_a da db x r) a, enabled_active db x.b (given_b da db x r) b, enabled_along a b (device_cycle da db x r).both rs)

  -- where every usable input word selects SBH or SG, any run
  pub selecting_along : (x : Both) → EffectiveIfChosen x.a → EffectiveIfChosen x.b → (rs : List CycleRecord) → SelectsAlong da db rs → ActiveAtEnds da db x rs
  unfolding device_cycle
  selecting_along x a b [] h = tt
  selecting_along x a b (r ∷ rs) h =
      let ga = given_a da db x r in
      let gb = given_b da db x r in (
        selecting_active da x.a ga h.0 a,
        selecting_active db x.b gb h.1 b,
        selecting_along (device_cycle da db x r).both (effective_next da x.a ga h.0 a) (effective_next db x.b gb h.1 b) rs h.2,
      )

module _ (nx : Nx) where
  pub running_in_every_case : (a b : Channel) (out : List ℕ) (rs : List CycleRecord) → ActiveAtEnds a.list b.list (both_of a b) rs →
      running_under (geared read_list fault_stops nx guarded) a b out rs ≡ running_under (geared read_list in_every_case nx guarded) a b out rs
  running_in_every_case a b out rs h =
      running_same (geared read_list fault_stops nx guarded) (geared read_list in_every_case nx guarded) a b out rs (along_active a.list b.list nx (both_of a b) rs h)

  pub listed_in_every_case : (bytes : List ℕ) → ActiveKit (words_of bytes) →
      listed_under (geared read_list fault_stops nx guarded) bytes ≡ listed_under (geared read_list in_every_case nx guarded) bytes
  listed_in_every_case bytes h =
      listed_same (geared read_list fault_stops nx guarded) (geared read_list in_every_case nx guarded) bytes
      (record { read_a = refl; read_b = λ n e. refl; along = λ n m ea eb rs e. along_active _ _ nx _ rs (h n m ea eb rs e) })

-- what an accepted log leaves: both channels and the whole output
pub running_active : (a b : Channel) (out : List ℕ) (rs : List CycleRecord) → ActiveAtEnds a.list b.list (both_of a b) rs →
    running a b out rs ≡ running_under without_w2 a b out rs
running_active a b out rs h = running_now a b out rs ∙ running_in_every_case steadied a b out rs h

-- a kit's listing
pub listed_active : (bytes : List ℕ) → ActiveKit (words_of bytes) → listed bytes ≡ listed_under without_w2 bytes
listed_active bytes h = listed_now bytes ∙ listed_in_every_case steadied bytes h
