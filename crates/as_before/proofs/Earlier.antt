-- What several requests left as it was, together: back to document 01. Assumes nothing.
use Prim.Native.Nat.{ℕ}
use mathlib.Core.Path.{◌≡◌, refl, ◌∙◌}
use mathlib.Core.Bool.{Bool, true, false, ◌||◌}
use mathlib.Core.List.{List, [], ◌∷◌}
use lib.Dec.{T, eqb}
use lib.ListN.{drop}
use Rattle.machine_data.specs.declared.MachineData.{MachineData}
use Rattle.seven.specs.declared.CycleRecord.{CycleRecord}
use Rattle.active.specs.Active.{fault_stops}
use Rattle.state.specs.declared.State.{State}
use Rattle.state.specs.declared.Given.{Given}
use Rattle.list.specs.declared.ListRead.{ListRead}
use Rattle.list.specs.Reading.{read_list}
use Rattle.channel.specs.declared.Channel.{Channel}
use Rattle.logs.specs.Run.{Both, both_of, running}
use Rattle.kit_bytes.specs.KitBytes.{words_of}
use Rattle.listing.specs.Listing.{listed}
use Rattle.as_before.specs.Lists.{heads51, heads67, heads69, read67, read69}
use Rattle.as_before.specs.Rules.{Cause13, Nx, Guarding, geared, in_every_case, at_once, steadied, guarded, unguarded, before_w6, before_w3, before_w2, document01}
use Rattle.as_before.specs.Runs.{both_under, running_under, listed_under}
use Rattle.as_before.specs.Kept.{Headed51, Headed, HeadedKit, ActiveAtEnds, ActiveKit, Unsteadied, Undirected}
use Rattle.as_before.proofs.Lists.{read_67, read_69}
use Rattle.as_before.proofs.Cycle.{Agree}
use Rattle.as_before.proofs.Runs.{AgreeAlong, running_same, listed_same, running_now}
use Rattle.as_before.proofs.Headed51.{running_ungeared, listed_ungeared}
use Rattle.as_before.proofs.Active.{running_in_every_case, listed_in_every_case}
use Rattle.as_before.proofs.Steadied.{unsteadied_51, unsteadied_kit, running_at_once, listed_unsteadied}
use Rattle.as_before.proofs.Directed.{undirected_kit, running_unguarded, listed_unguarded, running_undirected, listed_undirected}

-- ---- another way to read lists

module _ (read : List ℕ → ListRead) (stops : Cause13) (nx : Nx) (guard : Guarding) where
  along_read : (da db : MachineData) (x : Both) (rs : List CycleRecord) → AgreeAlong (geared read_list stops nx guard) (geared read stops nx guard) da db x rs
  along_read da db x [] = tt
  along_read da db x (r ∷ rs) =
      let same : (m : MachineData) (s : State) (g : Given) → Agree (geared read_list stops nx guard) (geared read stops nx guard) m s g =
      λ m s g. record { usable = refl; ratio = refl; rise = refl; differs = refl; stops = λ u. refl; watched = λ u. refl; strongest = λ u. refl; fresh = λ u. refl; nx = λ u. refl } in
      (record { report_a = refl; report_b = refl; a = same da x.a _; b = same db x.b _ }, along_read da db (both_under (geared read_list stops nx guard) da db x r) rs)

  -- a log's run does not ask for it
  running_read : (a b : Channel) (out : List ℕ) (rs : List CycleRecord) → running_under (geared read_list stops nx guard) a b out rs ≡ running_under (geared read stops nx guard) a b out rs
  running_read a b out rs = running_same (geared read_list stops nx guard) (geared read stops nx guard) a b out rs (along_read a.list b.list (both_of a b) rs)

  -- a kit whose lists it reads alike
  listed_read : (heads : List ℕ) → ((s : List ℕ) → Headed heads s → read_list s ≡ read s) → (bytes : List ℕ) → HeadedKit heads (words_of bytes) →
      listed_under (geared read_list stops nx guard) bytes ≡ listed_under (geared read stops nx guard) bytes
  listed_read heads alike bytes kit =
      let words = words_of bytes in
      listed_same (geared read_list stops nx guard) (geared read stops nx guard) bytes
      (record { read_a = alike words kit.list_a; read_b = λ n ea. alike (drop n words) (kit.list_b n ea); along = λ n m ea eb rs _. along_read _ _ _ rs })

-- a kit with heads that are also among later ones
module _ {heads later : List ℕ} (among_later : (s : List ℕ) → Headed heads s → Headed later s) where
  later_kit : (words : List ℕ) → HeadedKit heads words → HeadedKit later words
  later_kit words kit = record { list_a = among_later words kit.list_a; list_b = λ n ea. among_later (drop n words) (kit.list_b n ea) }

-- a head that is 51 is one of 51 and 67, and one of these is one of 51, 67 and 69
later_67 : (s : List ℕ) → Headed heads51 s → Headed heads67 s
later_67 s h n word t = go (eqb n 51) (h n word t)
  where
    go : (b : Bool) → T (b || false) → T (b || (eqb n 67 || false))
    go true x = tt
    go false x = absurd x

later_69 : (s : List ℕ) → Headed heads67 s → Headed heads69 s
later_69 s h n word t = go (eqb n 51) (eqb n 67) (h n word t)
  where
    go : (a b : Bool) → T (a || (b || false)) → T (a || (b || (eqb n 69 || false)))
    go true b x = tt
    go false true x = tt
    go false false x = absurd x

-- ---- before W6: with lists without function 5

pub running_w6 : (a b : Channel) → Undirected a.list → Undirected b.list → (out : List ℕ) (rs : List CycleRecord) → running a b out rs ≡ running_under before_w6 a b out rs
running_w6 a b ha hb out rs = running_undirected a b ha hb out rs ∙ running_read read69 fault_stops steadied unguarded a b out rs

pub listed_69 : (bytes : List ℕ) → HeadedKit heads69 (words_of bytes) → listed bytes ≡ listed_under before_w6 bytes
listed_69 bytes kit = listed_undirected bytes (undirected_kit (words_of bytes) kit) ∙ listed_read read69 fault_stops steadied unguarded heads69 read_69 bytes kit

-- ---- before W3: with both of its data 0 besides

pub running_w3 : (a b : Channel) → Undirected a.list → Undirected b.list → Unsteadied a.list → Unsteadied b.list → (out : List ℕ) (rs : List CycleRecord) →
    running a b out rs ≡ running_under before_w3 a b out rs
running_w3 a b da db ha hb out rs =
    running_now a b out rs
    ∙ running_at_once fault_stops guarded a b ha hb out rs
    ∙ running_unguarded fault_stops at_once a b da db out rs
    ∙ running_read read67 fault_stops at_once unguarded a b out rs

pub listed_67 : (bytes : List ℕ) → HeadedKit heads67 (words_of bytes) → listed bytes ≡ listed_under before_w3 bytes
listed_67 bytes kit =
    listed_unsteadied bytes (unsteadied_kit (words_of bytes) kit)
    ∙ listed_unguarded fault_stops at_once bytes (undirected_kit (words_of bytes) (later_kit later_69 (words_of bytes) kit))
    ∙ listed_read read67 fault_stops at_once unguarded heads67 read_67 bytes kit

-- ---- before W2: where one is active whenever F's time is over

pub running_w2 : (a b : Channel) → Undirected a.list → Undirected b.list → Unsteadied a.list → Unsteadied b.list → (out : List ℕ) (rs : List CycleRecord) →
    ActiveAtEnds a.list b.list (both_of a b) rs → running a b out rs ≡ running_under before_w2 a b out rs
running_w2 a b da db ha hb out rs h =
    running_now a b out rs
    ∙ running_at_once fault_stops guarded a b ha hb out rs
    ∙ running_in_every_case at_once a b out rs h
    ∙ running_unguarded in_every_case at_once a b da db out rs
    ∙ running_read read67 in_every_case at_once unguarded a b out rs

pub listed_w2 : (bytes : List ℕ) → HeadedKit heads67 (words_of bytes) → ActiveKit (words_of bytes) → listed bytes ≡ listed_under before_w2 bytes
listed_w2 bytes kit h =
    listed_unsteadied bytes (unsteadied_kit (words_of bytes) kit)
    ∙ listed_in_every_case at_once bytes h
    ∙ listed_unguarded in_every_case at_once bytes (undirected_kit (words_of bytes) (later_kit later_69 (words_of bytes) kit))
    ∙ listed_read read67 in_every_case at_once unguarded heads67 read_67 bytes kit

-- ---- with lists headed 51 besides, all is as document 01 has it

pub running_01 : (a b : Channel) → Headed51 a.list → Headed51 b.list → (out : List ℕ) (rs : List CycleRecord) →
    ActiveAtEnds a.list b.list (both_of a b) rs → running a b out rs ≡ running_under document01 a b out rs
running_01 a b ha hb out rs h =
    running_now a b out rs
    ∙ running_at_once fault_stops guarded a b (unsteadied_51 a.list ha) (unsteadied_51 b.list hb) out rs
    ∙ running_in_every_case at_once a b out rs h
    ∙ running_unguarded in_every_case at_once a b ha.no_direction_lem hb.no_direction_lem out rs
    ∙ running_ungeared in_every_case at_once unguarded a b ha hb refl refl out rs

pub listed_01 : (bytes : List ℕ) → HeadedKit heads51 (words_of bytes) → ActiveKit (words_of bytes) → listed bytes ≡ listed_under document01 bytes
listed_01 bytes kit h =
    let kit-67 = later_kit later_67 (words_of bytes) kit in
    listed_unsteadied bytes (unsteadied_kit (words_of bytes) kit-67)
    ∙ listed_in_every_case at_once bytes h
    ∙ listed_unguarded in_every_case at_once bytes (undirected_kit (words_of bytes) (later_kit later_69 (words_of bytes) kit-67))
    ∙ listed_ungeared in_every_case at_once unguarded bytes kit (λ d off. refl)
