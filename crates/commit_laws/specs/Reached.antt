-- How late a lone commit may show: the bound of W7, "within as many cycles as its head says", is reached. Cycles count from 0.
use Rattle.std.specs.Prelude.{ℕ, zero, suc, ◌-◌, ◌<◌, Bool, false, List, [], ◌∷◌, ◌++◌, ◌≡◌, T, ℤ, pos, set, replicate}
use Rattle.std.specs.Int.Signed.{lt_z}
use Rattle.bits.specs.Bits.{bit_of}
use Rattle.ranges.specs.Table.{data_count, low_of}
use Rattle.machine_data.specs.declared.MachineData.{MachineData}
use Rattle.machine_data.specs.Data.{entry_of, InRanges}
use Rattle.inputs.specs.declared.Reading.{Reading}
use Rattle.state.specs.declared.State.{State}
use Rattle.state.specs.State.{fresh_state}
use Rattle.commit_laws.specs.LoneCommit.{Fed, word_one, word_other, before, UsableIn, BothShow}

-- neither shows F in cycle i
abbrev pub NeitherShows : MachineData → MachineData → Fed → Fed → State → State → ℕ → Type 0
NeitherShows old new x y s t i =
    let b = before old new x y s t i in
    (bit_of (word_one old new x y b i) 28 ≡ false) × (bit_of (word_other old new x y b i) 28 ≡ false)

-- what a channel reads, and when it is acknowledged
abbrev pub fed : (ℕ → Reading) → (ℕ → Bool) → Fed
fed r a = record { reading = r; acknowledged = a }

-- of lists of the same head that are the same before datum j, F off in both channels and k at 0, and readings that are the same in both: neither shows F
-- before cycle j. Where datum j is the last one, j is the head less one: the last cycle within as many as the head says
abbrev pub NotBefore : Type 0
NotBefore =
    (old new : MachineData) (r : ℕ → Reading) (a b : ℕ → Bool) (s t : State) (j : ℕ) → old.count ≡ new.count →
    ((k : ℕ) → k < j → entry_of old.values k ≡ entry_of new.values k) → s.k ≡ 0 → t.k ≡ 0 → s.kept.fault.on ≡ false → t.kept.fault.on ≡ false →
    (i : ℕ) → i < j → NeitherShows old new (fed r a) (fed r b) s t i

-- ---- two lists headed 51 that differ in their last datum alone

-- n data from number k on, each the lowest
abbrev pub lowest : ℕ → ℕ → List ℤ
lowest zero k = []
lowest (suc n) k = low_of k ∷ lowest n (suc k)

-- no function; both SE from end to end of their range; else the lowest. Behind the data 0, as in every list that is not the longest
unfoldable pub base : List ℤ
base = set (set (lowest 51 0) 12 (pos 100_000_000)) 14 (pos 100_000_000) ++ replicate (data_count - 51) (pos 0)

-- datum 50, the percent of the last override, is p
abbrev pub list_of : ℕ → MachineData
list_of p = record { values = set base 50 (pos p); count = 51 }

abbrev pub old : MachineData
old = list_of 100

abbrev pub new : MachineData
new = list_of 50

-- the axis stands at 0 with every input bit 0, and nothing is acknowledged
abbrev pub still : Fed
still = fed (λ i. record { position = pos 0; inputs = 0 }) (λ i. false)

-- what is asked of the data of every list
pub record Proper (m : MachineData) : Type 0 where
  pub in_ranges : InRanges m
  pub se_1 : T (lt_z (entry_of m.values 11) (entry_of m.values 12))
  pub se_2 : T (lt_z (entry_of m.values 13) (entry_of m.values 14))

-- two fresh channels: one of them commits alone, each cycle is usable, and both show F in cycle 50, the 51st, and neither does in any before it
pub record Reached : Type 0 where
  pub old_proper : Proper old
  pub new_proper : Proper new
  pub usable : (i : ℕ) → UsableIn old new still still i
  pub not_before : (i : ℕ) → i < 50 → NeitherShows old new still still fresh_state fresh_state i
  pub in_the_last : BothShow old new still still fresh_state fresh_state 50
