-- Two channels side by side, of which one commits alone: W7, "Both channels must commit between the same two cycles". Nothing here says which of them is A:
-- `one` is the channel that commits, be it A or B, and `other` the one that does not.
use Rattle.std.specs.Prelude.{ℕ, zero, suc, ◌≤◌, ◌<◌, Bool, ◌⊎◌, ◌≡◌, T}
use Rattle.bits.specs.Bits.{bit_of}
use Rattle.machine_data.specs.declared.MachineData.{MachineData}
use Rattle.machine_data.specs.Data.{entry_of}
use Rattle.inputs.specs.declared.Reading.{Reading}
use Rattle.usable_inputs.specs.Usable.{usable_of}
use Rattle.report.specs.Report.{report_of}
use Rattle.state.specs.declared.State.{State}
use Rattle.state.specs.declared.Given.{Given}
use Rattle.state.specs.State.{fresh_state}
use Rattle.commit.specs.Commit.{committed}
use Rattle.channel.specs.Cycle.{next}
use Rattle.channel.specs.Word.{word}

-- what a channel reads in cycle i, from 0, and whether the cycle is acknowledged to it
pub record Fed : Type 0 where
  pub reading : ℕ → Reading
  pub acknowledged : ℕ → Bool

-- "reports true": what a channel that reads x is given in cycle i beside one that has list m, is at k and reads y
abbrev pub given_beside : Fed → MachineData → ℕ → Fed → ℕ → Given
given_beside x m k y i = record { reading = x.reading i; acknowledged = x.acknowledged i; report = report_of m k (y.reading i) }

-- the states of both
pub record Both : Type 0 where
  pub one : State
  pub other : State

-- both have list `old`, until one of them commits `new`; it reads x and the other reads y
module _ (old new : MachineData) (x y : Fed) where
  -- what each is given in cycle i, by the states of both before it
  abbrev pub given_one : Both → ℕ → Given
  given_one b i = given_beside x old b.other.k y i

  abbrev pub given_other : Both → ℕ → Given
  given_other b i = given_beside y new b.one.k x i

  -- their words in it
  abbrev pub word_one : Both → ℕ → ℕ
  word_one b i = word new b.one (given_one b i)

  abbrev pub word_other : Both → ℕ → ℕ
  word_other b i = word old b.other (given_other b i)

  -- "alone takes a list", and "no commit follows": the states before cycle i, of one that was in state s before the commit beside one in state t
  unfoldable pub before : State → State → ℕ → Both
  before s t zero = record { one = committed new s; other = t }
  before s t (suc i) =
      let b = before s t i in
      record { one = next new b.one (given_one b i); other = next old b.other (given_other b i) }

  -- "all are usable", each by the list that its channel then has: cycle i is
  abbrev pub UsableIn : ℕ → Type 0
  UsableIn i = T (usable_of new (x.reading i)) × T (usable_of old (y.reading i))

  -- "both show F" in cycle i: "28 F"
  abbrev pub BothShow : State → State → ℕ → Type 0
  BothShow s t i = T (bit_of (word_one (before s t i) i) 28) × T (bit_of (word_other (before s t i) i) 28)

-- "a list of another head or datum", the datum as it stands
abbrev pub Another : MachineData → MachineData → Type 0
Another old new = (old.count ≡ new.count → ⊥) ⊎ ((j : ℕ) × (j < new.count) × (entry_of old.values j ≡ entry_of new.values j → ⊥))

-- "k runs over as many data as the list has": of every list that has any, k is below its count in a fresh channel, after a cycle and behind a commit
pub record KBelow (m : MachineData) : Type 0 where
  pub fresh : fresh_state.k < m.count
  pub cycle : (s : State) (g : Given) → (next m s g).k < m.count
  pub commit : (s : State) → (committed m s).k < m.count

-- "if one of two with equal lists and k alone takes a list of another head or datum, both show F within as many cycles as its head says, where all are usable,
-- reports true and no commit follows": in some cycle whose number, from 0, is below the new head both words show it. A head is at least 51, and k is below
-- it in every channel (`KBelow`). Of the two states nothing else is asked, nor of what the channels read, nor of the acknowledgements
abbrev pub LoneCommit : Type 0
LoneCommit =
    (old new : MachineData) (x y : Fed) (s t : State) → 1 ≤ new.count → s.k < old.count → s.k ≡ t.k → Another old new →
    ((i : ℕ) → i < new.count → UsableIn old new x y i) → (i : ℕ) × (i < new.count) × BothShow old new x y s t i
