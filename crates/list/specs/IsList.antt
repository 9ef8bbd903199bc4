-- What a list is, with nothing said of how it is read: document 01, "Words", W1 and W6.
use Rattle.std.specs.Prelude.{ℕ, suc, ◌-◌, ◌≡◌, List, [], ◌∷◌, ◌++◌, replicate, ℤ, pos, T}
use Rattle.words.specs.declared.Word.TheVariants.{Head}
use Rattle.words.specs.IsWord.{IsWord}
use Rattle.ranges.specs.Table.{data_count, allowed}
use Rattle.machine_data.specs.declared.MachineData.{MachineData}
use Rattle.datum.specs.Written.{Written}
use Rattle.list.specs.Rules.{is_head, se_below}

-- "the data in number order", each in its range: those of a list with this head from number k on and before number j, their values and their words
pub data DataTo (head j : ℕ) : ℕ → List ℤ → List ℕ → Type 0 where
  end : DataTo head j j [] []
  datum : {k : ℕ} {z : ℤ} {vs : List ℤ} {w ws : List ℕ} → Written k z w → T (allowed head k z) → DataTo head j (suc k) vs ws → DataTo head j k (z ∷ vs) (w ++ ws)

-- the values of n data, and 0 in the places of those that a longer list has besides
abbrev pub filled : ℕ → List ℤ → List ℤ
filled n vs = vs ++ replicate (data_count - n) (pos 0)

-- "A list is a head and the data in number order", as many as its head says, and each SE minus is below its plus
pub data IsList (d : MachineData) : List ℕ → Type 0 where
  list : {w : ℕ} {vs : List ℤ} {ws : List ℕ} → IsWord w (Head d.count) → T (is_head d.count) → DataTo d.count d.count 0 vs ws →
      d.values ≡ filled d.count vs → T (se_below d.values 11) → T (se_below d.values 13) → IsList d (w ∷ ws)
