-- What W4 says of a list of cause codes, with nothing said of how it is made: "each code once", "strongest rank first, those without a rank last, and equal
-- ranks by code". proofs/Order.antt shows it of `causes_of`, and proofs/Only.antt that no other list has it.
use Rattle.std.specs.Prelude.{ℕ, ◌+◌, ◌<◌, ◌≡◌, cond, ◌&&◌, List, [], ◌∷◌, ◌⊎◌, eqb, length, take}
use Rattle.bits.specs.Bits.{flag}
use Rattle.rank.specs.declared.Rank.{Rank}
use Rattle.rank.specs.declared.Rank.TheVariants.{None}
use Rattle.rank.specs.Rank.{rank_number}
use Rattle.causes.specs.declared.Cause.{Cause}
use Rattle.codes.specs.declared.Causes.{Causes}
use Rattle.codes.specs.Codes.{padded}

-- how often k stands in a list of codes
unfoldable pub occurrences : ℕ → List ℕ → ℕ
occurrences k [] = 0
occurrences k (x ∷ xs) = flag (eqb x k) + occurrences k xs

-- how often k is to stand: once for each row of the table with that code that stands
unfoldable pub wanted : ℕ → List Cause → ℕ
wanted k [] = 0
wanted k (c ∷ cs) = flag (c.stands && eqb c.code k) + wanted k cs

-- the rank that a table gives a code
unfoldable pub rank_in : List Cause → ℕ → Rank
rank_in [] k = None
rank_in (c ∷ cs) k = cond (eqb c.code k) c.rank (rank_in cs k)

-- how strong the rank is that a table gives a code, 0 for none
abbrev pub strength : List Cause → ℕ → ℕ
strength rows k = rank_number (rank_in rows k)

-- code k goes before code l: "strongest rank first, those without a rank last, and equal ranks by code"
abbrev pub Before : List Cause → ℕ → ℕ → Type 0
Before rows k l = (strength rows l < strength rows k) ⊎ ((strength rows k ≡ strength rows l) × (k < l))

-- something holds of each of some numbers
abbrev pub Each : (ℕ → Type 0) → List ℕ → Type 0
Each P [] = Unit {0}
Each P (x ∷ xs) = P x × Each P xs

-- each is related to all that stand behind it
abbrev pub Sorted : (ℕ → ℕ → Type 0) → List ℕ → Type 0
Sorted R [] = Unit {0}
Sorted R (x ∷ xs) = Each (R x) xs × Sorted R xs

-- the codes of a list: the first count
abbrev pub codes_of : Causes → List ℕ
codes_of cs = take cs.count cs.codes

pub record Lists (rows : List Cause) (cs : Causes) : Type 0 where
  -- each code that stands, once, and no other
  pub each : (k : ℕ) → occurrences k (codes_of cs) ≡ wanted k rows
  pub sorted : Sorted (Before rows) (codes_of cs)
  -- as many as the count says, in 13 places, with 0 behind them
  pub count_is : cs.count ≡ length (codes_of cs)
  pub rest : cs.codes ≡ padded (codes_of cs)

-- a table whose codes rise, from above n on
abbrev pub Rising : ℕ → List Cause → Type 0
Rising n [] = Unit {0}
Rising n (c ∷ cs) = (n < c.code) × Rising c.code cs
