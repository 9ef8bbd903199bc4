-- Stop ranks: document 01, "Machine data".
use Rattle.std.specs.Prelude.{ℕ, zero, suc, cond, List, ℤ, ltb}
use Rattle.machine_data.specs.Data.{number_of}
use Rattle.rank.specs.declared.Rank.{Rank}
use Rattle.rank.specs.declared.Rank.TheVariants.{None, E, D, C, B, A}

-- "Stop ranks: 0 none, 1 E, 2 D, 3 C, 4 B, 5 A"
abbrev pub rank_number : Rank → ℕ
rank_number None = 0
rank_number E = 1
rank_number D = 2
rank_number C = 3
rank_number B = 4
rank_number A = 5

-- the rank of a number; past 5, which no datum holds, it is A
abbrev pub rank_from : ℕ → Rank
rank_from zero = None
rank_from (suc zero) = E
rank_from (suc (suc zero)) = D
rank_from (suc (suc (suc zero))) = C
rank_from (suc (suc (suc (suc zero)))) = B
rank_from (suc (suc (suc (suc (suc n))))) = A

-- the stronger of two ranks
abbrev pub stronger_of : Rank → Rank → Rank
stronger_of a b = cond (ltb (rank_number a) (rank_number b)) b a

-- "29-32 | times of STOP C, D, E; B to A"; "0 for A"
abbrev pub time_of : List ℤ → Rank → ℕ
time_of d None = 0
time_of d E = number_of d 31
time_of d D = number_of d 30
time_of d C = number_of d 29
time_of d B = number_of d 32
time_of d A = 0
