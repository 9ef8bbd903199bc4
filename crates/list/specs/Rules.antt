-- What a list must meet besides its data: the numbers that its head may hold, and the ends of SE. Document 01, "Words" and the refusal table, W1, W3 and W6.
use Rattle.std.specs.Prelude.{ℕ, suc, Bool, false, ◌||◌, List, [], ◌∷◌, get_or, ℤ, pos, eqb}
use Rattle.std.specs.Int.Signed.{lt_z}

abbrev pub among : ℕ → List ℕ → Bool
among n [] = false
among n (m ∷ ms) = eqb n m || among n ms

-- "list head, value 51"; W1: "the list head then says 67"; W3: two data more; W6: three more: what a head may hold, the number of its list's data
abbrev pub heads : List ℕ
heads = 51 ∷ 67 ∷ 69 ∷ 72 ∷ []

abbrev pub is_head : ℕ → Bool
is_head n = among n heads

-- an SE minus, datum k, lies below its plus, the datum behind it
abbrev pub se_below : List ℤ → ℕ → Bool
se_below vs k = lt_z (get_or vs k (pos 0)) (get_or vs (suc k) (pos 0))
