-- The channel word: document 01, "Channel word".
use Rattle.std.specs.Prelude.{ℕ, ◌+◌, ◌*◌, ◌%◌, ◌^◌, ◌≤◌, Bool, true, false, cond, ◌&&◌, List, ℤ, eqb}
use Rattle.bits.specs.Bits.{flag}
use Rattle.machine_data.specs.Data.{function_of}
use Rattle.selection.specs.declared.Selection.{Selection}
use Rattle.selection.specs.declared.Selection.TheVariants.{Nothing, Sg, Sbh}
use Rattle.selection.specs.Selection.{is_effective}
use Rattle.stop.specs.declared.Stop.{Stop}
use Rattle.stop.specs.declared.Stop.TheVariants.{Free, Braking, Held, Cancelled}
use Rattle.rank.specs.Rank.{rank_number}
use Rattle.stop.specs.Stop.{rank_of}

-- "19-20 effective SG less one, else 0"
abbrev pub shown_sg : Selection → ℕ
shown_sg Nothing = 0
shown_sg (Sg n o) = n % 4
shown_sg Sbh = 0

-- "27 held"
abbrev pub is_held : Stop → Bool
is_held Free = false
is_held (Braking r n) = false
is_held (Held r p) = true
is_held Cancelled = false

-- the parts of a word at their places: "bit 0 SBH or SG effective, 2 pulses cancelled (rank 5), 7 always 1; 8-15 cams in data order;
-- 19-20 effective SG less one, else 0; 21 n<nx; 24-26 rank, 27 held, 28 F"
abbrev pub placed : ℕ → ℕ → ℕ → ℕ → ℕ → ℕ → ℕ → ℕ → ℕ
placed effective cancelled cams sg nx rank held fault =
    effective + 2 ^ 2 * cancelled + 2 ^ 7 + 2 ^ 8 * cams + 2 ^ 19 * sg + 2 ^ 21 * nx + 2 ^ 24 * rank + 2 ^ 27 * held + 2 ^ 28 * fault

-- each part is as wide as its place
pub record Parts (effective cancelled sg nx rank held fault : ℕ) : Type 0 where
  pub one_effective : effective ≤ 1
  pub one_cancelled : cancelled ≤ 1
  pub two_sg : sg ≤ 3
  pub one_nx : nx ≤ 1
  pub three_rank : rank ≤ 7
  pub one_held : held ≤ 1
  pub one_fault : fault ≤ 1

-- "Cams and n<nx show 0 while their function is off"; there are eight cams
abbrev pub shown_cams : List ℤ → ℕ → ℕ
shown_cams d cams = cond (function_of d 2) (cams % 256) 0

-- n<nx: "show 0 while their function is off"
abbrev pub shown_nx : List ℤ → Bool → Bool
shown_nx d nx = function_of d 3 && nx

-- the word of an effective selection, a stop, F, cams and n<nx
unfoldable pub word_by : List ℤ → Selection → Stop → Bool → ℕ → Bool → ℕ
word_by d effective stop fault cams nx =
    placed
    (flag (is_effective effective))
    (flag (eqb (rank_number (rank_of stop)) 5))
    (shown_cams d cams)
    (shown_sg effective)
    (flag (shown_nx d nx))
    (rank_number (rank_of stop))
    (flag (is_held stop))
    (flag fault)
