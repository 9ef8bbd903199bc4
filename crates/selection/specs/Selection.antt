-- Step 3 of a cycle, the selection: document 01, "One cycle of a channel".
use Rattle.std.specs.Prelude.{ℕ, zero, suc, Bool, true, false, not, cond, ◌&&◌, ◌||◌, List, ℤ, ltb, eqb}
use Rattle.machine_data.specs.Data.{number_of, function_of}
use Rattle.inputs.specs.Layout.{sbh_sg_off, sbh_off, sg_number, override_number}
use Rattle.speed.specs.Speed.{speed_of}
use Rattle.selection.specs.declared.Selection.{Selection}
use Rattle.selection.specs.declared.Selection.TheVariants.{Nothing, Sg, Sbh}
use Rattle.selection.specs.declared.Choice.{Choice}

-- "Selected: nothing if function 0 is off or input bit 0 is 1; else SBH if bit 1 is 0; else that SG"; "A selection of an SG is its number with its override number"
unfoldable pub selected_of : List ℤ → ℕ → Selection
selected_of d w =
    cond (not (function_of d 0) || sbh_sg_off w) Nothing (cond (not (sbh_off w)) Sbh (Sg (sg_number w) (override_number w)))

-- "Order: nothing, SG by limit × percent, SBH strictest", as one number: the less is allowed, the stricter. Nothing is one above the greatest
-- limit × percent, 1,000,000 × 100
abbrev pub allowance_of : List ℤ → Selection → ℕ
allowance_of d Nothing = 100_000_001
allowance_of d (Sg n o) = speed_of d n o
allowance_of d Sbh = 0

-- s is stricter than e
unfoldable pub stricter : List ℤ → Selection → Selection → Bool
stricter d s e = ltb (allowance_of d s) (allowance_of d e)

-- the same SG with the same override
abbrev pub is_sg : ℕ → ℕ → Selection → Bool
is_sg n o Nothing = false
is_sg n o (Sg m p) = eqb m n && eqb p o
is_sg n o Sbh = false

abbrev pub same_sg : Selection → Selection → Bool
same_sg Nothing e = false
same_sg (Sg n o) e = is_sg n o e
same_sg Sbh e = false

-- SBH
abbrev pub is_sbh : Selection → Bool
is_sbh Nothing = false
is_sbh (Sg n o) = false
is_sbh Sbh = true

-- "SBH or SG effective"
abbrev pub is_effective : Selection → Bool
is_effective Nothing = false
is_effective (Sg n o) = true
is_effective Sbh = true

-- "When SBH becomes effective and was not so before, its reference is the position, kept while SBH is effective"
abbrev pub reference_of : Choice → Selection → ℤ → ℤ
reference_of x s position = cond (is_sbh s && not (is_sbh x.effective)) position x.reference

-- s becomes effective; "A selection no stricter ends the count"
abbrev pub bound_of : Choice → Selection → ℤ → Choice
bound_of x s position = record { chosen = true; effective = s; reference = reference_of x s position; left = 0 }

-- "A stricter one sets a count to datum 27; the count falls in later usable cycles and is not set anew by a further lowering"
abbrev pub delay_count : List ℤ → ℕ → ℕ
delay_count d zero = number_of d 27
delay_count d (suc n) = n

-- "at 0 the present selection becomes effective"
abbrev pub waited_of : Choice → Selection → ℤ → ℕ → Choice
waited_of x s position zero = bound_of x s position
waited_of x s position (suc n) = record { chosen = true; effective = x.effective; reference = x.reference; left = suc n }

-- "The first usable selection becomes effective immediately, as does a later one that is no stricter"
unfoldable pub choice_next : List ℤ → Choice → Selection → ℤ → Choice
choice_next d x s position =
    cond (x.chosen && stricter d s x.effective) (waited_of x s position (delay_count d x.left)) (bound_of x s position)
