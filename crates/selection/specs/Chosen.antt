-- What a usable cycle makes of the choice, in the paper's sentences: document 01, step 3. `chosen_next` in proofs/Chosen.antt shows it of the definition.
use Rattle.std.specs.Prelude.{◌-◌, ◌<◌, true, false, List, ◌⊎◌, ◌≡◌, ℤ}
use Rattle.machine_data.specs.Data.{number_of}
use Rattle.selection.specs.declared.Selection.{Selection}
use Rattle.selection.specs.declared.Choice.{Choice}
use Rattle.selection.specs.Selection.{stricter, is_sbh, delay_count}

-- of the choice x the choice y after a usable cycle with the selection s at the position
pub record Chosen (d : List ℤ) (x : Choice) (s : Selection) (position : ℤ) (y : Choice) : Type 0 where
  pub chosen : y.chosen ≡ true
  -- "The first usable selection becomes effective immediately"
  pub first : x.chosen ≡ false → (y.effective ≡ s) × (y.left ≡ 0)
  -- "as does a later one that is no stricter"; "A selection no stricter ends the count"
  pub no_stricter : stricter d s x.effective ≡ false → (y.effective ≡ s) × (y.left ≡ 0)
  -- "A stricter one sets a count to datum 27"
  pub sets : x.left ≡ 0 → delay_count d x.left ≡ number_of d 27
  -- "the count falls in later usable cycles and is not set anew by a further lowering"
  pub falls : 0 < x.left → delay_count d x.left ≡ x.left - 1
  -- while the count is above 0 what was effective stays so
  pub waits : x.chosen ≡ true → stricter d s x.effective ≡ true → 0 < delay_count d x.left →
      (y.effective ≡ x.effective) × (y.left ≡ delay_count d x.left)
  -- "at 0 the present selection becomes effective"
  pub binds : delay_count d x.left ≡ 0 → (y.effective ≡ s) × (y.left ≡ 0)
  -- so a count under way says which of the two is effective
  pub either : (y.effective ≡ x.effective) ⊎ (y.effective ≡ s)
  pub ended : y.left ≡ 0 → y.effective ≡ s
  pub going : 0 < y.left → (x.chosen ≡ true) × ((y.effective ≡ x.effective) × (y.left ≡ delay_count d x.left))
  -- "When SBH becomes effective and was not so before, its reference is the position, kept while SBH is effective"
  pub becomes : is_sbh y.effective ≡ true → is_sbh x.effective ≡ false → y.reference ≡ position
  pub kept : is_sbh x.effective ≡ true → y.reference ≡ x.reference
  pub untouched : is_sbh y.effective ≡ false → y.reference ≡ x.reference
