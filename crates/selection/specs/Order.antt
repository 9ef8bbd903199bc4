-- The order of selections: document 01, step 3. `preorder` in proofs/Order.antt shows that it is one.
use Rattle.std.specs.Prelude.{ℕ, true, false, List, ◌⊎◌, ◌≡◌, ltb, ℤ}
use Rattle.speed.specs.Speed.{speed_of}
use Rattle.selection.specs.declared.Selection.{Selection}
use Rattle.selection.specs.declared.Selection.TheVariants.{Nothing, Sg, Sbh}
use Rattle.selection.specs.Selection.{stricter}

-- "Order: nothing, SG by limit × percent, SBH strictest"
pub record Preorder (d : List ℤ) : Type 0 where
  -- stricter is a strict order
  pub irreflexive : (s : Selection) → stricter d s s ≡ false
  pub transitive : (s t u : Selection) → stricter d s t ≡ true → stricter d t u ≡ true → stricter d s u ≡ true
  -- no stricter is total, and transitive
  pub connected : (s t : Selection) → (stricter d s t ≡ false) ⊎ (stricter d t s ≡ false)
  pub no_stricter : (s t u : Selection) → stricter d s t ≡ false → stricter d t u ≡ false → stricter d s u ≡ false
  -- "nothing": no selection is less strict, and each SG and SBH are stricter
  pub nothing_least : (s : Selection) → stricter d Nothing s ≡ false
  pub sg_nothing : (n o : ℕ) → stricter d (Sg n o) Nothing ≡ true
  pub sbh_nothing : stricter d Sbh Nothing ≡ true
  -- "SG by limit × percent"
  pub sg_sg : (n o m p : ℕ) → stricter d (Sg n o) (Sg m p) ≡ ltb (speed_of d n o) (speed_of d m p)
  -- "SBH strictest"
  pub sbh_sg : (n o : ℕ) → stricter d Sbh (Sg n o) ≡ true
  pub none_sbh : (s : Selection) → stricter d s Sbh ≡ false
