-- Of two selections that are the same SG with the same override neither is the stricter. Assumes nothing.
use mathlib.Core.Path.{◌≡◌, sym}
use mathlib.Core.Bool.{true, false}
use mathlib.Core.List.{List}
use Prim.Native.Nat.{ℕ}
use native.Mathlib.Omega.{arith}
use lib.IntN.{ℤ}
use lib.Dec.{ltb, eqb}
use borrow.Author.Tests.{le-ltb, eqb-true}
use Rattle.laws.proofs.Never.{never}
use Rattle.laws.proofs.Bools.{both}
use Rattle.speed.specs.Speed.{speed_of}
use Rattle.selection.specs.declared.Selection.{Selection}
use Rattle.selection.specs.declared.Selection.TheVariants.{Nothing, Sg, Sbh}
use Rattle.selection.specs.Selection.{stricter, same_sg}

equal : (x y : ℕ) → x ≡ y → ltb x y ≡ false
equal x y e = le-ltb x y (omega (arith, e))

pub same_no_stricter : (d : List ℤ) (s e : Selection) → same_sg s e ≡ true → false ≡ stricter d s e
unfolding stricter
same_no_stricter d Nothing e h = never (cc)
same_no_stricter d (Sg n o) Nothing h = never (cc)
same_no_stricter d (Sg n o) (Sg m p) h =
    let q = both (eqb m n) (eqb p o) h in
    sym (equal (speed_of d n o) (speed_of d m p) (λ i. speed_of d (sym (eqb-true m n q.0) i) (sym (eqb-true p o q.1) i)))
same_no_stricter d (Sg n o) Sbh h = never (cc)
same_no_stricter d Sbh e h = never (cc)
