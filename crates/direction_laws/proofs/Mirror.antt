-- "the negative is its mirror": a direction with the other sign, at the opposite position, does what this one does, by the one law of the sign. Assumes nothing.
use Prim.Native.Nat.{ℕ}
use mathlib.Core.Bool.{Bool, true, false, cond}
use mathlib.Core.List.{List}
use mathlib.Core.Path.{◌≡◌, refl, ap, ◌∙◌}
use Rattle.std.specs.Prelude.{Option, None, Some}
use lib.Dec.{ltb}
use lib.IntN.{ℤ, pos, neg_ℤ}
use lib.Signed.{lt_z}
use Rattle.machine_data.specs.Data.{number_of}
use Rattle.runs.specs.Run.{run_next}
use Rattle.direction.specs.declared.Sign.{Sign}
use Rattle.direction.specs.declared.Direction.{Direction}
use Rattle.direction.specs.Direction.{ahead, furthest, watch_next, direction_next, beyond_by}
use Rattle.direction_laws.proofs.Signs.{opposite, mirror}

abbrev mirrored_watch : Option ℤ → Option ℤ
mirrored_watch None = None
mirrored_watch (Some extreme) = Some (neg_ℤ extreme)

abbrev mirrored : Direction → Direction
mirrored x = record { run = x.run; watch = mirrored_watch x.watch }

module _ (d : List ℤ) (sign : Sign) (p : ℤ) where
  mirrored_furthest : (e : ℤ) → furthest (opposite sign) (neg_ℤ e) (neg_ℤ p) ≡ neg_ℤ (furthest sign e p)
  unfolding furthest
  mirrored_furthest e = ap (λ (z : ℤ). cond (lt_z (pos 0) z) (neg_ℤ p) (neg_ℤ e)) (mirror sign p e) ∙ go (lt_z (pos 0) (ahead sign p e))
    where
      go : (t : Bool) → cond t (neg_ℤ p) (neg_ℤ e) ≡ neg_ℤ (cond t p e)
      go true = refl
      go false = refl

  mirrored_watch_lem : (run : ℕ) (w : Option ℤ) → watch_next d (opposite sign) run (neg_ℤ p) (mirrored_watch w) ≡ mirrored_watch (watch_next d sign run p w)
  mirrored_watch_lem run None = go (ltb (number_of d 70) run)
    where
      go : (t : Bool) → cond t (Some (neg_ℤ p)) None ≡ mirrored_watch (cond t (Some p) None)
      go true = refl
      go false = refl
  mirrored_watch_lem run (Some e) = ap Some (mirrored_furthest e)

  pub mirrored_next : (free : Bool) (x : Direction) → direction_next d (opposite sign) free (neg_ℤ p) (mirrored x) ≡ mirrored (direction_next d sign free p x)
  unfolding direction_next
  mirrored_next true x = refl
  mirrored_next false x = λ i. record { run = run_next true x.run; watch = mirrored_watch_lem (run_next true x.run) x.watch i }

  pub mirrored_beyond : (w : Option ℤ) → beyond_by d (opposite sign) (neg_ℤ p) (mirrored_watch w) ≡ beyond_by d sign p w
  mirrored_beyond None = refl
  mirrored_beyond (Some e) = ap (lt_z (pos (number_of d 69))) (mirror sign e p)
