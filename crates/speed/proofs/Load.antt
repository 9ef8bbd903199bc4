-- Every speed comparison is one of the load's speed, by its value alone; with the ratio 1 to 1 it is document 01's. Assumes nothing.
use Prim.Native.Nat.{ℕ, ◌*◌, ◌%◌, ◌≤◌, ◌<◌}
use mathlib.Core.Path.{◌≡◌, refl, sym, ap, ◌∙◌, subst}
use mathlib.Core.Bool.{Bool, true, false}
use mathlib.Core.List.{List}
use native.Mathlib.Nat.{mul-one, mul_assoc, mul_right_comm, mul-pos, mul-le-mul_right, mul-lt-mul_of_pos_right, lt_of_mul-lt-mul_right}
use native.Mathlib.Omega.{arith}
use borrow.Author.Tests.{lt-ltb, ltb-true, ltb-false}
use lib.IntN.{ℤ}
use lib.Dec.{ltb}
use Rattle.machine_data.specs.declared.Ratio.{Ratio}
use Rattle.machine_data.specs.Data.{number_of, ratio_of}
use Rattle.machine_data.proofs.Bounds.{between, cycle}
use Rattle.speed.specs.declared.Step.{Step}
use Rattle.speed.specs.Speed.{speed_of, load_step, load_time, too_fast, slower_than}
use Rattle.speed.specs.Load.{Fraction, below, load_speed, sg_speed, whole_speed}

-- ---- a comparison of fractions goes by their values

same_test : (x y u v : ℕ) → (x < y → u < v) → (u < v → x < y) → ltb x y ≡ ltb u v
same_test x y u v f g = go (ltb u v) refl
  where
    go : (t : Bool) → ltb u v ≡ t → ltb x y ≡ t
    go true q = lt-ltb x y (g (ltb-true u v q))
    go false q = not_below (ltb x y) refl
      where
        not_below : (t : Bool) → ltb x y ≡ t → ltb x y ≡ false
        not_below true p = absurd (omega (arith, f (ltb-true x y p), ltb-false u v q))
        not_below false p = p

-- of two fractions of one value, against a third
module _ (a b c : Fraction) (ub : 0 < b.under) (same : a.top * b.under ≡ b.top * a.under) where
  turned : a.top * c.under * b.under ≡ b.top * c.under * a.under
  turned = mul_right_comm a.top c.under b.under ∙ ap (λ (x : ℕ). x * c.under) same ∙ mul_right_comm b.top a.under c.under

  keeps_below : a.top * c.under < c.top * a.under → b.top * c.under < c.top * b.under
  keeps_below h =
      lt_of_mul-lt-mul_right a.under
      (subst (λ (x : ℕ). x < c.top * b.under * a.under) turned
      (subst (λ (x : ℕ). a.top * c.under * b.under < x) (mul_right_comm c.top a.under b.under) (mul-lt-mul_of_pos_right h ub)))

  keeps_above : c.top * a.under < a.top * c.under → c.top * b.under < b.top * c.under
  keeps_above h =
      lt_of_mul-lt-mul_right a.under
      (subst (λ (x : ℕ). c.top * b.under * a.under < x) turned
      (subst (λ (x : ℕ). x < a.top * c.under * b.under) (mul_right_comm c.top a.under b.under) (mul-lt-mul_of_pos_right h ub)))

module _ (a b c : Fraction) (ua : 0 < a.under) (ub : 0 < b.under) (same : a.top * b.under ≡ b.top * a.under) where
  pub same_below : below a c ≡ below b c
  same_below = same_test _ _ _ _ (keeps_below a b c ub same) (keeps_below b a c ua (sym same))

  pub same_above : below c a ≡ below c b
  same_above = same_test _ _ _ _ (keeps_above a b c ub same) (keeps_above b a c ua (sym same))

-- ---- "Every speed comparison, for SG, nx and shutdown, takes the step times numerator over denominator"

module _ (d : List ℤ) (s : Step) where
  -- the load's step in mm/min, without T
  scaled : s.moved * s.ratio.numerator * 60 ≡ (load_speed d s).top
  scaled = sym (mul_right_comm s.moved 60 s.ratio.numerator)

  pub too_fast_load : (n o : ℕ) → too_fast d s n o ≡ below (sg_speed d n o) (load_speed d s)
  unfolding too_fast
  too_fast_load n o = ap (ltb (speed_of d n o * (load_speed d s).under)) (sym (mul_assoc (s.moved * s.ratio.numerator) 60 100) ∙ ap (λ (x : ℕ). x * 100) scaled)

  pub slower_load : (v : ℕ) → slower_than d s v ≡ below (load_speed d s) (whole_speed v)
  unfolding slower_than
  slower_load v = ap (λ (x : ℕ). ltb x (v * (load_speed d s).under)) (scaled ∙ sym (mul-one (load_speed d s).top))

-- what is below a speed is below every greater one
pub slower_more : (d : List ℤ) (s : Step) (v w : ℕ) → v ≤ w → slower_than d s v ≡ true → slower_than d s w ≡ true
unfolding slower_than
slower_more d s v w h t = lt-ltb (load_step s * 60) (w * load_time d s) (omega (arith, ltb-true (load_step s * 60) (v * load_time d s) t, mul-le-mul_right (load_time d s) h))

-- the lower number of each is above 0
pub ratio_under : (d : List ℤ) (g : ℕ) → 0 < (ratio_of d g).denominator
unfolding ratio_of
ratio_under d g = omega (arith, (between d 59 8 1 1000 (g % 8) tt (omega arith) (omega arith)).0)

pub load_under : (d : List ℤ) (s : Step) → 0 < s.ratio.denominator → 0 < (load_speed d s).under
load_under d s h = mul-pos (omega (arith, (cycle d).0)) h

-- so a ratio counts by its value: 2 to 4 is 1 to 2
module _ (d : List ℤ) (moved : ℕ) (r q : Ratio) (ur : 0 < r.denominator) (uq : 0 < q.denominator) (same : r.numerator * q.denominator ≡ q.numerator * r.denominator) where
  with_ratio : Ratio → Step
  with_ratio x = record { moved = moved; ratio = x }

  crossed : (x y : Ratio) → (load_speed d (with_ratio x)).top * (load_speed d (with_ratio y)).under ≡ moved * 60 * number_of d 0 * (x.numerator * y.denominator)
  unfolding with_ratio
  crossed x y =
      sym (mul_assoc (moved * 60 * x.numerator) (number_of d 0) y.denominator)
      ∙ ap (λ (z : ℕ). z * y.denominator) (mul_right_comm (moved * 60) x.numerator (number_of d 0))
      ∙ mul_assoc (moved * 60 * number_of d 0) x.numerator y.denominator

  one_speed : (load_speed d (with_ratio r)).top * (load_speed d (with_ratio q)).under ≡ (load_speed d (with_ratio q)).top * (load_speed d (with_ratio r)).under
  one_speed = crossed r q ∙ ap (λ (x : ℕ). moved * 60 * number_of d 0 * x) same ∙ sym (crossed q r)

  pub same_too_fast : (n o : ℕ) → too_fast d (record { moved = moved; ratio = r }) n o ≡ too_fast d (record { moved = moved; ratio = q }) n o
  unfolding with_ratio
  same_too_fast n o =
      too_fast_load d (with_ratio r) n o
      ∙ same_above (load_speed d (with_ratio r)) (load_speed d (with_ratio q)) (sg_speed d n o) (load_under d (with_ratio r) ur) (load_under d (with_ratio q) uq) one_speed
      ∙ sym (too_fast_load d (with_ratio q) n o)

  pub same_slower : (v : ℕ) → slower_than d (record { moved = moved; ratio = r }) v ≡ slower_than d (record { moved = moved; ratio = q }) v
  unfolding with_ratio
  same_slower v =
      slower_load d (with_ratio r) v
      ∙ same_below (load_speed d (with_ratio r)) (load_speed d (with_ratio q)) (whole_speed v) (load_under d (with_ratio r) ur) (load_under d (with_ratio q) uq) one_speed
      ∙ sym (slower_load d (with_ratio q) v)

-- ---- with the ratio 1 to 1, document 01's comparisons

abbrev pub one_to_one : Ratio
one_to_one = record { numerator = 1; denominator = 1 }

module _ (d : List ℤ) (moved : ℕ) where
  -- "|d| × 6000 > limit × percent × T"
  pub too_fast_plain : (n o : ℕ) → too_fast d (record { moved = moved; ratio = one_to_one }) n o ≡ ltb (speed_of d n o * number_of d 0) (moved * 6000)
  unfolding too_fast
  too_fast_plain n o = λ i. ltb (speed_of d n o * mul-one (number_of d 0) i) (mul-one moved i * 6000)

  -- "|d| × 60 < datum 33 × T", and the same of any speed
  pub slower_plain : (v : ℕ) → slower_than d (record { moved = moved; ratio = one_to_one }) v ≡ ltb (moved * 60) (v * number_of d 0)
  unfolding slower_than
  slower_plain v = λ i. ltb (mul-one moved i * 60) (v * mul-one (number_of d 0) i)
