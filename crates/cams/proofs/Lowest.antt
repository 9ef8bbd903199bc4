-- Positions counted from the lowest number of 32 bits, and the comparison with an edge that is made with them. Assumes nothing.
use Prim.Native.Nat.{ℕ, suc, ◌+◌, ◌*◌, ◌-◌, ◌<◌}
use mathlib.Core.Bool.{Bool, true, false, cond}
use mathlib.Core.Path.{◌≡◌, refl, sym, ◌∙◌, ap}
use native.Mathlib.Omega.{arith}
use borrow.Author.Tests.{ltb-true, ltb-false, leb-true, leb-false, lt-ltb, le-ltb}
use lib.Dec.{ltb, leb}
use lib.IntN.{ℤ, pos, negsuc, ◌+ℤ◌}
use lib.Signed.{mag, lt_z}
use mir.Syntax.{w32}
use mir.Val.{SFits, bool_byte}
use Rattle.bits.specs.Bits.{flag}
use Rattle.cams.specs.Lowest.{from_lowest}

-- two tests that say the same
same_test : (a b c d : ℕ) → (a < b → c < d) → (c < d → a < b) → ltb a b ≡ ltb c d
same_test a b c d to from = go (ltb a b) refl (ltb c d) refl
  where
    go : (t : Bool) → ltb a b ≡ t → (u : Bool) → ltb c d ≡ u → t ≡ u
    go true e true k = refl
    go true e false k = absurd (omega (arith, to (ltb-true a b e), ltb-false c d k))
    go false e true k = absurd (omega (arith, from (ltb-true c d k), ltb-false a b e))
    go false e false k = refl

-- above the edge and its tolerance, by the counts
over_counts : (edge : ℤ) (t : ℕ) (position : ℤ) → mag edge < 2147483648 → mag position < 2147483648 →
    lt_z (edge +ℤ pos t) position ≡ ltb (from_lowest edge + t) (from_lowest position)
over_counts (pos a) t (pos b) h k = same_test (a + t) b (2147483648 + a + t) (2147483648 + b) (λ l. omega arith) (λ l. omega arith)
over_counts (pos a) t (negsuc b) h k = sym (le-ltb (2147483648 + a + t) (2147483647 - b) (omega arith))
over_counts (negsuc a) t position h k = go (ltb t (suc a)) refl position k
  where
    go : (s : Bool) → ltb t (suc a) ≡ s → (p : ℤ) → mag p < 2147483648 →
        lt_z (cond s (negsuc (suc a - suc t)) (pos (t - suc a))) p ≡ ltb (2147483647 - a + t) (from_lowest p)
    go true e (pos b) m = let l = ltb-true t (suc a) e in sym (lt-ltb (2147483647 - a + t) (2147483648 + b) (omega arith))
    go true e (negsuc b) m =
        let l = ltb-true t (suc a) e in
        same_test b (suc a - suc t) (2147483647 - a + t) (2147483647 - b) (λ i. omega arith) (λ i. omega arith)
    go false e (pos b) m =
        let l = ltb-false t (suc a) e in
        same_test (t - suc a) b (2147483647 - a + t) (2147483648 + b) (λ i. omega arith) (λ i. omega arith)
    go false e (negsuc b) m = let l = ltb-false t (suc a) e in sym (le-ltb (2147483647 - a + t) (2147483647 - b) (omega arith))

-- the position p less the tolerance t, as far as it goes
module _ (p t : ℕ) where
  abbrev enough : ℕ
  enough = bool_byte (leb t p)

  abbrev reach : ℕ
  reach = (p - t * enough) * enough

  below_reach : (e : ℕ) → ltb e reach ≡ ltb (e + t) p
  below_reach e = go (leb t p) refl
    where
      go : (s : Bool) → leb t p ≡ s → ltb e ((p - t * bool_byte s) * bool_byte s) ≡ ltb (e + t) p
      go true q = let l = leb-true t p q in same_test e ((p - t * 1) * 1) (e + t) p (λ i. omega arith) (λ i. omega arith)
      go false q = let l = leb-false t p q in le-ltb e ((p - t * 0) * 0) (omega arith) ∙ sym (le-ltb (e + t) p (omega arith))

pub byte_flag : (s : Bool) → bool_byte s ≡ flag s
byte_flag true = refl
byte_flag false = refl

-- what `above` reckons
pub taken_off : (edge : ℤ) (t : ℕ) (position : ℤ) → SFits w32 edge → SFits w32 position →
    bool_byte (ltb (from_lowest edge) (reach (from_lowest position) t)) ≡ flag (lt_z (edge +ℤ pos t) position)
taken_off edge t position f g =
    byte_flag (ltb (from_lowest edge) (reach (from_lowest position) t))
    ∙ ap flag (below_reach (from_lowest position) t (from_lowest edge) ∙ sym (over_counts edge t position f.sfits g.sfits))
