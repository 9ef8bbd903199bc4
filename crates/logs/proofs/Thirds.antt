-- Words at every third place of an output, and the device words behind each two. Assumes nothing.
use mathlib.Core.Path.{◌≡◌, refl, sym, ap, ◌∙◌}
use mathlib.Core.List.{List, [], ◌∷◌, ◌++◌}
use Prim.Native.Nat.{ℕ, zero, suc, ◌+◌, ◌-◌, ◌*◌, ◌≤◌, ◌<◌}
use native.Mathlib.Omega.{arith}
use lib.ListN.{length, get_or, set, drop}
use Rattle.device.specs.Device.{device_of}
use Rattle.logs.specs.Alone.{thirds, with_devices}

-- what is put past three words leaves them
module _ (x y z : ℕ) where
  set_past : (l : List ℕ) (at w : ℕ) → set (x ∷ y ∷ z ∷ l) (at + 3) w ≡ x ∷ y ∷ z ∷ set l at w
  set_past l at w = let e : at + 3 ≡ suc (suc (suc at)) = omega arith in ap (λ (n : ℕ). set (x ∷ y ∷ z ∷ l) n w) e

  get_past : (l : List ℕ) (at : ℕ) → get_or (x ∷ y ∷ z ∷ l) (at + 3) 0 ≡ get_or l at 0
  get_past l at = let e : at + 3 ≡ suc (suc (suc at)) = omega arith in ap (λ (n : ℕ). get_or (x ∷ y ∷ z ∷ l) n 0) e

  thirds_past : (ws l : List ℕ) (at : ℕ) → thirds (at + 3) ws (x ∷ y ∷ z ∷ l) ≡ x ∷ y ∷ z ∷ thirds at ws l
  unfolding thirds
  thirds_past [] l at = refl
  thirds_past (w ∷ ws) l at = ap (thirds (at + 3 + 3) ws) (set_past l at w) ∙ thirds_past ws (set l at w) (at + 3)

  devices_past : (n : ℕ) (l : List ℕ) (at : ℕ) → with_devices (at + 3) n (x ∷ y ∷ z ∷ l) ≡ x ∷ y ∷ z ∷ with_devices at n l
  unfolding with_devices
  devices_past zero l at = refl
  devices_past (suc n) l at =
      let one : at + 3 + 1 ≡ at + 1 + 3 = omega arith in
      let two : at + 3 + 2 ≡ at + 2 + 3 = omega arith in
      let a : get_or (x ∷ y ∷ z ∷ l) (at + 3) 0 ≡ get_or l at 0 = get_past l at in
      let b : get_or (x ∷ y ∷ z ∷ l) (at + 3 + 1) 0 ≡ get_or l (at + 1) 0 = ap (λ (i : ℕ). get_or (x ∷ y ∷ z ∷ l) i 0) one ∙ get_past l (at + 1) in
      (λ i. with_devices (at + 3 + 3) n (set (x ∷ y ∷ z ∷ l) (two i) (device_of (a i) (b i))))
      ∙ ap (with_devices (at + 3 + 3) n) (set_past l (at + 2) (device_of (get_or l at 0) (get_or l (at + 1) 0)))
      ∙ devices_past n (set l (at + 2) (device_of (get_or l at 0) (get_or l (at + 1) 0))) (at + 3)

-- the first device word of those that are left
pub device_put : (at n : ℕ) (l : List ℕ) → 0 < n → with_devices at n l ≡ with_devices (at + 3) (n - 1) (set l (at + 2) (device_of (get_or l at 0) (get_or l (at + 1) 0)))
unfolding with_devices
device_put at zero l h = absurd (omega (arith, h))
device_put at (suc n) l h = let e : n ≡ suc n - 1 = omega arith in ap (λ (m : ℕ). with_devices (at + 3) m (set l (at + 2) (device_of (get_or l at 0) (get_or l (at + 1) 0)))) e

pub no_more : (at n : ℕ) (l : List ℕ) → n ≤ 0 → with_devices at n l ≡ l
unfolding with_devices
no_more at zero l h = refl
no_more at (suc n) l h = absurd (omega (arith, h))

-- two channels' words, and behind each two their device word
unfoldable pub tripled : List ℕ → List ℕ → List ℕ
tripled [] vs = []
tripled (a ∷ ws) [] = []
tripled (a ∷ ws) (b ∷ vs) = a ∷ b ∷ device_of a b ∷ tripled ws vs

pub together : (ws vs out : List ℕ) → length vs ≡ length ws → 3 * length ws ≤ length out →
    with_devices 0 (length ws) (thirds 1 vs (thirds 0 ws out)) ≡ tripled ws vs ++ drop (3 * length ws) out
unfolding thirds with_devices tripled
together [] [] out e h = refl
together [] (b ∷ vs) out e h = absurd (omega (arith, e))
together (a ∷ ws) [] out e h = absurd (omega (arith, e))
together (a ∷ ws) (b ∷ vs) [] e h = absurd (omega (arith, h))
together (a ∷ ws) (b ∷ vs) (x ∷ []) e h = absurd (omega (arith, h))
together (a ∷ ws) (b ∷ vs) (x ∷ y ∷ []) e h = absurd (omega (arith, h))
together (a ∷ ws) (b ∷ vs) (x ∷ y ∷ z ∷ l) e h =
    let behind : 3 * suc (length ws) ≡ suc (suc (suc (3 * length ws))) = omega arith in
    ap (λ (o : List ℕ). with_devices 0 (suc (length ws)) (thirds 1 (b ∷ vs) o)) (thirds_past a y z ws l 0)
    ∙ ap (with_devices 0 (suc (length ws))) (thirds_past a b z vs (thirds 0 ws l) 1)
    ∙ devices_past a b (device_of a b) (length ws) (thirds 1 vs (thirds 0 ws l)) 0
    ∙ ap (λ (o : List ℕ). a ∷ b ∷ device_of a b ∷ o) (together ws vs l (omega (arith, e)) (omega (arith, h)))
    ∙ ap (λ (n : ℕ). a ∷ b ∷ device_of a b ∷ (tripled ws vs ++ drop n (x ∷ y ∷ z ∷ l))) (sym behind)
