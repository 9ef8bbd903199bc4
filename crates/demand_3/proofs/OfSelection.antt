-- Laws of step 3: a count is within its datum, and the effective selection is one of the last usable ones, the present one and as many before it as the
-- delay of the first of them says, or that of a list committed straight behind it. By its place among them, latest first. Assumes nothing.
use Prim.Native.Nat.{ℕ, zero, suc, ◌+◌, ◌-◌, ◌≤◌, ◌<◌, max}
use mathlib.Core.Bool.{Bool, true, false, not, cond, ◌&&◌, ◌||◌}
use mathlib.Core.List.{List, ◌∷◌, Memᴰ}
use mathlib.Core.Logic.{by_cases}
use mathlib.Core.Path.{◌≡◌, refl, sym, subst}
use native.Mathlib.Decide.{dec_le}
use native.Mathlib.Omega.{arith}
use lib.IntN.{ℤ}
use lib.ListN.{get_or, take}
use Rattle.bits.specs.Bits.{bit_of, field_of}
use Rattle.machine_data.specs.declared.MachineData.{MachineData}
use Rattle.machine_data.specs.Data.{number_of, function_of}
use Rattle.selection.specs.declared.Selection.{Selection}
use Rattle.selection.specs.declared.Selection.TheVariants.{Nothing, Sg, Sbh}
use Rattle.selection.specs.declared.Choice.{Choice}
use Rattle.selection.specs.Selection.{selected_of, stricter, bound_of, delay_count, waited_of, choice_next}
use Rattle.demand_3.specs.Claims.{sg_less_one}
use Rattle.laws.proofs.Bools.{if_case, both}

-- ---- the number of an SG

pub selected_number : (d : List ℤ) (w : ℕ) → sg_less_one (selected_of d w) < 4
unfolding selected_of field_of
selected_number d w = go (not (function_of d 0) || bit_of w 0) (not (bit_of w 1))
  where
    go : (t u : Bool) → sg_less_one (cond t Nothing (cond u Sbh (Sg (field_of w 3 4) (field_of w 28 16)))) < 4
    go true u = omega arith
    go false true = omega arith
    go false false = omega arith

-- ---- the count within its datum, or 1 where that is 0

-- the count of a lowering that goes on
fallen : (d : List ℤ) (l : ℕ) → l ≤ max 1 (number_of d 27) → delay_count d l ≤ number_of d 27
fallen d zero h = omega arith
fallen d (suc l) h = omega arith

pub delay_next : (d : List ℤ) (x : Choice) (s : Selection) (p : ℤ) → x.left ≤ max 1 (number_of d 27) → (choice_next d x s p).left ≤ max 1 (number_of d 27)
unfolding choice_next
delay_next d x s p h =
    if_case (λ (y : Choice). y.left ≤ max 1 (number_of d 27)) (x.chosen && stricter d s x.effective) _ _
    (λ _. waits (delay_count d x.left) (fallen d x.left h)) (λ _. omega arith)
  where
    waits : (n : ℕ) → n ≤ number_of d 27 → (waited_of x s p n).left ≤ max 1 (number_of d 27)
    waits zero h = omega arith
    waits (suc n) h = omega arith

-- ---- the place of the effective selection

-- of numbered cycles: what each selects, its datum 27, and the lists that are committed straight before it
module _ (selected : ℕ → Selection) (delay : ℕ → ℕ) (commits : ℕ → List MachineData) where
  -- the cycle at place i selects e
  data At (e : Selection) : ℕ → List ℕ → Type 0 where
    here : {n : ℕ} {ns : List ℕ} → e ≡ selected n → At e 0 (n ∷ ns)
    behind : {i n : ℕ} {ns : List ℕ} → At e i ns → At e (suc i) (n ∷ ns)

  -- one of these cycles selects e
  abbrev pub Selects : Selection → List ℕ → Type 0
  Selects e ns = (i : ℕ) × Memᴰ i ns × (e ≡ selected i)

  at_window : {e : Selection} {i : ℕ} {ns : List ℕ} → At e i ns → (w : ℕ) → i ≤ w → Selects e (take (suc w) ns)
  at_window (here {n = n} q) w h = (n, Memᴰ.head refl, q)
  at_window (behind t) zero h = absurd (omega arith)
  at_window (behind t) (suc w) h = let x = at_window t w (omega arith) in (x.0, Memᴰ.tail x.1, x.2)

  -- while a lowering waits, what is left and the cycles since one of them are no more than its datum 27, and than that of each list committed behind it and
  -- before the next of them, or up to cycle `now`
  pub record Placed (x : Choice) (now : ℕ) (ns : List ℕ) : Type 0 where
    place : ℕ
    at : At x.effective place ns
    room : (w : ℕ) → w < place → x.left + w ≤ delay (get_or ns w 0)
    cut : (w k : ℕ) (m : MachineData) → w < place → get_or ns w 0 < k → k ≤ get_or (now ∷ ns) w 0 → Memᴰ m (commits k) →
        x.left + w ≤ max 1 (number_of m.values 27)
    none : x.left ≡ 0 → place ≡ 0

  bound_placed : (n : ℕ) (x : Choice) (p : ℤ) (ns : List ℕ) → Placed (bound_of x (selected n) p) n (n ∷ ns)
  bound_placed n x p ns = record { place = 0; at = here refl; room = λ w h. omega arith; cut = λ w k m h. omega arith; none = λ _. refl }

  waited_placed : (d : List ℤ) (n : ℕ) → delay n ≡ number_of d 27 → (x : Choice) (p : ℤ) (ns : List ℕ) → x.left ≤ max 1 (number_of d 27) → Placed x n ns →
      Placed (waited_of x (selected n) p (delay_count d x.left)) n (n ∷ ns)
  waited_placed d n e x p ns within q = waits (delay_count d x.left) (λ w. room x.left refl within w) (λ w. cut x.left refl w)
    where
      room : (l : ℕ) → x.left ≡ l → l ≤ max 1 (number_of d 27) → (w : ℕ) → w < suc q.place → delay_count d l + w ≤ delay (get_or (n ∷ ns) w 0)
      room l r k zero h = omega (arith, fallen d l k)
      room zero r k (suc w) h = omega (arith, q.none r)
      room (suc l) r k (suc w) h = omega (arith, q.room w (omega arith))

      cut : (l : ℕ) → x.left ≡ l → (w k : ℕ) (m : MachineData) → w < suc q.place → get_or (n ∷ ns) w 0 < k → k ≤ get_or (n ∷ n ∷ ns) w 0 →
          Memᴰ m (commits k) → delay_count d l + w ≤ max 1 (number_of m.values 27)
      cut l r zero k m h a b c = absurd (omega arith)
      cut zero r (suc w) k m h a b c = omega (arith, q.none r)
      cut (suc l) r (suc w) k m h a b c = omega (arith, q.cut w k m (omega arith) a b c)

      waits : (l : ℕ) → ((w : ℕ) → w < suc q.place → l + w ≤ delay (get_or (n ∷ ns) w 0)) →
          ((w k : ℕ) (m : MachineData) → w < suc q.place → get_or (n ∷ ns) w 0 < k → k ≤ get_or (n ∷ n ∷ ns) w 0 → Memᴰ m (commits k) →
          l + w ≤ max 1 (number_of m.values 27)) →
          Placed (waited_of x (selected n) p l) n (n ∷ ns)
      waits zero h c = bound_placed n x p ns
      waits (suc l) h c = record { place = suc q.place; at = behind q.at; room = h; cut = c; none = omega arith }

  pub choice_placed : (d : List ℤ) (n : ℕ) → delay n ≡ number_of d 27 → (x : Choice) (p : ℤ) (ns : List ℕ) → x.left ≤ max 1 (number_of d 27) →
      (x.chosen ≡ true → Placed x n ns) → Placed (choice_next d x (selected n) p) n (n ∷ ns)
  unfolding choice_next
  choice_placed d n e x p ns within f =
      if_case (λ y. Placed y n (n ∷ ns)) (x.chosen && stricter d (selected n) x.effective) _ _
      (λ t. waited_placed d n e x p ns within (f (both x.chosen (stricter d (selected n) x.effective) t).0))
      (λ _. bound_placed n x p ns)

  -- a choice that keeps its effective selection, and whose count is no greater, runs on if it ran, and is within what is committed before the next cycle, keeps
  -- the place
  pub still_placed : (x y : Choice) (n : ℕ) (ns : List ℕ) → y.effective ≡ x.effective → y.left ≤ x.left → (y.left ≡ 0 → x.left ≡ 0) →
      ((m : MachineData) → Memᴰ m (commits (suc n)) → y.left ≤ max 1 (number_of m.values 27)) → Placed x n ns → Placed y (suc n) ns
  still_placed x y n ns e l z within q =
      record {
        place = q.place;
        at = subst (λ (s : Selection). At s q.place ns) (sym e) q.at;
        room = λ w h. omega (arith, q.room w h);
        cut = cut;
        none = λ h. q.none (z h);
      }
    where
      cut : (w k : ℕ) (m : MachineData) → w < q.place → get_or ns w 0 < k → k ≤ get_or (suc n ∷ ns) w 0 → Memᴰ m (commits k) →
          y.left + w ≤ max 1 (number_of m.values 27)
      cut zero k m h a b c =
          by_cases (dec_le k n) (λ i. omega (arith, q.cut 0 k m h a i c))
          (λ i. omega (arith, within m (subst (λ (j : ℕ). Memᴰ m (commits j)) (omega arith) c)))
      cut (suc w) k m h a b c = omega (arith, q.cut (suc w) k m h a b c)

  -- behind a usable cycle: w is no less than datum 27 in the cycle at place w, or of a list committed behind it and before the next
  pub data Enough (ns : List ℕ) (w : ℕ) : Type 0 where
    in_force : delay (get_or ns w 0) ≤ w → Enough ns w
    cut_by : {k : ℕ} {m : MachineData} → get_or ns w 0 < k → k ≤ get_or ns (w - 1) 0 → Memᴰ m (commits k) → number_of m.values 27 ≤ w → Enough ns w

  -- then the effective selection is one of the last of them, w and the present one
  pub placed_in : (x : Choice) (n : ℕ) (ns : List ℕ) → Placed x n ns → (w : ℕ) → Enough ns w → Selects x.effective (take (suc w) ns)
  placed_in x n ns q w h = at_window q.at w (by_cases (dec_le q.place w) (λ l. l) (λ l. near w h (omega arith)))
    where
      near : (w : ℕ) → Enough ns w → w < q.place → q.place ≤ w
      near w (in_force h) l = let r = q.room w l in omega (arith, q.none (omega arith))
      near zero (cut_by a b c h) l = absurd (omega arith)
      near (suc w) (cut_by {k = k} {m = m} a b c h) l =
          let r = q.cut (suc w) k m l a (subst (λ (j : ℕ). k ≤ get_or ns j 0) (omega arith) b) c in
          omega (arith, q.none (omega arith))
