-- Step 5 over time: a stop that is not cleared comes a step nearer to every level in each cycle, and once there it is held, stronger or off.
-- By one number, the urgency of a stop. Assumes nothing.
use Prim.Native.Nat.{ℕ, suc, ◌+◌, ◌*◌, ◌-◌, ◌≤◌, ◌<◌}
use mathlib.Core.Bool.{Bool, true, false, cond, ◌||◌}
use mathlib.Core.List.{List}
use mathlib.Core.Logic.{◌⊎◌, inl, inr, by_cases}
use mathlib.Core.Path.{◌≡◌, refl}
use native.Mathlib.Decide.{dec_lt}
use native.Mathlib.Omega.{arith}
use borrow.Author.Tests.{ltb-true, lt-ltb, eqb-false}
use lib.Dec.{T, eqb}
use lib.IntN.{ℤ}
use Rattle.rank.specs.declared.Rank.{Rank}
use Rattle.rank.specs.declared.Rank.TheVariants.{None, E, D, C, B, A}
use Rattle.stop.specs.declared.Stop.{Stop}
use Rattle.stop.specs.declared.Stop.TheVariants.{Free, Braking, Held, Cancelled}
use Rattle.rank.specs.Rank.{rank_number, time_of}
use Rattle.stop.specs.Stop.{rank_of, level_of, outranks, entered_of, counted_of, ends_of, held_at, braked_at, at_count, settled_of, stop_next}
use Rattle.channel_word.specs.Word.{is_held}
use Rattle.laws.proofs.Bools.{if_case}
use Rattle.rank.proofs.Laws.{rank_le}
use Rattle.demand_3.proofs.OfStop.{time_most}

-- ---- the urgency of a stop: 2000 for each rank, less the cycles left

unfoldable pub urgency : Stop → ℕ
urgency Free = 0
urgency (Braking r n) = 2000 * rank_number r - n
urgency (Held r p) = 2000 * rank_number r
urgency Cancelled = 10000

level_bounds : (s : Stop) → urgency s ≤ 2000 * level_of s
unfolding urgency
level_bounds Free = omega arith
level_bounds (Braking r n) = omega arith
level_bounds (Held r p) = omega arith
level_bounds Cancelled = omega arith

-- no stop is less urgent where its count is looked at
held_urgent : (p : ℤ) (r : Rank) (n : ℕ) → urgency (Braking r n) ≤ urgency (held_at p r n)
unfolding urgency
held_urgent p r n = if_case (λ s. 2000 * rank_number r - n ≤ urgency s) (eqb n 0) _ _ (λ _. omega arith) (λ _. omega arith)

at_count_lem : (slow : Bool) (p : ℤ) (r : Rank) (n : ℕ) → urgency (Braking r n) ≤ urgency (at_count slow p r n)
unfolding urgency
at_count_lem slow p None n = omega arith
at_count_lem slow p E n = held_urgent p E n
at_count_lem slow p D n = held_urgent p D n
at_count_lem slow p C n = held_urgent p C n
at_count_lem slow p B n = if_case (λ s. 8000 - n ≤ urgency s) (ends_of slow n) _ _ (λ _. omega arith) (λ _. omega arith)
at_count_lem slow p A n = omega arith

settled : (slow : Bool) (p : ℤ) (s : Stop) → urgency s ≤ urgency (settled_of slow p s)
unfolding urgency
settled slow p Free = omega arith
settled slow p (Braking r n) = at_count_lem slow p r n
settled slow p (Held r q) = omega arith
settled slow p Cancelled = omega arith

-- ---- one cycle that does not clear

-- y is a step nearer than x to every level
abbrev pub Sooner : Stop → Stop → Type 0
Sooner x y = (k j : ℕ) → k ≤ 5 → j < 1000 → 2000 * k ≤ urgency x + suc j → 2000 * k ≤ urgency y + j

-- a stop x and the next one y, where r is the rank of the strongest cause and nothing is cleared
pub record Grown (d : List ℤ) (r : Rank) (x y : Stop) : Type 0 where
  pub entered : level_of x < rank_number r → 2000 * rank_number r ≤ urgency y + time_of d r
  pub sooner : Sooner x y

-- the stop whose count is looked at: the one entered, or the standing one with its count a cycle less
abbrev taken : List ℤ → Rank → Stop → Stop
taken d r x = cond (outranks r x) (entered_of d r) (counted_of x)

counted_sooner : (x : Stop) → Sooner x (counted_of x)
unfolding urgency
counted_sooner Free k j a b h = omega arith
counted_sooner (Braking r n) k j a b h = omega arith
counted_sooner (Held r p) k j a b h = omega arith
counted_sooner Cancelled k j a b h = omega arith

taken_sooner : (d : List ℤ) (r : Rank) (x : Stop) → Sooner x (taken d r x)
unfolding urgency
taken_sooner d r x =
    if_case (Sooner x) (outranks r x) (entered_of d r) (counted_of x)
    (λ e k j a b h. omega (arith, ltb-true (level_of x) (rank_number r) e, level_bounds x, time_most d r))
    (λ e. counted_sooner x)

taken_entered : (d : List ℤ) (r : Rank) (x : Stop) → level_of x < rank_number r → 2000 * rank_number r ≤ urgency (taken d r x) + time_of d r
unfolding urgency
taken_entered d r x h = simp (lt-ltb (level_of x) (rank_number r) h) (omega arith)

risen : (d : List ℤ) (clears : Bool) (r : Rank) (slow : Bool) (p : ℤ) (x : Stop) → clears ≡ false →
    urgency (taken d r x) ≤ urgency (stop_next d clears r slow p x)
unfolding stop_next
risen d clears r slow p x e = simp e (settled slow p (taken d r x))

pub grown : (d : List ℤ) (clears : Bool) (r : Rank) (slow : Bool) (p : ℤ) (x : Stop) → clears ≡ false → Grown d r x (stop_next d clears r slow p x)
grown d clears r slow p x e =
    record {
      entered = λ h. omega (arith, risen d clears r slow p x e, taken_entered d r x h);
      sooner = λ k j a b h. omega (arith, risen d clears r slow p x e, taken_sooner d r x k j a b h);
    }

-- pulses cancelled are as urgent as can be
pub off_grown : (d : List ℤ) (r : Rank) (x : Stop) → Grown d r x Cancelled
unfolding urgency
off_grown d r x =
    let a = rank_le r in
    record { entered = λ _. omega arith; sooner = λ k j b e h. omega arith }

-- ---- the stops before a cycle, and those that it leaves

-- before a cycle: E to B brake, with a count up to their time, and E to C are held
pub data Counting (d : List ℤ) : Stop → Type 0 where
  free : Counting d Free
  braking : {r : Rank} {n : ℕ} → 1 ≤ rank_number r → rank_number r ≤ 4 → n ≤ time_of d r → Counting d (Braking r n)
  held : {r : Rank} {p : ℤ} → 1 ≤ rank_number r → rank_number r ≤ 3 → Counting d (Held r p)
  cancelled : Counting d Cancelled

-- after it: the same, and what brakes has a count of 1 at least
pub data WellFormed (d : List ℤ) : Stop → Type 0 where
  free : WellFormed d Free
  braking : {r : Rank} {n : ℕ} → 1 ≤ rank_number r → rank_number r ≤ 4 → 1 ≤ n → n ≤ time_of d r → WellFormed d (Braking r n)
  held : {r : Rank} {p : ℤ} → 1 ≤ rank_number r → rank_number r ≤ 3 → WellFormed d (Held r p)
  cancelled : WellFormed d Cancelled

pub counting : {d : List ℤ} {s : Stop} → WellFormed d s → Counting d s
counting WellFormed.free = Counting.free
counting (WellFormed.braking a b c e) = Counting.braking a b e
counting (WellFormed.held a b) = Counting.held a b
counting WellFormed.cancelled = Counting.cancelled

held_formed : (d : List ℤ) (p : ℤ) (r : Rank) (n : ℕ) → 1 ≤ rank_number r → rank_number r ≤ 3 → n ≤ time_of d r → WellFormed d (held_at p r n)
held_formed d p r n a b h = go (eqb n 0) refl
  where
    go : (t : Bool) → eqb n 0 ≡ t → WellFormed d (cond t (Held r p) (Braking r n))
    go true q = WellFormed.held a b
    go false q = WellFormed.braking {r = r} {n = n} a (omega arith) (omega (arith, eqb-false n 0 q)) h

braked_formed : (d : List ℤ) (slow : Bool) (n : ℕ) → n ≤ time_of d B → WellFormed d (braked_at slow n)
braked_formed d slow n h = go (eqb n 0) refl slow
  where
    go : (t : Bool) → eqb n 0 ≡ t → (u : Bool) → WellFormed d (cond (t || u) Cancelled (Braking B n))
    go true q u = WellFormed.cancelled
    go false q true = WellFormed.cancelled
    go false q false = WellFormed.braking {r = B} {n = n} (omega arith) (omega arith) (omega (arith, eqb-false n 0 q)) h

at_formed : (d : List ℤ) (slow : Bool) (p : ℤ) (r : Rank) (n : ℕ) → n ≤ time_of d r → WellFormed d (at_count slow p r n)
at_formed d slow p None n h = WellFormed.free
at_formed d slow p E n h = held_formed d p E n (omega arith) (omega arith) h
at_formed d slow p D n h = held_formed d p D n (omega arith) (omega arith) h
at_formed d slow p C n h = held_formed d p C n (omega arith) (omega arith) h
at_formed d slow p B n h = braked_formed d slow n h
at_formed d slow p A n h = WellFormed.cancelled

counted_formed : (d : List ℤ) (slow : Bool) (p : ℤ) {s : Stop} → Counting d s → WellFormed d (settled_of slow p (counted_of s))
counted_formed d slow p Counting.free = WellFormed.free
counted_formed d slow p (Counting.braking {r} {n} a b h) = at_formed d slow p r (n - 1) (omega arith)
counted_formed d slow p (Counting.held a b) = WellFormed.held a b
counted_formed d slow p Counting.cancelled = WellFormed.cancelled

pub formed : (d : List ℤ) (clears : Bool) (strongest : Rank) (slow : Bool) (p : ℤ) {s : Stop} → Counting d s → WellFormed d (stop_next d clears strongest slow p s)
unfolding stop_next
formed d true strongest slow p w = WellFormed.free
formed d false strongest slow p {s} w = go (outranks strongest s)
  where
    go : (t : Bool) → WellFormed d (settled_of slow p (cond t (entered_of d strongest) (counted_of s)))
    go true = at_formed d slow p strongest (time_of d strongest) (omega arith)
    go false = counted_formed d slow p w

-- ---- what the urgency of a stop that a cycle leaves tells of it

pub held_at_last : {d : List ℤ} {s : Stop} → WellFormed d s → (r : ℕ) → 1 ≤ r → r ≤ 4 → 2000 * r ≤ urgency s →
    ((level_of s ≡ r) × T (is_held s)) ⊎ (r < level_of s)
unfolding urgency
held_at_last WellFormed.free r h k l = absurd (omega arith)
held_at_last (WellFormed.braking a b c e) r h k l = inr (omega arith)
held_at_last (WellFormed.held {r = q} a b) r h k l = by_cases (dec_lt r (rank_number q)) inr (λ e. inl (omega arith, tt))
held_at_last WellFormed.cancelled r h k l = inr (omega arith)

pub off_at_last : {d : List ℤ} {s : Stop} → WellFormed d s → 8000 ≤ urgency s → level_of s ≡ 5
unfolding urgency
off_at_last WellFormed.free l = omega arith
off_at_last (WellFormed.braking a b c e) l = omega arith
off_at_last (WellFormed.held a b) l = omega arith
off_at_last WellFormed.cancelled l = refl

-- a stop is as urgent as its rank, less its time
pub urgent : {d : List ℤ} {s : Stop} → WellFormed d s → 2000 * level_of s ≤ urgency s + time_of d (rank_of s)
unfolding urgency
urgent WellFormed.free = omega arith
urgent (WellFormed.braking a b c e) = omega arith
urgent (WellFormed.held a b) = omega arith
urgent WellFormed.cancelled = omega arith
