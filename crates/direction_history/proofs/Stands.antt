-- Cause 14 and the watches stand where W6 says so of the cycles, and only there: by the law of a direction over numbered cycles, for either sign, of the
-- directions that cycles alone make from none on; those of a history are the same as long as no commit ends them. Assumes nothing.
use Rattle.std.specs.Prelude.{Option, None, Some, is_some}
use Prim.Native.Nat.{ℕ, zero, suc, ◌+◌, ◌≤◌, min}
use mathlib.Core.Bool.{Bool, true, false, cond, ◌&&◌, ◌||◌}
use mathlib.Core.List.Memᴰ
use mathlib.Core.List.{List, [], ◌∷◌, Memᴰ}
use mathlib.Core.Logic.{◌⊎◌, inl, inr, by_cases}
use mathlib.Core.Path.{◌≡◌, refl, sym, ap, ◌∙◌, subst}
use native.Mathlib.Decide.{dec_le}
use native.Mathlib.Omega.{arith}
use lib.Dec.{T}
use lib.IntN.{ℤ}
use lib.Ieee.Fits.{and_i}
use Rattle.laws.proofs.Bools.{and_false, or_left, or_right}
use Rattle.machine_data.specs.declared.MachineData.{MachineData}
use Rattle.machine_data.specs.Data.{number_of, function_of}
use Rattle.usable_inputs.specs.Usable.{usable_of}
use Rattle.runs.specs.Running.{Running}
use Rattle.runs.specs.Since.{SetSince}
use Rattle.direction.specs.declared.Sign.{Sign}
use Rattle.direction.specs.declared.Sign.TheVariants.{Positive, Negative}
use Rattle.direction.specs.declared.Direction.{Direction}
use Rattle.directions.specs.declared.Directions.{Directions}
use Rattle.direction.specs.Direction.{no_direction, direction_next, beyond_by}
use Rattle.directions.specs.Directions.{no_directions, directions_next, overstepped, watched_of}
use Rattle.direction_laws.specs.Since.{bound, Beyond}
use Rattle.direction_laws.proofs.Since as D
use Rattle.state.specs.declared.State.{State}
use Rattle.state.specs.declared.Given.{Given}
use Rattle.state.specs.State.{fresh_state}
use Rattle.judge.specs.Causes.{usable_rows, rows_of}
use Rattle.commit.specs.Commit.{committed}
use Rattle.channel.specs.Cycle.{next}
use Rattle.demand_3.specs.History.{last_of, all_committed, list_in, before}
use Rattle.demand_3.specs.Claims.{usable_in, cause_of}
use Rattle.direction_history.specs.Stands.{Directed, Undirected, of_sign, watching_in, free_in, position_in, delay_in, OversteppedIn, Begins, at_first, ended, From, Reached, list_from, given_from, found, left, WatchedAfter, Cause14, WatchStands, WatchRuns, NoneStands}

-- ---- a cycle

module _ (m : MachineData) (s : State) (g : Given) where
  abbrev d : List ℤ
  d = m.values

  abbrev moves : Bool
  moves = usable_of m g.reading && function_of d 5

  abbrev met : Directions
  met = s.kept.directions

  next_directions : (next m s g).kept.directions ≡ cond moves (directions_next d g.reading met) met
  unfolding next watched_of
  next_directions = go (usable_of m g.reading) refl (function_of d 5) refl
    where
      go : (u : Bool) → usable_of m g.reading ≡ u → (f : Bool) → function_of d 5 ≡ f →
          (next m s g).kept.directions ≡ cond (u && f) (directions_next d g.reading met) met
      go true p true q = simp (p, q)
      go true p false q = simp (p, q)
      go false p f q = simp p

  -- cause 14 goes by the watches that the cycle leaves
  stands_14 : (cause_of 14 (rows_of m s g)).stands ≡ moves && overstepped d g.reading.position (next m s g).kept.directions
  unfolding next watched_of rows_of usable_rows cause_of
  stands_14 = go (usable_of m g.reading) refl (function_of d 5) refl
    where
      go : (u : Bool) → usable_of m g.reading ≡ u → (f : Bool) → function_of d 5 ≡ f →
          (cause_of 14 (rows_of m s g)).stands ≡ (u && f) && overstepped d g.reading.position (next m s g).kept.directions
      go true p true q = simp (p, q)
      go true p false q = simp (p, q)
      go false p f q = simp p

-- ---- numbered cycles from one before which there are no directions: what a cycle finds of them is what the one before left

part : {X Y : Type 0} (f : X → Y) (u : Bool) (x y : X) → f (cond u x y) ≡ cond u (f x) (f y)
part f true x y = refl
part f false x y = refl

of_sign_lem : (f : Sign → Bool) (sign : Sign) → T (f sign) → T (f Positive || f Negative)
of_sign_lem f Positive t = or_left (f Positive) (f Negative) t
of_sign_lem f Negative t = or_right (f Positive) (f Negative) t

module _ (L : ℕ → MachineData) (G : ℕ → Given) where
  directions_at : ℕ → Directions
  directions_at zero = no_directions
  directions_at (suc n) = cond (watching_in L G n) (directions_next (L n).values (G n).reading (directions_at n)) (directions_at n)

  abbrev direction_before : Sign → ℕ → Direction
  direction_before sign n = of_sign sign (directions_at n)

  fresh : (sign : Sign) → direction_before sign 0 ≡ no_direction
  unfolding directions_at
  fresh Positive = refl
  fresh Negative = refl

  -- what a cycle makes of a direction by the data d
  abbrev turned : List ℤ → Sign → ℕ → Direction → Direction
  turned d sign n x = direction_next d sign (free_in L G sign n) (position_in L G n) x

  direction_at : (sign : Sign) (n : ℕ) →
      direction_before sign (suc n) ≡ cond (watching_in L G n) (turned (L n).values sign n (direction_before sign n)) (direction_before sign n)
  unfolding directions_at directions_next
  direction_at Positive n = part (of_sign Positive) (watching_in L G n) _ _
  direction_at Negative n = part (of_sign Negative) (watching_in L G n) _ _

  module _ (sign : Sign) where
    beyond_since : (n : ℕ) → T (beyond_by (L n).values sign (position_in L G n) (direction_before sign (suc n)).watch) →
        Beyond (watching_in L G) (free_in L G sign) (position_in L G) (delay_in L G) sign (number_of (L n).values 69) n
    beyond_since = D.beyond_since (watching_in L G) (free_in L G sign) (position_in L G) (λ n. (L n).values) sign (direction_before sign) (fresh sign) (direction_at sign)

    since_beyond : (n : ℕ) → Beyond (watching_in L G) (free_in L G sign) (position_in L G) (delay_in L G) sign (number_of (L n).values 69) n →
        T (beyond_by (L n).values sign (position_in L G n) (direction_before sign (suc n)).watch)
    since_beyond = D.since_beyond (watching_in L G) (free_in L G sign) (position_in L G) (λ n. (L n).values) sign (direction_before sign) (fresh sign) (direction_at sign)

    watch_set : (n : ℕ) → SetSince (watching_in L G) (bound (free_in L G sign)) (free_in L G sign) (delay_in L G) n → T (is_some (direction_before sign (suc n)).watch)
    watch_set = D.watch_set (watching_in L G) (free_in L G sign) (position_in L G) (λ n. (L n).values) sign (direction_before sign) (fresh sign) (direction_at sign)

    set_watch : (n : ℕ) → T (is_some (direction_before sign (suc n)).watch) → SetSince (watching_in L G) (bound (free_in L G sign)) (free_in L G sign) (delay_in L G) n
    set_watch = D.set_watch (watching_in L G) (free_in L G sign) (position_in L G) (λ n. (L n).values) sign (direction_before sign) (fresh sign) (direction_at sign)

  -- a direction is overstepped in cycle n, by the directions that it leaves
  abbrev overstepped_at : ℕ → Bool
  overstepped_at n = watching_in L G n && overstepped (L n).values (position_in L G n) (directions_at (suc n))

  overstepped_there : (n : ℕ) → T (overstepped_at n) → OversteppedIn L G n
  unfolding overstepped
  overstepped_there n t = there (watching_in L G n) refl _ refl _ refl t
    where
      there : (u : Bool) → watching_in L G n ≡ u →
          (a : Bool) → beyond_by (L n).values Positive (position_in L G n) (direction_before Positive (suc n)).watch ≡ a →
          (b : Bool) → beyond_by (L n).values Negative (position_in L G n) (direction_before Negative (suc n)).watch ≡ b → T (u && (a || b)) → OversteppedIn L G n
      there true p true q b r t = record { watching = subst T (sym p) tt; sign = Positive; beyond = beyond_since Positive n (subst T (sym q) tt) }
      there true p false q true r t = record { watching = subst T (sym p) tt; sign = Negative; beyond = beyond_since Negative n (subst T (sym r) tt) }
      there true p false q false r t = absurd t
      there false p a q b r t = absurd t

  overstepped_back : (n : ℕ) → OversteppedIn L G n → T (overstepped_at n)
  unfolding overstepped
  overstepped_back n o =
      and_i (watching_in L G n) (overstepped (L n).values (position_in L G n) (directions_at (suc n))) o.watching
      (of_sign_lem (λ sign. beyond_by (L n).values sign (position_in L G n) (direction_before sign (suc n)).watch) o.sign (since_beyond o.sign n o.beyond))

-- ---- with the function on and one delay, in the cycles up to i

and_true : (a : Bool) → a && true ≡ a
and_true true = refl
and_true false = refl

module _ (L : ℕ → MachineData) (G : ℕ → Given) (i t : ℕ) (one : (k : ℕ) → k ≤ i → Directed (L k) × (number_of (L k).values 70 ≡ t)) (sign : Sign) where
  -- the data of cycle n, and from i on those of i
  abbrev data_at : ℕ → List ℤ
  data_at n = (L (min n i)).values

  counted : ℕ → Direction
  counted zero = no_direction
  counted (suc n) = cond (usable_in L G n) (turned L G (data_at n) sign n (counted n)) (counted n)

  goes : (n : ℕ) → counted (suc n) ≡ cond (usable_in L G n) (turned L G (data_at n) sign n (counted n)) (counted n)
  unfolding counted
  goes n = refl

  abbrev met_at : ℕ → Direction
  met_at n = direction_before L G sign n

  -- every usable cycle counts
  counts : (n : ℕ) → n ≤ i → met_at (suc n) ≡ cond (usable_in L G n) (turned L G (data_at n) sign n (met_at n)) (met_at n)
  counts n h = direction_at L G sign n ∙ (λ j. cond (watches j) (turned L G (data_is j) sign n (met_at n)) (met_at n))
    where
      watches : watching_in L G n ≡ usable_in L G n
      watches = ap (λ (f : Bool). usable_in L G n && f) (one n h).0 ∙ and_true (usable_in L G n)

      data_is : (L n).values ≡ data_at n
      data_is = let e : n ≡ min n i = omega (arith, h) in ap (λ k. (L k).values) e

  same : (n : ℕ) → n ≤ suc i → counted n ≡ met_at n
  unfolding counted
  same zero h = sym (fresh L G sign)
  same (suc n) h =
      ap (λ x. cond (usable_in L G n) (turned L G (data_at n) sign n x) x) (same n (omega (arith, h))) ∙ sym (counts n (omega (arith, h)))

  none : counted 0 ≡ no_direction
  unfolding counted
  none = refl

  delays : (n : ℕ) → number_of (data_at n) 70 ≡ t
  delays n = (one (min n i) (omega arith)).1

  watch_running : T (usable_in L G i) → T (is_some (met_at (suc i)).watch) → Running (usable_in L G) (bound (free_in L G sign)) t i
  watch_running u h =
      D.watch_running (usable_in L G) (free_in L G sign) (position_in L G) data_at sign counted none goes t delays i u
      (subst (λ (x : Direction). T (is_some x.watch)) (sym (same (suc i) (omega arith))) h)

  running_watch : Running (usable_in L G) (bound (free_in L G sign)) t i → T (is_some (met_at (suc i)).watch)
  running_watch r =
      subst (λ (x : Direction). T (is_some x.watch)) (same (suc i) (omega arith))
      (D.running_watch (usable_in L G) (free_in L G sign) (position_in L G) data_at sign counted none goes t delays i r)

-- ---- commits

commit_directions : (m : MachineData) (s : State) → (committed m s).kept.directions ≡ cond (function_of m.values 5) s.kept.directions no_directions
unfolding committed
commit_directions m s = refl

-- of lists that have the function, and of some among which one has not
all_on : (ms : List MachineData) (s : State) → ((m : MachineData) → Memᴰ m ms → Directed m) → (all_committed ms s).kept.directions ≡ s.kept.directions
unfolding all_committed
all_on [] s h = refl
all_on (m ∷ ms) s h =
    all_on ms (committed m s) (λ l e. h l (Memᴰ.tail e)) ∙ commit_directions m s
    ∙ ap (λ (f : Bool). cond f s.kept.directions no_directions) (h m (Memᴰ.head refl))

none_stays : (f : Bool) (x : Directions) → x ≡ no_directions → cond f x no_directions ≡ no_directions
none_stays true x e = e
none_stays false x e = refl

all_none : (ms : List MachineData) (s : State) → s.kept.directions ≡ no_directions → (all_committed ms s).kept.directions ≡ no_directions
unfolding all_committed
all_none [] s e = e
all_none (m ∷ ms) s e = all_none ms (committed m s) (commit_directions m s ∙ none_stays (function_of m.values 5) s.kept.directions e)

all_end : (ms : List MachineData) (s : State) (m : MachineData) → Memᴰ m ms → Undirected m → (all_committed ms s).kept.directions ≡ no_directions
unfolding all_committed
all_end [] s m e f = absurd (elim e [ ])
all_end (l ∷ ls) s m e f = go (Memᴰ.cases_cons e) (λ k. all_end ls (committed l s) m k f)
  where
    go : (m ≡ l) ⊎ Memᴰ m ls → (Memᴰ m ls → (all_committed ls (committed l s)).kept.directions ≡ no_directions) →
        (all_committed ls (committed l s)).kept.directions ≡ no_directions
    go (inl q) rest =
        all_none ls (committed l s)
        (commit_directions l s ∙ ap (λ (f : Bool). cond f s.kept.directions no_directions) (sym (ap (λ (x : MachineData). function_of x.values 5) q) ∙ f))
    go (inr k) rest = rest k

-- ---- a history

module _ (m : MachineData) (commits : ℕ → List MachineData) (cs : ℕ → Given) where
  abbrev L : ℕ → MachineData
  L = list_in m commits

  abbrev S : ℕ → State
  S = before m commits cs

  begins_none : (c : ℕ) → Begins commits c → found m commits cs c ≡ no_directions
  unfolding before
  begins_none c at_first = all_none (commits 0) fresh_state refl
  begins_none zero (ended {m = l} e f) = all_end (commits 0) fresh_state l e f
  begins_none (suc c) (ended {m = l} e f) = all_end (commits (suc c)) (next (L c) (S c) (cs c)) l e f

  module _ (c i : ℕ) (from : From commits c i) where
    abbrev Lc : ℕ → MachineData
    Lc = list_from m commits cs c

    abbrev Gc : ℕ → Given
    Gc = given_from m commits cs c

    cycle_directions : (j : ℕ) → found m commits cs (c + j) ≡ directions_at Lc Gc j → left m commits cs (c + j) ≡ directions_at Lc Gc (suc j)
    unfolding directions_at
    cycle_directions j e =
        next_directions (L (c + j)) (S (c + j)) (cs (c + j))
        ∙ ap (λ x. cond (watching_in Lc Gc j) (directions_next (Lc j).values (Gc j).reading x) x) e

    passed : (n : ℕ) → ((l : MachineData) → Memᴰ l (commits (suc n)) → Directed l) → found m commits cs (suc n) ≡ left m commits cs n
    unfolding before
    passed n h = all_on (commits (suc n)) (next (L n) (S n) (cs n)) h

    directions_at_lem : (j : ℕ) → j ≤ i → found m commits cs (c + j) ≡ directions_at Lc Gc j
    unfolding directions_at
    directions_at_lem zero h = let e : c ≡ c + 0 = omega arith in subst (λ n. found m commits cs n ≡ no_directions) e (begins_none c from.begins)
    directions_at_lem (suc j) h =
        let e : suc (c + j) ≡ c + suc j = omega arith in
        subst (λ n. found m commits cs n ≡ directions_at Lc Gc (suc j)) e
        (passed (c + j) (from.goes_on (suc (c + j)) (omega arith) (omega (arith, h))) ∙ cycle_directions j (directions_at_lem j (omega (arith, h))))

    left_at : left m commits cs (c + i) ≡ directions_at Lc Gc (suc i)
    left_at = cycle_directions i (directions_at_lem i (omega arith))

    stands_at_lem : (cause_of 14 (rows_of (L (c + i)) (S (c + i)) (cs (c + i)))).stands ≡ overstepped_at Lc Gc i
    stands_at_lem =
        stands_14 (L (c + i)) (S (c + i)) (cs (c + i)) ∙ ap (λ x. watching_in Lc Gc i && overstepped (Lc i).values (position_in Lc Gc i) x) left_at

    -- a watch that stands has an extreme
    watched : (sign : Sign) → T (is_some (direction_before Lc Gc sign (suc i)).watch) → WatchedAfter m commits cs sign (c + i)
    watched sign t = subst (λ x. (e : ℤ) × ((of_sign sign x).watch ≡ Some e)) (sym left_at) (extreme_of (direction_before Lc Gc sign (suc i)).watch t)
      where
        extreme_of : (w : Option ℤ) → T (is_some w) → (e : ℤ) × (w ≡ Some e)
        extreme_of None t = absurd t
        extreme_of (Some e) t = (e, refl)

    stands_if : (sign : Sign) → WatchedAfter m commits cs sign (c + i) → T (is_some (direction_before Lc Gc sign (suc i)).watch)
    stands_if sign w = subst (λ x. T (is_some (of_sign sign x).watch)) left_at (subst (λ (x : Option ℤ). T (is_some x)) (sym w.1) tt)

pub cause_14 : Cause14
cause_14 m commits cs c i from =
    let e = stands_at_lem m commits cs c i from in
    (λ t. overstepped_there _ _ i (subst T e t), λ o. subst T (sym e) (overstepped_back _ _ i o))

pub watch_stands : WatchStands
watch_stands m commits cs c i from sign =
    (λ w. set_watch _ _ sign i (stands_if m commits cs c i from sign w), λ x. watched m commits cs c i from sign (watch_set _ _ sign i x))

pub watch_runs : WatchRuns
watch_runs m commits cs c i from t one u sign =
    (λ w. watch_running _ _ i t one sign u (stands_if m commits cs c i from sign w), λ r. watched m commits cs c i from sign (running_watch _ _ i t one sign r))

-- ---- without the function

module _ (m : MachineData) (commits : ℕ → List MachineData) (cs : ℕ → Given) where
  abbrev Off5 : MachineData → State → Type 0
  Off5 l s = Undirected l → s.kept.directions ≡ no_directions

  all_off : (ms : List MachineData) (l : MachineData) (s : State) → Off5 l s → Off5 (last_of l ms) (all_committed ms s)
  unfolding last_of all_committed
  all_off [] l s h = h
  all_off (k ∷ ms) l s h =
      all_off ms k (committed k s) (λ e. commit_directions k s ∙ ap (λ (f : Bool). cond f s.kept.directions no_directions) e)

  next_off : (l : MachineData) (s : State) (g : Given) → Off5 l s → Off5 l (next l s g)
  next_off l s g h e =
      let unmoved : moves l s g ≡ false = ap (λ (f : Bool). usable_of l g.reading && f) e ∙ and_false (usable_of l g.reading) in
      next_directions l s g ∙ ap (λ (b : Bool). cond b (directions_next l.values g.reading s.kept.directions) s.kept.directions) unmoved ∙ h e

  off_at : (n : ℕ) → Off5 (list_in m commits n) (before m commits cs n)
  unfolding list_in before
  off_at zero = all_off (commits 0) m fresh_state (λ _. refl)
  off_at (suc n) = all_off (commits (suc n)) (list_in m commits n) _ (next_off (list_in m commits n) (before m commits cs n) (cs n) (off_at n))

pub none_stands : NoneStands
none_stands m commits cs n e =
    (off_at m commits cs n e, next_off m commits cs (list_in m commits n) (before m commits cs n) (cs n) (off_at m commits cs n) e)

-- ---- every cycle is counted from some such cycle

-- one of the lists has not the function, or all have it
ended_or_not : (ms : List MachineData) → ((m : MachineData) × Memᴰ m ms × Undirected m) ⊎ ((m : MachineData) → Memᴰ m ms → Directed m)
ended_or_not [] = inr (λ m e. absurd (elim e [ ]))
ended_or_not (l ∷ ls) = go (function_of l.values 5) refl (ended_or_not ls)
  where
    each : Directed l → ((m : MachineData) → Memᴰ m ls → Directed m) → (m : MachineData) → (m ≡ l) ⊎ Memᴰ m ls →
        Directed m
    each f h m (inl q) = ap (λ (x : MachineData). function_of x.values 5) q ∙ f
    each f h m (inr e) = h m e

    go : (f : Bool) → function_of l.values 5 ≡ f →
        ((m : MachineData) × Memᴰ m ls × Undirected m) ⊎ ((m : MachineData) → Memᴰ m ls → Directed m) →
        ((m : MachineData) × Memᴰ m (l ∷ ls) × Undirected m) ⊎ ((m : MachineData) → Memᴰ m (l ∷ ls) → Directed m)
    go false q rest = inl (l, Memᴰ.head refl, q)
    go true q (inl x) = inl (x.0, Memᴰ.tail x.1, x.2)
    go true q (inr h) = inr (λ m e. each q h m (Memᴰ.cases_cons e))

pub reached : Reached
reached commits zero = (0, 0, refl, record { begins = at_first; goes_on = λ k a b. absurd (omega arith) })
reached commits (suc n) = go (ended_or_not (commits (suc n))) (reached commits n)
  where
    go : ((m : MachineData) × Memᴰ m (commits (suc n)) × Undirected m) ⊎ ((m : MachineData) → Memᴰ m (commits (suc n)) → Directed m) →
        (c : ℕ) × (i : ℕ) × (c + i ≡ n) × From commits c i → (c : ℕ) × (i : ℕ) × (c + i ≡ suc n) × From commits c i
    go (inl x) r = (suc n, 0, omega arith, record { begins = ended x.1 x.2; goes_on = λ k a b. absurd (omega arith) })
    go (inr h) (c, i, e, from) = (
      c,
      suc i,
      omega (arith, e),
      record {
        begins = from.begins;
        goes_on = λ k a b.
            by_cases (dec_le k (c + i)) (λ l. from.goes_on k a l)
            (λ l. let q : suc n ≡ k = omega (arith, a, b, l, e) in subst (λ j. (m : MachineData) → Memᴰ m (commits j) → Directed m) q h);
      },
    )
