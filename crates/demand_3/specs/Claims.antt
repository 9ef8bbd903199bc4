-- The claims of demand 3 over numbered cycles: document 01, "The runs of demand 3", W2, W6 and W7. They speak of four functions of a cycle's number, from 0:
-- `L n` is the list in force in cycle n, `S n` the state that the cycle finds, `G n` what it is given, and `commits n` are the lists that are committed
-- straight before it. Ranks, causes and data of a cycle go by its own list.
use Rattle.std.specs.Prelude.{ℕ, suc, ◌+◌, ◌-◌, ◌≤◌, ◌<◌, max, Bool, false, not, cond, ◌||◌, ◌⊎◌, ◌≡◌, T, eqb, get_or}
use mathlib.Core.List.{List, [], ◌∷◌, Memᴰ}
use Rattle.bits.specs.Bits.{bit_of, field_of}
use Rattle.machine_data.specs.declared.MachineData.{MachineData}
use Rattle.machine_data.specs.Data.{number_of}
use Rattle.runs.specs.Running.{All, usable_before, window}
use Rattle.usable_inputs.specs.Usable.{usable_of}
use Rattle.selection.specs.declared.Selection.{Selection}
use Rattle.selection.specs.declared.Selection.TheVariants.{Nothing, Sg, Sbh}
use Rattle.selection.specs.Selection.{selected_of, stricter, is_effective}
use Rattle.rank.specs.declared.Rank.{Rank}
use Rattle.rank.specs.declared.Rank.TheVariants.{None}
use Rattle.rank.specs.Rank.{rank_number, time_of}
use Rattle.stop.specs.Stop.{rank_of}
use Rattle.causes.specs.declared.Cause.{Cause}
use Rattle.causes.specs.Causes.{cause}
use Rattle.state.specs.declared.State.{State}
use Rattle.state.specs.declared.Given.{Given}
use Rattle.active.specs.Active.{active}
use Rattle.judge.specs.Causes.{rows_of}
use Rattle.commit.specs.Commit.{committed}
use Rattle.commit_laws.specs.NeverLowers.{count_of, NeverLowers}
use Rattle.channel.specs.Cycle.{clears_in, entered_in, next}
use Rattle.device.specs.Device.{word_rank}

-- "A limit in force is overstepped where cause 2, 3 or 4 stands"; W6: cause 14 "joins 2, 3 and 4 as a limit of demand 3"
abbrev pub is_limit : ℕ → Bool
is_limit x = eqb x 2 || eqb x 3 || eqb x 4 || eqb x 14

-- cause x in the table of a cycle; one that does not stand where the table has none
unfoldable pub cause_of : ℕ → List Cause → Cause
cause_of x [] = cause x false None
cause_of x (c ∷ cs) = cond (eqb c.code x) c (cause_of x cs)

-- "X or something stricter", by the limits of a list
abbrev pub AtLeast : MachineData → Selection → Selection → Type 0
AtLeast m x s = (s ≡ x) ⊎ T (stricter m.values s x)

-- the same by the order alone: X is not stricter than s
abbrev pub NoLaxer : MachineData → Selection → Selection → Type 0
NoLaxer m x s = T (not (stricter m.values x s))

-- "19-20 effective SG less one, else 0"
abbrev pub sg_less_one : Selection → ℕ
sg_less_one Nothing = 0
sg_less_one (Sg n o) = n
sg_less_one Sbh = 0

-- the ranks in the words: bits 24-26 of a channel word, where its layout has the rank, and bits 1-3 of a device word. The device reads a channel word's
-- rank with bit 2 besides (`word_rank`); of the words that the calls give both are one, as the claim `one_rank` says, so each claim holds by either.
abbrev pub rank_in_word : ℕ → ℕ
rank_in_word w = field_of w 24 8

abbrev pub rank_in_device : ℕ → ℕ
rank_in_device w = field_of w 1 8

-- W7: "falling counts above the new datum are cut to it": no count is above its datum in a list; one of a lowering that is cut to 0 stands at 1
pub record Within (m : MachineData) (s : State) : Type 0 where
  pub braking : count_of s.stop ≤ time_of m.values (rank_of s.stop)
  pub fault : s.kept.fault.left ≤ number_of m.values 34
  pub delay : s.kept.choice.left ≤ max 1 (number_of m.values 27)

module _ (L : ℕ → MachineData) (G : ℕ → Given) where
  -- what cycle n selects
  abbrev pub selected_in : ℕ → Selection
  selected_in n = selected_of (L n).values (G n).reading.inputs

  -- cycle n is usable
  abbrev pub usable_in : ℕ → Bool
  usable_in n = usable_of (L n) (G n).reading

  -- the usable cycle at place w, counted back from a usable cycle n at place 0; cycle 0 where there are fewer: the cycles counted are then the same for every
  -- greater w
  abbrev pub usable_at : ℕ → ℕ → ℕ
  usable_at n w = get_or (usable_before usable_in (suc n)) w 0

  -- "as many as datum 27 says": no more than w by the list in force in the first of the cycles counted; W7: or by one committed behind that cycle and before
  -- the next usable one
  pub data Waited (commits : ℕ → List MachineData) (n w : ℕ) : Type 0 where
    in_force : number_of (L (usable_at n w)).values 27 ≤ w → Waited commits n w
    cut_by : {k : ℕ} {m : MachineData} → usable_at n w < k → k ≤ usable_at n (w - 1) → Memᴰ m (commits k) → number_of m.values 27 ≤ w → Waited commits n w

module _ (L : ℕ → MachineData) (S : ℕ → State) (G : ℕ → Given) where
  -- the state that cycle n leaves
  abbrev pub state_after : ℕ → State
  state_after n = next (L n) (S n) (G n)

  -- cause x in cycle n, and that it stands there
  abbrev pub cause_in : ℕ → ℕ → Cause
  cause_in n x = cause_of x (rows_of (L n) (S n) (G n))

  abbrev pub Stands : ℕ → ℕ → Type 0
  Stands n x = T (cause_in n x).stands

  -- "A cycle clears if it is acknowledged and has no fresh cause"
  abbrev pub Clears : ℕ → Type 0
  Clears n = T (clears_in (L n) (S n) (G n))

  -- "Until one after cycle n clears": none after n and up to m does
  abbrev pub Uncleared : ℕ → ℕ → Type 0
  Uncleared n m = (i : ℕ) → n < i → i ≤ m → Clears i → ⊥

  -- the rank entered in cycle n
  abbrev pub entered : ℕ → Rank
  entered n = entered_in (L n) (S n) (G n)

  -- the selection that is effective in cycle n
  abbrev pub effective : ℕ → Selection
  effective n = (state_after n).kept.choice.effective

  -- F is on after cycle n
  abbrev pub FaultOn : ℕ → Type 0
  FaultOn n = T (state_after n).kept.fault.on

  -- W2: where cycle n is usable, "one of these is active" in it
  abbrev pub ActiveIn : ℕ → Type 0
  ActiveIn n = T (usable_of (L n) (G n).reading) → T (active (L n).values (effective n))

  -- "throughout": from n up to m
  abbrev pub ActiveFrom : ℕ → ℕ → Type 0
  ActiveFrom n m = (i : ℕ) → n ≤ i → i ≤ m → ActiveIn i

  -- W7: "cycle bounds read the list in force when a count was started, or cut (then from the next cycle)": a count that runs in cycle n is bounded by the
  -- list in force in n, from n on, and by each list that is committed behind n, from the next cycle on
  pub data Bounds (commits : ℕ → List MachineData) (n : ℕ) : ℕ → MachineData → Type 0 where
    in_force : Bounds commits n n (L n)
    cut_by : {i : ℕ} {m : MachineData} → n < i → Memᴰ m (commits i) → Bounds commits n i m

  -- `size` cycles, and the words given in each
  pub record Claims (commits : ℕ → List MachineData) (size : ℕ) (channel device : ℕ → ℕ) : Type 0 where
    -- "A limit in force is overstepped where cause 2, 3 or 4 stands", W6: or 14, "the device rank is then at least that cause's rank"
    pub overstepped : (n x : ℕ) → n < size → T (is_limit x) → Stands n x → rank_number (cause_in n x).rank ≤ rank_in_device (device n)
    -- "if C, D or E with time t is entered in n, the channel word has that rank and bit 27, or a greater rank, from n + t on", W7: or from a cut on
    pub held_in_time : (n m i : ℕ) (l : MachineData) (r : Rank) → m < size → 1 ≤ rank_number r → rank_number r ≤ 3 → entered n ≡ r → Bounds commits n i l →
        i + time_of l.values r ≤ m → Uncleared n m →
        ((rank_in_word (channel m) ≡ rank_number r) × T (bit_of (channel m) 27)) ⊎ (rank_number r < rank_in_word (channel m))
    -- "If cause 1 stands in n, the device rank is 5 from n on"
    pub unusable_off : (n m : ℕ) → m < size → Stands n 1 → n ≤ m → Uncleared n m → rank_in_device (device m) ≡ 5
    -- "If cause 9 stands in n, the device rank is 4 or 5 in n"
    pub moved_at_once : (n : ℕ) → n < size → Stands n 9 → (rank_in_device (device n) ≡ 4) ⊎ (rank_in_device (device n) ≡ 5)
    -- "and 5 from n + datum 32 on", W7: or from a cut on
    pub moved_off : (n m i : ℕ) (l : MachineData) → m < size → Stands n 9 → Bounds commits n i l → i + number_of l.values 32 ≤ m → Uncleared n m →
        rank_in_device (device m) ≡ 5
    -- so of every cycle n with rank 4 or 5, be it the one that starts B's count or a later one
    pub braking_ends : (n m i : ℕ) (l : MachineData) → m < size → 4 ≤ rank_in_word (channel n) → Bounds commits n i l → i + number_of l.values 32 ≤ m →
        Uncleared n m → rank_in_device (device m) ≡ 5
    -- "If cause 10 stands in n, the device rank is 5 from n + datum 34 + datum 32 on", W2: "for axes on which one of these is active throughout": datum 34 by
    -- what bounds a count in n, and datum 32 by what bounds one in the cycle that ends F's
    pub differing_off : (n m i j : ℕ) (f b : MachineData) → m < size → Stands n 10 → Bounds commits n i f →
        Bounds commits (i + number_of f.values 34) j b → j + number_of b.values 32 ≤ m → ActiveFrom n m → Uncleared n m → rank_in_device (device m) ≡ 5
    -- sharper: F is on in n, be it the cycle that starts its count or a later one, and one is active in one cycle, that of F's end or any later one, k: the
    -- channel's own rank is 4 or 5 in k, and so the device's, and 5 when B's count has ended. A count of F that was started before n, or one of B before F's
    -- end, is bounded by these with that cycle for n, and by `braking_ends`
    pub differing_on : (n : ℕ) → Stands n 10 → FaultOn n
    pub ended_at_once : (n k i : ℕ) (f : MachineData) → k < size → FaultOn n → Bounds commits n i f → i + number_of f.values 34 ≤ k → ActiveIn k →
        Uncleared n k → (4 ≤ rank_in_word (channel k)) × ((rank_in_device (device k) ≡ 4) ⊎ (rank_in_device (device k) ≡ 5))
    pub ended_off : (n k m i j : ℕ) (f b : MachineData) → m < size → FaultOn n → Bounds commits n i f → i + number_of f.values 34 ≤ k → ActiveIn k →
        Bounds commits k j b → j + number_of b.values 32 ≤ m → Uncleared n m → rank_in_device (device m) ≡ 5
    -- "Where a usable cycle and the last usable ones before it, as many as datum 27 says, all select X or something stricter, the effective selection in it is
    -- X or stricter", by the limits of any list, W7: so "under every list in force in the cycles counted"
    pub binds : (n w : ℕ) → n < size → T (usable_of (L n) (G n).reading) → Waited L G commits n w → (m : MachineData) (x : Selection) →
        All (λ i. AtLeast m x (selected_in L G i)) (window (usable_in L G) n w) → AtLeast m x (effective n)
    pub binds_by_order : (n w : ℕ) → n < size → T (usable_of (L n) (G n).reading) → Waited L G commits n w → (m : MachineData) (x : Selection) →
        All (λ i. NoLaxer m x (selected_in L G i)) (window (usable_in L G) n w) → NoLaxer m x (effective n)
    -- simpler and stronger: it is what one of these cycles selects
    pub one_of : (n w : ℕ) → n < size → T (usable_of (L n) (G n).reading) → Waited L G commits n w →
        (i : ℕ) × Memᴰ i (window (usable_in L G) n w) × (effective n ≡ selected_in L G i)
    -- "bits 0 and 19-20 of the channel word are those of the effective selection"
    pub shown : (n : ℕ) → n < size → (bit_of (channel n) 0 ≡ is_effective (effective n)) × (field_of (channel n) 19 4 ≡ sg_less_one (effective n))
    -- "The device rank is never below the channel word's"
    pub not_weaker : (n : ℕ) → n < size → rank_in_word (channel n) ≤ rank_in_device (device n)
    -- "which is lower than in the cycle before only in a cycle that clears", whatever is committed between the two
    pub falls_cleared : (n : ℕ) → suc n < size → rank_in_word (channel (suc n)) < rank_in_word (channel n) → Clears (suc n)
    -- "Where the device rank is 5, bit 0 of the device word is 0"
    pub pulses_off : (n : ℕ) → n < size → rank_in_device (device n) ≡ 5 → bit_of (device n) 0 ≡ false
    -- "a word's rank is 5 if bit 2 is set or bits 24-26 exceed 5"
    pub one_rank : (n : ℕ) → n < size → word_rank (channel n) ≡ rank_in_word (channel n)
    -- W7: "A commit never lowers a stop", of any list and in any state
    pub never_lowers : (m : MachineData) (s : State) → NeverLowers m s (committed m s)
    -- W7: no count is above its datum in the list in force, before a cycle and after it
    pub within_before : (n : ℕ) → Within (L n) (S n)
    pub within_after : (n : ℕ) → Within (L n) (state_after n)
